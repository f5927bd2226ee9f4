-- The statements of source: the name of each, what stands after it, and what it states.
-- RISC-V ISA manual, "RISC-V Assembly Programmer's Handbook", has the pseudo-instructions.
use Rattle.std.specs.Prelude.{ℕ, List, [], ◌∷◌, pos, unsigned_abs, replicate, codes, Bool, true, false}
use Rattle.rv_word.specs.declared.instr.Instr.TheVariants as instr
use Rattle.rv_word.specs.declared.instr.ImmOp.TheVariants.{Addi}
use Rattle.rv_word.specs.declared.instr.Cond.{Cond}
use Rattle.rv_word.specs.declared.instr.Cond.TheVariants.{Beq, Bne}
use Rattle.sfi_text.specs.declared.statement.Position.{Position}
use Rattle.sfi_text.specs.declared.statement.Position.TheVariants as position
use Rattle.sfi_text.specs.declared.keyword.Directive.{Directive}
use Rattle.sfi_text.specs.declared.keyword.Directive.TheVariants as directive
use Rattle.sfi_text.specs.declared.keyword.Pseudo.{Pseudo}
use Rattle.sfi_text.specs.declared.keyword.Pseudo.TheVariants.{Nop, Ret, Li, Mv, Jr, J, Call, Beqz, Bnez, La}
use Rattle.sfi_text.specs.declared.keyword.DataWidth.{DataWidth}
use Rattle.sfi_text.specs.declared.keyword.DataWidth.TheVariants as width
use Rattle.sfi_text.specs.declared.keyword.Keyword.{Keyword}
use Rattle.sfi_text.specs.declared.keyword.Keyword.TheVariants as keyword
use Rattle.sfi_text.specs.declared.form.NumberKind.{NumberKind}
use Rattle.sfi_text.specs.declared.form.NumberKind.TheVariants.{DataSize, Service, Word, Half, Byte, ZeroCount}
use Rattle.sfi_text.specs.declared.form.OperandPart.{OperandPart}
use Rattle.sfi_text.specs.declared.form.OperandPart.TheVariants.{Rd, Rs1, Rs2, Number, Name, Mode, ImageFormat, Comma}
use Rattle.sfi_text.specs.Operands.{name_of, OperandValues}
use Rattle.sfi_text.specs.SoFar.{constant, Stated, format, sandbox, within, gate, exported, imported, movable, compressed, data_part, bytes, plain, jump, address}

-- directives
abbrev pub directive_name : Directive → List ℕ
directive_name directive.Format = codes ".format"
directive_name directive.Sandbox = codes ".sandbox"
directive_name directive.Gate = codes ".gate"
directive_name directive.Option = codes ".option"
directive_name directive.Data = codes ".data"
directive_name directive.Zero = codes ".zero"
directive_name directive.Export = codes ".export"
directive_name directive.Import = codes ".import"
directive_name directive.Movable = codes ".movable"

abbrev pub directive_form : Directive → List OperandPart
directive_form directive.Format = ImageFormat ∷ []
directive_form directive.Sandbox = Number DataSize ∷ []
directive_form directive.Gate = Name ∷ Number Service ∷ []
directive_form directive.Option = Mode ∷ []
directive_form directive.Data = []
directive_form directive.Zero = Number ZeroCount ∷ []
directive_form directive.Export = Name ∷ []
directive_form directive.Import = Name ∷ Number Service ∷ []
directive_form directive.Movable = []

abbrev pub directive_states : Directive → OperandValues → Stated
directive_states directive.Format o = format o.format
directive_states directive.Sandbox o = sandbox (unsigned_abs o.number)
directive_states directive.Gate o = within (gate o.name (unsigned_abs o.number))
directive_states directive.Option o = within (compressed o.compressed)
directive_states directive.Data o = within data_part
directive_states directive.Zero o = within (bytes (replicate (unsigned_abs o.number) 0))
directive_states directive.Export o = within (exported o.name)
directive_states directive.Import o = within (imported o.name (unsigned_abs o.number))
directive_states directive.Movable o = within movable

-- pseudo-instructions
abbrev pub pseudo_name : Pseudo → List ℕ
pseudo_name Nop = codes "nop"
pseudo_name Ret = codes "ret"
pseudo_name Li = codes "li"
pseudo_name Mv = codes "mv"
pseudo_name Jr = codes "jr"
pseudo_name J = codes "j"
pseudo_name Call = codes "call"
pseudo_name Beqz = codes "beqz"
pseudo_name Bnez = codes "bnez"
pseudo_name La = codes "la"

abbrev pub pseudo_form : Pseudo → List OperandPart
pseudo_form Nop = []
pseudo_form Ret = []
pseudo_form Li = Rd ∷ Comma ∷ Number Word ∷ []
pseudo_form Mv = Rd ∷ Comma ∷ Rs1 ∷ []
pseudo_form Jr = Rs1 ∷ []
pseudo_form J = Name ∷ []
pseudo_form Call = Name ∷ []
pseudo_form Beqz = Rs1 ∷ Comma ∷ Name ∷ []
pseudo_form Bnez = Rs1 ∷ Comma ∷ Name ∷ []
pseudo_form La = Rd ∷ Comma ∷ Name ∷ []

abbrev pub pseudo_states : Pseudo → OperandValues → Stated
pseudo_states Nop o = within (plain (instr.OpImm Addi 0 0 (pos 0) ∷ []))
pseudo_states Ret o = within (plain (instr.Jalr 0 1 (pos 0) ∷ []))
pseudo_states Li o = within (plain (constant o.rd o.number))
pseudo_states Mv o = within (plain (instr.OpImm Addi o.rd o.rs1 (pos 0) ∷ []))
pseudo_states Jr o = within (plain (instr.Jalr 0 o.rs1 (pos 0) ∷ []))
pseudo_states J o = within (jump (instr.Jal 0 (pos 0)) o.name)
pseudo_states Call o = within (jump (instr.Jal 1 (pos 0)) o.name)
pseudo_states Beqz o = within (jump (instr.Branch Beq o.rs1 0 (pos 0)) o.name)
pseudo_states Bnez o = within (jump (instr.Branch Bne o.rs1 0 (pos 0)) o.name)
pseudo_states La o = within (address o.rd o.name)

-- the instructions that go to a name in a source
abbrev pub branch_form : List OperandPart
branch_form = Rs1 ∷ Comma ∷ Rs2 ∷ Comma ∷ Name ∷ []

abbrev pub branch_states : Cond → OperandValues → Stated
branch_states cond o = within (jump (instr.Branch cond o.rs1 o.rs2 (pos 0)) o.name)

abbrev pub jal_form : List OperandPart
jal_form = Rd ∷ Comma ∷ Name ∷ []

abbrev pub jal_states : OperandValues → Stated
jal_states o = within (jump (instr.Jal o.rd (pos 0)) o.name)

-- lists of data
abbrev pub data_name : DataWidth → List ℕ
data_name width.Word = codes ".word"
data_name width.Half = codes ".half"
data_name width.Byte = codes ".byte"

abbrev pub data_kind : DataWidth → NumberKind
data_kind width.Word = Word
data_kind width.Half = Half
data_kind width.Byte = Byte

-- the first word of a statement
abbrev pub keyword_name : Keyword → List ℕ
keyword_name (keyword.Instr name) = name_of name
keyword_name (keyword.Pseudo name) = pseudo_name name
keyword_name (keyword.Directive name) = directive_name name
keyword_name (keyword.Numbers width) = data_name width

-- where a statement of this name may come
abbrev pub position_of_keyword : Keyword → Position
position_of_keyword (keyword.Directive directive.Format) = position.Head
position_of_keyword (keyword.Directive directive.Sandbox) = position.Outside
position_of_keyword (keyword.Directive directive.Gate) = position.Gates
position_of_keyword (keyword.Directive directive.Export) = position.Gates
position_of_keyword (keyword.Directive directive.Import) = position.Gates
position_of_keyword (keyword.Directive directive.Movable) = position.Gates
position_of_keyword (keyword.Directive directive.Zero) = position.Data
position_of_keyword (keyword.Numbers width) = position.Data
position_of_keyword _ = position.Code

-- the language of the first format lacks the keyword
abbrev pub is_added : Keyword → Bool
is_added (keyword.Directive directive.Export) = true
is_added (keyword.Directive directive.Import) = true
is_added (keyword.Directive directive.Movable) = true
is_added _ = false

-- the statement adds a gate, and the gate's name stands after the keyword
abbrev pub makes_gate : Keyword → Bool
makes_gate (keyword.Directive directive.Gate) = true
makes_gate (keyword.Directive directive.Import) = true
makes_gate _ = false
