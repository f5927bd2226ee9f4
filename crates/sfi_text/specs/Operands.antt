-- Mnemonics, and the operands that follow each.
use Rattle.std.specs.Prelude.{ℕ, List, codes, ◌≡◌, [], ◌∷◌, ℤ, pos, negsuc, if◌then◌else◌, ◌≤◌, ◌⊎◌, Bool, true, false, length}
use Rattle.rv_word.specs.declared.instr.RegOp.{RegOp}
use Rattle.rv_word.specs.declared.instr.RegOp.TheVariants.{Add, Sub, Sll, Slt, Sltu, Xor, Srl, Sra, Or, And, Mul, Mulh, Mulhsu, Mulhu, Div, Divu, Rem, Remu}
use Rattle.rv_word.specs.declared.instr.ImmOp.{ImmOp}
use Rattle.rv_word.specs.declared.instr.ImmOp.TheVariants.{Addi, Slti, Sltiu, Xori, Ori, Andi, Slli, Srli, Srai}
use Rattle.rv_word.specs.declared.instr.LoadKind.{LoadKind}
use Rattle.rv_word.specs.declared.instr.LoadKind.TheVariants.{Lb, Lh, Lw, Lbu, Lhu}
use Rattle.rv_word.specs.declared.instr.StoreWidth.{StoreWidth}
use Rattle.rv_word.specs.declared.instr.StoreWidth.TheVariants.{Sb, Sh, Sw}
use Rattle.rv_word.specs.declared.instr.Cond.{Cond}
use Rattle.rv_word.specs.declared.instr.Cond.TheVariants.{Beq, Bne, Blt, Bge, Bltu, Bgeu}
use Rattle.sfi_text.specs.declared.mnemonic.Mnemonic.{Mnemonic}
use Rattle.sfi_text.specs.declared.mnemonic.Mnemonic.TheVariants as mnemonic
use Rattle.rv_word.specs.Spelling.{IsBetween, is_shift, IsImm12, IsBranchOffset, IsJumpOffset}
use Rattle.sfi_formats.specs.Limits.{source_data_most, service_most, name_most}
use Rattle.sfi_source.specs.Source.{IsDataSize}
use Rattle.sfi_text.specs.declared.form.NumberKind.{NumberKind}
use Rattle.sfi_text.specs.declared.form.NumberKind.TheVariants.{Immediate, ShiftAmount, BranchOffset, JumpOffset, Upper, FenceFields, DataSize, Service, Word, Half, Byte, ZeroCount}
use Rattle.sfi_text.specs.declared.form.OperandPart.{OperandPart}
use Rattle.sfi_text.specs.declared.form.OperandPart.TheVariants.{Rd, Rs1, Rs2, Number, Comma, Open, Close, Name, Mode, ImageFormat}
use Rattle.sfi_text.specs.declared.cause.TextCause.{TextCause}
use Rattle.sfi_text.specs.declared.cause.TextCause.TheVariants as cause
use Rattle.sfi_formats.specs.declared.format.Format.{Format}
use Rattle.sfi_formats.specs.declared.format.Format.TheVariants.{Sfi1, Sfi2, Sfiw, Sfis}
use Rattle.sfi_text.specs.Tokens.{IsNumber, is_too_long, Takes, IsBlank, IsStuck, IsRegister}
use Rattle.sfi_source.specs.Names.{IsLabel}

-- ==== The names of the instructions. RISC-V Unprivileged ISA, chapter "RV32/64G Instruction Set
-- Listings".

-- computations on two registers
abbrev pub op_name : RegOp → List ℕ
op_name Add = codes "add"
op_name Sub = codes "sub"
op_name Sll = codes "sll"
op_name Slt = codes "slt"
op_name Sltu = codes "sltu"
op_name Xor = codes "xor"
op_name Srl = codes "srl"
op_name Sra = codes "sra"
op_name Or = codes "or"
op_name And = codes "and"
op_name Mul = codes "mul"
op_name Mulh = codes "mulh"
op_name Mulhsu = codes "mulhsu"
op_name Mulhu = codes "mulhu"
op_name Div = codes "div"
op_name Divu = codes "divu"
op_name Rem = codes "rem"
op_name Remu = codes "remu"

-- computations on an immediate
abbrev pub immediate_name : ImmOp → List ℕ
immediate_name Addi = codes "addi"
immediate_name Slti = codes "slti"
immediate_name Sltiu = codes "sltiu"
immediate_name Xori = codes "xori"
immediate_name Ori = codes "ori"
immediate_name Andi = codes "andi"
immediate_name Slli = codes "slli"
immediate_name Srli = codes "srli"
immediate_name Srai = codes "srai"

-- loads
abbrev pub load_name : LoadKind → List ℕ
load_name Lb = codes "lb"
load_name Lh = codes "lh"
load_name Lw = codes "lw"
load_name Lbu = codes "lbu"
load_name Lhu = codes "lhu"

-- stores
abbrev pub store_name : StoreWidth → List ℕ
store_name Sb = codes "sb"
store_name Sh = codes "sh"
store_name Sw = codes "sw"

-- branches
abbrev pub branch_name : Cond → List ℕ
branch_name Beq = codes "beq"
branch_name Bne = codes "bne"
branch_name Blt = codes "blt"
branch_name Bge = codes "bge"
branch_name Bltu = codes "bltu"
branch_name Bgeu = codes "bgeu"

-- an instruction's name
abbrev pub name_of : Mnemonic → List ℕ
name_of (mnemonic.Op op) = op_name op
name_of (mnemonic.OpImm op) = immediate_name op
name_of (mnemonic.Load kind) = load_name kind
name_of (mnemonic.Store width) = store_name width
name_of (mnemonic.Branch cond) = branch_name cond
name_of mnemonic.Jal = codes "jal"
name_of mnemonic.Jalr = codes "jalr"
name_of mnemonic.Lui = codes "lui"
name_of mnemonic.Auipc = codes "auipc"
name_of mnemonic.Fence = codes "fence"
name_of mnemonic.Ecall = codes "ecall"
name_of mnemonic.Ebreak = codes "ebreak"

-- ==== What stands after the name of each instruction, and which numbers may stand in a statement.

-- a number of this kind: one that the instruction's field, or the directive's, can hold
abbrev pub IsNumberOf : NumberKind → ℤ → Type 0
IsNumberOf Immediate z = IsImm12 z
IsNumberOf ShiftAmount z = IsBetween (pos 0) (pos 31) z
IsNumberOf BranchOffset z = IsBranchOffset z
IsNumberOf JumpOffset z = IsJumpOffset z
IsNumberOf Upper z = IsBetween (pos 0) (pos 1048575) z
IsNumberOf FenceFields z = IsBetween (pos 0) (pos 4095) z
IsNumberOf DataSize z = (size : ℕ) × (z ≡ pos size) × IsDataSize size
IsNumberOf Service z = IsBetween (pos 0) (pos service_most) z
IsNumberOf Word z = IsBetween (negsuc 2147483647) (pos 4294967295) z
IsNumberOf Half z = IsBetween (negsuc 32767) (pos 65535) z
IsNumberOf Byte z = IsBetween (negsuc 127) (pos 255) z
IsNumberOf ZeroCount z = IsBetween (pos 0) (pos source_data_most) z

-- a shift's amount, or an immediate of 12 bits
abbrev pub immediate_kind : ImmOp → NumberKind
immediate_kind op = if is_shift op then ShiftAmount else Immediate

-- the operands after the name, and the marks between them
abbrev pub operand_parts : Mnemonic → List OperandPart
operand_parts (mnemonic.Op op) = Rd ∷ Comma ∷ Rs1 ∷ Comma ∷ Rs2 ∷ []
operand_parts (mnemonic.OpImm op) = Rd ∷ Comma ∷ Rs1 ∷ Comma ∷ Number (immediate_kind op) ∷ []
operand_parts (mnemonic.Load kind) = Rd ∷ Comma ∷ Number Immediate ∷ Open ∷ Rs1 ∷ Close ∷ []
operand_parts (mnemonic.Store width) = Rs2 ∷ Comma ∷ Number Immediate ∷ Open ∷ Rs1 ∷ Close ∷ []
operand_parts (mnemonic.Branch cond) = Rs1 ∷ Comma ∷ Rs2 ∷ Comma ∷ Number BranchOffset ∷ []
operand_parts mnemonic.Jal = Rd ∷ Comma ∷ Number JumpOffset ∷ []
operand_parts mnemonic.Jalr = Rd ∷ Comma ∷ Number Immediate ∷ Open ∷ Rs1 ∷ Close ∷ []
operand_parts mnemonic.Lui = Rd ∷ Comma ∷ Number Upper ∷ []
operand_parts mnemonic.Auipc = Rd ∷ Comma ∷ Number Upper ∷ []
operand_parts mnemonic.Fence = Number FenceFields ∷ Comma ∷ Rd ∷ Comma ∷ Rs1 ∷ []
operand_parts mnemonic.Ecall = []
operand_parts mnemonic.Ebreak = []

-- ==== The operands of a statement, and the tokens that give them.

-- the operands of a statement: registers, a number, a name, whether `rvc` stands there, and a format
pub record OperandValues : Type 0 where
  pub rd : ℕ
  pub rs1 : ℕ
  pub rs2 : ℕ
  pub number : ℤ
  pub name : List ℕ
  pub compressed : Bool
  pub format : Format

-- the words after `.option`
abbrev pub mode_name : Bool → List ℕ
mode_name true = codes "rvc"
mode_name false = codes "norvc"

-- `token` says the format: 1 is SFI1, 2 is SFI2, `words` is SFIW, and `single` is SFIS
abbrev pub SaysFormat : List ℕ → Format → Type 0
SaysFormat token Sfi1 = IsNumber token (pos 1)
SaysFormat token Sfi2 = IsNumber token (pos 2)
SaysFormat token Sfiw = token ≡ codes "words"
SaysFormat token Sfis = token ≡ codes "single"

-- `token` stands at this part of a statement with the operands `o`
abbrev pub Stands : OperandValues → OperandPart → List ℕ → Type 0
Stands o Rd token = IsRegister token o.rd
Stands o Rs1 token = IsRegister token o.rs1
Stands o Rs2 token = IsRegister token o.rs2
Stands o (Number kind) token = IsNumber token o.number × IsNumberOf kind o.number
Stands o Name token = IsLabel token × (length token ≤ name_most) × (token ≡ o.name)
Stands o Mode token = token ≡ mode_name o.compressed
Stands o ImageFormat token = SaysFormat token o.format
Stands o Comma token = token ≡ codes ","
Stands o Open token = token ≡ codes "("
Stands o Close token = token ≡ codes ")"

-- `tokens` stand at the parts of `form`, one at each
abbrev pub HasForm : OperandValues → List OperandPart → List (List ℕ) → Type 0
HasForm o [] [] = Unit {0}
HasForm o (part ∷ form) (token ∷ tokens) = Stands o part token × HasForm o form tokens
HasForm o _ _ = ⊥

-- the cause for which `token` is refused where the name of a label or a gate should stand
abbrev pub label_cause : List ℕ → TextCause
label_cause token = if is_too_long token then cause.Limit else cause.Operands

-- the cause for which `token` is refused at this part
abbrev pub part_cause : OperandPart → List ℕ → TextCause
part_cause Rd token = cause.Register
part_cause Rs1 token = cause.Register
part_cause Rs2 token = cause.Register
part_cause (Number kind) token = cause.Number
part_cause Name token = label_cause token
part_cause ImageFormat token = cause.Number
part_cause _ token = cause.Operands

-- no token can be formed at the front of `text`, and `e` is the cause
abbrev pub Unformed : List ℕ → TextCause → Type 0
Unformed text e = IsStuck text × (e ≡ cause.Word)

-- `text` is blank where a token should stand, and `e` is the cause
abbrev pub Missing : List ℕ → TextCause → Type 0
Missing text e = IsBlank text × (e ≡ cause.Operands)

-- `text` begins with a token where none should stand, and `e` is the cause
abbrev pub Beyond : List ℕ → TextCause → Type 0
Beyond text e = (token : List ℕ) × (rest : List ℕ) × Takes text token rest × (e ≡ cause.Operands)

-- `token` can't stand at this part, and `e` is the cause
abbrev pub Differs : OperandPart → List ℕ → TextCause → Type 0
Differs part token e = ((o : OperandValues) → Stands o part token → ⊥) × (e ≡ part_cause part token)

-- `text` doesn't give the operands of `form`: `e` is the cause of its first token that departs
abbrev pub Departs : List OperandPart → List ℕ → TextCause → Type 0
Departs [] text e = Unformed text e ⊎ Beyond text e
Departs (part ∷ form) text e =
    Unformed text e
    ⊎ (Missing text e
    ⊎ ((token : List ℕ) × (rest : List ℕ) × Takes text token rest
    × (Differs part token e ⊎ ((o : OperandValues) × Stands o part token × Departs form rest e))))
