-- What the text of one instruction means, and how it is printed.
use Rattle.std.specs.Prelude.{◌≡◌, ℕ, ◌⊎◌, List, [], ◌∷◌, ℤ, pos, false, ◌++◌, codes}
use Rattle.rv_word.specs.declared.instr.Instr.{Instr}
use Rattle.rv_word.specs.declared.instr.Instr.TheVariants as instr
use Rattle.sfi_formats.specs.declared.format.Format.TheVariants.{Sfi1, Sfi2, Sfiw, Sfis}
use Rattle.sfi_text.specs.declared.cause.TextCause.{TextCause}
use Rattle.sfi_text.specs.declared.cause.TextCause.TheVariants as cause
use Rattle.sfi_text.specs.declared.mnemonic.Mnemonic.{Mnemonic}
use Rattle.sfi_text.specs.declared.mnemonic.Mnemonic.TheVariants as mnemonic
use Rattle.sfi_text.specs.Tokens.{Takes, IsBlank, AreTokens, x_name}
use Rattle.sfi_source.specs.Names.{IsName}
use Rattle.sfi_text.specs.Operands.{name_of, operand_parts, OperandValues, HasForm, Unformed, Missing, Departs, mode_name}
use Rattle.std.specs.List.{flat_map}
use Rattle.std.specs.Fmt.{signed_decimal, digits}
use Rattle.sfi_formats.specs.declared.format.Format.{Format}
use Rattle.sfi_text.specs.declared.form.NumberKind.{NumberKind}
use Rattle.sfi_text.specs.declared.form.NumberKind.TheVariants.{Upper}
use Rattle.sfi_text.specs.declared.form.OperandPart.{OperandPart}
use Rattle.sfi_text.specs.declared.form.OperandPart.TheVariants.{Rd, Rs1, Rs2, Number, Name, Mode, ImageFormat, Comma, Open, Close}

-- ==== What the text of one instruction means.

-- an instruction's mnemonic
abbrev pub mnemonic_of : Instr → Mnemonic
mnemonic_of (instr.Op op rd rs1 rs2) = mnemonic.Op op
mnemonic_of (instr.OpImm op rd rs1 imm) = mnemonic.OpImm op
mnemonic_of (instr.Load kind rd rs1 imm) = mnemonic.Load kind
mnemonic_of (instr.Store width rs1 rs2 imm) = mnemonic.Store width
mnemonic_of (instr.Branch cond rs1 rs2 offset) = mnemonic.Branch cond
mnemonic_of (instr.Jal rd offset) = mnemonic.Jal
mnemonic_of (instr.Jalr rd rs1 imm) = mnemonic.Jalr
mnemonic_of (instr.Lui rd imm) = mnemonic.Lui
mnemonic_of (instr.Auipc rd imm) = mnemonic.Auipc
mnemonic_of (instr.Fence imm rd rs1) = mnemonic.Fence
mnemonic_of instr.Ecall = mnemonic.Ecall
mnemonic_of instr.Ebreak = mnemonic.Ebreak

-- operands of these registers and this number
abbrev pub operands : ℕ → ℕ → ℕ → ℤ → OperandValues
operands rd rs1 rs2 number =
    record { rd = rd; rs1 = rs1; rs2 = rs2; number = number; name = []; compressed = false; format = Sfi1 }

-- an instruction's operands; those that its form lacks are 0 or none
abbrev pub operands_of : Instr → OperandValues
operands_of (instr.Op op rd rs1 rs2) = operands rd rs1 rs2 (pos 0)
operands_of (instr.OpImm op rd rs1 imm) = operands rd rs1 0 imm
operands_of (instr.Load kind rd rs1 imm) = operands rd rs1 0 imm
operands_of (instr.Store width rs1 rs2 imm) = operands 0 rs1 rs2 imm
operands_of (instr.Branch cond rs1 rs2 offset) = operands 0 rs1 rs2 offset
operands_of (instr.Jal rd offset) = operands rd 0 0 offset
operands_of (instr.Jalr rd rs1 imm) = operands rd rs1 0 imm
operands_of (instr.Lui rd imm) = operands rd 0 0 (pos imm)
operands_of (instr.Auipc rd imm) = operands rd 0 0 (pos imm)
operands_of (instr.Fence imm rd rs1) = operands rd rs1 0 (pos imm)
operands_of instr.Ecall = operands 0 0 0 (pos 0)
operands_of instr.Ebreak = operands 0 0 0 (pos 0)

-- what a fence without operands means: from every access to every access
abbrev pub full_fence : Instr
full_fence = instr.Fence 255 0 0

-- the tokens are the name and the operands of `i`; a full fence may leave out its operands
abbrev pub Spells : Instr → List (List ℕ) → Type 0
Spells i [] = ⊥
Spells i (name ∷ tokens) =
    (name ≡ name_of (mnemonic_of i))
    × (HasForm (operands_of i) (operand_parts (mnemonic_of i)) tokens
    ⊎ ((i ≡ full_fence) × (tokens ≡ [])))

-- the text means the instruction
abbrev pub Means : List ℕ → Instr → Type 0
Means text i = (tokens : List (List ℕ)) × AreTokens text tokens × Spells i tokens

-- an instruction's `name` with `rest` after it is a fence without operands
abbrev pub IsBareFence : Mnemonic → List ℕ → Type 0
IsBareFence name rest = (name ≡ mnemonic.Fence) × IsBlank rest

-- `rest` doesn't give the operands of the instruction `name`, which is no fence without operands:
-- `e` is the cause of its first token that departs
abbrev pub OperandsDepart : Mnemonic → List ℕ → TextCause → Type 0
OperandsDepart name rest e = (IsBareFence name rest → ⊥) × Departs (operand_parts name) rest e

-- `token` is a name that no instruction has; it may be a pseudo-instruction's
abbrev pub IsUnknown : List ℕ → Type 0
IsUnknown token = IsName token × ((m : Mnemonic) → name_of m ≡ token → ⊥)

-- the text of `token` and the rest after it is refused for cause `e`
abbrev pub RefusedAt : List ℕ → List ℕ → TextCause → Type 0
RefusedAt token rest e =
    ((IsName token → ⊥) × (e ≡ cause.Operands))
    ⊎ ((IsUnknown token × (e ≡ cause.Word))
    ⊎ ((m : Mnemonic) × (name_of m ≡ token) × OperandsDepart m rest e))

-- `text` means no instruction: `e` is the cause of its first token that departs from one
abbrev pub Refused : List ℕ → TextCause → Type 0
Refused text e =
    Unformed text e
    ⊎ (Missing text e
    ⊎ ((token : List ℕ) × (rest : List ℕ) × Takes text token rest × RefusedAt token rest e))

-- ==== The text of a printed instruction.

-- those of lui and auipc, which are never negative, are `0x` and lower hexadecimal, without leading
-- zeros; numbers of any other kind are decimal, with `-` where negative
abbrev pub number_text : NumberKind → ℤ → List ℕ
number_text Upper (pos n) = codes "0x" ++ digits 16 false n
number_text kind z = signed_decimal z

-- a format is its number, or `words`
abbrev pub format_name : Format → List ℕ
format_name Sfi1 = codes "1"
format_name Sfi2 = codes "2"
format_name Sfiw = codes "words"
format_name Sfis = codes "single"

-- registers are x0 to x31, and a space follows a comma
abbrev pub part_text : OperandValues → OperandPart → List ℕ
part_text o Rd = x_name o.rd
part_text o Rs1 = x_name o.rs1
part_text o Rs2 = x_name o.rs2
part_text o (Number kind) = number_text kind o.number
part_text o Name = o.name
part_text o Mode = mode_name o.compressed
part_text o ImageFormat = format_name o.format
part_text o Comma = codes ", "
part_text o Open = codes "("
part_text o Close = codes ")"

-- the operands after a space, or nothing where there are none
abbrev pub operands_text : OperandValues → List OperandPart → List ℕ
operands_text o [] = []
operands_text o (part ∷ form) = codes " " ++ flat_map (part_text o) (part ∷ form)

-- a statement's text: its name and its operands
abbrev pub statement_text : Mnemonic → OperandValues → List ℕ
statement_text name o = name_of name ++ operands_text o (operand_parts name)

-- the text of an instruction
abbrev pub printed : Instr → List ℕ
printed i = statement_text (mnemonic_of i) (operands_of i)
