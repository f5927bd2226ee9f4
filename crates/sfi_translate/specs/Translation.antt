-- The translation of an image: the text that sfi_native.h gives a meaning in C.
use Rattle.std.specs.Prelude.{ℕ, List, ◌++◌, ℤ, codes, decimal, if◌then◌else◌, ◌≡◌, ◌+◌, [], ◌∷◌, length}
use Rattle.std.specs.Fmt.{signed_decimal}
use Rattle.rv_word.specs.declared.instr.Instr.{Instr}
use Rattle.rv_word.specs.declared.instr.Instr.TheVariants.{Op, OpImm, Load, Store, Branch, Jal, Jalr, Lui, Auipc, Fence, Ecall, Ebreak}
use Rattle.rv_word.specs.Spelling.{offset_by}
use Rattle.sfi_text.specs.Operands.{op_name, immediate_name, load_name, store_name, branch_name}
use Rattle.sfi_report.specs.Listing.{hex_digits, line_end}
use Rattle.std.specs.List.{flat_map}
use Rattle.sfi_formats.specs.declared.format.Format.{Format}
use Rattle.sfi_formats.specs.Formats.{has_single_mask, unit}
use Rattle.sfi_image.specs.Spelling.{Part}
use Rattle.sfi_image.specs.declared.part.Gate.{Gate}
use Rattle.sfi_translate.specs.Lines.{Line, Function, End, Entry, Head, Does, is_far, AreLines}

-- ==== The lines of a translated image: a form, and in brackets what it is about, joined by commas.

-- ---- parts of a line

-- the form, the address in eight digits, the size
unfoldable pub opening : List ℕ → ℕ → ℕ → List ℕ
opening form at size = form ++ codes "(" ++ hex_digits 8 at ++ codes "," ++ decimal size

-- a name
unfoldable pub name_field : List ℕ → List ℕ
name_field name = codes "," ++ name

-- a register, or another number that is never negative
unfoldable pub number_field : ℕ → List ℕ
number_field n = codes "," ++ decimal n

-- a number that may be negative
unfoldable pub signed_field : ℤ → List ℕ
signed_field z = codes "," ++ signed_decimal z

-- an address
unfoldable pub address_field : ℕ → List ℕ
address_field at = codes "," ++ hex_digits 8 at

-- the end
unfoldable pub closing : List ℕ
closing = codes ")" ++ line_end

-- ---- jumps

-- what stands after the form of a jump from `at`: the target lies in the same function, or in
-- another
unfoldable pub far : ℕ → ℕ → List ℕ
far at to = if is_far at to then codes "_FAR" else codes ""

-- ---- the line of an instruction of that size at that address

unfoldable pub line_text : ℕ → ℕ → Instr → List ℕ
line_text at size (Op op rd rs1 rs2) =
    opening (codes "OP") at size ++ name_field (op_name op)
    ++ number_field rd ++ number_field rs1 ++ number_field rs2 ++ closing
line_text at size (OpImm op rd rs1 imm) =
    opening (codes "OPI") at size ++ name_field (immediate_name op)
    ++ number_field rd ++ number_field rs1 ++ signed_field imm ++ closing
line_text at size (Load kind rd rs1 imm) =
    opening (codes "LOAD") at size ++ name_field (load_name kind)
    ++ number_field rd ++ number_field rs1 ++ signed_field imm ++ closing
line_text at size (Store width rs1 rs2 imm) =
    opening (codes "STORE") at size ++ name_field (store_name width)
    ++ number_field rs1 ++ number_field rs2 ++ signed_field imm ++ closing
line_text at size (Branch cond rs1 rs2 offset) =
    opening (codes "BRANCH" ++ far at (offset_by at offset)) at size
    ++ name_field (branch_name cond)
    ++ number_field rs1 ++ number_field rs2 ++ address_field (offset_by at offset) ++ closing
line_text at size (Jal rd offset) =
    opening (codes "JAL" ++ far at (offset_by at offset)) at size
    ++ number_field rd ++ address_field (offset_by at offset) ++ closing
line_text at size (Jalr rd rs1 imm) =
    opening (codes "JALR") at size
    ++ number_field rd ++ number_field rs1 ++ signed_field imm ++ closing
line_text at size (Lui rd imm) =
    opening (codes "LUI") at size ++ number_field rd ++ number_field imm ++ closing
line_text at size (Auipc rd imm) =
    opening (codes "AUIPC") at size ++ number_field rd ++ number_field imm ++ closing
line_text at size (Fence imm rd rs1) = opening (codes "FENCE") at size ++ closing
line_text at size Ecall = opening (codes "ECALL") at size ++ closing
line_text at size Ebreak = opening (codes "EBREAK") at size ++ closing

-- ---- other lines

-- a form and an address
unfoldable pub address_line : List ℕ → ℕ → List ℕ
address_line form at = form ++ codes "(" ++ hex_digits 8 at ++ closing

-- a function of the sandbox begins
unfoldable pub function_line : ℕ → ℕ → List ℕ
function_line sandbox at = codes "FUNCTION(" ++ decimal sandbox ++ address_field at ++ closing

-- ---- any line of code

-- its text
abbrev pub spell : Line → List ℕ
spell (Function sandbox at) = function_line sandbox at
spell (End at) = address_line (codes "END") at
spell (Entry at) = address_line (codes "ENTRY") at
spell (Head at) = address_line (codes "HEAD") at
spell (Does at size i) = line_text at size i

-- the texts of lines, one after another
abbrev pub spelled : List Line → List ℕ
spelled lines = flat_map spell lines

-- the lines of the sandbox's code, spelled
pub record IsCodeText (sandbox : ℕ) (p : Part) (text : List ℕ) : Type 0 where
  pub lines : List Line
  pub lines_are : AreLines sandbox p lines
  pub text_is : text ≡ spelled lines

-- ==== The translation of an image: the text that sfi_native.h gives a meaning in C.

-- ---- of a sandbox

-- what stands after the form of its first line: whether masks are single, where x26 has no one value
unfoldable pub masks : Format → List ℕ
masks f = if has_single_mask f then codes "_SINGLE" else codes ""

-- its number, the unit of its code, and its fields
abbrev pub sandbox_line : ℕ → Part → List ℕ
sandbox_line sandbox p =
    codes "SANDBOX" ++ masks p.format ++ codes "(" ++ decimal sandbox ++ number_field (unit p.format)
    ++ address_field p.code_base ++ number_field (length p.code)
    ++ address_field p.data_base ++ number_field p.data_size
    ++ address_field p.start ++ number_field (length p.gates) ++ number_field (length p.init) ++ closing

-- a gate
abbrev pub gate_line : Gate → List ℕ
gate_line g =
    codes "GATE(" ++ hex_digits 8 g.address ++ number_field g.service ++ closing

-- its first data, and a zero
abbrev pub data_line : ℕ → List ℕ → List ℕ
data_line sandbox bytes =
    codes "DATA(" ++ decimal sandbox ++ flat_map number_field bytes ++ number_field 0 ++ closing

-- the end of its last function, and of the sandbox
abbrev pub last_line : List ℕ
last_line = codes "LAST" ++ line_end

-- its fields, its gates, its first data, its code
pub record IsSandboxText (sandbox : ℕ) (p : Part) (text : List ℕ) : Type 0 where
  pub code : List ℕ
  pub code_is : IsCodeText sandbox p code
  pub text_is : text ≡ sandbox_line sandbox p ++ flat_map gate_line p.gates
      ++ data_line sandbox p.init ++ code ++ last_line

-- ---- of an image

-- the text of parts, the first of which is that of sandbox `sandbox`
abbrev pub IsTranslationFrom : ℕ → List Part → List ℕ → Type 0
IsTranslationFrom sandbox [] text = text ≡ []
IsTranslationFrom sandbox (p ∷ ps) text =
    (front : List ℕ) × (rest : List ℕ) × IsSandboxText sandbox p front
    × IsTranslationFrom (sandbox + 1) ps rest × (text ≡ front ++ rest)

-- the translation of an image with these parts
abbrev pub IsTranslation : List Part → List ℕ → Type 0
IsTranslation ps text = IsTranslationFrom 0 ps text
