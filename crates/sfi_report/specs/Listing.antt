-- The listing of an image.
use Rattle.std.specs.Prelude.{ℕ, false, ◌+◌, ◌*◌, ◌-◌, List, [], ◌∷◌, ◌++◌, length, replicate, ◌≡◌, ◌⊎◌, codes, decimal, zero, suc, take, drop}
use Rattle.std.specs.Fmt.{digits}
use Rattle.std.specs.List.{flat_map}
use Rattle.sfi_names.specs.declared.image.Kind.{Kind}
use Rattle.sfi_names.specs.declared.image.Kind.TheVariants.{Exports, Imports}
use Rattle.sfi_names.specs.Tables.{Named, Table, HasTable}
use Rattle.rv_word.specs.declared.instr.Instr.{Instr}
use Rattle.sfi_formats.specs.declared.format.Format.{Format}
use Rattle.sfi_formats.specs.declared.format.Format.TheVariants.{Sfi1, Sfi2, Sfiw, Sfis}
use Rattle.sfi_text.specs.Statement.{printed}
use Rattle.sfi_formats.specs.Formats.{unit}
use Rattle.sfi_image.specs.Spelling.{Part, format_of}
use Rattle.sfi_image.specs.declared.part.Gate.{Gate}
use Rattle.sfi_rules.specs.Readings.{Piece, IsLongestReading}

-- ==== Numbers in hexadecimal digits, and the end of a line.

-- LF
abbrev pub line_end : List ℕ
line_end = 10 ∷ []

-- lower hexadecimal digits, with zeros before them up to that many
unfoldable pub hex_digits : ℕ → ℕ → List ℕ
hex_digits width n = replicate (width - length (digits 16 false n)) 48 ++ digits 16 false n

-- the number of bytes, the lowest first
abbrev pub number_of : List ℕ → ℕ
number_of [] = 0
number_of (b ∷ bytes) = b + 256 * number_of bytes

-- that number in two digits a byte
abbrev pub word_digits : List ℕ → List ℕ
word_digits bytes = hex_digits (2 * length bytes) (number_of bytes)

-- ==== The names of a sandbox, in the listing and the map: what the table in which its first data
-- bytes end says.

-- the word for a name of this kind
unfoldable pub kind_word : Kind → List ℕ
kind_word Exports = codes "export "
kind_word Imports = codes "import "

-- the address for which a name stands, and the name
abbrev pub name_line : Kind → Named → List ℕ
name_line kind n = kind_word kind ++ hex_digits 8 n.address ++ codes " " ++ n.name ++ line_end

-- the version of the host's interface for which the code is made
abbrev pub interface_line : ℕ → List ℕ
interface_line version = codes "interface " ++ decimal version ++ line_end

-- all that a table says
abbrev pub table_lines : Table → List ℕ
table_lines t =
    interface_line t.version
    ++ flat_map (name_line Exports) t.exports ++ flat_map (name_line Imports) t.imports

-- what the table says in which the bytes end, and nothing where they end in none
abbrev pub IsNamesText : List ℕ → List ℕ → Type 0
IsNamesText bytes text =
    ((t : Table) × HasTable bytes t × (text ≡ table_lines t))
    ⊎ (((t : Table) → ¬ HasTable bytes t) × (text ≡ []))

-- ==== The listing of an image.

-- ---- of a unit of code

-- an instruction: its address, its number, its text
abbrev pub instruction_line : ℕ → List ℕ → Instr → List ℕ
instruction_line at bytes i =
    hex_digits 8 at ++ codes " " ++ word_digits bytes ++ codes " " ++ printed i ++ line_end

-- the bytes that a reading leaves, if any, two digits each
abbrev pub rest_line : ℕ → List ℕ → List ℕ
rest_line at [] = []
rest_line at (b ∷ bytes) =
    hex_digits 8 at ++ codes " .bytes " ++ flat_map (hex_digits 2) (b ∷ bytes) ++ line_end

-- the lines of a reading of the bytes at that address, and of what it leaves
abbrev pub reading_lines : ℕ → List ℕ → List Piece → List ℕ
reading_lines at bytes [] = rest_line at bytes
reading_lines at bytes (x ∷ reading) =
    instruction_line at (take x.size bytes) x.instr
    ++ reading_lines (at + x.size) (drop x.size bytes) reading

-- the lines of the longest reading of the bytes at that address, and of what it leaves
pub record IsUnitListing (at : ℕ) (bytes text : List ℕ) : Type 0 where
  pub reading : List Piece
  pub longest : IsLongestReading bytes reading
  pub text_is : text ≡ reading_lines at bytes reading

-- ---- of a sandbox

-- a region: its base and its size
unfoldable pub region_text : ℕ → ℕ → List ℕ
region_text base size = hex_digits 8 base ++ codes " " ++ decimal size

-- its fields
abbrev pub sandbox_line : ℕ → Part → List ℕ
sandbox_line sandbox p =
    codes "sandbox " ++ decimal sandbox
    ++ codes " code " ++ region_text p.code_base (length p.code)
    ++ codes " data " ++ region_text p.data_base p.data_size
    ++ codes " start " ++ hex_digits 8 p.start
    ++ codes " gates " ++ decimal (length p.gates)
    ++ codes " init " ++ decimal (length p.init) ++ line_end

-- a gate
abbrev pub gate_line : Gate → List ℕ
gate_line g = codes "gate " ++ hex_digits 8 g.address ++ codes " " ++ decimal g.service ++ line_end

-- the bytes of its code's unit of that number
abbrev pub unit_bytes : Part → ℕ → List ℕ
unit_bytes p n = take (unit p.format) (drop (unit p.format * n) p.code)

-- the first n units of its code
abbrev pub IsListingOfFirst : Part → ℕ → List ℕ → Type 0
IsListingOfFirst p zero text = text ≡ []
IsListingOfFirst p (suc n) text =
    (front : List ℕ) × (last : List ℕ) × IsListingOfFirst p n front
    × IsUnitListing (p.code_base + unit p.format * n) (unit_bytes p n) last
    × (text ≡ front ++ last)

-- all units of its code
pub record IsCodeListing (p : Part) (text : List ℕ) : Type 0 where
  pub units : ℕ
  pub whole : length p.code ≡ unit p.format * units
  pub text_is : IsListingOfFirst p units text

-- its fields, its gates, its names, and its code
pub record IsSandboxListing (sandbox : ℕ) (p : Part) (text : List ℕ) : Type 0 where
  pub names : List ℕ
  pub names_are : IsNamesText p.init names
  pub code : List ℕ
  pub code_is : IsCodeListing p code
  pub text_is : text ≡ sandbox_line sandbox p ++ flat_map gate_line p.gates ++ names ++ code

-- ---- of an image

-- the listing of parts, the first of which is that of sandbox `sandbox`
abbrev pub IsListingFrom : ℕ → List Part → List ℕ → Type 0
IsListingFrom sandbox [] text = text ≡ []
IsListingFrom sandbox (p ∷ ps) text =
    (front : List ℕ) × (rest : List ℕ) × IsSandboxListing sandbox p front
    × IsListingFrom (sandbox + 1) ps rest × (text ≡ front ++ rest)

-- its format, but for the first
unfoldable pub format_line : Format → List ℕ
format_line Sfi1 = []
format_line Sfi2 = codes "format SFI2" ++ line_end
format_line Sfiw = codes "format SFIW" ++ line_end
format_line Sfis = codes "format SFIS" ++ line_end

-- the listing of an image with these parts
abbrev pub IsListing : List Part → List ℕ → Type 0
IsListing ps text = (sandboxes : List ℕ) × IsListingFrom 0 ps sandboxes
    × (text ≡ format_line (format_of ps) ++ sandboxes)
