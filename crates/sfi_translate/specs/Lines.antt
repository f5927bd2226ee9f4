-- The lines of a sandbox's code: what a translation spells (Translation), and what its machine steps over (Machine).
use Rattle.std.specs.Prelude.{◌≡◌, ℕ, zero, suc, ◌+◌, ◌*◌, ◌/◌, ◌%◌, ◌==◌, not, Bool, List, [], ◌∷◌, ◌++◌, length, if◌then◌else◌}
use Rattle.rv_word.specs.declared.instr.Instr.{Instr}
use Rattle.sfi_formats.specs.Formats.{unit}
use Rattle.sfi_image.specs.Spelling.{Part}
use Rattle.sfi_rules.specs.Readings.{Piece, IsLongestReading}
use Rattle.sfi_report.specs.Listing.{unit_bytes}

-- a line, and the address of what follows it; of an instruction its own address
pub data Line : Type 0 where
  Function : ℕ → ℕ → Line  -- a function of that sandbox begins
  End : ℕ → Line  -- a function ends, and control goes on at the next one
  Entry : ℕ → Line  -- a unit that may be entered from outside and by indirect jumps
  Head : ℕ → Line  -- the steps that are left are looked at
  Does : ℕ → ℕ → Instr → Line  -- an instruction of that many bytes, which is done

-- The most bytes of code that one function of the text holds: those whose addresses have the same
-- quotient by it. A code region is a power of two and aligned to its size, so that multiples of it
-- in the code are multiples in memory, or there is none.
abbrev pub function_most : ℕ
function_most = 16384

-- the two addresses lie in two functions
abbrev pub is_far : ℕ → ℕ → Bool
is_far at to = not ((at / function_most) == (to / function_most))

-- the steps that are left are looked at before the unit at each multiple of that many bytes
abbrev pub head_bytes : ℕ
head_bytes = 128

-- ---- of a unit of code

-- Before the unit of that offset in the code a function begins: the first one, or the next, if it
-- is a multiple of `function_most`.
abbrev pub function_lines : ℕ → ℕ → ℕ → List Line
function_lines sandbox offset at =
    if offset == 0 then Function sandbox at ∷ []
    else if offset % function_most == 0 then End at ∷ Function sandbox at ∷ []
    else []

-- before a unit that is an entry
abbrev pub entry_lines : Bool → ℕ → List Line
entry_lines chosen at = if chosen then Entry at ∷ [] else []

-- before the unit at that address
abbrev pub head_lines : ℕ → List Line
head_lines at = if at % head_bytes == 0 then Head at ∷ [] else []

-- the instructions of a reading at that address
abbrev pub reading_lines : ℕ → List Piece → List Line
reading_lines at [] = []
reading_lines at (x ∷ reading) = Does at x.size x.instr ∷ reading_lines (at + x.size) reading

-- The unit of that offset, of these bytes. Which units are entries is free: any choice is right.
pub record AreUnitLines (sandbox offset at : ℕ) (bytes : List ℕ) (lines : List Line) : Type 0 where
  pub chosen : Bool
  pub reading : List Piece
  pub longest : IsLongestReading bytes reading
  pub lines_are : lines ≡ function_lines sandbox offset at ++ entry_lines chosen at
      ++ head_lines at ++ reading_lines at reading

-- ---- of a sandbox

-- the first n units of its code
abbrev pub AreLinesOfFirst : ℕ → Part → ℕ → List Line → Type 0
AreLinesOfFirst sandbox p zero lines = lines ≡ []
AreLinesOfFirst sandbox p (suc n) lines =
    (front : List Line) × (last : List Line) × AreLinesOfFirst sandbox p n front
    × AreUnitLines sandbox (unit p.format * n) (p.code_base + unit p.format * n) (unit_bytes p n) last
    × (lines ≡ front ++ last)

-- all units of its code
pub record AreLines (sandbox : ℕ) (p : Part) (lines : List Line) : Type 0 where
  pub units : ℕ
  pub whole : length p.code ≡ unit p.format * units
  pub lines_are : AreLinesOfFirst sandbox p units lines
