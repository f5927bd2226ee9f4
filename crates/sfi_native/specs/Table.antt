-- What jumps to an address in a register ask for: a table of entries, and lines that lie in the sandbox's code.
use Rattle.std.specs.Prelude.{◌≡◌, ℕ, ◌+◌, ◌-◌, ◌*◌, ◌/◌, ◌%◌, ◌^◌, ◌<◌, ◌≤◌, ◌==◌, nat_le, nat_lt, ◌&&◌, Bool, List, length, slice_index, Some}
use Rattle.sfi_formats.specs.Formats.{unit}
use Rattle.sfi_image.specs.Parts.{IsCodeRegion}
use Rattle.sfi_image.specs.Spelling.{Part}
use Rattle.sfi_safety.specs.Places.{IsCleanPart}
use Rattle.sfi_translate.specs.Lines.{Line, AreLines}
use Rattle.sfi_translate.specs.Machine.{label}
use Rattle.x86_step.specs.State.{Core, number_at}
use Rattle.sfi_native.specs.declared.layout.Layout.{Layout}
use Rattle.sfi_native.specs.Entries.{AreEntries}
use Rattle.sfi_native.specs.Layout.{DoNotMeet, frame_size, slots_size}
use Rattle.sfi_native.specs.Following.{FollowFrom}

-- a unit of the sandbox's code starts at that address
abbrev pub is_unit_start : Part → ℕ → Bool
is_unit_start p at = nat_le p.code_base at && (nat_lt at (p.code_base + length p.code) && (at % unit p.format == 0))

-- All labels of the lines lie in the sandbox's code, and the lines follow one another through it.
pub record LieInCode (p : Part) (code : List Line) : Type 0 where
  pub region : IsCodeRegion p.format p.code_base (length p.code)
  pub ends : p.code_base + length p.code ≤ 2 ^ 32
  pub labels : (at : ℕ) (rest : List Line) → label at code ≡ Some rest → (p.code_base ≤ at) × (at < p.code_base + length p.code)
  pub follow : FollowFrom (p.code_base + length p.code) p.code_base code

-- those of a sandbox without a finding do
abbrev pub LinesLieInCode : Type 0
LinesLieInCode = (sandbox : ℕ) (p : Part) (code : List Line) → IsCleanPart sandbox p → AreLines sandbox p code → LieInCode p code

-- the bytes of a table: two for each of the sandbox's code
abbrev pub table_size : Part → ℕ
table_size p = 2 * length p.code

-- The processor has the table of entries in memory: at twice each unit's offset in the sandbox's code the four bytes of its entry
-- and the four of how many steps are owed there (so in bundles there are 24 bytes between two). Behind the frame's registers lies the
-- host's address of what would be the entry of the sandbox's address 0, and then that of the code.
pub record HasTable (p : Part) (l : Layout) (base : ℕ) (code : List Line) (c : Core) : Type 0 where
  pub table : List ℕ
  pub entries : AreEntries l.plan p code table
  pub at : ℕ
  pub ends : at + table_size p ≤ 2 ^ 64
  pub frame_apart : DoNotMeet at (table_size p) l.frame frame_size
  pub data_apart : DoNotMeet at (table_size p) l.data_start p.data_size
  pub holds : (number : ℕ) → number < length p.code / unit p.format
      → number_at c.memory 4 (at + 2 * (unit p.format * number)) ≡ Some (slice_index table (2 * number))
  pub holds_owed : (number : ℕ) → number < length p.code / unit p.format
      → number_at c.memory 4 (at + 2 * (unit p.format * number) + 4) ≡ Some (slice_index table (2 * number + 1))
  pub origin_is : number_at c.memory 8 (l.frame + slots_size) ≡ Some ((at + (2 ^ 64 - 2 * p.code_base)) % 2 ^ 64)
  pub code_is : number_at c.memory 8 (l.frame + (slots_size + 8)) ≡ Some base
