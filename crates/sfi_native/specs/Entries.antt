-- Where the units of a sandbox's code are entered.
use Rattle.std.specs.Prelude.{◌≡◌, ℕ, ◌+◌, ◌*◌, ◌/◌, ◌%◌, ◌^◌, ◌<◌, List, length, slice_index, Option, Some, None}
use Rattle.sfi_formats.specs.Formats.{unit}
use Rattle.sfi_image.specs.Spelling.{Part}
use Rattle.sfi_translate.specs.Lines.{Line}
use Rattle.sfi_translate.specs.Machine.{label}
use Rattle.sfi_native.specs.declared.plan.Plan.{Plan}
use Rattle.sfi_native.specs.Places.{exit_of, owed_before, start}

-- where the unit at that address is entered: its offset in the code, or that of the way out, where no line has that address
abbrev pub entry_of : Plan → List Line → Option (List Line) → ℕ
entry_of plan code (Some rest) = start plan code rest
entry_of plan code None = exit_of plan code

-- how many steps are owed there
abbrev pub owed_at_entry : Plan → Part → Option (List Line) → ℕ
owed_at_entry plan p (Some rest) = owed_before plan p rest
owed_at_entry plan p None = 0

-- the address of a unit of the sandbox's code, by its number
abbrev pub unit_address : Part → ℕ → ℕ
unit_address p number = (p.code_base + unit p.format * number) % 2 ^ 32

-- The table of a sandbox: where each unit of its code is entered, and how many steps are owed there, by turns.
pub record AreEntries (plan : Plan) (p : Part) (code : List Line) (table : List ℕ) : Type 0 where
  pub count : length table ≡ 2 * (length p.code / unit p.format)
  pub entries : (number : ℕ) → number < length p.code / unit p.format
      → slice_index table (2 * number) ≡ entry_of plan code (label (unit_address p number) code)
  pub owed : (number : ℕ) → number < length p.code / unit p.format
      → slice_index table (2 * number + 1) ≡ owed_at_entry plan p (label (unit_address p number) code)
