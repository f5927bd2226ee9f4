-- What holds of translations.
use Rattle.std.specs.Prelude.{◌≡◌, ◌≢◌, ◌⊎◌, ℕ, ◌+◌, ◌*◌, ◌^◌, ◌<◌, ◌≤◌, List, [], length, slice_index, Some, IsSome}
use Rattle.rv_mem.specs.Bytes.{Bytes, byte_at}
use Rattle.rv_step.specs.declared.outcome.Outcome.{Outcome}
use Rattle.rv_step.specs.declared.outcome.Outcome.TheVariants.{Next}
use Rattle.rv_step.specs.State.{State, IsState}
use Rattle.rv_step.specs.Step.{IsStep}
use Rattle.rv_step.specs.Rows.{LeadTo}
use Rattle.sfi_formats.specs.Formats.{unit}
use Rattle.sfi_image.specs.Spelling.{Part, AreApart, code_region, guarded_region}
use Rattle.sfi_image.specs.Parts.{IsRightPart}
use Rattle.sfi_rules.specs.Readings.{Piece, IsLongestReading, rest_of}
use Rattle.sfi_report.specs.Listing.{unit_bytes}
use Rattle.sfi_safe_runs.specs.Runs.{InData, Turn, IsUnitStart, IsEntry, IsRun}
use Rattle.sfi_safe_runs.specs.Calling.{after_turns}
use Rattle.sfi_safety.specs.Places.{IsCleanPart}
use Rattle.sfi_translate.specs.Lines.{Line, AreLines}
use Rattle.sfi_translate.specs.Machine.{Target, Going, Loop, Stopped, IsTranslatedStep, AreTranslatedSteps}

-- a byte is at each address of the data
abbrev pub HasData : Part → Bytes → Type 0
HasData p m = (a : ℕ) → InData p a → IsSome (byte_at m a)

-- a state of the machine that a run of the sandbox comes to, from an entry, and which has all data
pub record IsReached (p : Part) (s : State) : Type 0 where
  pub first : State
  pub entry : IsEntry p first
  pub turns : List Turn
  pub run : IsRun p (Some first) turns
  pub after : after_turns (Some first) turns ≡ Some s
  pub state : IsState s
  pub has_data : HasData p s.memory

-- a sandbox that has an entry (law HasEntries) has such a state there
abbrev pub HasReached : Type 0
HasReached =
    (p : Part) (at : ℕ) → IsRightPart p → AreApart (code_region p) (guarded_region p)
    → ((k : ℕ) → slice_index p.code k < 256) → IsUnitStart p at
    → (s : State) × (s.hart.pc ≡ at) × IsReached p s

-- In a sandbox without a finding each unit is read whole. (It follows that the line after one of n bytes is
-- that of the address n further on.)
abbrev pub UnitsAreWhole : Type 0
UnitsAreWhole =
    (sandbox : ℕ) (p : Part) (number : ℕ) (reading : List Piece) → IsCleanPart sandbox p
    → unit p.format * number + unit p.format ≤ length p.code
    → IsLongestReading (unit_bytes p number) reading → rest_of (unit_bytes p number) reading ≡ []

-- The turn from that state, with `left` steps, has come to `g` by `left - g.left` steps of the machine, and
-- to a state that a next turn may begin with. If it has stopped, the next step stops so.
pub record IsAsImage (p : Part) (s : State) (left : ℕ) (g : Going) : Type 0 where
  pub steps : ℕ
  pub lead : LeadTo steps s g.state
  pub counted : g.left + steps ≡ left
  pub reached : IsReached p g.state
  pub stopped : (o : Outcome) → g.place ≡ Stopped o
      → (o ≢ Next) × IsStep g.state (record { outcome = o; state = g.state })

-- A turn from a state that a run of a sandbox without a finding comes to, by these lines of its code, with
-- `left` steps: so many moves have led to `g`.
pub record IsTurnTo (t : Target) (sandbox : ℕ) (p : Part) (code : List Line) (s : State)
    (left moves : ℕ) (g : Going) : Type 0 where
  pub clean : IsCleanPart sandbox p
  pub lines : AreLines sandbox p code
  pub reached : IsReached p s
  pub fits : left < 2 ^ 32
  pub moved : AreTranslatedSteps t p code moves (record { place = Loop; state = s; left = left }) g

-- whoever reads the lines, and whatever entries they have, a turn is steps of the machine, after each of
-- its moves
abbrev pub TranslatedRunsAsImage : Type 0
TranslatedRunsAsImage =
    (t : Target) (sandbox : ℕ) (p : Part) (code : List Line) (s : State) (left moves : ℕ) (g : Going)
    → IsTurnTo t sandbox p code s left moves g → IsAsImage p s left g

-- the turn has ended: it has stopped, or no step is left
abbrev pub IsOver : Going → Type 0
IsOver g = ((o : Outcome) × (g.place ≡ Stopped o)) ⊎ ((g.place ≡ Loop) × (g.left ≡ 0))

-- where a turn hasn't ended, it goes on: no label and no row is missing
abbrev pub TurnsGoOn : Type 0
TurnsGoOn =
    (t : Target) (sandbox : ℕ) (p : Part) (code : List Line) (s : State) (left moves : ℕ) (g : Going)
    → IsTurnTo t sandbox p code s left moves g
    → IsOver g ⊎ ((k : Going) × IsTranslatedStep t p code g k)

-- a turn ends: it has no more moves than five for each step, and five
abbrev pub TurnsEnd : Type 0
TurnsEnd =
    (t : Target) (sandbox : ℕ) (p : Part) (code : List Line) (s : State) (left moves : ℕ) (g : Going)
    → IsTurnTo t sandbox p code s left moves g → moves ≤ 5 * (left + 1)
