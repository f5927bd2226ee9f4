-- What code that stands for lines may take for granted of a sandbox without a finding.
use Rattle.std.specs.Prelude.{◌≡◌, ◌⊎◌, ℕ, ◌+◌, ◌^◌, ◌<◌, true, false, ℤ, List, ◌∷◌, Some}
use Rattle.std.specs.List.{Contains}
use Rattle.rv_word.specs.declared.instr.Instr.{Instr}
use Rattle.rv_word.specs.declared.instr.Instr.TheVariants.{Load, Store}
use Rattle.rv_word.specs.Spelling.{InRange, offset_by}
use Rattle.rv_mem.specs.Bytes.{Bytes, IsThere, addresses}
use Rattle.rv_step.specs.State.{IsState, State, register}
use Rattle.rv_step.specs.Step.{Stands, load_size, store_size}
use Rattle.sfi_formats.specs.Limits.{guard}
use Rattle.sfi_image.specs.Spelling.{Part, IsNearIn, data_region}
use Rattle.sfi_safety.specs.Places.{IsCleanPart}
use Rattle.sfi_safe_runs.specs.Runs.{InData, InGuard, IsEntry, IsTurn, Turn, after_turn}
use Rattle.sfi_translate.specs.Lines.{Line, Does, AreLines}
use Rattle.sfi_translate.specs.Machine.{Target, Before, Going, fixed, is_tested}
use Rattle.sfi_translate.specs.Laws.{HasData, IsAsImage, IsOver, IsReached, IsTurnTo}

-- ---- registers

-- Where a run comes, x0 and the reserved registers have the values that lines take them to have.
abbrev pub ReachedHartsAreFixed : Type 0
ReachedHartsAreFixed =
    (sandbox : ℕ) (p : Part) (s : State) → IsCleanPart sandbox p → IsReached p s → fixed p s.hart ≡ s.hart

-- ---- accesses

-- The n addresses from `base` and an offset on lie in the data or in a zone, and so does `base`: where a mask has two
-- steps, the zones have room, and the offset leads over no end of the 32 bits.
pub record IsNearAccess (p : Part) (base : ℕ) (offset : ℤ) (n : ℕ) : Type 0 where
  pub from : IsNearIn p.format (data_region p) guard base
  pub each : (a : ℕ) → Contains (addresses (offset_by base offset) n) a → InData p a ⊎ InGuard p a

-- An access passes its test, and each byte is there; or it fails it, with a byte in a zone.
abbrev pub IsSafeAccess : Part → Bytes → ℕ → ℤ → ℕ → Type 0
IsSafeAccess p m base offset n =
    IsNearAccess p base offset n
    × (((is_tested p (offset_by base offset) n ≡ true) × IsThere m (offset_by base offset) n)
    ⊎ ((is_tested p (offset_by base offset) n ≡ false) × ((a : ℕ) × Contains (addresses (offset_by base offset) n) a × InGuard p a)))

-- the access of an instruction, if it has one
abbrev pub AccessesSafely : Part → State → Instr → Type 0
AccessesSafely p s (Load kind rd rs1 imm) = IsSafeAccess p s.memory (register s.hart rs1) imm (load_size kind)
AccessesSafely p s (Store width rs1 rs2 imm) = IsSafeAccess p s.memory (register s.hart rs1) imm (store_size width)
AccessesSafely p s i = Unit {0}

-- an instruction at which a run comes
abbrev pub ReachedAccessesAreSafe : Type 0
ReachedAccessesAreSafe =
    (sandbox : ℕ) (p : Part) (s : State) (i : Instr) (n : ℕ) → IsCleanPart sandbox p → IsReached p s → Stands s i n
    → AccessesSafely p s i

-- ---- a turn before a line

-- the instruction of a line stands at pc, with fields in their ranges
pub record IsReadyFor (p : Part) (g : Going) (at n : ℕ) (i : Instr) : Type 0 where
  pub pc : g.state.hart.pc ≡ at
  pub stands : Stands g.state i n
  pub in_range : InRange i
  pub access : AccessesSafely p g.state i

-- so it is wherever a turn comes before a line
abbrev pub TurnsAreReady : Type 0
TurnsAreReady =
    (t : Target) (sandbox : ℕ) (p : Part) (code rest : List Line) (s : State) (left moves : ℕ) (g : Going) (at n : ℕ)
    (i : Instr) → IsTurnTo t sandbox p code s left moves g → g.place ≡ Before (Does at n i ∷ rest)
    → IsReadyFor p g at n i

-- ---- whole turns

-- a turn comes to its end
abbrev pub EachTurnEnds : Type 0
EachTurnEnds =
    (t : Target) (sandbox : ℕ) (p : Part) (code : List Line) (s : State) (left : ℕ) → IsCleanPart sandbox p
    → AreLines sandbox p code → IsReached p s → left < 2 ^ 32
    → (moves : ℕ) × (g : Going) × IsTurnTo t sandbox p code s left moves g × IsOver g

-- Where a turn has come by all its steps, another may go on from there: both are one turn with the steps of both. So a
-- host may make several turns of one that has more steps than it counts.
abbrev pub TurnsAddUp : Type 0
TurnsAddUp =
    (p : Part) (s : State) (first rest : ℕ) (g k : Going) → IsAsImage p s first g → g.left ≡ 0
    → IsAsImage p g.state rest k → IsAsImage p s (first + rest) k

-- ---- states that a turn may begin with

-- an entry with all data
abbrev pub EntriesAreReached : Type 0
EntriesAreReached = (p : Part) (s : State) → IsEntry p s → HasData p s.memory → IsReached p s

-- and what a step, a reply or a change by others makes of such a state, if all data stay
abbrev pub ReachedGoOn : Type 0
ReachedGoOn =
    (p : Part) (s u : State) (turn : Turn) → IsReached p s → IsTurn p s turn → after_turn turn ≡ Some u → IsState u
    → HasData p u.memory → IsReached p u
