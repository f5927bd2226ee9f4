-- What holds of every sandbox without a finding.
use Rattle.std.specs.Prelude.{◌≡◌, ℕ, List, ◌∷◌, length, false}
use Rattle.rv_word.specs.declared.instr.Instr.{Instr}
use Rattle.rv_word.specs.Spelling.{InRange}
use Rattle.rv_step.specs.State.{Hart, State}
use Rattle.sfi_formats.specs.Formats.{has_words}
use Rattle.sfi_image.specs.Spelling.{Part}
use Rattle.sfi_image.specs.Parts.{IsRightPart, HasReserved, reserved_of}
use Rattle.sfi_safe_runs.specs.Runs.{Zones, Empty, Padded, Setting, Turn, IsTurn, IsEntry, after_turn}
use Rattle.sfi_safe_runs.specs.Safety.{IsSafeState, IsSafeTurn, RunsSafely, RunsSafelyAs}
use Rattle.sfi_safe_runs.specs.Calling.{CallsTyped, CallsTypedAs}
use Rattle.sfi_safety.specs.Places.{Leaves, WritesResult, IsCleanPart, AreCleanBundles, IsGood, IsGoodIf}

-- ---- of code in bundles

-- where the instructions before a place have left what `Leaves` says, so has the instruction at the
-- place, whatever it is
abbrev pub InstructionLeaves : Type 0
InstructionLeaves =
    (p : Part) (before after : Hart) (i : Instr) (earlier : List Instr) → IsRightPart p
    → has_words p.format ≡ false
    → length before.registers ≡ 32 → HasReserved p.format (reserved_of p) before.registers → InRange i
    → WritesResult i before after
    → Leaves p earlier before.registers → Leaves p (i ∷ earlier) after.registers

-- an entry is a good state
abbrev pub EntryIsGood : Type 0
EntryIsGood =
    (sandbox : ℕ) (p : Part) (s : State) → AreCleanBundles sandbox p → IsEntry p s
    → IsGood sandbox p s

-- a turn from a good state is safe, and leads to a good state
abbrev pub TurnKeeps : Type 0
TurnKeeps =
    (sandbox : ℕ) (p : Part) (s : State) (turn : Turn) → AreCleanBundles sandbox p
    → IsGood sandbox p s → IsTurn p s turn
    → IsSafeState p s × IsSafeTurn p s turn × IsGoodIf sandbox p (after_turn turn)

-- ---- of code of any format

-- every run from every entry is safe
abbrev pub CleanRunsSafely : Type 0
CleanRunsSafely = (sandbox : ℕ) (p : Part) → IsCleanPart sandbox p → RunsSafely p

-- in every run from every entry each call is made with the typed registers holding what their types
-- say: in the second format, with the stack pointer in the data region
abbrev pub CleanCallsTyped : Type 0
CleanCallsTyped = (sandbox : ℕ) (p : Part) → IsCleanPart sandbox p → CallsTyped p

-- ---- in every setting

-- Code in bundles may run whatever the guard zones hold. Code in words may not, and no law says that it
-- may: `addi x2, x2, 2047` and a load on x2, one after the other, are accepted any number of times, since
-- where x2 has left the data's surroundings the load traps. If a guard zone holds bytes, it needn't, and
-- x2 walks on past the zone.
abbrev pub MayRunWith : Zones → Part → Type 0
MayRunWith Empty p = Unit {0}
MayRunWith Padded p = has_words p.format ≡ false

-- Every run from every entry is safe, whatever the guard zones hold, and whichever of the listed gates the
-- host has made direct: no byte of a springboard is executed as the sandbox's, and each turn is as safe as
-- with the image's own ecalls. At a direct gate where the image has no ecall a run has neither step nor
-- reply: of what comes after that nothing is said.
abbrev pub CleanRunsSafelyAs : Type 0
CleanRunsSafelyAs =
    (t : Setting) (sandbox : ℕ) (p : Part) → MayRunWith t.zones p → IsCleanPart sandbox p
    → RunsSafelyAs t p

-- each call of such runs, of a direct gate where the image has an ecall or of another gate, is made with
-- the typed registers holding what their types say
abbrev pub CleanCallsTypedAs : Type 0
CleanCallsTypedAs =
    (t : Setting) (sandbox : ℕ) (p : Part) → MayRunWith t.zones p → IsCleanPart sandbox p
    → CallsTypedAs t p
