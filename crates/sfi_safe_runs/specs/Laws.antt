-- What holds of runs, whatever the rules.
use Rattle.std.specs.Prelude.{◌≡◌, ◌≢◌, ◌↔◌, ◌<◌, ◌-◌, slice_index, length, ℕ, List, Some, true, false}
use Rattle.rv_mem.specs.Bytes.{Bytes, IsMemory, byte_at}
use Rattle.rv_step.specs.declared.outcome.Outcome.TheVariants.{Trap}
use Rattle.rv_step.specs.declared.outcome.Cause.TheVariants.{Fetch, Illegal}
use Rattle.rv_step.specs.State.{Hart, IsHart, State, IsState}
use Rattle.rv_step.specs.Step.{Stepped, IsStep}
use Rattle.sfi_formats.specs.declared.format.Format.TheVariants.{Sfi1}
use Rattle.sfi_formats.specs.Formats.{has_words}
use Rattle.sfi_formats.specs.Limits.{bundle_size, word_size}
use Rattle.sfi_image.specs.Parts.{IsRightPart, IsBundleStart, data_mask_of, reserved_of, HasReserved, IsWordStart}
use Rattle.sfi_image.specs.Spelling.{AreApart, code_region, data_region, guarded_region, Part}
use Rattle.sfi_safe_runs.specs.Runs.{InGuard, IsUnitStart, StackInData, StaysOutside, IsTyped, AreWordsTyped, Zones, Padded, Calls, Direct, Setting, IsInBoard, HasCodeAs, HasEcall, Turn, IsTurn, IsTurnAs, IsEntry, IsEntryAs, IsChange, IsChangeAs, IsReplyAs, after_turn}
use Rattle.sfi_safe_runs.specs.Safety.{IsSafeState, IsSafeStateAs, IsSafeTurn, IsSafeTurnAs, RunsSafelyFrom, RunsSafelyFromAs}
use Rattle.sfi_safe_runs.specs.Calling.{GoesSafelyFrom}

-- where every run from a state is safe, the state is safe, and so is each turn from it
abbrev pub SafeTurns : Type 0
SafeTurns = (p : Part) (s : State) (turn : Turn) → RunsSafelyFrom p s → IsTurn p s turn
    → IsSafeState p s × IsSafeTurn p s turn

-- where every run from a state is safe, every run is safe after each turn, too
abbrev pub SafeStaysSafe : Type 0
SafeStaysSafe =
    (p : Part) (s after : State) (turn : Turn) → RunsSafelyFrom p s → IsTurn p s turn
    → after_turn turn ≡ Some after
    → RunsSafelyFrom p after

-- where every run from a state is safe, no step traps for want of an instruction at pc
abbrev pub SafeFetches : Type 0
SafeFetches =
    (p : Part) (s : State) (r : Stepped) (at : ℕ) → RunsSafelyFrom p s → IsStep s r
    → (r.outcome ≢ Trap Fetch at) × (r.outcome ≢ Trap Illegal at)

-- where every run from a state is safe and makes its calls with the typed registers set, so it is
-- after each turn
abbrev pub GoesOnSafely : Type 0
GoesOnSafely =
    (p : Part) (s after : State) (turn : Turn) → GoesSafelyFrom p s → IsTurn p s turn
    → after_turn turn ≡ Some after
    → GoesSafelyFrom p after

-- a sandbox that passes its tests, whose code is of bytes and lies apart from its data and guards,
-- can be entered at the start of each bundle, or word, with any registers beside the reserved and
-- the typed ones
abbrev pub CanBeEntered : Type 0
CanBeEntered =
    (p : Part) (h : Hart) → IsRightPart p → AreApart (code_region p) (guarded_region p)
    → ((k : ℕ) → slice_index p.code k < 256)
    → IsHart h → IsUnitStart p h.pc → HasReserved p.format (reserved_of p) h.registers → IsTyped p h.registers
    → (m : Bytes) × IsEntry p (record { hart = h; memory = m })

-- a sandbox that passes its tests, whose code is of bytes and lies apart from its data and guards,
-- has an entry at the start of each bundle, or word
abbrev pub HasEntries : Type 0
HasEntries =
    (p : Part) (at : ℕ) → IsRightPart p → AreApart (code_region p) (guarded_region p)
    → ((k : ℕ) → slice_index p.code k < 256) → IsUnitStart p at
    → (s : State) × (s.hart.pc ≡ at) × IsEntry p s

-- ---- in every setting

-- where every run from a state is safe, so is each turn from it
abbrev pub SafeTurnsAs : Type 0
SafeTurnsAs = (t : Setting) (p : Part) (s : State) (turn : Turn) → RunsSafelyFromAs t p s
    → IsTurnAs t p s turn → IsSafeStateAs t.calls p s × IsSafeTurnAs t.zones p s turn

-- an entry of the theorem's setting is one of every setting, so each has entries
abbrev pub EntersAnyway : Type 0
EntersAnyway = (t : Setting) (p : Part) (s : State) → IsEntry p s → IsEntryAs t p s

-- a change by others in the theorem's setting is one in every setting
abbrev pub ChangesAnyway : Type 0
ChangesAnyway = (t : Setting) (p : Part) (s after : State) → IsChange p s after → IsChangeAs t p s after

-- where guard zones may hold bytes, an entry stays one whatever bytes they hold
abbrev pub GuardsHoldAnything : Type 0
GuardsHoldAnything =
    (calls : Calls) (p : Part) (s : State) (m : Bytes) → IsRightPart p
    → AreApart (code_region p) (guarded_region p)
    → IsEntryAs (record { zones = Padded; calls = calls }) p s → IsMemory m
    → StaysOutside (guarded_region p) s.memory m
    → IsEntryAs (record { zones = Padded; calls = calls }) p (record { hart = s.hart; memory = m })

-- with direct gates an entry stays one whatever bytes the springboards have
abbrev pub BoardsHoldAnything : Type 0
BoardsHoldAnything =
    (zones : Zones) (direct : List ℕ) (p : Part) (s : State) (m : Bytes) → IsMemory m
    → ((a : ℕ) → (IsInBoard p direct a → ⊥) → byte_at m a ≡ byte_at s.memory a)
    → ((a : ℕ) → InGuard p a → byte_at m a ≡ byte_at s.memory a)
    → IsEntryAs (record { zones = zones; calls = Direct direct }) p s
    → IsEntryAs (record { zones = zones; calls = Direct direct }) p
    (record { hart = s.hart; memory = m })

-- where the image has an ecall at pc, and the typed registers hold what their types say, there is a reply,
-- whatever a springboard's bytes are
abbrev pub RepliesAnyway : Type 0
RepliesAnyway = (t : Setting) (p : Part) (s : State) → IsRightPart p → IsState s
    → HasCodeAs t.calls p s.memory → IsTyped p s.hart.registers → HasEcall p s.hart.pc
    → (after : State) × IsReplyAs t p s after

-- ---- what the formats ask

-- In a format without words a sandbox is entered at bundle starts, x25 holds the code size less a
-- bundle's, x27 the data size less 1, and no register but a stack pointer has a type.
abbrev pub BundlesAskTheSame : Type 0
BundlesAskTheSame =
    (p : Part) → has_words p.format ≡ false
    → ((a : ℕ) → IsUnitStart p a ↔ IsBundleStart (code_region p) a)
    × (reserved_of p ≡ record {
      code_base = p.code_base;
      code_mask = length p.code - bundle_size;
      data_base = p.data_base;
      data_mask = p.data_size - 1;
    })
    × ((registers : List ℕ) → IsTyped p registers ↔ StackInData p registers)

-- In a format of words a sandbox is entered at words' starts, x25 holds the code size less a word's,
-- and registers have types.
abbrev pub WordsAsk : Type 0
WordsAsk =
    (p : Part) → has_words p.format ≡ true
    → ((a : ℕ) → IsUnitStart p a ↔ IsWordStart (code_region p) a)
    × (reserved_of p ≡ record {
      code_base = p.code_base;
      code_mask = length p.code - word_size;
      data_base = p.data_base;
      data_mask = data_mask_of p.format (data_region p);
    })
    × ((registers : List ℕ) → IsTyped p registers ↔ AreWordsTyped p.format (code_region p) (data_region p) registers)

-- in the first format no register has a type: nothing is asked of x2, at an entry, after a reply or
-- at a call
abbrev pub FirstFormatAsksNoStack : Type 0
FirstFormatAsksNoStack = (p : Part) (registers : List ℕ) → p.format ≡ Sfi1 → IsTyped p registers
