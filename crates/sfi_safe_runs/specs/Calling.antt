-- Calls: what the typed registers hold at each, and what no turn changes.
use Rattle.std.specs.Prelude.{◌≡◌, ◌⊎◌, ℕ, List, [], ◌∷◌, Option, Some, None, length}
use Rattle.std.specs.List.{All}
use Rattle.rv_word.specs.declared.instr.Instr.TheVariants.{Ecall}
use Rattle.rv_step.specs.State.{State}
use Rattle.rv_step.specs.Step.{Stands}
use Rattle.sfi_image.specs.Spelling.{Part}
use Rattle.sfi_image.specs.Parts.{HasReserved, reserved_of}
use Rattle.sfi_safe_runs.specs.Runs.{HasCode, Zones, Empty, Calls, ByEcall, Direct, Setting, plain, IsDirect, HasGuards, Asks, Turn, IsEntryAs, IsRunAs, after_turn, IsTyped}
use Rattle.sfi_safe_runs.specs.Safety.{RunsSafelyFrom}

-- ==== What the typed registers hold when a sandbox calls: what its host may rely on.

-- the state after the last of the turns, if the run goes on there
abbrev pub after_turns : Option State → List Turn → Option State
after_turns o [] = o
after_turns None (turn ∷ turns) = None
after_turns (Some s) (turn ∷ turns) = after_turns (after_turn turn) turns

-- The sandbox calls here, by an ecall of `size` bytes that stands at pc. With direct gates: the image has an
-- ecall at pc, be there a springboard or not, or the memory has one where no gate is direct. Of a direct
-- gate at which the image has no ecall nothing is said: a host makes none of these direct, since the typed
-- registers may be on their way there.
abbrev pub IsCalling : Calls → Part → State → ℕ → Type 0
IsCalling ByEcall p s size = Stands s Ecall size
IsCalling (Direct direct) p s size =
    Asks (Direct direct) p s size ⊎ (Stands s Ecall size × (IsDirect p direct s.hart.pc → ⊥))

-- in every run from this state the typed registers hold what their types say wherever the sandbox calls
pub record CallsTypedFromAs (t : Setting) (p : Part) (s : State) : Type 0 where
  pub typed : (turns : List Turn) (at : State) (n : ℕ) → IsRunAs t p (Some s) turns
      → after_turns (Some s) turns ≡ Some at → IsCalling t.calls p at n → IsTyped p at.hart.registers

-- the same in the theorem's setting
abbrev pub CallsTypedFrom : Part → State → Type 0
CallsTypedFrom = CallsTypedFromAs plain

-- every run from this state is safe, and makes its calls with the typed registers as their types
-- say: what a world keeps of each sandbox
pub record GoesSafelyFrom (p : Part) (s : State) : Type 0 where
  pub safe : RunsSafelyFrom p s
  pub calls : CallsTypedFrom p s

-- in every run from every state in which the sandbox may be entered, calls are made with the typed
-- registers as their types say
pub record CallsTypedAs (t : Setting) (p : Part) : Type 0 where
  pub from : (s : State) → IsEntryAs t p s → CallsTypedFromAs t p s

-- calls are made with the typed registers as their types say
abbrev pub CallsTyped : Part → Type 0
CallsTyped = CallsTypedAs plain

-- each of the sandboxes makes its calls with the typed registers as their types say
pub record AllCallTyped (ps : List Part) : Type 0 where
  pub each : All CallsTyped ps

-- ==== What no turn changes, from an entry of code that breaks no rule on.

-- there are 32 registers, the reserved ones hold their values, the code has the image's bytes, and
-- the guard zones are as they should be
pub record KeepsAllAs (zones : Zones) (p : Part) (s : State) : Type 0 where
  pub count : length s.hart.registers ≡ 32
  pub reserved : HasReserved p.format (reserved_of p) s.hart.registers
  pub code : HasCode p s.memory
  pub guards : HasGuards zones p s.memory

-- the same where the guard zones are empty
abbrev pub KeepsAll : Part → State → Type 0
KeepsAll = KeepsAllAs Empty
