-- Which runs of a sandbox are safe. This speaks of addresses and states alone, and of no rule.
use Rattle.std.specs.Prelude.{◌≡◌, ◌<◌, ◌⊎◌, ℕ, List, [], ◌∷◌, Option, Some, None}
use Rattle.std.specs.List.{All}
use Rattle.rv_word.specs.declared.instr.Instr.{Instr}
use Rattle.rv_mem.specs.Bytes.{address_after}
use Rattle.rv_step.specs.declared.outcome.Outcome.{Outcome}
use Rattle.rv_step.specs.declared.outcome.Outcome.TheVariants.{Next, Call, Trap}
use Rattle.rv_step.specs.Step.{Accesses, Stepped, Stands}
use Rattle.rv_step.specs.State.{State}
use Rattle.sfi_image.specs.declared.span.Span.{Span}
use Rattle.sfi_image.specs.Spelling.{Part, data_region, guarded_region}
use Rattle.sfi_safe_runs.specs.Runs.{InCode, InData, InGuard, IsGate, StaysOutside, Zones, Empty, Padded, Calls, ByEcall, Direct, Setting, plain, IsDirect, IsInBoard, IsOwnCode, OffGates, HasCodeAs, Turn, Steps, Replies, Changes, IsEntryAs, IsRunAs, after_turn}

-- an instruction stands at pc
pub record HasInstruction (s : State) : Type 0 where
  pub instr : Instr
  pub size : ℕ
  pub stands : Stands s instr size

-- pc is in the code; with direct gates it is in no springboard but at its first address
abbrev pub IsAtCode : Calls → Part → ℕ → Type 0
IsAtCode ByEcall p pc = InCode p pc
IsAtCode (Direct direct) p pc = InCode p pc × (IsInBoard p direct pc → IsDirect p direct pc)

-- The code's bytes are the image's, and pc lies in the code. Where it is at no direct gate, an instruction
-- stands at pc, each of whose bytes is one of the sandbox's own code.
pub record IsSafeStateAs (calls : Calls) (p : Part) (s : State) : Type 0 where
  pub code : HasCodeAs calls p s.memory
  pub present : OffGates calls p s.hart.pc (HasInstruction s)
  pub pc : IsAtCode calls p s.hart.pc
  pub instruction : OffGates calls p s.hart.pc (
      (i : Instr) (n : ℕ) → Stands s i n → (k : ℕ) → k < n
      → IsOwnCode calls p (address_after s.hart.pc k))

-- the step traps
abbrev pub IsTrap : Outcome → Type 0
IsTrap Next = ⊥
IsTrap Call = ⊥
IsTrap (Trap cause at) = Unit {0}

-- an access in a guard zone that is empty traps
abbrev pub TrapsIn : Zones → Part → State → Stepped → Type 0
TrapsIn Empty p s r = (i : Instr) (n : ℕ) → Stands s i n → (a : ℕ) → Accesses i s.hart a
    → InGuard p a → IsTrap r.outcome
TrapsIn Padded p s r = Unit {0}

-- what a step may change: the data region; where the guard zones hold bytes, these too
abbrev pub writable_region : Zones → Part → Span
writable_region Empty p = data_region p
writable_region Padded p = guarded_region p

-- Each address that the step accesses lies in the data region or in a guard zone, and if one lies in a
-- guard zone that is empty, the step traps. No byte changes but the data region's, and the guard zones'
-- where these may hold bytes. A call is at a listed gate.
pub record IsSafeStepAs (zones : Zones) (p : Part) (s : State) (r : Stepped) : Type 0 where
  pub within :
      (i : Instr) (n : ℕ) → Stands s i n → (a : ℕ) → Accesses i s.hart a → InData p a ⊎ InGuard p a
  pub trapped : TrapsIn zones p s r
  pub stays : StaysOutside (writable_region zones p) s.memory r.state.memory
  pub called : r.outcome ≡ Call → IsGate p s.hart.pc

-- the turn is safe: a reply, too, is made at a listed gate
abbrev pub IsSafeTurnAs : Zones → Part → State → Turn → Type 0
IsSafeTurnAs zones p s (Steps r) = IsSafeStepAs zones p s r
IsSafeTurnAs zones p s (Replies after) = IsGate p s.hart.pc
IsSafeTurnAs zones p s (Changes after) = Unit {0}

-- each state and each turn of the run is safe (a trap ends the run in the state before it)
abbrev pub IsSafeRunAs : Setting → Part → Option State → List Turn → Type 0
IsSafeRunAs t p None turns = Unit {0}
IsSafeRunAs t p (Some s) [] = IsSafeStateAs t.calls p s
IsSafeRunAs t p (Some s) (turn ∷ turns) =
    IsSafeStateAs t.calls p s × IsSafeTurnAs t.zones p s turn × IsSafeRunAs t p (after_turn turn) turns

-- every run from this state is safe
pub record RunsSafelyFromAs (t : Setting) (p : Part) (s : State) : Type 0 where
  pub safe : (turns : List Turn) → IsRunAs t p (Some s) turns → IsSafeRunAs t p (Some s) turns

-- every run from every state in which the sandbox may be entered is safe
pub record RunsSafelyAs (t : Setting) (p : Part) : Type 0 where
  pub from : (s : State) → IsEntryAs t p s → RunsSafelyFromAs t p s

-- ---- the plain way: what is said above, of empty guard zones and calls by an ecall

-- a safe state
abbrev pub IsSafeState : Part → State → Type 0
IsSafeState = IsSafeStateAs ByEcall

-- a safe step
abbrev pub IsSafeStep : Part → State → Stepped → Type 0
IsSafeStep = IsSafeStepAs Empty

-- a safe turn
abbrev pub IsSafeTurn : Part → State → Turn → Type 0
IsSafeTurn = IsSafeTurnAs Empty

-- a safe run
abbrev pub IsSafeRun : Part → Option State → List Turn → Type 0
IsSafeRun = IsSafeRunAs plain

-- every run from this state is safe
abbrev pub RunsSafelyFrom : Part → State → Type 0
RunsSafelyFrom = RunsSafelyFromAs plain

-- every run from every state in which the sandbox may be entered is safe
abbrev pub RunsSafely : Part → Type 0
RunsSafely = RunsSafelyAs plain

-- each of the sandboxes runs safely
pub record AllRunSafely (ps : List Part) : Type 0 where
  pub each : All RunsSafely ps
