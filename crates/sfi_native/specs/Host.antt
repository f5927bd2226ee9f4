-- What a host does where code has come out: it makes the turn's moves of `Slow` and `Loop`, and enters code again.
use Rattle.std.specs.Prelude.{◌≡◌, ◌⊎◌, ℕ, zero, suc, ◌+◌, ◌^◌, ◌<◌, List, length, Option, Some, None, ◌≤◌}
use Rattle.rv_mem.specs.Bytes.{byte_at}
use Rattle.rv_step.specs.declared.outcome.Outcome.{Outcome}
use Rattle.rv_step.specs.declared.outcome.Outcome.TheVariants.{Next}
use Rattle.rv_step.specs.State.{Hart, IsState, State, register}
use Rattle.sfi_image.specs.Parts.{IsRightPart}
use Rattle.sfi_image.specs.Spelling.{Part}
use Rattle.sfi_translate.specs.Lines.{Line}
use Rattle.sfi_translate.specs.Machine.{Assembly, Before, ControlPoint, Going, IsTranslatedStep, Loop, Slow, Stopped, fixed}
use Rattle.sfi_translate.specs.Laws.{HasData, IsOver}
use Rattle.x86_step.specs.Accesses.{AccessesLieIn}
use Rattle.x86_step.specs.State.{Core, Machine, Text}
use Rattle.x86_step.specs.Step.{Reaches}
use Rattle.sfi_native.specs.declared.layout.Layout.{Layout}
use Rattle.sfi_native.specs.Registers.{assigned}
use Rattle.sfi_native.specs.Layout.{Holds, IsLayout, IsOutside, IsRelated, OthersStay, frame_size, slots_size}
use Rattle.sfi_native.specs.Laws.{IsAlike}
use Rattle.sfi_native.specs.Places.{IsAt, with_owed}

-- moves from these places are the host's, all others the code's
abbrev pub IsHosts : ControlPoint → Type 0
IsHosts Slow = Unit {0}
IsHosts Loop = Unit {0}
IsHosts place = ⊥

-- ==== What it reads and writes.

-- A host reads this state: pc from edx (2), registers from where they lie, and data.
pub record Reads (p : Part) (l : Layout) (c : Core) (s : State) : Type 0 where
  pub pc : c.registers 2 ≡ s.hart.pc
  pub registers : (r : ℕ) → r < 32 → Holds l c r (assigned l.plan r) (register s.hart r)
  pub bytes : (k : ℕ) → k < p.data_size → c.memory (l.data_start + k) ≡ byte_at s.memory (p.data_base + k)

-- The state is one of a machine, in which x0 and the reserved registers have the values that lines take them to have. All
-- states that a run comes to are such.
pub record IsProper (p : Part) (s : State) : Type 0 where
  pub state : IsState s
  pub fixed_is : fixed p s.hart ≡ s.hart

-- So the state that a host reads there is the turn's, and r14 (14) has the steps left: nothing is owed.
abbrev pub HostReads : Type 0
HostReads =
    (p : Part) (l : Layout) (base : ℕ) (code : List Line) (g : Going) (m : Machine)
    → IsHosts g.place → IsProper p g.state → IsAlike p l base code g m
    → Reads p l m.core g.state × (m.core.registers 14 ≡ g.left)

-- ==== What it does.

-- code is entered there
abbrev pub IsInCode : ControlPoint → Type 0
IsInCode (Before lines) = Unit {0}
IsInCode place = ⊥

-- A host's moves, slow steps and tests of the loop, lead from one state of the turn to where code is entered or the turn is over.
pub data HostMoves (p : Part) (code : List Line) : Going → Going → Type 0 where
  arrives : (g : Going) → IsInCode g.place ⊎ IsOver g → HostMoves p code g g
  makes : (g h k : Going) → IsHosts g.place → IsTranslatedStep Assembly p code g h → HostMoves p code h k → HostMoves p code g k

-- What a host hands over where a turn is over, beside the data, which lie where they lay: the outcome, `Next` where no step is left,
-- the pc and registers, and the steps left.
pub record Ending : Type 0 where
  pub outcome : Outcome
  pub hart : Hart
  pub left : ℕ

pub record Host : Type 1 where
  -- what it may do from a state of the processor to another: it enters code there, or hands over an ending
  pub does : Machine → Option Ending → Machine → Type 0
  -- addresses it may also write, as its stack's
  pub own : ℕ → Type 0
  -- what must hold where code comes out
  pub relies : Core → Type 0

-- the outcome of a turn that stands there; None where code is entered
abbrev pub answer_of : ControlPoint → Option Outcome
answer_of (Stopped o) = Some o
answer_of Loop = Some Next
answer_of place = None

-- Of memory a host changes frame, data and its own alone.
pub record SparesMemory (p : Part) (l : Layout) (own : ℕ → Type 0) (c d : Core) : Type 0 where
  pub elsewhere : (a : ℕ) → (own a → ⊥) → IsOutside a l.frame frame_size → IsOutside a l.data_start p.data_size → d.memory a ≡ c.memory a
  pub writable : (a : ℕ) → (own a → ⊥) → d.writable a ≡ c.writable a

-- So it does where it enters code, with the same behind the frame's registers as where code was entered before.
pub record Spares (p : Part) (l : Layout) (own : ℕ → Type 0) (c d : Core) : Type 0 where
  pub pointers : (k : ℕ) → slots_size ≤ k → k < frame_size → d.memory (l.frame + k) ≡ c.memory (l.frame + k)
  pub memory : SparesMemory p l own c d

-- Registers, data and steps left are the turn's, and the processor is where it goes on.
pub record Serves (p : Part) (l : Layout) (base : ℕ) (code : List Line) (own : ℕ → Type 0) (k : Going) (m n : Machine) : Type 0 where
  pub related : IsRelated p l (with_owed l.plan p k) n.core
  pub is_at : IsAt l.plan base code k n
  pub spares : Spares p l own m.core n.core

-- The ending is that of a turn that stands there, and the processor has its data.
pub record HandsOver (p : Part) (l : Layout) (own : ℕ → Type 0) (k : Going) (m : Machine) (e : Ending) (n : Machine) : Type 0 where
  pub outcome : Some e.outcome ≡ answer_of k.place
  pub hart : e.hart ≡ k.state.hart
  pub left : e.left ≡ k.left
  pub bytes : (j : ℕ) → j < p.data_size → n.core.memory (l.data_start + j) ≡ byte_at k.state.memory (p.data_base + j)
  pub spares : SparesMemory p l own m.core n.core

-- an answer and the state of the processor with it are right: code is entered where the turn goes on, or the turn's ending is given
abbrev pub Answers : Part → Layout → ℕ → List Line → (ℕ → Type 0) → Going → Machine → Option Ending → Machine → Type 0
Answers p l base code own k m None n = (None ≡ answer_of k.place) × Serves p l base code own k m n
Answers p l base code own k m (Some e) n = HandsOver p l own k m e n

-- Where code has come out the host does something, and all that it may do is right. Where it enters code, what it relies on holds.
pub record Works (p : Part) (l : Layout) (base : ℕ) (code : List Line) (host : Host) (k : Going) (m : Machine) : Type 0 where
  pub answers : (a : Option Ending) × (n : Machine) × host.does m a n
  pub right : (a : Option Ending) (n : Machine) → host.does m a n → Answers p l base code host.own k m a n
  pub relies : (n : Machine) → host.does m None n → host.relies n.core

-- So a host works wherever code comes out for a slow step, between proper states, of which the first has all bytes of the data
-- and fewer steps left than 2^31, as each state of a turn has; with what it relies on, of which code changes nothing.
pub record IsHost (p : Part) (l : Layout) (base : ℕ) (code : List Line) (host : Host) : Type 0 where
  pub kept : (c d : Core) → OthersStay p l c d → host.relies c → host.relies d
  pub works : (g k : Going) (m : Machine) → g.place ≡ Slow → g.left < 2 ^ 31 → IsProper p g.state → HasData p g.state.memory
      → IsProper p k.state → IsAlike p l base code g m → host.relies m.core → HostMoves p code g k → Works p l base code host k m

-- Wherever a host's moves lead, where fewer than 2^31 steps are left, there is a state of the processor that serves.
abbrev pub EachWorkCanBeDone : Type 1
EachWorkCanBeDone =
    (p : Part) (l : Layout) (base : ℕ) (code : List Line) (own : ℕ → Type 0) (g k : Going) (m : Machine)
    → IsLayout p l → IsProper p k.state → IsHosts g.place → g.left < 2 ^ 31 → IsRelated p l g m.core → HostMoves p code g k
    → (n : Machine) × Serves p l base code own k m n

-- a host that relies on nothing
abbrev pub host_of : (Machine → Option Ending → Machine → Type 0) → (ℕ → Type 0) → Host
host_of does own = record { does = does; own = own; relies = λ c. Unit {0} }

-- There is such a host, whatever memory is its own: from states that the processor can't tell apart moves lead to such states. Its
-- turns can begin (`EachTurnCanBegin`).
abbrev pub ThereIsAHost : Type 1
ThereIsAHost =
    (p : Part) (l : Layout) (base : ℕ) (code : List Line) (own : ℕ → Type 0) → IsRightPart p → IsLayout p l
    → (does : Machine → Option Ending → Machine → Type 0) × IsHost p l base code (host_of does own)

-- ==== Code and host by turns.

-- The processor has one way: where a text ends at the way out, its code comes out in one state.
abbrev pub OneWayOut : Type 0
OneWayOut =
    (t : Text) (a b : ℕ) (m n k : Machine) → let out = t.base + length t.bytes in
    Reaches t a m n → Reaches t b m k → n.rip ≡ out → k.rip ≡ out → n ≡ k

-- A round: code comes out at the end of its text, in one state, by some of the instructions that are left to the turn, which access
-- memory at some addresses alone; there the host does something; and whatever it does, its answer ends the turn as it has to, or
-- it enters code anew, with the rest of them.
pub record Round (t : Text) (p : Part) (l : Layout) (there : ℕ → Type 0) (host : Host) (Ended : Ending → Machine → Type 0)
    (Entered : ℕ → Machine → Type 0) (instructions : ℕ) (m : Machine) : Type 0 where
  pub out : Machine
  pub made : ℕ
  pub rest : ℕ
  pub as_many : made + rest ≤ instructions
  pub comes_out : Reaches t made m out
  pub is_out : out.rip ≡ t.base + length t.bytes
  pub only : (most : ℕ) (n : Machine) → Reaches t most m n → n.rip ≡ t.base + length t.bytes → n ≡ out
  pub accesses : AccessesLieIn there t m
  pub others : OthersStay p l m.core out.core
  pub answers : (a : Option Ending) × (n : Machine) × host.does out a n
  pub ends : (e : Ending) (n : Machine) → host.does out (Some e) n → Ended e n
  pub enters : (n : Machine) → host.does out None n → Entered rest n

-- At most so many rounds, and so many instructions of code, end the turn as it has to, whatever the host does.
abbrev pub EndsWithin : ℕ → ℕ → Text → Part → Layout → (ℕ → Type 0) → Host → (Ending → Machine → Type 0) → Machine → Type 0
EndsWithin zero instructions t p l there host Ended m = ⊥
EndsWithin (suc rounds) instructions t p l there host Ended m =
    Round t p l there host Ended (λ rest n. EndsWithin rounds rest t p l there host Ended n) instructions m
