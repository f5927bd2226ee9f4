-- What a call makes of a world.
use Rattle.std.specs.Bool.{OnTrue, OnFalse}
use Rattle.std.specs.Prelude.{◌≡◌, ◌↔◌, ℕ, Bool, false, IsTrue, [], ◌∷◌, List, Option, Some, None, IsSome, slice_get, slice_set}
use Rattle.rv_step.specs.State.{Hart}
use Rattle.sfi_host.specs.declared.turn.Turn.{Turn}
use Rattle.sfi_host.specs.declared.waiting.Later.{Later}
use Rattle.sfi_image.specs.Spelling.{Part}
use Rattle.sfi_host.specs.Adding.{with_image, EarlierAreSame, without, RestIsSame, AreChangesToRest}
use Rattle.sfi_host.specs.Changing.{with_callback, OthersAreSame, AreChanges, with_world_bytes, with_hart, with_stop}
use Rattle.sfi_host.specs.Loading.{AreEntered, HaveFirstData, IsAtEntry, with_entry, with_reset}
use Rattle.sfi_host.specs.Joint.{Machine, IsMachine, call_of, joint as joint_run, replied}
use Rattle.sfi_host.specs.WorldSteps.{HaveRun, HaveRunJointly}
use Rattle.sfi_host.specs.Owning.{AreOwned}
use Rattle.sfi_host.specs.Plans.{IsJoint, IsCutJoint}
use Rattle.sfi_host.specs.Sessions.{SandboxAction, Run, Enter, HostAction, On, Add, Remove, IsAllowed, IsAction}
use Rattle.sfi_host.specs.Slots.{Slot}
use Rattle.sfi_host.specs.Waiting.{HasRunUntil, turn_of, to_call, later_answer, later_reply}
use Rattle.sfi_host.specs.Worlds.{Sandboxes, slots_of, IsSafeWorld, StaysOutsideData, HaveStoppedThemselves}
use Rattle.sfi_host.specs.declared.turn.RunAnswer.TheVariants.{Done, Memory}
use Rattle.sfi_host.specs.Consoles.{ConsoleState, console, console_may_refuse}

-- ==== What each call is, in the words of sessions.

-- what the host does this to is the first world, and the second is what comes of it
abbrev pub IsDoing : Sandboxes → HostAction → Sandboxes → Type 0
IsDoing w action n = (machine : Machine) → IsMachine machine → IsAction machine w action n

-- A call that does this to a sandbox of a safe world answers whether it was done: exactly where it is
-- allowed. Then the outcome holds; else nothing has changed.
pub record IsCall (answer : Bool) (w n : Sandboxes) (sandbox : ℕ) (asked : SandboxAction)
    (outcome : Type 0) : Type 0 where
  pub may : IsTrue answer ↔ IsAllowed w sandbox asked
  pub done : OnTrue answer outcome
  pub refused : OnFalse answer (n ≡ w)
  pub action : IsDoing w (On sandbox asked) n
  pub safe : IsSafeWorld n

-- So is such a call of C's, of the world that it holds; without one it answers false, and there is none
-- after it.
pub record IsHeldCall (answer : Bool) (old new : Option Sandboxes) (sandbox : ℕ)
    (asked : SandboxAction) (outcome : Sandboxes → Sandboxes → Type 0) : Type 0 where
  pub call : (w n : Sandboxes) → old ≡ Some w → new ≡ Some n
      → IsCall answer w n sandbox asked (outcome w n)
  pub held : IsSome old ↔ IsSome new
  pub none : old ≡ None → answer ≡ false

-- ==== What comes of each.

-- Still a safe world. What has exited or trapped in it did so itself, and no byte outside all data
-- has changed.
pub record IsStillSafe (w n : Sandboxes) : Type 0 where
  pub safe : IsSafeWorld n
  pub stops : HaveStoppedThemselves n
  pub outside : StaysOutsideData w n.bytes

-- a turn of that sandbox, as a plan
abbrev pub plan_of : ℕ → ℕ → List Turn
plan_of sandbox steps = record { sandbox = sandbox; steps = steps } ∷ []

-- sandbox `sandbox` took a turn of at most `steps` steps, up to its first call
pub record HasRunToCall (w n : Sandboxes) (sandbox steps : ℕ) : Type 0 where
  pub ran : (machine : Machine) → IsMachine machine
      → slots_of n ≡ (to_call machine (plan_of sandbox steps) (slots_of w)).slots
  pub runs : (machine : Machine) → IsMachine machine
      → HaveRun machine (plan_of sandbox steps) w n (λ plan. to_call machine plan (slots_of w))
  pub action : IsDoing w (On sandbox (Run steps [])) n
  pub still : IsStillSafe w n

-- it took such a turn up to a stop
pub record HasRunToStop (w n : Sandboxes) (sandbox steps : ℕ) (stops : List ℕ) : Type 0 where
  pub ran : HasRunUntil stops (turn_of sandbox steps) w n
  pub action : (count : ℕ) × IsDoing w (On sandbox (Run count [])) n
  pub still : IsStillSafe w n

-- sandbox `sandbox` got this reply to its call
pub record HasReplied (w n : Sandboxes) (sandbox : ℕ) (r : Later) : Type 0 where
  pub got : (slot : Slot) → slice_get (slots_of w) sandbox ≡ Some slot
      → slots_of n
      ≡ slice_set (slots_of w) sandbox (replied slot (later_reply r (call_of sandbox slot)))
  pub joint : (machine : Machine) → IsMachine machine
      → IsJoint machine later_answer (plan_of sandbox 1) (slots_of w) r (slots_of n) r
  pub runs : (machine : Machine) → IsMachine machine
      → HaveRun machine (plan_of sandbox 1) w n
      (λ plan. joint_run machine later_answer plan (slots_of w) r None)
  pub others : OthersAreSame w sandbox n
  pub still : IsStillSafe w n

-- these bytes are in its data, from that address on
pub record HasWritten (w n : Sandboxes) (sandbox at : ℕ) (bytes : List ℕ) : Type 0 where
  pub done : n ≡ with_world_bytes w at bytes
  pub others : OthersAreSame w sandbox n
  pub outside : StaysOutsideData w n.bytes
  pub changes : AreChanges w n

-- it is entered at pc, with these arguments
pub record HasEntered (w n : Sandboxes) (sandbox pc : ℕ) (arguments : List ℕ) : Type 0 where
  pub done : n ≡ with_entry w sandbox pc arguments
  pub others : OthersAreSame w sandbox n
  pub entry : IsAtEntry n sandbox

-- it is ready with this pc and these registers
pub record HasRegisters (w n : Sandboxes) (sandbox : ℕ) (h : Hart) : Type 0 where
  pub done : n ≡ with_hart w sandbox h
  pub others : OthersAreSame w sandbox n
  pub entry : IsAtEntry n sandbox

-- it waited at a call, and is called back at pc, with these arguments
pub record HasCalledBack (w n : Sandboxes) (sandbox pc : ℕ) (arguments : List ℕ) : Type 0 where
  pub done : n ≡ with_callback w sandbox pc arguments
  pub others : OthersAreSame w sandbox n
  pub entry : IsAtEntry n sandbox

-- it was entered at pc as a function with these arguments, and then took a turn up to its first
-- call
pub record HasCalled (w n : Sandboxes) (sandbox pc : ℕ) (arguments : List ℕ) (steps : ℕ) : Type 0 where
  pub begun : Sandboxes
  pub entered : HasEntered w begun sandbox pc arguments
  pub action : IsDoing w (On sandbox (Enter pc arguments)) begun
  pub ran : HasRunToCall begun n sandbox steps

-- it is stopped, and nothing else changed
pub record HasBeenStopped (w n : Sandboxes) (sandbox : ℕ) : Type 0 where
  pub done : n ≡ with_stop w sandbox
  pub others : OthersAreSame w sandbox n

-- it is what it was when its world was loaded
pub record HasBeenReset (w n : Sandboxes) (sandbox : ℕ) : Type 0 where
  pub done : n ≡ with_reset w sandbox
  pub others : OthersAreSame w sandbox n
  pub outside : StaysOutsideData w n.bytes
  pub entry : IsAtEntry n sandbox

-- it has the sandboxes of these parts after its own, each as at its start, and nothing else changed
pub record HasAdded (w : Sandboxes) (ps : List Part) (n : Sandboxes) : Type 0 where
  pub done : n ≡ with_image w ps
  pub entered : AreEntered ps n.bytes
  pub first_data : HaveFirstData ps n.bytes
  pub earlier : EarlierAreSame w n
  pub changes : AreChanges w n
  pub action : IsDoing w (Add ps) n

-- sandbox `sandbox` is gone, each later one has a number less by one, and nothing else changed
pub record HasLost (w : Sandboxes) (sandbox : ℕ) (n : Sandboxes) : Type 0 where
  pub done : n ≡ without w sandbox
  pub owned : AreOwned n
  pub rest : RestIsSame w sandbox n
  pub changes : AreChangesToRest w sandbox n
  pub action : IsDoing w (Remove sandbox) n

-- ==== A console as the host of a sandbox's turn.

-- sandbox `sandbox` took a turn of at most `steps` steps, in which the console answered each
-- call
pub record HasServed (w n : Sandboxes) (c d : ConsoleState) (sandbox steps : ℕ) : Type 0 where
  pub ran : (machine : Machine) → IsMachine machine
      → IsJoint machine console (plan_of sandbox steps) (slots_of w) c (slots_of n) d
  pub runs : (machine : Machine) → IsMachine machine
      → HaveRunJointly Done machine console console_may_refuse (plan_of sandbox steps) w c n d
  pub still : IsStillSafe w n

-- it took the turn up to a put for which the console had no memory, and stands at that call
pub record HasRunShort (w n : Sandboxes) (c d : ConsoleState) (sandbox steps : ℕ) : Type 0 where
  pub cut : (machine : Machine) → IsMachine machine
      → IsCutJoint machine console console_may_refuse (plan_of sandbox steps) (slots_of w) c 0
      (slots_of n) d
  pub runs : (machine : Machine) → IsMachine machine
      → HaveRunJointly (Memory 0) machine console console_may_refuse (plan_of sandbox steps) w c n d
  pub still : IsStillSafe w n
