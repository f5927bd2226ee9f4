-- Sessions: what a host does to a world, one action after another, in any order.
use Rattle.std.specs.Bool.{OnTrue, OnFalse}
use Rattle.std.specs.Prelude.{◌≡◌, ◌⊎◌, ◌↔◌, ◌==◌, ℕ, Bool, IsTrue, cond, List, [], ◌∷◌, length, map, Option, None, Some, IsSome, slice_get, slice_set}
use Rattle.rv_step.specs.State.{IsState}
use Rattle.sfi_image.specs.Spelling.{Part}
use Rattle.sfi_safety.specs.Clean.{MayRun}
use Rattle.sfi_host.specs.declared.status.Status.TheVariants.{Ready}
use Rattle.sfi_host.specs.declared.turn.Turn.{Turn}
use Rattle.sfi_host.specs.declared.waiting.Later.{Later}
use Rattle.sfi_host.specs.Hosts.{Reply, Host, replay}
use Rattle.sfi_host.specs.Slots.{Slot}
use Rattle.sfi_host.specs.Joint.{Machine, IsMachine, Given, joined, call_of, replied}
use Rattle.sfi_host.specs.Worlds.{Seat, Sandboxes, state_in, slots_of, status_at, IsSafeWorld, StaysOutsideData, HaveStoppedThemselves}
use Rattle.sfi_host.specs.Loading.{AreEnterable, MayEnterAt, with_entry, with_reset}
use Rattle.sfi_host.specs.Owning.{AreOwned}
use Rattle.sfi_host.specs.Waiting.{IsAtCall, later_reply, turn_of}
use Rattle.sfi_host.specs.Changing.{data_bytes_of, with_world_bytes, with_stop, hart_of, MaySetAt, with_hart, MayCallBackAt, with_callback}
use Rattle.sfi_host.specs.Adding.{MeetsSome, with_image, without, number_without}

-- ==== What a host does.

-- What a host does to one sandbox. `Run` is a turn of at most so many steps, with the replies that
-- are given at once, one at each call; the call after these ends it. So it is what
-- `World::run_to_call` does, with no reply; `World::run_until`, with the steps that are allowed up to
-- the stop; and `World::run_plan` in each turn, with the replies of that turn. The others are the
-- calls of `World` of the same names, with their arguments. A host's handlers, its console and C's
-- loops make these calls, too; what only reads changes nothing, and is no action. What a host tells
-- one sandbox of another is in the replies and writes that it gives it, which are its own actions.
pub data SandboxAction : Type 0 where
  Run : ℕ → List Reply → SandboxAction
  GiveReply : Later → SandboxAction
  Write : ℕ → List ℕ → SandboxAction
  Stop : SandboxAction
  Enter : ℕ → List ℕ → SandboxAction
  SetRegisters : ℕ → List ℕ → SandboxAction
  CallBack : ℕ → List ℕ → SandboxAction
  Reset : SandboxAction

-- what a host does to a world: something to the sandbox of a number; or it adds the sandboxes of an
-- image, or removes a sandbox
pub data HostAction : Type 0 where
  On : ℕ → SandboxAction → HostAction
  Add : List Part → HostAction
  Remove : ℕ → HostAction

-- ---- when it is done, and what it makes of the world

-- the call is done, not refused
abbrev pub IsAllowed : Sandboxes → ℕ → SandboxAction → Type 0
IsAllowed w i (Run steps replies) = Unit {0}
IsAllowed w i (GiveReply reply) = IsAtCall (slots_of w) i
IsAllowed w i (Write at bytes) = IsSome (data_bytes_of (slice_get (slots_of w) i) at (length bytes))
IsAllowed w i Stop = status_at (slots_of w) i ≡ Some Ready
IsAllowed w i (Enter pc arguments) = MayEnterAt (slots_of w) i pc
IsAllowed w i (SetRegisters pc registers) = MaySetAt (slots_of w) i (hart_of pc registers)
IsAllowed w i (CallBack pc arguments) = MayCallBackAt (slots_of w) i pc arguments
IsAllowed w i Reset = IsSome (slice_get (slots_of w) i)

-- the sandboxes are these then, and no byte that lies in no sandbox's data has changed
pub record HasSlots (w n : Sandboxes) (slots : List Slot) : Type 0 where
  pub slots_are : slots_of n ≡ slots
  pub outside : StaysOutsideData w n.bytes

-- the world after it
abbrev pub IsDone : Machine → Sandboxes → ℕ → SandboxAction → Sandboxes → Type 0
IsDone machine w i (Run steps replies) n =
    HasSlots w n (joined machine replay (turn_of i steps ∷ []) (slots_of w) replies).slots
IsDone machine w i (GiveReply reply) n =
    (slot : Slot) → slice_get (slots_of w) i ≡ Some slot
    → HasSlots w n
    (slice_set (slots_of w) i (replied slot (later_reply reply (call_of i slot))))
IsDone machine w i (Write at bytes) n = n ≡ with_world_bytes w at bytes
IsDone machine w i Stop n = n ≡ with_stop w i
IsDone machine w i (Enter pc arguments) n =
    (length arguments ≡ 8) × (n ≡ with_entry w i pc arguments)
IsDone machine w i (SetRegisters pc registers) n = n ≡ with_hart w i (hart_of pc registers)
IsDone machine w i (CallBack pc arguments) n = n ≡ with_callback w i pc arguments
IsDone machine w i Reset n = n ≡ with_reset w i

-- what the host does makes this of the world: it is done, or it is refused, and then nothing
-- changed; an addition or a removal that is refused, maybe for want of memory, is no action
abbrev pub Makes : Machine → Sandboxes → HostAction → Sandboxes → Type 0
Makes machine w (On i action) n =
    (IsAllowed w i action × IsDone machine w i action n)
    ⊎ ((IsAllowed w i action → ⊥) × (n ≡ w))
Makes machine w (Add parts) n =
    MayRun parts × (MeetsSome w parts → ⊥) × (n ≡ with_image w parts)
Makes machine w (Remove i) n = IsSome (slice_get w.seats i) × (n ≡ without w i)

-- A host hands over only words of 32 bits and bytes, so pc, registers and memory hold such: asked of
-- the world after an action.
abbrev pub AreInRange : Sandboxes → Type 0
AreInRange w = (i : ℕ) (s : Seat) → slice_get w.seats i ≡ Some s → IsState (state_in w.bytes s)

-- the host does this, and the second world is what comes of it
pub record IsAction (machine : Machine) (w : Sandboxes) (action : HostAction)
    (n : Sandboxes) : Type 0 where
  pub range : AreInRange n
  pub makes : Makes machine w action n

-- A call that answers whether it was done is this action, if its contract says: done exactly where
-- allowed, and then this; else nothing has changed; and the world is safe.
abbrev pub AnswersAreActions : Type 0
AnswersAreActions =
    (machine : Machine) (w n : Sandboxes) (i : ℕ) (action : SandboxAction) (answer : Bool)
    → (IsTrue answer ↔ IsAllowed w i action) → OnTrue answer (IsDone machine w i action n)
    → OnFalse answer (n ≡ w) → IsSafeWorld n → IsAction machine w (On i action) n

-- a session: actions, one after another, lead from the first world to the second
abbrev pub AreActions : Machine → Sandboxes → List HostAction → Sandboxes → Type 0
AreActions machine w [] n = n ≡ w
AreActions machine w (action ∷ more) n =
    (mid : Sandboxes) × IsAction machine w action mid × AreActions machine mid more n

-- what is kept of a world: each sandbox is safe, its data outside each other one, and may be entered,
-- and each byte of the memory is a sandbox's
pub record IsSoundWorld (w : Sandboxes) : Type 0 where
  pub safe : IsSafeWorld w
  pub enterable : AreEnterable w
  pub owned : AreOwned w

-- ---- a plan

-- the turns of a plan that are begun, in their order, each with the replies that it gets of this
-- host
abbrev pub plan_actions :
    {S : Type 0} → Machine → Host S → List Turn → List Slot → S → List HostAction
plan_actions machine host [] slots s = []
plan_actions machine host (t ∷ plan) slots s =
    let turn = joined machine host (t ∷ []) slots s in
    On t.sandbox (Run t.steps (map (λ (g : Given). g.reply) turn.replies))
    ∷ cond turn.is_ended [] (plan_actions machine host plan turn.slots turn.host)

-- a plan is a session: where the sandboxes are what it comes to with some host, its turns lead there
abbrev pub PlansAreSessions : Type 0 → Type 0
PlansAreSessions S =
    (machine : Machine) → IsMachine machine → (host : Host S) (plan : List Turn) (w n : Sandboxes)
    → (s : S) → IsSoundWorld w → HasSlots w n (joined machine host plan (slots_of w) s).slots
    → AreActions machine w (plan_actions machine host plan (slots_of w) s) n

-- ==== Each session keeps the world safe.

-- From a sound world each session leads to a sound world, in which each sandbox that has exited or
-- trapped did so itself; so after each action, too, since the actions up to it are a session. (The
-- steps within a `Run` are safe by `joined_world_steps`, of the world before it.)
abbrev pub SessionsAreSafe : Type 0
SessionsAreSafe =
    (machine : Machine) → IsMachine machine → (actions : List HostAction) (w n : Sandboxes)
    → IsSoundWorld w → AreActions machine w actions n → IsSoundWorld n × HaveStoppedThemselves n

-- each session comes to one world at most
abbrev pub SessionsAreOne : Type 0
SessionsAreOne =
    (machine : Machine) (actions : List HostAction) (w n other : Sandboxes)
    → AreActions machine w actions n → AreActions machine w actions other → n ≡ other

-- ==== In each session a sandbox is its own.

-- the world that has this sandbox alone, as number 0
abbrev pub alone : Slot → Sandboxes
alone slot = record {
  bytes = slot.bytes;
  seats = record {
    bounds = slot.bounds;
    hart = slot.hart;
    status = slot.status;
    steps = slot.steps;
  } ∷ [];
}

-- the actions on sandbox `i`, in their order, as those on number 0; once one of a lower number is
-- removed, its number is less by one
abbrev pub own_actions : ℕ → List HostAction → List HostAction
own_actions i [] = []
own_actions i (On j action ∷ more) =
    cond (j == i) (On 0 action ∷ own_actions i more) (own_actions i more)
own_actions i (Add parts ∷ more) = own_actions i more
own_actions i (Remove j ∷ more) = own_actions (number_without j i) more

-- the number of sandbox `i` after the actions; None once it is removed
abbrev pub number_after : ℕ → List HostAction → Option ℕ
number_after i [] = Some i
number_after i (On j action ∷ more) = number_after i more
number_after i (Add parts ∷ more) = number_after i more
number_after i (Remove j ∷ more) = cond (j == i) None (number_after (number_without j i) more)

-- the sandbox that was `old`, and has number k now, is what its own actions make of it alone
pub record IsItsOwn (machine : Machine) (own : List HostAction) (old : Slot) (n : Sandboxes)
    (k : ℕ) : Type 0 where
  pub slot : Slot
  pub there : slice_get (slots_of n) k ≡ Some slot
  pub is : AreActions machine (alone old) own (alone slot)

-- Whatever a session does to others, each sandbox of the first world that isn't removed is what its
-- own actions make of it alone. So, by each beginning of the session, the same of them are refused;
-- and of one that is added the rest of the session says so.
abbrev pub SandboxesAreTheirOwn : Type 0
SandboxesAreTheirOwn =
    (machine : Machine) → IsMachine machine → (actions : List HostAction) (w n : Sandboxes)
    → IsSoundWorld w → AreActions machine w actions n
    → (i k : ℕ) (slot : Slot) → slice_get (slots_of w) i ≡ Some slot
    → number_after i actions ≡ Some k → IsItsOwn machine (own_actions i actions) slot n k

-- So two sessions that do the same to a sandbox leave it the same, in whatever worlds and whatever
-- each does to others.
abbrev pub OthersMakeNoDifference : Type 0
OthersMakeNoDifference =
    (machine : Machine) → IsMachine machine → (first second : List HostAction)
    → (w n v m : Sandboxes) → IsSoundWorld w → IsSoundWorld v → AreActions machine w first n
    → AreActions machine v second m → (i j k l : ℕ) (slot : Slot)
    → slice_get (slots_of w) i ≡ Some slot → slice_get (slots_of v) j ≡ Some slot
    → own_actions i first ≡ own_actions j second → number_after i first ≡ Some k
    → number_after j second ≡ Some l → slice_get (slots_of n) k ≡ slice_get (slots_of m) l
