-- What a plan does in the one memory, one world step after another, and what that is to each
-- sandbox.
use Rattle.std.specs.Prelude.{◌≡◌, ◌≢◌, ◌≤◌, ℕ, ◌==◌, cond, Bool, List, [], ◌∷◌, ◌++◌, length, Option, Some, None, slice_get, slice_set, take}
use Rattle.std.specs.List.{All}
use Rattle.rv_mem.specs.Bytes.{Bytes}
use Rattle.rv_step.specs.State.{State}
use Rattle.rv_step.specs.Step.{Stepped}
use Rattle.sfi_image.specs.Spelling.{Part}
use Rattle.sfi_safe_runs.specs.Runs.{HasCode, StaysOutside, Turn, Steps, Replies, Changes, KeepsBytes, IsRun}
use Rattle.sfi_safe_runs.specs.Safety.{IsSafeRun}
use Rattle.sfi_safe_runs.specs.Calling.{after_turns}
use Rattle.sfi_host.specs.declared.status.Status.{Status}
use Rattle.sfi_host.specs.declared.status.Status.TheVariants.{Ready, Exited, Trapped, Stopped}
use Rattle.sfi_host.specs.declared.turn.RunAnswer.{RunAnswer}
use Rattle.sfi_host.specs.declared.turn.RunAnswer.TheVariants as answers
use Rattle.sfi_host.specs.declared.turn.StepResult.TheVariants.{RunEnds}
use Rattle.sfi_host.specs.declared.turn.Turn.{Turn as PlanTurn}
use Rattle.sfi_host.specs.Hosts.{Call, Reply, Answer, Host, replay}
use Rattle.sfi_host.specs.Slots.{Slot, bounds_of}
use Rattle.sfi_host.specs.Joint.{Machine, IsMachine, moved, Given, given, Joined, joined, joint}
use Rattle.sfi_host.specs.Plans.{IsCutJoint}
use Rattle.sfi_host.specs.Worlds.{Seat, Sandboxes, slot_of, slots_of, state_in, IsSafeWorld, StaysOutsideData}

-- ---- world steps

-- One step of `moved`, with these replies given, one or none: sandbox `i` gets them
-- all in it, and then it is the slot t. A call that isn't answered is no step: so the ecall at
-- which a plan ended is no world step, though control reached the host there.
pub record StepsAlone (machine : Machine) (i : ℕ) (s : Slot) (replies : List Reply)
    (t : Slot) : Type 0 where
  pub slot : (moved machine replay i s replies).slot ≡ t
  pub got : (moved machine replay i s replies).replies ≡ replies
  pub answered : (moved machine replay i s replies).next ≢ RunEnds

-- a world step: the number of the sandbox that takes it, the reply that it gets, if it gets one,
-- and the memory and the sandbox's seat after it
pub record WorldStep : Type 0 where
  pub number : ℕ
  pub replies : List Reply
  pub bytes : Bytes
  pub seat : Seat

-- the world after a world step
abbrev pub after_world_step : Sandboxes → WorldStep → Sandboxes
after_world_step w v = record { bytes = v.bytes; seats = slice_set w.seats v.number v.seat }

-- A ready sandbox of the world takes one step of `moved`, with these replies given. In the one
-- memory that is the machine's step, if it gets no reply, and it changes its own data alone.
pub record IsWorldStep (machine : Machine) (w : Sandboxes) (v : WorldStep) : Type 0 where
  pub seat : Seat
  pub there : slice_get w.seats v.number ≡ Some seat
  pub ready : seat.status ≡ Ready
  pub alone : StepsAlone machine v.number (slot_of w.bytes seat) v.replies (slot_of v.bytes v.seat)
  pub step : v.replies ≡ [] → state_in v.bytes v.seat ≡ (machine (state_in w.bytes seat)).state
  pub others : StaysOutside seat.bounds.data w.bytes v.bytes

-- World steps of any sandboxes, one after another, lead from the first world to the second. After
-- each the world is safe.
abbrev pub AreWorldSteps : Machine → Sandboxes → List WorldStep → Sandboxes → Type 0
AreWorldSteps machine w [] n = n ≡ w
AreWorldSteps machine w (v ∷ moves) n =
    IsWorldStep machine w v × IsSafeWorld (after_world_step w v) × AreWorldSteps machine (after_world_step w v) moves n

-- ---- what world steps are to one sandbox

-- A sandbox's own world step is, as a turn: a reply, if the sandbox goes on after one; else the
-- machine's step in the one memory, at an exit that of the ecall. `after` is the state after the
-- world step.
abbrev pub own_turn : Stepped → State → List Reply → Status → Turn
own_turn step after [] status = Steps step
own_turn step after (r ∷ replies) Ready = Replies after
own_turn step after (r ∷ replies) (Exited n) = Steps step
own_turn step after (r ∷ replies) (Trapped cause at) = Steps step
own_turn step after (r ∷ replies) Stopped = Steps step

-- the sandbox's own turn and the turns after it: after its last turn none comes
abbrev pub own_turns : Status → Turn → List Turn → List Turn
own_turns Ready turn later = turn ∷ later
own_turns (Exited n) turn later = turn ∷ []
own_turns (Trapped cause at) turn later = turn ∷ []
own_turns Stopped turn later = turn ∷ []

-- To sandbox `i`, which has this seat in this memory, its own world steps are its
-- turns, and each world step of another is a change by others.
abbrev pub turns_to : Machine → ℕ → Bytes → Seat → List WorldStep → List Turn
turns_to machine i m s [] = []
turns_to machine i m s (v ∷ moves) =
    cond (v.number == i)
    (own_turns v.seat.status
    (own_turn (machine (state_in m s)) (state_in v.bytes v.seat) v.replies v.seat.status)
    (turns_to machine i v.bytes v.seat moves))
    (Changes (state_in v.bytes s) ∷ turns_to machine i v.bytes s moves)

-- The turns are a run of the sandbox from the first world. Its code and its empty guard zones are
-- kept, and it lies where it lay. If it is ready in the second world, the turns lead it to its
-- state there; if it had stopped in the first world, it is the same in the second.
pub record IsRunBetween (p : Part) (w n : Sandboxes) (i : ℕ) (s : Seat)
    (turns : List Turn) : Type 0 where
  pub run : IsRun p (Some (state_in w.bytes s)) turns
  pub kept : KeepsBytes p w.bytes n.bytes
  pub seat : Seat
  pub there : slice_get n.seats i ≡ Some seat
  pub bounds : seat.bounds ≡ s.bounds
  pub leads : seat.status ≡ Ready
      → after_turns (Some (state_in w.bytes s)) turns ≡ Some (state_in n.bytes seat)
  pub stays : s.status ≢ Ready → slot_of n.bytes seat ≡ slot_of w.bytes s

-- The second world is safe, no byte outside the data of all has changed, and to each sandbox the
-- world steps are a run.
pub record AreRuns (machine : Machine) (w n : Sandboxes) (moves : List WorldStep) : Type 0 where
  pub safe_world : IsSafeWorld n
  pub outside : StaysOutsideData w n.bytes
  pub each : (i : ℕ) (s : Seat) (p : Part) → slice_get w.seats i ≡ Some s → s.bounds ≡ bounds_of p
      → IsRunBetween p w n i s (turns_to machine i w.bytes s moves)

-- to each sandbox that was ready the world steps are a safe run of the part whose code it has
abbrev pub AreSafeRuns : Machine → Sandboxes → List WorldStep → Type 0
AreSafeRuns machine w moves =
    (i : ℕ) (s : Seat) (p : Part) → slice_get w.seats i ≡ Some s → s.bounds ≡ bounds_of p
    → s.status ≡ Ready → HasCode p w.bytes
    → IsSafeRun p (Some (state_in w.bytes s)) (turns_to machine i w.bytes s moves)

-- ---- what a plan does

-- a turn's share of the world steps: they are world steps of its sandbox, at most as many as the
-- turn allows steps
pub record IsTurnsShare (turn : PlanTurn) (share : List WorldStep) : Type 0 where
  pub only : All (λ (v : WorldStep). v.number ≡ turn.sandbox) share
  pub count : length share ≤ turn.steps

-- each of a plan's turns has its share
abbrev pub AreShares : List PlanTurn → List (List WorldStep) → Type 0
AreShares [] shares = shares ≡ []
AreShares (t ∷ plan) [] = ⊥
AreShares (t ∷ plan) (share ∷ shares) = IsTurnsShare t share × AreShares plan shares

-- the world steps of these shares, in their order
abbrev pub all_of : List (List WorldStep) → List WorldStep
all_of [] = []
all_of (share ∷ shares) = share ++ all_of shares

-- the replies that were got in the world steps, and who got them
abbrev pub given_in : List WorldStep → List Given
given_in [] = []
given_in (v ∷ moves) = given v.number v.replies ++ given_in moves

-- World steps in the one memory lead from the first world to the second, and come to this joint
-- run: to its slots, with its replies in their order.
pub record ComeTo {S : Type 0} (machine : Machine) (w : Sandboxes) (moves : List WorldStep)
    (n : Sandboxes) (all : Joined S) : Type 0 where
  pub lead : AreWorldSteps machine w moves n
  pub slots : slots_of n ≡ all.slots
  pub replies : given_in moves ≡ all.replies

-- The world steps of a plan's turns lead from the first world to the second. `run_of` is the joint
-- run of a plan: the world steps of the first k turns come to that of these turns, for each k, and
-- all world steps to that of the whole plan. To each sandbox they are a run, and where it was ready
-- a safe one.
pub record HaveRun {S : Type 0} (machine : Machine) (plan : List PlanTurn) (w n : Sandboxes)
    (run_of : List PlanTurn → Joined S) : Type 0 where
  pub shares : List (List WorldStep)
  pub order : AreShares plan shares
  pub first : (k : ℕ)
      → (mid : Sandboxes) × ComeTo machine w (all_of (take k shares)) mid (run_of (take k plan))
  pub whole : ComeTo machine w (all_of shares) n (run_of plan)
  pub runs : AreRuns machine w n (all_of shares)
  pub safe_runs : AreSafeRuns machine w (all_of shares)

-- ---- the joint run of a safe world

-- What the joint run does from a safe world, with any host, is a list of world steps in the one
-- memory.
abbrev pub JoinedWorldSteps : Type 0 → Type 0
JoinedWorldSteps S =
    (machine : Machine) (host : Host S) (plan : List PlanTurn) (w : Sandboxes) (s : S)
    → IsMachine machine → IsSafeWorld w
    → (n : Sandboxes) × HaveRun machine plan w n (λ p. joined machine host p (slots_of w) s)

-- What `JoinedWorldSteps` says, with a host that answers each call, or `limit` calls.
abbrev pub JointWorldSteps : Type 0 → Type 0
JointWorldSteps S =
    (machine : Machine) (answer : S → Call → Answer S) (plan : List PlanTurn) (w : Sandboxes) (s : S)
    (limit : Option ℕ) → IsMachine machine → IsSafeWorld w
    → (n : Sandboxes)
    × HaveRun machine plan w n (λ p. joint machine answer p (slots_of w) s limit)

-- The plan ended at a call that the host may refuse, in the turn at `place` of the plan, and the
-- world steps are those of the same joint run, in which the calls before that one are answered.
pub record HaveRunUpTo {S : Type 0} (machine : Machine) (answer : S → Call → Answer S)
    (may_refuse : S → Call → Bool) (plan : List PlanTurn) (place : ℕ) (w : Sandboxes) (before : S)
    (n : Sandboxes) (after : S) : Type 0 where
  pub cut : IsCutJoint machine answer may_refuse plan (slots_of w) before place (slots_of n) after
  pub moved : HaveRun machine plan w n
      (λ p. joint machine answer p (slots_of w) before (Some cut.answered))

-- What a plan did, by its answer: where it is done, the world steps are those of the joint run in
-- which each call is answered; where it ended for want of memory, they are as `HaveRunUpTo` says.
abbrev pub HaveRunJointly : {S : Type 0} → RunAnswer → Machine → (S → Call → Answer S)
    → (S → Call → Bool) → List PlanTurn → Sandboxes → S → Sandboxes → S → Type 0
HaveRunJointly answers.Done machine answer may_refuse plan w before n after =
    HaveRun machine plan w n (λ p. joint machine answer p (slots_of w) before None)
HaveRunJointly (answers.Memory turn) machine answer may_refuse plan w before n after =
    HaveRunUpTo machine answer may_refuse plan turn w before n after
