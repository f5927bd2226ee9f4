-- What a plan did to a world's sandboxes and their host, and to each alone.
use Rattle.std.specs.Prelude.{◌≡◌, ℕ, ◌+◌, Bool, true, List, length, Some, None, slice_get, ◌==◌, [], ◌∷◌, map, Option, take, zero, suc, ◌<◌, cond, ◌++◌}
use Rattle.sfi_host.specs.declared.turn.Turn.{Turn}
use Rattle.sfi_host.specs.Hosts.{Call, Answer, Reply, Host, replay}
use Rattle.sfi_host.specs.Slots.{Slot}
use Rattle.sfi_host.specs.Joint.{Machine, joint, Given, Joined, joined, IsAtRefusedCall}
use Rattle.std.specs.List.{filter}

-- ==== What a plan did to a world's sandboxes and their host.

-- each turn of the plan was taken: sandboxes and host are those of the joint run in which each call
-- is answered
pub record IsJoint {S : Type 0} (machine : Machine) (answer : S → Call → Answer S)
    (plan : List Turn) (old : List Slot) (before : S) (new : List Slot) (after : S) : Type 0 where
  pub slots : new ≡ (joint machine answer plan old before None).slots
  pub host : after ≡ (joint machine answer plan old before None).host.host
  pub turns : (joint machine answer plan old before None).turns ≡ length plan

-- the plan's turn at that place is that of a sandbox which is ready and stands at a call that the
-- host may refuse
pub record IsRefusedIn {S : Type 0} (machine : Machine) (may_refuse : S → Call → Bool)
    (plan : List Turn) (place : ℕ) (slots : List Slot) (host : S) : Type 0 where
  pub turn : Turn
  pub turn_is : slice_get plan place ≡ Some turn
  pub slot : Slot
  pub slot_is : slice_get slots turn.sandbox ≡ Some slot
  pub refused : IsAtRefusedCall machine may_refuse turn.sandbox slot host

-- The turn at `place` of the plan ended at a call that the host may refuse: sandboxes and host are
-- those of the joint run in which `answered` calls are answered, and that call is the next.
pub record IsCutJoint {S : Type 0} (machine : Machine) (answer : S → Call → Answer S)
    (may_refuse : S → Call → Bool) (plan : List Turn) (old : List Slot) (before : S) (place : ℕ)
    (new : List Slot) (after : S) : Type 0 where
  pub answered : ℕ
  pub slots : new ≡ (joint machine answer plan old before (Some answered)).slots
  pub host : after ≡ (joint machine answer plan old before (Some answered)).host.host
  pub ended : (joint machine answer plan old before (Some answered)).is_ended ≡ true
  pub turns : (joint machine answer plan old before (Some answered)).turns ≡ place + 1
  pub refused : IsRefusedIn machine may_refuse plan place new after

-- ==== What a sandbox comes to alone, with replies that are given beforehand.

-- the turns of a sandbox, which is number 0 when it is alone
abbrev pub turns_of : ℕ → List Turn → List Turn
turns_of i plan =
    map (λ t. record { sandbox = 0; steps = t.steps }) (filter (λ t. t.sandbox == i) plan)

-- the replies that a sandbox got
abbrev pub replies_to : ℕ → List Given → List Reply
replies_to i all = map (λ g. g.reply) (filter (λ g. g.to == i) all)

-- a sandbox alone, with these replies; a call ends the run where none is left
abbrev pub solo : Machine → ℕ → Slot → List Turn → List Reply → Joined (List Reply)
solo machine i slot plan replies = joined machine replay (turns_of i plan) (slot ∷ []) replies

-- After a joint run sandbox `i`, which was this slot, is what it is alone,
-- after the turns that were begun and with the replies that it got.
abbrev pub IsSolo : {S : Type 0} → Machine → List Turn → ℕ → Slot → Joined S → Type 0
IsSolo machine plan i slot all =
    slice_get all.slots i
    ≡ slice_get (solo machine i slot (take all.turns plan) (replies_to i all.replies)).slots 0

-- Each sandbox comes to the same alone, with any host.
abbrev pub JoinedIsSolo : Type 0 → Type 0
JoinedIsSolo S =
    (machine : Machine) (host : Host S) (plan : List Turn) (slots : List Slot) (s : S) (i : ℕ)
    (slot : Slot) → slice_get slots i ≡ Some slot
    → IsSolo machine plan i slot (joined machine host plan slots s)

-- Each sandbox comes to the same alone, with a host that answers each call, or `limit` calls.
abbrev pub JointIsSolo : Type 0 → Type 0
JointIsSolo S =
    (machine : Machine) (answer : S → Call → Answer S) (plan : List Turn) (slots : List Slot) (s : S)
    (limit : Option ℕ) (i : ℕ) (slot : Slot) → slice_get slots i ≡ Some slot
    → IsSolo machine plan i slot (joint machine answer plan slots s limit)

-- ==== One plan after another.

-- two runs as one: the second goes on where the first left off
abbrev pub after_run : {S : Type 0} → Joined S → Joined S → Joined S
after_run first second = record {
  slots = second.slots;
  host = second.host;
  replies = first.replies ++ second.replies;
  turns = first.turns + second.turns;
  is_ended = second.is_ended;
}

-- With any host, one plan after another comes to what the second comes to from where the first left
-- off; or, if a call ended the first, to what that comes to.
abbrev pub JoinedFollows : Type 0 → Type 0
JoinedFollows S =
    (machine : Machine) (host : Host S) (p q : List Turn) (slots : List Slot) (s : S)
    → let first = joined machine host p slots s in
    joined machine host (p ++ q) slots s
    ≡ cond first.is_ended first (after_run first (joined machine host q first.slots first.host))

-- With a host that answers each call, one plan after another always comes to what the second comes
-- to from where the first left off.
abbrev pub JointFollows : Type 0 → Type 0
JointFollows S =
    (machine : Machine) (answer : S → Call → Answer S) (p q : List Turn) (slots : List Slot) (s : S)
    → let first = joint machine answer p slots s None in
    joint machine answer (p ++ q) slots s None
    ≡ after_run first (joint machine answer q first.slots first.host.host None)

-- where each turn of one plan was taken, and then each of another, each turn of both in a row was
abbrev pub PlansFollow : Type 0 → Type 0
PlansFollow S =
    (machine : Machine) (answer : S → Call → Answer S) (p q : List Turn)
    → (old mid new : List Slot) (before between after : S)
    → IsJoint machine answer p old before mid between
    → IsJoint machine answer q mid between new after
    → IsJoint machine answer (p ++ q) old before new after

-- where each turn of one plan was taken, and another plan then ended at a call that the host may
-- refuse, both in a row ended there, at that place after the first plan's turns
abbrev pub CutFollows : Type 0 → Type 0
CutFollows S =
    (machine : Machine) (answer : S → Call → Answer S) (may_refuse : S → Call → Bool)
    → (p q : List Turn) (old mid new : List Slot) (before between after : S) (place : ℕ)
    → IsJoint machine answer p old before mid between
    → IsCutJoint machine answer may_refuse q mid between place new after
    → IsCutJoint machine answer may_refuse (p ++ q) old before (length p + place) new after

-- ---- what a plan did that ended at a call

-- the plan up to its turn at `place`, with the steps of that turn set to `steps`
abbrev pub shortened : List Turn → ℕ → ℕ → List Turn
shortened [] place steps = []
shortened (t ∷ plan) zero steps = record { sandbox = t.sandbox; steps = steps } ∷ []
shortened (t ∷ plan) (suc place) steps = t ∷ shortened plan place steps

-- each turn of the plan before turn `place` was taken, and of that turn fewer steps than it allows,
-- maybe none
pub record IsJointUpTo {S : Type 0} (machine : Machine) (answer : S → Call → Answer S)
    (plan : List Turn) (place : ℕ) (old : List Slot) (before : S) (new : List Slot)
    (after : S) : Type 0 where
  pub turn : Turn
  pub turn_is : slice_get plan place ≡ Some turn
  pub steps : ℕ
  pub fewer : steps < turn.steps
  pub joint : IsJoint machine answer (shortened plan place steps) old before new after

-- a plan that ended at a call that the host may refuse was taken up to that call
abbrev pub CutIsShorter : Type 0 → Type 0
CutIsShorter S =
    (machine : Machine) (answer : S → Call → Answer S) (may_refuse : S → Call → Bool)
    → (plan : List Turn) (old new : List Slot) (before after : S) (place : ℕ)
    → IsCutJoint machine answer may_refuse plan old before place new after
    → IsJointUpTo machine answer plan place old before new after

-- a plan that is tried after such an end follows the shortened plan, whose last turn has some
-- number of steps, fewer than it allows
abbrev pub RetryFollows : Type 0 → Type 0
RetryFollows S =
    (machine : Machine) (answer : S → Call → Answer S) (may_refuse : S → Call → Bool)
    → (p q : List Turn) (old mid new : List Slot) (before between after : S) (place : ℕ)
    → IsCutJoint machine answer may_refuse p old before place mid between
    → IsJoint machine answer q mid between new after
    → (up_to : IsJointUpTo machine answer p place old before mid between)
    × IsJoint machine answer (shortened p place up_to.steps ++ q) old before new after
