-- Turns that end at a call or at an address, and sandboxes that wait for a reply.
use Rattle.std.specs.Prelude.{◌≡◌, ◌<◌, ◌≤◌, ℕ, Bool, false, List, Option, Some, None, slice_get, true, [], ◌∷◌, slice_set, ◌≢◌, ◌+◌}
use Rattle.rv_step.specs.declared.outcome.Outcome.TheVariants.{Call as Calls}
use Rattle.sfi_formats.specs.Limits.{gates_most, service_most}
use Rattle.sfi_image.specs.declared.part.Gate.{Gate}
use Rattle.sfi_host.specs.declared.guest.Request.{Request}
use Rattle.sfi_host.specs.declared.status.Status.TheVariants.{Ready, Stopped}
use Rattle.sfi_host.specs.declared.waiting.Later.{Later}
use Rattle.sfi_host.specs.Hosts.{call_by, Call, Way, Replied, Exit, Reply, Answer, Host}
use Rattle.sfi_host.specs.Joint.{Machine, IsMachine, call_of, Joined, joined, replied}
use Rattle.sfi_host.specs.declared.turn.Turn.{Turn}
use Rattle.sfi_host.specs.Slots.{bytes_in, Slot, state_of}
use Rattle.sfi_host.specs.Plans.{IsJoint}
use Rattle.sfi_safe_runs.specs.Runs.{StaysOutside}
use Rattle.sfi_host.specs.Worlds.{Seat, Sandboxes, slot_of, slots_of, IsSafeWorld, status_at}
use Rattle.std.specs.List.{Contains}
use Rattle.sfi_host.specs.WorldSteps.{HaveRun}

-- ==== Sandboxes that wait at a call, and replies that are given later.

-- ---- up to a call

-- a host that answers no call, so that each call ends the run
abbrev pub silent : Host (Unit {0})
silent s call = None

-- what a plan comes to with the silent host: up to the first call, which changes nothing and ends
-- the run
abbrev pub to_call : Machine → List Turn → List Slot → Joined (Unit {0})
to_call machine plan slots = joined machine silent plan slots tt

-- ---- a sandbox that waits

-- sandbox `i` is ready and stands at a call
pub record IsAtCall (slots : List Slot) (i : ℕ) : Type 0 where
  pub slot : Slot
  pub there : slice_get slots i ≡ Some slot
  pub ready : slot.status ≡ Ready
  pub calls :
      (machine : Machine) → IsMachine machine → (machine (state_of slot)).outcome ≡ Calls

-- sandbox `i` is ready and stands at a call, which asks for this
pub record Waits (slots : List Slot) (i : ℕ) (r : Request) : Type 0 where
  pub at : IsAtCall slots i
  pub asks : call_by r (bytes_in at.slot.bounds.data at.slot.bytes) ≡ call_of i at.slot

-- what sandbox `i` asks is the service of one of its gates, which is told by its
-- place and at whose address it stands; no service has a higher number than `service_most`
pub record AsksAtGate (slots : List Slot) (i : ℕ) (r : Request) : Type 0 where
  pub slot : Slot
  pub there : slice_get slots i ≡ Some slot
  pub gate : Gate
  pub among : slice_get slot.bounds.gates r.gate ≡ Some gate
  pub few : r.gate < gates_most
  pub address : gate.address ≡ slot.hart.pc
  pub service : r.service ≡ gate.service
  pub most : r.service ≤ service_most

-- ---- a reply that is given later

-- how the caller goes on: it stops with this number, if there is one
abbrev pub later_way : Option ℕ → Way
later_way None = Replied
later_way (Some n) = Exit n

-- the reply as one to this call: the caller's data bytes stay as they are
abbrev pub later_reply : Later → Call → Reply
later_reply r call =
    record { way = later_way r.exit; a0 = r.a0; a1 = r.a1; bytes = call.bytes }

-- the host that gives this reply to each call, and refuses none
abbrev pub later_answer : Later → Call → Answer Later
later_answer r call = record { reply = later_reply r call; host = r }

abbrev pub never : {S : Type 0} → S → Call → Bool
never s call = false

-- ==== A host that replies between turns, and one that answers at once, come to the same.

-- Up to its first call a turn is what it is with any host: the whole turn where it makes no call,
-- and else a turn of fewer steps. The host isn't asked.
abbrev pub ToCallIsJoint : Type 0 → Type 0
ToCallIsJoint S =
    (machine : Machine) (answer : S → Call → Answer S) (t : Turn) (slots : List Slot) (s : S)
    → let c = to_call machine (t ∷ []) slots in
    (c.is_ended ≡ false → IsJoint machine answer (t ∷ []) slots s c.slots s)
    × (c.is_ended ≡ true
    → (k : ℕ) × (k < t.steps)
    × IsJoint machine answer (record { sandbox = t.sandbox; steps = k } ∷ []) slots s c.slots s)

-- A sandbox that waits, and gets the reply that a host answers to its call, is what it is after one
-- step with that host, and so is the host.
abbrev pub ReplyIsAnswer : Type 0 → Type 0
ReplyIsAnswer S =
    (machine : Machine) → IsMachine machine → (answer : S → Call → Answer S) (i : ℕ)
    → (slots : List Slot) (q : Request) (r : Reply) (s after : S) (waits : Waits slots i q)
    → answer s (call_of i waits.at.slot) ≡ record { reply = r; host = after }
    → IsJoint machine answer (record { sandbox = i; steps = 1 } ∷ []) slots s
    (slice_set slots i (replied waits.at.slot r)) after

-- What is written to a sandbox's data before it gets its reply is a part of the reply: together
-- they leave what a reply with these data leaves where nothing was written.
abbrev pub WritesAreReplies : Type 0
WritesAreReplies =
    (w n : Sandboxes) (i : ℕ) (s : Seat) (r : Later) → IsSafeWorld w → IsSafeWorld n
    → slice_get w.seats i ≡ Some s → n.seats ≡ w.seats
    → StaysOutside s.bounds.data w.bytes n.bytes
    → slice_set (slots_of n) i
    (replied (slot_of n.bytes s) (later_reply r (call_of i (slot_of n.bytes s))))
    ≡ slice_set (slots_of w) i
    (replied (slot_of w.bytes s) (record {
      way = later_way r.exit;
      a0 = r.a0;
      a1 = r.a1;
      bytes = bytes_in s.bounds.data n.bytes;
    }))

-- ==== What each turn of a joint run keeps to: how many steps it counts, and whom it leaves as it
-- is.

-- A turn adds to its sandbox's count of steps at most as many as it allows, and leaves a sandbox
-- that has stopped as it is.
abbrev pub TurnStepsAreBounded : Type 0 → Type 0
TurnStepsAreBounded S =
    (machine : Machine) (host : Host S) (t : Turn) (slots : List Slot) (s : S) (old : Slot)
    → slice_get slots t.sandbox ≡ Some old
    → (new : Slot)
    × (slice_get (joined machine host (t ∷ []) slots s).slots t.sandbox ≡ Some new)
    × (new.steps ≤ old.steps + t.steps)
    × (old.status ≢ Ready → new ≡ old)

-- a turn up to the next call leaves a sandbox that waits at a call as it is, and all other
-- sandboxes
abbrev pub WaitsThroughTurns : Type 0
WaitsThroughTurns =
    (machine : Machine) → IsMachine machine → (t : Turn) (slots : List Slot)
    → IsAtCall slots t.sandbox → (to_call machine (t ∷ []) slots).slots ≡ slots

-- no plan stops a sandbox from outside: a sandbox that is stopped in this way after the plan was so
-- before it
abbrev pub PlansStopNone : Type 0 → Type 0
PlansStopNone S =
    (machine : Machine) (host : Host S) (plan : List Turn) (slots : List Slot) (s : S) (i : ℕ)
    → status_at (joined machine host plan slots s).slots i ≡ Some Stopped
    → status_at slots i ≡ Some Stopped

-- ==== A turn that ends at one of some addresses, too.

-- sandbox `i` stands at one of these addresses
pub record StandsAt (slots : List Slot) (i : ℕ) (stops : List ℕ) : Type 0 where
  pub slot : Slot
  pub there : slice_get slots i ≡ Some slot
  pub among : Contains stops slot.hart.pc

-- a turn of sandbox `i`, of at most `steps` steps
abbrev pub turn_of : ℕ → ℕ → Turn
turn_of i steps = record { sandbox = i; steps = steps }

-- the sandboxes after a turn of sandbox `i` of at most `steps` steps, up to its first call
abbrev pub after_turn : Machine → ℕ → ℕ → List Slot → List Slot
after_turn machine i steps slots = (to_call machine (turn_of i steps ∷ []) slots).slots

-- A turn of `count` steps is the turn up to a stop: the fewest steps, one at least, after which its
-- sandbox stands at one of the stops, or all steps of `turn` if it stands at none by then.
pub record IsUpToStop (stops : List ℕ) (turn : Turn) (w n : Sandboxes) (count : ℕ) : Type 0 where
  pub most : count ≤ turn.steps
  pub ran : (machine : Machine) → IsMachine machine
      → slots_of n ≡ after_turn machine turn.sandbox count (slots_of w)
  pub first : (machine : Machine) → IsMachine machine → (k : ℕ) → 0 < k → k < count
      → StandsAt (after_turn machine turn.sandbox k (slots_of w)) turn.sandbox stops → ⊥
  pub ends : count < turn.steps → (0 < count) × StandsAt (slots_of n) turn.sandbox stops

-- a turn up to a stop is a list of world steps in the one memory, as each turn is
pub record HasRunUntil (stops : List ℕ) (turn : Turn) (w n : Sandboxes) : Type 0 where
  pub count : ℕ
  pub is : IsUpToStop stops turn w n count
  pub runs : (machine : Machine) → IsMachine machine
      → HaveRun machine (turn_of turn.sandbox count ∷ []) w n
      (λ plan. to_call machine plan (slots_of w))
