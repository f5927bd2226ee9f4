-- What sandboxes and their host come to under a plan, each sandbox in a memory of its own code and
-- data alone.
use Rattle.std.specs.Prelude.{ℕ, zero, suc, ◌==◌, ◌%◌, ◌^◌, ◌&&◌, nat_lt, cond, Bool, true, false, List, [], ◌∷◌, ◌++◌, map, Option, Some, None, slice_get, slice_set, ◌≡◌}
use Rattle.std.specs.FinMap.{from_entries, entries, retain_keys}
use Rattle.std.specs.Ordering.{nat_cmp}
use Rattle.rv_mem.specs.Bytes.{Bytes, byte_at}
use Rattle.rv_step.specs.State.{Hart, State, register, with_register, past}
use Rattle.rv_step.specs.Step.{Stepped, IsStep}
use Rattle.rv_step.specs.declared.outcome.Outcome.{Outcome}
use Rattle.rv_step.specs.declared.outcome.Outcome.TheVariants as outcome
use Rattle.sfi_image.specs.declared.part.Gate.{Gate}
use Rattle.sfi_host.specs.declared.status.Status.{Status}
use Rattle.sfi_host.specs.declared.status.Status.TheVariants.{Ready, Exited, Trapped, Stopped}
use Rattle.sfi_host.specs.declared.turn.StepResult.{StepResult}
use Rattle.sfi_host.specs.declared.turn.StepResult.TheVariants.{Continue, TurnEnds, RunEnds}
use Rattle.sfi_host.specs.declared.turn.Turn.{Turn}
use Rattle.sfi_host.specs.Hosts.{a0_register, a1_register, Call, Way, Replied, Yield, Exit, Reply, Answer, Host, Limited, limited}
use Rattle.sfi_host.specs.Slots.{is_in, bytes_in, Bounds, Slot, one_more, state_of}
use Rattle.rv_step.specs.declared.outcome.Outcome.TheVariants.{Call as Calls}

-- ==== What sandboxes and their host come to under a plan. Each sandbox runs in a memory of its own
-- code and data alone.

-- ---- the machine

-- a machine: what each state comes to in one step
abbrev pub Machine : Type 0
Machine = State → Stepped

-- the machine is the manual's step: by `rv_step`'s laws there is exactly one such function
pub record IsMachine (machine : Machine) : Type 0 where
  pub steps : (s : State) → IsStep s (machine s)

-- ---- calls

-- the service that the gate at an address asks for; 0 where none is listed, which never comes
abbrev pub service_at : List Gate → ℕ → ℕ
service_at [] at = 0
service_at (g ∷ gates) at = cond (g.address == at) g.service (service_at gates at)

-- what sandbox `i` asks, with its a0 and a1
abbrev pub call_of : ℕ → Slot → Call
call_of i slot = record {
  caller = i;
  service = service_at slot.bounds.gates slot.hart.pc;
  a0 = register slot.hart a0_register;
  a1 = register slot.hart a1_register;
  bytes = bytes_in slot.bounds.data slot.bytes;
}

-- the hart with these values of a0 and a1
abbrev pub with_arguments : Hart → ℕ → ℕ → Hart
with_arguments h a0 a1 = with_register (with_register h a0_register a0) a1_register a1

-- a register takes the low 32 bits of a number
abbrev pub word : ℕ → ℕ
word n = n % 2 ^ 32

-- a byte is a number below 256
abbrev pub is_byte : Option ℕ → Bool
is_byte None = false
is_byte (Some n) = nat_lt n 256

-- the bytes of two memories, those of the first where both have one
abbrev pub both : Bytes → Bytes → Bytes
both m w = from_entries {R = nat_cmp} (entries m ++ entries w)

-- a sandbox's bytes with other data: at each address of its data region where `data` has a byte,
-- that byte
abbrev pub with_data : Bounds → Bytes → Bytes → Bytes
with_data b bytes others =
    both (retain_keys others (λ a. is_in b.data a && is_byte (byte_at others a))) bytes

-- the pc goes on after the ecall, or stays at an exit
abbrev pub after_way : Way → Hart → Hart
after_way Replied h = past h 4
after_way Yield h = past h 4
after_way (Exit n) h = h

-- what a sandbox may do after a reply
abbrev pub status_after : Way → Status
status_after Replied = Ready
status_after Yield = Ready
status_after (Exit n) = Exited n

-- a sandbox after a reply, which counts as a step
abbrev pub replied : Slot → Reply → Slot
replied slot r = record {
  bounds = slot.bounds;
  hart = after_way r.way (with_arguments slot.hart (word r.a0) (word r.a1));
  status = status_after r.way;
  steps = one_more slot.steps;
  bytes = with_data slot.bounds slot.bytes r.bytes;
}

-- ---- one step

-- a sandbox and its host after a step or a turn, the replies that the sandbox got in it,
-- and what comes next
pub record Moved (S : Type 0) : Type 0 where
  pub slot : Slot
  pub host : S
  pub replies : List Reply
  pub next : StepResult

-- nothing happens to the sandbox and the host, and then `next` comes
abbrev pub still : {S : Type 0} → Slot → S → StepResult → Moved S
still slot s next = record { slot = slot; host = s; replies = []; next = next }

-- a turn goes on after a reply, ends at a yield, and at an exit
abbrev pub next_after : Way → StepResult
next_after Replied = Continue
next_after Yield = TurnEnds
next_after (Exit n) = TurnEnds

-- what an answer makes of the caller; a call that isn't answered ends the run
abbrev pub after_answer : {S : Type 0} → Slot → S → Option (Answer S) → Moved S
after_answer slot s None = still slot s RunEnds
after_answer slot s (Some a) = record {
  slot = replied slot a.reply;
  host = a.host;
  replies = a.reply ∷ [];
  next = next_after a.reply.way;
}

-- what a step's outcome makes of the sandbox: a trap isn't counted
abbrev pub slot_after_step : {S : Type 0} → Host S → ℕ → Slot → S → Outcome → State → Moved S
slot_after_step host i slot s outcome.Next state =
    still (record {
      bounds = slot.bounds;
      hart = state.hart;
      status = slot.status;
      steps = one_more slot.steps;
      bytes = state.memory;
    }) s Continue
slot_after_step host i slot s (outcome.Trap cause at) state =
    still (record {
      bounds = slot.bounds;
      hart = slot.hart;
      status = Trapped cause at;
      steps = slot.steps;
      bytes = slot.bytes;
    }) s TurnEnds
slot_after_step host i slot s outcome.Call state = after_answer slot s (host s (call_of i slot))

-- a step of a sandbox by its status: one that isn't ready does nothing
abbrev pub moved_if : {S : Type 0} → Machine → Host S → ℕ → Slot → S → Status → Moved S
moved_if machine host i slot s Ready = let r = machine (state_of slot) in
    slot_after_step host i slot s r.outcome r.state
moved_if machine host i slot s (Exited n) = still slot s TurnEnds
moved_if machine host i slot s (Trapped cause at) = still slot s TurnEnds
moved_if machine host i slot s Stopped = still slot s TurnEnds

-- one step of the sandbox of that number
unfoldable pub moved : {S : Type 0} → Machine → Host S → ℕ → Slot → S → Moved S
moved machine host i slot s = moved_if machine host i slot s slot.status

-- ---- a turn

-- a step or turn, with the replies that came before it
abbrev pub after_replies : {S : Type 0} → List Reply → Moved S → Moved S
after_replies earlier m =
    record { slot = m.slot; host = m.host; replies = earlier ++ m.replies; next = m.next }

-- a step, and what follows it if the turn goes on after it
abbrev pub and_more : {S : Type 0} → StepResult → Moved S → (Slot → S → Moved S) → Moved S
and_more Continue m rest = after_replies m.replies (rest m.slot m.host)
and_more TurnEnds m rest = m
and_more RunEnds m rest = m

-- what a turn of at most the given number of steps comes to
unfoldable pub turned : {S : Type 0} → Machine → Host S → ℕ → ℕ → Slot → S → Moved S
turned machine host i zero slot s = still slot s TurnEnds
turned machine host i (suc k) slot s = let m = moved machine host i slot s in
    and_more m.next m (turned machine host i k)

-- ---- a plan

-- a reply, and who got it
pub record Given : Type 0 where
  pub to : ℕ
  pub reply : Reply

-- these replies, each with the number of who got it
abbrev pub given : ℕ → List Reply → List Given
given i replies = map (λ r. record { to = i; reply = r }) replies

-- the sandboxes and the host after a plan, the replies in their order, how many turns were begun,
-- and whether a call ended the run
pub record Joined (S : Type 0) : Type 0 where
  pub slots : List Slot
  pub host : S
  pub replies : List Given
  pub turns : ℕ
  pub is_ended : Bool

-- a joint run after a turn with its replies: one turn more was begun
abbrev pub joined_after_turn : {S : Type 0} → List Given → Joined S → Joined S
joined_after_turn earlier j = record {
  slots = j.slots;
  host = j.host;
  replies = earlier ++ j.replies;
  turns = suc j.turns;
  is_ended = j.is_ended;
}

-- a turn of sandbox `i`, and what follows it if the run goes on after it
abbrev pub and_plan :
    {S : Type 0} → StepResult → ℕ → Moved S → List Slot → (List Slot → S → Joined S) → Joined S
and_plan Continue i m slots rest =
    joined_after_turn (given i m.replies) (rest (slice_set slots i m.slot) m.host)
and_plan TurnEnds i m slots rest =
    joined_after_turn (given i m.replies) (rest (slice_set slots i m.slot) m.host)
and_plan RunEnds i m slots rest = record {
  slots = slice_set slots i m.slot;
  host = m.host;
  replies = given i m.replies;
  turns = 1;
  is_ended = true;
}

-- a turn by the sandbox that it names, and what follows it; one that names no sandbox does nothing
abbrev pub turn_and : {S : Type 0} → Machine → Host S → Turn → List Slot → S → Option Slot
    → (List Slot → S → Joined S) → Joined S
turn_and machine host t slots s None rest = joined_after_turn [] (rest slots s)
turn_and machine host t slots s (Some slot) rest =
    let m = turned machine host t.sandbox t.steps slot s in and_plan m.next t.sandbox m slots rest

-- the plan's turns, one after another
unfoldable pub joined : {S : Type 0} → Machine → Host S → List Turn → List Slot → S → Joined S
joined machine host [] slots s =
    record { slots = slots; host = s; replies = []; turns = 0; is_ended = false }
joined machine host (t ∷ plan) slots s =
    turn_and machine host t slots s (slice_get slots t.sandbox) (joined machine host plan)

-- what the plan comes to with a host that answers each call, or `limit` calls: the call after these
-- changes nothing and ends the run
abbrev pub joint : {S : Type 0} → Machine → (S → Call → Answer S) → List Turn → List Slot → S
    → Option ℕ → Joined (Limited S)
joint machine answer plan slots s limit =
    joined machine (limited answer) plan slots (record { host = s; left = limit })

-- ==== A call at which a host may refuse for want of memory.

-- sandbox `number` is ready and stands at a call,
-- at which the host's test allows a refusal
pub record IsAtRefusedCall {S : Type 0} (machine : Machine) (may_refuse : S → Call → Bool)
    (number : ℕ) (slot : Slot) (host : S) : Type 0 where
  pub ready : slot.status ≡ Ready
  pub calls : (machine (state_of slot)).outcome ≡ Calls
  pub test : may_refuse host (call_of number slot) ≡ true
