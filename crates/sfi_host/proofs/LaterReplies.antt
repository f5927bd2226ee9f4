-- A host that replies between turns, and one that answers at once, come to the same.
use Rattle.sfi_host.proofs.Prelude.{◌≡◌, ℕ, zero, suc, List, [], ◌∷◌, Option, Some, None, slice_get, slice_set, refl, sym, ap, ◌∙◌, subst, Outcome, State, Status, Ready, Slot, state_of, Call, Answer, Limited, limited, Machine, Moved, moved, moved_if, slot_after_step, after_answer, Host, call_of, next_after, replied, IsReplied, after_replies, and_more, turned, Turn, StepResult, Continue, RunEnds, Joined, joined, joint, turn_and, and_plan, IsJoint, set, set-set, Bytes, IsMemory, Bounds, own, bytes_in, IsWhole, StaysOutside, with_data, with_arguments, word, after_way, status_after, one_more, Seat, slot_of, slots_of}
use Rattle.sfi_host.proofs.AfterCalls.{put_back, data_of_own}
use Rattle.sfi_decoded.proofs.Lists.{set_itself}
use Rattle.sfi_host.proofs.OwnSteps.{slots_are}
use Rattle.rv_step.specs.declared.outcome.Outcome.TheVariants as outcome
use Rattle.sfi_host.specs.Waiting.{ToCallIsJoint, ReplyIsAnswer, WritesAreReplies, silent, to_call, later_reply}
use Rattle.sfi_host.proofs.Continuing.{first_call, no_call, way_goes}
use Rattle.sfi_host.proofs.Plans.{one_turn}
use Rattle.sfi_host.proofs.Quiet.{answered_is}
use Rattle.sfi_host.proofs.SlotSteps.{one_step}

-- ---- a host that refuses each call

-- a step or a turn with the host that answers no call, as one with another host in this state
abbrev with_host : {S : Type 0} → S → Moved (Unit {0}) → Moved S
with_host s m = record { slot = m.slot; host = s; replies = m.replies; next = m.next }

module _ {S : Type 0} (machine : Machine) (host : Host S) (s : S) (refuses : (call : Call) → host s call ≡ None) (i : ℕ) where
  outcome_same : (slot : Slot) (o : Outcome) (state : State) → slot_after_step host i slot s o state ≡ with_host s (slot_after_step silent i slot tt o state)
  outcome_same slot outcome.Call state = ap (after_answer slot s) (refuses (call_of i slot))
  outcome_same slot o state = refl

  status_same : (slot : Slot) (status : Status) → moved_if machine host i slot s status ≡ with_host s (moved_if machine silent i slot tt status)
  status_same slot Ready = let r = machine (state_of slot) in outcome_same slot r.outcome r.state
  status_same slot status = refl

  step_same : (slot : Slot) → moved machine host i slot s ≡ with_host s (moved machine silent i slot tt)
  unfolding moved
  step_same slot = status_same slot slot.status

  more_same : (next : StepResult) (m : Moved (Unit {0})) (rest : Slot → S → Moved S) (later : Slot → Unit {0} → Moved (Unit {0}))
      → ((slot : Slot) → rest slot s ≡ with_host s (later slot tt)) → and_more next (with_host s m) rest ≡ with_host s (and_more next m later)
  more_same Continue m rest later more = ap (after_replies m.replies) (more m.slot)
  more_same next m rest later more = refl

  pub turn_same : (k : ℕ) (slot : Slot) → turned machine host i k slot s ≡ with_host s (turned machine silent i k slot tt)
  unfolding turned
  turn_same zero slot = refl
  turn_same (suc k) slot =
      let t = moved machine silent i slot tt in
      ap (λ (m : Moved S). and_more m.next m (turned machine host i k)) (step_same slot)
      ∙ more_same t.next t (turned machine host i k) (turned machine silent i k) (turn_same k)

module _ {S : Type 0} (machine : Machine) (answer : S → Call → Answer S) (s : S) where
  -- no call is left
  abbrev none : Limited S
  none = record { host = s; left = Some 0 }

  -- ---- a plan of one turn

  abbrev run_with_none : Joined (Unit {0}) → Joined (Limited S)
  run_with_none j = record { slots = j.slots; host = none; replies = j.replies; turns = j.turns; is_ended = j.is_ended }

  module _ (t : Turn) (slots : List Slot) where
    plan_same : (next : StepResult) (m : Moved (Unit {0})) → and_plan next t.sandbox (with_host none m) slots (joined machine (limited answer) []) ≡ run_with_none (and_plan next t.sandbox m slots (joined machine silent []))
    unfolding joined
    plan_same RunEnds m = refl
    plan_same next m = refl

    found_same : (o : Option Slot) → turn_and machine (limited answer) t slots none o (joined machine (limited answer) []) ≡ run_with_none (turn_and machine silent t slots tt o (joined machine silent []))
    unfolding joined
    found_same None = refl
    found_same (Some slot) =
        let q = turned machine silent t.sandbox t.steps slot tt in
        ap (λ (m : Moved (Limited S)). and_plan m.next t.sandbox m slots (joined machine (limited answer) [])) (turn_same machine (limited answer) none (λ call. refl) t.sandbox t.steps slot) ∙ plan_same q.next q

    run_same : joint machine answer (t ∷ []) slots s (Some 0) ≡ run_with_none (to_call machine (t ∷ []) slots)
    unfolding joined
    run_same = found_same (slice_get slots t.sandbox)

    ended_same : (joint machine answer (t ∷ []) slots s (Some 0)).is_ended ≡ (to_call machine (t ∷ []) slots).is_ended
    ended_same = ap (λ (j : Joined (Limited S)). j.is_ended) run_same

    -- the slots and the host, as of a plan that is done
    done_as : (plan : List Turn) → IsJoint machine answer plan slots s (joint machine answer (t ∷ []) slots s (Some 0)).slots (joint machine answer (t ∷ []) slots s (Some 0)).host.host
        → IsJoint machine answer plan slots s (to_call machine (t ∷ []) slots).slots s
    done_as plan h = subst (λ (j : Joined (Limited S)). IsJoint machine answer plan slots s j.slots j.host.host) run_same h

pub to_call_is_joint : {S : Type 0} → ToCallIsJoint S
to_call_is_joint machine answer t slots s = (
  λ goes. done_as machine answer s t slots (t ∷ []) (no_call machine answer t slots s (ended_same machine answer s t slots ∙ goes)),
  λ ends.
      let c = first_call machine answer t slots s (ended_same machine answer s t slots ∙ ends) in
      (c.0, c.1, done_as machine answer s t slots (record { sandbox = t.sandbox; steps = c.0 } ∷ []) c.2),
)

-- ---- an answer, and the reply

pub reply_is_answer : {S : Type 0} → ReplyIsAnswer S
reply_is_answer {S} machine is answer i slots q r s after waits gives =
    let a = waits.at in
    let replies : IsReplied answer i a.slot s (replied a.slot r) after (next_after r.way) = record {
      slot = ap (λ (x : Answer S). replied a.slot x.reply) (sym gives);
      host = ap (λ (x : Answer S). x.host) (sym gives);
      next_is = ap (λ (x : Answer S). next_after x.reply.way) (sym gives);
    } in
    one_turn machine answer (record { sandbox = i; steps = 1 }) slots s a.slot a.there (replied a.slot r) after
    (one_step machine answer i a.slot (replied a.slot r) s after (next_after r.way) (way_goes r.way)
    (answered_is machine answer i a.slot s (record { ready = a.ready; calls = a.calls machine is }) (replied a.slot r) after (next_after r.way) replies))

-- ---- writes before a reply

-- the bytes after a reply, whatever was written before it
module _ (b : Bounds) (m n : Bytes) (stays : StaysOutside b.data m n) (memory : IsMemory n) (whole : IsWhole b.data n) where
  same_data : with_data b (own b n) (bytes_in b.data (own b n)) ≡ with_data b (own b m) (bytes_in b.data n)
  same_data = sym (put_back b n n (bytes_in b.data (own b n)) (λ a out. refl) memory whole (sym (data_of_own b n))) ∙ put_back b m n (bytes_in b.data n) stays memory whole refl

pub writes_are_replies : WritesAreReplies
writes_are_replies w n i s r safe after at seats stays =
    let there : slice_get n.seats i ≡ Some s = ap (λ (l : List Seat). slice_get l i) seats ∙ at in
    let seat = after.each i s there in
    let b = s.bounds in
    let slots : slots_of n ≡ set (slots_of w) i (slot_of n.bytes s) =
    ap (λ (l : List Seat). slots_of (record { bytes = n.bytes; seats = l })) (seats ∙ sym (set_itself w.seats i s at)) ∙ slots_are w.bytes n.bytes w.seats i s s safe at stays in
    let a = later_reply r (call_of i (slot_of n.bytes s)) in
    let bytes = same_data b w.bytes n.bytes stays seat.state.memory seat.has_data in
    let same : replied (slot_of n.bytes s) a ≡ replied (slot_of w.bytes s) (record { way = a.way; a0 = r.a0; a1 = r.a1; bytes = bytes_in b.data n.bytes }) =
    λ k. record { bounds = b; hart = after_way a.way (with_arguments s.hart (word r.a0) (word r.a1)); status = status_after a.way; steps = one_more s.steps; bytes = bytes k } in
    ap (λ (l : List Slot). slice_set l i (replied (slot_of n.bytes s) a)) slots ∙ set-set (slots_of w) i (slot_of n.bytes s) (replied (slot_of n.bytes s) a) ∙ ap (slice_set (slots_of w) i) same
