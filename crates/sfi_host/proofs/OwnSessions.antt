-- In each session a sandbox is what its own actions make of it alone.
use Rattle.rv_step.specs.declared.outcome.Outcome.TheVariants as outcome
use Rattle.sfi_host.proofs.Prelude.{◌≡◌, ◌≢◌, inl, inr, ⊎_elim, ◌==◌, ℕ, zero, suc, ◌+◌, ◌-◌, ◌<◌, ◌≤◌, arith, false, true, cond, eqb-true, eqb-false, List, [], ◌∷◌, map, set, length, Option, Some, None, IsSome, is_some, slice_get, slice_get_within, option_map, refl, sym, ap, ◌∙◌, subst, same_Some, map-set, Bytes, byte_at, bytes_at, with_bytes, insert, range_with_len, Holds, State, Outcome, IsState, state_in, Part, Status, Ready, Reply, replay, Machine, IsMachine, Moved, moved, moved_if, slot_after_step, after_replies, StepResult, Continue, and_more, turned, call_of, replied, bytes_in, Bounds, Slot, is_own, own, state_of, Seat, Sandboxes, slot_of, slots_of, StaysOutsideData, entered_seat, with_entry_of}
use Rattle.sfi_host.specs.Adding.{number_without, without_of}
use Rattle.sfi_host.specs.Changing.{data_bytes_of, stopped_seat, set_seat, called_back_hart, hart_of, with_stop_of, with_hart_of, with_callback_of}
use Rattle.sfi_host.specs.Loading.{reset_seat, with_reset_of, with_first_bytes, first_bytes}
use Rattle.sfi_host.specs.Sessions.{SandboxAction, Run, GiveReply, Write, Stop, Enter, SetRegisters, CallBack, Reset, HostAction, On, Add, Remove, IsAllowed, HasSlots, IsDone, Makes, AreInRange, IsAction, AreActions, IsSoundWorld, SessionsAreOne, alone, own_actions, number_after, IsItsOwn, SandboxesAreTheirOwn, OthersMakeNoDifference}
use Rattle.sfi_host.specs.Waiting.{IsAtCall, later_reply, turn_of}
use Rattle.sfi_host.proofs.Adding as added
use Rattle.sfi_host.proofs.AfterCalls.{data_of_own}
use Rattle.sfi_host.proofs.Changing.{code_out}
use Rattle.sfi_decoded.proofs.Lists.{get_set_same, get_set_other, set_itself}
use Rattle.sfi_host.proofs.OwnSteps.{own_is, own_data, own_there, own_missing, same_own}
use Rattle.sfi_host.proofs.RegionBytes.{kept_put, held}
use Rattle.sfi_host.proofs.Removing as removed
use Rattle.sfi_host.proofs.Runs.{each_there}
use Rattle.sfi_host.proofs.Sessions.{After, action_sound, kept_memory, leaves, slots_lie}
use Rattle.sfi_host.proofs.Turns.{turn_set, turn_bounds, turn_lies}
use Rattle.sfi_host.proofs.WorldBytes.{get_map, same_world}
use Rattle.sfi_host.proofs.Worlds.{map_get}

-- ==== A session comes to one world.

-- a slot that is set where it lay
set_lies : (slots : List Slot) (i : ℕ) (old new : Slot) → slice_get slots i ≡ Some old → new.bounds ≡ old.bounds → map (λ (x : Slot). x.bounds) (set slots i new) ≡ map (λ (x : Slot). x.bounds) slots
set_lies slots i old new at same =
    map-set (λ (x : Slot). x.bounds) slots i new ∙ ap (set (map (λ (x : Slot). x.bounds) slots) i) same
    ∙ set_itself (map (λ (x : Slot). x.bounds) slots) i old.bounds (get_map (λ (x : Slot). x.bounds) slots i old at)

has_one : (w n m : Sandboxes) (slots : List Slot) → map (λ (x : Slot). x.bounds) slots ≡ map (λ (x : Slot). x.bounds) (slots_of w) → HasSlots w n slots → HasSlots w m slots → n ≡ m
has_one w n m slots lie first second =
    same_world w n m (slots_lie w m (ap (map (λ (x : Slot). x.bounds)) second.slots_are ∙ lie)) (first.slots_are ∙ sym second.slots_are) first.outside second.outside

done_one : (machine : Machine) (w n m : Sandboxes) (i : ℕ) (action : SandboxAction) → IsAllowed w i action → IsDone machine w i action n → IsDone machine w i action m → n ≡ m
done_one machine w n m i (Run steps replies) may first second = has_one w n m _ (turn_bounds machine replay (turn_of i steps) (slots_of w) replies) first second
done_one machine w n m i (GiveReply reply) may first second =
    has_one w n m _ (set_lies (slots_of w) i may.slot (replied may.slot (later_reply reply (call_of i may.slot))) may.there refl) (first may.slot may.there) (second may.slot may.there)
done_one machine w n m i (Enter pc arguments) may first second = first.1 ∙ sym second.1
done_one machine w n m i (Write a bytes) may first second = first ∙ sym second
done_one machine w n m i Stop may first second = first ∙ sym second
done_one machine w n m i (SetRegisters pc registers) may first second = first ∙ sym second
done_one machine w n m i (CallBack pc arguments) may first second = first ∙ sym second
done_one machine w n m i Reset may first second = first ∙ sym second

makes_one : (machine : Machine) (w n m : Sandboxes) (action : HostAction) → Makes machine w action n → Makes machine w action m → n ≡ m
makes_one machine w n m (On i action) (inl x) (inl y) = done_one machine w n m i action x.0 x.1 y.1
makes_one machine w n m (On i action) (inl x) (inr y) = absurd (y.0 x.0)
makes_one machine w n m (On i action) (inr x) (inl y) = absurd (x.0 y.0)
makes_one machine w n m (On i action) (inr x) (inr y) = x.1 ∙ sym y.1
makes_one machine w n m (Add parts) x y = x.2 ∙ sym y.2
makes_one machine w n m (Remove i) x y = x.1 ∙ sym y.1

pub sessions_are_one : SessionsAreOne
sessions_are_one machine [] w n m first second = first ∙ sym second
sessions_are_one machine (action ∷ more) w n m first second =
    let same : second.0 ≡ first.0 = makes_one machine w second.0 first.0 action second.1.makes first.1.makes in
    sessions_are_one machine more first.0 n m first.2 (subst (λ (x : Sandboxes). AreActions machine x more m) same second.2)

-- ==== A turn is the same whatever number the sandbox has.

module _ (machine : Machine) (i : ℕ) where
  answer_number : (slot : Slot) (replies : List Reply) (o : Outcome) (state : State) → slot_after_step replay i slot replies o state ≡ slot_after_step replay 0 slot replies o state
  answer_number slot [] outcome.Call state = refl
  answer_number slot (r ∷ replies) outcome.Call state = refl
  answer_number slot replies o state = refl

  status_number : (slot : Slot) (replies : List Reply) (status : Status) → moved_if machine replay i slot replies status ≡ moved_if machine replay 0 slot replies status
  status_number slot replies Ready = let r = machine (state_of slot) in answer_number slot replies r.outcome r.state
  status_number slot replies status = refl

  step_number : (slot : Slot) (replies : List Reply) → moved machine replay i slot replies ≡ moved machine replay 0 slot replies
  unfolding moved
  step_number slot replies = status_number slot replies slot.status

  more_number : (next : StepResult) (m : Moved (List Reply)) (rest other : Slot → List Reply → Moved (List Reply)) → ((slot : Slot) (replies : List Reply) → rest slot replies ≡ other slot replies)
      → and_more next m rest ≡ and_more next m other
  more_number Continue m rest other same = ap (after_replies m.replies) (same m.slot m.host)
  more_number next m rest other same = refl

  pub turn_number : (k : ℕ) (slot : Slot) (replies : List Reply) → turned machine replay i k slot replies ≡ turned machine replay 0 k slot replies
  unfolding turned
  turn_number zero slot replies = refl
  turn_number (suc k) slot replies =
      let m = moved machine replay 0 slot replies in
      ap (λ (x : Moved (List Reply)). and_more x.next x (turned machine replay i k)) (step_number slot replies)
      ∙ more_number m.next m (turned machine replay i k) (turned machine replay 0 k) (turn_number k)

-- ==== The world that has a sandbox alone.

own_own : (b : Bounds) (m : Bytes) → own b (own b m) ≡ own b m
own_own b m = sym (same_own b (own b m) (own b m) (λ a e. refl) (λ a e. own_missing b m a e))

slots_alone : (m : Bytes) (s : Seat) → slots_of (alone (slot_of m s)) ≡ slot_of m s ∷ []
slots_alone m s = ap (λ (x : Bytes). let y : Slot = record { bounds = s.bounds; hart = s.hart; status = s.status; steps = s.steps; bytes = x } in y ∷ []) (own_own s.bounds m)

one_seat : (s t : Seat) (j : ℕ) → slice_get (s ∷ []) j ≡ Some t → t ≡ s
one_seat s t zero e = sym (same_Some s t e)
one_seat s t (suc j) e = absurd (cc)

alone_in_range : (n : Sandboxes) (i : ℕ) (s : Seat) → slice_get n.seats i ≡ Some s → AreInRange n → AreInRange (alone (slot_of n.bytes s))
alone_in_range n i s at range j t e =
    let state = range i s at in
    subst (λ (x : Seat). IsState (state_in (own s.bounds n.bytes) x)) (sym (one_seat s t j e)) (record { hart = state.hart; memory = kept_memory (is_own s.bounds) n.bytes state.memory })

-- bytes that are written at its own addresses
own_written : (b : Bounds) (m : Bytes) (a k : ℕ) (bytes : List ℕ) → ((q : ℕ) → a ≤ q → q < a + k → is_own b q ≡ true) → own b (with_bytes m (range_with_len a k) bytes) ≡ with_bytes (own b m) (range_with_len a k) bytes
own_written b m a zero bytes mine = refl
own_written b m a (suc k) [] mine = refl
own_written b m a (suc k) (x ∷ bytes) mine =
    own_written b (insert m a x) (a + 1) k bytes (λ q low high. mine q (omega (arith, low)) (omega (arith, high)))
    ∙ ap (λ (y : Bytes). with_bytes y (range_with_len (a + 1) k) bytes) (kept_put m (is_own b) a x (mine a (omega arith) (omega arith)))

-- ==== What may be done to a sandbox.

at_call_too : (l r : List Slot) (i j : ℕ) → slice_get r j ≡ slice_get l i → IsAtCall l i → IsAtCall r j
at_call_too l r i j same at = record { slot = at.slot; there = same ∙ at.there; ready = at.ready; calls = at.calls }

-- where the sandbox is the same
allowed_too : (w v : Sandboxes) (i j : ℕ) → slice_get (slots_of v) j ≡ slice_get (slots_of w) i → (action : SandboxAction) → IsAllowed w i action → IsAllowed v j action
allowed_too w v i j same (Run steps replies) may = tt
allowed_too w v i j same (GiveReply reply) may = at_call_too (slots_of w) (slots_of v) i j same may
allowed_too w v i j same (Write a bytes) may = ap (λ (o : Option Slot). is_some (data_bytes_of o a (length bytes))) same ∙ may
allowed_too w v i j same Stop may = ap (option_map (λ (s : Slot). s.status)) same ∙ may
allowed_too w v i j same (Enter pc arguments) may = record { slot = may.slot; there = same ∙ may.there; may = may.may }
allowed_too w v i j same (SetRegisters pc registers) may = record { slot = may.slot; there = same ∙ may.there; may = may.may }
allowed_too w v i j same (CallBack pc arguments) may = record { slot = may.slot; there = same ∙ may.there; at = at_call_too (slots_of w) (slots_of v) i j same may.at; may = may.may }
allowed_too w v i j same Reset may = ap is_some same ∙ may

-- ==== What its own action makes of it.

module _ (machine : Machine) (w : Sandboxes) (sound : IsSoundWorld w) (i : ℕ) (s : Seat) (at : slice_get w.seats i ≡ Some s) (n : Sandboxes) (range : AreInRange n) where
  abbrev before : Slot
  before = slot_of w.bytes s

  there : slice_get (slots_of w) i ≡ Some before
  there = get_map (slot_of w.bytes) w.seats i s at

  there_alone : slice_get (slots_of (alone before)) 0 ≡ Some before
  there_alone = ap (λ (l : List Slot). slice_get l 0) (slots_alone w.bytes s)

  -- the sandbox is this now, and alone the action makes the same of it
  record Does (action : SandboxAction) : Type 0 where
    now : Slot
    found : slice_get (slots_of n) i ≡ Some now
    in_range : AreInRange (alone now)
    done : IsDone machine (alone before) 0 action (alone now)

  -- it has this seat in a memory with these bytes
  seat_now : (m : Bytes) (t : Seat) → n ≡ record { bytes = m; seats = set w.seats i t } → (slice_get (slots_of n) i ≡ Some (slot_of m t)) × AreInRange (alone (slot_of m t))
  seat_now m t is =
      let o : Sandboxes = record { bytes = m; seats = set w.seats i t } in
      let here : slice_get o.seats i ≡ Some t = get_set_same w.seats i s t at in (
        ap (λ (x : Sandboxes). slice_get (slots_of x) i) is ∙ get_map (slot_of m) o.seats i t here,
        alone_in_range o i t here (subst (λ (x : Sandboxes). AreInRange x) is range),
      )

  in_data : (a k : ℕ) → IsSome (bytes_at (bytes_in s.bounds.data w.bytes) (range_with_len a k)) → (q : ℕ) → a ≤ q → q < a + k → is_own s.bounds q ≡ true
  in_data a k there q low high =
      let z : a + (q - a) ≡ q = omega (arith, low) in
      own_data s.bounds q (subst (Holds s.bounds.data) z (held s.bounds.data w.bytes (a + (q - a)) (each_there (bytes_in s.bounds.data w.bytes) a k (q - a) there (omega (arith, low, high)))))

  -- ---- a turn or a reply

  module _ (new : Slot) (slots : slots_of n ≡ set (slots_of w) i new) (lies : new.bounds ≡ s.bounds) (outside : StaysOutsideData w n.bytes) where
    new_found : slice_get (slots_of n) i ≡ Some new
    new_found = ap (λ (l : List Slot). slice_get l i) slots ∙ get_set_same (slots_of w) i before new there

    new_seat : (t : Seat) × (slice_get n.seats i ≡ Some t) × (new ≡ slot_of n.bytes t)
    new_seat = map_get (slot_of n.bytes) n.seats i new new_found

    new_in_range : AreInRange (alone new)
    new_in_range = subst (λ (x : Slot). AreInRange (alone x)) (sym new_seat.2) (alone_in_range n i new_seat.0 new_seat.1 range)

    new_bytes : new.bytes ≡ own s.bounds n.bytes
    new_bytes = ap (λ (x : Slot). x.bytes) new_seat.2 ∙ ap (λ (b : Bounds). own b n.bytes) (sym (ap (λ (x : Slot). x.bounds) new_seat.2) ∙ lies)

    code_stays : (a : ℕ) → Holds s.bounds.code a → byte_at n.bytes a ≡ byte_at w.bytes a
    code_stays a inside =
        let seat = sound.safe.each i s at in
        outside a (code_out w sound.safe i s at seat.part seat.bounds a (subst (λ (b : Bounds). Holds b.code a) seat.bounds inside))

    new_outside : StaysOutsideData (alone before) new.bytes
    new_outside a out =
        let b = s.bounds in
        ap (λ (m : Bytes). byte_at m a) new_bytes ∙ elim (is_own b a) as (λ t. is_own b a ≡ t → byte_at (own b n.bytes) a ≡ byte_at (own b w.bytes) a) [
          | true ↦ λ t.
              own_there b n.bytes a t
              ∙ ⊎_elim (λ (code : Holds b.code a). code_stays a code) (λ (held : Holds b.data a). absurd (out 0 s refl held)) (own_is b a t)
              ∙ sym (own_there b w.bytes a t)
          | false ↦ λ t. own_missing b n.bytes a t ∙ sym (own_missing b w.bytes a t)
        ] refl

    -- alone it is the only one
    new_has : HasSlots (alone before) (alone new) (set (slots_of (alone before)) 0 new)
    new_has = record {
      slots_are = subst (λ (x : Slot). slots_of (alone x) ≡ x ∷ []) (sym new_seat.2) (slots_alone n.bytes new_seat.0) ∙ sym (ap (λ (l : List Slot). set l 0 new) (slots_alone w.bytes s));
      outside = new_outside;
    }

  -- ---- each action

  done_alone : (action : SandboxAction) → IsAllowed w i action → IsDone machine w i action n → Does action
  done_alone (Run steps replies) may done =
      let m = turned machine replay i steps before replies in
      let slots = done.slots_are ∙ turn_set machine replay (turn_of i steps) (slots_of w) replies before there in
      let lies = turn_lies machine replay i steps before replies in
      let has = new_has m.slot slots lies done.outside in
      let number = ap (λ (x : Moved (List Reply)). x.slot) (turn_number machine i steps before replies) in
      record {
        now = m.slot;
        found = new_found m.slot slots lies done.outside;
        in_range = new_in_range m.slot slots lies done.outside;
        done = record {
          slots_are = has.slots_are ∙ ap (set (slots_of (alone before)) 0) number ∙ sym (turn_set machine replay (turn_of 0 steps) (slots_of (alone before)) replies before there_alone);
          outside = has.outside;
        };
      }
  done_alone (GiveReply reply) may done =
      let new = replied before (later_reply reply (call_of i before)) in
      let has = done before there in
      record {
        now = new;
        found = new_found new has.slots_are refl has.outside;
        in_range = new_in_range new has.slots_are refl has.outside;
        done = λ slot here.
            let same : before ≡ slot = same_Some before slot (sym there_alone ∙ here) in
            subst (λ (x : Slot). HasSlots (alone before) (alone new) (set (slots_of (alone before)) 0 (replied x (later_reply reply (call_of 0 x))))) same (new_has new has.slots_are refl has.outside);
      }
  done_alone (Write a bytes) may done =
      let mine : IsSome (bytes_at (bytes_in s.bounds.data w.bytes) (range_with_len a (length bytes))) =
      ap (λ (b : Bytes). is_some (bytes_at b (range_with_len a (length bytes)))) (sym (data_of_own s.bounds w.bytes))
      ∙ ap (λ (o : Option Slot). is_some (data_bytes_of o a (length bytes))) (sym there) ∙ may in
      let m = with_bytes w.bytes (range_with_len a (length bytes)) bytes in
      let now = seat_now m s (done ∙ ap (λ (l : List Seat). let x : Sandboxes = record { bytes = m; seats = l } in x) (sym (set_itself w.seats i s at))) in
      record {
        now = slot_of m s;
        found = now.0;
        in_range = now.1;
        done = ap (λ (x : Bytes). let y : Sandboxes = record { bytes = x; seats = s ∷ [] } in y) (own_written s.bounds w.bytes a (length bytes) bytes (in_data a (length bytes) mine));
      }
  done_alone Stop may done =
      let now = seat_now w.bytes (stopped_seat s) (done ∙ ap (with_stop_of w i) at) in
      record { now = slot_of w.bytes (stopped_seat s); found = now.0; in_range = now.1; done = refl }
  done_alone (Enter pc arguments) may done =
      let now = seat_now w.bytes (entered_seat s pc arguments) (done.1 ∙ ap (with_entry_of w i pc arguments) at) in
      record { now = slot_of w.bytes (entered_seat s pc arguments); found = now.0; in_range = now.1; done = (done.0, refl) }
  done_alone (SetRegisters pc registers) may done =
      let h = hart_of pc registers in
      let now = seat_now w.bytes (set_seat s h) (done ∙ ap (with_hart_of w i h) at) in
      record { now = slot_of w.bytes (set_seat s h); found = now.0; in_range = now.1; done = refl }
  done_alone (CallBack pc arguments) may done =
      let h = called_back_hart s.bounds s.hart pc arguments in
      let now = seat_now w.bytes (set_seat s h) (done ∙ ap (with_callback_of w i pc arguments) at ∙ ap (with_hart_of w i h) at) in
      record { now = slot_of w.bytes (set_seat s h); found = now.0; in_range = now.1; done = refl }
  done_alone Reset may done =
      let b = s.bounds in
      let m = with_first_bytes b w.bytes in
      let now = seat_now m (reset_seat s) (done ∙ ap (with_reset_of w i) at) in
      record {
        now = slot_of m (reset_seat s);
        found = now.0;
        in_range = now.1;
        done = ap (λ (x : Bytes). let y : Sandboxes = record { bytes = x; seats = reset_seat s ∷ [] } in y) (own_written b w.bytes b.data.base b.data.size (first_bytes b) (λ q low high. own_data b q (low, high)));
      }

  -- the sandbox is this now, and alone the action leads there
  pub record ActsAlone (action : SandboxAction) : Type 0 where
    pub slot : Slot
    pub found : slice_get (slots_of n) i ≡ Some slot
    pub acts : IsAction machine (alone before) (On 0 action) (alone slot)

  pub acts_alone : (action : SandboxAction) → Makes machine w (On i action) n → ActsAlone action
  acts_alone action (inl x) =
      let does = done_alone action x.0 x.1 in
      record {
        slot = does.now;
        found = does.found;
        acts = record { range = does.in_range; makes = inl (allowed_too w (alone before) i 0 (there_alone ∙ sym there) action x.0, does.done) };
      }
  acts_alone action (inr x) = record {
    slot = before;
    found = ap (λ (y : Sandboxes). slice_get (slots_of y) i) x.1 ∙ there;
    acts = record {
      range = alone_in_range w i s at (subst (λ (y : Sandboxes). AreInRange y) x.1 range);
      makes = inr (λ may. x.0 (allowed_too (alone before) w 0 i (there ∙ sym there_alone) action may), refl);
    };
  }

-- ==== A session.

module _ (machine : Machine) (is : IsMachine machine) where
  -- what an action on another sandbox leaves
  other_stays : (w mid : Sandboxes) → IsSoundWorld w → (j : ℕ) (action : SandboxAction) → IsAction machine w (On j action) mid → (i : ℕ) → i ≢ j → slice_get (slots_of mid) i ≡ slice_get (slots_of w) i
  other_stays w mid sound j action acts i other = ⊎_elim
      (λ (same : mid ≡ w). ap (λ (x : Sandboxes). slice_get (slots_of x) i) same)
      (λ (x : (old new : Slot) × After w j old new mid). ap (λ (l : List Slot). slice_get l i) x.2.slots ∙ get_set_other (slots_of w) j i x.1 other)
      (leaves machine is w sound j mid action acts)

  own_acts : (w mid : Sandboxes) → IsSoundWorld w → (i : ℕ) (action : SandboxAction) → IsAction machine w (On i action) mid → (slot : Slot) → slice_get (slots_of w) i ≡ Some slot
      → (new : Slot) × (slice_get (slots_of mid) i ≡ Some new) × IsAction machine (alone slot) (On 0 action) (alone new)
  own_acts w mid sound i action acts slot there =
      let s = map_get (slot_of w.bytes) w.seats i slot there in
      let x = acts_alone machine w sound i s.0 s.1 mid acts.range action acts.makes in
      (x.slot, x.found, subst (λ (y : Slot). IsAction machine (alone y) (On 0 action) (alone x.slot)) (sym s.2) x.acts)

  rest_stays : (w mid : Sandboxes) → IsSoundWorld w → (j : ℕ) → IsAction machine w (Remove j) mid → (i : ℕ) → i ≢ j → slice_get (slots_of mid) (number_without j i) ≡ slice_get (slots_of w) i
  rest_stays w mid sound j acts i other = by (slice_get w.seats j) refl acts.makes.0
    where
      by : (o : Option Seat) → slice_get w.seats j ≡ o → IsSome o → slice_get (slots_of mid) (number_without j i) ≡ slice_get (slots_of w) i
      by None e none = let wrong : false ≡ true = none in absurd (cc)
      by (Some s) e some = ap (λ (x : Sandboxes). slice_get (slots_of x) (number_without j i)) (acts.makes.1 ∙ ap (without_of w j) e) ∙ removed.rest_same w j sound.safe i other

  earlier_stays : (w mid : Sandboxes) → IsSoundWorld w → (parts : List Part) → IsAction machine w (Add parts) mid → (i : ℕ) (slot : Slot) → slice_get (slots_of w) i ≡ Some slot → slice_get (slots_of mid) i ≡ Some slot
  earlier_stays w mid sound parts acts i slot there =
      let s = map_get (slot_of w.bytes) w.seats i slot there in
      let below : i < length w.seats = slice_get_within w.seats i s.0 s.1 in
      ap (λ (x : Sandboxes). slice_get (slots_of x) i) acts.makes.2
      ∙ added.earlier_same w parts sound.safe sound.owned acts.makes.0.clean.layout acts.makes.1 i below ∙ there

  own_session : (actions : List HostAction) (w n : Sandboxes) → IsSoundWorld w → AreActions machine w actions n → (i k : ℕ) (slot : Slot) → slice_get (slots_of w) i ≡ Some slot → number_after i actions ≡ Some k
      → IsItsOwn machine (own_actions i actions) slot n k
  own_session [] w n sound same i k slot there number = record {
    slot = slot;
    there = (λ t. slice_get (slots_of (same t)) (same_Some k i (sym number) t)) ∙ there;
    is = refl;
  }
  own_session (On j action ∷ more) w n sound acts i k slot there number =
      let mid = acts.0 in
      let after = action_sound machine is (On j action) w mid sound acts.1 in
      elim (j == i) as (λ b. (j == i) ≡ b → IsItsOwn machine (cond b (On 0 action ∷ own_actions i more) (own_actions i more)) slot n k) [
        | true ↦ λ b.
            let own = own_acts w mid sound i action (subst (λ (x : ℕ). IsAction machine w (On x action) mid) (eqb-true j i b) acts.1) slot there in
            let rest = own_session more mid n after acts.2 i k own.0 own.1 number in
            record { slot = rest.slot; there = rest.there; is = (alone own.0, own.2, rest.is) }
        | false ↦ λ b. own_session more mid n after acts.2 i k slot (other_stays w mid sound j action acts.1 i (λ e. eqb-false j i b (sym e)) ∙ there) number
      ] refl
  own_session (Add parts ∷ more) w n sound acts i k slot there number =
      own_session more acts.0 n (action_sound machine is (Add parts) w acts.0 sound acts.1) acts.2 i k slot (earlier_stays w acts.0 sound parts acts.1 i slot there) number
  own_session (Remove j ∷ more) w n sound acts i k slot there number =
      let after = action_sound machine is (Remove j) w acts.0 sound acts.1 in
      elim (j == i) as (λ b. (j == i) ≡ b → cond b None (number_after (number_without j i) more) ≡ Some k → IsItsOwn machine (own_actions (number_without j i) more) slot n k) [
        | true ↦ λ b e. absurd (cc)
        | false ↦ λ b e. own_session more acts.0 n after acts.2 (number_without j i) k slot (rest_stays w acts.0 sound j acts.1 i (λ z. eqb-false j i b (sym z)) ∙ there) e
      ] refl number

pub sandboxes_are_their_own : SandboxesAreTheirOwn
sandboxes_are_their_own machine is actions w n sound acts i k slot there number = own_session machine is actions w n sound acts i k slot there number

-- the sandbox of a world that has one
one_of : Sandboxes → Option Slot
one_of w = option_map (λ (s : Seat). let x : Slot = record { bounds = s.bounds; hart = s.hart; status = s.status; steps = s.steps; bytes = w.bytes } in x) (slice_get w.seats 0)

alone_is : (a b : Slot) → alone a ≡ alone b → Some a ≡ Some b
unfolding one_of
alone_is a b e = ap one_of e

pub others_make_no_difference : OthersMakeNoDifference
others_make_no_difference machine is first second w n v m sound sound_too acts acts_too i j k l slot there there_too same number number_too =
    let a = own_session machine is first w n sound acts i k slot there number in
    let b = own_session machine is second v m sound_too acts_too j l slot there_too number_too in
    let too = subst (λ (own : List HostAction). AreActions machine (alone slot) own (alone b.slot)) (sym same) b.is in
    a.there ∙ alone_is a.slot b.slot (sessions_are_one machine (own_actions i first) (alone slot) (alone a.slot) (alone b.slot) a.is too) ∙ sym b.there
