-- Each action of a host, and so each session, keeps a world sound.
use Rattle.sfi_host.proofs.Prelude.{◌≡◌, ◌⊎◌, arith, inl, inr, ⊎_elim, ℕ, ◌+◌, ◌<◌, Bool, false, true, cond, byte_at, retain_keys, Part, IsState, state_in, first_seat, List, [], ◌∷◌, map, set, length, Option, Some, None, IsSome, is_some, slice_get, slice_get-map, option_map, refl, sym, ap, ◌∙◌, subst, same_Some, Bytes, IsMemory, bytes_at, with_bytes, range_with_len, with_parts, Hart, IsHart, Way, Replied, Reply, Host, replay, Machine, IsMachine, Moved, replied, next_after, after_answer, and_more, turned, joined, call_of, Turn, bounds_in, bytes_in, IsWhole, Bounds, Slot, Seat, Sandboxes, slot_of, slots_of, IsSafeSeat, StaysSafe, StaysOutside, StaysOutsideData, Ready, state_of, entered_seat, entered_hart, with_entry_of, MayEnter}
use Rattle.rv_step.specs.declared.outcome.Outcome.TheVariants.{Call as Calls}
use Rattle.std.specs.List.{remove}
use Rattle.sfi_host.specs.Adding.{is_own_of, with_image, without_of}
use Rattle.sfi_host.specs.Changing.{stopped_seat, set_seat, called_back_hart, IsEntryHart, with_stop_of, with_hart_of, with_callback_of, with_world_bytes, data_bytes_of, hart_of}
use Rattle.sfi_host.specs.Loading.{reset_seat, with_reset_of, with_first_bytes, first_bytes}
use Rattle.sfi_host.specs.Sessions.{SandboxAction, Run, GiveReply, Write, Stop, Enter, SetRegisters, CallBack, Reset, HostAction, On, Add, Remove, IsAllowed, HasSlots, IsDone, AreInRange, IsAction, AreActions, IsSoundWorld, SessionsAreSafe}
use Rattle.sfi_host.specs.Waiting.{later_reply, turn_of}
use Rattle.sfi_host.proofs.Adding as added
use Rattle.sfi_host.proofs.AfterCalls.{data_of_own, stays_outside, whole_in, whole_of}
use Rattle.sfi_host.proofs.Changing.{still_enterable}
use Rattle.sfi_host.proofs.Copied.{region_there}
use Rattle.sfi_host.proofs.Entries.{entered_safe}
use Rattle.sfi_host.proofs.FromOutside.{set_safe}
use Rattle.sfi_host.proofs.Joined.{joined_are}
use Rattle.sfi_decoded.proofs.Lists.{get_set_same, set_itself}
use Rattle.sfi_host.proofs.OwnSteps.{slots_are, world_safe}
use Rattle.sfi_host.proofs.RegionBytes.{get_kept}
use Rattle.sfi_host.proofs.Removing as removed
use Rattle.sfi_host.proofs.ResetSeats.{reset_safe}
use Rattle.sfi_host.proofs.Runs.{written_in}
use Rattle.sfi_host.proofs.SafeSeats as keep
use Rattle.sfi_host.proofs.SlotSteps.{calls_by}
use Rattle.sfi_host.proofs.Stops.{have_stopped}
use Rattle.sfi_host.proofs.Turns.{turn_set, turn_none, turn_bounds}
use Rattle.sfi_host.proofs.WorldBytes.{get_map, same_bounds, same_world, still_owned}

-- ==== One sandbox has changed.

-- the sandbox of that number, which was this slot, is that one now, and the world is sound
pub record After (w : Sandboxes) (i : ℕ) (old new : Slot) (n : Sandboxes) : Type 0 where
  pub there : slice_get (slots_of w) i ≡ Some old
  pub slots : slots_of n ≡ set (slots_of w) i new
  pub sound : IsSoundWorld n

module _ (w : Sandboxes) (sound : IsSoundWorld w) (i : ℕ) (s : Seat) (at : slice_get w.seats i ≡ Some s) where
  seat : IsSafeSeat w.bytes s
  seat = sound.safe.each i s at

  -- its own data, and its seat
  module _ (m : Bytes) (t : Seat) (stays : StaysSafe w.bytes s m t) where
    changed : After w i (slot_of w.bytes s) (slot_of m t) (record { bytes = m; seats = set w.seats i t })
    changed =
        let n : Sandboxes = record { bytes = m; seats = set w.seats i t } in
        let lie : bounds_in n ≡ bounds_in w = same_bounds w.seats i s t at stays.bounds in
        let outside : StaysOutsideData w m = λ a out. stays.others a (out i s at) in
        record {
          there = get_map (slot_of w.bytes) w.seats i s at;
          slots = slots_are w.bytes m w.seats i s t sound.safe at stays.others;
          sound = record {
            safe = world_safe w.bytes m w.seats i s t sound.safe at stays.others stays.safe stays.bounds;
            enterable = still_enterable w n sound.safe lie outside sound.enterable;
            owned = still_owned w n lie outside sound.owned;
          };
        }

    in_world : (n : Sandboxes) → n ≡ record { bytes = m; seats = set w.seats i t } → After w i (slot_of w.bytes s) (slot_of m t) n
    in_world n is = subst (λ (x : Sandboxes). After w i (slot_of w.bytes s) (slot_of m t) x) (sym is) changed

  -- its seat alone
  seat_set : (t : Seat) → t.bounds ≡ s.bounds → IsSafeSeat w.bytes t → (n : Sandboxes) → n ≡ record { bytes = w.bytes; seats = set w.seats i t } → After w i (slot_of w.bytes s) (slot_of w.bytes t) n
  seat_set t bounds safe n is = in_world w.bytes t (record { bounds = bounds; safe = safe; others = λ a out. refl }) n is

  -- it is in a state of the machine
  state_then : (n : Sandboxes) (m : Bytes) (t : Seat) → AreInRange n → n ≡ record { bytes = m; seats = set w.seats i t } → IsState (state_in m t)
  state_then n m t range is =
      subst (λ (b : Bytes). IsState (state_in b t)) (ap (λ (x : Sandboxes). x.bytes) is) (range i t (ap (λ (x : Sandboxes). slice_get x.seats i) is ∙ get_set_same w.seats i s t at))

  abbrev Changed : Sandboxes → Type 0
  Changed n = (new : Slot) × After w i (slot_of w.bytes s) new n

  stop_is : (n : Sandboxes) → n ≡ record { bytes = w.bytes; seats = set w.seats i (stopped_seat s) } → Changed n
  stop_is n is =
      let safe : IsSafeSeat w.bytes (stopped_seat s) = keep.halted w.bytes s seat w.bytes (stopped_seat s) seat.state refl (λ e. cc) tt (λ a out. refl) seat.has_data in
      (slot_of w.bytes (stopped_seat s), seat_set (stopped_seat s) refl safe n is)

  set_is : (h : Hart) → IsEntryHart s.bounds h → (n : Sandboxes) → AreInRange n → n ≡ record { bytes = w.bytes; seats = set w.seats i (set_seat s h) } → Changed n
  set_is h may n range is =
      let hart : IsHart h = (state_then n w.bytes (set_seat s h) range is).hart in
      (slot_of w.bytes (set_seat s h), seat_set (set_seat s h) refl (set_safe w.bytes s seat h hart (sound.enterable i s at) may) n is)

  enter_is : (pc : ℕ) (arguments : List ℕ) → length arguments ≡ 8 → MayEnter s.bounds s.status pc → (n : Sandboxes) → AreInRange n
      → n ≡ record { bytes = w.bytes; seats = set w.seats i (entered_seat s pc arguments) } → Changed n
  enter_is pc arguments many may n range is =
      let hart : IsHart (entered_hart s.bounds pc arguments) = (state_then n w.bytes (entered_seat s pc arguments) range is).hart in
      let safe : IsSafeSeat w.bytes (entered_seat s pc arguments) = entered_safe w.bytes s seat (sound.enterable i s at) pc arguments (omega (arith, many)) may.start.held may.start.aligned hart in
      (slot_of w.bytes (entered_seat s pc arguments), seat_set (entered_seat s pc arguments) refl safe n is)

  -- ---- data that are written

  module _ (a k : ℕ) (bytes : List ℕ) (there : IsSome (bytes_at (bytes_in s.bounds.data w.bytes) (range_with_len a k))) where
    abbrev written : Bytes
    written = with_bytes w.bytes (range_with_len a k) bytes

    data_stay : IsMemory written → StaysSafe w.bytes s written s
    data_stay memory =
        let is = written_in s.bounds.data w.bytes a k bytes there in
        let others : StaysOutside s.bounds.data w.bytes written = stays_outside s.bounds.data w.bytes written is.outside in
        let whole : IsWhole s.bounds.data written = whole_of s.bounds.data written (is.whole (whole_in s.bounds.data w.bytes seat.has_data)) in
        record { bounds = refl; safe = keep.own_changed w.bytes s seat written memory others whole; others = others }

  write_is : (a : ℕ) (bytes : List ℕ) → IsSome (bytes_at (bytes_in s.bounds.data w.bytes) (range_with_len a (length bytes))) → (n : Sandboxes) → AreInRange n → n ≡ with_world_bytes w a bytes → Changed n
  write_is a bytes there n range is =
      let m = written a (length bytes) bytes there in
      let as_set = is ∙ ap (λ (l : List Seat). let x : Sandboxes = record { bytes = m; seats = l } in x) (sym (set_itself w.seats i s at)) in
      (slot_of m s, in_world m s (data_stay a (length bytes) bytes there (state_then n m s range as_set).memory) n as_set)

  reset_is : (n : Sandboxes) → AreInRange n → n ≡ record { bytes = with_first_bytes s.bounds w.bytes; seats = set w.seats i (reset_seat s) } → Changed n
  reset_is n range is =
      let b = s.bounds in
      let m = with_first_bytes b w.bytes in
      let memory : IsMemory m = (state_then n m (reset_seat s) range is).memory in
      let stays : StaysSafe w.bytes s m s = data_stay b.data.base b.data.size (first_bytes b) (region_there b.data w.bytes (whole_in b.data w.bytes seat.has_data)) memory in
      let mid = changed m s stays in
      let hart : IsHart (reset_seat s).hart = (state_then n m (reset_seat s) range is).hart in
      let safe : IsSafeSeat m (reset_seat s) = reset_safe m s stays.safe hart (mid.sound.enterable i s (get_set_same w.seats i s s at)) in
      (slot_of m (reset_seat s), in_world m (reset_seat s) (record { bounds = refl; safe = safe; others = stays.others }) n is)

-- ==== A turn.

bounds_of_slots : (m : Bytes) (seats : List Seat) → map (λ (x : Slot). x.bounds) (map (slot_of m) seats) ≡ map (λ (s : Seat). s.bounds) seats
bounds_of_slots m [] = refl
bounds_of_slots m (s ∷ seats) = ap (λ (l : List Bounds). s.bounds ∷ l) (bounds_of_slots m seats)

pub slots_lie : (w n : Sandboxes) → map (λ (x : Slot). x.bounds) (slots_of n) ≡ map (λ (x : Slot). x.bounds) (slots_of w) → bounds_in n ≡ bounds_in w
slots_lie w n same = sym (bounds_of_slots n.bytes n.seats) ∙ same ∙ bounds_of_slots w.bytes w.seats

module _ (machine : Machine) (is : IsMachine machine) (w : Sandboxes) (sound : IsSoundWorld w) (n : Sandboxes) where
  run_sound : {S : Type 0} (host : Host S) (t : Turn) (s : S) → HasSlots w n (joined machine host (t ∷ []) (slots_of w) s).slots → IsSoundWorld n
  run_sound host t s has =
      let ran = joined_are machine host (t ∷ []) w s is sound.safe in
      let o = ran.0 in
      let slots = ran.1.whole.slots in
      let outside = ran.1.runs.outside in
      let lie : bounds_in o ≡ bounds_in w = slots_lie w o (ap (map (λ (x : Slot). x.bounds)) slots ∙ turn_bounds machine host t (slots_of w) s) in
      subst IsSoundWorld (sym (same_world w n o lie (has.slots_are ∙ sym slots) has.outside outside)) (record {
        safe = ran.1.runs.safe_world;
        enterable = still_enterable w o sound.safe lie outside sound.enterable;
        owned = still_owned w o lie outside sound.owned;
      })

  -- ---- a reply is a turn of one step that gets it

  after_way_is : (way : Way) (m : Moved (List Reply)) (i : ℕ) → (and_more (next_after way) m (turned machine replay i 0)).slot ≡ m.slot
  unfolding turned
  after_way_is Replied m i = refl
  after_way_is way m i = refl

  replied_is : (slot : Slot) (i : ℕ) (r : Reply) → slot.status ≡ Ready → (machine (state_of slot)).outcome ≡ Calls → (turned machine replay i 1 slot (r ∷ [])).slot ≡ replied slot r
  unfolding turned
  replied_is slot i r ready calls =
      ap (λ (m : Moved (List Reply)). (and_more m.next m (turned machine replay i 0)).slot) (calls_by machine replay i slot (r ∷ []) ready calls)
      ∙ after_way_is r.way (after_answer slot (r ∷ []) (replay (r ∷ []) (call_of i slot))) i

-- ==== Each action.

module _ (machine : Machine) (is : IsMachine machine) (w : Sandboxes) (sound : IsSoundWorld w) (i : ℕ) (n : Sandboxes) where
  -- nothing has changed, or one sandbox has
  abbrev pub Leaves : Type 0
  Leaves = (n ≡ w) ⊎ ((old new : Slot) × After w i old new n)

  one_has : (s : Seat) → (new : Slot) × After w i (slot_of w.bytes s) new n → Leaves
  one_has s x = inr (slot_of w.bytes s, x.0, x.1)

  -- its slot
  slot_there : (s : Seat) → slice_get w.seats i ≡ Some s → (slot : Slot) → slice_get (slots_of w) i ≡ Some slot → slot ≡ slot_of w.bytes s
  slot_there s at slot there = same_Some slot (slot_of w.bytes s) (sym there ∙ get_map (slot_of w.bytes) w.seats i s at)

  none_there : slice_get w.seats i ≡ None → slice_get (slots_of w) i ≡ None
  none_there e = slice_get-map (slot_of w.bytes) w.seats i ∙ ap (option_map (slot_of w.bytes)) e

  by_seat : (action : SandboxAction) (o : Option Seat) → slice_get w.seats i ≡ o → AreInRange n → IsAllowed w i action → IsDone machine w i action n → Leaves
  by_seat (Run steps replies) None e range may done =
      inl (same_world w n w refl (done.slots_are ∙ turn_none machine replay (turn_of i steps) (slots_of w) replies (none_there e)) done.outside (λ a out. refl))
  by_seat (Run steps replies) (Some s) e range may done =
      let there = get_map (slot_of w.bytes) w.seats i s e in
      one_has s (
        (turned machine replay i steps (slot_of w.bytes s) replies).slot,
        record {
          there = there;
          slots = done.slots_are ∙ turn_set machine replay (turn_of i steps) (slots_of w) replies (slot_of w.bytes s) there;
          sound = run_sound machine is w sound n replay (turn_of i steps) replies done;
        },
      )
  by_seat (GiveReply reply) o e range may done =
      let r = later_reply reply (call_of i may.slot) in
      let has = done may.slot may.there in
      let as_turn = turn_set machine replay (turn_of i 1) (slots_of w) (r ∷ []) may.slot may.there ∙ ap (set (slots_of w) i) (replied_is machine is w sound n may.slot i r may.ready (may.calls machine is)) in
      inr (
        may.slot,
        replied may.slot r,
        record {
          there = may.there;
          slots = has.slots_are;
          sound = run_sound machine is w sound n replay (turn_of i 1) (r ∷ []) (record { slots_are = has.slots_are ∙ sym as_turn; outside = has.outside });
        },
      )
  by_seat (Write a bytes) None e range may done =
      let none : false ≡ true = ap (λ (o : Option Slot). is_some (data_bytes_of o a (length bytes))) (sym (none_there e)) ∙ may in absurd (cc)
  by_seat (Write a bytes) (Some s) e range may done =
      let there : IsSome (bytes_at (bytes_in s.bounds.data w.bytes) (range_with_len a (length bytes))) =
      ap (λ (b : Bytes). is_some (bytes_at b (range_with_len a (length bytes)))) (sym (data_of_own s.bounds w.bytes))
      ∙ ap (λ (o : Option Slot). is_some (data_bytes_of o a (length bytes))) (sym (get_map (slot_of w.bytes) w.seats i s e)) ∙ may in
      one_has s (write_is w sound i s e a bytes there n range done)
  by_seat Stop None e range may done = inl (done ∙ ap (with_stop_of w i) e)
  by_seat Stop (Some s) e range may done = one_has s (stop_is w sound i s e n (done ∙ ap (with_stop_of w i) e))
  by_seat (Enter pc arguments) None e range may done = inl (done.1 ∙ ap (with_entry_of w i pc arguments) e)
  by_seat (Enter pc arguments) (Some s) e range may done =
      one_has s (enter_is w sound i s e pc arguments done.0 (subst (λ (x : Slot). MayEnter x.bounds x.status pc) (slot_there s e may.slot may.there) may.may) n range (done.1 ∙ ap (with_entry_of w i pc arguments) e))
  by_seat (SetRegisters pc registers) None e range may done = inl (done ∙ ap (with_hart_of w i (hart_of pc registers)) e)
  by_seat (SetRegisters pc registers) (Some s) e range may done =
      let h = hart_of pc registers in
      one_has s (set_is w sound i s e h (subst (λ (x : Slot). IsEntryHart x.bounds h) (slot_there s e may.slot may.there) may.may) n range (done ∙ ap (with_hart_of w i h) e))
  by_seat (CallBack pc arguments) None e range may done = inl (done ∙ ap (with_callback_of w i pc arguments) e)
  by_seat (CallBack pc arguments) (Some s) e range may done =
      let h = called_back_hart s.bounds s.hart pc arguments in
      one_has s (set_is w sound i s e h (subst (λ (x : Slot). IsEntryHart x.bounds (called_back_hart x.bounds x.hart pc arguments)) (slot_there s e may.slot may.there) may.may) n range
      (done ∙ ap (with_callback_of w i pc arguments) e ∙ ap (with_hart_of w i h) e))
  by_seat Reset None e range may done = inl (done ∙ ap (with_reset_of w i) e)
  by_seat Reset (Some s) e range may done = one_has s (reset_is w sound i s e n range (done ∙ ap (with_reset_of w i) e))

  pub leaves : (action : SandboxAction) → IsAction machine w (On i action) n → Leaves
  leaves action acts = ⊎_elim
      (λ (x : IsAllowed w i action × IsDone machine w i action n). by_seat action (slice_get w.seats i) refl acts.range x.0 x.1)
      (λ (x : (IsAllowed w i action → ⊥) × (n ≡ w)). inl x.1)
      acts.makes

-- a part that was added is in a state of the machine, and so in a memory
added_memory : (w n : Sandboxes) (parts : List Part) → 0 < length parts → n ≡ with_image w parts → AreInRange n → IsMemory (with_parts w.bytes parts)
added_memory w n [] some is range = absurd (omega (arith, some))
added_memory w n (p ∷ parts) some is range =
    let o = with_image w (p ∷ parts) in
    (subst (λ (x : Sandboxes). AreInRange x) is range (length w.seats + 0) (first_seat p) (added.get_back w.seats (map first_seat (p ∷ parts)) 0 (first_seat p) refl)).memory

-- some bytes of a memory are one
pub kept_memory : (test : ℕ → Bool) (m : Bytes) → IsMemory m → IsMemory (retain_keys m test)
kept_memory test m memory = record {
  addresses = λ a v e. memory.addresses a v (some_kept (test a) (byte_at m a) v (sym (get_kept m test a) ∙ e));
  bytes = λ a v e. memory.bytes a v (some_kept (test a) (byte_at m a) v (sym (get_kept m test a) ∙ e));
}
  where
    some_kept : (t : Bool) (o : Option ℕ) (b : ℕ) → cond t o None ≡ Some b → o ≡ Some b
    some_kept true o b e = e
    some_kept false o b e = absurd (cc)

module _ (machine : Machine) (is : IsMachine machine) where
  pub action_sound : (action : HostAction) (w n : Sandboxes) → IsSoundWorld w → IsAction machine w action n → IsSoundWorld n
  action_sound (On i action) w n sound acts = ⊎_elim
      (λ (same : n ≡ w). subst IsSoundWorld (sym same) sound)
      (λ (x : (old new : Slot) × After w i old new n). x.2.sound)
      (leaves machine is w sound i n action acts)
  action_sound (Add parts) w n sound acts =
      let runs = acts.makes.0 in
      let clear = acts.makes.1 in
      let memory : IsMemory (with_parts w.bytes parts) = added_memory w n parts runs.clean.layout.at_least_one acts.makes.2 acts.range in
      subst IsSoundWorld (sym acts.makes.2) (record {
        safe = added.all_safe w parts sound.safe sound.owned runs.clean.layout clear memory runs.safe runs.calls;
        enterable = added.enterable w parts sound.safe sound.owned runs.clean.layout clear memory runs.safe runs.calls sound.enterable;
        owned = added.all_owned w parts sound.safe sound.owned runs.clean.layout clear memory runs.safe runs.calls;
      })
  action_sound (Remove i) w n sound acts = by (slice_get w.seats i) refl acts.makes.0
    where
      by : (o : Option Seat) → slice_get w.seats i ≡ o → IsSome o → IsSoundWorld n
      by None e none = let wrong : false ≡ true = none in absurd (cc)
      by (Some s) e some =
          let as_rest = acts.makes.1 ∙ ap (without_of w i) e in
          let memory = kept_memory (is_own_of (remove w.seats i)) w.bytes (sound.safe.each i s e).state.memory in
          subst IsSoundWorld (sym as_rest) (record {
            safe = removed.rest_safe w i sound.safe memory;
            enterable = removed.rest_enterable w i sound.safe sound.enterable;
            owned = removed.rest_owned w i sound.safe;
          })

  session_sound : (actions : List HostAction) (w n : Sandboxes) → IsSoundWorld w → AreActions machine w actions n → IsSoundWorld n
  session_sound [] w n sound same = subst IsSoundWorld (sym same) sound
  session_sound (action ∷ more) w n sound acts = session_sound more acts.0 n (action_sound action w acts.0 sound acts.1) acts.2

pub sessions_are_safe : SessionsAreSafe
sessions_are_safe machine is actions w n sound acts =
    let after = session_sound machine is actions w n sound acts in
    (after, have_stopped n after.safe)
