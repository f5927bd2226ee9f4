-- The sandbox of a function before a call, at its entry, and after its turn.
use Rattle.std.proofs.Common.{◌≡◌, ◌≢◌, ℕ, zero, suc, ◌+◌, ◌%◌, ◌^◌, ◌<◌, ◌≤◌, Bool, List, [], ◌∷◌, map, set, Option, Some, None, IsSome, is_some, slice_get, refl, sym, ap, ◌∙◌, subst, arith}
use Rattle.std.specs.List.{range_with_len}
use Rattle.rv_mem.specs.Bytes.{Bytes, bytes_at}
use Rattle.sfi_formats.specs.Formats.{unit}
use Rattle.sfi_image.specs.declared.span.Span.{Span}
use Rattle.sfi_image.specs.Parts.{IsStart}
use Rattle.sfi_image.specs.Spelling.{Holds}
use Rattle.sfi_host.specs.declared.turn.RunAnswer.{RunAnswer}
use Rattle.sfi_host.specs.declared.turn.RunAnswer.TheVariants as answers
use Rattle.sfi_host.specs.declared.turn.StepResult.{StepResult}
use Rattle.sfi_host.specs.declared.turn.StepResult.TheVariants.{RunEnds}
use Rattle.sfi_host.specs.declared.turn.Turn.{Turn}
use Rattle.sfi_host.specs.Changing.{data_bytes_of, OthersAreSame}
use Rattle.sfi_host.specs.Loading.{MayEnterAt, with_entry, with_entry_of, entered_seat}
use Rattle.sfi_host.specs.Hosts.{Call, Answer, Host, limited}
use Rattle.sfi_host.specs.Joint.{Machine, Moved, turned, Joined, joined, joint, and_plan, turn_and}
use Rattle.sfi_host.specs.WorldSteps.{HaveRunJointly}
use Rattle.sfi_host.specs.Plans.{IsJoint, IsCutJoint}
use Rattle.sfi_host.specs.Slots.{bytes_in, IsWhole, Bounds, Slot}
use Rattle.sfi_host.specs.Worlds.{Seat, Sandboxes, slot_of, slots_of, IsSafeWorld, StaysOutsideData}
use Rattle.sfi_host.proofs.AfterCalls.{data_of_own, whole_in}
use Rattle.sfi_decoded.proofs.Lists.{get_set_same, get_set_other}
use Rattle.sfi_host.proofs.Plans.{joined_cons, joined_nil}
use Rattle.sfi_host.proofs.RegionBytes.{held}
use Rattle.sfi_host.proofs.Runs.{all_there, each_there, ends_within}
use Rattle.sfi_host.proofs.WorldBytes.{get_map, outside_more, same_bounds}
use Rattle.sfi_host.proofs.Worlds.{map_get}

-- ---- slots and seats

-- a sandbox with n data bytes has a seat
pub seat_there : (w : Sandboxes) (i at n : ℕ) → IsSome (data_bytes_of (slice_get (slots_of w) i) at n) → (s : Seat) × (slice_get w.seats i ≡ Some s)
seat_there w i at n h = by_slot (slice_get (slots_of w) i) refl h
  where
    by_slot : (o : Option Slot) → slice_get (slots_of w) i ≡ o → IsSome (data_bytes_of o at n) → (s : Seat) × (slice_get w.seats i ≡ Some s)
    by_slot None e there = absurd (cc)
    by_slot (Some x) e there = let found = map_get (slot_of w.bytes) w.seats i x e in (found.0, found.1)

-- whether it may be entered doesn't depend on the bytes
pub enter_too : (m n : Bytes) (seats : List Seat) (i pc : ℕ) → MayEnterAt (map (slot_of m) seats) i pc → MayEnterAt (map (slot_of n) seats) i pc
enter_too m n seats i pc may =
    let found = map_get (slot_of m) seats i may.slot may.there in
    let s = found.0 in
    let same : may.slot ≡ slot_of m s = found.2 in
    record {
      slot = slot_of n s;
      there = get_map (slot_of n) seats i s found.1;
      may = record {
        stopped = λ ready. may.may.stopped (ap (λ (x : Slot). x.status) same ∙ ready);
        start = subst (λ (x : Slot). IsStart (unit x.bounds.format) x.bounds.code pc) same may.may.start;
      };
    }

-- ---- the room of a text

bytes_of_seat : (w : Sandboxes) (i at n : ℕ) (s : Seat) → slice_get w.seats i ≡ Some s → data_bytes_of (slice_get (slots_of w) i) at n ≡ bytes_at (bytes_in s.bounds.data w.bytes) (range_with_len at n)
bytes_of_seat w i at n s e =
    ap (λ (o : Option Slot). data_bytes_of o at n) (get_map (slot_of w.bytes) w.seats i s e)
    ∙ ap (λ (b : Bytes). bytes_at b (range_with_len at n)) (data_of_own s.bounds w.bytes)

-- where the region is whole, there is room for what there was room for
room_in : (r : Span) (m n : Bytes) (at k : ℕ) → IsWhole r n → IsSome (bytes_at (bytes_in r m) (range_with_len at k)) → IsSome (bytes_at (bytes_in r n) (range_with_len at k))
room_in r m n at k whole h = all_there (bytes_in r n) at k (λ j below. whole_in r n whole (at + j) (held r m (at + j) (each_there (bytes_in r m) at k j h below)))

-- a sandbox that lies where it lay has the room that it had
pub room_stays : (v w : Sandboxes) (i at k : ℕ) (s t : Seat) → slice_get v.seats i ≡ Some s → slice_get w.seats i ≡ Some t → t.bounds ≡ s.bounds → IsSafeWorld w
    → IsSome (data_bytes_of (slice_get (slots_of v) i) at k) → IsSome (data_bytes_of (slice_get (slots_of w) i) at k)
room_stays v w i at k s t here there same safe h =
    let before : IsSome (bytes_at (bytes_in s.bounds.data v.bytes) (range_with_len at k)) = ap is_some (sym (bytes_of_seat v i at k s here)) ∙ h in
    let now = subst (λ (b : Bounds). IsSome (bytes_at (bytes_in b.data v.bytes) (range_with_len at k))) (sym same) before in
    ap is_some (bytes_of_seat w i at k t there) ∙ room_in t.bounds.data v.bytes w.bytes at k (safe.each i t there).has_data now

-- its length has 32 bits: no data region has all addresses
pub few : (w : Sandboxes) (i at n : ℕ) → IsSafeWorld w → IsSome (data_bytes_of (slice_get (slots_of w) i) at n) → n < 2 ^ 32
few w i at zero safe h = omega arith
few w i at (suc n) safe h =
    let found = seat_there w i at (suc n) h in
    let s = found.0 in
    let seat = safe.each i s found.1 in
    let r = s.bounds.data in
    let there : IsSome (bytes_at (bytes_in r w.bytes) (range_with_len at (suc n))) = ap is_some (sym (bytes_of_seat w i at (suc n) s found.1)) ∙ h in
    let end : at + suc n ≤ 2 ^ 32 = ends_within r w.bytes at (suc n) seat.state.memory (omega arith) there in
    let first : Holds r (at + 0) = held r w.bytes (at + 0) (each_there (bytes_in r w.bytes) at (suc n) 0 there (omega arith)) in
    let base : r.base ≡ seat.part.data_base = ap (λ (b : Bounds). b.data.base) seat.bounds in
    let low : 4096 ≤ seat.part.data_base = seat.right.guard_room.below in
    omega (arith, end, first.0, base, low)

-- ---- the entry

-- what the entry leaves of the world v, which is w but for bytes
module _ (w v x : Sandboxes) (i pc : ℕ) (arguments : List ℕ) (seats : v.seats ≡ w.seats) (is : x ≡ with_entry v i pc arguments) where
  entry_is : (s : Seat) → slice_get w.seats i ≡ Some s → x ≡ record { bytes = v.bytes; seats = set w.seats i (entered_seat s pc arguments) }
  entry_is s e =
      is ∙ ap (with_entry_of v i pc arguments) (ap (λ (l : List Seat). slice_get l i) seats ∙ e)
      ∙ ap (λ (l : List Seat). record { bytes = v.bytes; seats = set l i (entered_seat s pc arguments) }) seats

  -- the sandbox has the room that it had
  pub room_entered : (at n : ℕ) → IsSafeWorld x → IsSome (data_bytes_of (slice_get (slots_of w) i) at n) → IsSome (data_bytes_of (slice_get (slots_of x) i) at n)
  room_entered at n safe h =
      let found = seat_there w i at n h in
      let s = found.0 in
      let there : slice_get x.seats i ≡ Some (entered_seat s pc arguments) =
      ap (λ (y : Sandboxes). slice_get y.seats i) (entry_is s found.1) ∙ get_set_same w.seats i s (entered_seat s pc arguments) found.1 in
      room_stays w x i at n s (entered_seat s pc arguments) found.1 there refl safe h

  -- the data lie where they lay
  pub outside_entered : (s : Seat) → slice_get w.seats i ≡ Some s → StaysOutsideData w v.bytes → (later : Bytes) → StaysOutsideData x later → StaysOutsideData w later
  outside_entered s e first later second =
      let entered = entered_seat s pc arguments in
      outside_more w (record { bytes = v.bytes; seats = set w.seats i entered }) later (same_bounds w.seats i s entered e refl) first
      (subst (λ (y : Sandboxes). StaysOutsideData y later) (entry_is s e) second)

-- ---- the turn

-- a turn changes no other sandbox
module _ {S : Type 0} (machine : Machine) (host : Host S) (t : Turn) (slots : List Slot) (s : S) where
  nothing_more : (slots : List Slot) (s : S) → (joined machine host [] slots s).slots ≡ slots
  nothing_more slots s = ap (λ (j : Joined S). j.slots) (joined_nil machine host slots s)

  one_set : (next : StepResult) (m : Moved S) → (and_plan next t.sandbox m slots (joined machine host [])).slots ≡ set slots t.sandbox m.slot
  one_set RunEnds m = refl
  one_set next m = nothing_more (set slots t.sandbox m.slot) m.host

  by_slot : (j : ℕ) → j ≢ t.sandbox → (o : Option Slot) → slice_get (turn_and machine host t slots s o (joined machine host [])).slots j ≡ slice_get slots j
  by_slot j other None = ap (λ (l : List Slot). slice_get l j) (nothing_more slots s)
  by_slot j other (Some slot) =
      let m = turned machine host t.sandbox t.steps slot s in
      ap (λ (l : List Slot). slice_get l j) (one_set m.next m) ∙ get_set_other slots t.sandbox j m.slot other

  pub turn_others : (j : ℕ) → j ≢ t.sandbox → slice_get (joined machine host (t ∷ []) slots s).slots j ≡ slice_get slots j
  turn_others j other =
      ap (λ (x : Joined S). slice_get x.slots j) (joined_cons machine host t [] slots s (slice_get slots t.sandbox) refl)
      ∙ by_slot j other (slice_get slots t.sandbox)

pub others_after : {S : Type 0} (machine : Machine) (answer : S → Call → Answer S) (t : Turn) (w n : Sandboxes) (before : S) (limit : Option ℕ)
    → slots_of n ≡ (joint machine answer (t ∷ []) (slots_of w) before limit).slots → OthersAreSame w t.sandbox n
others_after machine answer t w n before limit slots j other =
    ap (λ (l : List Slot). slice_get l j) slots ∙ turn_others machine (limited answer) t (slots_of w) (record { host = before; left = limit }) j other

-- after a plan each sandbox lies where it lay
pub lies_there : {S : Type 0} (end : RunAnswer) (machine : Machine) (answer : S → Call → Answer S) (may_refuse : S → Call → Bool) (plan : List Turn) (w n : Sandboxes) (before after : S)
    → HaveRunJointly end machine answer may_refuse plan w before n after → IsSafeWorld w → (i : ℕ) (s : Seat) → slice_get w.seats i ≡ Some s
    → (t : Seat) × (slice_get n.seats i ≡ Some t) × (t.bounds ≡ s.bounds)
lies_there answers.Done machine answer may_refuse plan w n before after h safe i s e =
    let seat = safe.each i s e in let r = h.runs.each i s seat.part e seat.bounds in (r.seat, r.there, r.bounds)
lies_there (answers.Memory turn) machine answer may_refuse plan w n before after h safe i s e =
    let seat = safe.each i s e in let r = h.moved.runs.each i s seat.part e seat.bounds in (r.seat, r.there, r.bounds)

-- the plan of one turn, which ends somewhere, changes no other sandbox
pub others_end : {S : Type 0} (end : RunAnswer) (machine : Machine) (answer : S → Call → Answer S) (may_refuse : S → Call → Bool) (t : Turn) (w n : Sandboxes) (before after : S)
    → (end ≡ answers.Done → IsJoint machine answer (t ∷ []) (slots_of w) before (slots_of n) after)
    → ((turn : ℕ) → end ≡ answers.Memory turn → IsCutJoint machine answer may_refuse (t ∷ []) (slots_of w) before turn (slots_of n) after) → OthersAreSame w t.sandbox n
others_end answers.Done machine answer may_refuse t w n before after done cut = others_after machine answer t w n before None (done refl).slots
others_end (answers.Memory turn) machine answer may_refuse t w n before after done cut =
    let stopped = cut turn refl in others_after machine answer t w n before (Some stopped.answered) stopped.slots

-- where it is cut, it is in its first turn
pub cut_first : (end : RunAnswer) (Cut : ℕ → Type 0) → ((turn : ℕ) → end ≡ answers.Memory turn → turn < 1) → ((turn : ℕ) → end ≡ answers.Memory turn → Cut turn) → end ≢ answers.Done → Cut 0
cut_first answers.Done Cut place cut h = absurd (h refl)
cut_first (answers.Memory turn) Cut place cut h =
    let below = place turn refl in let first : turn ≡ 0 = omega (arith, below) in subst Cut first (cut turn refl)
