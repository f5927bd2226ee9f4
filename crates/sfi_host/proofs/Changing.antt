-- A world of which one sandbox changed: it took a turn, or its data were written from outside.
use Rattle.sfi_host.proofs.Prelude.{◌≡◌, ◌≢◌, ◌<◌, ⊎_elim, ℕ, ◌+◌, List, length, get_or, Some, set, slice_get, sym, ap, ◌∙◌, subst, refl, cases_eq, map-set, length-map, same_Some, arith, Bytes, IsMemory, Holds, Part, InCode, Program, Sandbox, AreEnterable, seat_of, seats_of, world_of, Bounds, Slot, bounds_of, Seat, Sandboxes, slot_of, slots_of, IsSafeSeat, IsSafeWorld, StaysOutside, StaysOutsideData, state_in, bounds_in, StaysSafe, IsSafeWith, IsChange, bytes_in, bytes_outside, IsWhole}
use Rattle.sfi_host.specs.Changing.{OthersAreSame, AreChanges}
use Rattle.std.proofs.Math.ListN.{get_or-map}
use Rattle.std.specs.Arc.{arc_value}
use Rattle.std.specs.Global.{Global}
use Rattle.std.specs.declared.sync.Arc.{Arc}
use Rattle.sfi_host.specs.Owning.{AreOwned}
use Rattle.sfi_host.specs.Modules.{programs_of, AreDecoded}
use Rattle.sfi_host.proofs.WorldBytes.{found_there, seat_at, still_owned, get_map, same_bounds}
use Rattle.sfi_host.proofs.Decoded.{are_decoded}
use Rattle.sfi_host.proofs.OwnSteps.{slots_are, world_safe, neighbours_are}
use Rattle.sfi_decoded.proofs.Lists.{get_set_other, set_itself}
use Rattle.sfi_host.proofs.SafeSeats as keep
use Rattle.sfi_host.proofs.Worlds.{map_get}
use Rattle.sfi_host.proofs.AfterCalls.{stays_outside, whole_in, whole_of}

-- ---- a turn

-- no code lies in the data of any
module _ (w : Sandboxes) (safe : IsSafeWorld w) (i : ℕ) (s : Seat) (at : slice_get w.seats i ≡ Some s) (p : Part) (is : s.bounds ≡ bounds_of p) (a : ℕ) (inside : InCode p a) where
  pub code_out : (j : ℕ) (t : Seat) → slice_get w.seats j ≡ Some t → Holds t.bounds.data a → ⊥
  code_out j t there h = ⊎_elim
      (λ (same : j ≡ i).
      let one : t ≡ s = same_Some t s (sym there ∙ ap (slice_get w.seats) same ∙ at) in
      keep.code_not_data w.bytes s (safe.each i s at) p is a inside (subst (λ (y : Seat). Holds y.bounds.data a) one h))
      (λ (other : j ≢ i). (safe.others j i t s other there at).code a h (subst (λ (b : Bounds). Holds b.code a) (sym is) inside))
      (cases_eq j i)

-- where each lies as before, and only data changed, each may be entered as before
pub still_enterable : (w o : Sandboxes) → IsSafeWorld w → bounds_in o ≡ bounds_in w → StaysOutsideData w o.bytes → AreEnterable w → AreEnterable o
still_enterable w o safe same outside enterable i t at =
    let x = map_get (λ (s : Seat). s.bounds) w.seats i t.bounds (ap (λ (l : List Bounds). slice_get l i) (sym same) ∙ get_map (λ (s : Seat). s.bounds) o.seats i t at) in
    let e = enterable i x.0 x.1 in
    record {
      part = e.part;
      bounds = x.2 ∙ e.bounds;
      right = e.right;
      code = λ k below. outside (e.part.code_base + k) (code_out w safe i x.0 x.1 e.part e.bounds (e.part.code_base + k) (keep.code_at e.part k below)) ∙ e.code k below;
      runs = e.runs;
      calls = e.calls;
    }

-- what the type keeps of a world
abbrev pub IsKept : Sandboxes → List Program → Type 0
IsKept w programs = IsSafeWorld w × AreDecoded w programs × AreEnterable w × AreOwned w

-- the sandbox at that place, which was this slot, is that one now
pub record AfterTurn (w : Sandboxes) (programs : List Program) (i : ℕ) (old new : Slot) (o : Sandboxes) : Type 0 where
  pub kept : IsKept o programs
  pub bounds : bounds_in o ≡ bounds_in w
  pub outside : StaysOutsideData w o.bytes
  pub there : slice_get (slots_of w) i ≡ Some old
  pub slots : slots_of o ≡ set (slots_of w) i new

module _ (m n : Bytes) (items : List Sandbox) (programs : List Program) (i : ℕ) (x new : Sandbox) (inside : IsKept (world_of m items) programs)
    (at : slice_get items i ≡ Some x) (stays : StaysSafe m (seat_of x) n (seat_of new)) where
  by_seats : AfterTurn (world_of m items) programs i (slot_of m (seat_of x)) (slot_of n (seat_of new)) (record { bytes = n; seats = set (seats_of items) i (seat_of new) })
  by_seats =
      let w = world_of m items in
      let o : Sandboxes = record { bytes = n; seats = set (seats_of items) i (seat_of new) } in
      let there : slice_get (seats_of items) i ≡ Some (seat_of x) = seat_at items i x at in
      let same : bounds_in o ≡ bounds_in w = same_bounds (seats_of items) i (seat_of x) (seat_of new) there stays.bounds in
      let outside : StaysOutsideData w n = λ a out. stays.others a (out i (seat_of x) there) in
      record {
        kept = (
          world_safe m n (seats_of items) i (seat_of x) (seat_of new) inside.0 there stays.others stays.safe stays.bounds,
          are_decoded m n (seats_of items) i (seat_of x) (seat_of new) inside.0 there stays programs inside.1,
          still_enterable w o inside.0 same outside inside.2,
          still_owned w o same outside inside.3,
        );
        bounds = same;
        outside = outside;
        there = get_map (slot_of m) (seats_of items) i (seat_of x) there;
        slots = slots_are m n (seats_of items) i (seat_of x) (seat_of new) inside.0 there stays.others;
      }

  pub turn_taken : (w : Sandboxes) → world_of m items ≡ w → AfterTurn w programs i (slot_of m (seat_of x)) (slot_of n (seat_of new)) (world_of n (set items i new))
  turn_taken w view =
      subst (λ (y : Sandboxes × List Seat). AfterTurn y.0 programs i (slot_of m (seat_of x)) (slot_of n (seat_of new)) (record { bytes = n; seats = y.1 })) (λ k. (view k, sym (map-set seat_of items i new) k)) by_seats

-- the sandbox of a world that is looked up there may run, and is put back
module _ (m : Bytes) (items : List Sandbox) (programs : List Program) (i : ℕ) (x : Sandbox) (inside : IsKept (world_of m items) programs) (below : i < length items) (is : x ≡ get_or items i x) where
  there : slice_get items i ≡ Some x
  there = found_there items items i x refl below is

  pub may_run : (p : Program) → p ≡ get_or programs i p → IsSafeWith m (seat_of x) p
  may_run p program =
      let count : length programs ≡ length items = inside.1.count ∙ length-map items seat_of in
      let at : slice_get (seats_of items) i ≡ Some (seat_of x) = seat_at items i x there in
      record { safe = inside.0.each i (seat_of x) at; decoded = inside.1.each i p (seat_of x) (found_there programs programs i p refl (omega (arith, below, count)) program) at }

  -- so of one that is shared
  pub may_run_shared : (all : List (Arc Program Global)) → programs ≡ programs_of all → (p : Arc Program Global) → p ≡ get_or all i p → (q : Program) → q ≡ arc_value p → IsSafeWith m (seat_of x) q
  may_run_shared all are p is q value =
      may_run q (value ∙ ap arc_value is ∙ sym (get_or-map arc_value all i p) ∙ ap (λ (l : List Program). get_or l i (arc_value p)) (sym are) ∙ ap (λ (d : Program). get_or programs i d) (sym value))

  pub put_back : (n : Bytes) (new : Sandbox) → StaysSafe m (seat_of x) n (seat_of new) → (w : Sandboxes) → world_of m items ≡ w
      → AfterTurn w programs i (slot_of m (seat_of x)) (slot_of n (seat_of new)) (world_of n (set items i new))
  put_back n new stays = turn_taken m n items programs i x new inside there stays

-- ---- data that are written

-- where one place was set, the others are what they were
pub others_same : (w : Sandboxes) (i : ℕ) (new : Slot) (o : Sandboxes) → slots_of o ≡ set (slots_of w) i new → OthersAreSame w i o
others_same w i new o slots j other = ap (λ (l : List Slot). slice_get l j) slots ∙ get_set_other (slots_of w) i j new other

-- the data of a safe world's sandbox are whole
pub whole_at : (m : Bytes) (items : List Sandbox) (i : ℕ) (x : Sandbox) → IsSafeWorld (world_of m items) → slice_get items i ≡ Some x → IsWhole (seat_of x).bounds.data (bytes_in (seat_of x).bounds.data m)
whole_at m items i x world at = whole_in (seat_of x).bounds.data m (world.each i (seat_of x) (seat_at items i x at)).has_data

module _ (m n : Bytes) (items : List Sandbox) (programs : List Program) (i : ℕ) (x : Sandbox) (inside : IsKept (world_of m items) programs) (at : slice_get items i ≡ Some x) (memory : IsMemory n)
    (out : bytes_outside (seat_of x).bounds.data n ≡ bytes_outside (seat_of x).bounds.data m)
    (whole : IsWhole (seat_of x).bounds.data (bytes_in (seat_of x).bounds.data m) → IsWhole (seat_of x).bounds.data (bytes_in (seat_of x).bounds.data n)) where
  here : slice_get (seats_of items) i ≡ Some (seat_of x)
  here = seat_at items i x at

  others : StaysOutside (seat_of x).bounds.data m n
  others = stays_outside (seat_of x).bounds.data m n out

  safe : IsSafeSeat n (seat_of x)
  safe = keep.own_changed m (seat_of x) (inside.0.each i (seat_of x) here) n memory others (whole_of (seat_of x).bounds.data n (whole (whole_at m items i x inside.0 at)))

  change_of : (j : ℕ) (s : Seat) (p : Part) → slice_get (seats_of items) j ≡ Some s → s.bounds ≡ bounds_of p → IsChange p (state_in m s) (state_in n s)
  change_of j s p e is = ⊎_elim
      (λ (h : j ≡ i).
      let same : s ≡ seat_of x = same_Some s (seat_of x) (sym e ∙ ap (slice_get (seats_of items)) h ∙ here) in
      let stays : StaysOutside s.bounds.data m n = subst (λ (y : Seat). StaysOutside y.bounds.data m n) (sym same) others in
      record { pc = refl; registers = refl; bytes = keep.own_kept m s (inside.0.each j s e) p is n stays })
      (λ (h : j ≢ i). neighbours_are (world_of m items) i j (seat_of x) s n p inside.0 (λ z. h (sym z)) here e others is)
      (cases_eq j i)

  pub data_written : (w : Sandboxes) → world_of m items ≡ w → AfterTurn w programs i (slot_of m (seat_of x)) (slot_of n (seat_of x)) (world_of n items) × AreChanges w (world_of n items)
  data_written w view = (
    subst (λ (l : List Sandbox). AfterTurn w programs i (slot_of m (seat_of x)) (slot_of n (seat_of x)) (world_of n l)) (set_itself items i x at)
        (turn_taken m n items programs i x x inside at (record { bounds = refl; safe = safe; others = others }) w view),
    subst (λ (y : Sandboxes). AreChanges y (world_of n items)) view (λ j s p e is. (s, e, change_of j s p e is)),
  )
