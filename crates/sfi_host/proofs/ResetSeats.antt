-- A sandbox that is reset is what it was at first.
use Rattle.sfi_host.proofs.Prelude.{◌≡◌, ℕ, zero, suc, ◌∷◌, ◌+◌, ◌-◌, ◌^◌, ◌<◌, ◌≤◌, Bool, true, false, cond, List, [], ◌++◌, length, map, set, Some, None, slice_get, refl, sym, ap, ◌∙◌, subst, arith, or_cases, replicate, empty, range_with_len, Bytes, byte_at, address_after, with_bytes, added, Holds, InCode, InData, Part, IsRightPart, IsRightLayout, HasCode, Ready, first_seat, with_parts, is_in, is_own, own, Bounds, bounds_of, Slot, Sandboxes, slot_of, slots_of, ⊎_elim, ◌↔◌, ◌%◌, IsSome, is_some, IsTrue, map-set, same_Some, IsMemory, IsHart, AreApart, with_guards, IsEntry, Program, Sandbox, IsAtEntry, IsEnterable, seat_of, seats_of, world_of, Seat, state_in, IsSafeSeat, StaysOutside, bytes_in, bytes_outside, IsWhole}
use Rattle.sfi_host.specs.Loading.{with_first_bytes, reset_seat, with_reset_of, ResetIsFirst, with_reset}
use Rattle.sfi_host.proofs.Entered.{lie_apart, has_code, has_data, added_inside, added_outside}
use Rattle.sfi_decoded.proofs.Lists.{get_set_same}
use Rattle.sfi_host.proofs.RegionBytes.{get_kept, same_bytes, is_in-true}
use Rattle.sfi_host.proofs.SafeSeats as keep
use Rattle.sfi_host.proofs.WorldBytes.{get_map, seat_at, slot_is, no_slot}
use Rattle.sfi_formats.specs.Formats.{unit}
use Rattle.sfi_safe_runs.specs.Runs.{IsUnitStart}
use Rattle.sfi_safe_runs.proofs.Entries.{even_unit}
use Rattle.sfi_host.proofs.Changing.{IsKept, AfterTurn, turn_taken}
use Rattle.sfi_host.proofs.Entries.{sizes}
use Rattle.sfi_host.proofs.AfterCalls.{stays_outside, whole_of}
use Rattle.sfi_host.proofs.Worlds.{AreFreshOf, fresh_are, fresh_pc, reserved_at, typed_at, start_unit}

-- ==== A sandbox that is reset is what it was at first.

-- addresses that don't go round
straight : (a k n : ℕ) → a + k + n ≤ 2 ^ 32 → map (address_after a) (range_with_len k n) ≡ range_with_len (a + k) n
straight a k zero room = refl
straight a k (suc n) room =
    let x : address_after a k ≡ a + k = omega arith in
    let y : a + (k + 1) ≡ a + k + 1 = omega arith in
    ap (λ (b : ℕ). b ∷ map (address_after a) (range_with_len (k + 1) n)) x
    ∙ ap (λ (l : List ℕ). (a + k) ∷ l) (straight a (k + 1) n (omega arith) ∙ ap (λ (b : ℕ). range_with_len b n) y)

-- in the words of a world at first
as_added : (b : Bounds) (m : Bytes) → b.data.base + b.data.size ≤ 2 ^ 32 → with_first_bytes b m ≡ added m b.data.base b.data.size b.init
as_added b m fits =
    let z : b.data.base + 0 ≡ b.data.base = omega arith in
    sym (ap (λ (l : List ℕ). with_bytes m l (b.init ++ replicate (b.data.size - length b.init) 0)) (straight b.data.base 0 b.data.size (omega arith) ∙ ap (λ q. range_with_len q b.data.size) z))

module _ (m : Bytes) (ps : List Part) (k : ℕ) (p : Part) (layout : IsRightLayout ps) (at : slice_get ps k ≡ Some p) (code : HasCode p m) (apart : (a : ℕ) → InCode p a → InData p a → ⊥) where
  right : IsRightPart p
  right = (lie_apart ps layout).each k p at

  fits : p.data_base + p.data_size ≤ 2 ^ 32
  fits = let above : p.data_base + p.data_size + 4096 ≤ 2 ^ 32 = right.guard_room.above in omega arith

  abbrev n : Bytes
  n = added m p.data_base p.data_size p.init

  code_same : (a : ℕ) → InCode p a → byte_at n a ≡ byte_at (with_parts empty ps) a
  code_same a inside =
      let z : p.code_base + (a - p.code_base) ≡ a = omega (arith, inside) in
      let below : a - p.code_base < length p.code = omega (arith, inside) in
      added_outside m p.data_base p.data_size p.init a fits (apart a inside)
      ∙ ap (byte_at m) (sym z) ∙ code (a - p.code_base) below
      ∙ sym (has_code ps empty k p (lie_apart ps layout) at (a - p.code_base) below) ∙ ap (byte_at (with_parts empty ps)) z

  data_same : (a : ℕ) → InData p a → byte_at n a ≡ byte_at (with_parts empty ps) a
  data_same a inside =
      let z : p.data_base + (a - p.data_base) ≡ a = omega (arith, inside) in
      let below : a - p.data_base < p.data_size = omega (arith, inside) in
      ap (byte_at n) (sym z)
      ∙ added_inside m p.data_base p.data_size p.init (a - p.data_base) right.init_len fits below
      ∙ sym (has_data ps empty k p (lie_apart ps layout) at (a - p.data_base) below) ∙ ap (byte_at (with_parts empty ps)) z

  own_at : (a : ℕ) (t : Bool) → is_own (bounds_of p) a ≡ t → cond t (byte_at n a) None ≡ cond t (byte_at (with_parts empty ps) a) None
  own_at a true e = ⊎_elim
      (λ (c : is_in (bounds_of p).code a ≡ true). code_same a (is_in-true (bounds_of p).code a c))
      (λ (d : is_in (bounds_of p).data a ≡ true). data_same a (is_in-true (bounds_of p).data a d))
      (or_cases (is_in (bounds_of p).code a) (is_in (bounds_of p).data a) e)
  own_at a false e = refl

  pub own_same : own (bounds_of p) n ≡ own (bounds_of p) (with_parts empty ps)
  own_same = same_bytes _ _ (λ a. get_kept n (is_own (bounds_of p)) a ∙ own_at a (is_own (bounds_of p) a) refl ∙ sym (get_kept (with_parts empty ps) (is_own (bounds_of p)) a))

-- the seat alone, by where the sandbox lies
abbrev first_by : Bounds → Bytes → Slot
first_by b m = record { bounds = b; hart = (reset_seat (record { bounds = b; hart = record { pc = 0; registers = [] }; status = Ready; steps = 0 })).hart; status = Ready; steps = 0; bytes = own b m }

pub reset_is_first : ResetIsFirst
reset_is_first w i k s ps p safe there layout at is code =
    let n = with_first_bytes s.bounds w.bytes in
    let seat = safe.each i s there in
    let apart : (a : ℕ) → InCode p a → InData p a → ⊥ = λ a c d. keep.code_not_data w.bytes s seat p is a c (subst (λ (b : Bounds). Holds b.data a) (sym is) d) in
    let right = (lie_apart ps layout).each k p at in
    let fits : p.data_base + p.data_size ≤ 2 ^ 32 = (let above : p.data_base + p.data_size + 4096 ≤ 2 ^ 32 = right.guard_room.above in omega arith) in
    ap (λ (o : Sandboxes). slice_get (slots_of o) i) (ap (with_reset_of w i) there)
    ∙ get_map (slot_of n) (set w.seats i (reset_seat s)) i (reset_seat s) (get_set_same w.seats i s (reset_seat s) there)
    ∙ ap (λ (b : Bounds). Some (first_by b (with_first_bytes b w.bytes))) is
    ∙ ap (λ (x : Bytes). Some (first_by (bounds_of p) x)) (as_added (bounds_of p) w.bytes fits)
    ∙ ap (λ (x : Bytes). Some (record (first_by (bounds_of p) empty) { bytes = x })) (own_same w.bytes ps k p layout at code apart)
    ∙ sym (get_map (slot_of (with_parts empty ps)) (map first_seat ps) k (first_seat p) (get_map first_seat ps k p at))

-- ==== A sandbox that is taken back to its first state.

-- ---- it is an entry

module _ (m : Bytes) (s : Seat) (seat : IsSafeSeat m s) where
  -- a unit of its code begins at its start
  start_of : (p : Part) → s.bounds ≡ bounds_of p → IsUnitStart p s.bounds.start
  start_of p is =
      let mine : IsUnitStart seat.part seat.part.start = start_unit seat.part seat.part.start seat.right.start in
      let same : bounds_of seat.part ≡ bounds_of p = sym seat.bounds ∙ is in
      subst (IsUnitStart p) (ap (λ (b : Bounds). b.start) (sym is))
      (subst (IsUnitStart p) (ap (λ (b : Bounds). b.start) same) (by_bounds seat.part p same seat.part.start mine))
    where
      by_bounds : (p q : Part) → bounds_of p ≡ bounds_of q → (a : ℕ) → IsUnitStart p a → IsUnitStart q a
      by_bounds p q same a start = record {
        held = subst (λ (b : Bounds). Holds b.code a) same start.held;
        aligned = subst (λ (b : Bounds). a % unit b.format ≡ 0) same start.aligned;
      }

  pub start_even : s.bounds.start % 2 ≡ 0
  start_even = even_unit seat.part.format s.bounds.start (start_of seat.part seat.bounds).aligned

  pub init_fits : length s.bounds.init ≤ s.bounds.data.size
  init_fits = subst (λ (b : Bounds). length b.init ≤ b.data.size) (sym seat.bounds) seat.right.init_len

  module _ (hart : IsHart (reset_seat s).hart) (p : Part) (is : s.bounds ≡ bounds_of p) where
    abbrev now : List ℕ
    now = (reset_seat s).hart.registers

    of_part : AreFreshOf (bounds_of p) s.bounds.start now
    of_part = subst (λ (b : Bounds). AreFreshOf b s.bounds.start now) is (fresh_are s.bounds s.bounds.start (sizes m s seat).1)

    pub at_entry : HasCode p m → IsEntry p (state_in m (reset_seat s))
    at_entry code = record {
      state = record { hart = hart; memory = seat.state.memory };
      start = subst (IsUnitStart p) (sym (fresh_pc s.bounds s.bounds.start)) (start_of p is);
      reserved = reserved_at p s.bounds.start now of_part;
      typed = typed_at p s.bounds.start now (subst (λ (b : Bounds). 16 ≤ b.data.size) is (sizes m s seat).1) (start_of p is) of_part;
      code = code;
      guards = λ a guard. seat.guards a (keep.guard_mine m s seat p is a guard);
    }

  pub reset_safe : IsHart (reset_seat s).hart → IsEnterable m s.bounds → IsSafeSeat m (reset_seat s)
  reset_safe hart enterable =
      keep.ready_safe m s.bounds (reset_seat s).hart 0 enterable (at_entry hart enterable.part enterable.bounds enterable.code)
      (subst (λ (b : Bounds). AreApart b.code (with_guards b.data)) (sym seat.bounds ∙ enterable.bounds) seat.apart) seat.has_data

-- ---- a world in which it is so

pub record HasReset (w : Sandboxes) (programs : List Program) (i : ℕ) (old new : Slot) (o : Sandboxes) : Type 0 where
  pub after : AfterTurn w programs i old new o
  pub world : o ≡ with_reset w i
  pub entry : IsAtEntry o i

module _ (m n : Bytes) (items : List Sandbox) (programs : List Program) (i : ℕ) (x new : Sandbox) (inside : IsKept (world_of m items) programs) (at : slice_get items i ≡ Some x)
    (memory : IsMemory n) (filled : n ≡ with_first_bytes (seat_of x).bounds m)
    (out : bytes_outside (seat_of x).bounds.data n ≡ bytes_outside (seat_of x).bounds.data m)
    (whole : IsWhole (seat_of x).bounds.data (bytes_in (seat_of x).bounds.data n))
    (is : seat_of new ≡ reset_seat (seat_of x)) (hart : IsHart new.cpu) where
  there : slice_get (seats_of items) i ≡ Some (seat_of x)
  there = seat_at items i x at

  others : StaysOutside (seat_of x).bounds.data m n
  others = stays_outside (seat_of x).bounds.data m n out

  -- with its first data, and the registers that it had
  seat : IsSafeSeat n (seat_of x)
  seat = keep.own_changed m (seat_of x) (inside.0.each i (seat_of x) there) n memory others (whole_of (seat_of x).bounds.data n whole)

  enterable : IsEnterable n (seat_of x).bounds
  enterable =
      let e = inside.2 i (seat_of x) there in
      record {
        part = e.part;
        bounds = e.bounds;
        right = e.right;
        code = λ k below. keep.code_same m (seat_of x) (inside.0.each i (seat_of x) there) n others (e.part.code_base + k) (subst (λ (b : Bounds). Holds b.code (e.part.code_base + k)) (sym e.bounds) (keep.code_at e.part k below)) ∙ e.code k below;
        runs = e.runs;
        calls = e.calls;
      }

  hart_is : IsHart (reset_seat (seat_of x)).hart
  hart_is = subst IsHart (ap (λ (s : Seat). s.hart) is) hart

  safe : IsSafeSeat n (seat_of new)
  safe = subst (IsSafeSeat n) (sym is) (reset_safe n (seat_of x) seat hart_is enterable)

  seats_are : seats_of (set items i new) ≡ set (seats_of items) i (reset_seat (seat_of x))
  seats_are = map-set seat_of items i new ∙ ap (λ (s : Seat). set (seats_of items) i s) is

  is_at_entry : IsAtEntry (world_of n (set items i new)) i
  is_at_entry s p e bounds code =
      let here : slice_get (seats_of (set items i new)) i ≡ Some (reset_seat (seat_of x)) =
      ap (λ (l : List Seat). slice_get l i) seats_are ∙ get_set_same (seats_of items) i (seat_of x) _ there in
      let same : s ≡ reset_seat (seat_of x) = same_Some _ _ (sym e ∙ here) in
      subst (λ (y : Seat). IsEntry p (state_in n y)) (sym same)
      (at_entry n (seat_of x) seat hart_is p (sym (ap (λ (y : Seat). y.bounds) same) ∙ bounds) code)

  pub has_reset : (w : Sandboxes) → world_of m items ≡ w → HasReset w programs i (slot_of m (seat_of x)) (slot_of n (seat_of new)) (world_of n (set items i new))
  has_reset w view = record {
    after = turn_taken m n items programs i x new inside at (record { bounds = ap (λ (s : Seat). s.bounds) is; safe = safe; others = others }) w view;
    world = (λ k. let y : Sandboxes = record { bytes = filled k; seats = seats_are k } in y)
        ∙ ap (with_reset_of (world_of m items) i) (sym there)
        ∙ ap (λ (y : Sandboxes). with_reset y i) view;
    entry = is_at_entry;
  }

-- ---- where the program says so

module _ (w : Sandboxes) (m : Bytes) (items : List Sandbox) (view : world_of m items ≡ w) (i : ℕ) where
  pub none_reset : slice_get items i ≡ None → (IsTrue false ↔ IsSome (slice_get (slots_of w) i))
  none_reset none =
      let no : slice_get (slots_of w) i ≡ None = ap (λ (y : Sandboxes). slice_get (slots_of y) i) (sym view) ∙ no_slot m items i none in
      (λ t. absurd (cc), λ h. let wrong : false ≡ true = ap is_some (sym no) ∙ h in absurd (cc))

  pub some_reset : (x : Sandbox) → slice_get items i ≡ Some x → (IsTrue true ↔ IsSome (slice_get (slots_of w) i))
  some_reset x at = (λ t. ap is_some (slot_is w m items view i x at), λ h. refl)
