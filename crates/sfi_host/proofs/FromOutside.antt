-- What a host does to a sandbox: calls it back, stops it, sets its registers.
use Rattle.sfi_host.proofs.Prelude.{◌≡◌, ◌≢◌, ◌↔◌, ◌%◌, ℕ, Bool, true, false, is_some, List, Option, None, Some, IsSome, IsTrue, OnTrue, slice_get, refl, sym, ap, ◌∙◌, subst, ⊎_elim, cases_eq, same_Some, Bytes, Hart, Holds, KeepsBytes, Part, Bounds, bounds_of, Slot, Seat, Sandboxes, slot_of, slots_of, state_in, IsSafeSeat, IsSafeWorld, LiesOutside, StaysOutsideData, Sandbox, seat_of, world_of, set, map-set, option_map, Program, seats_of, status_at, Ready, IsHart, AreApart, with_guards, HasCode, IsEntry, IsAtEntry, IsEnterable}
use Rattle.sfi_host.specs.Changing.{called_back_hart, MayCallBackAt, PutBackIsChange, with_callback, with_callback_of, IsEntryHart, MaySetAt, with_hart, stopped_seat, with_stop_of, with_stop, hart_of, set_seat, with_hart_of}
use Rattle.sfi_host.specs.Waiting.{IsAtCall}
use Rattle.sfi_formats.specs.declared.format.Format.{Format}
use Rattle.sfi_formats.specs.Formats.{unit, is_data_register_in}
use Rattle.sfi_safe_runs.proofs.Entries.{even_unit, each_beside}
use Rattle.sfi_host.proofs.Entries.{pc_kept}
use Rattle.sfi_host.proofs.Worlds.{map_get}
use Rattle.sfi_host.proofs.SafeSeats as keep
use Rattle.sfi_host.proofs.WorldBytes.{no_slot, seat_at, slot_is}
use Rattle.sfi_host.proofs.Changing.{AfterTurn, IsKept, turn_taken}
use Rattle.sfi_host.proofs.SafeSeats.{halted}
use Rattle.sfi_safe_runs.specs.Runs.{AreWordsTyped}
use Rattle.sfi_image.specs.Spelling.{IsNearIn}
use Rattle.sfi_image.specs.declared.span.Span.{Span}
use Rattle.sfi_host.specs.private.Setting.{LieNear}
use Rattle.std.specs.Prelude.{slice_index}
use Rattle.sfi_formats.specs.Limits.{slack}
use Rattle.sfi_decoded.proofs.Lists.{get_set_same}

-- ==== A sandbox that is called back by its host.

-- ---- to the caller it is a change by others

module _ (w : Sandboxes) (n : Bytes) (i : ℕ) (s : Seat) (p : Part) (safe : IsSafeWorld w) (at : slice_get w.seats i ≡ Some s) (is : s.bounds ≡ bounds_of p) (outside : StaysOutsideData w n) where
  callback_seat : IsSafeSeat w.bytes s
  callback_seat = safe.each i s at

  -- an address that neither its own data hold nor those of others
  in_no_data : (a : ℕ) → (Holds s.bounds.data a → ⊥) → ((b : Bounds) → LiesOutside b s.bounds → Holds b.data a → ⊥) → (j : ℕ) (t : Seat) → slice_get w.seats j ≡ Some t → Holds t.bounds.data a → ⊥
  in_no_data a own others j t e h =
      ⊎_elim
      (λ (same : j ≡ i). own (subst (λ (x : Seat). Holds x.bounds.data a) (same_Some t s (sym e ∙ ap (slice_get w.seats) same ∙ at)) h))
      (λ (other : j ≢ i). others t.bounds (safe.others j i t s other e at) h)
      (cases_eq j i)

  kept : KeepsBytes p w.bytes n
  kept = record {
    code = λ a inside. outside a (in_no_data a (keep.code_not_data w.bytes s callback_seat p is a inside) (λ b apart h. apart.code a h (keep.code_in w.bytes s callback_seat p is a inside)));
    guards = λ a guard empty. outside a (in_no_data a (keep.guard_not_data w.bytes s callback_seat p is a guard) (λ b apart h. apart.zones a h (keep.guard_zones w.bytes s callback_seat p is a guard))) ∙ empty;
  }

pub put_back_is : PutBackIsChange
put_back_is w n i s p safe at is outside = record { pc = refl; registers = refl; bytes = kept w n i s p safe at is outside }

-- ---- who may be called back

none_may : (slots : List Slot) (i pc : ℕ) (arguments : List ℕ) → (MayCallBackAt slots i pc arguments → ⊥) → (IsTrue false ↔ MayCallBackAt slots i pc arguments)
none_may slots i pc arguments never = (λ t. absurd (cc), λ a. absurd (never a))

-- none that waits at no call
not_at_call : (slots : List Slot) (i pc : ℕ) (arguments : List ℕ) → (IsAtCall slots i → ⊥) → (IsTrue false ↔ MayCallBackAt slots i pc arguments)
not_at_call slots i pc arguments never = none_may slots i pc arguments (λ a. never a.at)

pub not_waiting : {A : Type 0} (slots : List Slot) (i pc : ℕ) (arguments : List ℕ) (o : Option A) → o ≡ None → (IsSome o ↔ IsAtCall slots i) → (IsTrue false ↔ MayCallBackAt slots i pc arguments)
not_waiting slots i pc arguments o none there = not_at_call slots i pc arguments (λ at. let wrong : false ≡ true = ap is_some (sym none) ∙ there.1 at in absurd (cc))

-- none that isn't there
pub not_there : (slots : List Slot) (i pc : ℕ) (arguments : List ℕ) → slice_get slots i ≡ None → (IsTrue false ↔ MayCallBackAt slots i pc arguments)
not_there slots i pc arguments none = none_may slots i pc arguments (λ a. let e : Some a.slot ≡ None = sym a.there ∙ none in absurd (cc))

-- none where pc is odd
pub odd_callback : (slots : List Slot) (i pc : ℕ) (arguments : List ℕ) → (pc % 2 ≡ 0 → ⊥) → (IsTrue false ↔ MayCallBackAt slots i pc arguments)
odd_callback slots i pc arguments odd = none_may slots i pc arguments (λ a.
    let kept : (called_back_hart a.slot.bounds a.slot.hart pc arguments).pc ≡ pc = pc_kept arguments _ 10 ∙ pc_kept a.slot.hart.registers _ 0 in
    odd (even_unit a.slot.bounds.format pc (subst (λ (x : ℕ). x % unit a.slot.bounds.format ≡ 0) kept a.may.start.aligned)))

pub callback_where : (slots : List Slot) (i pc : ℕ) (arguments : List ℕ) (slot : Slot) (t : Bool) → slice_get slots i ≡ Some slot → IsAtCall slots i
    → (IsTrue t ↔ MaySetAt slots i (called_back_hart slot.bounds slot.hart pc arguments)) → (IsTrue t ↔ MayCallBackAt slots i pc arguments)
callback_where slots i pc arguments slot t there at may = (
  λ on.
      let a = may.0 on in
      let same : a.slot ≡ slot = same_Some a.slot slot (sym a.there ∙ there) in
      record { slot = slot; there = there; at = at; may = subst (λ (x : Slot). IsEntryHart x.bounds (called_back_hart slot.bounds slot.hart pc arguments)) same a.may },
  λ a.
      let same : a.slot ≡ slot = same_Some a.slot slot (sym a.there ∙ there) in
      may.1 (record { slot = slot; there = there; may = subst (λ (x : Slot). IsEntryHart x.bounds (called_back_hart x.bounds x.hart pc arguments)) same a.may }),
)

-- ---- a world in which one is

callback_done : (w n : Sandboxes) (i pc : ℕ) (arguments : List ℕ) (slot : Slot) → slice_get (slots_of w) i ≡ Some slot → n ≡ with_hart w i (called_back_hart slot.bounds slot.hart pc arguments)
    → n ≡ with_callback w i pc arguments
callback_done w n i pc arguments slot there is =
    let found = map_get (slot_of w.bytes) w.seats i slot there in
    is ∙ ap (λ (x : Slot). with_hart w i (called_back_hart x.bounds x.hart pc arguments)) found.2 ∙ ap (with_callback_of w i pc arguments) (sym found.1)

pub callback_if_done : (t : Bool) (w n : Sandboxes) (i pc : ℕ) (arguments : List ℕ) (slot : Slot) → slice_get (slots_of w) i ≡ Some slot → OnTrue t (n ≡ with_hart w i (called_back_hart slot.bounds slot.hart pc arguments))
    → OnTrue t (n ≡ with_callback w i pc arguments)
callback_if_done true w n i pc arguments slot there is = callback_done w n i pc arguments slot there is
callback_if_done false w n i pc arguments slot there is = tt

-- ==== A sandbox that is stopped from outside.

-- beside what comes of a turn, the world is the one with the stop
pub record HasStopped (w : Sandboxes) (programs : List Program) (i : ℕ) (old new : Slot) (o : Sandboxes) : Type 0 where
  pub after : AfterTurn w programs i old new o
  pub world : o ≡ with_stop w i

module _ (m : Bytes) (items : List Sandbox) (programs : List Program) (i : ℕ) (x new : Sandbox) (inside : IsKept (world_of m items) programs) (at : slice_get items i ≡ Some x) (is : seat_of new ≡ stopped_seat (seat_of x)) where
  stopped_there : slice_get (seats_of items) i ≡ Some (seat_of x)
  stopped_there = seat_at items i x at

  safe_before_stop : IsSafeSeat m (seat_of x)
  safe_before_stop = inside.0.each i (seat_of x) stopped_there

  safe_after_stop : IsSafeSeat m (seat_of new)
  safe_after_stop = subst (IsSafeSeat m) (sym is) (halted m (seat_of x) safe_before_stop m (stopped_seat (seat_of x)) safe_before_stop.state refl (λ e. cc) tt (λ a out. refl) safe_before_stop.has_data)

  stopped_seats : seats_of (set items i new) ≡ set (seats_of items) i (stopped_seat (seat_of x))
  stopped_seats = map-set seat_of items i new ∙ ap (λ (s : Seat). set (seats_of items) i s) is

  pub has_stopped : (w : Sandboxes) → world_of m items ≡ w → HasStopped w programs i (slot_of m (seat_of x)) (slot_of m (seat_of new)) (world_of m (set items i new))
  has_stopped w view = record {
    after = turn_taken m m items programs i x new inside at (record { bounds = ap (λ (s : Seat). s.bounds) is; safe = safe_after_stop; others = λ a out. refl }) w view;
    world = ap (λ (l : List Seat). let y : Sandboxes = record { bytes = m; seats = l } in y) stopped_seats
        ∙ ap (with_stop_of (world_of m items) i) (sym stopped_there)
        ∙ ap (λ (y : Sandboxes). with_stop y i) view;
  }

-- ---- where the program says so

module _ (w : Sandboxes) (m : Bytes) (items : List Sandbox) (view : world_of m items ≡ w) (i : ℕ) where
  abbrev IsReady : Type 0
  IsReady = status_at (slots_of w) i ≡ Some Ready

  pub none_ready : slice_get items i ≡ None → (IsTrue false ↔ IsReady)
  none_ready none = (
    λ t. absurd (cc),
    λ e.
        let no : slice_get (slots_of w) i ≡ None = ap (λ (y : Sandboxes). slice_get (slots_of y) i) (sym view) ∙ no_slot m items i none in
        let z : None ≡ Some Ready = sym (ap (option_map (λ (s : Slot). s.status)) no) ∙ e in absurd (cc),
  )

  pub ready_where : (x : Sandbox) (t : Bool) → slice_get items i ≡ Some x → (IsTrue t ↔ (x.status ≡ Ready)) → (IsTrue t ↔ IsReady)
  ready_where x t at is =
      let here : status_at (slots_of w) i ≡ Some x.status = ap (option_map (λ (s : Slot). s.status)) (slot_is w m items view i x at) in (
        λ on. here ∙ ap Some (is.0 on),
        λ e. is.1 (same_Some x.status Ready (sym here ∙ e)),
      )

-- ==== Registers that are set from outside.

-- ---- it is an entry

-- these data registers are all
pub all_near : (f : Format) (at : Span) (registers : List ℕ) → LieNear f at registers → (d : ℕ) → is_data_register_in f d ≡ true → IsNearIn f at slack (slice_index registers d)
all_near f at registers near = each_beside f at registers near.x2 near.x3 near.x4 near.x29 near.x26 near.x31

pub typed_near : (f : Format) (code_at data_at : Span) (registers : List ℕ) → AreWordsTyped f code_at data_at registers → LieNear f data_at registers
typed_near f code_at data_at registers typed = record { x2 = typed.each_data 2 refl; x3 = typed.each_data 3 refl; x4 = typed.each_data 4 refl; x29 = typed.each_data 29 refl; x26 = λ one. typed.each_data 26 (rw one refl); x31 = λ one. typed.each_data 31 (rw one refl) }

module _ (m : Bytes) (s : Seat) (safe_before_set : IsSafeSeat m s) (h : Hart) (hart : IsHart h) where
  of_part : (p : Part) → IsEntryHart (bounds_of p) h → (b : Bounds) → b ≡ bounds_of p → s.bounds ≡ b → HasCode p m → IsEntry p (record { hart = h; memory = m })
  of_part p may b e is code = record {
    state = record { hart = hart; memory = safe_before_set.state.memory };
    start = may.start;
    reserved = may.reserved;
    typed = record { stack = may.stack; words = may.words };
    code = code;
    guards = λ a guard. safe_before_set.guards a (keep.guard_mine m s safe_before_set p (is ∙ e) a guard);
  }

  pub at_entry : IsEntryHart s.bounds h → (p : Part) → s.bounds ≡ bounds_of p → HasCode p m → IsEntry p (state_in m (set_seat s h))
  at_entry may p is code = of_part p (subst (λ (b : Bounds). IsEntryHart b h) is may) s.bounds is refl code

  pub set_safe : IsEnterable m s.bounds → IsEntryHart s.bounds h → IsSafeSeat m (set_seat s h)
  set_safe enterable may =
      keep.ready_safe m s.bounds h s.steps enterable (at_entry may enterable.part enterable.bounds enterable.code)
      (subst (λ (b : Bounds). AreApart b.code (with_guards b.data)) (sym safe_before_set.bounds ∙ enterable.bounds) safe_before_set.apart) safe_before_set.has_data

-- ---- a world in which it has them

pub record HasSet (w : Sandboxes) (programs : List Program) (i : ℕ) (h : Hart) (old new : Slot) (o : Sandboxes) : Type 0 where
  pub after : AfterTurn w programs i old new o
  pub world : o ≡ with_hart w i h
  pub entry : IsAtEntry o i

module _ (m : Bytes) (items : List Sandbox) (programs : List Program) (i : ℕ) (x new : Sandbox) (inside : IsKept (world_of m items) programs) (at : slice_get items i ≡ Some x)
    (h : Hart) (hart : IsHart h) (may : IsEntryHart (seat_of x).bounds h) (is : seat_of new ≡ set_seat (seat_of x) h) where
  set_there : slice_get (seats_of items) i ≡ Some (seat_of x)
  set_there = seat_at items i x at

  safe_before_set : IsSafeSeat m (seat_of x)
  safe_before_set = inside.0.each i (seat_of x) set_there

  safe_after_set : IsSafeSeat m (seat_of new)
  safe_after_set = subst (IsSafeSeat m) (sym is) (set_safe m (seat_of x) safe_before_set h hart (inside.2 i (seat_of x) set_there) may)

  set_seats : seats_of (set items i new) ≡ set (seats_of items) i (set_seat (seat_of x) h)
  set_seats = map-set seat_of items i new ∙ ap (λ (s : Seat). set (seats_of items) i s) is

  is_at_entry : IsAtEntry (world_of m (set items i new)) i
  is_at_entry s p e bounds code =
      let here : slice_get (seats_of (set items i new)) i ≡ Some (set_seat (seat_of x) h) =
      ap (λ (l : List Seat). slice_get l i) set_seats ∙ get_set_same (seats_of items) i (seat_of x) _ set_there in
      let same : s ≡ set_seat (seat_of x) h = same_Some _ _ (sym e ∙ here) in
      subst (λ (y : Seat). IsEntry p (state_in m y)) (sym same)
      (at_entry m (seat_of x) safe_before_set h hart may p (sym (ap (λ (y : Seat). y.bounds) same) ∙ bounds) code)

  pub has_set : (w : Sandboxes) → world_of m items ≡ w → HasSet w programs i h (slot_of m (seat_of x)) (slot_of m (seat_of new)) (world_of m (set items i new))
  has_set w view = record {
    after = turn_taken m m items programs i x new inside at (record { bounds = ap (λ (s : Seat). s.bounds) is; safe = safe_after_set; others = λ a out. refl }) w view;
    world = ap (λ (l : List Seat). let y : Sandboxes = record { bytes = m; seats = l } in y) set_seats
        ∙ ap (with_hart_of (world_of m items) i h) (sym set_there)
        ∙ ap (λ (y : Sandboxes). with_hart y i h) view;
    entry = is_at_entry;
  }

-- ---- where the program says so

module _ (w : Sandboxes) (m : Bytes) (items : List Sandbox) (view : world_of m items ≡ w) (i : ℕ) (h : Hart) where
  pub none_set : slice_get items i ≡ None → (IsTrue false ↔ MaySetAt (slots_of w) i h)
  none_set none = (
    λ t. absurd (cc),
    λ a. absurd (let e : Some a.slot ≡ None = sym a.there ∙ ap (λ (y : Sandboxes). slice_get (slots_of y) i) (sym view) ∙ no_slot m items i none in cc),
  )

  pub set_where : (x : Sandbox) (t : Bool) → slice_get items i ≡ Some x → (IsTrue t ↔ IsEntryHart (seat_of x).bounds h) → (IsTrue t ↔ MaySetAt (slots_of w) i h)
  set_where x t at may = (
    λ on. record { slot = slot_of m (seat_of x); there = slot_is w m items view i x at; may = may.0 on },
    λ a. may.1 (subst (λ (y : Slot). IsEntryHart y.bounds h) (same_Some a.slot (slot_of m (seat_of x)) (sym a.there ∙ slot_is w m items view i x at)) a.may),
  )

-- where pc is odd nothing begins
pub odd_set : (slots : List Slot) (i pc : ℕ) (registers : List ℕ) → (pc % 2 ≡ 0 → ⊥) → (IsTrue false ↔ MaySetAt slots i (hart_of pc registers))
odd_set slots i pc registers odd = (
  λ t. absurd (cc),
  λ a. absurd (odd (even_unit a.slot.bounds.format pc (subst (λ (x : ℕ). x % unit a.slot.bounds.format ≡ 0) (pc_kept registers _ 0) a.may.start.aligned))),
)
