-- A sandbox that is entered again.
use Rattle.sfi_host.proofs.Prelude.{◌≡◌, ◌≢◌, ◌⊎◌, inl, inr, ⊎_elim, ◌↔◌, IsTrue, ℕ, suc, ◌+◌, ◌%◌, ◌^◌, ◌<◌, ◌≤◌, ◌==◌, Bool, true, false, List, [], ◌∷◌, ◌++◌, map, length, take, get_or, Some, None, set, slice_get, refl, sym, ap, ◌∙◌, subst, arith, get_or-set_other, same_Some, slice_index, slice_set, cond, empty, get-empty, map-set, take_more, length-take-le, Bytes, IsMemory, Hart, IsHart, with_register, IsRightLayout, Holds, AreApart, with_guards, Part, HasCode, IsEntry, AllRunSafely, AllCallTyped, Program, Sandbox, MayEnter, MayEnterAt, fresh_hart, with_registers, exit_gate, entered_hart, entry_stack, entered_seat, with_entry_of, with_entry, IsAtEntry, IsEnterable, first_seat, with_parts, AreEntered, HaveFirstData, seat_of, seats_of, world_of, Bounds, Slot, bounds_of, Seat, Sandboxes, slot_of, slots_of, state_in, IsSafeSeat, AreProgramsOf}
use Rattle.std.specs.Ordering.{nat_cmp}
use Rattle.sfi_formats.specs.Formats.{unit}
use Rattle.sfi_safe_runs.specs.Runs.{IsUnitStart}
use Rattle.sfi_host.proofs.WorldBytes.{seat_at, slot_is, no_slot, first_owned}
use Rattle.sfi_host.proofs.Decoded.{first_decoded}
use Rattle.sfi_host.proofs.Entered.{lie_apart}
use Rattle.sfi_decoded.proofs.Lists.{get_set_same}
use Rattle.sfi_host.proofs.SafeSeats as keep
use Rattle.sfi_host.proofs.Changing.{IsKept, AfterTurn, turn_taken}
use Rattle.sfi_host.proofs.Worlds.{AreFreshOf, fresh_are, stack_set, fresh_pc, reserved_at, typed_at, AreFree, entered, first_data_there, world_safe, all_enterable}

-- ---- each sandbox of a world may be entered

-- the world of an image at first, with the programs of its parts
pub record IsFirst (ps : List Part) (m : Bytes) (seats : List Seat) (programs : List Program) : Type 0 where
  pub kept : IsKept (record { bytes = m; seats = seats }) programs
  pub entered : AreEntered ps m
  pub first_data : HaveFirstData ps m

pub is_first : (ps : List Part) → IsRightLayout ps → AllRunSafely ps → AllCallTyped ps
    → (m : Bytes) (seats : List Seat) (programs : List Program) → IsMemory m → m ≡ with_parts empty ps → seats ≡ map first_seat ps → AreProgramsOf ps programs → IsFirst ps m seats programs
is_first ps layout safe calls m seats programs is_memory bytes are made =
    let memory : IsMemory (with_parts empty ps) = subst IsMemory bytes is_memory in
    let free : AreFree empty ps = λ i p e a guard. get-empty nat_cmp a in
    let entries = entered ps layout empty free memory in
    subst (λ (x : Bytes × List Seat). IsFirst ps x.0 x.1 programs) (λ k. (sym bytes k, sym are k)) (record {
      kept = (world_safe ps layout empty free memory safe calls, first_decoded ps (with_parts empty ps) programs made entries, all_enterable ps layout empty free memory safe calls, first_owned ps (lie_apart ps layout).each);
      entered = entries;
      first_data = first_data_there ps empty layout;
    })

-- ---- with which registers

pub with_more : (h : Hart) (r : ℕ) (vs : List ℕ) (v : ℕ) → with_registers h r (vs ++ v ∷ []) ≡ with_register (with_registers h r vs) (r + length vs) v
with_more h r [] v = let z : r ≡ r + 0 = omega arith in ap (λ q. with_register h q v) z
with_more h r (x ∷ vs) v =
    let z : r + 1 + length vs ≡ r + suc (length vs) = omega arith in
    with_more (with_register h r x) (r + 1) vs v ∙ ap (λ q. with_register (with_registers (with_register h r x) (r + 1) vs) q v) z

one_kept : (h : Hart) (r v q : ℕ) (b : Bool) → q ≢ r → slice_index (cond b h.registers (slice_set h.registers r v)) q ≡ slice_index h.registers q
one_kept h r v q true other = refl
one_kept h r v q false other = get_or-set_other h.registers r q v 0 other

-- the registers outside those
pub others_kept : (vs : List ℕ) (h : Hart) (r q : ℕ) → (q < r) ⊎ (r + length vs ≤ q) → slice_index (with_registers h r vs).registers q ≡ slice_index h.registers q
others_kept [] h r q out = refl
others_kept (v ∷ vs) h r q out =
    others_kept vs (with_register h r v) (r + 1) q (⊎_elim (λ (l : q < r). inl (omega arith)) (λ (l : r + suc (length vs) ≤ q). inr (omega arith)) out)
    ∙ one_kept h r v q (r == 0) (λ e. ⊎_elim (λ (l : q < r). omega arith) (λ (l : r + suc (length vs) ≤ q). omega arith) out)

pub pc_kept : (vs : List ℕ) (h : Hart) (r : ℕ) → (with_registers h r vs).pc ≡ h.pc
pc_kept [] h r = refl
pc_kept (v ∷ vs) h r = pc_kept vs (with_register h r v) (r + 1)

-- one argument more
pub one_more_set : (from : ℕ) (h now new : Hart) (arguments : List ℕ) (k v r : ℕ) → now ≡ with_registers h from (take k arguments) → k < length arguments → v ≡ get_or arguments k 0 → r ≡ from + k → new ≡ with_register now r v
    → new ≡ with_registers h from (take (k + 1) arguments)
one_more_set from h now new arguments k v r is below value place set =
    let many : length (take k arguments) ≡ k = length-take-le k arguments (omega arith) in
    let at : r ≡ from + length (take k arguments) = omega (arith, many, place) in
    set
    ∙ (λ j. with_register (is j) (at j) (value j))
    ∙ sym (with_more h from (take k arguments) (get_or arguments k 0))
    ∙ ap (with_registers h from) (sym (take_more arguments k 0 below))

-- ---- a sandbox that enters

module _ (m : Bytes) (s : Seat) (seat : IsSafeSeat m s) where
  -- what a sandbox of the program has
  pub sizes : (16 ≤ s.bounds.code.size) × (16 ≤ s.bounds.data.size) × (s.bounds.data.base + s.bounds.data.size < 2 ^ 32)
  sizes =
      let code : 256 ≤ length seat.part.code = seat.right.code_placed.at_least in
      let data_size : 256 ≤ seat.part.data_size = seat.right.data_placed.at_least in
      let above : seat.part.data_base + seat.part.data_size + 4096 ≤ 2 ^ 32 = seat.right.guard_room.above in
      subst (λ (b : Bounds). (16 ≤ b.code.size) × (16 ≤ b.data.size) × (b.data.base + b.data.size < 2 ^ 32)) (sym seat.bounds) (omega arith, omega arith, omega arith)

  module _ (pc : ℕ) (arguments : List ℕ) (few : length arguments ≤ 8) (held : Holds s.bounds.code pc) (aligned : pc % unit s.bounds.format ≡ 0) (hart : IsHart (entered_hart s.bounds pc arguments)) (p : Part) (is : s.bounds ≡ bounds_of p) where
    abbrev now : List ℕ
    now = (entered_hart s.bounds pc arguments).registers

    abbrev fresh : Hart
    fresh = fresh_hart s.bounds.format s.bounds.code s.bounds.data pc

    abbrev on_stack : Hart
    on_stack = with_register fresh 2 (entry_stack s.bounds)

    abbrev returning : Hart
    returning = with_register on_stack 1 (exit_gate s.bounds.gates)

    -- the return address leaves the other registers
    not_first : (q : ℕ) → q ≢ 1 → slice_index returning.registers q ≡ slice_index on_stack.registers q
    not_first q other = get_or-set_other on_stack.registers 1 q (exit_gate s.bounds.gates) 0 other

    -- and so does the stack pointer
    neither : (q : ℕ) → 3 ≤ q → slice_index returning.registers q ≡ slice_index fresh.registers q
    neither q le = not_first q (λ e. omega arith) ∙ get_or-set_other fresh.registers 2 q (entry_stack s.bounds) 0 (λ e. omega arith)

    -- which lies in the data, whatever room the image asks for
    stack_held : Holds s.bounds.data (slice_index now 2)
    stack_held =
        let least = sizes.1 in
        let is : slice_index now 2 ≡ entry_stack s.bounds =
        others_kept arguments returning 10 2 (inl (omega arith)) ∙ not_first 2 (λ e. omega arith) ∙ stack_set s.bounds pc (entry_stack s.bounds) in
        subst (Holds s.bounds.data) (sym is) (omega arith, omega arith)

    -- the arguments and the return address leave all that an entry asks for
    kept : AreFreshOf s.bounds pc now
    kept =
        let high : (q : ℕ) → 18 ≤ q → slice_index now q ≡ slice_index fresh.registers q = λ q le. others_kept arguments returning 10 q (inr (omega arith)) ∙ neither q (omega arith) in
        let low : (q : ℕ) → 3 ≤ q → q < 10 → slice_index now q ≡ slice_index fresh.registers q =
        λ q le less. others_kept arguments returning 10 q (inl less) ∙ neither q le in
        let f = fresh_are s.bounds pc sizes.1 in
        record {
          code_base = high 24 (omega arith) ∙ f.code_base;
          code_mask = high 25 (omega arith) ∙ f.code_mask;
          data_base = high 26 (omega arith) ∙ f.data_base;
          data_mask = high 27 (omega arith) ∙ f.data_mask;
          stack = stack_held;
          third = λ has. low 3 (omega arith) (omega arith) ∙ f.third has;
          fourth = λ has. low 4 (omega arith) (omega arith) ∙ f.fourth has;
          last = λ has. high 29 (omega arith) ∙ f.last has;
          code = λ has. high 30 (omega arith) ∙ f.code has;
          offset = high 31 (omega arith) ∙ f.offset;
        }

    -- of the part
    of_part : AreFreshOf (bounds_of p) pc now
    of_part = subst (λ (b : Bounds). AreFreshOf b pc now) is kept

    starts : IsUnitStart p pc
    starts = record { held = subst (λ (b : Bounds). Holds b.code pc) is held; aligned = subst (λ (b : Bounds). pc % unit b.format ≡ 0) is aligned }

    pub at_entry : HasCode p m → IsEntry p (state_in m (entered_seat s pc arguments))
    at_entry code = record {
      state = record { hart = hart; memory = seat.state.memory };
      start = subst (IsUnitStart p) (sym (pc_kept arguments returning 10 ∙ fresh_pc s.bounds pc)) starts;
      reserved = reserved_at p pc now of_part;
      typed = typed_at p pc now (subst (λ (b : Bounds). 16 ≤ b.data.size) is sizes.1) starts of_part;
      code = code;
      guards = λ a guard. seat.guards a (keep.guard_mine m s seat p is a guard);
    }

  module _ (enterable : IsEnterable m s.bounds) (pc : ℕ) (arguments : List ℕ) (few : length arguments ≤ 8) (held : Holds s.bounds.code pc) (aligned : pc % unit s.bounds.format ≡ 0) (hart : IsHart (entered_hart s.bounds pc arguments)) where
    pub entered_safe : IsSafeSeat m (entered_seat s pc arguments)
    entered_safe =
        keep.ready_safe m s.bounds (entered_hart s.bounds pc arguments) s.steps enterable (at_entry pc arguments few held aligned hart enterable.part enterable.bounds enterable.code)
        (subst (λ (b : Bounds). AreApart b.code (with_guards b.data)) (sym seat.bounds ∙ enterable.bounds) seat.apart) seat.has_data

-- ---- a world in which it did

-- beside what comes of a turn, the world is the one with the entry, and it is an entry
pub record HasEntered (w : Sandboxes) (programs : List Program) (i pc : ℕ) (arguments : List ℕ) (old new : Slot) (o : Sandboxes) : Type 0 where
  pub after : AfterTurn w programs i old new o
  pub world : o ≡ with_entry w i pc arguments
  pub entry : IsAtEntry o i

module _ (m : Bytes) (items : List Sandbox) (programs : List Program) (i : ℕ) (x new : Sandbox) (inside : IsKept (world_of m items) programs) (at : slice_get items i ≡ Some x)
    (pc : ℕ) (arguments : List ℕ) (few : length arguments ≤ 8) (held : Holds (seat_of x).bounds.code pc) (aligned : pc % unit (seat_of x).bounds.format ≡ 0)
    (is : seat_of new ≡ entered_seat (seat_of x) pc arguments) (hart : IsHart new.cpu) where
  there : slice_get (seats_of items) i ≡ Some (seat_of x)
  there = seat_at items i x at

  seat : IsSafeSeat m (seat_of x)
  seat = inside.0.each i (seat_of x) there

  hart_is : IsHart (entered_hart (seat_of x).bounds pc arguments)
  hart_is = subst IsHart (ap (λ (s : Seat). s.hart) is) hart

  safe : IsSafeSeat m (seat_of new)
  safe = subst (IsSafeSeat m) (sym is) (entered_safe m (seat_of x) seat (inside.2 i (seat_of x) there) pc arguments few held aligned hart_is)

  seats_are : seats_of (set items i new) ≡ set (seats_of items) i (entered_seat (seat_of x) pc arguments)
  seats_are = map-set seat_of items i new ∙ ap (λ (s : Seat). set (seats_of items) i s) is

  is_at_entry : IsAtEntry (world_of m (set items i new)) i
  is_at_entry s p e bounds code =
      let here : slice_get (seats_of (set items i new)) i ≡ Some (entered_seat (seat_of x) pc arguments) =
      ap (λ (l : List Seat). slice_get l i) seats_are ∙ get_set_same (seats_of items) i (seat_of x) _ there in
      let same : s ≡ entered_seat (seat_of x) pc arguments = same_Some _ _ (sym e ∙ here) in
      subst (λ (y : Seat). IsEntry p (state_in m y)) (sym same)
      (at_entry m (seat_of x) seat pc arguments few held aligned hart_is p (sym (ap (λ (y : Seat). y.bounds) same) ∙ bounds) code)

  pub has_entered : (w : Sandboxes) → world_of m items ≡ w → HasEntered w programs i pc arguments (slot_of m (seat_of x)) (slot_of m (seat_of new)) (world_of m (set items i new))
  has_entered w view = record {
    after = turn_taken m m items programs i x new inside at (record { bounds = ap (λ (s : Seat). s.bounds) is; safe = safe; others = λ a out. refl }) w view;
    world = ap (λ (l : List Seat). let y : Sandboxes = record { bytes = m; seats = l } in y) seats_are
        ∙ ap (with_entry_of (world_of m items) i pc arguments) (sym there)
        ∙ ap (λ (y : Sandboxes). with_entry y i pc arguments) view;
    entry = is_at_entry;
  }

-- ---- where the program says so

module _ (w : Sandboxes) (m : Bytes) (items : List Sandbox) (view : world_of m items ≡ w) (i pc : ℕ) where
  pub no_entry : slice_get items i ≡ None → (IsTrue false ↔ MayEnterAt (slots_of w) i pc)
  no_entry none = (
    λ t. absurd (cc),
    λ h. absurd (let e : Some h.slot ≡ None = sym h.there ∙ ap (λ (y : Sandboxes). slice_get (slots_of y) i) (sym view) ∙ no_slot m items i none in cc),
  )

  pub entry_where : (x : Sandbox) (t : Bool) → slice_get items i ≡ Some x → (IsTrue t ↔ MayEnter (seat_of x).bounds x.status pc) → (IsTrue t ↔ MayEnterAt (slots_of w) i pc)
  entry_where x t at may = (
    λ on. record { slot = slot_of m (seat_of x); there = slot_is w m items view i x at; may = may.0 on },
    λ h.
        may.1 (subst (λ (y : Slot). MayEnter y.bounds y.status pc) (same_Some h.slot (slot_of m (seat_of x)) (sym h.there ∙ slot_is w m items view i x at)) h.may),
  )
