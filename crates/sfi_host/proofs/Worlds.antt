-- A world at its start is safe.
use Rattle.sfi_host.proofs.Prelude.{◌≡◌, ◌≢◌, Bool, true, false, cond, ℕ, zero, suc, ◌+◌, ◌-◌, ◌%◌, ◌^◌, ◌<◌, ◌≤◌, List, [], ◌∷◌, length, Some, is_some, slice_get, refl, sym, ap, ◌∙◌, subst, arith, get_or_from_slice_get, slice_get_within, slice_index, replicate, map, None, Bytes, IsMemory, byte_at, Hart, IsHart, with_register, Part, Span, code_region, Holds, IsRightPart, IsRightLayout, InGuard, RunsSafely, AllRunSafely, CallsTyped, AllCallTyped, IsEnterable, AreEnterable, Bounds, bounds_of, fresh_hart, first_hart, first_seat, with_parts, AreEntered, HaveFirstData, Seat, IsSafeSeat, LiesOutside, IsSafeWorld}
use Rattle.rv_step.proofs.States.{register_is}
use Rattle.sfi_formats.specs.Formats.{unit, has_words}
use Rattle.sfi_image.specs.Parts.{IsBundleStart, HasReserved, data_mask_of, reserved_of}
use Rattle.sfi_image.specs.Spelling.{data_region}
use Rattle.sfi_safe_runs.specs.Runs.{IsUnitStart, IsTyped}
use Rattle.sfi_safe_runs.proofs.Entries.{zero_words, some_unit, mask_fits, typed_when, words, of_bundle}
use Rattle.sfi_host.specs.Loading.{with_typed}
use Rattle.sfi_image.proofs.Facts.{code_ends}
use Rattle.sfi_host.proofs.SafeSeats.{ready_safe}
use Rattle.sfi_host.proofs.Entered.{Apart, lie_apart, has_code, has_data, guards_stay, data_guarded, guard_not_other}

-- ---- the first hart

-- what fresh registers are made of has room in 32 bits
typed_is : (w : Bool) (data_at : Span) (h : Hart) → IsHart h → data_at.base < 2 ^ 32 → IsHart (cond w (with_typed data_at h) h)
typed_is true data_at h is base = register_is _ 30 h.pc (register_is _ 29 data_at.base (register_is _ 4 data_at.base (register_is h 3 data_at.base is base) base) base) is.address
typed_is false data_at h is base = is

pub first_is : (p : Part) → p.code_base + length p.code ≤ 2 ^ 32 → IsRightPart p → IsHart (first_hart p)
first_is p end right =
    let above : p.data_base + p.data_size + 4096 ≤ 2 ^ 32 = right.guard_room.above in
    let aligned : p.start % 16 ≡ 0 = right.start.aligned in
    let start : p.start < 2 ^ 32 = (let held = right.start.held.1 in omega arith) in
    let bare : IsHart (record { pc = p.start; registers = replicate 32 0 }) = record { even = omega arith; address = start; count = refl; words = zero_words 32; zero = refl } in
    let stack : p.data_base + p.data_size - 16 < 2 ^ 32 = omega arith in
    let mask : length p.code - unit p.format < 2 ^ 32 = (let some = some_unit p.format in omega arith) in
    let base : p.data_base < 2 ^ 32 = omega arith in
    let data_mask : data_mask_of p.format (data_region p) < 2 ^ 32 = mask_fits p above in
    register_is _ 27 (data_mask_of p.format (data_region p)) (register_is _ 26 p.data_base (register_is _ 25 (length p.code - unit p.format) (register_is _ 24 p.code_base
    (register_is _ 2 (p.data_base + p.data_size - 16) (typed_is (has_words p.format) (data_region p) _ bare base) stack) right.code_base) mask) base) data_mask

-- ---- an entry's typed registers

-- what registers are at an entry at pc
pub record AreFresh (words : Bool) (unit_size mask : ℕ) (code_at data_at : Span) (pc : ℕ) (registers : List ℕ) : Type 0 where
  pub code_base : slice_index registers 24 ≡ code_at.base
  pub code_mask : slice_index registers 25 ≡ code_at.size - unit_size
  pub data_base : slice_index registers 26 ≡ data_at.base
  pub data_mask : slice_index registers 27 ≡ mask
  pub stack : Holds data_at (slice_index registers 2)
  pub third : words ≡ true → slice_index registers 3 ≡ data_at.base
  pub fourth : words ≡ true → slice_index registers 4 ≡ data_at.base
  pub last : words ≡ true → slice_index registers 29 ≡ data_at.base
  pub code : words ≡ true → slice_index registers 30 ≡ pc
  pub offset : slice_index registers 31 ≡ 0

-- the fresh hart, by whether code is in words and by the unit
abbrev hart_by : Bool → ℕ → ℕ → Span → Span → ℕ → Hart
hart_by words unit_size mask code_at data_at pc =
    let bare : Hart = record { pc = pc; registers = replicate 32 0 } in
    with_register (with_register (with_register (with_register (with_register (cond words (with_typed data_at bare) bare) 2 (data_at.base + data_at.size - 16)) 24 code_at.base) 25 (code_at.size - unit_size)) 26 data_at.base) 27 mask

fresh_by : (words : Bool) (unit_size mask : ℕ) (code_at data_at : Span) (pc : ℕ) → 16 ≤ data_at.size → AreFresh words unit_size mask code_at data_at pc (hart_by words unit_size mask code_at data_at pc).registers
fresh_by true unit_size mask code_at data_at pc least =
    record { code_base = refl; code_mask = refl; data_base = refl; data_mask = refl; stack = (omega arith, omega arith); third = λ _. refl; fourth = λ _. refl; last = λ _. refl; code = λ _. refl; offset = refl }
fresh_by false unit_size mask code_at data_at pc least = record {
  code_base = refl;
  code_mask = refl;
  data_base = refl;
  data_mask = refl;
  stack = (omega arith, omega arith);
  third = λ none. absurd cc;
  fourth = λ none. absurd cc;
  last = λ none. absurd cc;
  code = λ none. absurd cc;
  offset = refl;
}

pc_by : (words : Bool) (unit_size mask : ℕ) (code_at data_at : Span) (pc : ℕ) → (hart_by words unit_size mask code_at data_at pc).pc ≡ pc
pc_by true unit_size mask code_at data_at pc = refl
pc_by false unit_size mask code_at data_at pc = refl

-- the registers of a fresh hart, in the words of sandboxes
abbrev pub AreFreshOf : Bounds → ℕ → List ℕ → Type 0
AreFreshOf b pc registers = AreFresh (has_words b.format) (unit b.format) (data_mask_of b.format b.data) b.code b.data pc registers

pub fresh_are : (b : Bounds) (pc : ℕ) → 16 ≤ b.data.size → AreFreshOf b pc (fresh_hart b.format b.code b.data pc).registers
fresh_are b pc least = fresh_by (has_words b.format) (unit b.format) (data_mask_of b.format b.data) b.code b.data pc least

-- its stack pointer, once it is set
stack_by : (words : Bool) (unit_size mask : ℕ) (code_at data_at : Span) (pc v : ℕ) → slice_index (with_register (hart_by words unit_size mask code_at data_at pc) 2 v).registers 2 ≡ v
stack_by true unit_size mask code_at data_at pc v = refl
stack_by false unit_size mask code_at data_at pc v = refl

pub stack_set : (b : Bounds) (pc v : ℕ) → slice_index (with_register (fresh_hart b.format b.code b.data pc) 2 v).registers 2 ≡ v
stack_set b pc v = stack_by (has_words b.format) (unit b.format) (data_mask_of b.format b.data) b.code b.data pc v

pub fresh_pc : (b : Bounds) (pc : ℕ) → (fresh_hart b.format b.code b.data pc).pc ≡ pc
fresh_pc b pc = pc_by (has_words b.format) (unit b.format) (data_mask_of b.format b.data) b.code b.data pc

pub reserved_at : (p : Part) (pc : ℕ) (registers : List ℕ) → AreFreshOf (bounds_of p) pc registers → HasReserved p.format (reserved_of p) registers
reserved_at p pc registers fresh = record { code_base = fresh.code_base; code_mask = fresh.code_mask; data_base = λ two. fresh.data_base; data_mask = fresh.data_mask }

pub typed_at : (p : Part) (pc : ℕ) (registers : List ℕ) → 16 ≤ p.data_size → IsUnitStart p pc → AreFreshOf (bounds_of p) pc registers → IsTyped p registers
typed_at p pc registers least start fresh =
    let low = fresh.stack.0 in
    let high = fresh.stack.1 in
    typed_when p pc registers (omega arith) start (omega arith, omega arith) fresh.third fresh.fourth fresh.last fresh.data_base fresh.code fresh.offset

-- an image's start is one of a unit
pub start_unit : (p : Part) (a : ℕ) → IsBundleStart (code_region p) a → IsUnitStart p a
start_unit p a start = by (has_words p.format) refl
  where
    by : (w : Bool) → has_words p.format ≡ w → IsUnitStart p a
    by true has = record { held = start.held; aligned = ap (λ (u : ℕ). a % u) (words p.format has) ∙ (let even = start.aligned in omega arith) }
    by false none = of_bundle p a none start

-- ---- the first world

pub map_get : {A B : Type 0} (f : A → B) (xs : List A) (i : ℕ) (y : B) → slice_get (map f xs) i ≡ Some y → (x : A) × (slice_get xs i ≡ Some x) × (y ≡ f x)
map_get f [] i y e = absurd (cc)
map_get f (x ∷ xs) zero y e = (x, refl, (let g : Some (f x) ≡ Some y = e in cc))
map_get f (x ∷ xs) (suc i) y e = map_get f xs i y e

pub first_data_there : (ps : List Part) (m : Bytes) → IsRightLayout ps → HaveFirstData ps (with_parts m ps)
first_data_there ps m layout i p e k below = has_data ps m i p (lie_apart ps layout) e k below

-- the memory has no byte in a guard zone of these parts
abbrev pub AreFree : Bytes → List Part → Type 0
AreFree m ps = (i : ℕ) (p : Part) → slice_get ps i ≡ Some p → (a : ℕ) → InGuard p a → byte_at m a ≡ None

module _ (ps : List Part) (layout : IsRightLayout ps) (m : Bytes) (free : AreFree m ps) (memory : IsMemory (with_parts m ps)) where
  pub entered : AreEntered ps (with_parts m ps)
  entered i p e =
      let lie = lie_apart ps layout in
      let least : 16 ≤ p.data_size = (let placed = (lie.each i p e).data_placed.at_least in omega arith) in
      record {
        state = record { hart = first_is p (code_ends p (lie.each i p e)) (lie.each i p e); memory = memory };
        start = subst (IsUnitStart p) (sym (fresh_pc (bounds_of p) p.start)) (start_unit p p.start (lie.each i p e).start);
        reserved = reserved_at p p.start (first_hart p).registers (fresh_are (bounds_of p) p.start least);
        typed = typed_at p p.start (first_hart p).registers least (start_unit p p.start (lie.each i p e).start) (fresh_are (bounds_of p) p.start least);
        code = has_code ps m i p lie e;
        guards = λ a guard. guards_stay ps m i p lie e a guard ∙ free i p e a guard;
      }

  outside : (i j : ℕ) (p q : Part) → i ≢ j → slice_get ps i ≡ Some p → slice_get ps j ≡ Some q → LiesOutside (bounds_of p) (bounds_of q)
  outside i j p q ne e f =
      let lie = lie_apart ps layout in
      let apart : Apart p q = lie.others i j p q ne e f in
      record {
        code = λ a h k. apart.guarded_code a (data_guarded p a (lie.each i p e) h) k;
        «data» = λ a h k. apart.guarded_guarded a (data_guarded p a (lie.each i p e) h) (data_guarded q a (lie.each j q f) k);
        zones = λ a h k. (guard_not_other q p a (lie.each j q f) (lie.each i p e) (lie.others j i q p (λ z. ne (sym z)) f e) k).1 h;
      }

  module _ (safe : AllRunSafely ps) (calls : AllCallTyped ps) where
    abbrev part_enterable : (i : ℕ) (p : Part) → slice_get ps i ≡ Some p → IsEnterable (with_parts m ps) (bounds_of p)
    part_enterable i p e = record {
      part = p;
      bounds = refl;
      right = (lie_apart ps layout).each i p e;
      code = (entered i p e).code;
      runs = subst (λ (q : Part). RunsSafely q) (get_or_from_slice_get ps i p p e) (safe.each i p (slice_get_within ps i p e));
      calls = subst (λ (q : Part). CallsTyped q) (get_or_from_slice_get ps i p p e) (calls.each i p (slice_get_within ps i p e));
    }

    seat_safe : (i : ℕ) (p : Part) → slice_get ps i ≡ Some p → IsSafeSeat (with_parts m ps) (first_seat p)
    seat_safe i p e =
        let n = with_parts m ps in
        let lie = lie_apart ps layout in
        ready_safe n (bounds_of p) (first_hart p) 0 (part_enterable i p e) (entered i p e) (lie.own i p e) (λ a h.
        let z : p.data_base + (a - p.data_base) ≡ a = omega arith in
        ap is_some (ap (byte_at n) (sym z) ∙ has_data ps m i p lie e (a - p.data_base) (omega arith)))

    pub world_safe : IsSafeWorld (record { bytes = with_parts m ps; seats = map first_seat ps })
    world_safe = record {
      each = λ i s e.
          let x = map_get first_seat ps i s e in
          subst (λ (t : Seat). IsSafeSeat (with_parts m ps) t) (sym x.2) (seat_safe i x.0 x.1);
      others = λ i j s t ne e f.
          let x = map_get first_seat ps i s e in
          let y = map_get first_seat ps j t f in
          subst (λ (u : Seat). LiesOutside u.bounds t.bounds) (sym x.2) (subst (λ (u : Seat). LiesOutside (first_seat x.0).bounds u.bounds) (sym y.2) (outside i j x.0 y.0 ne x.1 y.1));
    }

    pub all_enterable : AreEnterable (record { bytes = with_parts m ps; seats = map first_seat ps })
    all_enterable i s e =
        let x = map_get first_seat ps i s e in
        subst (λ (t : Seat). IsEnterable (with_parts m ps) t.bounds) (sym x.2) (part_enterable i x.0 x.1)
