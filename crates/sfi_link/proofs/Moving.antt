-- The code of a sandbox that can be moved is the same at each place, and makes the addresses of that.
use Rattle.sfi_link.proofs.Prelude.{◌≡◌, ℕ, ◌+◌, ◌-◌, ◌*◌, ◌<◌, List, [], ◌∷◌, ◌++◌, length, replicate, Option, Some, None, Bool, true, false, refl, sym, ap, ◌∙◌, subst, arith, ints, pos, ◌-ℤ◌, slice_get, Instr, Lui, OpImm, Addi, upper, lower, BundleSlot, Wide, Short, Jump, Upper, Lower, Region, PlacedName, Place, Placement, slot_size, slots_of, c_ebreak, Bases, bases_of, of_name, target_of, value_at, with_offset, resolved, made_of, IsSlot, AreSlots}
use Rattle.std.specs.Prelude.{if◌then◌else◌}
use Rattle.sfi_rewrite.specs.declared.placed.PlacedName.TheVariants as name
use Rattle.std.proofs.lemmas.Option.{same_Some}
use Rattle.sfi_formats.specs.Formats.{code_base_register, data_base_register}
use Rattle.sfi_link.specs.Code.{address_at, address_of, base_of, offset_of, stub_size}
use Rattle.sfi_link.specs.Laws.{MovableCodeIsPlaceless, MovableAddressesAddUp, MaskedAddressesAddUp}
use Rattle.rv_word.specs.declared.instr.RegOp.TheVariants.{Add}
use Rattle.rv_step.specs.Step.{result_of}
use Rattle.sfi_rewrite.specs.Transparency.{AreRegions}
use Rattle.sfi_rewrite.specs.words.Transparency.{masked_in}
use Rattle.sfi_image.specs.Parts.{IsMaskedBase}
use Rattle.sfi_image.specs.declared.span.Span.{Span}
use Rattle.sfi_formats.specs.declared.format.Format.{Format}
use Rattle.sfi_formats.specs.Formats.{has_single_mask}
use Rattle.sfi_rewrite.proofs.Facts.{masks_compose}

-- two places of a sandbox that can be moved, with as many stubs
record AreMoved (a b : Bases) : Type 0 where
  stubs : ℕ
  first : a.start ≡ a.code + stubs
  second : b.start ≡ b.code + stubs
  first_moves : a.movable ≡ true
  second_moves : b.movable ≡ true

-- distances in the code are the same
same_distance : (c d s to off : ℕ) → pos (c + to) -ℤ pos (c + s + off) ≡ pos (d + to) -ℤ pos (d + s + off)
same_distance c d s to off = omega (arith, ints)

chosen : {A : Type 0} (moves : Bool) (x y : A) → moves ≡ true → (if moves then x else y) ≡ x
chosen true x y e = refl
chosen false x y e = absurd cc

module _ (a b : Bases) (same : AreMoved a b) where
  same_target : (here : ℕ) (i : Instr) (o : Option PlacedName)
      → made_of (λ to. with_offset (pos to -ℤ pos (a.start + here)) i) (of_name (target_of a) o) ≡ made_of (λ to. with_offset (pos to -ℤ pos (b.start + here)) i) (of_name (target_of b) o)
  same_target here i None = refl
  same_target here i (Some (name.Gate k)) =
      let f = same.first in let g = same.second in
      ap (λ z. Some (with_offset z i)) (ap (λ (s : ℕ). pos (a.code + 16 * k) -ℤ pos (s + here)) f ∙ same_distance a.code b.code same.stubs (16 * k) here ∙ ap (λ (s : ℕ). pos (b.code + 16 * k) -ℤ pos (s + here)) (sym g))
  same_target here i (Some (name.Code place)) = ap (λ z. Some (with_offset z i)) (from_start a.start b.start place here)
    where
      from_start : (s t place here : ℕ) → pos (s + place) -ℤ pos (s + here) ≡ pos (t + place) -ℤ pos (t + here)
      from_start s t place here = omega (arith, ints)
  same_target here i (Some (name.Data offset)) = refl
  same_target here i (Some name.Unknown) = refl

  same_offset : (o : Option PlacedName) → of_name (offset_of a) o ≡ of_name (offset_of b) o
  same_offset None = refl
  same_offset (Some (name.Gate k)) = refl
  same_offset (Some (name.Code place)) =
      ap Some (ap (λ (s : ℕ). s + place - a.code) same.first ∙ after a.code same.stubs place ∙ sym (after b.code same.stubs place) ∙ ap (λ (s : ℕ). s + place - b.code) (sym same.second))
    where
      after : (c s place : ℕ) → c + s + place - c ≡ s + place
      after c s place = omega arith
  same_offset (Some (name.Data offset)) = refl
  same_offset (Some name.Unknown) = refl

  same_value : (names : List PlacedName) (k : ℕ) → value_at a names k ≡ value_at b names k
  same_value names k =
      chosen a.movable (of_name (offset_of a) (slice_get names k)) (address_at a names k) same.first_moves
      ∙ same_offset (slice_get names k)
      ∙ sym (chosen b.movable (of_name (offset_of b) (slice_get names k)) (address_at b names k) same.second_moves)

  same_resolved : (names : List PlacedName) (here : ℕ) (s : BundleSlot) → resolved a names (a.start + here) s ≡ resolved b names (b.start + here) s
  same_resolved names here (Wide i) = refl
  same_resolved names here (Short f) = refl
  same_resolved names here (Jump i k line) = same_target here i (slice_get names k)
  same_resolved names here (Upper rd k line) = ap (made_of (λ value. Lui rd (upper (pos value)))) (same_value names k)
  same_resolved names here (Lower rd k line) = ap (made_of (λ value. OpImm Addi rd rd (lower (pos value)))) (same_value names k)
  same_resolved names here (Region rd k line) = refl

  same_slot : (names : List PlacedName) (here : ℕ) (s : BundleSlot) (bytes : List ℕ) → IsSlot a names (a.start + here) s bytes → IsSlot b names (b.start + here) s bytes
  same_slot names here s bytes is = record { instr = is.instr; resolves = sym (same_resolved names here s) ∙ is.resolves; spelled = is.spelled }

  same_slots : (names : List PlacedName) (here : ℕ) (slots : List BundleSlot) (bytes : List ℕ) → AreSlots a names (a.start + here) slots bytes → AreSlots b names (b.start + here) slots bytes
  same_slots names here [] bytes none = none
  same_slots names here (s ∷ slots) bytes (front, rest, is, more, both) = (
    front,
    rest,
    same_slot names here s front is,
    subst (λ (n : ℕ). AreSlots b names n slots rest) (sym (further b.start here (slot_size s)))
        (same_slots names (here + slot_size s) slots rest (subst (λ (n : ℕ). AreSlots a names n slots rest) (further a.start here (slot_size s)) more)),
    both,
  )
    where
      further : (s here size : ℕ) → s + here + size ≡ s + (here + size)
      further s here size = omega arith

pub placeless : MovableCodeIsPlaceless
placeless given others number p code moves is = record {
  size = is.size;
  fill = is.fill;
  bytes = is.bytes;
  slots =
      let a = bases_of given number p in
      let b = bases_of others number p in
      let slots = slots_of p.bundles ++ replicate is.fill c_ebreak in
      subst (λ (n : ℕ). AreSlots b p.names n slots is.bytes) (none b.start)
      (same_slots a b (record { stubs = 16 * length p.gates; first = refl; second = refl; first_moves = moves; second_moves = moves }) p.names 0 slots is.bytes
      (subst (λ (n : ℕ). AreSlots a p.names n slots is.bytes) (sym (none a.start)) is.slots));
  code_is = is.code_is;
}
  where
    none : (n : ℕ) → n + 0 ≡ n
    none n = omega arith

-- ---- what `la` makes of a name

add_up : (held : ℕ → ℕ) (from base offset distance first address : ℕ) → held from ≡ first → address ≡ first + distance → Some from ≡ Some base → Some distance ≡ Some offset
    → Some address ≡ Some (held base + offset)
add_up held from base offset distance first address is whole register number = ap Some
    (whole
    ∙ ap (λ (n : ℕ). n + distance) (sym is)
    ∙ ap (λ (r : ℕ). held r + distance) (same_Some from base register)
    ∙ ap (λ (n : ℕ). held base + n) (same_Some distance offset number))

one_adds_up : (given : List Place) (number : ℕ) (p : Placement) (n : PlacedName) (held : ℕ → ℕ) (base offset : ℕ)
    → held code_base_register ≡ (bases_of given number p).code → held data_base_register ≡ (bases_of given number p).«data»
    → base_of n ≡ Some base → offset_of (bases_of given number p) n ≡ Some offset
    → address_of (bases_of given number p) n ≡ Some (held base + offset)
one_adds_up given number p (name.Gate k) held base offset in_code in_data register distance =
    let at = bases_of given number p in
    add_up held code_base_register base offset (stub_size * k) at.code (at.code + stub_size * k) in_code refl register distance
one_adds_up given number p (name.Code place) held base offset in_code in_data register distance =
    let at = bases_of given number p in
    add_up held code_base_register base offset (at.start + place - at.code) at.code (at.start + place) in_code (again at.code (stub_size * length p.gates) place) register distance
  where
    again : (c s place : ℕ) → c + s + place ≡ c + (c + s + place - c)
    again c s place = omega arith
one_adds_up given number p (name.Data to) held base offset in_code in_data register distance =
    let at = bases_of given number p in
    add_up held data_base_register base offset to at.«data» (at.«data» + to) in_data refl register distance
one_adds_up given number p name.Unknown held base offset in_code in_data register distance = cc

some_adds_up : (given : List Place) (number : ℕ) (p : Placement) (o : Option PlacedName) (held : ℕ → ℕ) (base offset : ℕ)
    → held code_base_register ≡ (bases_of given number p).code → held data_base_register ≡ (bases_of given number p).«data»
    → of_name base_of o ≡ Some base → of_name (offset_of (bases_of given number p)) o ≡ Some offset
    → of_name (address_of (bases_of given number p)) o ≡ Some (held base + offset)
some_adds_up given number p None held base offset in_code in_data register distance = absurd cc
some_adds_up given number p (Some n) held base offset in_code in_data register distance =
    one_adds_up given number p n held base offset in_code in_data register distance

pub adds_up : MovableAddressesAddUp
adds_up given number p place held base value moves in_code in_data register number_is =
    let at = bases_of given number p in
    some_adds_up given number p (slice_get p.names place) held base value in_code in_data register
    (sym (chosen at.movable (of_name (offset_of at) (slice_get p.names place)) (address_at at p.names place) moves) ∙ number_is)

-- ---- with a mask after each step

-- a mask before a sum, which the mask follows, changes nothing
masked_before : (f : Format) (c d : Span) (v w sum : ℕ) → AreRegions c d → IsMaskedBase f d.base d.size → (has_single_mask f ≡ true → v < d.size) → result_of Add v w ≡ sum
    → masked_in f d (result_of Add (masked_in f d v) w) ≡ masked_in f d sum
masked_before f c d v w sum regions bit low is = by (has_single_mask f) refl
  where
    by : (one : Bool) → has_single_mask f ≡ one → masked_in f d (result_of Add (masked_in f d v) w) ≡ masked_in f d sum
    by true e = ap (λ (n : ℕ). masked_in f d (result_of Add n w)) ((masks_compose f c d v w regions bit).2 e (low e)) ∙ ap (masked_in f d) is
    by false e = (masks_compose f c d v w regions bit).1 e ∙ ap (masked_in f d) is

pub masked_adds_up : MaskedAddressesAddUp
masked_adds_up f given number p place held base value upper lower address c d moves in_code in_data register number_is halves there regions bit low inside word =
    let sum : held base + value ≡ address =
    same_Some (held base + value) address (sym (adds_up given number p place held base value moves in_code in_data register number_is) ∙ there) in
    let last : result_of Add value (held base) ≡ address = omega arith in
    ap (λ (n : ℕ). masked_in f d (result_of Add n (held base))) (masked_before f c d upper lower value regions bit (λ one. (low one).0) halves)
    ∙ masked_before f c d value (held base) address regions bit (λ one. (low one).1) last
    ∙ (masks_compose f c d address 0 regions bit).0 inside
