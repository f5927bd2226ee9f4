-- Where single masks begin, by the tables of their two halfwords.
use Rattle.std.proofs.Common.{◌≡◌, ℕ, ◌+◌, ◌*◌, ◌/◌, ◌%◌, ◌<◌, Bool, true, false, ◌&&◌, ◌==◌, List, take, drop, refl, sym, ap, ap₂, ◌∙◌, subst, inl, inr, arith, bit_and, eqb-true}
use Rattle.std.specs.Prelude.{slice_index}
use Rattle.std.specs.Int.Bits.{and_zero_l}
use Rattle.std.proofs.lemmas.Bool.{agree_below, agree_below_at, and_parts, cases_eq}
use Rattle.std.proofs.lemmas.Nat.{and_comm}
use Rattle.std.proofs.lemmas.List.{get_or-take, get_or-drop}
use Rattle.rv_word.specs.Spelling.{spelling, InRange}
use Rattle.sfi_formats.specs.Formats.{is_data_register_in}
use Rattle.sfi_formats.specs.declared.format.Format.TheVariants.{Sfis}
use Rattle.sfi_masks.specs.Masks.{is_in, word_at, IsSingleMask, AreSingleMasks}
use Rattle.sfi_masks.specs.declared.tables.TheConstants.{MASK, MASK_NEXT}
use Rattle.sfi_masks.specs.private.{half_classes, mask_classes, of_four, AreSingleMasksSeen}
use Rattle.sfi_masks.proofs.Cells.{opcode, rd, funct3, after}
use Rattle.sfi_masks.proofs.Told.{word_of, rs1, word_is}
use Rattle.sfi_masks.proofs.Block.{not_false}

-- ---- what the tables tell of each halfword

abbrev is_first : ℕ → ℕ → Bool
is_first low high = (opcode low == 51) && ((funct3 high == 7) && is_data_register_in Sfis (rd low high))

abbrev is_second : ℕ → ℕ → Bool
is_second low high = (low / 16 == 11) && (high == 1)

unfoldable cell : ℕ → Bool → Bool
cell classes told = elim (classes == 0) [ true ↦ true | false ↦ told ]

all_first : agree_below (λ high. agree_below (λ low. cell (half_classes MASK low high) (is_first low high)) (λ low. true) 256) (λ high. true) 256 ≡ true
unfolding cell
all_first = refl

all_second : agree_below (λ high. agree_below (λ low. cell (half_classes MASK_NEXT low high) (is_second low high)) (λ low. true) 256) (λ high. true) 256 ≡ true
unfolding cell
all_second = refl

told : (classes : ℕ) (is : Bool) → (classes == 0) ≡ false → cell classes is ≡ true → is ≡ true
unfolding cell
told classes is = after (classes == 0) is

first_told : (low high : ℕ) → low < 256 → high < 256 → (half_classes MASK low high == 0) ≡ false → is_first low high ≡ true
first_told low high l h some =
    told (half_classes MASK low high) (is_first low high) some
    (agree_below_at (λ n. cell (half_classes MASK n high) (is_first n high)) (λ n. true) 256 low
    (agree_below_at (λ m. agree_below (λ n. cell (half_classes MASK n m) (is_first n m)) (λ n. true) 256) (λ m. true) 256 high all_first h) l)

second_told : (low high : ℕ) → low < 256 → high < 256 → (half_classes MASK_NEXT low high == 0) ≡ false → is_second low high ≡ true
second_told low high l h some =
    told (half_classes MASK_NEXT low high) (is_second low high) some
    (agree_below_at (λ n. cell (half_classes MASK_NEXT n high) (is_second n high)) (λ n. true) 256 low
    (agree_below_at (λ m. agree_below (λ n. cell (half_classes MASK_NEXT n m) (is_second n m)) (λ n. true) 256) (λ m. true) 256 high all_second h) l)

-- ---- a word of two such halfwords

some_first : (a b : ℕ) → (bit_and a b == 0) ≡ false → (a == 0) ≡ false
some_first a b some = by (a == 0) refl
  where
    by : (is : Bool) → (a == 0) ≡ is → (a == 0) ≡ false
    by true e = absurd (let zero_is : bit_and a b ≡ 0 = rw (eqb-true a 0 e, and_zero_l b) refl in let no = ap (λ n. n == 0) zero_is in cc)
    by false e = e

module _ (low high low2 high2 : ℕ) (l : low < 256) (h : high < 256) (l2 : low2 < 256) (h2 : high2 < 256) where
  is_mask : is_first low high ≡ true → is_second low2 high2 ≡ true → IsSingleMask (word_of low high low2 high2)
  unfolding spelling InRange
  is_mask first second =
      let one = and_parts (opcode low == 51) ((funct3 high == 7) && is_data_register_in Sfis (rd low high)) first in
      let two = and_parts (funct3 high == 7) (is_data_register_in Sfis (rd low high)) one.1 in
      let three = and_parts (low2 / 16 == 11) (high2 == 1) second in
      let a = eqb-true (opcode low) 51 one.0 in
      let b = eqb-true (funct3 high) 7 two.0 in
      let c = eqb-true (low2 / 16) 11 three.0 in
      let d = eqb-true high2 1 three.1 in
      record {
        register = rd low high;
        operand = rs1 high low2;
        is_data = two.1;
        spelled = ((omega arith, omega arith, omega arith), omega (arith, a, b, c, d, l, h, l2));
      }

  pub single_mask : (mask_classes low high low2 high2 == 0) ≡ false → IsSingleMask (word_of low high low2 high2)
  unfolding mask_classes
  single_mask some =
      let first = some_first (half_classes MASK low high) (half_classes MASK_NEXT low2 high2) some in
      let second = some_first (half_classes MASK_NEXT low2 high2) (half_classes MASK low high) (ap (λ n. n == 0) (and_comm (half_classes MASK_NEXT low2 high2) (half_classes MASK low high)) ∙ some) in
      is_mask (first_told low high l h first) (second_told low2 high2 l2 h2 second)

-- ---- the masks of a block from those of its quarters

module _ (block : List ℕ) (fits : (k : ℕ) → slice_index block k < 256) where
  abbrev byte : ℕ → ℕ
  byte k = slice_index block k

  abbrev IsQuarter : ℕ → ℕ → Type 0
  IsQuarter q m = AreSingleMasksSeen (λ k. slice_index (take 32 (drop (32 * q) block)) k) m

  taken : (q k place : ℕ) → k < 32 → 32 * q + k ≡ place → byte place ≡ slice_index (take 32 (drop (32 * q) block)) k
  taken q k place h e = ap byte (sym e) ∙ sym (get_or-take 32 (drop (32 * q) block) k 0 h ∙ get_or-drop (32 * q) block k 0)

  of_quarter : (q m : ℕ) → IsQuarter q m → (i : ℕ) → i / 16 ≡ q → i % 8 < 7 → is_in m (i % 16) ≡ true → IsSingleMask (word_at block i)
  of_quarter q m seen i at inside is =
      let j = i % 16 in
      let quarter = λ (k : ℕ). slice_index (take 32 (drop (32 * q) block)) k in
      let some = not_false _ (sym (seen j (omega arith)) ∙ is) in
      subst IsSingleMask (sym (word_is block i))
      (single_mask (byte (2 * i)) (byte (2 * i + 1)) (byte (2 * i + 2)) (byte (2 * i + 3)) (fits (2 * i)) (fits (2 * i + 1)) (fits (2 * i + 2)) (fits (2 * i + 3))
      (ap₂ (λ a b. mask_classes a b (byte (2 * i + 2)) (byte (2 * i + 3)) == 0) (taken q (2 * j) (2 * i) (omega arith) (omega (arith, at))) (taken q (2 * j + 1) (2 * i + 1) (omega arith) (omega (arith, at)))
      ∙ ap₂ (λ a b. mask_classes (quarter (2 * j)) (quarter (2 * j + 1)) a b == 0) (taken q (2 * ((j + 1) % 16)) (2 * i + 2) (omega arith) (omega (arith, at, inside))) (taken q (2 * ((j + 1) % 16) + 1) (2 * i + 3) (omega arith) (omega (arith, at, inside)))
      ∙ some))

  pub are_single_masks : (a b c d told : ℕ) → IsQuarter 0 a → IsQuarter 1 b → IsQuarter 2 c → IsQuarter 3 d
      → ((i : ℕ) → i < 64 → is_in told i ≡ is_in (of_four a b c d (i / 16)) (i % 16)) → AreSingleMasks block told
  are_single_masks a b c d told p q r s joined i inside lt is = elim (cases_eq (i / 16) 0) [
    | inl e ↦ of_quarter 0 a p i e inside (there 0 e)
    | inr x ↦ elim (cases_eq (i / 16) 1) [
      | inl e ↦ of_quarter 1 b q i e inside (there 1 e)
      | inr y ↦ elim (cases_eq (i / 16) 2) [
        | inl e ↦ of_quarter 2 c r i e inside (there 2 e)
        | inr z ↦ (let e : i / 16 ≡ 3 = omega arith in of_quarter 3 d s i e inside (there 3 e))
      ]
    ]
  ]
    where
      there : (n : ℕ) → i / 16 ≡ n → is_in (of_four a b c d n) (i % 16) ≡ true
      there n e = ap (λ m. is_in (of_four a b c d m) (i % 16)) (sym e) ∙ sym (joined i lt) ∙ is
