-- The masks of a block, bit by bit: where instructions begin, and which write the stack pointer.
use Rattle.sfi_scan.proofs.Prelude.{◌≡◌, ℕ, zero, suc, ◌+◌, ◌-◌, ◌*◌, ◌/◌, ◌%◌, ◌^◌, ◌<◌, ◌≢◌, min, true, false, not, ◌&&◌, ◌||◌, ◌==◌, ◌⊎◌, inl, inr, refl, sym, ap, ◌∙◌, subst, arith, w64, mul_assoc, bit_and, Width, bit_at, bit_not, trailing_zeros, cases_order, agree_below_at, and_parts, shl-shr, shr-shr, is_in, and_from, both_ways, false_from_ne_true, ◌≤◌, Bool, mod-lt, pow_pos, nat_le, nat_eq, OnTrue, eqb-true, AreStarts, AreAfterTwo, AreThreeWords, List, block_bundle, IsWritten, IsOfWrite, offset, word_at, IsStackWrite, AreStackPair}
use Rattle.std.specs.Prelude.{max}
use Rattle.std.proofs.Math.Nat.{zero-div}
use Rattle.std.proofs.lemmas.Nat.Bits.{bit_at-lt, bit_at_and, bit_at_or, bit_at_not, bit_at_set_other, bit_at-trailing_zeros}
use Rattle.std.specs.Int.RustNames.{bit_or}
use mir.Val.{bits}
use lib.Bits.{shifted_even}
use lib.Pow.{field, mod-mod-pow, pow-add}
use Rattle.sfi_scan.specs.declared.block.TheConstants.{FIRST_THREE, LAST, LAST_FOUR}
use Rattle.std.proofs.lemmas.Bool.{leb-true}

-- ==== One bit of a mask, through each operation.

by_bit : (P : ℕ → Type 0) → P 0 → P 1 → (x : ℕ) → x < 2 → P x
by_bit P p q zero h = p
by_bit P p q (suc zero) h = q
by_bit P p q (suc (suc r)) h = let no : ⊥ = omega arith in absurd no

by_bits : (P : ℕ → ℕ → Type 0) → P 0 0 → P 0 1 → P 1 0 → P 1 1 → (a b i : ℕ) → P (bit_at a i) (bit_at b i)
by_bits P p q r s a b i =
    by_bit (λ x. P x (bit_at b i)) (by_bit (P 0) p q (bit_at b i) (bit_at-lt b i)) (by_bit (P 1) r s (bit_at b i) (bit_at-lt b i)) (bit_at a i) (bit_at-lt a i)

pub in_and : (a b i : ℕ) → is_in (bit_and a b) i ≡ (is_in a i && is_in b i)
in_and a b i = ap (λ n. n == 1) (bit_at_and a b i) ∙ by_bits (λ x y. (min x y == 1) ≡ ((x == 1) && (y == 1))) refl refl refl refl a b i

pub in_or : (a b i : ℕ) → is_in (bit_or a b) i ≡ (is_in a i || is_in b i)
in_or a b i = ap (λ n. n == 1) (bit_at_or a b i) ∙ by_bits (λ x y. (max x y == 1) ≡ ((x == 1) || (y == 1))) refl refl refl refl a b i

pub in_not : (a i : ℕ) → a < 2 ^ 64 → i < 64 → is_in (bit_not w64 a) i ≡ not (is_in a i)
in_not a i ha hi = ap (λ n. n == 1) (bit_at_not w64 a i ha hi) ∙ by_bit (λ x. ((1 - x) == 1) ≡ not (x == 1)) refl refl (bit_at a i) (bit_at-lt a i)

-- ---- shifts

in_low : (n i : ℕ) → i < 64 → is_in (n % 2 ^ 64) i ≡ is_in n i
in_low n i h =
    let m = 63 - i in
    let e : m + 1 + i ≡ 64 = omega arith in
    ap (λ x. x == 1) (subst (λ w. bit_at (n % 2 ^ w) i ≡ bit_at n i) e (ap (λ x. x % 2) (field n (m + 1) i) ∙ mod-mod-pow (n / 2 ^ i) m 1))

abbrev pub shl : ℕ → ℕ → ℕ
shl m k = m * 2 ^ k % 2 ^ 64

pub in_shl : (m k i : ℕ) → k + i < 64 → is_in (shl m k) (k + i) ≡ is_in m i
in_shl m k i h = in_low (m * 2 ^ k) (k + i) h ∙ ap (λ x. x % 2 == 1) (sym (shr-shr (m * 2 ^ k) k i) ∙ ap (λ x. x / 2 ^ i) (shl-shr m k))

pub in_shl_low : (m k i : ℕ) → i < k → i < 64 → is_in (shl m k) i ≡ false
in_shl_low m k i lt h =
    let j = k - i - 1 in
    let e : suc j + i ≡ k = omega arith in
    let moved : m * 2 ^ (suc j + i) / 2 ^ i ≡ m * 2 ^ suc j = ap (λ x. x / 2 ^ i) (ap (λ x. m * x) (pow-add 2 (suc j) i) ∙ sym (mul_assoc m (2 ^ suc j) (2 ^ i))) ∙ shl-shr (m * 2 ^ suc j) i in
    in_low (m * 2 ^ k) i h ∙ ap (λ x. x == 1) (subst (λ w. bit_at (m * 2 ^ w) i ≡ 0) e (ap (λ x. x % 2) moved ∙ shifted_even m j))

pub in_shr : (m k i : ℕ) → is_in (m / 2 ^ k) i ≡ is_in m (k + i)
in_shr m k i = ap (λ x. x % 2 == 1) (shr-shr m k i)

-- ---- one bit set

-- what is so of each bit of a mask and of one more is so of both together
pub in_more : (w : Width) (P : ℕ → Type 0) (m k : ℕ) → k < bits w → P k → ((i : ℕ) → is_in m i ≡ true → P i) → (i : ℕ) → is_in (bit_or m (1 * 2 ^ k % 2 ^ bits w)) i ≡ true → P i
in_more w P m k h one all i is = go (cases_order i k)
  where
    other : i ≢ k → P i
    other away = all i (sym (ap (λ n. n == 1) (bit_at_set_other w m k h i away)) ∙ is)

    go : (i ≡ k) ⊎ ((i < k) ⊎ (k < i)) → P i
    go (inl e) = subst P (sym e) one
    go (inr (inl l)) = other (λ e. omega (arith, e, l))
    go (inr (inr g)) = other (λ e. omega (arith, e, g))

pub in_zero : (i : ℕ) → is_in 0 i ≡ false
in_zero i = ap (λ n. n % 2 == 1) (zero-div (2 ^ i))

-- masks without a bit that is in both
pub no_bits : (a b i : ℕ) → bit_and a b ≡ 0 → is_in a i ≡ true → is_in b i ≡ true → ⊥
no_bits a b i none one two = both_ways (is_in 0 i) (in_zero i) (sym (ap (λ n. is_in n i) none) ∙ in_and a b i ∙ and_from (is_in a i) (is_in b i) one two)

-- a mask of ones has each of eight bits
pub all_set : (i : ℕ) → i < 8 → is_in 255 i ≡ true
all_set i h = agree_below_at (λ i. is_in 255 i) (λ i. true) 8 i refl h

-- the bits of a byte that is 0
pub in_none : (m k j : ℕ) → j < 8 → bit_and (m / 2 ^ (8 * k)) 255 ≡ 0 → is_in m (8 * k + j) ≡ false
in_none m k j h none = false_from_ne_true (is_in m (8 * k + j)) (λ is. no_bits (m / 2 ^ (8 * k)) 255 j none (in_shr m (8 * k) j ∙ is) (all_set j h))

pub in_all : (i : ℕ) → i < 64 → is_in (2 ^ 64 - 1) i ≡ true
in_all i h = agree_below_at (λ i. is_in (2 ^ 64 - 1) i) (λ i. true) 64 i refl h

-- ---- the lowest

pub in_lowest : (m : ℕ) → m ≢ 0 → m < 2 ^ 64 → (trailing_zeros w64 m < 64) × (is_in m (trailing_zeros w64 m) ≡ true)
in_lowest m some h = let all = bit_at-trailing_zeros w64 m (omega (arith, some)) h in (all.0, ap (λ n. n == 1) all.1)

-- what is left of a mask without one of its bits was in it before
pub in_rest : (a b i : ℕ) → is_in (bit_and a b) i ≡ true → is_in a i ≡ true
in_rest a b i h = (and_parts (is_in a i) (is_in b i) (sym (in_and a b i) ∙ h)).0

pub in_rest_other : (a b i : ℕ) → is_in (bit_and a b) i ≡ true → is_in b i ≡ true
in_rest_other a b i h = (and_parts (is_in a i) (is_in b i) (sym (in_and a b i) ∙ h)).1

-- ==== Where the instructions of a block begin.

-- ---- the last halfwords of the bundles

last_is : (i : ℕ) → i < 64 → is_in LAST i ≡ (i % 8 == 7)
last_is i h = agree_below_at (λ i. is_in LAST i) (λ i. i % 8 == 7) 64 i refl h

last_four_is : (i : ℕ) → i < 64 → is_in LAST_FOUR i ≡ nat_le 4 (i % 8)
last_four_is i h = agree_below_at (λ i. is_in LAST_FOUR i) (λ i. nat_le 4 (i % 8)) 64 i refl h

-- ---- where they begin

-- a mask with none of the last halfwords
not_inside : (m : ℕ) → bit_and m LAST ≡ 0 → (i : ℕ) → i < 64 → is_in m i ≡ true → (i % 8 ≡ 7) → ⊥
not_inside m none i h is seven = no_bits m LAST i none is (last_is i h ∙ ap (λ r. r == 7) seven)

none_last : (m : ℕ) → bit_and m LAST ≡ 0 → (i : ℕ) → i < 64 → i % 8 ≡ 7 → is_in m i ≡ false
none_last m none i h seven = false_from_ne_true (is_in m i) (λ is. not_inside m none i h is seven)

next_start : (starts words : ℕ) → starts ≡ bit_not w64 (shl words 1) → (i : ℕ) → i < 63 → is_in starts (i + 1) ≡ not (is_in words i)
next_start starts words is i h =
    let e : i + 1 ≡ 1 + i = omega arith in
    ap (λ m. is_in m (i + 1)) is ∙ in_not (shl words 1) (i + 1) (mod-lt (words * 2 ^ 1) (pow_pos 64)) (omega arith) ∙ ap (λ k. not (is_in (shl words 1) k)) e ∙ ap not (in_shl words 1 i (omega arith))

first_start : (starts words : ℕ) → starts ≡ bit_not w64 (shl words 1) → bit_and words LAST ≡ 0 → (i : ℕ) → i < 64 → i % 8 ≡ 0 → is_in starts i ≡ true
first_start starts words is none zero h first =
    ap (λ m. is_in m 0) is ∙ in_not (shl words 1) 0 (mod-lt (words * 2 ^ 1) (pow_pos 64)) (omega arith) ∙ ap not (in_shl_low words 1 0 (omega arith) (omega arith))
first_start starts words is none (suc i) h first =
    let e : suc i ≡ i + 1 = omega arith in
    ap (is_in starts) e ∙ next_start starts words is i (omega arith) ∙ ap not (none_last words none i (omega arith) (omega (arith, first)))

starts_are : (starts long : ℕ) → starts ≡ bit_not w64 (shl (bit_and starts long) 1) → bit_and (bit_and starts long) LAST ≡ 0 → AreStarts starts (bit_and starts long)
starts_are starts long is none =
    let words = bit_and starts long in
    record {
      first = first_start starts words is none;
      next = next_start starts words is;
      only = in_rest starts long;
      inside = λ i h is. let seven = not_inside words none i h is in omega (arith, seven);
    }

pub starts_told : (starts long : ℕ) → starts ≡ bit_not w64 (shl (bit_and starts long) 1) → (b : Bool) → b ≡ nat_eq (bit_and (bit_and starts long) LAST) 0 → OnTrue b (AreStarts starts (bit_and starts long))
starts_told starts long is false e = tt
starts_told starts long is true e = starts_are starts long is (eqb-true _ 0 (sym e))

-- ---- two words before

abbrev pairs : ℕ → ℕ
pairs words = bit_and words (words / 2 ^ 2)

parts : (words i : ℕ) → is_in (bit_and (shl (pairs words) 4) LAST_FOUR) i ≡ true → (is_in (shl (pairs words) 4) i ≡ true) × (is_in LAST_FOUR i ≡ true)
parts words i is = and_parts (is_in (shl (pairs words) 4) i) (is_in LAST_FOUR i) (sym (in_and (shl (pairs words) 4) LAST_FOUR i) ∙ is)

high : (words i : ℕ) → i < 64 → is_in (bit_and (shl (pairs words) 4) LAST_FOUR) i ≡ true → 4 ≤ i % 8
high words i h is = leb-true 4 (i % 8) (sym (last_four_is i h) ∙ (parts words i is).1)

two : (words i : ℕ) → i < 64 → is_in (bit_and (shl (pairs words) 4) LAST_FOUR) i ≡ true → (is_in words (i - 4) ≡ true) × (is_in words (i - 2) ≡ true)
two words i h is =
    let far = high words i h is in
    let e : 4 + (i - 4) ≡ i = omega (arith, far) in
    let f : 2 + (i - 4) ≡ i - 2 = omega (arith, far) in
    let both = sym (in_and words (words / 2 ^ 2) (i - 4)) ∙ sym (in_shl (pairs words) 4 (i - 4) (omega (arith, far))) ∙ ap (is_in (shl (pairs words) 4)) e ∙ (parts words i is).0 in
    let p = and_parts (is_in words (i - 4)) (is_in (words / 2 ^ 2) (i - 4)) both in
    (p.0, ap (is_in words) (sym f) ∙ sym (in_shr words 2 (i - 4)) ∙ p.1)

pub after_two_is : (words : ℕ) → AreAfterTwo words (bit_and (shl (bit_and words (words / 4)) 4) LAST_FOUR)
after_two_is words = record {
  high = high words;
  first = λ i h is. (two words i h is).0;
  second = λ i h is. (two words i h is).1;
}

-- ---- three words together

first_three_is : (i : ℕ) → i < 64 → is_in FIRST_THREE i ≡ nat_le (i % 8) 2
first_three_is i h = agree_below_at (λ i. is_in FIRST_THREE i) (λ i. nat_le (i % 8) 2) 64 i refl h

three_parts : (words i : ℕ) → is_in (bit_and (bit_and (bit_and words (words / 4)) (words / 16)) FIRST_THREE) i ≡ true
    → (is_in words i ≡ true) × (is_in words (i + 2) ≡ true) × (is_in words (i + 4) ≡ true) × (is_in FIRST_THREE i ≡ true)
three_parts words i is =
    let two = bit_and words (words / 2 ^ 2) in
    let three = bit_and two (words / 2 ^ 4) in
    let a = and_parts (is_in three i) (is_in FIRST_THREE i) (sym (in_and three FIRST_THREE i) ∙ is) in
    let b = and_parts (is_in two i) (is_in (words / 2 ^ 4) i) (sym (in_and two (words / 2 ^ 4) i) ∙ a.0) in
    let c = and_parts (is_in words i) (is_in (words / 2 ^ 2) i) (sym (in_and words (words / 2 ^ 2) i) ∙ b.0) in
    let e : i + 2 ≡ 2 + i = omega arith in
    let f : i + 4 ≡ 4 + i = omega arith in
    (c.0, ap (is_in words) e ∙ sym (in_shr words 2 i) ∙ c.1, ap (is_in words) f ∙ sym (in_shr words 4 i) ∙ b.1, a.1)

pub three_words_are : (words : ℕ) → AreThreeWords words (bit_and (bit_and (bit_and words (words / 4)) (words / 16)) FIRST_THREE)
three_words_are words = record {
  low = λ i h is. leb-true (i % 8) 2 (sym (first_three_is i h) ∙ (three_parts words i is).3);
  first = λ i h is. (three_parts words i is).0;
  second = λ i h is. (three_parts words i is).1;
  third = λ i h is. (three_parts words i is).2;
}

-- ==== Writes of the stack pointer in a block.

pub no_writes : (block : List ℕ) (words i : ℕ) → is_in 0 i ≡ true → IsOfWrite block words i
no_writes block words i h = absurd (let no_bit : true ≡ false = sym h ∙ in_zero i in cc)

-- the words after it in its bundle
after_it : (block : List ℕ) (i more : ℕ) → i % 8 + more < 8 → word_at (block_bundle block ((i + more) / 8)) (offset (i + more)) ≡ word_at (block_bundle block (i / 8)) (offset i + 2 * more)
after_it block i more h =
    let e : (i + more) / 8 ≡ i / 8 = omega (arith, h) in
    let f : offset (i + more) ≡ offset i + 2 * more = omega (arith, h) in
    ap (λ n. word_at (block_bundle block n) (offset (i + more))) e ∙ ap (word_at (block_bundle block (i / 8))) f

pub written_told : (block : List ℕ) (words three i first second third : ℕ) → i < 64 → AreThreeWords words three → is_in three i ≡ true
    → first ≡ word_at (block_bundle block (i / 8)) (offset i)
    → second ≡ word_at (block_bundle block ((i + 2) / 8)) (offset (i + 2))
    → third ≡ word_at (block_bundle block ((i + 4) / 8)) (offset (i + 4))
    → AreStackPair second third → (b : Bool) → OnTrue b (IsStackWrite first) → OnTrue b (IsWritten block words i)
written_told block words three i first second third lt are is e f g pair false write = tt
written_told block words three i first second third lt are is e f g pair true write =
    let low = are.low i lt is in
    let second_is = f ∙ after_it block i 2 (omega (arith, low)) in
    let third_is = g ∙ after_it block i 4 (omega (arith, low)) in
    record {
      low = low;
      first = are.first i lt is;
      second = are.second i lt is;
      third = are.third i lt is;
      write = subst IsStackWrite e write;
      pair = subst (λ w. AreStackPair (word_at (block_bundle block (i / 8)) (offset i + 4)) w) third_is (subst (λ w. AreStackPair w third) second_is pair);
    }
