-- Numbers: of a text, powers of two, and the halves of an address.
use Rattle.std.proofs.Math.Nat.{pow-suc}
use Rattle.std.proofs.lemmas.Nat.{zero_from_ones, ones_le_self}
use Rattle.std.specs.Int.{IsPowerOfTwo, is_power_of_two}
use Rattle.std.specs.Int.Count.{ones_step, ones, ones_in}
use Rattle.sfi_source.specs.Source.{rounded, upper, lower}
use Rattle.sfi_text.specs.private.Reading.{IsInReach}
use Rattle.std.specs.Str.Parse.{AllDigits, digits_value}
use Rattle.sfi_text.proofs.Prelude.{◌≡◌, ℕ, zero, suc, ◌/◌, ◌%◌, ◌^◌, ◌≤◌, ap, ◌∙◌, refl, sym, arith, inl, inr, Bool, IsTrue, ◌↔◌, count_ones, cases_lt, eqb-true, eq-eqb, ◌+◌, ◌-◌, ◌*◌, ◌<◌, ℤ, pos, negsuc, ◌+ℤ◌, ◌-ℤ◌, ints, modulo, IsImm12, ConstantsAddUp, List, ◌∷◌, ◌++◌, get_or, subst, neg_ℤ, codes, nat_tests, IsMagnitude, IsNumber, NumberKind, DataSize, IsNumberOf}

-- ==== A number is a power of two where one of its bits is set.

power_by : (d n : ℕ) → n ≤ d → count_ones n ≡ 1 → IsPowerOfTwo n
power_by zero n le e = absurd (omega (arith, ones_le_self n))
power_by (suc d) n le e =
    elim (cases_lt (n % 2) 1) [
      | inl even ↦
          let half = power_by d (n / 2) (omega arith) (omega (arith, ones_step n)) in
          (suc half.0, omega (arith, half.1, pow-suc 2 half.0))
      | inr odd ↦ let none = zero_from_ones (n / 2) (omega (arith, ones_step n)) in (0, omega arith)
    ]

power_of_ones : (n : ℕ) → count_ones n ≡ 1 → IsPowerOfTwo n
power_of_ones n e = power_by n n (omega arith) e

one_of_one : count_ones 1 ≡ 1
unfolding ones ones_in
one_of_one = refl

ones_of_power : (k : ℕ) → count_ones (2 ^ k) ≡ 1
ones_of_power zero = one_of_one
ones_of_power (suc k) =
    let half : 2 ^ suc k / 2 ≡ 2 ^ k = omega (arith, pow-suc 2 k) in
    let even : 2 ^ suc k % 2 ≡ 0 = omega (arith, pow-suc 2 k) in
    omega (arith, ones_step (2 ^ suc k), ones_of_power k, ap count_ones half)

pub power_test : (b : Bool) (n : ℕ) → b ≡ is_power_of_two n → IsTrue b ↔ IsPowerOfTwo n
power_test b n e = (
  λ t. power_of_ones n (eqb-true _ _ (sym e ∙ t)),
  λ (k, is). e ∙ eq-eqb _ _ (ap count_ones is ∙ ones_of_power k),
)

-- ==== The upper and the lower half of a number: they add up to it, and a lui and an addi hold them.

-- 2048 less
less : (r t : ℕ) → t < 2 ^ 32 → (t + 2048) % 2 ^ 32 ≡ r → modulo 32 (pos r -ℤ pos 2048) ≡ t
less r t lt e =
    elim (cases_lt r 2048) [
      | inl low ↦ let d : pos r -ℤ pos 2048 ≡ negsuc (2047 - r) = omega (arith, ints) in ap (modulo 32) d ∙ omega arith
      | inr high ↦ let d : pos r -ℤ pos 2048 ≡ pos (r - 2048) = omega (arith, ints) in ap (modulo 32) d ∙ omega arith
    ]

-- 2048 more
more : (z : ℤ) → (modulo 32 z + 2048) % 2 ^ 32 ≡ rounded z
more (pos n) = omega arith
more (negsuc n) =
    elim (cases_lt n 2048) [
      | inl low ↦ let d : pos (2047 - n) ≡ negsuc n +ℤ pos 2048 = omega (arith, ints) in let e : (modulo 32 (negsuc n) + 2048) % 2 ^ 32 ≡ (2047 - n) % 2 ^ 32 = omega arith in e ∙ ap (modulo 32) d
      | inr high ↦ let d : negsuc (n - 2048) ≡ negsuc n +ℤ pos 2048 = omega (arith, ints) in let e : (modulo 32 (negsuc n) + 2048) % 2 ^ 32 ≡ 2 ^ 32 - 1 - (n - 2048) % 2 ^ 32 = omega arith in e ∙ ap (modulo 32) d
    ]

modulo_below : (z : ℤ) → modulo 32 z < 2 ^ 32
modulo_below (pos n) = omega arith
modulo_below (negsuc n) = omega arith

joined : (r : ℕ) → pos (4096 * (r / 4096)) +ℤ (pos (r % 4096) -ℤ pos 2048) ≡ pos r -ℤ pos 2048
joined r = omega (arith, ints)

pub add_up : ConstantsAddUp
add_up z = ap (modulo 32) (joined (rounded z)) ∙ less (rounded z) (modulo 32 z) (modulo_below z) (more z)

pub upper_below : (z : ℤ) → upper z < 2 ^ 20
upper_below z = omega (arith, modulo_below (z +ℤ pos 2048))

pub lower_imm : (z : ℤ) → IsImm12 (lower z)
lower_imm z = (omega (arith, ints), omega (arith, ints))

-- ==== A text writes one number, and one whose digits write none of 64 bits writes none that 32 bits hold.

abbrev WritesNone : List ℕ → Type 0
WritesNone text = (n : ℕ) → IsMagnitude text n → n < 2 ^ 64 → ⊥

-- digits don't begin with a minus
pub no_minus : (digits : List ℕ) (n : ℕ) → IsMagnitude (45 ∷ digits) n → ⊥
no_minus digits n (inl h) = grind (arith, nat_tests)
no_minus digits n (inr (ds, e, h, v)) = let first : 45 ≡ 48 = ap (λ (l : List ℕ). get_or l 0 0) e in omega (arith, first)

within_pos : (z : ℤ) (n : ℕ) → z ≡ pos n → IsInReach z → n < 2 ^ 64
within_pos z n e h = omega (arith, ints)

within_neg : (z : ℤ) (n : ℕ) → z ≡ neg_ℤ (pos n) → IsInReach z → n < 2 ^ 64
within_neg z n e h = omega (arith, ints)

pub none_after_minus : (text digits : List ℕ) → text ≡ codes "-" ++ digits → WritesNone digits → (z : ℤ) → IsNumber text z → IsInReach z → ⊥
none_after_minus text digits e none z (inl (n, h, v)) r = no_minus digits n (subst (λ t. IsMagnitude t n) e h)
none_after_minus text digits e none z (inr (n, ds, f, h, v)) r =
    let same : ds ≡ digits = cc in
    none n (subst (λ t. IsMagnitude t n) same h) (within_neg z n v r)

pub none_plain : (text : List ℕ) → ((digits : List ℕ) → text ≡ codes "-" ++ digits → ⊥) → WritesNone text → (z : ℤ) → IsNumber text z → IsInReach z → ⊥
none_plain text plain none z (inl (n, h, v)) r = none n h (within_pos z n v r)
none_plain text plain none z (inr (n, ds, f, h, v)) r = plain ds f

no_decimal_hex : (text ds : List ℕ) → AllDigits 10 text → text ≡ 48 ∷ 120 ∷ ds → ⊥
no_decimal_hex text ds h e = let p = subst (AllDigits 10) e h in absurd (omega (arith, p.1.0))

magnitude_unique : (text : List ℕ) (m n : ℕ) → IsMagnitude text m → IsMagnitude text n → m ≡ n
magnitude_unique text m n (inl h) (inl k) = h.1 ∙ sym k.1
magnitude_unique text m n (inl h) (inr (ds, e, k, v)) = absurd (no_decimal_hex text ds h.0.1 e)
magnitude_unique text m n (inr (ds, e, k, v)) (inl h) = absurd (no_decimal_hex text ds h.0.1 e)
magnitude_unique text m n (inr (ds, e, k, v)) (inr (es, f, l, w)) = let same : ds ≡ es = cc in v ∙ ap (digits_value 16) same ∙ sym w

-- a token writes one number
pub number_unique : (text : List ℕ) (y z : ℤ) → IsNumber text y → IsNumber text z → y ≡ z
number_unique text y z (inl (m, h, e)) (inl (n, k, f)) = e ∙ ap pos (magnitude_unique text m n h k) ∙ sym f
number_unique text y z (inl (m, h, e)) (inr (n, ds, f, k, g)) = absurd (no_minus ds m (subst (λ t. IsMagnitude t m) f h))
number_unique text y z (inr (m, ds, f, k, g)) (inl (n, h, e)) = absurd (no_minus ds n (subst (λ t. IsMagnitude t n) f h))
number_unique text y z (inr (m, ds, f, k, g)) (inr (n, es, i, l, j)) =
    let same : ds ≡ es = cc in
    g ∙ ap (λ x. neg_ℤ (pos x)) (magnitude_unique es m n (subst (λ t. IsMagnitude t m) same k) l) ∙ sym j

-- a number of any kind is one that 32 bits hold
pub kind_in_reach : (kind : NumberKind) (z : ℤ) → IsNumberOf kind z → IsInReach z
kind_in_reach DataSize z (size, is, h) = (omega (arith, ints, h.at_most), omega (arith, ints, h.at_most))
kind_in_reach _ z h = (omega (arith, ints), omega (arith, ints))
