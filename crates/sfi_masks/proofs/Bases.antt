-- Accesses that are free in words, by their base.
use Rattle.std.proofs.Common.{◌≡◌, ℕ, zero, suc, ◌+◌, ◌*◌, ◌/◌, ◌%◌, ◌<◌, ◌≤◌, Bool, true, false, ◌==◌, ◌&&◌, ◌||◌, min, refl, sym, ap, ◌∙◌, ◌⊎◌, inl, inr, arith, bit_and, bit_or, eqb-true, Some}
use Rattle.std.specs.Prelude.{max, slice_index, if◌then◌else◌}
use Rattle.std.specs.Int.{bit_at}
use Rattle.std.proofs.lemmas.Bool.{and_parts, agree_below, agree_below_at, and_from, eqb-false, ne_eqb}
use Rattle.std.proofs.lemmas.Nat.{and_mask}
use Rattle.std.proofs.lemmas.Nat.Bits.{bit_at-lt, bit_at_and, bit_at_or, bit_at-suc, bit_at-zero, bit_at_lowest}
use Rattle.rv_word.specs.Outlines.{access, outline}
use Rattle.rv_word.specs.declared.access.Access.{Access}
use Rattle.rv_word.specs.declared.instr.Instr.{Instr}
use Rattle.rv_word.specs.declared.instr.Instr.TheVariants.{Load, Store}
use Rattle.sfi_masks.specs.Masks.{is_in, may_be_on_in_words, is_free_by, IsFreeWordBy, IsFreeAccessBy}
use Rattle.sfi_masks.specs.declared.tables.TheConstants.{ON_EVEN}
use Rattle.sfi_masks.specs.private.{on_odd, free_in_words}
use Rattle.sfi_masks.proofs.Fields.{accesses}

-- ---- a bit of a number that isn't 0

none : (n : ℕ) → n ≡ 0 → (n == 0) ≡ true
none n e = ap (λ m. m == 0) e

pub some_bit : (fuel n : ℕ) → n ≤ fuel → (n == 0) ≡ false → (i : ℕ) × (is_in n i ≡ true)
some_bit zero n below some = absurd (let e : n ≡ 0 = omega (arith, below) in let no = sym (none n e) ∙ some in cc)
some_bit (suc fuel) n below some = by (n % 2 == 1) refl (λ le more. some_bit fuel (n / 2) le more)
  where
    by : (b : Bool) → (n % 2 == 1) ≡ b → (n / 2 ≤ fuel → (n / 2 == 0) ≡ false → (i : ℕ) × (is_in (n / 2) i ≡ true)) → (i : ℕ) × (is_in n i ≡ true)
    by true e later = (0, ap (λ m. m == 1) (bit_at_lowest n) ∙ e)
    by false e later =
        let odd = eqb-false (n % 2) 1 e in
        let one = eqb-false n 0 some in
        let rest = later (omega (arith, below, one)) (ne_eqb (n / 2) 0 (λ z. one (let half : n ≡ 0 = omega (arith, z, odd) in half))) in
        (suc rest.0, ap (λ m. m == 1) (bit_at-suc n rest.0) ∙ rest.1)

-- ---- a bit of each operation

by_bit : (P : ℕ → Type 0) → P 0 → P 1 → (x : ℕ) → x < 2 → P x
by_bit P p q zero h = p
by_bit P p q (suc zero) h = q
by_bit P p q (suc (suc r)) h = let no : ⊥ = omega arith in absurd no

by_bits : (P : ℕ → ℕ → Type 0) → P 0 0 → P 0 1 → P 1 0 → P 1 1 → (a b i : ℕ) → P (bit_at a i) (bit_at b i)
by_bits P p q r s a b i =
    by_bit (λ x. P x (bit_at b i)) (by_bit (P 0) p q (bit_at b i) (bit_at-lt b i)) (by_bit (P 1) r s (bit_at b i) (bit_at-lt b i)) (bit_at a i) (bit_at-lt a i)

in_and : (a b i : ℕ) → is_in (bit_and a b) i ≡ (is_in a i && is_in b i)
in_and a b i = ap (λ n. n == 1) (bit_at_and a b i) ∙ by_bits (λ x y. (min x y == 1) ≡ ((x == 1) && (y == 1))) refl refl refl refl a b i

in_or : (a b i : ℕ) → is_in (bit_or a b) i ≡ (is_in a i || is_in b i)
in_or a b i = ap (λ n. n == 1) (bit_at_or a b i) ∙ by_bits (λ x y. (max x y == 1) ≡ ((x == 1) || (y == 1))) refl refl refl refl a b i

in_some : (n i : ℕ) → is_in n i ≡ true → (n == 0) ≡ false
in_some n i h = ne_eqb n 0 (λ e. let no = sym h ∙ ap (λ m. is_in m i) e ∙ ap (λ m. m == 1) (bit_at-zero i) in absurd cc)

-- ---- classes of FOLLOWED that are free, and the accesses

in_free : (a f free k i : ℕ) → is_in (bit_and (bit_or a (bit_and f free)) k) i ≡ ((is_in a i || (is_in f i && is_in free i)) && is_in k i)
in_free a f free k i = in_and (bit_or a (bit_and f free)) k i ∙ ap (λ b. b && is_in k i) (in_or a (bit_and f free) i ∙ ap (λ b. is_in a i || b) (in_and f free i))

in_access : (f k i : ℕ) → is_in (bit_and (bit_and f 192) k) i ≡ ((is_in f i && is_in 192 i) && is_in k i)
in_access f k i = in_and (bit_and f 192) k i ∙ ap (λ b. b && is_in k i) (in_and f 192 i)

either : (a f x y k : Bool) → ((a || (f && (x || y))) && k) ≡ true → (((a || (f && x)) && k) ≡ true) ⊎ (((f && y) && k) ≡ true)
either true f x y true h = inl refl
either false true true y true h = inl refl
either false true false true true h = inr refl
either a f x y k h = absurd cc

pub split : (a f k : ℕ) → (bit_and (bit_or a (bit_and f 255)) k == 0) ≡ false
    → ((bit_and (bit_or a (bit_and f 63)) k == 0) ≡ false) ⊎ ((bit_and (bit_and f 192) k == 0) ≡ false)
split a f k some =
    let whole = bit_and (bit_or a (bit_and f 255)) k in
    let bit = some_bit whole whole (omega arith) some in
    let i = bit.0 in
    let all : ((is_in a i || (is_in f i && (is_in 63 i || is_in 192 i))) && is_in k i) ≡ true =
    ap (λ b. (is_in a i || (is_in f i && b)) && is_in k i) (sym (in_or 63 192 i)) ∙ sym (in_free a f 255 k i) ∙ bit.1 in
    elim (either (is_in a i) (is_in f i) (is_in 63 i) (is_in 192 i) (is_in k i) all) [
      | inl free ↦ inl (in_some (bit_and (bit_or a (bit_and f 63)) k) i (in_free a f 63 k i ∙ free))
      | inr access ↦ inr (in_some (bit_and (bit_and f 192) k) i (in_access f k i ∙ access))
    ]

-- ---- the base

free_at : Bool → ℕ → ℕ → ℕ
free_at single high n = if bit_and high 128 == 128 then slice_index (on_odd single) n else slice_index ON_EVEN n

base_cell : Bool → ℕ → ℕ → Bool
base_cell single high n = (free_at single high n == 63) || ((free_at single high n == 255) && may_be_on_in_words single (high / 128 + 2 * n))

all_bases : (single : Bool) → agree_below (λ high. agree_below (λ n. base_cell single high n) (λ n. true) 16) (λ high. true) 256 ≡ true
unfolding base_cell free_at
all_bases true = refl
all_bases false = refl

first_or_second : (p q : Bool) → (p || q) ≡ true → (p ≡ true) ⊎ (q ≡ true)
first_or_second true q h = inl refl
first_or_second false q h = inr h

-- no access is free, or each that is on the base
pub base_told : (single : Bool) (high low2 : ℕ) → high < 256 → (free_in_words single high low2 ≡ 63) ⊎ ((free_in_words single high low2 ≡ 255) × (may_be_on_in_words single (high / 128 + 2 * (low2 % 16)) ≡ true))
unfolding free_in_words base_cell free_at
base_told single high low2 h =
    let same : free_at single high (bit_and low2 15) ≡ free_at single high (low2 % 16) = ap (free_at single high) (and_mask low2 4) in
    let cell = agree_below_at (λ n. base_cell single high n) (λ n. true) 16 (low2 % 16) (agree_below_at (λ m. agree_below (λ n. base_cell single m n) (λ n. true) 16) (λ m. true) 256 high (all_bases single) h) (omega arith) in
    elim (first_or_second (free_at single high (low2 % 16) == 63) ((free_at single high (low2 % 16) == 255) && may_be_on_in_words single (high / 128 + 2 * (low2 % 16))) cell) [
      | inl few ↦ inl (same ∙ eqb-true _ _ few)
      | inr all ↦ (let both = and_parts (free_at single high (low2 % 16) == 255) (may_be_on_in_words single (high / 128 + 2 * (low2 % 16))) all in inr (same ∙ eqb-true _ _ both.0, both.1))
    ]

-- ---- an access on such a base

pub access_free : (may on : ℕ → Bool) (word : ℕ) → (f : IsFreeAccessBy may word) → on f.access.base ≡ true → IsFreeWordBy may on word
access_free may on word f near = record { instr = f.is.instr; spelled = f.is.spelled; free = by f.is.instr f.access f.is.accesses f.free near }
  where
    by : (i : Instr) (a : Access) → access i ≡ Some a → may a.written ≡ true → on a.base ≡ true → is_free_by may on (outline i) ≡ true
    by (Load kind rd rs1 imm) a e m o =
        let w : a.written ≡ rd = cc in
        let b : a.base ≡ rs1 = cc in
        and_from (may rd) (on rs1) (ap may (sym w) ∙ m) (ap on (sym b) ∙ o)
    by (Store width rs1 rs2 imm) a e m o = let b : a.base ≡ rs1 = cc in ap on (sym b) ∙ o
    by i a e m o = absurd cc

-- it has 32 bits
pub access_long : (low funct3 : ℕ) → accesses (low % 128) funct3 ≡ true → low % 4 ≡ 3
unfolding accesses
access_long low funct3 h = by (low % 128 == 35) (low % 128 == 3) _ _ refl refl h
  where
    of : (n : ℕ) → n % 4 ≡ 3 → n < 128 → (low % 128 == n) ≡ true → low % 4 ≡ 3
    of n m lt e = let same = eqb-true (low % 128) n e in omega (arith, same, m, lt)

    by : (a b s l : Bool) → (low % 128 == 35) ≡ a → (low % 128 == 3) ≡ b → (elim a [ true ↦ s | false ↦ elim b [ true ↦ l | false ↦ false ] ]) ≡ true → low % 4 ≡ 3
    by true b s l p q h = of 35 refl (omega arith) p
    by false true s l p q h = of 3 refl (omega arith) q
    by false false s l p q h = absurd cc
