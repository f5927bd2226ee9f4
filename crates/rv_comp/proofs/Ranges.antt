-- The values of an immediate, and that what a form expands to has its fields in range.
use Rattle.std.proofs.Math.Pow.{pow_mono}
use Rattle.rv_word.specs.Spelling.{IsBetween, IsEven}
use Rattle.std.proofs.lemmas.Int.{ints}
use Rattle.rv_comp.proofs.Prelude.{◌≡◌, ℕ, ◌-◌, ◌*◌, ◌%◌, ◌^◌, ◌≤◌, ap, ◌∙◌, arith, and_mask, bit_and, zero, suc, ◌+◌, ◌/◌, ◌<◌, true, cond, ◌==◌, sym, pos, negsuc, ℤ, eqb-true, and_parts, ltb-true, lt-ltb, le-ltb, cond-true, cond-false, div_below, div-add-mod', nat_lt, is_unsigned, is_signed, not, ◌&&◌, subst, inl, inr, nat_le, IsTrue, w32, cast_unsigned, InRange, IsImm12, IsBranchOffset, IsJumpOffset, allowed, expansion, is_reg, is_short_reg, is_not_zero, SpelledInRange, Form16, CAddi4spn, CLw, CSw, CAddi, CJal, CLi, CAddi16sp, CLui, CSrli, CSrai, CAndi, CSub, CXor, COr, CAnd, CJ, CBeqz, CBnez, CSlli, CLwsp, CJr, CJalr, CMv, CAdd, CEbreak, CSwsp}

-- ==== A shift and a mask take bits out of a number.

pub masked : (n k : ℕ) → k ≤ 15 → bit_and n (1 * 2 ^ k % 65536 - 1) ≡ n % 2 ^ k
masked n k h =
    let high : 2 ^ k ≤ 32768 = pow_mono h in
    let mask : 1 * 2 ^ k % 65536 - 1 ≡ 2 ^ k - 1 = omega arith in
    ap (bit_and n) mask ∙ and_mask n k

-- ==== The values of an immediate, counted.

-- the multiple of m with this number, of those that n bits hold
unfoldable pub signed_at : ℕ → ℕ → ℕ → ℤ
signed_at n m j = cond (nat_lt (m * j) (2 ^ (n - 1))) (pos (m * j)) (negsuc (2 ^ n - suc (m * j)))

pub record At (s : ℕ) (f : ℕ → ℤ) (z : ℤ) : Type 0 where
  pub index : ℕ
  pub below : index < s
  pub is : z ≡ f index

whole : (k m : ℕ) → k % m ≡ 0 → m * (k / m) ≡ k
whole k m h = omega (arith, div-add-mod' k m)

pub at_unsigned : (n m s : ℕ) → 0 < m → s * m ≡ 2 ^ n → (z : ℤ) → is_unsigned n m z ≡ true → At s (λ j. pos (m * j)) z
at_unsigned n m s lt e (pos k) h =
    let p = and_parts (nat_lt k (2 ^ n)) ((k % m) == 0) h in
    let l : k < 2 ^ n = ltb-true k (2 ^ n) p.0 in
    let w : m * (k / m) ≡ k = whole k m (eqb-true _ _ p.1) in
    let l2 : k < s * m = omega arith in
    record { index = k / m; below = div_below k m s lt l2; is = ap pos (sym w) }
at_unsigned n m s lt e (negsuc k) h = cc

positive : (m q k : ℕ) → m * q ≡ suc k → 0 < q
positive m zero k h = omega (arith, h)
positive m (suc q) k h = omega arith

-- what the number stands for
below_half : (n m j k : ℕ) → m * j ≡ k → k < 2 ^ (n - 1) → pos k ≡ signed_at n m j
unfolding signed_at
below_half n m j k e l = let l2 : m * j < 2 ^ (n - 1) = omega arith in ap pos (sym e) ∙ sym (cond-true (nat_lt (m * j) (2 ^ (n - 1))) (pos (m * j)) _ (lt-ltb _ _ l2))

above_half : (n m j k : ℕ) → m * j + suc k ≡ 2 ^ n → k < 2 ^ (n - 1) → 2 ^ (n - 1) + 2 ^ (n - 1) ≡ 2 ^ n → negsuc k ≡ signed_at n m j
unfolding signed_at
above_half n m j k e l two =
    let l2 : 2 ^ (n - 1) ≤ m * j = omega arith in
    let v : k ≡ 2 ^ n - suc (m * j) = omega arith in
    ap negsuc v ∙ sym (cond-false (nat_lt (m * j) (2 ^ (n - 1))) (pos (m * j)) _ (le-ltb _ _ l2))

pub at_signed : (n m s : ℕ) → 0 < m → s * m ≡ 2 ^ n → 2 ^ (n - 1) + 2 ^ (n - 1) ≡ 2 ^ n → (z : ℤ) → is_signed n m z ≡ true → At s (signed_at n m) z
at_signed n m s lt e two (pos k) h =
    let p = and_parts (nat_lt k (2 ^ (n - 1))) ((k % m) == 0) h in
    let l : k < 2 ^ (n - 1) = ltb-true k (2 ^ (n - 1)) p.0 in
    let w : m * (k / m) ≡ k = whole k m (eqb-true _ _ p.1) in
    let l2 : k < s * m = omega arith in
    record { index = k / m; below = div_below k m s lt l2; is = below_half n m (k / m) k w l }
at_signed n m s lt e two (negsuc k) h =
    let p = and_parts (nat_lt k (2 ^ (n - 1))) ((suc k % m) == 0) h in
    let l : k < 2 ^ (n - 1) = ltb-true k (2 ^ (n - 1)) p.0 in
    let w : m * (suc k / m) ≡ suc k = whole (suc k) m (eqb-true _ _ p.1) in
    let l2 : suc k < suc s * m = omega arith in
    let l3 : suc k / m < suc s = div_below (suc k) m (suc s) lt l2 in
    let l4 : 0 < suc k / m = positive m (suc k / m) k w in
    let parts : s ≡ suc k / m + (s - suc k / m) = omega arith in
    let spread : s * m ≡ (suc k / m + (s - suc k / m)) * m = ap (λ (x : ℕ). x * m) parts in
    let left : m * (s - suc k / m) + suc k ≡ 2 ^ n = total m (suc k / m) (s - suc k / m) (suc k) (2 ^ n) (sym spread ∙ e) w in
    let less : s - suc k / m < s = omega arith in
    record { index = s - suc k / m; below = less; is = above_half n m (s - suc k / m) k left l two }
  where
    total : (m q r k n : ℕ) → (q + r) * m ≡ n → m * q ≡ k → m * r + k ≡ n
    total m q r k n e w = omega arith

-- ==== What a form expands to has its fields in range.

long : (r : ℕ) → is_reg r ≡ true → r < 32
long r h = ltb-true r 32 h

short : (r : ℕ) → is_short_reg r ≡ true → r < 32
short r h = let below = ltb-true r 16 (and_parts (nat_le 8 r) (nat_lt r 16) h).1 in omega arith

unsigned12 : (n m : ℕ) → 2 ^ n ≤ 2048 → (i : ℤ) → is_unsigned n m i ≡ true → IsImm12 i
unsigned12 n m few (pos k) h = let below = ltb-true k (2 ^ n) (and_parts (nat_lt k (2 ^ n)) (k % m == 0) h).0 in (omega (arith, ints), omega (arith, ints))
unsigned12 n m few (negsuc k) h = absurd cc

shift : (i : ℤ) → is_unsigned 5 1 i ≡ true → IsBetween (pos 0) (pos 31) i
shift (pos k) h = let below = ltb-true k 32 (and_parts (nat_lt k 32) (k % 1 == 0) h).0 in (omega (arith, ints), omega (arith, ints))
shift (negsuc k) h = absurd cc

signed12 : (n m : ℕ) → 2 ^ (n - 1) ≤ 2048 → (i : ℤ) → is_signed n m i ≡ true → IsImm12 i
signed12 n m few (pos k) h = let below = ltb-true k (2 ^ (n - 1)) (and_parts (nat_lt k (2 ^ (n - 1))) (k % m == 0) h).0 in (omega (arith, ints), omega (arith, ints))
signed12 n m few (negsuc k) h = let below = ltb-true k (2 ^ (n - 1)) (and_parts (nat_lt k (2 ^ (n - 1))) (suc k % m == 0) h).0 in (omega (arith, ints), omega (arith, ints))

even : (n : ℕ) → (i : ℤ) → is_signed n 2 i ≡ true → IsEven i
even n (pos k) h = eqb-true (k % 2) 0 (and_parts (nat_lt k (2 ^ (n - 1))) (k % 2 == 0) h).1
even n (negsuc k) h = let zeros = eqb-true (suc k % 2) 0 (and_parts (nat_lt k (2 ^ (n - 1))) (suc k % 2 == 0) h).1 in omega arith

branch : (i : ℤ) → is_signed 9 2 i ≡ true → IsBranchOffset i
branch i h = let imm = signed12 9 2 (omega arith) i h in let low = imm.0 in let high = imm.1 in ((omega (arith, ints), omega (arith, ints)), even 9 i h)

-- an offset of 12 bits reaches to 2046
step : (i : ℤ) → is_signed 12 2 i ≡ true → IsJumpOffset i
step i h = let imm = signed12 12 2 (omega arith) i h in let low = imm.0 in let high = imm.1 in ((omega (arith, ints), omega (arith, ints)), even 12 i h)

upper : (i : ℤ) → is_signed 18 4096 i ≡ true → cast_unsigned w32 i / 2 ^ 12 < 2 ^ 20
upper (pos k) h = let below = ltb-true k (2 ^ 17) (and_parts (nat_lt k (2 ^ 17)) (k % 4096 == 0) h).0 in omega arith
upper (negsuc k) h = omega arith

two_short : (d t : ℕ) → is_short_reg d && is_short_reg t ≡ true → (d < 32) × (d < 32) × (t < 32)
two_short d t h = let p = and_parts (is_short_reg d) (is_short_reg t) h in (short d p.0, short d p.0, short t p.1)

zero_reg : 0 < 32
zero_reg = omega arith

link_reg : 1 < 32
link_reg = omega arith

stack_reg : 2 < 32
stack_reg = omega arith

zero_imm : IsImm12 (pos 0)
zero_imm = (omega (arith, ints), omega (arith, ints))

short_in_range : (f : Form16) → IsTrue (allowed f) → InRange (expansion f)
unfolding InRange
short_in_range (CAddi4spn d i) h =
    let p = and_parts (is_short_reg d && is_unsigned 10 4 i) (is_not_zero i) h in
    let q = and_parts (is_short_reg d) (is_unsigned 10 4 i) p.0 in
    (short d q.0, stack_reg, unsigned12 10 4 (omega arith) i q.1)
short_in_range (CLw d s i) h =
    let p = and_parts (is_short_reg s && is_short_reg d) (is_unsigned 7 4 i) h in
    let q = and_parts (is_short_reg s) (is_short_reg d) p.0 in
    (short d q.1, short s q.0, unsigned12 7 4 (omega arith) i p.1)
short_in_range (CSw s t i) h =
    let p = and_parts (is_short_reg s && is_short_reg t) (is_unsigned 7 4 i) h in
    let q = and_parts (is_short_reg s) (is_short_reg t) p.0 in
    (short s q.0, short t q.1, unsigned12 7 4 (omega arith) i p.1)
short_in_range (CAddi d i) h =
    let p = and_parts (is_reg d) (is_signed 6 1 i) h in
    (long d p.0, long d p.0, signed12 6 1 (omega arith) i p.1)
short_in_range (CJal i) h = (link_reg, step i h)
short_in_range (CLi d i) h =
    let p = and_parts (is_reg d) (is_signed 6 1 i) h in
    (long d p.0, zero_reg, signed12 6 1 (omega arith) i p.1)
short_in_range (CAddi16sp i) h =
    let p = and_parts (is_signed 10 16 i) (is_not_zero i) h in
    (stack_reg, stack_reg, signed12 10 16 (omega arith) i p.0)
short_in_range (CLui d i) h =
    let p = and_parts (is_reg d && not (d == 2) && is_signed 18 4096 i) (is_not_zero i) h in
    let q = and_parts (is_reg d && not (d == 2)) (is_signed 18 4096 i) p.0 in
    let r = and_parts (is_reg d) (not (d == 2)) q.0 in
    (long d r.0, upper i q.1)
short_in_range (CSrli d i) h =
    let p = and_parts (is_short_reg d) (is_unsigned 5 1 i) h in
    (short d p.0, short d p.0, shift i p.1)
short_in_range (CSrai d i) h =
    let p = and_parts (is_short_reg d) (is_unsigned 5 1 i) h in
    (short d p.0, short d p.0, shift i p.1)
short_in_range (CAndi d i) h =
    let p = and_parts (is_short_reg d) (is_signed 6 1 i) h in
    (short d p.0, short d p.0, signed12 6 1 (omega arith) i p.1)
short_in_range (CSub d t) h = two_short d t h
short_in_range (CXor d t) h = two_short d t h
short_in_range (COr d t) h = two_short d t h
short_in_range (CAnd d t) h = two_short d t h
short_in_range (CJ i) h = (zero_reg, step i h)
short_in_range (CBeqz s i) h =
    let p = and_parts (is_short_reg s) (is_signed 9 2 i) h in
    (short s p.0, zero_reg, branch i p.1)
short_in_range (CBnez s i) h =
    let p = and_parts (is_short_reg s) (is_signed 9 2 i) h in
    (short s p.0, zero_reg, branch i p.1)
short_in_range (CSlli d i) h =
    let p = and_parts (is_reg d) (is_unsigned 5 1 i) h in
    (long d p.0, long d p.0, shift i p.1)
short_in_range (CLwsp d i) h =
    let p = and_parts (is_reg d && nat_lt 0 d) (is_unsigned 8 4 i) h in
    let q = and_parts (is_reg d) (nat_lt 0 d) p.0 in
    (long d q.0, stack_reg, unsigned12 8 4 (omega arith) i p.1)
short_in_range (CJr s) h =
    let p = and_parts (is_reg s) (nat_lt 0 s) h in
    (zero_reg, long s p.0, zero_imm)
short_in_range (CJalr s) h =
    let p = and_parts (is_reg s) (nat_lt 0 s) h in
    (link_reg, long s p.0, zero_imm)
short_in_range (CMv d t) h =
    let p = and_parts (is_reg d && is_reg t) (nat_lt 0 t) h in
    let q = and_parts (is_reg d) (is_reg t) p.0 in
    (long d q.0, zero_reg, long t q.1)
short_in_range (CAdd d t) h =
    let p = and_parts (is_reg d && is_reg t) (nat_lt 0 t) h in
    let q = and_parts (is_reg d) (is_reg t) p.0 in
    (long d q.0, long d q.0, long t q.1)
short_in_range CEbreak h = tt
short_in_range (CSwsp t i) h =
    let p = and_parts (is_reg t) (is_unsigned 8 4 i) h in
    (stack_reg, long t p.0, unsigned12 8 4 (omega arith) i p.1)

pub spelled_in_range : SpelledInRange
spelled_in_range bytes i n (inl s) = let f = s.spelled in subst InRange f.expands (short_in_range f.form f.gives.meets)
spelled_in_range bytes i n (inr s) = s.spelled.0
