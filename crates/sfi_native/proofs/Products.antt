-- High halves of products with signs.
use Rattle.std.proofs.Common.{◌≡◌, ℕ, zero, suc, ◌+◌, ◌-◌, ◌*◌, ◌/◌, ◌%◌, ◌^◌, ◌<◌, ◌⊎◌, inl, inr, refl, sym, ap, ◌∙◌, arith, ℤ, pos, negsuc}
use Rattle.std.specs.Prelude.{◌*ℤ◌, neg_ℤ}
use Rattle.std.proofs.lemmas.Bool.{cases_lt, le-ltb, lt-ltb}
use Rattle.std.proofs.lemmas.Int.{ints}
use Rattle.std.proofs.Math.Nat.{add-mul, mul_comm}
use Rattle.std.proofs.Math.IntN.{pos-*ℤ-pos, pos-*ℤ-negsuc, negsuc-*ℤ-pos, negsuc-*ℤ-negsuc}
use Rattle.rv_word.specs.Spelling.{modulo}
use Rattle.rv_step.specs.Step.{shifted_right, signed, word}
use Rattle.x86_instr.specs.declared.instr.Width.TheVariants.{Dword, Qword}
use Rattle.x86_step.specs.Step.{low, sign_extended}
use Rattle.sfi_native.proofs.Arithmetic.{low_is}

-- 64 bits that stand for the number as two's complement
abbrev pub StandsFor : ℕ → ℤ → Type 0
StandsFor x z = (z ≡ pos x) ⊎ ((k : ℕ) × (z ≡ negsuc k) × (x + suc k ≡ 2 ^ 64))

pub unsigned_stands : (a : ℕ) → StandsFor a (pos a)
unsigned_stands a = inl refl

pub signed_stands : (a : ℕ) → a < 2 ^ 32 → StandsFor (sign_extended a) (signed a)
signed_stands a small = elim (cases_lt a (2 ^ 31)) [
  | inl plus ↦
      let x : sign_extended a ≡ a = rw (lt-ltb a (2 ^ 31) plus) refl in
      let z : signed a ≡ pos a = omega (arith, ints, plus) in
      inl (z ∙ ap pos (sym x))
  | inr minus ↦
      let x : sign_extended a ≡ a + (2 ^ 64 - 2 ^ 32) = rw (le-ltb a (2 ^ 31) minus) refl in
      let e : 2 ^ 32 - suc a ≡ 2 ^ 32 - 1 - a = omega (arith, small) in
      let z : signed a ≡ negsuc (2 ^ 32 - 1 - a) = rw (le-ltb a (2 ^ 31) minus) (ap negsuc e) in
      inr (2 ^ 32 - 1 - a, z, omega (arith, x, small))
]

split : (x y k w : ℕ) → y + k ≡ w → x * y + x * k ≡ x * w
split x y k w sum =
    let all : (y + k) * x ≡ y * x + k * x = add-mul y k x in
    let e1 : x * y ≡ y * x = mul_comm x y in
    let e2 : x * k ≡ k * x = mul_comm x k in
    let e3 : x * w ≡ (y + k) * x = mul_comm x w ∙ ap (λ v. v * x) (sym sum) in
    omega (arith, all, e1, e2, e3)

negated : (q r x : ℕ) → q + r ≡ x * 2 ^ 64 → q % 2 ^ 64 ≡ modulo 64 (neg_ℤ (pos r))
negated q zero x sum = omega (arith, sum)
negated q (suc r) x sum = omega (arith, sum)

pub product_stands : (x y : ℕ) (z w : ℤ) → StandsFor x z → StandsFor y w → x * y % 2 ^ 64 ≡ modulo 64 (z *ℤ w)
product_stands x y z w (inl a) (inl b) = sym (ap (modulo 64) (ap (λ v. v *ℤ w) a ∙ ap (λ v. pos x *ℤ v) b ∙ pos-*ℤ-pos x y))
product_stands x y z w (inl a) (inr b) =
    negated (x * y) (x * suc b.0) x (split x y (suc b.0) (2 ^ 64) b.2)
    ∙ sym (ap (modulo 64) (ap (λ v. v *ℤ w) a ∙ ap (λ v. pos x *ℤ v) b.1 ∙ pos-*ℤ-negsuc x b.0))
product_stands x y z w (inr a) (inl b) =
    ap (λ v. v % 2 ^ 64) (mul_comm x y)
    ∙ negated (y * x) (suc a.0 * y) y (ap (λ v. y * x + v) (mul_comm (suc a.0) y) ∙ split y x (suc a.0) (2 ^ 64) a.2)
    ∙ sym (ap (modulo 64) (ap (λ v. v *ℤ w) a.1 ∙ ap (λ v. negsuc a.0 *ℤ v) b ∙ negsuc-*ℤ-pos a.0 y))
product_stands x y z w (inr a) (inr b) =
    let m = suc a.0 in
    let n = suc b.0 in
    let e1 : x * y + x * n ≡ x * 2 ^ 64 = split x y n (2 ^ 64) b.2 in
    let e2 : n * x + n * m ≡ n * 2 ^ 64 = split n x m (2 ^ 64) a.2 in
    let e3 : n * x ≡ x * n = mul_comm n x in
    let e4 : n * m ≡ m * n = mul_comm n m in
    let e5 : x * y % 2 ^ 64 ≡ m * n % 2 ^ 64 = omega (arith, e1, e2, e3, e4) in
    e5 ∙ sym (ap (modulo 64) (ap (λ v. v *ℤ w) a.1 ∙ ap (λ v. negsuc a.0 *ℤ v) b.1 ∙ negsuc-*ℤ-negsuc a.0 b.0))

half : (z : ℤ) → modulo 64 z / 2 ^ 32 ≡ word (shifted_right z 32)
half (pos k) = omega arith
half (negsuc k) = omega arith

pub high_is : (x y : ℕ) (z w : ℤ) → StandsFor x z → StandsFor y w → x * y % 2 ^ 64 / 2 ^ 32 ≡ word (shifted_right (z *ℤ w) 32)
high_is x y z w a b = ap (λ v. v / 2 ^ 32) (product_stands x y z w a b) ∙ half (z *ℤ w)

extended_small : (a : ℕ) → a < 2 ^ 32 → sign_extended a < 2 ^ 64
extended_small a small = elim (cases_lt a (2 ^ 31)) [
  | inl plus ↦ rw (lt-ltb a (2 ^ 31) plus) (omega (arith, small))
  | inr minus ↦ rw (le-ltb a (2 ^ 31) minus) (omega (arith, small))
]

-- as registers hold them
pub high_of : (x y : ℕ) (z w : ℤ) → x < 2 ^ 64 → y < 2 ^ 64 → StandsFor x z → StandsFor y w
    → low Qword (low Qword (low Qword x * low Qword y)) / 2 ^ 32 ≡ word (shifted_right (z *ℤ w) 32)
high_of x y z w fx fy a b =
    let lx : low Qword x ≡ x = omega (arith, fx) in
    let ly : low Qword y ≡ y = omega (arith, fy) in
    let once : low Qword (low Qword (x * y)) ≡ x * y % 2 ^ 64 = omega arith in
    rw (lx, ly, once) (high_is x y z w a b)

pub signed_high : (a b : ℕ) → a < 2 ^ 32 → b < 2 ^ 32
    → low Qword (low Qword (low Qword (sign_extended (low Dword a)) * low Qword (sign_extended (low Dword b)))) / 2 ^ 32 ≡ word (shifted_right (signed a *ℤ signed b) 32)
signed_high a b fa fb =
    rw (low_is a fa, low_is b fb) (high_of (sign_extended a) (sign_extended b) (signed a) (signed b) (extended_small a fa) (extended_small b fb) (signed_stands a fa) (signed_stands b fb))

pub mixed_high : (a b : ℕ) → a < 2 ^ 32 → b < 2 ^ 32
    → low Qword (low Qword (low Qword (sign_extended (low Dword a)) * low Qword b)) / 2 ^ 32 ≡ word (shifted_right (signed a *ℤ pos b) 32)
mixed_high a b fa fb =
    rw (low_is a fa) (high_of (sign_extended a) b (signed a) (pos b) (extended_small a fa) (omega (arith, fb)) (signed_stands a fa) (unsigned_stands b))
