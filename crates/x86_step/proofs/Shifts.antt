-- A shift to the right with copies of the sign.
use Rattle.std.proofs.Common.{◌≡◌, ℕ, ◌+◌, ◌-◌, ◌*◌, ◌/◌, ◌%◌, ◌^◌, ◌<◌, ◌≤◌, sym, ap, ◌∙◌, arith, subst}
use Rattle.std.proofs.lemmas.Nat.{div-mul-add, pow-add, pow_pos}
use Rattle.std.proofs.Math.Nat.{add-mul, div-add-mod, div-lt_iff_lt-mul, le-mul_of_pos_right, mod-lt, mul_comm}

-- the complement of a shifted complement, in numbers below w * k
complement : (a w k q r d : ℕ) → a ≡ w * q + r → r < w → k ≡ d + q + 1 → (w * k - 1 - a) / w ≡ d
complement a w k q r d parts small is =
    let whole : w * k ≡ d * w + q * w + w = ap (λ n. w * n) is ∙ mul_comm w (d + q + 1) ∙ add-mul (d + q) 1 w ∙ ap (λ n. n + 1 * w) (add-mul d q w) ∙ omega arith in
    let same : w * q ≡ q * w = mul_comm w q in
    let rest : w * k - 1 - a ≡ d * w + (w - 1 - r) = omega (arith, whole, same, parts, small) in
    ap (λ n. n / w) rest ∙ div-mul-add d w (w - 1 - r) (omega (arith, small))

-- a number below 2 ^ b, shifted by n
pub complement_shifted : (a b n : ℕ) → a < 2 ^ b → n ≤ b → 2 ^ b - 1 - (2 ^ b - 1 - a) / 2 ^ n ≡ a / 2 ^ n + (2 ^ b - 2 ^ (b - n))
complement_shifted a b n below few =
    let w = 2 ^ n in
    let k = 2 ^ (b - n) in
    let q = a / w in
    let some : 0 < w = pow_pos n in
    let sum : n + (b - n) ≡ b = omega (arith, few) in
    let all : 2 ^ b ≡ w * k = ap (λ m. 2 ^ m) (sym sum) ∙ pow-add 2 n (b - n) in
    let fewer : q < k = (div-lt_iff_lt-mul {k = w} {x = a} {y = k} some).1 (subst (λ m. a < m) (all ∙ mul_comm w k) below) in
    let d = k - 1 - q in
    let is : k ≡ d + q + 1 = omega (arith, fewer) in
    let shifted : (w * k - 1 - a) / w ≡ d = complement a w k q (a % w) d (sym (div-add-mod a w)) (mod-lt a some) is in
    let more : k ≤ w * k = subst (λ m. k ≤ m) (mul_comm k w) (le-mul_of_pos_right k some) in
    rw (all, shifted) (omega (arith, is, fewer, more))
