-- What flags, shifts and products of x86-64 say of numbers of 32 bits, as RISC-V computes on them.
use Rattle.std.proofs.Common.{Bool, true, false, sym, Some, ◌≡◌, ℕ, suc, ◌+◌, ◌-◌, ◌*◌, ◌/◌, ◌%◌, ◌^◌, ◌<◌, ◌≤◌, ◌==◌, ◌⊎◌, true, false, refl, sym, ap, ◌∙◌, arith, pos, negsuc, inl, inr, eqb-true}
use Rattle.std.specs.Prelude.{not, int_lt, ◌-ℤ◌}
use Rattle.std.specs.Int.{int_div_euclid}
use Rattle.std.proofs.lemmas.Bool.{cases_Bool, cases_lt, le-leb, lt-leb, le-ltb}
use Rattle.std.proofs.lemmas.Int.{ints}
use Rattle.std.proofs.lemmas.Nat.{mul-lt}
use Rattle.std.proofs.Math.Nat.{div-le_self}
use Rattle.rv_word.specs.declared.instr.Cond.{Cond}
use Rattle.rv_word.specs.declared.instr.Cond.TheVariants.{Beq, Bne, Blt, Bge, Bltu, Bgeu}
use Rattle.rv_step.specs.Step.{is_taken, shifted_right, signed, word}
use Rattle.x86_instr.specs.declared.instr.Width.TheVariants.{Dword, Qword}
use Rattle.x86_instr.specs.declared.instr.ShiftOp.TheVariants.{Shl, Shr, Sar}
use Rattle.x86_step.specs.declared.machine.Flags.{Flags}
use Rattle.x86_step.specs.Step.{difference, fits, is_met, is_negative, low, same, shift, shifted, signed as signed_of}
use Rattle.sfi_native.specs.Code.{met_by, opposite}
use Rattle.x86_step.proofs.Shifts.{complement_shifted}

pub low_is : (v : ℕ) → v < 2 ^ 32 → low Dword v ≡ v
low_is v small = omega (arith, small)

pub difference_is : (a b : ℕ) → a < 2 ^ 32 → b < 2 ^ 32 → low Dword (a + (2 ^ 32 - b)) ≡ word (pos a -ℤ pos b)
difference_is a b fa fb = grind (arith, ints)

-- the sign isn't the overflow
pub less_is : (a b : ℕ) → a < 2 ^ 32 → b < 2 ^ 32
    → not (same (is_negative Dword (low Dword (a + (2 ^ 32 - b)))) (not (fits Dword (signed_of Dword a -ℤ signed_of Dword b)))) ≡ int_lt (signed a) (signed b)
less_is a b fa fb = grind (arith, ints)

pub equal_is : (a b : ℕ) → a < 2 ^ 32 → b < 2 ^ 32 → (low Dword (a + (2 ^ 32 - b)) == 0) ≡ (a == b)
equal_is a b fa fb = grind arith

-- what the flags of a comparison say
twice : (t : Bool) → not (not t) ≡ t
twice true = refl
twice false = refl

pub met_is : (cond : Cond) (a b : ℕ) → a < 2 ^ 32 → b < 2 ^ 32 → is_met (met_by cond) (difference Dword a b).flags ≡ Some (is_taken cond a b)
met_is Beq a b fa fb = ap Some (equal_is a b fa fb)
met_is Bne a b fa fb = ap (λ t. Some (not t)) (equal_is a b fa fb)
met_is Blt a b fa fb = ap Some (less_is a b fa fb)
met_is Bge a b fa fb = ap (λ t. Some (not t)) (less_is a b fa fb)
met_is Bltu a b fa fb = refl
met_is Bgeu a b fa fb = refl

pub unmet_is : (cond : Cond) (a b : ℕ) → a < 2 ^ 32 → b < 2 ^ 32 → is_met (opposite cond) (difference Dword a b).flags ≡ Some (not (is_taken cond a b))
unmet_is Beq a b fa fb = ap (λ t. Some (not t)) (equal_is a b fa fb)
unmet_is Bne a b fa fb = ap Some (equal_is a b fa fb ∙ sym (twice _))
unmet_is Blt a b fa fb = ap (λ t. Some (not t)) (less_is a b fa fb)
unmet_is Bge a b fa fb = ap Some (less_is a b fa fb ∙ sym (twice _))
unmet_is Bltu a b fa fb = refl
unmet_is Bgeu a b fa fb = ap Some (sym (twice _))

-- ==== Shifts.

left_is : (a k : ℕ) (f : Flags) → a < 2 ^ 32 → (shift Shl Dword a k f).result ≡ (a * 2 ^ (k % 32)) % 2 ^ 32
left_is a k f small = elim (cases_Bool (k % 32 == 0)) [
  | inl e ↦ rw (e, eqb-true (k % 32) 0 e) (omega (arith, small))
  | inr e ↦ rw e refl
]

right_is : (a k : ℕ) (f : Flags) → (shift Shr Dword a k f).result ≡ a / 2 ^ (k % 32)
right_is a k f = elim (cases_Bool (k % 32 == 0)) [
  | inl e ↦ rw (e, eqb-true (k % 32) 0 e) (omega arith)
  | inr e ↦ rw e refl
]

-- copies of the sign
halved_is : (a n : ℕ) → n ≤ 32 → a < 2 ^ 32 → (a < 2 ^ 31) ⊎ (2 ^ 31 ≤ a) → shifted Sar Dword a n ≡ word (int_div_euclid (signed a) (pos (2 ^ n)))
halved_is a n few small (inl plus) =
    let e1 : is_negative Dword a ≡ false = lt-leb (2 ^ 31) a plus in
    let e2 : signed a ≡ pos a = omega (arith, ints, plus) in
    let less : a / 2 ^ n ≤ a = div-le_self a (2 ^ n) in
    let e3 : a / 2 ^ n % 2 ^ 32 ≡ a / 2 ^ n = omega (arith, less, small) in
    rw (e1, e2, e3) refl
halved_is a n few small (inr minus) =
    let k = 2 ^ 32 - 1 - a in
    let e1 : is_negative Dword a ≡ true = le-leb (2 ^ 31) a minus in
    let e : 2 ^ 32 - suc a ≡ k = omega (arith, small) in
    let e2 : signed a ≡ negsuc k = rw (le-ltb a (2 ^ 31) minus) (ap negsuc e) in
    let less : k / 2 ^ n ≤ k = div-le_self k (2 ^ n) in
    let e3 : k / 2 ^ n % 2 ^ 32 ≡ k / 2 ^ n = omega (arith, less, small) in
    let e4 : 2 ^ 32 - 1 - k / 2 ^ n ≡ a / 2 ^ n + (2 ^ 32 - 2 ^ (32 - n)) = complement_shifted a 32 n small few in
    rw (e1, e2, e3) (sym e4)

arithmetic_is : (a k : ℕ) (f : Flags) → a < 2 ^ 32 → (shift Sar Dword a k f).result ≡ word (shifted_right (signed a) (k % 32))
arithmetic_is a k f small =
    let n = k % 32 in
    let few : n ≤ 32 = omega arith in
    let is = halved_is a n few small (cases_lt a (2 ^ 31)) in
    elim (cases_Bool (n == 0)) [
      | inl e ↦
          let none : n ≡ 0 = eqb-true n 0 e in
          let all : a ≡ shifted Sar Dword a 0 = elim (cases_Bool (is_negative Dword a)) [ inl h ↦ rw h (omega arith) | inr h ↦ rw h (omega arith) ] in
          rw e (all ∙ ap (shifted Sar Dword a) (sym none) ∙ is)
      | inr e ↦ rw e is
    ]

pub shl_is : (a k : ℕ) (f : Flags) → a < 2 ^ 32 → (shift Shl Dword a (k % 256) f).result ≡ (a * 2 ^ (k % 32)) % 2 ^ 32
shl_is a k f small = let e : k % 256 % 32 ≡ k % 32 = omega arith in left_is a (k % 256) f small ∙ ap (λ n. (a * 2 ^ n) % 2 ^ 32) e

pub shr_is : (a k : ℕ) (f : Flags) → (shift Shr Dword a (k % 256) f).result ≡ a / 2 ^ (k % 32)
shr_is a k f = let e : k % 256 % 32 ≡ k % 32 = omega arith in right_is a (k % 256) f ∙ ap (λ n. a / 2 ^ n) e

pub sar_is : (a k : ℕ) (f : Flags) → a < 2 ^ 32 → (shift Sar Dword a (k % 256) f).result ≡ word (shifted_right (signed a) (k % 32))
sar_is a k f small = let e : k % 256 % 32 ≡ k % 32 = omega arith in arithmetic_is a (k % 256) f small ∙ ap (λ n. word (shifted_right (signed a) n)) e

-- ==== Products.

pub unsigned_product : (a b : ℕ) → a < 2 ^ 32 → b < 2 ^ 32 → low Qword (low Qword (low Qword a * low Qword b)) / 2 ^ 32 ≡ a * b / 2 ^ 32
unsigned_product a b fa fb =
    let la : low Qword a ≡ a = omega (arith, fa) in
    let lb : low Qword b ≡ b = omega (arith, fb) in
    let small : a * b < 2 ^ 32 * 2 ^ 32 = mul-lt a b (2 ^ 32) (2 ^ 32) fa fb in
    let whole : low Qword (a * b) ≡ a * b = omega (arith, small) in
    rw (la, lb, whole, whole) refl
