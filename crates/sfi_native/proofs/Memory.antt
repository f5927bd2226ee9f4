-- Numbers of bytes, written and read.
use Rattle.std.proofs.Common.{◌≡◌, ℕ, zero, suc, ◌+◌, ◌-◌, ◌*◌, ◌/◌, ◌%◌, ◌^◌, ◌<◌, ◌≤◌, ◌⊎◌, inl, inr, Bool, true, false, Option, Some, refl, sym, ap, ◌∙◌, subst, arith, nat_lt}
use Rattle.std.specs.Prelude.{Ok, nat_le}
use Rattle.std.proofs.lemmas.Bool.{cases_Bool, le-leb, lt-ltb, le-ltb, leb-true}
use Rattle.std.proofs.Math.Nat.{pow-suc, div-div-eq-div-mul}
use Rattle.x86_step.specs.State.{Core, may_write, number_at, with_memory, written}
use Rattle.x86_step.specs.Step.{loaded, stored}

module _ (m : ℕ → Option ℕ) (n at v : ℕ) where
  -- a byte that was written
  pub written_here : (k : ℕ) → k < n → written m n at v (at + k) ≡ Some (v / 256 ^ k % 256)
  written_here k small =
      let low : nat_le at (at + k) ≡ true = le-leb at (at + k) (omega arith) in
      let high : nat_lt (at + k) (at + n) ≡ true = lt-ltb (at + k) (at + n) (omega (arith, small)) in
      let place : at + k - at ≡ k = omega arith in
      rw (low, high, place) refl

  -- and one that wasn't
  pub written_elsewhere : (q : ℕ) → (q < at) ⊎ (at + n ≤ q) → written m n at v q ≡ m q
  written_elsewhere q (inl below) = elim (cases_Bool (nat_le at q)) [
    | inl e ↦ absurd (omega (arith, below, leb-true at q e))
    | inr e ↦ rw e refl
  ]
  written_elsewhere q (inr above) =
      let high : nat_lt q (at + n) ≡ false = le-ltb q (at + n) above in
      elim (cases_Bool (nat_le at q)) [
        | inl e ↦ rw (e, high) refl
        | inr e ↦ rw e refl
      ]

  pub number_elsewhere : (j b : ℕ) → (b + j ≤ at) ⊎ (at + n ≤ b) → number_at (written m n at v) j b ≡ number_at m j b
  number_elsewhere zero b apart = refl
  number_elsewhere (suc j) b apart =
      let here : written m n at v b ≡ m b = written_elsewhere b (elim apart [ inl h ↦ inl (omega (arith, h)) | inr h ↦ inr h ]) in
      let rest = number_elsewhere j (b + 1) (elim apart [ inl h ↦ inl (omega (arith, h)) | inr h ↦ inr (omega (arith, h)) ]) in
      rw (here, rest) refl

-- a number's four bytes make it
pub number_of_bytes : (m : ℕ → Option ℕ) (at v : ℕ) → v < 2 ^ 32 → ((j : ℕ) → j < 4 → m (at + j) ≡ Some (v / 256 ^ j % 256)) → number_at m 4 at ≡ Some v
number_of_bytes m at v fits each =
    let z : at ≡ at + 0 = omega arith in
    let one : at + 1 + 1 ≡ at + 2 = omega arith in
    let two : at + 1 + 1 + 1 ≡ at + 3 = omega arith in
    let b0 : m at ≡ Some (v % 256) = ap m z ∙ each 0 (omega arith) ∙ ap Some (omega arith) in
    let b1 : m (at + 1) ≡ Some (v / 256 % 256) = each 1 (omega arith) ∙ ap Some (omega arith) in
    let b2 : m (at + 1 + 1) ≡ Some (v / 65536 % 256) = ap m one ∙ each 2 (omega arith) ∙ ap Some (omega arith) in
    let b3 : m (at + 1 + 1 + 1) ≡ Some (v / 16777216 % 256) = ap m two ∙ each 3 (omega arith) ∙ ap Some (omega arith) in
    let sum : v % 256 + 256 * (v / 256 % 256 + 256 * (v / 65536 % 256 + 256 * (v / 16777216 % 256 + 256 * 0))) ≡ v = omega (arith, fits) in
    rw (b0, b1, b2, b3) (ap Some sum)

-- and any other number its bytes
pub long_number_of_bytes : (m : ℕ → Option ℕ) (n at v : ℕ) → v < 256 ^ n → ((j : ℕ) → j < n → m (at + j) ≡ Some (v / 256 ^ j % 256)) → number_at m n at ≡ Some v
long_number_of_bytes m zero at v fits each = ap Some (omega (arith, fits))
long_number_of_bytes m (suc n) at v fits each =
    let z : at ≡ at + 0 = omega arith in
    let here : m at ≡ Some (v % 256) = ap m z ∙ each 0 (omega arith) ∙ ap Some (omega arith) in
    let power : 256 ^ suc n ≡ 256 ^ n * 256 = pow-suc 256 n in
    let rest : number_at m n (at + 1) ≡ Some (v / 256) = long_number_of_bytes m n (at + 1) (v / 256) (omega (arith, power, fits)) (λ j small.
    let e : at + suc j ≡ at + 1 + j = omega arith in
    let factors : 256 ^ suc j ≡ 256 * 256 ^ j = pow-suc 256 j ∙ omega arith in
    let byte : v / 256 ^ suc j % 256 ≡ v / 256 / 256 ^ j % 256 = ap (λ q. q % 256) (ap (λ x. v / x) factors ∙ sym (div-div-eq-div-mul v 256 (256 ^ j))) in
    subst (λ a. m a ≡ Some (v / 256 / 256 ^ j % 256)) e (each (suc j) (omega (arith, small)) ∙ ap Some byte)) in
    let sum : v % 256 + 256 * (v / 256) ≡ v = omega arith in
    rw (here, rest) (ap Some sum)

-- four bytes that were written
pub number_written : (m : ℕ → Option ℕ) (at v : ℕ) → v < 2 ^ 32 → number_at (written m 4 at v) 4 at ≡ Some v
number_written m at v fits = number_of_bytes (written m 4 at v) at v fits (written_here m 4 at v)

pub load_there : (c : Core) (n at v : ℕ) → at + n ≤ 2 ^ 64 → number_at c.memory n at ≡ Some v → loaded c n at ≡ Ok v
load_there c n at v fits is = rw (le-leb (at + n) (2 ^ 64) fits, is) refl

pub store_there : (c : Core) (n at old v : ℕ) → at + n ≤ 2 ^ 64 → number_at c.memory n at ≡ Some old → may_write c.writable n at ≡ true
    → stored c n at v ≡ Ok (with_memory c (written c.memory n at v))
store_there c n at old v fits is can = rw (load_there c n at old fits is, can) refl

-- bytes of which each may be written
pub may_write_each : (w : ℕ → Bool) (n at : ℕ) → ((k : ℕ) → k < n → w (at + k) ≡ true) → may_write w n at ≡ true
may_write_each w zero at each = refl
may_write_each w (suc n) at each =
    let z : at + 0 ≡ at = omega arith in
    let here : w at ≡ true = subst (λ a. w a ≡ true) z (each 0 (omega arith)) in
    let rest = may_write_each w n (at + 1) (λ k small. let next : at + suc k ≡ at + 1 + k = omega arith in subst (λ a. w a ≡ true) next (each (suc k) (omega (arith, small)))) in
    rw (here, rest) refl
