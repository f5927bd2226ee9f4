-- What holds or does not.
use Rattle.sfi_text.proofs.Prelude.{◌≡◌, ℕ, ◌≤◌, Bool, true, false, List, ◌⊎◌, inl, inr, refl, sym, arith, bytes_eq, cases_lt, false≢true, bytes_eq-Decides}

abbrev pub Decided : Type 0 → Type 0
Decided P = P ⊎ (P → ⊥)

pub decided_both : {P Q : Type 0} → Decided P → Decided Q → Decided (P × Q)
decided_both (inl p) (inl q) = inl (p, q)
decided_both (inl p) (inr q) = inr (λ both. q both.1)
decided_both (inr p) q = inr (λ both. p both.0)

pub decided_le : (a b : ℕ) → Decided (a ≤ b)
decided_le a b = elim (cases_lt b a) [ inl more ↦ inr (λ h. omega arith) | inr le ↦ inl le ]

pub decided_bit : (b c : Bool) → Decided (b ≡ c)
decided_bit true true = inl refl
decided_bit true false = inr (λ e. false≢true (sym e))
decided_bit false true = inr (λ e. false≢true e)
decided_bit false false = inl refl

pub decided_same : (xs ys : List ℕ) → Decided (xs ≡ ys)
decided_same xs ys =
    elim (decided_bit (bytes_eq xs ys) true) [
      | inl is ↦ inl ((bytes_eq-Decides xs ys).0 is)
      | inr not ↦ inr (λ e. not ((bytes_eq-Decides xs ys).1 e))
    ]
