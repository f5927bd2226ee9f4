-- Registers of the processor in which the sandbox's lie.
use Rattle.std.proofs.Common.{◌≡◌, ℕ, zero, suc, ◌+◌, ◌*◌, ◌<◌, ◌≤◌, ◌==◌, ◌⊎◌, if◌then◌else◌, inl, inr, true, Option, Some, None, refl, sym, ap, ◌∙◌, subst, arith}
use Rattle.std.specs.Prelude.{get_or, replicate, length}
use Rattle.std.proofs.lemmas.Bool.{cases_Bool, cases_eq, cases_lt, eq-eqb, false≢true}
use Rattle.std.proofs.lemmas.List.{get_or-replicate, get_or_past, length-replicate}
use Rattle.x86_instr.specs.declared.operand.Register.{Register}
use Rattle.x86_instr.specs.declared.operand.Register.TheVariants.{Rax, Rcx, Rdx, Rbx, Rsp, Rbp, Rsi, Rdi, R8, R9, R10, R11, R12, R13, R14, R15}
use Rattle.x86_instr.specs.Spelling.{number}
use Rattle.x86_step.specs.State.{Core, number_at, updated}
use Rattle.sfi_native.specs.declared.layout.Layout.{Layout}
use Rattle.sfi_native.specs.declared.plan.Plan.{Plan}
use Rattle.sfi_native.specs.Layout.{Holds}
use Rattle.sfi_native.specs.Registers.{IsAssigned, IsRightPlan, assigned, is_assignable, is_fixed}
use Rattle.sfi_native.specs.Code.{register_or}
use Rattle.sfi_native.specs.private.{IsRightAt}
use Rattle.sfi_native.proofs.Kept.{Kept, updated_other}

-- ==== Numbers of registers.

abbrev of_number : ℕ → Register
of_number k =
    if k == 0 then Rax else if k == 1 then Rcx else if k == 2 then Rdx else if k == 3 then Rbx
    else if k == 4 then Rsp else if k == 5 then Rbp else if k == 6 then Rsi else if k == 7 then Rdi
    else if k == 8 then R8 else if k == 9 then R9 else if k == 10 then R10 else if k == 11 then R11
    else if k == 12 then R12 else if k == 13 then R13 else if k == 14 then R14 else R15

numbered : (q : Register) → of_number (number q) ≡ q
numbered Rax = refl
numbered Rcx = refl
numbered Rdx = refl
numbered Rbx = refl
numbered Rsp = refl
numbered Rbp = refl
numbered Rsi = refl
numbered Rdi = refl
numbered R8 = refl
numbered R9 = refl
numbered R10 = refl
numbered R11 = refl
numbered R12 = refl
numbered R13 = refl
numbered R14 = refl
numbered R15 = refl

-- no two registers have one number
pub same_register : (q k : Register) → number q ≡ number k → q ≡ k
same_register q k same = sym (numbered q) ∙ ap of_number same ∙ numbered k

-- none of those that code takes for itself
pub record Free (k : ℕ) : Type 0 where
  pub above : 2 < k
  pub below : k < 14
  pub no_frame : k ≡ 4 → ⊥

assignable_free : (q : Register) → is_assignable q ≡ true → Free (number q)
assignable_free Rbx is = record { above = omega arith; below = omega arith; no_frame = λ e. omega (arith, e) }
assignable_free Rbp is = record { above = omega arith; below = omega arith; no_frame = λ e. omega (arith, e) }
assignable_free Rsi is = record { above = omega arith; below = omega arith; no_frame = λ e. omega (arith, e) }
assignable_free Rdi is = record { above = omega arith; below = omega arith; no_frame = λ e. omega (arith, e) }
assignable_free R8 is = record { above = omega arith; below = omega arith; no_frame = λ e. omega (arith, e) }
assignable_free R9 is = record { above = omega arith; below = omega arith; no_frame = λ e. omega (arith, e) }
assignable_free R10 is = record { above = omega arith; below = omega arith; no_frame = λ e. omega (arith, e) }
assignable_free R11 is = record { above = omega arith; below = omega arith; no_frame = λ e. omega (arith, e) }
assignable_free R12 is = record { above = omega arith; below = omega arith; no_frame = λ e. omega (arith, e) }
assignable_free R13 is = record { above = omega arith; below = omega arith; no_frame = λ e. omega (arith, e) }
assignable_free q is = absurd (false≢true is)

-- ==== Values of the sandbox's registers in the processor's.

pub updated_same : (f : ℕ → ℕ) (r v : ℕ) → updated f r v r ≡ v
updated_same f r v = rw (eq-eqb r r refl) refl

abbrev pub put_in : Option Register → ℕ → (ℕ → ℕ) → ℕ → ℕ
put_in (Some q) v f = updated f (number q) v
put_in None v f = f

passes : (o : Option Register) (v : ℕ) (f : ℕ → ℕ) (k : ℕ) → ((q : Register) → o ≡ Some q → k ≡ number q → ⊥) → put_in o v f k ≡ f k
passes None v f k apart = refl
passes (Some q) v f k apart = updated_other f (number q) v k (apart q refl)

-- the first n of the sandbox's registers, where they lie in the processor's
abbrev pub with_values : Plan → (ℕ → ℕ) → ℕ → (ℕ → ℕ) → ℕ → ℕ
with_values plan values zero f = f
with_values plan values (suc n) f = put_in (assigned plan n) (values n) (with_values plan values n f)

module _ (plan : Plan) (right : IsRightPlan plan) where
  pub free : (r : ℕ) (q : Register) → assigned plan r ≡ Some q → Free (number q)
  free r q is = assignable_free q (right.assignable r q is)

  -- what code takes for itself
  pub not_assigned : (k : ℕ) → (k < 3) ⊎ ((13 < k) ⊎ (k ≡ 4)) → IsAssigned plan k → ⊥
  not_assigned k (inl low) (r, q, is, same) = let f = free r q is in omega (arith, low, f.above, same)
  not_assigned k (inr (inl high)) (r, q, is, same) = let f = free r q is in omega (arith, high, f.below, same)
  not_assigned k (inr (inr frame)) (r, q, is, same) = let f = free r q is in f.no_frame (same ∙ frame)

  -- where a register is read from, or a result is computed
  pub not_frame : (r : ℕ) (o : Option Register) → assigned plan r ≡ o → (x : Register) → number x ≤ 2 → number (register_or o x) ≡ 4 → ⊥
  not_frame r None own x low same = omega (arith, low, same)
  not_frame r (Some q) own x low same = (free r q own).no_frame same

  pub not_free : (r : ℕ) (o : Option Register) → assigned plan r ≡ o → (x : Register) (k : ℕ) → k ≤ 2 → (number x ≡ k → ⊥) → number (register_or o x) ≡ k → ⊥
  not_free r None own x k low other same = other same
  not_free r (Some q) own x k low other same = omega (arith, low, same, (free r q own).above)

  pub not_left : (r : ℕ) (o : Option Register) → assigned plan r ≡ o → (x : Register) → number x ≤ 2 → number (register_or o x) ≡ 14 → ⊥
  not_left r None own x low same = omega (arith, low, same)
  not_left r (Some q) own x low same = omega (arith, same, (free r q own).below)

  module _ (values : ℕ → ℕ) (f : ℕ → ℕ) where
    pub other_register : (n k : ℕ) → (IsAssigned plan k → ⊥) → with_values plan values n f k ≡ f k
    other_register zero k none = refl
    other_register (suc n) k none =
        passes (assigned plan n) (values n) (with_values plan values n f) k (λ q is same. none (n, q, is, sym same)) ∙ other_register n k none

    pub has_value : (n r : ℕ) (q : Register) → r < n → assigned plan r ≡ Some q → with_values plan values n f (number q) ≡ values r
    has_value zero r q below is = absurd (omega (arith, below))
    has_value (suc n) r q below is = elim (cases_eq r n) [
      | inl same ↦
          ap (λ o. put_in o (values n) (with_values plan values n f) (number q)) (ap (assigned plan) (sym same) ∙ is)
          ∙ updated_same (with_values plan values n f) (number q) (values n) ∙ ap values (sym same)
      | inr other ↦
          passes (assigned plan n) (values n) (with_values plan values n f) (number q)
          (λ k own same. other (right.apart r n q is (own ∙ ap Some (sym (same_register q k same)))))
          ∙ has_value n r q (omega (arith, below, other)) is
    ]

-- ==== Where a value lies.

-- it stays where both may be
pub holds_on : (l : Layout) (c d : Core) (r v : ℕ) (o : Option Register)
    → (o ≡ None → number_at d.memory 4 (l.frame + 4 * r) ≡ number_at c.memory 4 (l.frame + 4 * r))
    → ((q : Register) → o ≡ Some q → d.registers (number q) ≡ c.registers (number q)) → Holds l c r o v → Holds l d r o v
holds_on l c d r v None memory own has = memory refl ∙ has
holds_on l c d r v (Some q) memory own has = own q refl ∙ has

-- free registers may have anything
pub holds_kept : (l : Layout) → IsRightPlan l.plan → (c d : Core) (r v : ℕ) → Kept c d → Holds l c r (assigned l.plan r) v → Holds l d r (assigned l.plan r) v
holds_kept l right c d r v k has =
    holds_on l c d r v (assigned l.plan r) (λ e. ap (λ m. number_at m 4 (l.frame + 4 * r)) k.memory)
    (λ q is. k.registers (number q) (free l.plan right r q is).above) has

-- ==== The test of a plan.

abbrev nothing : Option Register
nothing = None

pub none_assigned : (r : ℕ) → get_or (replicate 32 nothing) r nothing ≡ nothing
none_assigned r = elim (cases_lt r 32) [
  | inl below ↦ get_or-replicate 32 r nothing nothing below
  | inr past ↦ get_or_past (replicate 32 nothing) r nothing (omega (arith, past, length-replicate 32 nothing))
]

pub none_count : length (replicate 32 nothing) ≡ 32
none_count = length-replicate 32 nothing

pub none_right : (plan : Plan) → length plan.assigned ≡ 32 → ((r : ℕ) → assigned plan r ≡ None) → IsRightPlan plan
none_right plan count none = record {
  count = count;
  in_frame = λ r held. none r;
  assignable = λ r q own. let clash : None ≡ Some q = sym (none r) ∙ own in cc;
  apart = λ r s q one other. let clash : None ≡ Some q = sym (none r) ∙ one in cc;
}

pub none_more : (plan : Plan) (n : ℕ) (q : Register) → ((r : ℕ) → r < n → assigned plan r ≡ Some q → ⊥) → (assigned plan n ≡ Some q → ⊥)
    → (r : ℕ) → r < n + 1 → assigned plan r ≡ Some q → ⊥
none_more plan n q first last r below own = elim (cases_eq r n) [
  | inl same ↦ last (ap (assigned plan) (sym same) ∙ own)
  | inr other ↦ first r (omega (arith, below, other)) own
]

module _ (plan : Plan) where
  pub right_at : IsRightPlan plan → (n : ℕ) → IsRightAt plan n
  right_at right n q own = (
    right.assignable n q own,
    elim (cases_Bool (is_fixed plan.format n)) [
      | inl held ↦ let clash : None ≡ Some q = sym (right.in_frame n held) ∙ own in cc
      | inr free ↦ free
    ],
    λ r before other. omega (arith, before, right.apart r n q other own),
  )

  pub one_more_right : (n : ℕ) → ((r : ℕ) → r < n → IsRightAt plan r) → IsRightAt plan n → (r : ℕ) → r < n + 1 → IsRightAt plan r
  one_more_right n first last r below = elim (cases_eq r n) [
    | inl same ↦ subst (λ k. IsRightAt plan k) (sym same) last
    | inr other ↦ first r (omega (arith, below, other))
  ]

  module _ (count : length plan.assigned ≡ 32) (each : (r : ℕ) → r < 32 → IsRightAt plan r) where
    within : (r : ℕ) (q : Register) → assigned plan r ≡ Some q → r < 32
    within r q own = elim (cases_lt r 32) [
      | inl below ↦ below
      | inr past ↦ let clash : None ≡ Some q = sym (get_or_past plan.assigned r None (omega (arith, past, count))) ∙ own in cc
    ]

    in_frame : (r : ℕ) → is_fixed plan.format r ≡ true → (o : Option Register) → assigned plan r ≡ o → o ≡ None
    in_frame r held None own = refl
    in_frame r held (Some q) own = absurd (false≢true (sym (each r (within r q own) q own).1 ∙ held))

    pub right_from : IsRightPlan plan
    right_from = record {
      count = count;
      in_frame = λ r held. in_frame r held (assigned plan r) refl;
      assignable = λ r q own. (each r (within r q own) q own).0;
      apart = λ r s q one other. elim (cases_lt r s) [
        | inl before ↦ absurd ((each s (within s q other) q other).2 r before one)
        | inr from ↦ elim (cases_lt s r) [
          | inl after ↦ absurd ((each r (within r q one) q one).2 s after other)
          | inr to ↦ omega (arith, from, to)
        ]
      ];
    }
