use Rattle.std.proofs.Common.{◌≡◌, ◌∙◌, inl, inr, arith, refl, subst, slice_get, Some}
use Rattle.std.proofs.lemmas.Bool.{cases_lt}
use Rattle.std.proofs.lemmas.Option.{slice_get_within}
use Rattle.sfi_slots.proofs.slot.is_apart_from_others.Goals as goal

pub returns-then-not-is_apart_at : goal.returns-then-not-is_apart_at
returns-then-not-is_apart_at c = (λ f. absurd cc, λ all. c.if-not-is_apart_at.ensures.1 (all c.loop-i.i))

pub loop-i-preserved : goal.loop-i-preserved
loop-i-preserved c = λ j s below at other. elim (cases_lt j c.loop-i.i) [
  | inl less ↦ c.loop-i.invariant j s less at other
  | inr last ↦
      let e : j ≡ c.loop-i.i = omega (arith, below, last) in
      c.if-not-is_apart_at.ensures.0 refl s (subst (λ k. slice_get c.args.slots.now k ≡ Some s) e at) (λ same. other (e ∙ same))
]

pub returns : goal.returns
returns c = (λ t i s at other. c.loop-i.invariant i s (omega (arith, slice_get_within c.args.slots.now i s at, c.loop-i-test.false)) at other, λ all. refl)
