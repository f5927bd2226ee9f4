use Rattle.std.proofs.Common.{refl, sym, ◌∙◌, arith, rules}
use Rattle.std.proofs.lemmas.Bool.{false≢true}
use Rattle.sfi_native.proofs.Assigned.{one_more_right, right_at, right_from}
use Rattle.sfi_native.proofs.plan.Plan.is_right.Goals as goal

pub loop-n-preserved : goal.loop-n-preserved
loop-n-preserved c = record {
  each = one_more_right c.args.self.now c.loop-n.n c.loop-n.invariant.each (c.is_right_at.ensures.0 c.if-not-is_right_at.false);
}

pub returns-then-not-is_right_at : goal.returns-then-not-is_right_at
returns-then-not-is_right_at c = (
  λ yes. absurd (false≢true yes),
  λ right. absurd (false≢true (sym c.if-not-is_right_at.true ∙ c.is_right_at.ensures.1 (right_at c.args.self.now right c.loop-n.n))),
)

pub returns : goal.returns
returns c = (
  λ yes. right_from c.args.self.now (search rules) (λ r below. c.loop-n.invariant.each r (omega (arith, below, c.loop-n-test.false))),
  λ right. refl,
)
