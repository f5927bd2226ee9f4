use Rattle.std.proofs.Common.{refl, arith}
use Rattle.sfi_image.proofs.Tests.{apart_more}
use Rattle.sfi_image.proofs.span.is_apart_from_all.Goals as goal

pub returns-then-not-are_apart : goal.returns-then-not-are_apart
returns-then-not-are_apart c = (λ f. absurd cc, λ all. c.if-not-are_apart.ensures.1 (all _ _ c.loop-other-test.true))

pub loop-other-preserved : goal.loop-other-preserved
loop-other-preserved c = apart_more _ _ _ _ c.loop-other-test.true c.loop-other.invariant (c.if-not-are_apart.ensures.0 refl)

pub returns : goal.returns
returns c = (λ f k d lt. c.loop-other.invariant k d (omega arith), λ all. refl)
