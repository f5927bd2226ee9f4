use Rattle.std.proofs.Common.{◌-◌, length, arith}
use Rattle.std.proofs.lemmas.Grind.{common_steps}
use Rattle.rv_mem.proofs.Runs.{below_filled}
use Rattle.rv_mem.proofs.segment.Segment.new.Goals as goal

pub invariant_of-result-clause-fits : goal.invariant_of-result-clause-fits
invariant_of-result-clause-fits c = omega (arith, c.in_ok-resize.ensures.len)

pub invariant_of-result-clause-in_range : goal.invariant_of-result-clause-in_range
invariant_of-result-clause-in_range c =
    below_filled c.args.front.now _ (c.args.size - length c.args.front.now) (grind (arith, common_steps)) (λ k. omega (arith, c.type_inv.front k))
