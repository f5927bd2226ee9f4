use Rattle.std.proofs.Common.{◌∙◌}
use Rattle.rv_comp.proofs.Exact.{outlined_only}
use Rattle.rv_comp.proofs.decode.outline.outline16.Goals as goal

pub returns-clause-only : goal.returns-clause-only
returns-clause-only c = λ i is. c.outline_halfword.ensures ∙ outlined_only c.args.h c.ranges.h.fits i is
