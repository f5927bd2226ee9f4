use Rattle.std.proofs.Common.{not, ◌==◌}
use Rattle.sfi_masks.proofs.Vectors.{compared_small, compared_bits}
use Rattle.sfi_masks.proofs.lanes.bits_of.Goals as goal

pub returns-clause-small : goal.returns-clause-small
returns-clause-small c = compared_small (λ a b. not (a == b)) c.args.lanes 0 c.fits-lanes.0

pub returns-clause-bits : goal.returns-clause-bits
returns-clause-bits c = compared_bits (λ a b. not (a == b)) c.args.lanes 0 c.fits-lanes.0
