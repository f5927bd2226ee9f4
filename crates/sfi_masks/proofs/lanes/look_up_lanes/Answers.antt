use Rattle.sfi_masks.proofs.Vectors.{may_swizzle, looked_up}
use Rattle.sfi_masks.proofs.lanes.look_up_lanes.Goals as goal

pub swizzle : goal.swizzle
swizzle c = may_swizzle c.args.lanes c.fits-lanes.0 c.requires

pub returns : goal.returns
returns c = looked_up c.args.table c.args.lanes c.fits-lanes.0 c.requires
