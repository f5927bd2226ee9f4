use Rattle.sfi_masks.proofs.Singles.{are_single_masks}
use Rattle.sfi_masks.proofs.masks.single_masks_of.Goals as goal

pub returns : goal.returns
returns c =
    are_single_masks c.args.block.now c.fits-block _ _ _ _ _
    c.single_masks_of_quarter-first.ensures.seen c.single_masks_of_quarter-second.ensures.seen c.single_masks_of_quarter-third.ensures.seen c.single_masks_of_quarter-fourth.ensures.seen
    c.four_quarters.ensures
