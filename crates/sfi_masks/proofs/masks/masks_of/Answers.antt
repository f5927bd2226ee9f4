use Rattle.sfi_masks.proofs.Block.{are_quarters, are_masks}
use Rattle.sfi_masks.proofs.masks.masks_of.Goals as goal

pub returns : goal.returns
returns g c =
    let a = c.masks_of_quarter-first in
    let b = c.masks_of_quarter-second in
    let d = c.masks_of_quarter-third in
    let e = c.masks_of_quarter-fourth in
    let block = c.args.block.now in
    are_masks _ block a.result b.result d.result e.result c.fits-block
    (are_quarters _ block a.result b.result d.result e.result a.ensures b.ensures d.ensures e.ensures) _ c.four_quarters.ensures c.four_quarters-2.ensures c.four_quarters-3.ensures
