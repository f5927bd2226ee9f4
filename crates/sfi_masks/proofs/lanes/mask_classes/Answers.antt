use Rattle.std.proofs.Common.{bit_and}
use Rattle.sfi_masks.specs.private.{mask_classes}
use Rattle.sfi_masks.proofs.Vectors.{zipped, rotated}
use Rattle.sfi_masks.proofs.lanes.mask_classes.Goals as goal

pub returns : goal.returns
unfolding mask_classes
returns c = zipped bit_and c.classes_of_halfwords-2.result _ _ _ c.classes_of_halfwords-2.ensures (rotated c.classes_of_halfwords.result _ c.classes_of_halfwords.ensures)
