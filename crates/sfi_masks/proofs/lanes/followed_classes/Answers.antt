use Rattle.std.proofs.Common.{bit_and}
use Rattle.sfi_masks.specs.private.{followed}
use Rattle.sfi_masks.proofs.Vectors.{zipped, rotated}
use Rattle.sfi_masks.proofs.lanes.followed_classes.Goals as goal

pub returns : goal.returns
unfolding followed
returns c = zipped bit_and c.classes_of_halfwords.result _ _ _ c.classes_of_halfwords.ensures (rotated c.classes_of_bytes.result _ c.classes_of_bytes.ensures)
