use Rattle.std.proofs.Common.{bit_and}
use Rattle.sfi_masks.proofs.Vectors.{zipped}
use Rattle.sfi_masks.proofs.lanes.classes_of_halfwords.Goals as goal

pub returns : goal.returns
returns c = zipped bit_and c.classes_of_bytes.result c.classes_of_bytes-2.result _ _ c.classes_of_bytes.ensures c.classes_of_bytes-2.ensures
