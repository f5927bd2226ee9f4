use Rattle.sfi_image.proofs.OneReading.{only_image, only_fault}
use Rattle.sfi_image.proofs.reading.parse_image.Goals as goal

pub returns-clause-only_image : goal.returns-clause-only_image
returns-clause-only_image c = only_image _ _ c.image_at.ensures

pub returns-clause-only_fault : goal.returns-clause-only_fault
returns-clause-only_fault c = only_fault _ _ c.image_at.ensures
