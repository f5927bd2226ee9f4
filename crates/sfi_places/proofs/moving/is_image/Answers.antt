use Rattle.sfi_places.proofs.Moves.{image_there, fault_there}
use Rattle.sfi_places.proofs.moving.is_image.Goals as goal

pub returns-clause-image : goal.returns-clause-image
returns-clause-image c = image_there c.args.bytes.now 0 c.sandbox_of.result c.is_ok.result c.is_ok.ensures.value c.sandbox_of.ensures.found c.sandbox_of.ensures.beyond

pub returns-clause-fault : goal.returns-clause-fault
returns-clause-fault c = fault_there c.args.bytes.now c.sandbox_of.result c.is_ok.result c.is_ok.ensures.value c.sandbox_of.ensures.fault
