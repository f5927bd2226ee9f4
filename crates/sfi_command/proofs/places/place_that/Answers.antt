use Rattle.sfi_command.proofs.Words.{text_fault}
use Rattle.sfi_command.proofs.places.place_that.Goals as goal

pub returns-in-None-clause-fault : goal.returns-in-None-clause-fault
returns-in-None-clause-fault c = text_fault c.args.text.now c.usage_fault.result c.usage_fault.ensures (c.parse_place.ensures.none c.in-None.is)
