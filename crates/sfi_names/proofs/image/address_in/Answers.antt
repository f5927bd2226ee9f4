use Rattle.sfi_names.proofs.Answering.{one_answer}
use Rattle.sfi_names.proofs.image.address_in.Goals as goal

pub returns-clause-only : goal.returns-clause-only
returns-clause-only c = λ r h. one_answer c.args.image.now c.args.number c.args.kind c.args.name.now c.find_address.result r c.find_address.ensures h
