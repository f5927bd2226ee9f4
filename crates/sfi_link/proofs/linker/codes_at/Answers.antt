use Rattle.sfi_link.proofs.Prelude.{arith}
use Rattle.sfi_link.proofs.Linking.{codes_found}
use Rattle.sfi_link.proofs.linker.codes_at.Goals as goal

pub returns-clause-codes : goal.returns-clause-codes
returns-clause-codes c = (codes_found c.args.places.now c.parts-placed.result.now c.args.placed.now c.parts-placed.ensures.parts (omega arith) (omega arith) _ c.codes_of.ensures).0

pub returns-clause-fault : goal.returns-clause-fault
returns-clause-fault c = (codes_found c.args.places.now c.parts-placed.result.now c.args.placed.now c.parts-placed.ensures.parts (omega arith) (omega arith) _ c.codes_of.ensures).1
