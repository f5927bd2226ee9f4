use Rattle.std.proofs.Common.{arith}
use Rattle.sfi_command.proofs.Spelled.{no_address}
use Rattle.sfi_command.proofs.places.parse_address.Goals as goal

pub returns-in-Err-clause-none : goal.returns-in-Err-clause-none
returns-in-Err-clause-none c none n = no_address c.args.text.now n (omega arith) c.in-Err.ensures.value
