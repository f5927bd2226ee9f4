use Rattle.sfi_names.proofs.Answering.{only_found, only_missing}
use Rattle.sfi_names.proofs.image.names_in.Goals as goal

pub returns-clause-only_found : goal.returns-clause-only_found
returns-clause-only_found c = only_found c.args.image.now c.args.number c.read_names.result c.read_names.ensures.found c.read_names.ensures.missing

pub returns-clause-only_missing : goal.returns-clause-only_missing
returns-clause-only_missing c = only_missing c.args.image.now c.args.number c.read_names.result c.read_names.ensures.found c.read_names.ensures.missing
