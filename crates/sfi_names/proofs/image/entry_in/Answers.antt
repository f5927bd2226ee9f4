use Rattle.sfi_names.proofs.Answering.{only_picked, only_unpicked, picked_names}
use Rattle.sfi_names.proofs.image.entry_in.Goals as goal

pub returns-clause-name : goal.returns-clause-name
returns-clause-name c = picked_names c.args.image.now c.args.number c.args.kind c.args.index c.find_entry.result c.find_entry.ensures.found

pub returns-clause-only_found : goal.returns-clause-only_found
returns-clause-only_found c = only_picked c.args.image.now c.args.number c.args.kind c.args.index c.find_entry.result c.find_entry.ensures.found c.find_entry.ensures.missing

pub returns-clause-only_missing : goal.returns-clause-only_missing
returns-clause-only_missing c = only_unpicked c.args.image.now c.args.number c.args.kind c.args.index c.find_entry.result c.find_entry.ensures.found c.find_entry.ensures.missing
