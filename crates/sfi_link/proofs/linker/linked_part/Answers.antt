use Rattle.sfi_link.proofs.Parts.{start_fits}
use Rattle.sfi_link.proofs.linker.linked_part.Goals as goal

pub bases_of-at-requires-clause-fits : goal.bases_of-at-requires-clause-fits
bases_of-at-requires-clause-fits c = start_fits c.args.given.now c.args.number c.args.placed.now _ c.requires.made.0.size.has_room c.requires.made.1
