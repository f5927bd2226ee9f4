use Rattle.sfi_io.proofs.Fronts.{spells_high}
use Rattle.sfi_io.proofs.front.decode_first.Goals as goal

pub returns-clause-spells : goal.returns-clause-spells
returns-clause-spells c = spells_high c.args.text.now c.requires.some c.requires.kept
