use Rattle.sfi_masks.proofs.Vectors.{joined_bits}
use Rattle.sfi_masks.proofs.masks.four_quarters.Goals as goal

pub returns : goal.returns
returns c = joined_bits c.args.a c.args.b c.args.c c.args.d c.requires.a c.requires.b c.requires.c c.requires.d
