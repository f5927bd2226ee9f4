use Rattle.sfi_scan.proofs.Marks.{after_two_is}
use Rattle.sfi_scan.proofs.block.after_two.Goals as goal

pub returns : goal.returns
returns c = after_two_is c.args.words
