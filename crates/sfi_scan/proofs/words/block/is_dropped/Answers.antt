use Rattle.sfi_scan.proofs.BlockPairs.{dropped_told}
use Rattle.sfi_scan.proofs.words.block.is_dropped.Goals as goal

pub returns : goal.returns
returns c = dropped_told c.args.word
