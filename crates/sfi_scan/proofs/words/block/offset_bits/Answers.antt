use Rattle.sfi_scan.proofs.BlockPairs.{load_offset, store_offset}
use Rattle.sfi_scan.proofs.words.block.offset_bits.Goals as goal

pub returns-then-word-eq0-clause-offset : goal.returns-then-word-eq0-clause-offset
returns-then-word-eq0-clause-offset c = load_offset c.args.word c.if-word-eq0.true

pub returns-else-word-eq0-clause-offset : goal.returns-else-word-eq0-clause-offset
returns-else-word-eq0-clause-offset c = store_offset c.args.word c.if-word-eq0.false
