use Rattle.sfi_scan.proofs.BlockPairs.{placing_told}
use Rattle.sfi_scan.proofs.words.block.is_any_data_placing_word.Goals as goal

pub returns : goal.returns
returns c = placing_told c.args.word c.numbered.result c.ranges.word.fits c.if-word-ne-PLACING.false c.numbered.ensures _ c.is_data_register.ensures
