use Rattle.sfi_scan.proofs.Marks.{three_words_are}
use Rattle.sfi_scan.proofs.block.three_words.Goals as goal

pub returns : goal.returns
returns c = three_words_are c.args.words
