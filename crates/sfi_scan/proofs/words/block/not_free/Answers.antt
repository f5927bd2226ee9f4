use Rattle.sfi_scan.proofs.WordMarks.{left_even, told_free}
use Rattle.sfi_scan.proofs.words.block.not_free.Goals as goal

pub returns-clause-words : goal.returns-clause-words
returns-clause-words c = left_even _ _ c.bits_without.ensures

pub returns-clause-free : goal.returns-clause-free
returns-clause-free c = told_free c.args.masks c.bits_without-short.result c.bits_without.result c.bits_without-short.ensures c.bits_without.ensures
