use Rattle.sfi_scan.proofs.Prelude.{arith}
use Rattle.sfi_scan.proofs.Marks.{written_told}
use Rattle.sfi_scan.proofs.block.is_written.Goals as goal

pub word_of-requires : goal.word_of-requires
word_of-requires c = let low = c.requires.three.1.low c.args.i c.requires.place c.requires.three.2 in record { place = omega arith; inside = omega arith }

pub word_of-requires-2 : goal.word_of-requires-2
word_of-requires-2 c = let low = c.requires.three.1.low c.args.i c.requires.place c.requires.three.2 in record { place = omega arith; inside = omega arith }

pub word_of-requires-3 : goal.word_of-requires-3
word_of-requires-3 c = let low = c.requires.three.1.low c.args.i c.requires.place c.requires.three.2 in record { place = omega arith; inside = omega arith }

pub returns : goal.returns
returns c =
    written_told c.args.block.now c.args.words c.requires.three.0 c.args.i c.word_of-3.result c.word_of.result c.word_of-2.result c.requires.place c.requires.three.1 c.requires.three.2
    c.word_of-3.ensures.in_bundle c.word_of.ensures.in_bundle c.word_of-2.ensures.in_bundle c.if-not-are_stack_pair_words.ensures c.is_allowed_stack_write.result c.is_allowed_stack_write.ensures
