use Rattle.sfi_scan.proofs.Prelude.{arith, sym, ◌∙◌}
use Rattle.sfi_scan.proofs.Starts.{words_are_before}
use Rattle.sfi_scan.proofs.block.words_before_half.Goals as goal

pub word_of-requires : goal.word_of-requires
word_of-requires c = let high = c.requires.after.1.high c.args.i c.requires.place (sym c.has_bit.ensures ∙ c.if-not-has_bit.false) in record { place = omega arith; inside = omega (arith, high) }

pub word_of-requires-2 : goal.word_of-requires-2
word_of-requires-2 c = let high = c.requires.after.1.high c.args.i c.requires.place (sym c.has_bit.ensures ∙ c.if-not-has_bit.false) in record { place = omega arith; inside = omega (arith, high) }

pub returns : goal.returns
returns c =
    words_are_before c.args.block.now c.requires.after.0 c.args.after c.args.i _ _ c.requires.place c.requires.after.1 (sym c.has_bit.ensures ∙ c.if-not-has_bit.false)
    c.word_of.ensures.in_bundle c.word_of-2.ensures.in_bundle
