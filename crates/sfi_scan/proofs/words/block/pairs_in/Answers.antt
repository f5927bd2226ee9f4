use Rattle.sfi_scan.proofs.Prelude.{◌-◌, sym, ◌∙◌, ap, arith, w64, trailing_zeros, OnTrue_at, is_in, Fits-lt-pow, IsPairAt}
use Rattle.sfi_scan.proofs.Marks.{in_lowest, in_rest, in_more, in_zero}
use Rattle.sfi_scan.proofs.WordBlock.{next_is, pair_at}
use Rattle.sfi_scan.proofs.WordMarks.{two_words}
use Rattle.sfi_scan.proofs.words.block.pairs_in.Goals as goal
use Rattle.sfi_scan.proofs.words.block.pairs_in.Goals.{then-are_pair_words, else-are_pair_words}

pub loop-rest-init : goal.loop-rest-init
loop-rest-init c = (
  λ i lt h. two_words c.args.words i c.ranges.words.fits h,
  λ i h. absurd (let no = sym (in_zero i) ∙ h in cc),
)

pub word_at-first-requires : goal.word_at-first-requires
word_at-first-requires c =
    let low = in_lowest c.loop-rest.rest c.loop-rest-test.true (Fits-lt-pow c.loop-rest.auto.rest-fits) in
    let there = c.loop-rest.invariant.0 _ low.0 low.1 in
    let below = there.below in
    omega (arith, below, c.told-block)

pub word_at-second-requires : goal.word_at-second-requires
word_at-second-requires c =
    let low = in_lowest c.loop-rest.rest c.loop-rest-test.true (Fits-lt-pow c.loop-rest.auto.rest-fits) in
    let there = c.loop-rest.invariant.0 _ low.0 low.1 in
    let even = c.requires _ low.0 there.first in
    let below = there.below in
    omega (arith, below, even, c.told-block)

pub loop-rest-preserved : goal.loop-rest-preserved
loop-rest-preserved c =
    let low = in_lowest c.loop-rest.rest c.loop-rest-test.true (Fits-lt-pow c.loop-rest.auto.rest-fits) in
    let i = trailing_zeros w64 c.loop-rest.rest in
    let there = c.loop-rest.invariant.0 i low.0 low.1 in
    let even = c.requires i low.0 there.first in (
      λ j lt h. c.loop-rest.invariant.0 j lt (in_rest c.loop-rest.rest (c.loop-rest.rest - 1) j h),
      elim c.if-are_pair_words.branch [
        | then-are_pair_words w ↦ λ j h.
            in_more w64 (IsPairAt c.args.format c.args.block.now) c.loop-rest.pairs i low.0
            (pair_at c.args.format c.args.block.now i c.word_at-first.result c.word_at-second.result even there.below c.word_at-first.ensures (c.word_at-second.ensures ∙ next_is c.args.block.now i) (OnTrue_at w.if-are_pair_words.true c.are_pair_words.ensures))
            c.loop-rest.invariant.1 j (sym (ap (λ m. is_in m j) w.pairs-is) ∙ h)
        | else-are_pair_words w ↦ λ j h. c.loop-rest.invariant.1 j (sym (ap (λ m. is_in m j) w.pairs-is) ∙ h)
      ],
    )
