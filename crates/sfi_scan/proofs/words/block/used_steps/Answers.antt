use Rattle.sfi_scan.proofs.Prelude.{◌≡◌, ℕ, ◌+◌, ◌-◌, false, sym, ◌∙◌, ap, arith, w64, trailing_zeros, OnTrue_at, is_in, Fits-lt-pow, IsSteppedWord}
use Rattle.sfi_scan.proofs.Marks.{in_lowest, in_rest, in_more, in_zero}
use Rattle.sfi_scan.proofs.WordBlock.{stepped, next_is}
use Rattle.sfi_scan.proofs.WordMarks.{before_access}
use Rattle.sfi_scan.proofs.words.block.used_steps.Goals as goal
use Rattle.sfi_scan.proofs.words.block.used_steps.Goals.{then-is_used_step, else-is_used_step}

pub loop-rest-init : goal.loop-rest-init
loop-rest-init c = (
  λ i lt h. before_access c.args.free c.args.words c.bits_without-rest.result i c.ranges.free.fits c.bits_without-rest.ensures lt h,
  λ i h. absurd (let no = sym (in_zero i) ∙ h in cc),
)

pub word_at-word-requires : goal.word_at-word-requires
word_at-word-requires c =
    let low = in_lowest c.loop-rest.rest c.loop-rest-test.true (Fits-lt-pow c.loop-rest.auto.rest-fits) in
    let there = c.loop-rest.invariant.0 _ low.0 low.1 in
    let even = c.requires.words _ low.0 there.word in
    let below = there.below in
    omega (arith, below, even, c.told-block)

pub word_at-next-requires : goal.word_at-next-requires
word_at-next-requires c =
    let low = in_lowest c.loop-rest.rest c.loop-rest-test.true (Fits-lt-pow c.loop-rest.auto.rest-fits) in
    let there = c.loop-rest.invariant.0 _ low.0 low.1 in
    let even = c.requires.words _ low.0 there.word in
    let below = there.below in
    omega (arith, below, even, c.told-block)

pub loop-rest-preserved : goal.loop-rest-preserved
loop-rest-preserved c =
    let low = in_lowest c.loop-rest.rest c.loop-rest-test.true (Fits-lt-pow c.loop-rest.auto.rest-fits) in
    let i = trailing_zeros w64 c.loop-rest.rest in
    let there = c.loop-rest.invariant.0 i low.0 low.1 in
    let even = c.requires.words i low.0 there.word in (
      λ j lt h. c.loop-rest.invariant.0 j lt (in_rest c.loop-rest.rest (c.loop-rest.rest - 1) j h),
      elim c.if-is_used_step.branch [
        | then-is_used_step w ↦ λ j h.
            in_more w64 (λ (k : ℕ). IsSteppedWord c.args.place.now c.args.block.now k × (is_in c.args.words (k + 2) ≡ false)) c.loop-rest.steps i low.0 (
              stepped c.args.place.now c.requires.within c.args.block.now i c.word_at-word.result c.word_at-next.result c.told-block even there.below c.word_at-word.ensures (c.word_at-next.ensures ∙ next_is c.args.block.now i) (c.requires.free (i + 2) there.below (omega (arith, even)) there.access)
                  (OnTrue_at w.if-is_used_step.true c.is_used_step.ensures),
              there.apart,
            )
            c.loop-rest.invariant.1 j (sym (ap (λ m. is_in m j) w.steps-is) ∙ h)
        | else-is_used_step w ↦ λ j h. c.loop-rest.invariant.1 j (sym (ap (λ m. is_in m j) w.steps-is) ∙ h)
      ],
    )

pub returns-clause-stepped : goal.returns-clause-stepped
returns-clause-stepped c i h = (c.loop-rest.invariant.1 i h).0

pub returns-clause-apart : goal.returns-clause-apart
returns-clause-apart c i h = (c.loop-rest.invariant.1 i h).1
