use Rattle.sfi_scan.proofs.Prelude.{ℕ, ◌+◌, ◌-◌, sym, arith, ◌∙◌, ap, w64, refl, inl, inr, trailing_zeros, OnTrue_at, is_in, IsOfWrite, Fits-lt-pow}
use Rattle.sfi_scan.proofs.Marks.{in_lowest, in_rest, in_rest_other, in_more, no_writes}
use Rattle.sfi_scan.proofs.block.stack_writes.Goals as goal
use Rattle.sfi_scan.proofs.block.stack_writes.Goals.{then-is_written, else-is_written}

pub loop-rest-init : goal.loop-rest-init
loop-rest-init c = (λ i h. in_rest_other c.args.places c.three_words-three.result i h, no_writes c.args.block.now c.args.words)

pub is_written-requires-clause-three : goal.is_written-requires-clause-three
is_written-requires-clause-three c =
    let low = in_lowest c.loop-rest.rest c.loop-rest-test.true (Fits-lt-pow c.loop-rest.auto.rest-fits) in
    (c.three_words-three.result, c.three_words-three.ensures, c.loop-rest.invariant.0 (trailing_zeros w64 c.loop-rest.rest) low.1)

pub loop-rest-preserved : goal.loop-rest-preserved
loop-rest-preserved c =
    let i = trailing_zeros w64 c.loop-rest.rest in
    let low = in_lowest c.loop-rest.rest c.loop-rest-test.true (Fits-lt-pow c.loop-rest.auto.rest-fits) in (
      λ i h. c.loop-rest.invariant.0 i (in_rest c.loop-rest.rest (c.loop-rest.rest - 1) i h),
      elim c.if-is_written.branch [
        | then-is_written w ↦
            let P : ℕ → Type 0 = IsOfWrite c.args.block.now c.args.words in
            let write = OnTrue_at w.if-is_written.true c.is_written.ensures in
            let one = in_more w64 P c.loop-rest.written i low.0 (i, write, inl refl) c.loop-rest.invariant.1 in
            let two = in_more w64 P _ (i + 2) (omega (arith, write.low, low.0)) (i, write, inr (inl refl)) one in
            let three = in_more w64 P _ (i + 4) (omega (arith, write.low, low.0)) (i, write, inr (inr refl)) two in
            λ m h. three m (sym (ap (λ n. is_in n m) w.written-is) ∙ h)
        | else-is_written w ↦ λ m h. c.loop-rest.invariant.1 m (sym (ap (λ n. is_in n m) w.written-is) ∙ h)
      ],
    )
