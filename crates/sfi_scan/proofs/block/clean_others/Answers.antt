use Rattle.sfi_scan.proofs.Prelude.{sym, ◌∙◌, ap, w64, trailing_zeros, OnTrue_at, is_in, IsCleanAt, Fits-lt-pow}
use Rattle.sfi_scan.proofs.Marks.{in_lowest, in_more}
use Rattle.sfi_scan.proofs.block.clean_others.Goals as goal
use Rattle.sfi_scan.proofs.block.clean_others.Goals.{then-is_clean_at, else-is_clean_at}

pub loop-rest-preserved : goal.loop-rest-preserved
loop-rest-preserved c =
    let low = in_lowest c.loop-rest.rest c.loop-rest-test.true (Fits-lt-pow c.loop-rest.auto.rest-fits) in
    elim c.if-is_clean_at.branch [
      | then-is_clean_at w ↦ λ i h.
          in_more w64 (λ m. IsCleanAt c.args.place.now c.args.block.now (is_in c.args.words m) c.args.after m) c.loop-rest.clean (trailing_zeros w64 c.loop-rest.rest) low.0
          (OnTrue_at w.if-is_clean_at.true c.is_clean_at.ensures)
          c.loop-rest.invariant i (sym (ap (λ m. is_in m i) w.clean-is) ∙ h)
      | else-is_clean_at w ↦ λ i h. c.loop-rest.invariant i (sym (ap (λ m. is_in m i) w.clean-is) ∙ h)
    ]
