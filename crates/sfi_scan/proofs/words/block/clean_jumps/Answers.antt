use Rattle.sfi_scan.proofs.Prelude.{ℕ, ◌-◌, sym, ◌∙◌, ap, w64, trailing_zeros, OnTrue_at, is_in, Fits-lt-pow, Nothing, IsCleanWord}
use Rattle.sfi_scan.proofs.Marks.{in_lowest, in_rest, in_more}
use Rattle.sfi_scan.proofs.words.block.clean_jumps.Goals as goal
use Rattle.sfi_scan.proofs.words.block.clean_jumps.Goals.{then-is_clean_jump_at, else-is_clean_jump_at}

pub is_clean_jump_at-requires-clause-word : goal.is_clean_jump_at-requires-clause-word
is_clean_jump_at-requires-clause-word c =
    let low = in_lowest c.loop-rest.rest c.loop-rest-test.true (Fits-lt-pow c.loop-rest.auto.rest-fits) in
    c.requires.words _ low.0 (c.loop-rest.invariant.0 _ low.1)

pub is_clean_jump_at-requires-clause-inside : goal.is_clean_jump_at-requires-clause-inside
is_clean_jump_at-requires-clause-inside c = (in_lowest c.loop-rest.rest c.loop-rest-test.true (Fits-lt-pow c.loop-rest.auto.rest-fits)).0

pub loop-rest-preserved : goal.loop-rest-preserved
loop-rest-preserved c =
    let low = in_lowest c.loop-rest.rest c.loop-rest-test.true (Fits-lt-pow c.loop-rest.auto.rest-fits) in (
      λ i h. c.loop-rest.invariant.0 i (in_rest c.loop-rest.rest (c.loop-rest.rest - 1) i h),
      elim c.if-is_clean_jump_at.branch [
        | then-is_clean_jump_at w ↦ λ i h.
            in_more w64 (λ (k : ℕ). IsCleanWord c.args.place.now c.args.block.now k Nothing Nothing) c.loop-rest.plain (trailing_zeros w64 c.loop-rest.rest) low.0
            (OnTrue_at w.if-is_clean_jump_at.true c.is_clean_jump_at.ensures)
            c.loop-rest.invariant.1 i (sym (ap (λ m. is_in m i) w.plain-is) ∙ h)
        | else-is_clean_jump_at w ↦ λ i h. c.loop-rest.invariant.1 i (sym (ap (λ m. is_in m i) w.plain-is) ∙ h)
      ],
    )
