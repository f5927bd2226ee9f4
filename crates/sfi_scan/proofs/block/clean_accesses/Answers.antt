use Rattle.sfi_scan.proofs.Prelude.{◌-◌, sym, ◌∙◌, ap, w64, trailing_zeros, OnTrue_at, is_in, Fits-lt-pow}
use Rattle.sfi_scan.proofs.Marks.{in_lowest, in_rest, in_more}
use Rattle.sfi_scan.proofs.Starts.{IsCleanAccess}
use Rattle.sfi_scan.proofs.block.clean_accesses.Goals as goal
use Rattle.sfi_scan.proofs.block.clean_accesses.Goals.{then-is_clean_access_at, else-is_clean_access_at}

pub is_clean_access_at-requires-clause-inside : goal.is_clean_access_at-requires-clause-inside
is_clean_access_at-requires-clause-inside c =
    let low = in_lowest c.loop-rest.rest c.loop-rest-test.true (Fits-lt-pow c.loop-rest.auto.rest-fits) in
    c.requires.inside (trailing_zeros w64 c.loop-rest.rest) low.0 (c.loop-rest.invariant.0 _ low.1)

pub is_clean_access_at-requires-clause-access : goal.is_clean_access_at-requires-clause-access
is_clean_access_at-requires-clause-access c =
    let low = in_lowest c.loop-rest.rest c.loop-rest-test.true (Fits-lt-pow c.loop-rest.auto.rest-fits) in
    c.requires.access (trailing_zeros w64 c.loop-rest.rest) low.0 (c.loop-rest.invariant.0 _ low.1)

pub loop-rest-preserved : goal.loop-rest-preserved
loop-rest-preserved c =
    let low = in_lowest c.loop-rest.rest c.loop-rest-test.true (Fits-lt-pow c.loop-rest.auto.rest-fits) in (
      λ i h. c.loop-rest.invariant.0 i (in_rest c.loop-rest.rest (c.loop-rest.rest - 1) i h),
      elim c.if-is_clean_access_at.branch [
        | then-is_clean_access_at w ↦ λ i h.
            in_more w64 (IsCleanAccess c.args.stack c.args.block.now c.args.after c.args.accesses) c.loop-rest.clean (trailing_zeros w64 c.loop-rest.rest) low.0
            (c.loop-rest.invariant.0 _ low.1, λ b is. OnTrue_at w.if-is_clean_access_at.true (c.is_clean_access_at.ensures b is))
            c.loop-rest.invariant.1 i (sym (ap (λ m. is_in m i) w.clean-is) ∙ h)
        | else-is_clean_access_at w ↦ λ i h. c.loop-rest.invariant.1 i (sym (ap (λ m. is_in m i) w.clean-is) ∙ h)
      ],
    )

pub returns-clause-clean : goal.returns-clause-clean
returns-clause-clean c i h = (c.loop-rest.invariant.1 i h).1
