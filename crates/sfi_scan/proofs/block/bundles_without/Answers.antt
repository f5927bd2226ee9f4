use Rattle.sfi_scan.proofs.Prelude.{ℕ, ◌≡◌, ◌<◌, ◌+◌, ◌*◌, false, sym, ◌∙◌, ap, w8, is_in}
use Rattle.sfi_scan.proofs.Marks.{in_none, in_more}
use Rattle.sfi_scan.proofs.block.bundles_without.Goals as goal
use Rattle.sfi_scan.proofs.block.bundles_without.Goals.{then-places-k-eq0, else-places-k-eq0}

pub loop-k-preserved : goal.loop-k-preserved
loop-k-preserved c = elim c.if-places-k-eq0.branch [
  | then-places-k-eq0 w ↦ λ n h j lt.
      in_more w8 (λ m. (j : ℕ) → j < 8 → is_in c.args.places (8 * m + j) ≡ false) c.loop-k.bundles c.loop-k.k c.loop-k-test.true
      (λ j lt. in_none c.args.places c.loop-k.k j lt w.if-places-k-eq0.true)
      c.loop-k.invariant n (sym (ap (λ m. is_in m n) w.bundles-is) ∙ h) j lt
  | else-places-k-eq0 w ↦ λ n h. c.loop-k.invariant n (sym (ap (λ m. is_in m n) w.bundles-is) ∙ h)
]
