use Rattle.std.proofs.Common.{ap, sym, bit_and, bit_or, slice_index}
use Rattle.sfi_masks.specs.private.{kept}
use Rattle.sfi_masks.proofs.Vectors.{own, splat, zipped, chosen, same_lanes}
use Rattle.sfi_masks.proofs.lanes.writable_classes.Goals as goal

pub returns-then-not-stack : goal.returns-then-not-stack
unfolding kept
returns-then-not-stack c =
    same_lanes _ _ _ (splat 255) (λ i h. ap (λ s. kept s (slice_index c.args.low i) (slice_index c.args.high i)) (sym c.if-not-stack.true))

pub returns : goal.returns
unfolding kept
returns c =
    let low = zipped bit_and c.args.low _ _ _ (own c.args.low c.fits-low.0) (splat 128) in
    let high = zipped bit_and c.args.high _ _ _ (own c.args.high c.fits-high.0) (splat 15) in
    same_lanes _ _ _ (chosen _ _ 1 131 255 (zipped bit_or _ _ _ _ low high)) (λ i h. ap (λ s. kept s (slice_index c.args.low i) (slice_index c.args.high i)) (sym c.if-not-stack.false))
