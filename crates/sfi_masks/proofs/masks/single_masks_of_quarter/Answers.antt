use Rattle.std.proofs.Common.{ℕ, ◌+◌, ◌*◌, ◌%◌, ◌==◌, not, ap, ap₂, arith, ◌∙◌, slice_index}
use Rattle.sfi_masks.specs.private.{mask_classes}
use Rattle.sfi_masks.proofs.masks.single_masks_of_quarter.Goals as goal

pub returns-clause-small : goal.returns-clause-small
returns-clause-small c = c.bits_of.ensures.small

pub returns-clause-seen : goal.returns-clause-seen
returns-clause-seen c i h =
    let byte = λ (k : ℕ). slice_index c.args.bytes.now k in
    let lows = c.low_and_high.ensures.low in
    let highs = c.low_and_high.ensures.high in
    let next = (i + 1) % 16 in
    c.bits_of.ensures.bits i h ∙ ap (λ n. not (n == 0)) (c.mask_classes.ensures.lanes i h)
    ∙ ap₂ (λ m n. not (mask_classes m n (slice_index c.low_and_high.result.0 next) (slice_index c.low_and_high.result.1 next) == 0)) (lows.lanes i h) (highs.lanes i h)
    ∙ ap₂ (λ m n. not (mask_classes (byte (2 * i)) (byte (2 * i + 1)) m n == 0)) (lows.lanes next (omega arith)) (highs.lanes next (omega arith))
