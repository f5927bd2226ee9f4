use Rattle.std.proofs.Common.{ℕ, ◌%◌, ◌==◌, not, ap, ◌∙◌, slice_index}
use Rattle.sfi_masks.specs.private.{bundles}
use Rattle.sfi_masks.proofs.Vectors.{splat, free_lanes, access_lanes}
use Rattle.sfi_masks.proofs.masks.masks_of_quarter.Goals as goal

pub returns : goal.returns
returns c =
    let byte = λ (k : ℕ). slice_index c.args.bytes.now k in
    let lows = c.low_and_high.ensures.low in
    let highs = c.low_and_high.ensures.high in
    let free = free_lanes (bundles c.args.stack) byte _ _ lows highs _ _ _ _ _ c.classes_of_halfwords-alone.ensures c.followed_classes-followed.ensures c.rest_classes-rest.ensures c.writable_classes-kept.ensures (splat 63) in
    let access = access_lanes (bundles c.args.stack) byte _ _ lows highs _ _ _ _ _ c.classes_of_halfwords-alone.ensures c.followed_classes-followed.ensures c.rest_classes-rest.ensures c.writable_classes-kept.ensures (splat 63) in
    record {
      long_small = c.long_bits.ensures.small;
      free_small = c.bits_of.ensures.small;
      access_small = c.bits_of-2.ensures.small;
      long = λ i h. c.long_bits.ensures.bits i h ∙ ap (λ b. b % 4 == 3) (lows.lanes i h);
      free = λ i h. c.bits_of.ensures.bits i h ∙ ap (λ n. not (n == 0)) (free.lanes i h);
      access = λ i h. c.bits_of-2.ensures.bits i h ∙ ap (λ n. not (n == 0)) (access.lanes i h);
    }
