use Rattle.std.proofs.Common.{◌≡◌, ap, bit_and, slice_index, ◌∙◌, sym}
use Rattle.std.specs.Prelude.{if◌then◌else◌}
use Rattle.sfi_masks.specs.private.{rest, half_classes}
use Rattle.sfi_masks.specs.declared.tables.TheConstants.{REST}
use Rattle.sfi_masks.proofs.Vectors.{splat, zipped, same_lanes}
use Rattle.sfi_masks.proofs.lanes.rest_classes.Goals as goal
use Rattle.sfi_masks.proofs.lanes.rest_classes.Goals.{then-stack, else-stack}

mask_is : (c : goal.Joined-stack) → c.if-stack.result ≡ (if c.args.stack then 255 else 102)
mask_is c = elim c.if-stack.branch [
  | then-stack w ↦ w.result-is ∙ ap (λ s. if s then 255 else 102) (sym w.if-stack.true)
  | else-stack w ↦ w.result-is ∙ ap (λ s. if s then 255 else 102) (sym w.if-stack.false)
]

pub returns : goal.returns
unfolding rest
returns c =
    same_lanes _ _ _ (zipped bit_and c.classes_of_halfwords.result _ _ _ c.classes_of_halfwords.ensures (splat c.if-stack.result))
    (λ i h. ap (λ m. bit_and (half_classes REST (slice_index c.args.low i) (slice_index c.args.high i)) m) (mask_is c))
