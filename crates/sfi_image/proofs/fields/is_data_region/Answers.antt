use Rattle.sfi_image.proofs.Prelude.{refl, subst, IsRegion}
use Rattle.sfi_image.proofs.fields.is_data_region.Goals as goal

pub returns-then-not-has_single_mask : goal.returns-then-not-has_single_mask
returns-then-not-has_single_mask c = (
  λ t. (
    subst (λ n. IsRegion c.args.fields.now.data_base c.args.fields.now.data_size 256 n) c.data_most-most.ensures (c.if-not-is_region.ensures.0 refl),
    λ one_step. let is = c.has_single_mask.ensures in let no = c.if-not-has_single_mask.true in absurd cc,
  ),
  λ both. let no = c.if-not-has_single_mask.true in cc,
)
