-- What a test of registers that are set from outside looks at first.
use Rattle.std.specs.Prelude.{◌≡◌, ℕ, List, slice_index, true}
use Rattle.sfi_formats.specs.declared.format.Format.{Format}
use Rattle.sfi_formats.specs.Formats.{has_single_mask}
use Rattle.sfi_formats.specs.Limits.{slack}
use Rattle.sfi_image.specs.declared.span.Span.{Span}
use Rattle.sfi_image.specs.Spelling.{IsNearIn}

-- the data registers of code in words of this format hold addresses in the region or near it, or near zero
-- where masks are single
pub record LieNear (f : Format) (data_at : Span) (registers : List ℕ) : Type 0 where
  pub x2 : IsNearIn f data_at slack (slice_index registers 2)
  pub x3 : IsNearIn f data_at slack (slice_index registers 3)
  pub x4 : IsNearIn f data_at slack (slice_index registers 4)
  pub x29 : IsNearIn f data_at slack (slice_index registers 29)
  pub x26 : has_single_mask f ≡ true → IsNearIn f data_at slack (slice_index registers 26)
  pub x31 : has_single_mask f ≡ true → IsNearIn f data_at slack (slice_index registers 31)
