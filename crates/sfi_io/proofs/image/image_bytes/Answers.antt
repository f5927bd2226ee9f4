use Rattle.sfi_io.proofs.Prelude.{◌≡◌, ◌∙◌, inl, inr}
use Rattle.sfi_io.specs.Hexadecimal.{GivesImage}
use Rattle.sfi_io.proofs.Leads.{texts_begin_as_none}
use Rattle.sfi_io.proofs.image.image_bytes.Goals as goal

pub returns-then-begins_as_image-clause-only_bytes : goal.returns-then-begins_as_image-clause-only_bytes
returns-then-begins_as_image-clause-only_bytes c bytes gives = by gives
  where
    by : GivesImage c.args.input.now bytes → c.in_ok-from_slice.field-0.items ≡ bytes
    by (inl own) = c.in_ok-from_slice.ensures.items ∙ own.same
    by (inr spells) = absurd (texts_begin_as_none _ bytes spells (c.begins_as_image.ensures.0 c.if-begins_as_image.true))
