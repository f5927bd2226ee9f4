use Rattle.sfi_image.proofs.Prelude.{◌∙◌, arith, err_from_is_err_and, AfterCount}
use Rattle.sfi_image.proofs.CursorSteps.{fields_read}
use Rattle.sfi_image.proofs.cursor.ImageCursor.take_fields.Goals as goal

pub returns-in_err-front : goal.returns-in_err-front
returns-in_err-front c =
    let p = err_from_is_err_and c.from_residual.result c.from_residual.ensures.1 in
    λ bytes format n ps h. rw (p.1, p.2) (c.in_err-front.ensures bytes (AfterCount format n ps) h)

pub fields_at-requires : goal.fields_at-requires
fields_at-requires c =
    let r = c.requires in
    let l = c.in_ok-front.ensures r.0 (AfterCount r.1 r.2 r.3) r.4 in
    omega (arith, l.len_is)

pub returns : goal.returns
returns c = λ bytes format n ps h.
    let l = c.in_ok-front.ensures bytes (AfterCount format n ps) h in
    let kind = c.fields_at.ensures.format ∙ c.format-format.ensures ∙ h.stands.kept.1.of in (
      kind,
      fields_read bytes format n ps c.in_ok-front.front.now _ _ c.args.self.now c.take.new.self c.fields_at.result.0 l c.fields_at.ensures.front c.fields_at.ensures.words kind,
    )
