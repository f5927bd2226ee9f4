use Rattle.sfi_image.proofs.Prelude.{sym, ◌∙◌, ap, Format, views, format_of}
use Rattle.sfi_image.proofs.Formats.{format_is}
use Rattle.sfi_image.proofs.image.Image.parts.Goals as goal

pub returns-clause-parts : goal.returns-clause-parts
returns-clause-parts c =
    let kind =
    sym (ap format_of c.self.view_is)
    ∙ format_is c.self.inside.format c.self.inside.parts.items c.self.invariant.at_least_one in
    ap (λ (f : Format). views f c.deref.result.now) kind ∙ ap (views c.self.inside.format) c.deref.ensures.value ∙ c.self.view_is
