use Rattle.sfi_image.proofs.Prelude.{sym, ◌∙◌, ap, format_of}
use Rattle.sfi_image.proofs.Formats.{format_is}
use Rattle.sfi_image.proofs.image.Image.format.Goals as goal

pub returns : goal.returns
returns c =
    sym (format_is c.self.inside.format c.self.inside.parts.items c.self.invariant.at_least_one) ∙ ap format_of c.self.view_is
