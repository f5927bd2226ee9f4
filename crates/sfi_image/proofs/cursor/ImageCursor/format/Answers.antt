use Rattle.sfi_image.proofs.Prelude.{◌∙◌}
use Rattle.sfi_image.proofs.CursorSteps.{format_kept}
use Rattle.sfi_image.proofs.cursor.ImageCursor.format.Goals as goal

pub returns : goal.returns
returns c = λ bytes format n ps h. c.format.ensures ∙ format_kept bytes format n ps c.args.self.now h
