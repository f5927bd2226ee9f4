use Rattle.sfi_rewrite.proofs.Prelude.{◌∙◌, ap, size_of}
use Rattle.sfi_rewrite.proofs.filling.Filling.end.Goals as goal

pub returns : goal.returns
returns c = c.self.invariant.end_is ∙ ap size_of c.self.view_is
