use Rattle.sfi_rewrite.proofs.Prelude.{so_far}
use Rattle.sfi_rewrite.proofs.WordLaying.{fits_four}
use Rattle.sfi_rewrite.proofs.words.filling.WordFilling.end.Goals as goal

pub overflow_add-result : goal.overflow_add-result
overflow_add-result c = fits_four (so_far c.self.inside.words c.self.inside.waiting) c.args.self.now c.end.result c.self.view_is c.requires c.end.ensures
