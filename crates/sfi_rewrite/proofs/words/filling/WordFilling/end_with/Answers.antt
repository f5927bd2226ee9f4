use Rattle.sfi_rewrite.proofs.WordLaying.{fits_more}
use Rattle.sfi_rewrite.proofs.words.filling.WordFilling.end_with.Goals as goal

pub overflow_add-result : goal.overflow_add-result
overflow_add-result c = fits_more c.args.self.now c.end-in_default.result c.requires c.end-in_default.ensures
