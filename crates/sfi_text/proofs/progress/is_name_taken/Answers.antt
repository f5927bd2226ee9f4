use Rattle.sfi_text.proofs.LabelReading.{taken, none_taken}
use Rattle.sfi_text.proofs.progress.is_name_taken.Goals as goal

pub returns-in-Some : goal.returns-in-Some
returns-in-Some c = taken c.args.draft.now c.args.text.now _ _ _ c.in-Some.ensures c.is_free.ensures

pub returns-in-None : goal.returns-in-None
returns-in-None c = none_taken c.args.draft.now c.args.text.now c.in-None.ensures
