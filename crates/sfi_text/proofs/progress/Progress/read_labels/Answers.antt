use Rattle.std.proofs.Common.{rules, [], ◌∷◌, ◌++◌}
use Rattle.sfi_text.proofs.LabelReading.{one_more, refused_label}
use Rattle.sfi_text.proofs.progress.Progress.read_labels.Goals as goal

pub returns-in-Err-clause-cause : goal.returns-in-Err-clause-cause
returns-in-Err-clause-cause c =
    refused_label _ _ _ _ _ _ _ _ c.loop-name.invariant.1.1 c.in-Label.ensures c.in-Err.ensures.cause

pub loop-name-preserved : goal.loop-name-preserved
loop-name-preserved c = (
  search rules,
  (
    c.loop-name.invariant.1.0 ++ c.in-Label.name.now ∷ [],
    one_more _ _ _ _ _ _ _ _ c.loop-name.invariant.1.1 c.in-Label.ensures c.in-Ok.ensures.labels,
  ),
)
