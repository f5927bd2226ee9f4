use Rattle.std.proofs.Common.{sym, ◌∙◌, true≢false}
use Rattle.sfi_text.proofs.LabelReading.{other_name}
use Rattle.sfi_text.proofs.Taking.{blank_takes_none}
use Rattle.sfi_text.proofs.progress.label_name.Goals as goal

pub returns-else-is_label : goal.returns-else-is_label
returns-else-is_label c =
    other_name _ _ _ c.in-Token.ensures (λ label. true≢false (sym (c.is_label.ensures.1 label) ∙ c.if-is_label.false))

pub returns-in-End : goal.returns-in-End
returns-in-End c = λ name rest begins. blank_takes_none _ _ _ c.in-End.ensures begins.0

pub returns-in-Stuck : goal.returns-in-Stuck
returns-in-Stuck c = λ name rest begins. c.in-Stuck.ensures.nothing name rest begins.0
