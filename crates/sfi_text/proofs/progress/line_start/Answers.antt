use Rattle.sfi_text.proofs.LabelReading.{no_label}
use Rattle.sfi_text.proofs.Taking.{blank_takes_none}
use Rattle.sfi_text.proofs.progress.line_start.Goals as goal

pub returns-in-None : goal.returns-in-None
returns-in-None c = (no_label _ _ _ c.in-Token.ensures c.in-None.ensures, c.next_token-next.ensures)

pub returns-in-End : goal.returns-in-End
returns-in-End c = (λ name rest begins. blank_takes_none _ _ _ c.in-End.ensures begins.1.0, c.next_token-next.ensures)

pub returns-in-Stuck : goal.returns-in-Stuck
returns-in-Stuck c = (λ name rest begins. c.in-Stuck.ensures.nothing name begins.0 begins.1.0, c.next_token-next.ensures)
