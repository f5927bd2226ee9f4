use Rattle.std.proofs.lemmas.Result.{IfOk-weaker}
use Rattle.sfi_text.proofs.TextLines.{only_meaning, only_fault, listed_means}
use Rattle.sfi_text.proofs.text.parse_text.Goals as goal

pub returns-clause-only_meaning : goal.returns-clause-only_meaning
returns-clause-only_meaning c = only_meaning (λ l. l.source) (λ l. l.shared.items) c.args.text.now c.read_text.result c.read_text.ensures.meaning c.read_text.ensures.fault

pub returns-clause-only_fault : goal.returns-clause-only_fault
returns-clause-only_fault c =
    only_fault (λ l. l.source) c.args.text.now c.read_text.result
    (IfOk-weaker c.read_text.result _ _ (λ l. listed_means c.args.text.now l.source l.shared.items) c.read_text.ensures.meaning) c.read_text.ensures.fault
