use Rattle.std.proofs.Common.{append_assoc}
use Rattle.std.proofs.lemmas.Result.{IfOk-weaker}
use Rattle.sfi_answers.specs.Answers.{accepted_text}
use Rattle.sfi_answers.proofs.verdict.accepted_line.Goals as goal

pub returns : goal.returns
unfolding accepted_text
returns c = IfOk-weaker c.format.result _ _ (λ s h. simp append_assoc h) c.format.ensures.ok
