use Rattle.std.proofs.lemmas.Result.{IfOk-weaker}
use Rattle.sfi_tool.proofs.serving.reply_with.Goals as goal

pub returns : goal.returns
returns g c = IfOk-weaker c.let_host_answer.result _ _ (λ u a slot there. (a slot there).0) c.let_host_answer.ensures
