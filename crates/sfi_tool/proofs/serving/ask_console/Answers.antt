use Rattle.std.proofs.lemmas.Result.{IfOk-weaker}
use Rattle.sfi_tool.proofs.Prelude.{slots_of}
use Rattle.sfi_tool.proofs.Calls.{if_err, nothing_cut, other_served}
use Rattle.sfi_tool.proofs.serving.ask_console.Goals as goal

pub returns-in_err-flush_output-clause-cut : goal.returns-in_err-flush_output-clause-cut
returns-in_err-flush_output-clause-cut g c =
    if_err _ _ (nothing_cut c.args.request.sandbox (slots_of c.args.world.now) c.args.console.now (g.W.Write.contents c.args.writer.now) (g.W.Write.contents c.flush_output.new.writer) c.flush_output.ensures)

pub returns-clause-served : goal.returns-clause-served
returns-clause-served g c = λ known.
    IfOk-weaker c.let_host_answer.result _ _ (λ u answered. other_served (slots_of c.args.world.now) (slots_of c.let_host_answer.new.world) c.args.request c.requires.waits c.args.console.now c.let_host_answer.new.gates
    c.requires.put c.requires.get answered known (g.W.Write.contents c.args.writer.now) (g.W.Write.contents c.flush_output.new.writer) c.flush_output.ensures) c.let_host_answer.ensures

pub returns-clause-cut : goal.returns-clause-cut
returns-clause-cut g c =
    if_err c.let_host_answer.result _ (nothing_cut c.args.request.sandbox (slots_of c.args.world.now) c.args.console.now (g.W.Write.contents c.args.writer.now) (g.W.Write.contents c.flush_output.new.writer) c.flush_output.ensures)
