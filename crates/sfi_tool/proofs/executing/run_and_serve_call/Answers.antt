use Rattle.std.proofs.lemmas.Result.{IfErr-weaker, IfOk-weaker}
use Rattle.sfi_tool.specs.private.{IsReplyTo}
use Rattle.sfi_tool.proofs.Prelude.{ℕ, arith, slots_of, subst}
use Rattle.sfi_tool.proofs.Calls.{cut_on, if_err, if_ok, served_on, served_within}
use Rattle.sfi_tool.proofs.Progress.{reply_leaves_less}
use Rattle.sfi_tool.proofs.Turns.{cut_at, streamed_flushed}
use Rattle.sfi_tool.proofs.executing.run_and_serve_call.Goals as goal

pub returns-in_default-clause-streamed : goal.returns-in_default-clause-streamed
returns-in_default-clause-streamed g c = if_ok c.flush_output.result _
    (streamed_flushed c.args.sandbox (slots_of c.args.world.now) (slots_of c.run_to_request.new.world) c.args.console.now c.args.console.now (g.R.Read.remaining c.args.reader.now) (g.R.Read.remaining c.args.reader.now)
    (g.W.Write.contents c.args.writer.now) (g.W.Write.contents c.args.writer.now) (g.W.Write.contents c.flush_output.new.writer)
    (c.run_to_request.ensures.streamed c.args.console.now (g.R.Read.remaining c.args.reader.now) (g.W.Write.contents c.args.writer.now)) c.flush_output.ensures)

pub returns-in_default-clause-cut : goal.returns-in_default-clause-cut
returns-in_default-clause-cut g c = if_err c.flush_output.result _
    (cut_at c.args.budget c.args.sandbox (slots_of c.args.world.now) (slots_of c.run_to_request.new.world) c.args.console.now c.args.console.now (g.R.Read.remaining c.args.reader.now) (g.R.Read.remaining c.args.reader.now)
    (g.W.Write.contents c.args.writer.now) (g.W.Write.contents c.args.writer.now) (g.W.Write.contents c.flush_output.new.writer)
    (c.run_to_request.ensures.streamed c.args.console.now (g.R.Read.remaining c.args.reader.now) (g.W.Write.contents c.args.writer.now)) c.run_to_request.ensures.within c.flush_output.ensures)

pub returns-clause-cut : goal.returns-clause-cut
returns-clause-cut g c = IfErr-weaker c.serve_call.result _ _ (λ e cut.
    cut_on c.args.budget c.args.sandbox (slots_of c.args.world.now) (slots_of c.run_to_request.new.world) c.in-Some.request c.args.console.now (g.R.Read.remaining c.args.reader.now)
    (g.W.Write.contents c.args.writer.now) (g.W.Write.contents c.serve_call.new.writer)
    (c.run_to_request.ensures.streamed c.args.console.now (g.R.Read.remaining c.args.reader.now) (g.W.Write.contents c.args.writer.now)) c.in-Some.ensures.asked c.run_to_request.ensures.within cut) c.serve_call.ensures.cut

pub returns-clause-streamed : goal.returns-clause-streamed
returns-clause-streamed g c = IfOk-weaker c.serve_call.result _ _ (λ u served.
    served_on c.args.budget c.args.sandbox (slots_of c.args.world.now) (slots_of c.run_to_request.new.world) (slots_of c.serve_call.new.world) c.in-Some.request c.args.console.now c.serve_call.new.console
    (g.R.Read.remaining c.args.reader.now) (g.R.Read.remaining c.serve_call.new.reader) (g.W.Write.contents c.args.writer.now) (g.W.Write.contents c.serve_call.new.writer)
    (c.run_to_request.ensures.streamed c.args.console.now (g.R.Read.remaining c.args.reader.now) (g.W.Write.contents c.args.writer.now)) c.in-Some.ensures.asked served) c.serve_call.ensures.served

pub returns-clause-within : goal.returns-clause-within
returns-clause-within g c = IfOk-weaker c.serve_call.result _ _ (λ u served.
    served_within c.args.budget c.args.sandbox (slots_of c.run_to_request.new.world) (slots_of c.serve_call.new.world) c.in-Some.request c.args.console.now c.serve_call.new.console
    (g.R.Read.remaining c.args.reader.now) (g.R.Read.remaining c.serve_call.new.reader) (g.W.Write.contents c.args.writer.now) (g.W.Write.contents c.serve_call.new.writer)
    c.in-Some.ensures.asked served c.run_to_request.ensures.within) c.serve_call.ensures.served

pub returns-in_default-clause-less : goal.returns-in_default-clause-less
returns-in_default-clause-less g c = if_ok c.flush_output.result _ (c.run_to_request.ensures.less c.in_default.is)

pub returns-clause-less : goal.returns-clause-less
returns-clause-less g c = IfOk-weaker c.serve_call.result _ _ (λ u served.
    reply_leaves_less c.args.budget c.args.sandbox (slots_of c.args.world.now) (slots_of c.run_to_request.new.world) (slots_of c.serve_call.new.world) (omega (arith, c.ranges.budget.fits))
    c.run_to_request.ensures.no_more c.in-Some.ensures.asked.left
    (subst (λ (n : ℕ). IsReplyTo n (slots_of c.run_to_request.new.world) (slots_of c.serve_call.new.world)) c.in-Some.ensures.asked.by served.replies)) c.serve_call.ensures.served
