use Rattle.sfi_tool.proofs.Prelude.{slots_of}
use Rattle.sfi_tool.proofs.Calls.{if_err}
use Rattle.sfi_tool.proofs.Turns.{cut_after_all, none_ran, one_more_ran}
use Rattle.sfi_tool.proofs.executing.execute_sandboxes.Goals as goal

pub loop-sandbox-init : goal.loop-sandbox-init
loop-sandbox-init g c = (
  none_ran c.args.budget (slots_of c.args.world.now) c.args.console.now (g.R.Read.remaining c.args.reader.now) (g.W.Write.contents c.args.writer.now),
  c.requires.within,
)

pub loop-sandbox-preserved : goal.loop-sandbox-preserved
loop-sandbox-preserved g c = (
  one_more_ran c.args.budget c.loop-sandbox.sandbox (slots_of c.args.world.now) (slots_of c.loop-sandbox.world) (slots_of c.execute_sandbox.new.world) c.args.console.now c.loop-sandbox.console c.execute_sandbox.new.console
      (g.R.Read.remaining c.args.reader.now) (g.R.Read.remaining c.loop-sandbox.reader) (g.R.Read.remaining c.execute_sandbox.new.reader) (g.W.Write.contents c.args.writer.now) (g.W.Write.contents c.loop-sandbox.writer)
      (g.W.Write.contents c.execute_sandbox.new.writer) c.loop-sandbox.invariant.0 c.in_ok-execute_sandbox.ensures.streamed c.in_ok-execute_sandbox.ensures.ended c.in_ok-execute_sandbox.ensures.within,
  c.in_ok-execute_sandbox.ensures.within,
)

pub returns-in_err-execute_sandbox-clause-cut : goal.returns-in_err-execute_sandbox-clause-cut
returns-in_err-execute_sandbox-clause-cut g c = if_err _ _
    (cut_after_all c.args.budget c.loop-sandbox.sandbox (slots_of c.args.world.now) (slots_of c.loop-sandbox.world) c.args.console.now c.loop-sandbox.console (g.R.Read.remaining c.args.reader.now)
    (g.R.Read.remaining c.loop-sandbox.reader) (g.W.Write.contents c.args.writer.now) (g.W.Write.contents c.loop-sandbox.writer) (g.W.Write.contents c.execute_sandbox.new.writer)
    c.loop-sandbox.invariant.0 c.in_err-execute_sandbox.ensures.cut)
