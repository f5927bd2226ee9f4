use Rattle.std.proofs.Common.{◌≢◌}
use Rattle.sfi_tool.specs.private.{left_of}
use Rattle.sfi_tool.proofs.Prelude.{◌∙◌, arith, slice_get, slots_of}
use Rattle.sfi_tool.proofs.Calls.{if_err}
use Rattle.sfi_tool.proofs.Progress.{no_turn_left}
use Rattle.sfi_tool.proofs.Turns.{cut_after, streamed_both, streamed_none}
use Rattle.sfi_tool.proofs.executing.execute_sandbox.Goals as goal

pub loop-init : goal.loop-init
loop-init g c = (
  streamed_none c.args.sandbox (slots_of c.args.world.now) c.args.console.now (g.R.Read.remaining c.args.reader.now) (g.W.Write.contents c.args.writer.now),
  c.requires.within,
  no_turn_left c.args.budget (slice_get (slots_of c.args.world.now) c.args.sandbox),
)

pub loop-preserved : goal.loop-preserved
loop-preserved g c = (
  streamed_both c.args.sandbox (slots_of c.args.world.now) (slots_of c.loop.world) (slots_of c.run_and_serve_call.new.world) c.args.console.now c.loop.console c.run_and_serve_call.new.console (g.R.Read.remaining c.args.reader.now)
      (g.R.Read.remaining c.loop.reader) (g.R.Read.remaining c.run_and_serve_call.new.reader) (g.W.Write.contents c.args.writer.now) (g.W.Write.contents c.loop.writer) (g.W.Write.contents c.run_and_serve_call.new.writer)
      c.loop.invariant.0 c.in_ok-run_and_serve_call.ensures.streamed,
  c.in_ok-run_and_serve_call.ensures.within,
  (let some : left_of c.args.budget (slice_get (slots_of c.loop.world) c.args.sandbox) ≢ 0 = λ none. c.if-steps_left-eq0.false (c.steps_left.ensures ∙ none) in
      let less = c.in_ok-run_and_serve_call.ensures.less some in
      omega (arith, less, c.loop.invariant.2)),
)

pub returns-in_err-run_and_serve_call-clause-cut : goal.returns-in_err-run_and_serve_call-clause-cut
returns-in_err-run_and_serve_call-clause-cut g c = if_err _ _
    (cut_after c.args.budget c.args.sandbox (slots_of c.args.world.now) (slots_of c.loop.world) c.args.console.now c.loop.console (g.R.Read.remaining c.args.reader.now) (g.R.Read.remaining c.loop.reader)
    (g.W.Write.contents c.args.writer.now) (g.W.Write.contents c.loop.writer) (g.W.Write.contents c.run_and_serve_call.new.writer) c.loop.invariant.0 c.in_err-run_and_serve_call.ensures.cut)
