use Rattle.std.proofs.lemmas.Result.{IfOk-weaker}
use Rattle.sfi_tool.proofs.Prelude.{slots_of}
use Rattle.sfi_tool.proofs.Calls.{if_err, nothing_cut, put_cut, put_refused, put_served, put_whole}
use Rattle.sfi_tool.proofs.Turns.{keeps_same}
use Rattle.sfi_tool.proofs.serving.serve_put.Goals as goal

pub returns-then-not-copy_handed-clause-served : goal.returns-then-not-copy_handed-clause-served
returns-then-not-copy_handed-clause-served g c = λ d known.
    IfOk-weaker c.reply_with.result _ _ (λ u goes. put_refused (slots_of c.args.world.now) c.args.request c.requires.waits d (slots_of c.reply_with.new.world) goes c.if-not-copy_handed.ensures.refused c.requires.put known
    (g.W.Write.contents c.args.writer.now)) c.reply_with.ensures

pub returns-then-not-copy_handed-clause-cut : goal.returns-then-not-copy_handed-clause-cut
returns-then-not-copy_handed-clause-cut g c = λ d.
    if_err c.reply_with.result _ (nothing_cut c.args.request.sandbox (slots_of c.args.world.now) d (g.W.Write.contents c.args.writer.now) (g.W.Write.contents c.args.writer.now) (keeps_same (g.W.Write.contents c.args.writer.now)))

pub returns-then-not-write_out-clause-cut : goal.returns-then-not-write_out-clause-cut
returns-then-not-write_out-clause-cut g c = λ d.
    let part = c.if-not-write_out.ensures.part in
    put_cut (slots_of c.args.world.now) c.args.request c.requires.waits d _ part.0 part.1 (g.W.Write.contents c.args.writer.now) (g.W.Write.contents c.write_out.new.writer) c.requires.put
    c.if-not-copy_handed.ensures.handed part.2 part.4

pub returns-clause-served : goal.returns-clause-served
returns-clause-served g c = λ d known.
    IfOk-weaker c.reply_with-2.result _ _ (λ u goes. put_served (slots_of c.args.world.now) c.args.request c.requires.waits d (slots_of c.reply_with-2.new.world) _ known
    (g.W.Write.contents c.args.writer.now) (g.W.Write.contents c.write_out.new.writer) c.requires.put c.if-not-copy_handed.ensures.handed goes c.if-not-write_out.ensures.whole) c.reply_with-2.ensures

pub returns-clause-cut : goal.returns-clause-cut
returns-clause-cut g c = λ d.
    if_err c.reply_with-2.result _ (put_whole (slots_of c.args.world.now) c.args.request c.requires.waits d _ (g.W.Write.contents c.args.writer.now) (g.W.Write.contents c.write_out.new.writer) c.requires.put
    c.if-not-copy_handed.ensures.handed c.if-not-write_out.ensures.whole)
