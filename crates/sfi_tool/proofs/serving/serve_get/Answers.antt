use Rattle.std.proofs.lemmas.Result.{IfOk-weaker}
use Rattle.sfi_tool.proofs.Prelude.{arith, slots_of}
use Rattle.sfi_tool.proofs.Calls.{get_refused, get_served, if_err, nothing_cut, piece_read}
use Rattle.sfi_tool.proofs.Turns.{keeps_same}
use Rattle.sfi_tool.proofs.serving.serve_get.Goals as goal

pub returns-then-not-copy_handed-clause-served : goal.returns-then-not-copy_handed-clause-served
returns-then-not-copy_handed-clause-served g c = λ d.
    IfOk-weaker c.reply_with.result _ _ (λ u goes. get_refused (slots_of c.args.world.now) c.args.request c.requires.waits d (slots_of c.reply_with.new.world) goes c.if-not-copy_handed.ensures.refused c.requires.get
    (g.R.Read.remaining c.args.reader.now) (g.W.Write.contents c.args.writer.now)) c.reply_with.ensures

pub returns-then-not-copy_handed-clause-cut : goal.returns-then-not-copy_handed-clause-cut
returns-then-not-copy_handed-clause-cut g c = λ d.
    if_err c.reply_with.result _ (nothing_cut c.args.request.sandbox (slots_of c.args.world.now) d (g.W.Write.contents c.args.writer.now) (g.W.Write.contents c.args.writer.now) (keeps_same (g.W.Write.contents c.args.writer.now)))

pub returns-in_err-count-clause-cut : goal.returns-in_err-count-clause-cut
returns-in_err-count-clause-cut g c = λ d.
    if_err _ _ (nothing_cut c.args.request.sandbox (slots_of c.args.world.now) d (g.W.Write.contents c.args.writer.now) (g.W.Write.contents c.read_piece.new.writer) c.read_piece.ensures.flushed)

pub returns-clause-served : goal.returns-clause-served
returns-clause-served g c = λ d.
    let read = piece_read c.args.request.a1 c.in_ok-count.count c.copy_handed.new.buffer c.read_piece.new.piece _ (g.R.Read.remaining c.args.reader.now) (g.R.Read.remaining c.read_piece.new.reader)
    c.if-not-copy_handed.ensures.few (omega (arith, c.copy_handed.auto.buffer, c.requires.buffer)) c.read_piece.auto.piece c.in_ok-count.ensures.few c.in_ok-count.ensures.piece in
    IfOk-weaker c.let_host_answer.result _ _ (λ u answered. get_served (slots_of c.args.world.now) c.args.request c.requires.waits d (slots_of c.let_host_answer.new.world) _ c.let_host_answer.new.gates _ c.requires.get
    c.if-not-copy_handed.ensures.few c.if-not-copy_handed.ensures.handed read.few answered (g.R.Read.remaining c.args.reader.now) (g.R.Read.remaining c.read_piece.new.reader) (g.W.Write.contents c.args.writer.now)
    (g.W.Write.contents c.read_piece.new.writer) read c.read_piece.ensures.flushed) c.let_host_answer.ensures

pub returns-clause-cut : goal.returns-clause-cut
returns-clause-cut g c = λ d.
    if_err c.let_host_answer.result _ (nothing_cut c.args.request.sandbox (slots_of c.args.world.now) d (g.W.Write.contents c.args.writer.now) (g.W.Write.contents c.read_piece.new.writer) c.read_piece.ensures.flushed)
