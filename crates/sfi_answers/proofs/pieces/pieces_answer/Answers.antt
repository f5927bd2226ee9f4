use Rattle.std.proofs.Common.{Err, ◌∙◌, ap, refl, subst, sym}
use Rattle.std.proofs.lemmas.Result.{IfOk-weaker}
use Rattle.sfi_io.specs.declared.hexadecimal.HexFault.{HexFault}
use Rattle.sfi_io.specs.declared.text.TextStop.{TextStop}
use Rattle.sfi_answers.specs.FaultTexts.{stop_text}
use Rattle.sfi_answers.specs.declared.fault.InputFault.TheVariants.{Hex}
use Rattle.sfi_answers.specs.declared.fault.Stop.TheVariants.{Input}
use Rattle.sfi_answers.specs.private.{IsLineOf, SaysOf, is_stopped, known}
use Rattle.sfi_answers.specs.declared.pieces.PieceState.TheVariants.{Reading}
use Rattle.sfi_answers.proofs.InputPieces.{says_pieces, stops_pieces}
use Rattle.sfi_answers.proofs.pieces.pieces_answer.Goals as goal

pub stream_answer-requires : goal.stream_answer-requires
stream_answer-requires g c =
    let j = c.check_stream-verdict.ensures.judged in
    (j.0, j.1, j.3)

pub returns-in-Ok-clause-says : goal.returns-in-Ok-clause-says
returns-in-Ok-clause-says g c =
    IfOk-weaker c.stream_answer.result _ _
    (λ a says less. says_pieces (λ s. known s.state (g.P.PieceReader.comes s.pieces)) (λ s. is_stopped s.state) (record { pieces = c.args.pieces; state = Reading }) c.check_stream-verdict.new.source c.check_stream-verdict.result
    (g.P.PieceReader.comes c.args.pieces) (λ r. SaysOf r a.status a.output.items) refl c.check_stream-verdict.ensures.judged c.in-Ok.ensures.spelled (says less))
    c.stream_answer.ensures.says

pub returns-in-Ok-clause-line : goal.returns-in-Ok-clause-line
returns-in-Ok-clause-line g c =
    IfOk-weaker c.stream_answer.result _ _
    (λ a line two. says_pieces (λ s. known s.state (g.P.PieceReader.comes s.pieces)) (λ s. is_stopped s.state) (record { pieces = c.args.pieces; state = Reading }) c.check_stream-verdict.new.source c.check_stream-verdict.result
    (g.P.PieceReader.comes c.args.pieces) (λ r. IsLineOf r a.output.items) refl c.check_stream-verdict.ensures.judged c.in-Ok.ensures.spelled (line two))
    c.stream_answer.ensures.line

pub returns-in-Err-Fault-clause-line : goal.returns-in-Err-Fault-clause-line
returns-in-Err-Fault-clause-line g c _ =
    let is = c.in-Err-Fault.field-0-is in
    let line = c.in_ok-stop_answer-in-Err-Fault.field-0.output.items in
    stops_pieces (λ s. known s.state (g.P.PieceReader.comes s.pieces)) (λ s. is_stopped s.state) (record { pieces = c.args.pieces; state = Reading }) c.check_stream-verdict.new.source c.check_stream-verdict.result
    (g.P.PieceReader.comes c.args.pieces) c.in-Err-Fault.field-0 (λ r. IsLineOf r line) refl c.check_stream-verdict.ensures.judged c.in-Err-Fault.ensures.stop (λ e. let no = sym is ∙ e in cc)
    (subst (λ (stop : TextStop). IsLineOf (Err stop) line) (sym is)
    (c.in_ok-stop_answer-in-Err-Fault.ensures.text ∙ ap (λ (fault : HexFault). stop_text (Input (Hex fault))) c.in-Err-Fault.fault-is))

pub returns-in-Err-TooLarge-clause-line : goal.returns-in-Err-TooLarge-clause-line
returns-in-Err-TooLarge-clause-line g c _ =
    let is = c.in-Err-TooLarge.field-0-is in
    let line = c.in_ok-stop_answer-in-Err-TooLarge.field-0.output.items in
    stops_pieces (λ s. known s.state (g.P.PieceReader.comes s.pieces)) (λ s. is_stopped s.state) (record { pieces = c.args.pieces; state = Reading }) c.check_stream-verdict.new.source c.check_stream-verdict.result
    (g.P.PieceReader.comes c.args.pieces) c.in-Err-TooLarge.field-0 (λ r. IsLineOf r line) refl c.check_stream-verdict.ensures.judged c.in-Err-TooLarge.ensures.stop (λ e. let no = sym is ∙ e in cc)
    (subst (λ (stop : TextStop). IsLineOf (Err stop) line) (sym is) c.in_ok-stop_answer-in-Err-TooLarge.ensures.text)
