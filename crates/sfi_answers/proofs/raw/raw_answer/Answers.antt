use Rattle.std.proofs.Common.{false}
use Rattle.std.proofs.lemmas.Result.{IfOk-weaker}
use Rattle.sfi_answers.specs.Answers.{SaysVerdict, check}
use Rattle.sfi_answers.specs.FaultTexts.{IsFaultLine}
use Rattle.sfi_answers.proofs.Images.{judged}
use Rattle.sfi_answers.proofs.raw.raw_answer.Goals as goal

pub stream_answer-requires : goal.stream_answer-requires
stream_answer-requires g c =
    let j = c.check_stream-verdict.ensures.judged in
    (j.0, j.1, j.3)

pub returns-clause-says : goal.returns-clause-says
returns-clause-says g c =
    IfOk-weaker c.stream_answer.result _ _
    (λ a says refused. judged (λ s. g.R.Read.remaining s.reader.now) (λ s. s.failed) c.new-source.result c.check_stream-verdict.new.source c.check_stream-verdict.result
    (g.R.Read.remaining c.args.reader.now) (λ all. SaysVerdict false all a.status a.output.items) c.new-source.ensures.reader c.check_stream-verdict.ensures.judged (says refused))
    c.stream_answer.ensures.says

pub returns-clause-line : goal.returns-clause-line
returns-clause-line g c =
    IfOk-weaker c.stream_answer.result _ _
    (λ a line two. judged (λ s. g.R.Read.remaining s.reader.now) (λ s. s.failed) c.new-source.result c.check_stream-verdict.new.source c.check_stream-verdict.result
    (g.R.Read.remaining c.args.reader.now) (λ bytes. IsFaultLine (check false) bytes a.output.items) c.new-source.ensures.reader c.check_stream-verdict.ensures.judged (line two))
    c.stream_answer.ensures.line
