use Rattle.sfi_answers.proofs.Images.{line_of_stop}
use Rattle.sfi_tool.specs.Says.{meaning_of}
use Rattle.sfi_tool.proofs.Prelude.{arith}
use Rattle.sfi_tool.proofs.Jobs.{status_of_answer, too_large_line}
use Rattle.sfi_tool.proofs.answering.answer_job.Goals as goal

pub returns-in-Ok-clause-statuses : goal.returns-in-Ok-clause-statuses
returns-in-Ok-clause-statuses c = omega (arith, status_of_answer _ _ _ _ c.in-Ok.ensures.says)

pub returns-in-Ok-clause-line : goal.returns-in-Ok-clause-line
returns-in-Ok-clause-line c two = absurd (omega (arith, two, status_of_answer _ _ _ _ c.in-Ok.ensures.says))

pub returns-in-Err-clause-line : goal.returns-in-Err-clause-line
returns-in-Err-clause-line c =
    line_of_stop (meaning_of c.args.job.now) c.args.text.now c.in-Err.stop c.stop_answer-in-Err.result c.in-Err.ensures.which c.stop_answer-in-Err.ensures.memory c.stop_answer-in-Err.ensures.text

pub returns-then-text-gt-INPUT_LIMIT-clause-line : goal.returns-then-text-gt-INPUT_LIMIT-clause-line
returns-then-text-gt-INPUT_LIMIT-clause-line c =
    too_large_line c.args.job.now c.args.text.now c.stop_answer.result c.requires (omega (arith, c.if-text-gt-INPUT_LIMIT.true)) c.stop_answer.ensures.text
