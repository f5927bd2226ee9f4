use Rattle.sfi_answers.specs.Answers.{check}
use Rattle.sfi_answers.proofs.Images.{line_of_stop}
use Rattle.sfi_answers.proofs.checking.check_or_fault_answer.Goals as goal

pub returns-in-Err-clause-line : goal.returns-in-Err-clause-line
returns-in-Err-clause-line c =
    line_of_stop (check c.args.report) c.args.bytes.now c.in-Err.stop c.stop_answer.result c.in-Err.ensures.which c.stop_answer.ensures.memory c.stop_answer.ensures.text
