use Rattle.std.proofs.Common.{◌≢◌, arith}
use Rattle.sfi_tool.proofs.Jobs.{ran_streamed}
use Rattle.sfi_tool.proofs.tool.status_of_answer.Goals as goal

pub returns-in-Ok-clause-runs : goal.returns-in-Ok-clause-runs
returns-in-Ok-clause-runs g c = λ job input right.
    let right = rw c.in-Ok.is at right in
    ran_streamed job input _ _ c.in-Ok.answer.status _ c.in-Ok.answer.output.items c.deref.result.now c.deref.ensures.value (rw c.in-Ok.is at c.requires) right.says right.line
    c.status_after_writing.ensures.status c.status_after_writing.ensures.whole c.status_after_writing.ensures.appends

pub returns-in-Ok-clause-memory : goal.returns-in-Ok-clause-memory
returns-in-Ok-clause-memory g c = λ four.
    let few = rw c.in-Ok.is at c.requires in
    let other : c.status_after_writing.result ≢ 5 = λ five. absurd (omega (arith, five, four)) in
    let same = c.status_after_writing.ensures.status other in
    absurd (omega (arith, four, few, same))
