use Rattle.std.specs.Prelude.{Some}
use Rattle.sfi_tool.proofs.Jobs.{ran_streamed}
use Rattle.sfi_tool.proofs.tool.run_job_on_text.Goals as goal

pub returns-in-Ok-clause-runs : goal.returns-in-Ok-clause-runs
returns-in-Ok-clause-runs g c =
    ran_streamed c.args.job.now (Some c.args.text.now) _ _ c.in-Ok.answer.status _ c.in-Ok.answer.output.items c.deref.result.now c.deref.ensures.value c.in-Ok.ensures.statuses c.in-Ok.ensures.says c.in-Ok.ensures.line
    c.status_after_writing.ensures.status c.status_after_writing.ensures.whole c.status_after_writing.ensures.appends
