use Rattle.sfi_tool.proofs.Prelude.{inl, subst, sym}
use Rattle.sfi_tool.specs.Running.{IsRunText, SaysRun}
use Rattle.sfi_answers.proofs.Images.{accepted}
use Rattle.sfi_tool.proofs.running.run_answer.Goals as goal

pub returns-in_ok-run_and_report-in-Ok : goal.returns-in_ok-run_and_report-in-Ok
returns-in_ok-run_and_report-in-Ok c =
    accepted (SaysRun c.args.options.now) c.args.bytes.now c.lines.result c.lines.ensures.status
    (inl (record { parts = c.in-Ok.accepted; accepted = c.in-Ok.ensures.accepted; status_is = c.lines.ensures.status; text_is = subst (IsRunText c.args.options.now c.in-Ok.accepted) (sym c.lines.ensures.output) c.in_ok-run_and_report-in-Ok.ensures }))
    c.in-Ok.ensures.only_findings c.in-Ok.ensures.only_layout
