use Rattle.std.proofs.Common.{◌∙◌, inl, refl}
use Rattle.sfi_answers.specs.Answers.{SaysVerdict}
use Rattle.sfi_answers.proofs.Images.{accepted}
use Rattle.sfi_answers.proofs.checking.check_answer.Goals as goal

pub returns-in_ok-accepted_line-in-Ok : goal.returns-in_ok-accepted_line-in-Ok
returns-in_ok-accepted_line-in-Ok c =
    accepted (SaysVerdict c.args.report) c.args.bytes.now c.lines.result c.lines.ensures.status
    (inl (record {
      parts = c.in-Ok.accepted;
      accepted = c.in-Ok.ensures.accepted;
      status_is = c.lines.ensures.status;
      text_is = c.lines.ensures.output ∙ c.in_ok-accepted_line-in-Ok.ensures ∙ rw (c.sandbox_count.ensures.count, c.bundle_count.ensures.count) refl;
    }))
    c.in-Ok.ensures.only_findings c.in-Ok.ensures.only_layout
