use Rattle.std.proofs.Common.{List, sym, subst}
use Rattle.std.specs.Prelude.{string_bytes}
use Rattle.sfi_check.specs.declared.refusal.Refusal.{Refusal}
use Rattle.sfi_rules.specs.declared.finding.Finding.{Finding}
use Rattle.sfi_answers.specs.Answers.{IsRefusalText, SaysRefused, Refuses}
use Rattle.sfi_answers.proofs.Images.{has_fault, has_findings}
use Rattle.sfi_answers.proofs.checking.refusal_answer.Goals as goal

pub returns-in_ok-refusal_text-in-Findings : goal.returns-in_ok-refusal_text-in-Findings
returns-in_ok-refusal_text-in-Findings c =
    let text = c.in_ok-refusal_text-in-Findings.field-0 in
    has_findings c.args.report c.args.bytes.now c.in-Findings.findings c.lines.result (subst (λ (r : Refusal). Refuses c.args.bytes.now r) c.in-Findings.is c.requires)
    c.lines.ensures.status
    (subst (IsRefusalText c.args.report c.args.bytes.now c.in-Findings.findings.items) (sym c.lines.ensures.output)
    (subst (λ (found : List Finding). IsRefusalText c.args.report c.args.bytes.now found (string_bytes text)) c.as_slice.ensures.value c.in_ok-refusal_text-in-Findings.ensures))

pub returns-in-Layout : goal.returns-in-Layout
returns-in-Layout c =
    has_fault (SaysRefused c.args.report) c.args.bytes.now c.in-Layout.fault (subst (λ (r : Refusal). Refuses c.args.bytes.now r) c.in-Layout.is c.requires)
