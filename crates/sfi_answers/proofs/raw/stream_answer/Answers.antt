use Rattle.std.proofs.Common.{◌∙◌, ℕ, false, subst, sym}
use Rattle.sfi_answers.specs.Answers.{SaysVerdict}
use Rattle.sfi_check.specs.declared.stream_answer.StreamAnswer.{StreamAnswer}
use Rattle.sfi_answers.specs.private.{IsJudged}
use Rattle.sfi_answers.proofs.Images.{says_accepted, says_refused, streamed_line}
use Rattle.sfi_answers.proofs.raw.stream_answer.Goals as goal

pub returns-in_ok-accepted_line-in-Accepted-clause-says : goal.returns-in_ok-accepted_line-in-Accepted-clause-says
returns-in_ok-accepted_line-in-Accepted-clause-says c _ all j =
    subst (λ (n : ℕ). SaysVerdict false all n c.lines.result.output.items) (sym c.lines.ensures.status)
    (says_accepted c.in-Accepted.sandboxes c.in-Accepted.bundles c.lines.result.output.items all (c.lines.ensures.output ∙ c.in_ok-accepted_line-in-Accepted.ensures)
    (subst (λ (a : StreamAnswer). IsJudged a all) c.in-Accepted.is j))

pub returns-in_ok-refused_line-in-Findings-clause-says : goal.returns-in_ok-refused_line-in-Findings-clause-says
returns-in_ok-refused_line-in-Findings-clause-says c _ all j =
    subst (λ (n : ℕ). SaysVerdict false all n c.lines-in-Findings.result.output.items) (sym c.lines-in-Findings.ensures.status)
    (says_refused c.in-Findings.count c.in-Findings.first c.lines-in-Findings.result.output.items all (c.lines-in-Findings.ensures.output ∙ c.in_ok-refused_line-in-Findings.ensures)
    (subst (λ (a : StreamAnswer). IsJudged a all) c.in-Findings.is j))

pub returns-in_ok-layout_line-in-Layout-clause-line : goal.returns-in_ok-layout_line-in-Layout-clause-line
returns-in_ok-layout_line-in-Layout-clause-line c _ all j =
    streamed_line c.in-Layout.fault all c.lines-in-Layout.result.output.items (c.lines-in-Layout.ensures.output ∙ c.in_ok-layout_line-in-Layout.ensures)
    (subst (λ (a : StreamAnswer). IsJudged a all) c.in-Layout.is j)
