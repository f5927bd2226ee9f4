use Rattle.sfi_check.proofs.Prelude.{rules, HasFindings, IsAccepted}
use Rattle.sfi_check.proofs.OneVerdict as verdicts
use Rattle.sfi_check.proofs.Verdicts.{fault_layout}
use Rattle.sfi_image.proofs.Facts.{never_both, one_fault}
use Rattle.std.proofs.lemmas.Result.{err_from_is_err_and}
use Rattle.sfi_check.proofs.verdict.check.Goals as goal

pub returns-in_err-image-clause-only_layout : goal.returns-in_err-image-clause-only_layout
returns-in_err-image-clause-only_layout c = λ k wrong.
    let p = err_from_is_err_and c.from_residual.result c.from_residual.ensures.1 in
    rw (p.1, p.2) (fault_layout c.args.bytes.now c.in_err-image.field-0.0 (one_fault c.args.bytes.now) c.in_err-image.ensures.fault k wrong)

pub returns-then-is_empty-clause-only_layout : goal.returns-then-is_empty-clause-only_layout
returns-then-is_empty-clause-only_layout c = λ k wrong. never_both c.args.bytes.now c.in_ok-image.image k c.in_ok-image.ensures.image wrong

pub returns-then-is_empty-clause-only_findings : goal.returns-then-is_empty-clause-only_findings
returns-then-is_empty-clause-only_findings c = λ found has.
    let clean : IsAccepted c.args.bytes.now c.in_ok-image.image = search rules in
    verdicts.never_both c.args.bytes.now c.in_ok-image.image found clean has

pub returns-clause-only_layout : goal.returns-clause-only_layout
returns-clause-only_layout c = λ k wrong. never_both c.args.bytes.now c.in_ok-image.image k c.in_ok-image.ensures.image wrong

pub returns-clause-only_findings : goal.returns-clause-only_findings
returns-clause-only_findings c = λ found has.
    let mine : HasFindings c.args.bytes.now c.in-Ok.found.items = search rules in
    verdicts.one_list c.args.bytes.now c.in-Ok.found.items found mine has

pub returns-clause-only_accepted : goal.returns-clause-only_accepted
returns-clause-only_accepted c = λ parts ok.
    let mine : HasFindings c.args.bytes.now c.in-Ok.found.items = search rules in
    verdicts.never_both c.args.bytes.now parts c.in-Ok.found.items ok mine
