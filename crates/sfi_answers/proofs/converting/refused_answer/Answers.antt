use Rattle.std.proofs.Common.{◌∙◌, refl, sym, subst}
use Rattle.sfi_check.specs.declared.conversion.ConvertFault.TheVariants.{Refused}
use Rattle.sfi_check.specs.declared.refusal.Refusal.{Refusal}
use Rattle.sfi_answers.specs.private.{HasFound}
use Rattle.sfi_answers.proofs.converting.refused_answer.Goals as goal

pub findings_line-requires : goal.findings_line-requires
findings_line-requires c none =
    c.requires c.in-Findings.found.items (subst (λ (r : Refusal). HasFound (Refused r) c.in-Findings.found.items) (sym c.in-Findings.is) refl) (sym c.as_slice.ensures.value ∙ none)
