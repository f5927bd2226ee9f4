use Rattle.std.proofs.Common.{◌∙◌, refl, sym, subst}
use Rattle.sfi_check.specs.declared.conversion.ConvertFault.{ConvertFault}
use Rattle.sfi_answers.specs.private.{HasFound, HoldsSome}
use Rattle.sfi_answers.proofs.converting.fault_answer.Goals as goal

pub refused_answer-requires : goal.refused_answer-requires
refused_answer-requires c = subst HoldsSome c.in-Refused.is c.requires

pub findings_line-requires : goal.findings_line-requires
findings_line-requires c none =
    c.requires c.in-Stack.found.items (subst (λ (f : ConvertFault). HasFound f c.in-Stack.found.items) (sym c.in-Stack.is) refl) (sym c.as_slice.ensures.value ∙ none)
