use Rattle.sfi_check.proofs.Prelude.{sym, subst}
use Rattle.sfi_check.specs.ForC.{IsVerdictForC}
use Rattle.sfi_check.specs.declared.for_c.SfiVerdict.{SfiVerdict}
use Rattle.sfi_check.proofs.Verdicts.{means}
use Rattle.sfi_check.proofs.for_c.SfiVerdict.from_answer.Goals as goal

pub returns : goal.returns
returns c = λ bytes judged.
    subst (λ (v : SfiVerdict). IsVerdictForC bytes v) (sym c.verdict_for_c.ensures) (means bytes c.args.answer c.requires judged)
