use Rattle.sfi_rewrite.proofs.Prelude.{sym, subst, IsExpansionOf}
use Rattle.sfi_rewrite.proofs.expansion.expand.Goals as goal

pub returns-in-Plain : goal.returns-in-Plain
returns-in-Plain c =
    let item = c.args.item.now in
    subst (λ b. IsExpansionOf c.args.format item.line item.rvc b c.expand_without_name.result) (sym c.in-Plain.is) c.expand_without_name.ensures
