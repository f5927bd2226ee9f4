use Rattle.std.proofs.Common.{inr, subst}
use Rattle.sfi_text.specs.Lines.{NumberDeparts}
use Rattle.sfi_text.proofs.data.read_one.Goals as goal

pub returns-in-Err-clause-cause : goal.returns-in-Err-clause-cause
returns-in-Err-clause-cause c = inr (subst (λ k. NumberDeparts k c.args.text.now c.in-Err.e) c.kind.ensures c.in-Err.ensures.cause)
