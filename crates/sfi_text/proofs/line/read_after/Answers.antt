use Rattle.std.proofs.Common.{◌≡◌, ◌⊎◌, subst, sym}
use Rattle.sfi_text.specs.declared.cause.TextCause.TheVariants as cause
use Rattle.sfi_text.specs.Lines.{RefusedWith}
use Rattle.sfi_text.proofs.line.read_after.Goals as goal

pub returns-in-Err-clause-cause : goal.returns-in-Err-clause-cause
returns-in-Err-clause-cause c = subst (λ k. (c.in-Err.e ≡ cause.Memory) ⊎ RefusedWith k c.args.rest.now c.in-Err.e) (sym c.in-Numbers.is) c.in-Err.ensures.cause
