use Rattle.std.proofs.Common.{sym, ap, ◌∙◌, Ok}
use Rattle.x86_step.specs.State.{Core, with_register, with_flags}
use Rattle.x86_step.specs.Step.{unknown}
use Rattle.x86_step.proofs.machine.Core.divide.Goals as goal

pub returns-clause-value : goal.returns-clause-value
returns-clause-value c =
    rw (sym c.parts_of.ensures) (rw c.in-Some.is (ap (λ (k : Core). Ok (with_flags k unknown)) (sym (c.set-2.ensures.set ∙ ap (λ (k : Core). with_register k 2 c.in-Some.remainder) c.set.ensures.set))))
