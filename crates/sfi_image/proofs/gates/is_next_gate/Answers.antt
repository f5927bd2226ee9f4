use Rattle.sfi_image.proofs.Prelude.{refl, sym, ◌∙◌, arith}
use Rattle.sfi_image.proofs.Tests.{above_last, none_last, next_gate, next_above}
use Rattle.sfi_image.proofs.gates.is_next_gate.Goals as goal

pub returns-in-Some-clause-next : goal.returns-in-Some-clause-next
returns-in-Some-clause-next c = λ gs e are.
    let above = above_last gs c.args.gate.address c.in-Some.last are.ascending (sym c.in-Some.is ∙ e) in
    (λ t. next_gate _ _ _ are (c.if-not-is_bundle_start.ensures.0 refl) (omega arith) (above.0 t), λ more. above.1 (next_above _ _ _ more))

pub returns-in-None-clause-next : goal.returns-in-None-clause-next
returns-in-None-clause-next c = λ gs e are.
    (λ t. next_gate _ _ _ are (c.if-not-is_bundle_start.ensures.0 refl) (omega arith) (none_last gs c.args.gate.address (sym c.in-None.is ∙ e)), λ more. refl)
