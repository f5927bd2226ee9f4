use Rattle.sfi_rewrite.proofs.Prelude.{subst, sym, AllZip, UnlessMemory, IsSourceFault, IsRewritten, err_from_is_err_and}
use Rattle.sfi_rewrite.proofs.Sources.{rewritten_has_none, is_placed, fault_answered}
use Rattle.sfi_rewrite.proofs.Standing.{all_stand}
use Rattle.sfi_rewrite.proofs.parts.rewrite.Goals as goal

pub returns-in_err-place_parts-clause-only_fault : goal.returns-in_err-place_parts-clause-only_fault
returns-in_err-place_parts-clause-only_fault c fault is =
    let p = err_from_is_err_and c.from_residual.result c.from_residual.ensures.1 in
    rw (p.1, p.2)
    (fault_answered c.args.source.now fault c.in_err-place_parts.field-0.0
    (subst (λ v. UnlessMemory (IsSourceFault v) c.in_err-place_parts.field-0.0) c.parts.ensures.parts c.in_err-place_parts.ensures.refused) is)

pub new-requires : goal.new-requires
new-requires c =
    is_placed c.args.source.now c.in_ok-place_parts.field-0.items c.parts.ensures.right
    (subst (λ v. AllZip IsRewritten v c.in_ok-place_parts.field-0.items) c.parts.ensures.parts c.in_ok-place_parts.ensures.rewritten)
    c.in_ok-place_parts.ensures.right

pub returns-clause-only_fault : goal.returns-clause-only_fault
returns-clause-only_fault c fault is =
    absurd (rewritten_has_none c.args.source.now c.in_ok-place_parts.field-0.items fault
    (subst (λ v. AllZip IsRewritten v c.in_ok-place_parts.field-0.items) c.parts.ensures.parts c.in_ok-place_parts.ensures.rewritten) is)

pub returns-clause-transparent : goal.returns-clause-transparent
returns-clause-transparent c =
    all_stand c.args.source.now c.new.result
    (subst (λ v. AllZip IsRewritten c.args.source.now v) (sym c.new.ensures)
    (subst (λ v. AllZip IsRewritten v c.in_ok-place_parts.field-0.items) c.parts.ensures.parts c.in_ok-place_parts.ensures.rewritten))
