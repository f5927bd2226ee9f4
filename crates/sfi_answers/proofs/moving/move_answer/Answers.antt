use Rattle.std.proofs.Common.{refl}
use Rattle.sfi_answers.proofs.Moves.{moved, refused, stopped}
use Rattle.sfi_answers.proofs.moving.move_answer.Goals as goal

pub returns-in_err-image-in-Ok : goal.returns-in_err-image-in-Ok
returns-in_err-image-in-Ok c =
    stopped c.args.raw c.args.number c.args.to c.args.bytes.now c.in-Ok.field-0 c.in_err-image-in-Ok.field-0.0 c.from_residual.result
    c.in-Ok.ensures.accepted c.in_err-image-in-Ok.ensures.stop c.in_err-image-in-Ok.ensures.only_moved c.in-Ok.ensures.only_findings c.from_residual.ensures.1

pub returns-in-Ok : goal.returns-in-Ok
returns-in-Ok c =
    moved c.args.raw c.args.number c.args.to c.args.bytes.now c.in_ok-image-in-Ok.image.items c.in-Ok.field-0 _
    c.in-Ok.ensures.accepted c.in_ok-image-in-Ok.ensures.moved (λ e h. let no = c.in_ok-image-in-Ok.ensures.only_fault e h in absurd cc)
    c.in-Ok.ensures.only_findings refl c.in_ok-image_output-in-Ok.ensures

pub returns : goal.returns
returns c = refused c.args.raw c.args.number c.args.to c.args.bytes.now c.refusal_answer.result c.refusal_answer.ensures
