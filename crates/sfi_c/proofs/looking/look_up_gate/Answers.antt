use Rattle.sfi_c.proofs.Prelude.{sym, inr, slice_get_within, Found, Beyond}
use Rattle.std.proofs.lemmas.Result.{err_from_is_err_and}
use Rattle.sfi_image.proofs.CursorSteps.{past}
use Rattle.sfi_c.proofs.Lookups.{gate_said, none_said}
use Rattle.sfi_c.proofs.looking.look_up_gate.Goals as goal

pub returns-in_err-view-clause-said : goal.returns-in_err-view-clause-said
returns-in_err-view-clause-said c =
    let p = err_from_is_err_and c.from_residual.result c.from_residual.ensures.1 in
    rw (p.1, p.2) (none_said c.args.image.now c.args.number c.args.index c.in_err-view.field-0.0 c.in_err-view.ensures.missing c.in_err-view.ensures.said)

pub returns-in-Some-clause-said : goal.returns-in-Some-clause-said
returns-in-Some-clause-said c =
    let h = c.in_ok-view.ensures.found in
    gate_said c.args.image.now c.args.number c.args.index Found (h.0, h.1, slice_get_within h.0.gates c.args.index c.in-Some.gate (sym (c.in-Some.ensures h.0 h.2)))

pub returns-in-None-clause-said : goal.returns-in-None-clause-said
returns-in-None-clause-said c =
    let h = c.in_ok-view.ensures.found in
    gate_said c.args.image.now c.args.number c.args.index Beyond (inr (h.0, h.1, past h.0.gates c.args.index (c.in-None.ensures h.0 h.2)))
