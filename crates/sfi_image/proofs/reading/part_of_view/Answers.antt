use Rattle.sfi_image.proofs.Prelude.{◌≡◌, ◌∙◌, length, slice_get, ap, arith}
use Rattle.sfi_image.proofs.CursorSteps.{one_gate_more, all_first, part_again}
use Rattle.sfi_image.proofs.reading.part_of_view.Goals as goal

pub loop-gate-preserved : goal.loop-gate-preserved
loop-gate-preserved c = λ p h.
    let items = c.in_ok-push.ensures.items in
    let count : c.len.result ≡ length c.loop-gate.gates.items = omega (arith, c.len.ensures) in
    rw (items) (one_gate_more p c.loop-gate.gates.items c.in-Some.gate (c.loop-gate.invariant p h) (c.in-Some.ensures p h ∙ ap (slice_get p.gates) count))

pub returns-clause-part : goal.returns-clause-part
returns-clause-part c = λ p h.
    let count : c.len.result ≡ length c.loop-gate.gates.items = omega (arith, c.len.ensures) in
    part_again c.args.found p c.loop-gate.gates.items h (all_first p c.loop-gate.gates.items (c.loop-gate.invariant p h) (c.in_default.ensures p h ∙ ap (slice_get p.gates) count))
