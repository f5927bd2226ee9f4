use Rattle.std.proofs.Common.{ap, length, arith}
use Rattle.sfi_image.proofs.Seeking.{length-part, length-gates}
use Rattle.sfi_places.proofs.moving.fields_of_sandbox.Goals as goal

pub overflow_sub-result : goal.overflow_sub-result
overflow_sub-result c =
    let h = rw c.in-Some.is at c.in_ok-view.ensures.found in
    let v = h.2 in
    omega (arith, h.3, length-part h.0, ap length v.gates_are, length-gates h.0.gates, ap length v.code_is, ap length v.init_is)

pub overflow_sub-result-2 : goal.overflow_sub-result-2
overflow_sub-result-2 c =
    let h = rw c.in-Some.is at c.in_ok-view.ensures.found in
    let v = h.2 in
    omega (arith, h.3, length-part h.0, ap length v.gates_are, length-gates h.0.gates, ap length v.code_is, ap length v.init_is)

pub returns-clause-found : goal.returns-clause-found
returns-clause-found c =
    let h = rw c.in-Some.is at c.in_ok-view.ensures.found in
    let v = h.2 in
    (h.0, h.1, v.fields_are, omega (arith, h.3, length-part h.0, ap length v.gates_are, length-gates h.0.gates, ap length v.code_is, ap length v.init_is), h.3)
