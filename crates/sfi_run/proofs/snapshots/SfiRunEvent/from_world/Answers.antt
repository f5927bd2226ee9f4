use Rattle.sfi_run.proofs.Prelude.{◌≡◌, ap, ◌∙◌, sym, subst, slots_of}
use Rattle.std.proofs.Common.{Option, true, false, IfSome, is_some, arith}
use Rattle.sfi_host.specs.declared.guest.Request.{Request}
use Rattle.sfi_host.specs.Waiting.{AsksAtGate}
use Rattle.sfi_run.specs.Snapshots.{status_event}
use Rattle.sfi_run.proofs.Events.{no_hart, no_status, call_is, status_is}
use Rattle.sfi_run.proofs.snapshots.SfiRunEvent.from_world.Goals as goal

pub overflow_cast-request : goal.overflow_cast-request
overflow_cast-request c =
    let asks = subst (λ (o : Option Request). IfSome o (λ r. AsksAtGate (slots_of c.args.world.now) c.args.sandbox r)) c.in-Some-waiting.is c.requires.gate in
    let few = asks.few in
    omega (arith, few)

pub returns-in_default : goal.returns-in_default
returns-in_default c = rw c.none.ensures (no_hart (slots_of c.args.world.now) c.args.sandbox (sym c.in_default.ensures))

pub returns-in_default-status : goal.returns-in_default-status
returns-in_default-status c = rw c.none-in_default-status.ensures (no_status (slots_of c.args.world.now) c.args.sandbox (sym c.status.ensures ∙ c.in_default-status.is))

pub returns-in-Some-waiting : goal.returns-in-Some-waiting
returns-in-Some-waiting c =
    call_is (slots_of c.args.world.now) c.args.sandbox c.in-Some-waiting.request c.in-Some.cpu.now c.of_call.result
    (c.requires.there.0 (ap is_some c.in-Some-waiting.is))
    (subst (λ (o : Option Request). IfSome o (λ r. AsksAtGate (slots_of c.args.world.now) c.args.sandbox r)) c.in-Some-waiting.is c.requires.gate)
    (sym c.in-Some.ensures) c.of_call.ensures

pub returns-in-None : goal.returns-in-None
returns-in-None c =
    status_is (slots_of c.args.world.now) c.args.sandbox c.in-Some-status.status c.in-Some.cpu.now c.of_status.result
    (λ at. let z : true ≡ false = sym (c.requires.there.1 at) ∙ ap is_some c.in-None.is in absurd (cc))
    (sym c.status.ensures ∙ c.in-Some-status.is) (sym c.in-Some.ensures) (c.of_status.ensures ∙ ap (status_event c.in-Some-status.status) c.pc.ensures.value)
