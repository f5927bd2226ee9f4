use Rattle.sfi_tool.proofs.Prelude.{slice_get, string_bytes, slots_of, view}
use Rattle.std.proofs.lemmas.Result.{on_ok_weaker}
use Rattle.sfi_tool.proofs.StateTexts.{adds_state, not_exited}
use Rattle.sfi_tool.proofs.states.push_state_unless_exited.Goals as goal

pub returns-in-Ready : goal.returns-in-Ready
returns-in-Ready g c = λ format.
    let p = view format c.args.part.now in
    let old = string_bytes c.args.out.now in
    let new = string_bytes c.push_state.new.out in
    on_ok_weaker c.push_state.result
    (λ h. adds_state c.args.sandbox p (slice_get (slots_of c.args.world.now) c.args.sandbox) c.in-Some.status c.in-Some-cpu.cpu.now old new c.in-Some.ensures c.in-Some-cpu.ensures
    (not_exited c.args.sandbox p c.in-Some.status c.in-Some-cpu.cpu.now old new c.in-Ready.is h))
    (c.push_state.ensures format)
