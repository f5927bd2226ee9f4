use Rattle.std.proofs.Common.{List, false, ℕ}
use Rattle.sfi_answers.specs.Answers.{SaysRefused}
use Rattle.sfi_tool.proofs.Prelude.{◌≡◌, subst, sym}
use Rattle.sfi_tool.proofs.Jobs.{tells_fault, tells_verdict}
use Rattle.sfi_tool.proofs.execution.say_refusal.Goals as goal

pub returns-in-Ok : goal.returns-in-Ok
returns-in-Ok g c = tells_verdict (c.say.new.errors ≡ c.args.errors.now) (g.E.Write.contents c.args.errors.now) (g.E.Write.contents c.say.new.errors) c.say.result
    c.args.bytes.now c.deref.result.now c.in-Ok.answer.status c.in-Ok.ensures.only_done
    (subst (λ (text : List ℕ). SaysRefused false c.args.bytes.now c.in-Ok.answer.status text) (sym c.deref.ensures.value) c.in-Ok.ensures.says) c.say.ensures

pub returns-in-Err : goal.returns-in-Err
returns-in-Err g c = tells_fault (c.say_stop.new.errors ≡ c.args.errors.now) (g.E.Write.contents c.args.errors.now) (g.E.Write.contents c.say_stop.new.errors) c.say_stop.result
    c.args.bytes.now c.in-Err.stop c.in-Err.ensures.only_done c.in-Err.ensures.which c.say_stop.ensures
