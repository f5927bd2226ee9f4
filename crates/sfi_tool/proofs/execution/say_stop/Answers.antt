use Rattle.sfi_tool.proofs.Prelude.{◌≡◌, ◌∙◌}
use Rattle.sfi_tool.proofs.Jobs.{tells_stop}
use Rattle.sfi_tool.proofs.execution.say_stop.Goals as goal

pub returns-in-Ok : goal.returns-in-Ok
returns-in-Ok g c = tells_stop (c.say.new.errors ≡ c.args.errors.now) (g.E.Write.contents c.args.errors.now) (g.E.Write.contents c.say.new.errors) c.say.result
    c.args.stop c.deref.result.now c.in-Ok.ensures.memory (c.deref.ensures.value ∙ c.in-Ok.ensures.text) c.say.ensures
