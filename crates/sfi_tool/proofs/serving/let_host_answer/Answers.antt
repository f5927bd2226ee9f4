use Rattle.sfi_tool.proofs.Prelude.{slots_of}
use Rattle.sfi_tool.proofs.Calls.{answered_by}
use Rattle.sfi_tool.proofs.serving.let_host_answer.Goals as goal

pub returns-in-Done : goal.returns-in-Done
returns-in-Done g c = answered_by g.G.Gates.answer (slots_of c.args.world.now) (slots_of c.run_plan.new.self) c.args.request c.requires c.args.gates.now c.run_plan.new.gates (c.run_plan.ensures.done c.in-Done.is)
