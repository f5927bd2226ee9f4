use Rattle.sfi_host.specs.Plans.{IsCutJoint}
use Rattle.sfi_host.specs.Worlds.{slots_of}
use Rattle.sfi_host.proofs.Facts.{some_machine}
use Rattle.example_host.specs.Functions.{plan_of}
use Rattle.example_host.proofs.Calling.{seat_there, room_stays, lies_there, others_end, cut_first}
use Rattle.example_host.proofs.function.Function.run.Goals as goal

pub returns-clause-memory : goal.returns-clause-memory
returns-clause-memory g c = λ cut machine is.
    cut_first c.run_plan.result
    (λ k. IsCutJoint machine g.G.Gates.answer g.G.Gates.may_refuse (plan_of c.args.self) (slots_of c.args.world.now) c.args.gates.now k (slots_of c.run_plan.new.self) c.run_plan.new.gates)
    c.run_plan.ensures.place (λ turn e. c.run_plan.ensures.memory turn e machine is) cut

pub returns-clause-room : goal.returns-clause-room
returns-clause-room g c = λ n h.
    let f = c.args.self in
    let found = seat_there c.args.world.now f.sandbox f.text_address n h in
    let after = lies_there c.run_plan.result some_machine.0 g.G.Gates.answer g.G.Gates.may_refuse (plan_of f) c.args.world.now c.run_plan.new.self c.args.gates.now c.run_plan.new.gates
    (c.run_plan.ensures.runs some_machine.0 some_machine.1) c.stays_safe.ensures f.sandbox found.0 found.1 in
    room_stays c.args.world.now c.run_plan.new.self f.sandbox f.text_address n found.0 after.0 found.1 after.1 after.2 c.run_plan.ensures.safe h

pub returns-clause-others : goal.returns-clause-others
returns-clause-others g c =
    let f = c.args.self in
    others_end c.run_plan.result some_machine.0 g.G.Gates.answer g.G.Gates.may_refuse (record { sandbox = f.sandbox; steps = f.steps }) c.args.world.now c.run_plan.new.self c.args.gates.now c.run_plan.new.gates
    (λ e. c.run_plan.ensures.done e some_machine.0 some_machine.1) (λ turn e. c.run_plan.ensures.memory turn e some_machine.0 some_machine.1)
