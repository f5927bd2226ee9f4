use Rattle.sfi_tool.proofs.Prelude.{◌∙◌, List, refl, subst, slots_of, round_of}
use Rattle.sfi_host.specs.declared.turn.Turn.{Turn}
use Rattle.sfi_host.specs.Consoles.{console}
use Rattle.sfi_host.specs.Plans.{IsJoint}
use Rattle.sfi_host.proofs.Facts.{plans_follow}
use Rattle.sfi_tool.specs.Running.{plan_of}
use Rattle.sfi_tool.proofs.Turns.{no_turn, one_more_round}
use Rattle.sfi_tool.proofs.running.take_rounds.Goals as goal

pub loop-init : goal.loop-init
loop-init g c machine is =
    no_turn machine console (slots_of c.args.world.now) c.args.console.now

pub loop-preserved : goal.loop-preserved
loop-preserved g c machine is =
    let k = c.loop.counter in
    let quantum = c.args.quantum in
    let count = c.args.count in
    let old = slots_of c.args.world.now in
    let mid = slots_of c.loop.world in
    let new = slots_of c.run_plan.new.self in
    let after = c.run_plan.new.gates in
    let round : IsJoint machine console (round_of quantum count) mid c.loop.console new after =
    subst (λ (p : List Turn). IsJoint machine console p mid c.loop.console new after) (c.deref.ensures.value ∙ c.in_ok-round.ensures)
    (c.in-Done.ensures.done refl machine is) in
    subst (λ (p : List Turn). IsJoint machine console p old c.args.console.now new after) (one_more_round k quantum count)
    (plans_follow machine console (plan_of k quantum count) (round_of quantum count)
    old mid new c.args.console.now c.loop.console after (c.loop.invariant machine is) round)
