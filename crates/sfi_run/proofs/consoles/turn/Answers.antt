use Rattle.std.proofs.Common.{◌≡◌, ℕ, refl, subst, arith}
use Rattle.sfi_host.specs.declared.turn.RunAnswer.TheVariants.{Memory}
use Rattle.sfi_host.specs.Consoles.{console, console_may_refuse}
use Rattle.sfi_host.specs.WorldSteps.{HaveRunJointly}
use Rattle.sfi_host.specs.Plans.{IsCutJoint}
use Rattle.sfi_host.specs.Worlds.{slots_of}
use Rattle.sfi_run.specs.Changes.{plan_of}
use Rattle.sfi_run.proofs.consoles.turn.Goals as goal

pub returns-in-Memory-clause-short : goal.returns-in-Memory-clause-short
returns-in-Memory-clause-short c =
    let e = c.in-Memory.ensures in
    let place = c.in-Memory.turn in
    let below = e.place place refl in
    let first : place ≡ 0 = omega (arith, below) in
    let plan = plan_of c.args.sandbox c.args.steps in
    record {
      cut = λ machine is. subst (λ (k : ℕ). IsCutJoint machine console console_may_refuse plan (slots_of c.args.world.now) c.args.console.now k (slots_of c.run_plan.new.self) c.run_plan.new.gates) first (e.memory place refl machine is);
      runs = λ machine is. subst (λ (k : ℕ). HaveRunJointly (Memory k) machine console console_may_refuse plan c.args.world.now c.args.console.now c.run_plan.new.self c.run_plan.new.gates) first (e.runs machine is);
      still = record { safe = e.safe; stops = e.stops; outside = e.outside };
    }
