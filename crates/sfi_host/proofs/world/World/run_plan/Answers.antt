use Rattle.sfi_host.proofs.Prelude.{◌≡◌, ◌≢◌, ◌⊎◌, inl, inr, ℕ, List, Some, None, ◌∙◌, refl, sym, subst, arith, take_all, StepResult, Continue, TurnEnds, RunEnds, Turn, Machine, IsMachine, IsJoint, IsCutJoint, slots_of}
use Rattle.sfi_host.proofs.Continuing.{next_taken, next_cut}
use Rattle.sfi_host.proofs.Joined.{joined_are}
use Rattle.sfi_host.proofs.Plans.{none_joint}
use Rattle.sfi_host.proofs.WorldBytes.{outside_more, world_runs}
use Rattle.sfi_host.proofs.Stops.{have_stopped}
use Rattle.sfi_host.proofs.world.World.run_plan.Given as given
use Rattle.sfi_host.proofs.world.World.run_plan.Goals as goal

abbrev no_turn : Turn
no_turn = record { sandbox = 0; steps = 0 }

goes_on : (r : StepResult) → (r ≡ Continue) ⊎ (r ≡ TurnEnds) → r ≢ RunEnds
goes_on r (inl f) e = let z : Continue ≡ RunEnds = sym f ∙ e in cc
goes_on r (inr f) e = let z : TurnEnds ≡ RunEnds = sym f ∙ e in cc

pub loop-place-init : goal.loop-place-init
loop-place-init g c = record {
  safe = c.stays_safe.ensures;
  bounds = refl;
  outside = λ a out. refl;
  taken = λ machine is. none_joint machine g.G.Gates.answer (slots_of c.args.self.now) c.args.gates.now;
}

pub loop-place-preserved : goal.loop-place-preserved
loop-place-preserved g c = record {
  safe = c.take_turn.ensures.safe;
  bounds = c.take_turn.ensures.bounds ∙ c.loop-place.invariant.bounds;
  outside = outside_more c.args.self.now c.loop-place.self _ c.loop-place.invariant.bounds c.loop-place.invariant.outside c.take_turn.ensures.outside;
  taken = λ machine is. next_taken machine g.G.Gates.answer c.args.plan.now c.loop-place.place no_turn c.loop-place-test.true (slots_of c.args.self.now) _ _ c.args.gates.now c.loop-place.gates _
      (c.loop-place.invariant.taken machine is) (c.take_turn.ensures.whole (goes_on _ c.in-Continue.is) machine is);
}

-- ---- all turns were taken

done : (g : given.Over) (c : goal.After-loop-place g) (machine : Machine) → IsMachine machine → IsJoint machine g.G.Gates.answer c.args.plan.now (slots_of c.args.self.now) c.args.gates.now (slots_of c.loop-place.self) c.loop-place.gates
done g c machine is = subst (λ (l : List Turn). IsJoint machine g.G.Gates.answer l (slots_of c.args.self.now) c.args.gates.now (slots_of c.loop-place.self) c.loop-place.gates)
    (take_all c.loop-place.place c.args.plan.now c.loop-place-test.false) (c.loop-place.invariant.taken machine is)

pub returns-clause-done : goal.returns-clause-done
returns-clause-done g c e machine is = done g c machine is

pub returns-clause-runs : goal.returns-clause-runs
returns-clause-runs g c machine is =
    world_runs joined_are machine is g.G.Gates.answer c.args.plan.now c.args.self.now c.loop-place.self c.args.gates.now c.stays_safe.ensures
    c.loop-place.invariant.bounds c.loop-place.invariant.outside None (done g c machine is).slots

pub returns-clause-stops : goal.returns-clause-stops
returns-clause-stops g c = have_stopped c.loop-place.self c.loop-place.invariant.safe

-- ---- a call was refused

pub returns-in-RunEnds : goal.returns-in-RunEnds
returns-in-RunEnds g c =
    let old = slots_of c.args.self.now in
    let new = slots_of c.take_turn.new.self in
    let left = outside_more c.args.self.now c.loop-place.self _ c.loop-place.invariant.bounds c.loop-place.invariant.outside c.take_turn.ensures.outside in
    let cut : (machine : Machine) → IsMachine machine → IsCutJoint machine g.G.Gates.answer g.G.Gates.may_refuse c.args.plan.now old c.args.gates.now c.loop-place.place new c.take_turn.new.gates =
    λ machine is. next_cut machine g.G.Gates.answer c.args.plan.now c.loop-place.place no_turn c.loop-place-test.true old _ _ c.args.gates.now c.loop-place.gates _
    (c.loop-place.invariant.taken machine is) g.G.Gates.may_refuse (c.in-RunEnds.ensures.refused refl machine is) in
    record {
      done = λ e. absurd (cc);
      memory = λ place e machine is.
          let same : c.loop-place.place ≡ place = cc in
          subst (λ (n : ℕ). IsCutJoint machine g.G.Gates.answer g.G.Gates.may_refuse c.args.plan.now old c.args.gates.now n new c.take_turn.new.gates) same (cut machine is);
      runs = λ machine is.
          let ended = cut machine is in
          record {
            cut = ended;
            moved = world_runs joined_are machine is g.G.Gates.answer c.args.plan.now c.args.self.now c.take_turn.new.self c.args.gates.now c.stays_safe.ensures
                (c.take_turn.ensures.bounds ∙ c.loop-place.invariant.bounds) left (Some ended.answered) ended.slots;
          };
      safe = c.take_turn.ensures.safe;
      stops = have_stopped c.take_turn.new.self c.take_turn.ensures.safe;
      outside = left;
      place = λ turn e. let same : c.loop-place.place ≡ turn = cc in omega (arith, same, c.loop-place-test.true);
    }
