use Rattle.sfi_host.proofs.Prelude.{ℕ, Contains, refl, sym, subst, arith}
use Rattle.sfi_host.proofs.Decoded.{still_runs}
use Rattle.sfi_host.proofs.SafeSeats.{stays_itself}
use Rattle.sfi_host.proofs.UpToStop.{none_done, at_stop, at_end, further, all_done, stays_so}
use Rattle.sfi_host.proofs.until.run_until.Goals as goal

pub loop-done-init : goal.loop-done-init
loop-done-init g c = (omega arith, none_done c.args.stops.now _ _ (stays_itself _ _ c.requires.safe))

pub run_quietly-pause-requires : goal.run_quietly-pause-requires
run_quietly-pause-requires g c = still_runs _ _ _ _ _ c.loop-done.invariant.1.stays c.requires

pub loop-done-preserved : goal.loop-done-preserved
loop-done-preserved g c = (
  omega (arith, c.loop-done-test.true),
  further c.args.stops.now _ _ c.loop-done.done _ _ c.loop-done.invariant.1 _ _ c.run_quietly-pause.ensures.stays c.run_quietly-pause.result c.run_quietly-pause.ensures.over c.run_quietly-pause.ensures.call
      (λ h. let t = c.if-is_stop.ensures.1 (subst (λ (x : ℕ). Contains c.args.stops.now x) (sym c.pc.ensures.value) h) in absurd (cc)),
)

pub returns-then-is_stop : goal.returns-then-is_stop
returns-then-is_stop g c = record {
  stays = stays_so c.args.stops.now _ _ c.loop-done.done _ _ c.loop-done.invariant.1 _ _ c.run_quietly-pause.ensures.stays c.run_quietly-pause.result c.run_quietly-pause.ensures.over c.run_quietly-pause.ensures.call;
  until = at_stop c.args.stops.now _ _ c.loop-done.done _ _ c.loop-done.invariant.1 _ _ c.run_quietly-pause.ensures.stays c.run_quietly-pause.result c.run_quietly-pause.ensures.over c.run_quietly-pause.ensures.call c.args.steps c.loop-done-test.true
      (subst (λ (x : ℕ). Contains c.args.stops.now x) c.pc.ensures.value (c.if-is_stop.ensures.0 refl));
}

pub returns-then-not-may_step_on : goal.returns-then-not-may_step_on
returns-then-not-may_step_on g c = record {
  stays = stays_so c.args.stops.now _ _ c.loop-done.done _ _ c.loop-done.invariant.1 _ _ c.run_quietly-pause.ensures.stays c.run_quietly-pause.result c.run_quietly-pause.ensures.over c.run_quietly-pause.ensures.call;
  until = at_end c.args.stops.now _ _ c.loop-done.done _ _ c.loop-done.invariant.1 _ _ c.run_quietly-pause.ensures.stays c.run_quietly-pause.result c.run_quietly-pause.ensures.over c.run_quietly-pause.ensures.call
      (λ h. let t = c.if-is_stop.ensures.1 (subst (λ (x : ℕ). Contains c.args.stops.now x) (sym c.pc.ensures.value) h) in absurd (cc)) c.args.steps c.loop-done-test.true c.if-not-may_step_on.ensures;
}

pub returns : goal.returns
returns g c = record {
  stays = c.loop-done.invariant.1.stays;
  until = all_done c.args.stops.now _ _ c.loop-done.done _ _ c.args.steps (let most = c.loop-done.invariant.0 in omega (arith, most, c.loop-done-test.false)) c.loop-done.invariant.1;
}
