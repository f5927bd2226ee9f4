use Rattle.sfi_tool.proofs.Prelude.{ℕ, ◌∙◌, List, slice_get, arith, slots_of, subst, sym}
use Rattle.sfi_host.specs.Consoles.{ConsoleState}
use Rattle.sfi_host.specs.Slots.{Slot}
use Rattle.sfi_tool.specs.private.{AreWithin, left_of, Streamed}
use Rattle.sfi_tool.proofs.Budgets.{run_within}
use Rattle.sfi_tool.proofs.Progress.{none_less, run_less, run_no_more}
use Rattle.sfi_tool.proofs.Turns.{asked_is, to_call_streamed}
use Rattle.std.proofs.Common.{Option, ◌≤◌}
use Rattle.sfi_tool.proofs.executing.run_to_request.Given as given
use Rattle.sfi_tool.proofs.executing.run_to_request.Goals.{After-run_to_call}
use Rattle.sfi_tool.proofs.executing.run_to_request.Goals as goal

-- what a turn up to a call leaves
record HasRun (budget sandbox : ℕ) (old new : List Slot) : Type 0 where
  streamed : (d : ConsoleState) (known told : Option (List ℕ)) → Streamed sandbox old d new d known known told told
  within : AreWithin budget new
  no_more : left_of budget (slice_get new sandbox) ≤ left_of budget (slice_get old sandbox)

has_run : (g : given.Over) (c : After-run_to_call g) → HasRun c.args.budget c.args.sandbox (slots_of c.args.world.now) (slots_of c.run_to_call.new.self)
has_run g c = record {
  streamed = λ d known told. to_call_streamed (record { sandbox = c.args.sandbox; steps = c.turn_steps.result }) _ _ d known told c.run_to_call.ensures.ran;
  within = run_within c.args.budget _ _ _ c.run_to_call.ensures.ran (subst (λ (n : ℕ). c.turn_steps.result ≤ n) c.steps_left-left.ensures c.turn_steps.ensures.most) c.requires;
  no_more = run_no_more c.args.budget _ _ _ (omega (arith, c.ranges.budget.fits)) c.run_to_call.ensures.ran;
}

pub returns-in_err-request : goal.returns-in_err-request
returns-in_err-request g c =
    let run = has_run g (goal.at.returns-in_err-request g c).After-run_to_call in
    record {
      streamed = run.streamed;
      within = run.within;
      less = λ _. run_less c.args.budget (record { sandbox = c.args.sandbox; steps = c.turn_steps.result }) _ _ (omega (arith, c.ranges.budget.fits)) c.run_to_call.ensures.ran
          (λ some. c.turn_steps.ensures.some (λ none. some (sym c.steps_left-left.ensures ∙ none)))
          (λ stands. let some = c.in_err-request.ensures.there.1 stands in absurd (cc));
      no_more = run.no_more;
      asked = rw c.from_residual.ensures tt;
    }

pub returns-then-steps_left-eq0 : goal.returns-then-steps_left-eq0
returns-then-steps_left-eq0 g c =
    let run = has_run g (goal.at.returns-then-steps_left-eq0 g c).After-run_to_call in
    record {
      streamed = run.streamed;
      within = run.within;
      less = λ _. none_less c.args.budget c.args.sandbox _ _ (sym c.steps_left.ensures ∙ c.if-steps_left-eq0.true);
      no_more = run.no_more;
      asked = tt;
    }

pub returns : goal.returns
returns g c =
    let run = has_run g (goal.at.returns g c).After-run_to_call in
    record {
      streamed = run.streamed;
      within = run.within;
      less = λ none. absurd (cc);
      no_more = run.no_more;
      asked = asked_is c.args.budget (slots_of c.run_to_call.new.self) c.args.sandbox _ c.in_ok-request.ensures.waits (λ none. c.if-steps_left-eq0.false (c.steps_left.ensures ∙ none));
    }
