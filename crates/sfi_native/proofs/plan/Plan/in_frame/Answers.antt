use Rattle.sfi_native.proofs.Assigned.{none_assigned, none_count, none_right}
use Rattle.sfi_native.proofs.plan.Plan.in_frame.Goals as goal

pub returns-clause-right : goal.returns-clause-right
returns-clause-right c = none_right _ none_count none_assigned

pub returns-clause-none : goal.returns-clause-none
returns-clause-none c = none_assigned
