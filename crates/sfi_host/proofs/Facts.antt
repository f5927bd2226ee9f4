-- What holds of the definitions, of safe worlds and of plans: laws, for proofs here and in the crates above.
use Rattle.rv_step.proofs.Facts.{one_step, some_step}
use Rattle.sfi_host.specs.Changing.{PutBackIsChange}
use Rattle.sfi_host.specs.Loading.{ResetIsFirst}
use Rattle.sfi_host.specs.Sessions.{AnswersAreActions, SessionsAreSafe, SessionsAreOne, SandboxesAreTheirOwn, OthersMakeNoDifference, PlansAreSessions}
use Rattle.sfi_host.specs.Laws.{SomeMachine, OneMachine, NeighboursAreChanges, CallsAreTyped, AnswersAreReplies}
use Rattle.sfi_host.specs.Worlds.{StepsAreOwn}
use Rattle.sfi_host.proofs.Acted as acted
use Rattle.sfi_host.proofs.FromOutside.{put_back_is}
use Rattle.sfi_host.proofs.ResetSeats as first
use Rattle.sfi_host.proofs.OwnSessions as alone
use Rattle.sfi_host.proofs.OwnSteps as neighbours
use Rattle.sfi_host.proofs.SafeSeats as seats
use Rattle.sfi_host.proofs.Sessions as sessions
pub use Rattle.sfi_host.proofs.Continuing.{plans_follow}
use Rattle.sfi_host.proofs.PlanActions as plans

pub some_machine : SomeMachine
some_machine = (λ s. (some_step s).0, record { steps = λ s. (some_step s).1 })

pub one_machine : OneMachine
one_machine machine other is too s = one_step s (machine s) (other s) (is.steps s) (too.steps s)

pub steps_are_own : StepsAreOwn
steps_are_own = neighbours.steps_own

pub neighbours_are_changes : NeighboursAreChanges
neighbours_are_changes = neighbours.neighbours_are

pub calls_are_typed : CallsAreTyped
calls_are_typed = seats.calls_typed

pub answers_are_replies : AnswersAreReplies
answers_are_replies = seats.answers_are

pub put_back_is_change : PutBackIsChange
put_back_is_change = put_back_is

pub reset_is_first : ResetIsFirst
reset_is_first = first.reset_is_first

pub answers_are_actions : AnswersAreActions
answers_are_actions = acted.answers_are_actions

pub sessions_are_safe : SessionsAreSafe
sessions_are_safe = sessions.sessions_are_safe

pub sessions_are_one : SessionsAreOne
sessions_are_one = alone.sessions_are_one

pub sandboxes_are_their_own : SandboxesAreTheirOwn
sandboxes_are_their_own = alone.sandboxes_are_their_own

pub others_make_no_difference : OthersMakeNoDifference
others_make_no_difference = alone.others_make_no_difference

pub plans_are_sessions : {S : Type 0} → PlansAreSessions S
plans_are_sessions = plans.plans_are_sessions
