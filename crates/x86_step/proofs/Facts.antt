-- What holds of every step: laws, for proofs in the crates above.
use Rattle.x86_step.specs.Accesses.{AccessesAreAll, WaysOutAccessNoOthers}
use Rattle.x86_step.specs.Laws.{FaultsResume, FixedStays, SpelledAccesses, SpelledRun, SpelledSteps, StepsJoin}
use Rattle.x86_step.proofs.Accesses as accesses
use Rattle.x86_step.proofs.Fixed as fixed
use Rattle.x86_step.proofs.Running as running
use Rattle.x86_step.proofs.Ways as ways

pub fixed_stays : FixedStays
fixed_stays = fixed.fixed_stays

pub steps_join : StepsJoin
steps_join = running.reaches_join

pub spelled_steps : SpelledSteps
spelled_steps = running.spelled_steps

pub spelled_accesses : SpelledAccesses
spelled_accesses = running.spelled_accesses

pub faults_resume : FaultsResume
faults_resume = running.faults_resume

pub spelled_run : SpelledRun
spelled_run = running.spelled_run

pub accesses_are_all : AccessesAreAll
accesses_are_all = accesses.accesses_are_all

pub ways_out_access_no_others : WaysOutAccessNoOthers
ways_out_access_no_others = ways.ways_out_access_no_others
