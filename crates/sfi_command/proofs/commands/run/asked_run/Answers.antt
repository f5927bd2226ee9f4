use Rattle.std.proofs.Common.{◌≡◌, ℕ, List, Some, codes, refl}
use Rattle.clap.specs.Matches.{found_of}
use Rattle.clap.specs.Walk.{Row, rows_of}
use Rattle.sfi_command.specs.Command.{HasOptions, IsCount, name_of, quantum_most, rounds_most}
use Rattle.sfi_command.specs.declared.job.Job.{Job}
use Rattle.sfi_command.specs.declared.job.Job.TheVariants.{Run}
use Rattle.sfi_command.proofs.Words.{no_run, other, usage_of_named}
use Rattle.sfi_command.proofs.commands.run.asked_run.Goals as goal

no_rounds : (rows : List Row) → ((n : ℕ) → ¬ IsCount (codes "rounds") 1 rounds_most rows n) → (job : Job) → codes "run" ≡ name_of job → ¬ HasOptions rows job
no_rounds rows none (Run options) e has = none options.rounds has.0
no_rounds rows none _ e has = other _ _ refl e

no_quantum : (rows : List Row) → ((n : ℕ) → ¬ IsCount (codes "quantum") 1 quantum_most rows n) → (job : Job) → codes "run" ≡ name_of job → ¬ HasOptions rows job
no_quantum rows none (Run options) e has = none options.quantum has.1
no_quantum rows none _ e has = other _ _ refl e

pub returns-in_default : goal.returns-in_default
returns-in_default c =
    let rows = rows_of (found_of c.args.found.now) in
    usage_of_named (Some (codes "run", rows)) c.no_job_fault.result c.no_job_fault.ensures
    (no_run rows c.in_ok-input.input.items c.in_ok-input.ensures.bytes (no_rounds rows (c.count_of.ensures.none c.in_default.is)))

pub returns-in_default-count_of : goal.returns-in_default-count_of
returns-in_default-count_of c =
    let rows = rows_of (found_of c.args.found.now) in
    usage_of_named (Some (codes "run", rows)) c.no_job_fault-in_default-count_of.result c.no_job_fault-in_default-count_of.ensures
    (no_run rows c.in_ok-input.input.items c.in_ok-input.ensures.bytes (no_quantum rows (c.count_of-2.ensures.none c.in_default-count_of.is)))
