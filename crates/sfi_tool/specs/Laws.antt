-- What holds of the definitions themselves.
use Rattle.std.specs.Prelude.{◌≡◌, ℕ, List}
use Rattle.sfi_command.specs.declared.job.Job.{Job}
use Rattle.sfi_answers.specs.declared.fault.Stop.{Stop}
use Rattle.sfi_tool.specs.Says.{HasInputFault}

-- what was read has at most one of a job's faults
abbrev pub OneFault : Type 0
OneFault = (job : Job) (input : List ℕ) (fault other : Stop)
    → HasInputFault job input fault → HasInputFault job input other → fault ≡ other
