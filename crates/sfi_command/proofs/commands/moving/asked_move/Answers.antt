use Rattle.std.proofs.Common.{Some, codes}
use Rattle.clap.specs.Matches.{found_of}
use Rattle.clap.specs.Walk.{rows_of}
use Rattle.sfi_command.proofs.Words.{no_sandbox, usage_of_named}
use Rattle.sfi_command.proofs.commands.moving.asked_move.Goals as goal

pub returns-in_default : goal.returns-in_default
returns-in_default c =
    usage_of_named (Some (codes "move", rows_of (found_of c.args.found.now))) c.no_job_fault.result c.no_job_fault.ensures
    (no_sandbox (rows_of (found_of c.args.found.now)) (c.count_of.ensures.none c.in_default.is))
