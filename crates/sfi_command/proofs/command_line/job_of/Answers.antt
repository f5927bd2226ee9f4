use Rattle.std.proofs.Common.{None, map, string_bytes}
use Rattle.sfi_command.proofs.Words.{no_parse_fault, subcommand_is, no_subcommand, asks_job, error_of_words, fault_of_no_parse, fault_of_words, fault_of_none}
use Rattle.sfi_command.proofs.command_line.job_of.Goals as goal

pub returns-in-Some-clause-job : goal.returns-in-Some-clause-job
returns-in-Some-clause-job c =
    asks_job (map string_bytes c.args.words.now) _ c.in-Some.found.now c.job_named.result (no_parse_fault _ _ c.in_ok-program.ensures c.in-Ok.ensures.kinds)
    (subcommand_is _ _ c.in-Ok.matches _ _ c.in_ok-program.ensures c.in-Ok.ensures.matches c.in-Some.ensures.name c.in-Some.ensures.rows) c.job_named.ensures

pub returns-in-Some-clause-fault : goal.returns-in-Some-clause-fault
returns-in-Some-clause-fault c =
    error_of_words (map string_bytes c.args.words.now) _ c.in-Some.found.now c.job_named.result (no_parse_fault _ _ c.in_ok-program.ensures c.in-Ok.ensures.kinds)
    (subcommand_is _ _ c.in-Ok.matches _ _ c.in_ok-program.ensures c.in-Ok.ensures.matches c.in-Some.ensures.name c.in-Some.ensures.rows) c.job_named.ensures

pub returns-clause-fault : goal.returns-clause-fault
returns-clause-fault c =
    fault_of_words (map string_bytes c.args.words.now) None c.no_job_fault.result (no_parse_fault _ _ c.in_ok-program.ensures c.in-Ok.ensures.kinds)
    (no_subcommand _ _ c.in-Ok.matches c.in_ok-program.ensures c.in-Ok.ensures.matches c.in-None.ensures.name) (fault_of_none c.no_job_fault.result c.no_job_fault.ensures)

pub returns-in-Err-clause-fault : goal.returns-in-Err-clause-fault
returns-in-Err-clause-fault c =
    fault_of_no_parse _ (map string_bytes c.args.words.now) c.in-Err.error c.usage.result c.in_ok-program.ensures c.in-Err.ensures.kinds c.usage.ensures.refused
    c.usage.ensures.other
