use Rattle.std.proofs.Common.{arith}
use Rattle.sfi_command.proofs.Program.{one_more_option}
use Rattle.sfi_command.proofs.rows.command_of.Goals as goal

pub loop-option-preserved : goal.loop-option-preserved
loop-option-preserved c =
    one_more_option c.args.row.now.name.now c.args.row.now.options.now c.loop-option.option-index _ c.loop-option.command c.in_ok-command.command
    c.option_of.result (omega arith) c.in_ok-command.ensures c.option_of.ensures.rule c.option_of.ensures.local c.loop-option.invariant
