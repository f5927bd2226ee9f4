use Rattle.std.proofs.Common.{arith}
use Rattle.sfi_command.specs.Command.{program_named}
use Rattle.sfi_command.proofs.Program.{one_more_command}
use Rattle.sfi_command.proofs.rows.program_of.Goals as goal

pub loop-command-preserved : goal.loop-command-preserved
loop-command-preserved c =
    one_more_command (program_named c.args.row.now.name.now) c.args.commands.now c.loop-command.command-index _ c.loop-command.program c.in_ok-command_of.field-0 c.in_ok-program.program
    (omega arith) c.in_ok-program.ensures c.in_ok-command_of.ensures c.loop-command.invariant
