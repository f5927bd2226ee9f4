use Rattle.std.proofs.Common.{◌≡◌, map, take}
use Rattle.clap.specs.Simple.{app_of}
use Rattle.sfi_command.specs.Command.{program_named, with_all}
use Rattle.sfi_command.specs.private.{shape_of_row}
use Rattle.sfi_command.proofs.rows.program_of.Given as goal

abbrev pub invariant-loop-command : goal.invariant-loop-command
invariant-loop-command l = app_of l.program ≡ with_all (program_named l.row.name.now) (map shape_of_row (take l.command-index l.commands))
