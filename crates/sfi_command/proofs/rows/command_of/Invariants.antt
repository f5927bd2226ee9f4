use Rattle.std.proofs.Common.{map, take}
use Rattle.clap.specs.Simple.{new_shape}
use Rattle.sfi_command.specs.private.{IsCommandOf, rule_of_row}
use Rattle.sfi_command.proofs.rows.command_of.Given as goal

abbrev pub invariant-loop-option : goal.invariant-loop-option
invariant-loop-option l =
    IsCommandOf (record (new_shape l.row.name.now) { rules = map rule_of_row (take l.option-index l.row.options.now) }) l.command
