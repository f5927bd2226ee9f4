use Rattle.std.proofs.Common.{◌≡◌, ◌++◌, take}
use Rattle.std.specs.Prelude.{string_bytes}
use Rattle.sfi_answers.specs.Building.{lines_in}
use Rattle.sfi_answers.proofs.mapping.push_map_lines.Given as goal

-- the names so far have their lines
abbrev pub invariant-loop-entry : goal.invariant-loop-entry
invariant-loop-entry l =
    string_bytes l.out ≡ string_bytes l.initial.out ++ lines_in l.sandbox (take l.entry-index l.entries)
