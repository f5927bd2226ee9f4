use Rattle.std.proofs.Common.{◌≡◌, ◌++◌, take}
use Rattle.std.specs.Prelude.{string_bytes}
use Rattle.std.specs.List.{flat_map}
use Rattle.sfi_text.specs.private.Reading.{values_of}
use Rattle.sfi_text.specs.Statement.{part_text}
use Rattle.sfi_text.proofs.print.push_operands.Given as goal

abbrev pub invariant-loop-part : goal.invariant-loop-part
invariant-loop-part l = string_bytes l.out ≡ string_bytes l.fn.out ++ flat_map (part_text (values_of l.o)) (take l.part-index l.form)
