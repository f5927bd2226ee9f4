use Rattle.std.proofs.Common.{length}
use Rattle.sfi_names.proofs.Entries.{HasPassed}
use Rattle.sfi_names.proofs.entry.are_name_entries.Given as goal

abbrev pub invariant-loop-rest : goal.invariant-loop-rest
invariant-loop-rest l = HasPassed l.fn.bytes l.rest

abbrev pub decreases-loop-rest : goal.decreases-loop-rest
decreases-loop-rest l = length l.rest
