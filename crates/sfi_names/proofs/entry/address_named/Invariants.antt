use Rattle.std.proofs.Common.{length}
use Rattle.sfi_names.proofs.Entries.{StillToFind}
use Rattle.sfi_names.proofs.entry.address_named.Given as goal

abbrev pub invariant-loop-entry : goal.invariant-loop-entry
invariant-loop-entry l = StillToFind l.fn.bytes l.rest l.name

abbrev pub decreases-loop-entry : goal.decreases-loop-entry
decreases-loop-entry l = length l.rest
