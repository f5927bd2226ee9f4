use Rattle.std.proofs.Common.{length}
use Rattle.sfi_names.proofs.Entries.{StillToCount}
use Rattle.sfi_names.proofs.entry.entry_at.Given as goal

abbrev pub invariant-loop-entry : goal.invariant-loop-entry
invariant-loop-entry l = StillToCount l.fn.bytes l.rest l.index l.before

abbrev pub decreases-loop-entry : goal.decreases-loop-entry
decreases-loop-entry l = length l.rest
