use Rattle.std.proofs.Common.{◌-◌}
use Rattle.sfi_places.proofs.Naming.{Writes}
use Rattle.sfi_places.proofs.names.write_entries.Given as goal

-- the entries before `at` are written
abbrev pub invariant-loop-at : goal.invariant-loop-at
invariant-loop-at l = Writes l.fn.fields l.fn.to l.initial.image l.image l.fn.begin l.fn.end l.at

abbrev pub decreases-loop-at : goal.decreases-loop-at
decreases-loop-at l = l.end - l.at
