use Rattle.sfi_scan.proofs.Prelude.{◌-◌}
use Rattle.sfi_scan.proofs.Look.{Looks}
use Rattle.sfi_scan.proofs.clean.looks_clean.Given as goal

-- nothing is found so far
abbrev pub invariant-loop-at : goal.invariant-loop-at
invariant-loop-at l = Looks l.place l.bytes l.at l.from

abbrev pub decreases-loop-at : goal.decreases-loop-at
decreases-loop-at l = 16 - l.at
