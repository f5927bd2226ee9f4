use Rattle.sfi_scan.proofs.Prelude.{◌-◌, length, IsScanned, AreBundlesTo}
use Rattle.sfi_scan.proofs.code.scan_code.Given as goal

-- the bundles before byte `at` are scanned
abbrev pub invariant-loop-at : goal.invariant-loop-at
invariant-loop-at g l = AreBundlesTo l.code 0 l.at (λ k. IsScanned g.F.FindingSink.takes l.place l.code k l.initial.sink l.sink)

abbrev pub decreases-loop-at : goal.decreases-loop-at
decreases-loop-at g l = length l.code - l.at
