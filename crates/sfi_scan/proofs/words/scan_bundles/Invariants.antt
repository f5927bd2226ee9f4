use Rattle.sfi_scan.proofs.Prelude.{◌≡◌, ◌-◌, ◌*◌, ℕ, drop, length, IsWordCodeScanned, AreBundlesTo, stretch_place}
use Rattle.sfi_scan.proofs.words.scan_bundles.Given as goal

-- the bundles from byte `at` up to byte `end` are scanned
abbrev pub invariant-loop-end : goal.invariant-loop-end
invariant-loop-end g l =
    (k : ℕ) → l.fn.at ≡ 16 * k →
    AreBundlesTo l.code k l.end (λ n. IsWordCodeScanned g.F.FindingSink.takes (stretch_place l.place k) l.fn.owed (drop (16 * k) l.code) n l.left l.initial.sink l.sink)

abbrev pub decreases-loop-end : goal.decreases-loop-end
decreases-loop-end g l = length l.code - l.end
