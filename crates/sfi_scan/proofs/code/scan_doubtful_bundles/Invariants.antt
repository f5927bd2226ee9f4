use Rattle.sfi_scan.proofs.Prelude.{◌≡◌, ◌+◌, ◌-◌, ◌*◌, ◌≤◌, ℕ, drop, IsScanned, stretch_place}
use Rattle.sfi_scan.proofs.code.scan_doubtful_bundles.Given as goal

-- the block's bundles from `from` up to `i` are scanned
abbrev pub invariant-loop-i : goal.invariant-loop-i
invariant-loop-i g l =
    (n : ℕ) × (l.i ≡ l.fn.from + n) × (l.i ≤ 8) × IsScanned g.F.FindingSink.takes (stretch_place l.place l.fn.from) (drop (16 * l.fn.from) l.block) n l.initial.sink l.sink

abbrev pub decreases-loop-i : goal.decreases-loop-i
decreases-loop-i g l = 8 - l.i
