use Rattle.sfi_scan.proofs.Prelude.{◌≡◌, ◌-◌, ◌*◌, ℕ, length}
use Rattle.sfi_scan.specs.private.Scanning.{IsRunClean}
use Rattle.sfi_scan.proofs.words.skip_clean_blocks.Given as goal

-- the blocks looked at so far break no rule
abbrev pub invariant-loop-end : goal.invariant-loop-end
invariant-loop-end g l = (k : ℕ) → l.fn.at ≡ 16 * k → IsRunClean l.place l.fn.owed l.code k l.end l.left

abbrev pub decreases-loop-end : goal.decreases-loop-end
decreases-loop-end g l = length l.code - l.end
