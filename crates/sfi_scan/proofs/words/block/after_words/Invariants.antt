use Rattle.sfi_scan.proofs.Prelude.{ℕ, ◌≡◌, ◌+◌, ◌-◌, ◌*◌, ◌≤◌, AreCleanWords}
use Rattle.sfi_scan.proofs.words.block.after_words.Given as goal

-- the block's words from `from` up to halfword `at` break no rule
abbrev pub invariant-loop-at : goal.invariant-loop-at
invariant-loop-at l = (n : ℕ) × (l.at ≡ 2 * (l.fn.from + n)) × (l.at ≤ 64) × AreCleanWords l.place l.fn.owed l.block l.fn.from n l.left

abbrev pub decreases-loop-at : goal.decreases-loop-at
decreases-loop-at l = 64 - l.at
