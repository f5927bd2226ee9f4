use Rattle.sfi_scan.proofs.Prelude.{ℕ, ◌≡◌, ◌+◌, ◌-◌, ◌*◌, ◌<◌, true, false, is_in}
use Rattle.sfi_scan.proofs.block.bundles_without.Given as goal

-- the bundles told so far have none of the places
abbrev pub invariant-loop-k : goal.invariant-loop-k
invariant-loop-k l =
    (n : ℕ) → is_in l.bundles n ≡ true → (j : ℕ) → j < 8 → is_in l.places (8 * n + j) ≡ false

abbrev pub decreases-loop-k : goal.decreases-loop-k
decreases-loop-k l = 8 - l.k
