use Rattle.sfi_scan.proofs.Prelude.{ℕ, ◌≡◌, true, is_in}
use Rattle.sfi_scan.proofs.Starts.{IsCleanAccess}
use Rattle.sfi_scan.proofs.block.clean_accesses.Given as goal

-- what is left is of the accesses, and so is what is clean
abbrev pub invariant-loop-rest : goal.invariant-loop-rest
invariant-loop-rest l =
    ((i : ℕ) → is_in l.rest i ≡ true → is_in l.fn.accesses i ≡ true)
    × ((i : ℕ) → is_in l.clean i ≡ true → IsCleanAccess l.stack l.block l.after l.fn.accesses i)

abbrev pub decreases-loop-rest : goal.decreases-loop-rest
decreases-loop-rest l = l.rest
