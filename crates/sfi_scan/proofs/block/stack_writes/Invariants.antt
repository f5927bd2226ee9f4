use Rattle.sfi_scan.proofs.Prelude.{ℕ, ◌≡◌, true, is_in, IsOfWrite}
use Rattle.sfi_scan.proofs.block.stack_writes.Given as goal

-- what is left is of the places where three words begin, and what is told is of writes
abbrev pub invariant-loop-rest : goal.invariant-loop-rest
invariant-loop-rest l =
    ((i : ℕ) → is_in l.rest i ≡ true → is_in l.three i ≡ true)
    × ((i : ℕ) → is_in l.written i ≡ true → IsOfWrite l.block l.words i)

abbrev pub decreases-loop-rest : goal.decreases-loop-rest
decreases-loop-rest l = l.rest
