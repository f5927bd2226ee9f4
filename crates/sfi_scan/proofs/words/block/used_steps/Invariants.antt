use Rattle.sfi_scan.proofs.Prelude.{ℕ, ◌≡◌, ◌+◌, ◌<◌, true, false, is_in, IsSteppedWord}
use Rattle.sfi_scan.proofs.WordMarks.{IsBefore}
use Rattle.sfi_scan.proofs.words.block.used_steps.Given as goal

-- what is left stands before an access, and so did the steps
abbrev pub invariant-loop-rest : goal.invariant-loop-rest
invariant-loop-rest l =
    ((i : ℕ) → i < 64 → is_in l.rest i ≡ true → IsBefore l.fn.free l.fn.words i)
    × ((i : ℕ) → is_in l.steps i ≡ true → IsSteppedWord l.place l.block i × (is_in l.fn.words (i + 2) ≡ false))

abbrev pub decreases-loop-rest : goal.decreases-loop-rest
decreases-loop-rest l = l.rest
