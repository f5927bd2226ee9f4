use Rattle.sfi_scan.proofs.Prelude.{ℕ, ◌≡◌, ◌<◌, true, is_in, IsPairAt}
use Rattle.sfi_scan.proofs.WordMarks.{AreTwo}
use Rattle.sfi_scan.proofs.words.block.pairs_in.Given as goal

-- what is left is of words before another, and pairs begin where they were found
abbrev pub invariant-loop-rest : goal.invariant-loop-rest
invariant-loop-rest l =
    ((i : ℕ) → i < 64 → is_in l.rest i ≡ true → AreTwo l.fn.words i)
    × ((i : ℕ) → is_in l.pairs i ≡ true → IsPairAt l.format l.block i)

abbrev pub decreases-loop-rest : goal.decreases-loop-rest
decreases-loop-rest l = l.rest
