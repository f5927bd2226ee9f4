use Rattle.sfi_scan.proofs.Prelude.{ℕ, ◌≡◌, true, is_in, Nothing, IsCleanWord}
use Rattle.sfi_scan.proofs.words.block.clean_jumps.Given as goal

-- what is left is of the words, and what is plain breaks no rule
abbrev pub invariant-loop-rest : goal.invariant-loop-rest
invariant-loop-rest l =
    ((i : ℕ) → is_in l.rest i ≡ true → is_in l.fn.words i ≡ true)
    × ((i : ℕ) → is_in l.plain i ≡ true → IsCleanWord l.place l.block i Nothing Nothing)

abbrev pub decreases-loop-rest : goal.decreases-loop-rest
decreases-loop-rest l = l.rest
