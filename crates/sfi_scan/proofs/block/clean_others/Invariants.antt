use Rattle.sfi_scan.proofs.Prelude.{ℕ, ◌≡◌, true, is_in, IsCleanAt}
use Rattle.sfi_scan.proofs.block.clean_others.Given as goal

-- what is clean is so
abbrev pub invariant-loop-rest : goal.invariant-loop-rest
invariant-loop-rest l =
    (i : ℕ) → is_in l.clean i ≡ true → IsCleanAt l.place l.block (is_in l.words i) l.after i

abbrev pub decreases-loop-rest : goal.decreases-loop-rest
decreases-loop-rest l = l.rest
