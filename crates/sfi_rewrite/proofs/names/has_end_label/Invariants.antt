use Rattle.sfi_rewrite.proofs.Prelude.{◌≡◌, ◌<◌, ℕ, length, Some, slice_get, Code, named}
use Rattle.sfi_rewrite.proofs.names.has_end_label.Given as goal

abbrev pub invariant-loop-place : goal.invariant-loop-place
invariant-loop-place l = (k : ℕ) → k < l.place → slice_get (named l.part) k ≡ Some (Code (length l.part.items)) → ⊥
