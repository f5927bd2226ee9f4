use Rattle.rv_mem.proofs.Prelude.{◌≡◌, ◌<◌, ℕ, slice_index}
use Rattle.rv_mem.proofs.cells.are_zeros.Given as goal

abbrev pub invariant-loop-byte : goal.invariant-loop-byte
invariant-loop-byte l = (j : ℕ) → j < l.byte-index → slice_index l.byte-items j ≡ 0
