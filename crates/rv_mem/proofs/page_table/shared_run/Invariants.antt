use Rattle.rv_mem.proofs.Prelude.{◌≡◌, ◌+◌, ℕ, ◌<◌, slice_index}
use Rattle.rv_mem.proofs.page_table.shared_run.Given as goal

abbrev pub invariant-loop-k : goal.invariant-loop-k
invariant-loop-k l = (j : ℕ) → j < l.k → slice_index l.chunks.items (l.first + j) ≡ l.leaf
