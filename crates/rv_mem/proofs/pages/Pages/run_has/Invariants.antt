use Rattle.rv_mem.proofs.Prelude.{◌≡◌, ◌+◌, ℕ, ◌<◌, None, byte_at, bytes_of}
use Rattle.rv_mem.proofs.pages.Pages.run_has.Given as goal

abbrev pub invariant-loop-j : goal.invariant-loop-j
invariant-loop-j l = (j : ℕ) → j < l.j → byte_at (bytes_of l.self) (l.at + j) ≡ None
