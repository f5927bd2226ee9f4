use Rattle.rv_mem.proofs.Prelude.{◌≡◌, ◌-◌, ◌≤◌, ℕ, ◌<◌, None, byte_at, address_after, bytes_of}
use Rattle.rv_mem.proofs.pages.Pages.overlaps.Given as goal

abbrev pub invariant-loop-done : goal.invariant-loop-done
invariant-loop-done l = record {
  most : l.done ≤ l.size;
  none : (j : ℕ) → j < l.done → byte_at (bytes_of l.self) (address_after l.base j) ≡ None;
}

abbrev pub decreases-loop-done : goal.decreases-loop-done
decreases-loop-done l = l.size - l.done
