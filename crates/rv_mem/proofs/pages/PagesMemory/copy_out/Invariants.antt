use Rattle.rv_mem.proofs.Prelude.{◌≡◌, ◌+◌, ◌-◌, ◌<◌, ◌≤◌, ℕ, Some, length, slice_index, byte_at, bytes_of}
use Rattle.rv_mem.proofs.pages.PagesMemory.copy_out.Given as goal

abbrev pub invariant-loop-done : goal.invariant-loop-done
invariant-loop-done l = record {
  most : l.done ≤ length l.room;
  many : length l.room ≡ length l.fn.room;
  each : (j : ℕ) → j < l.done → byte_at (bytes_of l.self) (l.at + j) ≡ Some (slice_index l.room j);
}

abbrev pub decreases-loop-done : goal.decreases-loop-done
decreases-loop-done l = length l.initial.room - l.done
