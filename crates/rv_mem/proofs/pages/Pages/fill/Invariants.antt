use Rattle.rv_mem.proofs.Prelude.{◌≡◌, ◌-◌, ◌≤◌, ℕ, byte_at, bytes_of}
use Rattle.rv_mem.proofs.PageRuns.{run_at}
use Rattle.rv_mem.specs.private.Frames.{KeepsFrames}
use Rattle.rv_mem.proofs.pages.Pages.fill.Given as goal

abbrev pub invariant-loop-done : goal.invariant-loop-done
invariant-loop-done l = record {
  most : l.done ≤ l.size;
  kept : KeepsFrames l.fn.self.table l.self.table;
  run : (q : ℕ) → byte_at (bytes_of l.self) q ≡ run_at l.base l.done l.front q (byte_at (bytes_of l.fn.self) q);
}

abbrev pub decreases-loop-done : goal.decreases-loop-done
decreases-loop-done l = l.size - l.done
