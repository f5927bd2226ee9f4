use Rattle.rv_mem.proofs.Prelude.{◌≡◌, ◌+◌, ◌<◌, ℕ, Some, length, slice_index, byte_at}
use Rattle.rv_mem.specs.Segments.{bytes_of}
use Rattle.rv_mem.proofs.segments.SegmentsMemory.copy_out.Given as goal

abbrev pub invariant-loop-k : goal.invariant-loop-k
invariant-loop-k l = record {
  many : length l.room ≡ length l.fn.room;
  each : (j : ℕ) → j < l.k → byte_at (bytes_of l.self) (l.at + j) ≡ Some (slice_index l.room j);
}
