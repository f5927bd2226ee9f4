use Rattle.rv_mem.proofs.Prelude.{◌≡◌, replicate, with_bytes}
use Rattle.std.specs.List.{range_with_len}
use Rattle.rv_mem.specs.Segments.{bytes_of}
use Rattle.rv_mem.proofs.segments.SegmentsMemory.clear.Given as goal

abbrev pub invariant-loop-k : goal.invariant-loop-k
invariant-loop-k l = bytes_of l.self ≡ with_bytes (bytes_of l.fn.self) (range_with_len l.at l.k) (replicate l.k 0)
