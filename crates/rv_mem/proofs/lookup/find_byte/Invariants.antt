use Rattle.rv_mem.proofs.Prelude.{◌≡◌, drop, byte_among}
use Rattle.rv_mem.proofs.lookup.find_byte.Given as goal

-- what is left of the segments tells what all have
abbrev pub invariant-loop-segment : goal.invariant-loop-segment
invariant-loop-segment l = byte_among l.segments l.at ≡ byte_among (drop l.segment-index l.segments) l.at
