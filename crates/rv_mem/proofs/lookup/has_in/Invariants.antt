use Rattle.rv_mem.proofs.Prelude.{take, byte_among, HasNone}
use Rattle.rv_mem.proofs.lookup.has_in.Given as goal

-- the segments up to here have no address of the range
abbrev pub invariant-loop-segment : goal.invariant-loop-segment
invariant-loop-segment l = HasNone (byte_among (take l.segment-index l.segments)) l.from l.to
