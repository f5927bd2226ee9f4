use Rattle.rv_mem.proofs.Prelude.{◌≡◌, take, None, byte_among}
use Rattle.rv_mem.proofs.lookup.put_byte.Given as goal

-- the segments up to here don't have the address, and none has changed
abbrev pub invariant-loop-i : goal.invariant-loop-i
invariant-loop-i l = record { same : l.segments ≡ l.fn.segments; none : byte_among (take l.i l.segments) l.at ≡ None }
