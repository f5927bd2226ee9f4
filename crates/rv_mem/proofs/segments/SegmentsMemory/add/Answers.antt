use Rattle.std.proofs.Common.{arith, rules}
use Rattle.rv_mem.proofs.Lookups.{is_memory}
use Rattle.rv_mem.proofs.Runs.{add_done}
use Rattle.rv_mem.proofs.segments.SegmentsMemory.add.Goals as goal

pub invariant_of-self : goal.invariant_of-self
invariant_of-self c = record { in_range = is_memory c.push.new.self.items }

pub returns-clause-ok : goal.returns-clause-ok
returns-clause-ok c =
    add_done c.args.self.now.parts.items c.push.new.self.items c.in-Ok.part c.args.base c.args.size c.args.front.now
    (search rules) c.in-Ok.ensures.base c.in-Ok.ensures.bytes c.requires (omega arith) c.if-overlaps.ensures.free
