use Rattle.std.proofs.Common.{arith}
use Rattle.rv_mem.specs.Segments.{bytes_of}
use Rattle.rv_mem.proofs.Runs.{over_low, over_high}
use Rattle.rv_mem.proofs.segments.Segments.overlaps.Goals as goal

pub returns-then-has_in-clause-found : goal.returns-then-has_in-clause-found
returns-then-has_in-clause-found c =
    over_low (bytes_of c.args.self.now) c.args.base c.args.size c.from-3.result c.min.result (omega arith) (omega arith) c.if-has_in.ensures.found

pub returns-clause-found : goal.returns-clause-found
returns-clause-found c =
    over_high c.has_in-2.result (bytes_of c.args.self.now) c.args.base c.args.size c.saturating_sub.result (omega arith) (omega arith) (omega arith) c.has_in-2.ensures.found
