use Rattle.std.proofs.Common.{rules}
use Rattle.rv_mem.proofs.Lookups.{is_memory}
use Rattle.rv_mem.proofs.segments.Segments.new.Goals as goal

pub invariant_of-result : goal.invariant_of-result
invariant_of-result c = record { in_range = search (rules, is_memory) }
