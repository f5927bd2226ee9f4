use Rattle.rv_mem.proofs.Prelude.{subst, byte_in, HasIn, HasNone}
use Rattle.rv_mem.specs.declared.segment.Segment.{Segment}
use Rattle.rv_mem.proofs.Lookups.{found_later, none_later}
use Rattle.rv_mem.proofs.lookup.has_in.Goals as goal

pub returns-then-has_in-clause-found : goal.returns-then-has_in-clause-found
returns-then-has_in-clause-found c =
    found_later c.args.segments.now c.loop-segment.segment-index _ _ c.segment-item.result c.loop-segment-test.true c.loop-segment.invariant
    (subst (λ (s : Segment). HasIn (byte_in s.base s.bytes.items) c.args.from c.args.to) c.segment-item.is c.if-has_in.ensures.found)

pub loop-segment-preserved : goal.loop-segment-preserved
loop-segment-preserved c =
    none_later c.args.segments.now c.loop-segment.segment-index _ _ c.segment-item.result c.loop-segment-test.true c.loop-segment.invariant
    (subst (λ (s : Segment). HasNone (byte_in s.base s.bytes.items) c.args.from c.args.to) c.segment-item.is c.if-has_in.ensures.none)
