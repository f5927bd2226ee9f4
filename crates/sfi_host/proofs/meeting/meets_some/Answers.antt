use Rattle.sfi_host.proofs.Prelude.{refl, arith, seat_of}
use Rattle.sfi_host.specs.Modules.{part_of}
use Rattle.sfi_host.proofs.Entered.{right_part}
use Rattle.sfi_host.proofs.Meetings.{view_at, next_none, none_of_all}
use Rattle.sfi_host.proofs.meeting.meets_some.Goals as goal

pub meets_part-requires-clause-right : goal.meets_part-requires-clause-right
meets_part-requires-clause-right c = right_part (part_of c.args.format) c.args.parts.now c.loop-part.part-index c.part-item.result c.requires.right (omega arith) c.part-item.is

pub returns-then-meets_part-clause-found : goal.returns-then-meets_part-clause-found
returns-then-meets_part-clause-found c =
    (c.loop-part.part-index, part_of c.args.format c.part-item.result, view_at c.args.format c.args.parts.now c.loop-part.part-index c.part-item.result (omega arith) c.part-item.is, c.if-meets_part.ensures.0 refl)

pub loop-part-preserved : goal.loop-part-preserved
loop-part-preserved c =
    next_none c.args.format c.args.parts.now c.loop-part.part-index c.part-item.result (omega arith) c.part-item.is (seat_of c.args.sandbox.now).bounds c.loop-part.invariant (λ m. absurd (let e = c.if-meets_part.ensures.1 m in cc))

pub returns-clause-none : goal.returns-clause-none
returns-clause-none c = none_of_all c.args.format c.args.parts.now c.loop-part.part-index (seat_of c.args.sandbox.now).bounds (omega arith) c.loop-part.invariant
