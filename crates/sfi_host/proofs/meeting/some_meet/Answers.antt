use Rattle.sfi_host.proofs.Prelude.{refl, arith, seat_of}
use Rattle.sfi_host.specs.Modules.{parts_of}
use Rattle.sfi_host.proofs.Meetings.{here, found_one, next_clear, all_clear, room_of}
use Rattle.sfi_host.proofs.meeting.some_meet.Goals as goal

pub meets_some-requires-clause-room : goal.meets_some-requires-clause-room
meets_some-requires-clause-room c =
    let at = here c.args.sandboxes.now (parts_of c.args.format c.args.parts.now) c.loop-sandbox.sandbox-index c.sandbox-item.result (omega arith) c.sandbox-item.is in
    room_of c.requires.safe.0 (seat_of c.sandbox-item.result) (c.requires.safe.1.each c.loop-sandbox.sandbox-index (seat_of c.sandbox-item.result) at)

pub returns-then-meets_some : goal.returns-then-meets_some
returns-then-meets_some c m =
    let f = c.if-meets_some.ensures.found in
    (λ t. found_one c.args.sandboxes.now (parts_of c.args.format c.args.parts.now) c.loop-sandbox.sandbox-index c.sandbox-item.result (omega arith) c.sandbox-item.is m f.0 f.1 f.2 f.3, λ h. refl)

pub loop-sandbox-preserved : goal.loop-sandbox-preserved
loop-sandbox-preserved c =
    next_clear c.args.sandboxes.now (parts_of c.args.format c.args.parts.now) c.loop-sandbox.sandbox-index c.sandbox-item.result (omega arith) c.sandbox-item.is c.loop-sandbox.invariant c.if-meets_some.ensures.none

pub returns : goal.returns
returns c m = (λ t. absurd (cc), λ h. absurd (all_clear c.args.sandboxes.now (parts_of c.args.format c.args.parts.now) c.loop-sandbox.sandbox-index m (omega arith) c.loop-sandbox.invariant h))
