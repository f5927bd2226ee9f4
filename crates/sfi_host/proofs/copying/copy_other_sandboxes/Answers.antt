use Rattle.sfi_host.proofs.Prelude.{◌≡◌, [], Some, slice_get, arith, length-map, seat_of, seats_of}
use Rattle.sfi_host.proofs.Copied.{none_copied, next_copied, others_copied}
use Rattle.sfi_host.proofs.Meetings.{here}
use Rattle.sfi_host.proofs.copying.copy_other_sandboxes.Goals as goal

pub loop-place-init : goal.loop-place-init
loop-place-init g c = none_copied (g.M.Memory.bytes c.args.from.now) (seats_of c.args.sandboxes.now) c.args.but (g.M.Memory.bytes c.args.to.now) c.requires.empty

pub copy_sandbox-requires : goal.copy_sandbox-requires
copy_sandbox-requires g c =
    let x = c.index-sandboxes-place.result in
    let at : slice_get (seats_of c.args.sandboxes.now) c.loop-place.place ≡ Some (seat_of x) = here c.args.sandboxes.now [] c.loop-place.place x (omega arith) c.index-sandboxes-place.is in
    c.requires.safe.each c.loop-place.place (seat_of x) at

pub loop-place-preserved : goal.loop-place-preserved
loop-place-preserved g c =
    let x = c.index-sandboxes-place.result in
    let from = g.M.Memory.bytes c.args.from.now in
    let seats = seats_of c.args.sandboxes.now in
    let at : slice_get seats c.loop-place.place ≡ Some (seat_of x) = here c.args.sandboxes.now [] c.loop-place.place x (omega arith) c.index-sandboxes-place.is in
    next_copied from (g.M.Memory.bytes c.loop-place.to) (g.M.Memory.bytes c.copy_sandbox.new.to) seats c.loop-place.place c.args.but c.loop-place.invariant
    (seat_of x) c.in_ok-copy_sandbox.ensures c.if-place-but.false at

pub returns : goal.returns
returns g c =
    let many = length-map c.args.sandboxes.now seat_of in
    others_copied (g.M.Memory.bytes c.args.from.now) (seats_of c.args.sandboxes.now) c.loop-place.place c.args.but (g.M.Memory.bytes c.loop-place.to) (omega (arith, many)) c.loop-place.invariant
