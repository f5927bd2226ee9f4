use Rattle.sfi_host.proofs.Prelude.{ap, length, length-map, arith, is_some, Sandboxes, seat_of}
use Rattle.sfi_host.proofs.Acted.{in_range}
use Rattle.sfi_host.proofs.Removing.{is_there}
use Rattle.sfi_host.proofs.world.World.remove.Goals as goal

pub returns-in-Ok-clause-action : goal.returns-in-Ok-clause-action
returns-in-Ok-clause-action g c machine is =
    let items = c.self.inside.sandboxes.items in
    let seats = ap (λ (w : Sandboxes). length w.seats) c.self.view_is in
    let count = length-map items seat_of in
    let there = is_there c.args.self.now.seats c.args.i (omega (arith, c.len.ensures, c.if-place-len.false, seats, count)) in
    record { range = in_range c.leave_out.new.self c.leave_out.ensures.safe; makes = (ap is_some there.1, c.in-Ok.ensures.removed) }
