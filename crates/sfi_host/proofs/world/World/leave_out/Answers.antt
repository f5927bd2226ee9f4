use Rattle.std.specs.Arc.{arc_value}
use Rattle.std.specs.List.{remove}
use Rattle.sfi_host.proofs.Prelude.{◌<◌, List, length, length-map, ap, ◌∙◌, arith, Sandbox, Sandboxes, seat_of, seats_of}
use Rattle.sfi_host.specs.Adding.{bytes_of}
use Rattle.sfi_host.specs.Modules.{programs_of}
use Rattle.sfi_host.proofs.Copied.{map_remove}
use Rattle.sfi_host.proofs.Removing.{removed_in}
use Rattle.sfi_host.proofs.world.World.leave_out.Goals as goal

pub invariant_of-self : goal.invariant_of-self
invariant_of-self g c =
    let m = g.M.Memory.bytes c.self.inside.memory in
    let items = c.self.inside.sandboxes.items in
    let below : c.args.place < length items = (let count = length-map items seat_of in let seats = ap (λ (w : Sandboxes). length w.seats) c.self.view_is in omega (arith, count, seats, c.requires.there)) in
    (removed_in m (g.M.Memory.bytes c.copy_other_sandboxes.new.to) items c.remove.new.self.items (programs_of c.self.inside.programs.items) (programs_of c.remove-2.new.self.items) c.args.place
    c.self.invariant below c.args.self.now c.self.view_is (g.met.M.Memory.in_range c.copy_other_sandboxes.new.to)
    (c.in_ok-copy_other_sandboxes.ensures ∙ ap (λ (l : List Sandbox). bytes_of (remove (seats_of l) c.args.place) m) c.deref.ensures.value)
    c.remove.ensures.items (ap programs_of c.remove-2.ensures.items ∙ map_remove arc_value c.self.inside.programs.items c.args.place)).kept

pub returns : goal.returns
returns g c =
    let m = g.M.Memory.bytes c.self.inside.memory in
    let items = c.self.inside.sandboxes.items in
    let below : c.args.place < length items = (let count = length-map items seat_of in let seats = ap (λ (w : Sandboxes). length w.seats) c.self.view_is in omega (arith, count, seats, c.requires.there)) in
    let r = removed_in m (g.M.Memory.bytes c.copy_other_sandboxes.new.to) items c.remove.new.self.items (programs_of c.self.inside.programs.items) (programs_of c.remove-2.new.self.items) c.args.place
    c.self.invariant below c.args.self.now c.self.view_is (g.met.M.Memory.in_range c.copy_other_sandboxes.new.to)
    (c.in_ok-copy_other_sandboxes.ensures ∙ ap (λ (l : List Sandbox). bytes_of (remove (seats_of l) c.args.place) m) c.deref.ensures.value)
    c.remove.ensures.items (ap programs_of c.remove-2.ensures.items ∙ map_remove arc_value c.self.inside.programs.items c.args.place) in
    record { removed = r.done; refused = tt; owned = r.kept.3; rest = r.rest; changes = r.changes; safe = r.kept.0 }
