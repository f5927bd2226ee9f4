use Rattle.sfi_host.proofs.Prelude.{Some, sym, ap, ◌∙◌, seat_of, Sandboxes, slot_of}
use Rattle.sfi_host.proofs.WorldBytes.{found_there, slot_is}
use Rattle.sfi_host.proofs.world.World.find.Goals as goal

pub returns : goal.returns
returns g c =
    let h = c.in_ok-sandbox.ensures.lookup in
    let s = c.in_ok-sandbox.sandbox.now in
    ap (λ (w : Sandboxes). Some (slot_of w.bytes (seat_of s))) (sym c.self.view_is)
    ∙ sym (slot_is c.args.self.now (g.M.Memory.bytes c.self.inside.memory) c.self.inside.sandboxes.items c.self.view_is c.args.i s
    (found_there _ c.deref.result.now c.args.i s c.deref.ensures.value h.3.0 h.1))
