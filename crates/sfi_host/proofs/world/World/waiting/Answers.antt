use Rattle.sfi_host.proofs.Prelude.{◌≡◌, refl, arith, subst, slice_get, Some, Sandboxes, IsSafeWorld}
use Rattle.sfi_host.proofs.WorldBytes.{found_there, slot_is}
use Rattle.sfi_host.proofs.Waited.{if_at_gate, if_waits, is_told}
use Rattle.sfi_host.proofs.world.World.waiting.Given as given
use Rattle.sfi_host.proofs.world.World.waiting.Goals as goal

at : (g : given.Over) (c : goal.After-asked_by g) → slice_get c.self.inside.sandboxes.items c.args.i ≡ Some c.index.result.now
at g c =
    let items = c.self.inside.sandboxes.items in
    found_there items items c.args.i c.index.result.now refl (omega (arith, c.len.ensures, c.if-place-len.false)) c.index.ensures

pub returns : goal.returns
returns g c =
    let m = g.M.Memory.bytes c.self.inside.memory in
    let items = c.self.inside.sandboxes.items in
    let told = c.asked_by.ensures in
    record {
      waits = if_waits c.args.self.now m items c.self.view_is c.args.i c.index.result.now (at g c) c.self.invariant.0 c.asked_by.result told.asks told.ready told.stands;
      gate = if_at_gate c.args.self.now m c.args.i c.index.result.now c.asked_by.result (slot_is c.args.self.now m items c.self.view_is c.args.i c.index.result.now (at g c)) (subst (λ (w : Sandboxes). IsSafeWorld w) c.self.view_is c.self.invariant.0) told.asks
          (if_waits c.args.self.now m items c.self.view_is c.args.i c.index.result.now (at g c) c.self.invariant.0 c.asked_by.result told.asks told.ready told.stands);
      there = is_told c.args.self.now m items c.self.view_is c.args.i c.index.result.now (at g c) c.self.invariant.0 c.asked_by.result told.asks told.ready told.stands told.silent;
    }
