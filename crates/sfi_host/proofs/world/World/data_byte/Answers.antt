use Rattle.std.proofs.Common.{◌∙◌}
use Rattle.sfi_host.proofs.WorldBytes.{found_there, data_is, there_is}
use Rattle.sfi_host.proofs.Changing.{whole_at}
use Rattle.sfi_host.proofs.world.World.data_byte.Goals as goal

pub returns : goal.returns
returns g c =
    let h = c.in_ok-sandbox.ensures.lookup in
    let m = g.M.Memory.bytes c.self.inside.memory in
    let items = c.self.inside.sandboxes.items in
    let s = c.in_ok-sandbox.sandbox.now in
    let here = found_there items c.deref.result.now c.args.i s c.deref.ensures.value h.3.0 h.1 in
    record {
      value = c.byte.ensures.value ∙ data_is c.args.self.now m items c.self.view_is c.args.i s c.args.at here;
      there = there_is c.args.self.now m items c.self.view_is c.args.i s c.args.at c.byte.result here (c.byte.ensures.there (whole_at m items c.args.i s c.self.invariant.0 here));
    }
