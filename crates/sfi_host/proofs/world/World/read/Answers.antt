use Rattle.sfi_host.proofs.Prelude.{◌≡◌, ◌↔◌, IsTrue, IsSome, List, length, ℕ, Option, Some, subst, OnTrue}
use Rattle.sfi_host.proofs.WorldBytes.{found_there, data_bytes_is}
use Rattle.sfi_host.proofs.Changing.{whole_at}
use Rattle.sfi_host.proofs.world.World.read.Goals as goal

pub read-requires : goal.read-requires
read-requires g c =
    let h = c.in-Some.ensures.lookup in
    let s = c.in-Some.sandbox.now in
    let here = found_there c.self.inside.sandboxes.items c.deref.result.now c.args.i s c.deref.ensures.value h.3.0 h.1 in
    record { whole = whole_at (g.M.Memory.bytes c.self.inside.memory) c.self.inside.sandboxes.items c.args.i s c.self.invariant.0 here }

pub returns : goal.returns
returns g c =
    let h = c.in-Some.ensures.lookup in
    let s = c.in-Some.sandbox.now in
    let items = c.self.inside.sandboxes.items in
    let here = found_there items c.deref.result.now c.args.i s c.deref.ensures.value h.3.0 h.1 in
    let is = data_bytes_is c.args.self.now (g.M.Memory.bytes c.self.inside.memory) items c.self.view_is c.args.i s c.args.at (length c.args.bytes.now) here in
    record {
      there = subst (λ (o : Option (List ℕ)). IsTrue c.read.result ↔ IsSome o) is c.read.ensures.there;
      done = subst (λ (o : Option (List ℕ)). OnTrue c.read.result (o ≡ Some c.read.new.bytes)) is c.read.ensures.done;
      refused = c.read.ensures.refused;
    }
