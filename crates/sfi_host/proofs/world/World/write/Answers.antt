use Rattle.sfi_host.proofs.Prelude.{◌≡◌, ◌↔◌, IsTrue, IsSome, List, length, ℕ, true, false, Option, Some, slice_get, refl, subst, arith, rules, seat_of, world_of, slot_of}
use Rattle.sfi_host.specs.Modules.{programs_of}
use Rattle.sfi_host.specs.Changing.{AreChanges}
use Rattle.sfi_host.proofs.WorldBytes.{found_there, data_bytes_is}
use Rattle.sfi_host.proofs.Changing.{whole_at, data_written, others_same, AfterTurn}
use Rattle.sfi_host.specs.Sessions.{Write}
use Rattle.sfi_host.specs.Changing.{with_world_bytes}
use Rattle.sfi_host.proofs.Acted.{past_acts, never_acts, done_acts}
use Rattle.sfi_host.proofs.world.World.write.Given as given
use Rattle.sfi_host.proofs.world.World.write.Goals as goal
use Rattle.sfi_host.proofs.world.World.write.Goals.{After-write}

pub returns-then-not-covers-clause-there : goal.returns-then-not-covers-clause-there
returns-then-not-covers-clause-there g c =
    let m = g.M.Memory.bytes c.self.inside.memory in
    let items = c.self.inside.sandboxes.items in
    let x = c.index.result.now in
    let here : slice_get items c.args.i ≡ Some x = found_there items items c.args.i x refl (omega (arith, c.len.ensures, c.if-place-len.false)) c.index.ensures in
    subst (λ (o : Option (List ℕ)). IsTrue false ↔ IsSome o)
    (data_bytes_is c.args.self.now m items c.self.view_is c.args.i x c.args.at (length c.args.bytes.now) here)
    (c.if-not-covers.ensures.there m (whole_at m items c.args.i x c.self.invariant.0 here))

pub write-requires : goal.write-requires
write-requires g c =
    let m = g.M.Memory.bytes c.self.inside.memory in
    let items = c.self.inside.sandboxes.items in
    let x = c.index.result.now in
    let whole = whole_at m items c.args.i x c.self.invariant.0 (found_there items items c.args.i x refl (omega (arith, c.len.ensures, c.if-place-len.false)) c.index.ensures) in
    record { there = (c.if-not-covers.ensures.there m whole).0 refl; end = c.if-not-covers.ensures.end m (g.met.M.Memory.in_range c.self.inside.memory) whole }

-- ---- what the write leaves

here : (g : given.Over) (c : After-write g) → slice_get c.self.inside.sandboxes.items c.args.i ≡ Some c.index.result.now
here g c =
    let items = c.self.inside.sandboxes.items in
    found_there items items c.args.i c.index.result.now refl (omega (arith, c.len.ensures, c.if-place-len.false)) c.index.ensures

after : (g : given.Over) (c : After-write g) → let m = g.M.Memory.bytes c.self.inside.memory in let n = g.M.Memory.bytes c.write.new.memory in let o = world_of n c.self.inside.sandboxes.items in
    AfterTurn c.args.self.now (programs_of c.self.inside.programs.items) c.args.i (slot_of m (seat_of c.index.result.now)) (slot_of n (seat_of c.index.result.now)) o × AreChanges c.args.self.now o
after g c = data_written (g.M.Memory.bytes c.self.inside.memory) (g.M.Memory.bytes c.write.new.memory)
    c.self.inside.sandboxes.items (programs_of c.self.inside.programs.items) c.args.i c.index.result.now c.self.invariant (here g c)
    (g.met.M.Memory.in_range c.write.new.memory) c.write.ensures.outside c.write.ensures.whole c.args.self.now c.self.view_is

pub invariant_of-self : goal.invariant_of-self
invariant_of-self g c = (after g c).0.kept

pub returns : goal.returns
returns g c =
    let m = g.M.Memory.bytes c.self.inside.memory in
    let items = c.self.inside.sandboxes.items in
    let a = after g c in
    let there = subst (λ (o : Option (List ℕ)). IsTrue true ↔ IsSome o)
    (data_bytes_is c.args.self.now m items c.self.view_is c.args.i c.index.result.now c.args.at (length c.args.bytes.now) (here g c))
    (c.if-not-covers.ensures.there m (whole_at m items c.args.i c.index.result.now c.self.invariant.0 (here g c))) in
    let done : world_of (g.M.Memory.bytes c.write.new.memory) items ≡ with_world_bytes c.args.self.now c.args.at c.args.bytes.now = search rules in
    record {
      there = there;
      done = done;
      refused = tt;
      action = done_acts c.args.self.now _ c.args.i (Write c.args.at c.args.bytes.now) a.0.kept.0 (there.0 refl) (λ machine is. done);
      others = others_same c.args.self.now c.args.i _ _ a.0.slots;
      outside = a.0.outside;
      changes = a.1;
      safe = a.0.kept.0;
    }

pub returns-then-place-len-clause-action : goal.returns-then-place-len-clause-action
returns-then-place-len-clause-action g c =
    past_acts c.args.self.now (g.M.Memory.bytes c.self.inside.memory) c.self.inside.sandboxes.items c.self.view_is c.args.i (Write c.args.at c.args.bytes.now) c.self.invariant.0 (omega (arith, c.len.ensures, c.if-place-len.true))

pub returns-then-not-covers-clause-action : goal.returns-then-not-covers-clause-action
returns-then-not-covers-clause-action g c =
    never_acts c.args.self.now (g.M.Memory.bytes c.self.inside.memory) c.self.inside.sandboxes.items c.self.view_is c.args.i (Write c.args.at c.args.bytes.now) c.self.invariant.0 (returns-then-not-covers-clause-there g c)
