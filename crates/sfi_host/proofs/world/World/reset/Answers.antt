use Rattle.sfi_host.proofs.Prelude.{◌≡◌, set, slice_get, Some, refl, arith, slice_get_past, seat_of, world_of, slot_of}
use Rattle.sfi_host.specs.Modules.{programs_of}
use Rattle.sfi_host.proofs.WorldBytes.{found_there, seat_at}
use Rattle.sfi_host.proofs.Changing.{others_same, whole_at}
use Rattle.sfi_host.proofs.Entries.{sizes}
use Rattle.sfi_host.proofs.ResetSeats.{HasReset, has_reset, none_reset, some_reset, start_even, init_fits}
use Rattle.sfi_host.specs.Sessions.{Reset}
use Rattle.sfi_host.proofs.Acted.{past_acts, done_acts}
use Rattle.sfi_host.proofs.world.World.reset.Given as given
use Rattle.sfi_host.proofs.world.World.reset.Goals as goal

pub returns-then-place-len-clause-may : goal.returns-then-place-len-clause-may
returns-then-place-len-clause-may g c =
    let items = c.self.inside.sandboxes.items in
    none_reset c.args.self.now (g.M.Memory.bytes c.self.inside.memory) items c.self.view_is c.args.i (slice_get_past items c.args.i (omega (arith, c.len.ensures, c.if-place-len.true)))

pub reset-requires : goal.reset-requires
reset-requires g c =
    let m = g.M.Memory.bytes c.self.inside.memory in
    let items = c.self.inside.sandboxes.items in
    let x = c.index_mut.result.now in
    let at = found_there items items c.args.i x refl (omega (arith, c.len.ensures, c.if-place-len.false)) c.index_mut.ensures.value in
    let seat = c.self.invariant.0.each c.args.i (seat_of x) (seat_at items c.args.i x at) in
    let z = sizes m (seat_of x) seat in
    record {
      whole = whole_at m items c.args.i x c.self.invariant.0 at;
      room = init_fits m (seat_of x) seat;
      even = start_even m (seat_of x) seat;
      code_size = z.0;
      data_size = z.1;
      data_end = z.2;
    }

-- ---- what comes of it

at : (g : given.Over) (c : goal.After-self-1 g) → slice_get c.self.inside.sandboxes.items c.args.i ≡ Some c.index_mut.result.now
at g c =
    let items = c.self.inside.sandboxes.items in
    found_there items items c.args.i c.index_mut.result.now refl (omega (arith, c.len.ensures, c.if-place-len.false)) c.index_mut.ensures.value

after : (g : given.Over) (c : goal.After-self-1 g) → let m = g.M.Memory.bytes c.self.inside.memory in let n = g.M.Memory.bytes c.reset.new.memory in let items = c.self.inside.sandboxes.items in
    HasReset c.args.self.now (programs_of c.self.inside.programs.items) c.args.i (slot_of m (seat_of c.index_mut.result.now)) (slot_of n (seat_of c.reset.new.self)) (world_of n (set items c.args.i c.reset.new.self))
after g c =
    has_reset (g.M.Memory.bytes c.self.inside.memory) (g.M.Memory.bytes c.reset.new.memory) c.self.inside.sandboxes.items (programs_of c.self.inside.programs.items) c.args.i c.index_mut.result.now c.reset.new.self
    c.self.invariant (at g c) (g.met.M.Memory.in_range c.reset.new.memory)
    c.reset.ensures.filled c.reset.ensures.outside c.reset.ensures.whole c.reset.ensures.reset c.reset.ensures.hart c.args.self.now c.self.view_is

pub invariant_of-self : goal.invariant_of-self
invariant_of-self g c = (after g c).after.kept

pub returns : goal.returns
returns g c =
    let a = after g c in
    let may = some_reset c.args.self.now (g.M.Memory.bytes c.self.inside.memory) c.self.inside.sandboxes.items c.self.view_is c.args.i c.index_mut.result.now (at g c) in
    record {
      may = may;
      done = a.world;
      refused = tt;
      action = done_acts c.args.self.now _ c.args.i Reset a.after.kept.0 (may.0 refl) (λ machine is. a.world);
      others = others_same c.args.self.now c.args.i _ _ a.after.slots;
      outside = a.after.outside;
      entry = a.entry;
      safe = a.after.kept.0;
    }

pub returns-then-place-len-clause-action : goal.returns-then-place-len-clause-action
returns-then-place-len-clause-action g c =
    past_acts c.args.self.now (g.M.Memory.bytes c.self.inside.memory) c.self.inside.sandboxes.items c.self.view_is c.args.i (Reset) c.self.invariant.0 (omega (arith, c.len.ensures, c.if-place-len.true))
