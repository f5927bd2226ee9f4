use Rattle.sfi_host.proofs.Prelude.{◌≡◌, true, set, slice_get, Some, refl, sym, ◌∙◌, subst, arith, slice_get_past, same_Some, Sandbox, Ready, seat_of, world_of, slot_of}
use Rattle.sfi_host.specs.Modules.{programs_of}
use Rattle.sfi_host.proofs.WorldBytes.{found_there}
use Rattle.sfi_host.proofs.Changing.{others_same}
use Rattle.sfi_host.proofs.FromOutside.{HasStopped, has_stopped, none_ready, ready_where}
use Rattle.sfi_host.specs.Sessions.{Stop}
use Rattle.sfi_host.proofs.Acted.{past_acts, never_acts, done_acts}
use Rattle.sfi_host.proofs.world.World.stop.Given as given
use Rattle.sfi_host.proofs.world.World.stop.Goals as goal

pub returns-then-place-len-clause-may : goal.returns-then-place-len-clause-may
returns-then-place-len-clause-may g c =
    let items = c.self.inside.sandboxes.items in
    none_ready c.args.self.now (g.M.Memory.bytes c.self.inside.memory) items c.self.view_is c.args.i (slice_get_past items c.args.i (omega (arith, c.len.ensures, c.if-place-len.true)))

pub returns-then-not-is_ready-clause-may : goal.returns-then-not-is_ready-clause-may
returns-then-not-is_ready-clause-may g c =
    let items = c.self.inside.sandboxes.items in
    let x = c.index.result.now in
    ready_where c.args.self.now (g.M.Memory.bytes c.self.inside.memory) items c.self.view_is c.args.i x _
    (found_there items items c.args.i x refl (omega (arith, c.len.ensures, c.if-place-len.false)) c.index.ensures) c.if-not-is_ready.ensures

-- ---- what comes of it

at : (g : given.Over) (c : goal.After-self-1 g) → slice_get c.self.inside.sandboxes.items c.args.i ≡ Some c.index_mut.result.now
at g c =
    let items = c.self.inside.sandboxes.items in
    found_there items items c.args.i c.index_mut.result.now refl (omega (arith, c.len.ensures, c.if-place-len.false)) c.index_mut.ensures.value

ready : (g : given.Over) (c : goal.After-self-1 g) → c.index_mut.result.now.status ≡ Ready
ready g c =
    let items = c.self.inside.sandboxes.items in
    let x = c.index.result.now in
    let here : slice_get items c.args.i ≡ Some x = found_there items items c.args.i x refl (omega (arith, c.len.ensures, c.if-place-len.false)) c.index.ensures in
    subst (λ (y : Sandbox). y.status ≡ Ready) (same_Some x c.index_mut.result.now (sym here ∙ at g c)) (c.if-not-is_ready.ensures.0 refl)

after : (g : given.Over) (c : goal.After-self-1 g) → let m = g.M.Memory.bytes c.self.inside.memory in let items = c.self.inside.sandboxes.items in
    HasStopped c.args.self.now (programs_of c.self.inside.programs.items) c.args.i (slot_of m (seat_of c.index_mut.result.now)) (slot_of m (seat_of c.stop.new.self)) (world_of m (set items c.args.i c.stop.new.self))
after g c =
    has_stopped (g.M.Memory.bytes c.self.inside.memory) c.self.inside.sandboxes.items (programs_of c.self.inside.programs.items) c.args.i c.index_mut.result.now c.stop.new.self
    c.self.invariant (at g c) c.stop.ensures c.args.self.now c.self.view_is

pub invariant_of-self : goal.invariant_of-self
invariant_of-self g c = (after g c).after.kept

pub returns : goal.returns
returns g c =
    let a = after g c in
    let may = ready_where c.args.self.now (g.M.Memory.bytes c.self.inside.memory) c.self.inside.sandboxes.items c.self.view_is c.args.i c.index_mut.result.now true (at g c) (λ e. ready g c, λ h. refl) in
    record {
      may = may;
      done = a.world;
      refused = tt;
      action = done_acts c.args.self.now _ c.args.i Stop a.after.kept.0 (may.0 refl) (λ machine is. a.world);
      others = others_same c.args.self.now c.args.i _ _ a.after.slots;
      safe = a.after.kept.0;
    }

pub returns-then-place-len-clause-action : goal.returns-then-place-len-clause-action
returns-then-place-len-clause-action g c =
    past_acts c.args.self.now (g.M.Memory.bytes c.self.inside.memory) c.self.inside.sandboxes.items c.self.view_is c.args.i (Stop) c.self.invariant.0 (omega (arith, c.len.ensures, c.if-place-len.true))

pub returns-then-not-is_ready-clause-action : goal.returns-then-not-is_ready-clause-action
returns-then-not-is_ready-clause-action g c =
    never_acts c.args.self.now (g.M.Memory.bytes c.self.inside.memory) c.self.inside.sandboxes.items c.self.view_is c.args.i (Stop) c.self.invariant.0 (returns-then-not-is_ready-clause-may g c)
