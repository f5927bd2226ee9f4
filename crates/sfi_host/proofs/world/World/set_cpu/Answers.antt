use Rattle.sfi_host.proofs.Prelude.{◌≡◌, ◌↔◌, true, false, set, slice_get, Some, refl, sym, ◌∙◌, subst, arith, slice_get_past, same_Some, Sandbox, seat_of, world_of, slot_of}
use Rattle.sfi_host.specs.Modules.{programs_of}
use Rattle.sfi_host.specs.Changing.{IsEntryHart}
use Rattle.sfi_host.proofs.WorldBytes.{found_there, seat_at}
use Rattle.sfi_host.proofs.Changing.{others_same}
use Rattle.sfi_host.proofs.Entries.{sizes}
use Rattle.sfi_host.proofs.FromOutside.{HasSet, has_set, none_set, set_where}
use Rattle.sfi_host.proofs.world.World.set_cpu.Given as given
use Rattle.sfi_host.proofs.world.World.set_cpu.Goals as goal

pub returns-then-place-len-clause-may : goal.returns-then-place-len-clause-may
returns-then-place-len-clause-may g c =
    let items = c.self.inside.sandboxes.items in
    none_set c.args.self.now (g.M.Memory.bytes c.self.inside.memory) items c.self.view_is c.args.i c.args.cpu (slice_get_past items c.args.i (omega (arith, c.len.ensures, c.if-place-len.true)))

pub may_hold-requires : goal.may_hold-requires
may_hold-requires g c =
    let items = c.self.inside.sandboxes.items in
    let x = c.index.result.now in
    let there = seat_at items c.args.i x (found_there items items c.args.i x refl (omega (arith, c.len.ensures, c.if-place-len.false)) c.index.ensures) in
    let z = sizes (g.M.Memory.bytes c.self.inside.memory) (seat_of x) (c.self.invariant.0.each c.args.i (seat_of x) there) in
    record { code_size = z.0; data_size = z.1; data_end = z.2 }

pub returns-then-not-may_hold-clause-may : goal.returns-then-not-may_hold-clause-may
returns-then-not-may_hold-clause-may g c =
    let items = c.self.inside.sandboxes.items in
    let x = c.index.result.now in
    set_where c.args.self.now (g.M.Memory.bytes c.self.inside.memory) items c.self.view_is c.args.i c.args.cpu x false
    (found_there items items c.args.i x refl (omega (arith, c.len.ensures, c.if-place-len.false)) c.index.ensures)
    c.if-not-may_hold.ensures

-- ---- what comes of it

at : (g : given.Over) (c : goal.After-self-1 g) → slice_get c.self.inside.sandboxes.items c.args.i ≡ Some c.index_mut.result.now
at g c =
    let items = c.self.inside.sandboxes.items in
    found_there items items c.args.i c.index_mut.result.now refl (omega (arith, c.len.ensures, c.if-place-len.false)) c.index_mut.ensures.value

may : (g : given.Over) (c : goal.After-self-1 g) → IsEntryHart (seat_of c.index_mut.result.now).bounds c.args.cpu
may g c =
    let items = c.self.inside.sandboxes.items in
    let x = c.index.result.now in
    let here : slice_get items c.args.i ≡ Some x = found_there items items c.args.i x refl (omega (arith, c.len.ensures, c.if-place-len.false)) c.index.ensures in
    subst (λ (y : Sandbox). IsEntryHart (seat_of y).bounds c.args.cpu) (same_Some x c.index_mut.result.now (sym here ∙ at g c))
    (c.if-not-may_hold.ensures.0 refl)

after : (g : given.Over) (c : goal.After-self-1 g) → let m = g.M.Memory.bytes c.self.inside.memory in let items = c.self.inside.sandboxes.items in
    HasSet c.args.self.now (programs_of c.self.inside.programs.items) c.args.i c.args.cpu (slot_of m (seat_of c.index_mut.result.now)) (slot_of m (seat_of c.resume.new.self)) (world_of m (set items c.args.i c.resume.new.self))
after g c =
    has_set (g.M.Memory.bytes c.self.inside.memory) c.self.inside.sandboxes.items (programs_of c.self.inside.programs.items) c.args.i c.index_mut.result.now c.resume.new.self
    c.self.invariant (at g c) c.args.cpu c.requires.hart (may g c) c.resume.ensures c.args.self.now c.self.view_is

pub invariant_of-self : goal.invariant_of-self
invariant_of-self g c = (after g c).after.kept

pub returns : goal.returns
returns g c =
    let a = after g c in
    record {
      may = set_where c.args.self.now (g.M.Memory.bytes c.self.inside.memory) c.self.inside.sandboxes.items c.self.view_is c.args.i c.args.cpu c.index_mut.result.now true (at g c) (λ e. may g c, λ h. refl);
      done = a.world;
      refused = tt;
      others = others_same c.args.self.now c.args.i _ _ a.after.slots;
      entry = a.entry;
      safe = a.after.kept.0;
    }
