use Rattle.sfi_host.proofs.Prelude.{◌≡◌, true, set, slice_get, Some, refl, sym, ◌∙◌, subst, arith, slice_get_past, same_Some, Sandbox, MayEnter, seat_of, world_of, slot_of}
use Rattle.sfi_host.specs.Modules.{programs_of}
use Rattle.sfi_host.proofs.WorldBytes.{found_there, seat_at}
use Rattle.sfi_host.proofs.Changing.{others_same}
use Rattle.sfi_safe_runs.proofs.Entries.{even_unit}
use Rattle.sfi_host.proofs.Entries.{sizes, HasEntered, has_entered, no_entry, entry_where}
use Rattle.sfi_host.specs.Sessions.{Enter}
use Rattle.sfi_host.proofs.Acted.{past_acts, never_acts, done_acts}
use Rattle.sfi_host.proofs.world.World.enter.Given as given
use Rattle.sfi_host.proofs.world.World.enter.Goals as goal

pub returns-then-place-len-clause-may : goal.returns-then-place-len-clause-may
returns-then-place-len-clause-may g c =
    let items = c.self.inside.sandboxes.items in
    no_entry c.args.self.now (g.M.Memory.bytes c.self.inside.memory) items c.self.view_is c.args.i c.args.pc (slice_get_past items c.args.i (omega (arith, c.len.ensures, c.if-place-len.true)))

pub returns-then-not-may_enter-clause-may : goal.returns-then-not-may_enter-clause-may
returns-then-not-may_enter-clause-may g c =
    let items = c.self.inside.sandboxes.items in
    let x = c.index.result.now in
    entry_where c.args.self.now (g.M.Memory.bytes c.self.inside.memory) items c.self.view_is c.args.i c.args.pc x _
    (found_there items items c.args.i x refl (omega (arith, c.len.ensures, c.if-place-len.false)) c.index.ensures) c.if-not-may_enter.ensures

-- ---- it may be entered

pub enter-requires : goal.enter-requires
enter-requires g c =
    let items = c.self.inside.sandboxes.items in
    let x = c.index_mut.result.now in
    let there = seat_at items c.args.i x (found_there items items c.args.i x refl (omega (arith, c.len.ensures, c.if-place-len.false)) c.index_mut.ensures.value) in
    let z = sizes (g.M.Memory.bytes c.self.inside.memory) (seat_of x) (c.self.invariant.0.each c.args.i (seat_of x) there) in
    record { even = even_unit c.index.result.now.format c.args.pc (c.if-not-may_enter.ensures.0 refl).start.aligned; code_size = z.0; data_size = z.1; data_end = z.2 }

-- ---- what comes of it

at : (g : given.Over) (c : goal.After-self-1 g) → slice_get c.self.inside.sandboxes.items c.args.i ≡ Some c.index_mut.result.now
at g c =
    let items = c.self.inside.sandboxes.items in
    found_there items items c.args.i c.index_mut.result.now refl (omega (arith, c.len.ensures, c.if-place-len.false)) c.index_mut.ensures.value

may : (g : given.Over) (c : goal.After-self-1 g) → MayEnter (seat_of c.index_mut.result.now).bounds c.index_mut.result.now.status c.args.pc
may g c =
    let items = c.self.inside.sandboxes.items in
    let x = c.index.result.now in
    let here : slice_get items c.args.i ≡ Some x = found_there items items c.args.i x refl (omega (arith, c.len.ensures, c.if-place-len.false)) c.index.ensures in
    subst (λ (y : Sandbox). MayEnter (seat_of y).bounds y.status c.args.pc) (same_Some x c.index_mut.result.now (sym here ∙ at g c)) (c.if-not-may_enter.ensures.0 refl)

after : (g : given.Over) (c : goal.After-self-1 g) → let m = g.M.Memory.bytes c.self.inside.memory in let items = c.self.inside.sandboxes.items in
    HasEntered c.args.self.now (programs_of c.self.inside.programs.items) c.args.i c.args.pc c.args.arguments.now (slot_of m (seat_of c.index_mut.result.now)) (slot_of m (seat_of c.enter.new.self)) (world_of m (set items c.args.i c.enter.new.self))
after g c =
    let many = c.told-arguments in
    has_entered (g.M.Memory.bytes c.self.inside.memory) c.self.inside.sandboxes.items (programs_of c.self.inside.programs.items) c.args.i c.index_mut.result.now c.enter.new.self
    c.self.invariant (at g c) c.args.pc c.args.arguments.now (omega (arith, many)) (may g c).start.held (may g c).start.aligned c.enter.ensures.entered c.enter.ensures.hart c.args.self.now c.self.view_is

pub invariant_of-self : goal.invariant_of-self
invariant_of-self g c = (after g c).after.kept

pub returns : goal.returns
returns g c =
    let a = after g c in
    let allowed = entry_where c.args.self.now (g.M.Memory.bytes c.self.inside.memory) c.self.inside.sandboxes.items c.self.view_is c.args.i c.args.pc c.index_mut.result.now true (at g c) (λ e. may g c, λ h. refl) in
    record {
      may = allowed;
      done = a.world;
      refused = tt;
      action = done_acts c.args.self.now _ c.args.i (Enter c.args.pc c.args.arguments.now) a.after.kept.0 (allowed.0 refl) (λ machine is. (c.told-arguments, a.world));
      others = others_same c.args.self.now c.args.i _ _ a.after.slots;
      entry = a.entry;
      safe = a.after.kept.0;
    }

pub returns-then-place-len-clause-action : goal.returns-then-place-len-clause-action
returns-then-place-len-clause-action g c =
    past_acts c.args.self.now (g.M.Memory.bytes c.self.inside.memory) c.self.inside.sandboxes.items c.self.view_is c.args.i (Enter c.args.pc c.args.arguments.now) c.self.invariant.0 (omega (arith, c.len.ensures, c.if-place-len.true))

pub returns-then-not-may_enter-clause-action : goal.returns-then-not-may_enter-clause-action
returns-then-not-may_enter-clause-action g c =
    never_acts c.args.self.now (g.M.Memory.bytes c.self.inside.memory) c.self.inside.sandboxes.items c.self.view_is c.args.i (Enter c.args.pc c.args.arguments.now) c.self.invariant.0 (returns-then-not-may_enter-clause-may g c)
