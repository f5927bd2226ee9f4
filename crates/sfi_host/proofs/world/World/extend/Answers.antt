use Rattle.std.specs.Arc.{arc_value}
use Rattle.sfi_host.proofs.Prelude.{List, ap, ◌∙◌, map-append, Bytes, with_parts, Sandbox, world_of}
use Rattle.sfi_host.specs.Modules.{programs_of}
use Rattle.sfi_host.proofs.Adding.{IsAdded, added_in, no_change}
use Rattle.sfi_host.proofs.world.World.extend.Given as given
use Rattle.sfi_host.proofs.world.World.extend.Goals.{In_ok-append_both}
use Rattle.sfi_host.proofs.world.World.extend.Goals as goal

pub returns-in_err-append_both-clause-changes : goal.returns-in_err-append_both-clause-changes
returns-in_err-append_both-clause-changes g c =
    let m = g.M.Memory.bytes c.self.inside.memory in
    no_change c.args.self.now (world_of m c.append_both.new.sandboxes.items) (ap (λ (l : List Sandbox). world_of m l) c.in_err-append_both.ensures.refused ∙ c.self.view_is)

pub invariant_of-self : goal.invariant_of-self
invariant_of-self g c = rw (c.in_err-append_both.ensures.refused, c.in_err-append_both.ensures.programs_refused) c.self.invariant

added : (g : given.Over) (c : In_ok-append_both g) → IsAdded c.args.self.now c.args.module.now (programs_of c.append_both.new.programs.items) (world_of (g.M.Memory.bytes c.load.new.memory) c.append_both.new.sandboxes.items)
added g c =
    added_in (g.M.Memory.bytes c.self.inside.memory) (g.M.Memory.bytes c.load.new.memory) c.self.inside.sandboxes.items c.in_ok-sandboxes.sandboxes.items c.append_both.new.sandboxes.items
    (programs_of c.self.inside.programs.items) (programs_of c.in_ok-programs.programs.items) (programs_of c.append_both.new.programs.items) c.args.module.now c.self.invariant
    c.load.ensures.runs.clean.layout c.load.ensures.runs.safe c.load.ensures.runs.calls c.args.self.now c.self.view_is c.requires.apart (g.met.M.Memory.in_range c.load.new.memory)
    (c.in_ok-sandboxes.ensures.bytes ∙ ap (λ (b : Bytes). with_parts b c.args.module.now) c.in_ok-copy_all_sandboxes.ensures)
    c.in_ok-sandboxes.ensures.seats c.in_ok-append_both.ensures.sandboxes c.in_ok-programs.ensures
    (ap programs_of c.in_ok-append_both.ensures.programs ∙ map-append arc_value c.self.inside.programs.items c.in_ok-programs.programs.items)

pub invariant_of-self-2 : goal.invariant_of-self-2
invariant_of-self-2 g c = (added g (goal.at.invariant_of-self-2 g c).In_ok-append_both).kept

pub returns : goal.returns
returns g c =
    let added = added g (goal.at.returns g c).In_ok-append_both in
    record { added = added.done; refused = tt; entered = added.entered; first_data = added.first_data; earlier = added.earlier; changes = added.changes; safe = added.kept.0 }
