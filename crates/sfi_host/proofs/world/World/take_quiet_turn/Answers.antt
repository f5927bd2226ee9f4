use Rattle.sfi_host.proofs.Prelude.{set, slice_get, refl, sym, ap, ◌∙◌, arith, slice_get_past, seat_of, world_of, Sandboxes, slot_of, slots_of}
use Rattle.sfi_host.specs.Modules.{programs_of}
use Rattle.sfi_host.proofs.WorldBytes.{no_slot}
use Rattle.sfi_host.proofs.Changing.{AfterTurn, may_run_shared, put_back}
use Rattle.sfi_host.proofs.Quiet.{no_sandbox, quiet_plan}
use Rattle.sfi_host.proofs.world.World.take_quiet_turn.Given as given
use Rattle.sfi_host.proofs.world.World.take_quiet_turn.Goals as goal

pub returns-then-place-len-clause-ran : goal.returns-then-place-len-clause-ran
returns-then-place-len-clause-ran g c machine is =
    let m = g.M.Memory.bytes c.self.inside.memory in
    let items = c.self.inside.sandboxes.items in
    let i = c.args.turn.sandbox in
    no_sandbox machine c.args.turn (slots_of c.args.self.now)
    (ap (λ (w : Sandboxes). slice_get (slots_of w) i) (sym c.self.view_is) ∙ no_slot m items i (slice_get_past items i (omega (arith, c.len.ensures, c.if-place-len.true))))

pub run_quietly-requires : goal.run_quietly-requires
run_quietly-requires g c =
    may_run_shared (g.M.Memory.bytes c.self.inside.memory) c.self.inside.sandboxes.items (programs_of c.self.inside.programs.items) c.args.turn.sandbox c.index_mut.result.now c.self.invariant (omega (arith, c.len.ensures, c.if-place-len.false)) c.index_mut.ensures.value
    c.self.inside.programs.items refl c.index.result.now c.index.ensures c.deref.result.now c.deref.ensures

taken : (g : given.Over) (c : goal.After-self-1 g) → AfterTurn c.args.self.now (programs_of c.self.inside.programs.items) c.args.turn.sandbox (slot_of (g.M.Memory.bytes c.self.inside.memory) (seat_of c.index_mut.result.now))
    (slot_of (g.M.Memory.bytes c.run_quietly.new.memory) (seat_of c.run_quietly.new.sandbox)) (world_of (g.M.Memory.bytes c.run_quietly.new.memory) (set c.self.inside.sandboxes.items c.args.turn.sandbox c.run_quietly.new.sandbox))
taken g c =
    put_back (g.M.Memory.bytes c.self.inside.memory) c.self.inside.sandboxes.items (programs_of c.self.inside.programs.items) c.args.turn.sandbox c.index_mut.result.now c.self.invariant (omega (arith, c.len.ensures, c.if-place-len.false)) c.index_mut.ensures.value
    (g.M.Memory.bytes c.run_quietly.new.memory) c.run_quietly.new.sandbox c.run_quietly.ensures.stays c.args.self.now c.self.view_is

pub invariant_of-self : goal.invariant_of-self
invariant_of-self g c = (taken g c).kept

pub returns : goal.returns
returns g c =
    let after = taken g c in
    record {
      safe = after.kept.0;
      bounds = after.bounds;
      outside = after.outside;
      ran = λ machine is. after.slots
          ∙ quiet_plan machine c.args.turn (slots_of c.args.self.now) _ _ after.there c.run_quietly.result (λ e. c.run_quietly.ensures.over e machine is) (λ left e. c.run_quietly.ensures.call left e machine is);
    }
