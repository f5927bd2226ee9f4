use Rattle.sfi_host.proofs.Prelude.{List, [], ◌∷◌, None, set, slice_get, refl, sym, ap, ◌∙◌, subst, arith, slice_get_past, Slot, IsJoint, IsCutJoint, seat_of, world_of, Sandboxes, slot_of, slots_of}
use Rattle.sfi_host.specs.Modules.{programs_of}
use Rattle.sfi_host.proofs.WorldBytes.{no_slot}
use Rattle.sfi_decoded.proofs.Lists.{get_set_same}
use Rattle.sfi_host.proofs.Plans.{none_then, one_joint, one_turn, cut_turn}
use Rattle.sfi_host.proofs.Changing.{AfterTurn, may_run_shared, put_back}
use Rattle.sfi_host.proofs.world.World.take_turn.Given as given
use Rattle.sfi_host.proofs.world.World.take_turn.Goals as goal

pub returns-then-place-len-clause-whole : goal.returns-then-place-len-clause-whole
returns-then-place-len-clause-whole g c whole machine is =
    let m = g.M.Memory.bytes c.self.inside.memory in
    let items = c.self.inside.sandboxes.items in
    let i = c.args.turn.sandbox in
    one_joint machine g.G.Gates.answer c.args.turn (slots_of c.args.self.now) c.args.gates.now (slots_of c.args.self.now) c.args.gates.now
    (none_then machine g.G.Gates.answer c.args.turn (slots_of c.args.self.now) c.args.gates.now None
    (ap (λ (w : Sandboxes). slice_get (slots_of w) i) (sym c.self.view_is) ∙ no_slot m items i (slice_get_past items i (omega (arith, c.len.ensures, c.if-place-len.true)))) [])

pub run_turn-requires : goal.run_turn-requires
run_turn-requires g c =
    may_run_shared (g.M.Memory.bytes c.self.inside.memory) c.self.inside.sandboxes.items (programs_of c.self.inside.programs.items) c.args.turn.sandbox c.index_mut.result.now c.self.invariant (omega (arith, c.len.ensures, c.if-place-len.false)) c.index_mut.ensures.value
    c.self.inside.programs.items refl c.index.result.now c.index.ensures c.deref.result.now c.deref.ensures

taken : (g : given.Over) (c : goal.After-self-1 g) → AfterTurn c.args.self.now (programs_of c.self.inside.programs.items) c.args.turn.sandbox (slot_of (g.M.Memory.bytes c.self.inside.memory) (seat_of c.index_mut.result.now))
    (slot_of (g.M.Memory.bytes c.run_turn.new.memory) (seat_of c.run_turn.new.sandbox)) (world_of (g.M.Memory.bytes c.run_turn.new.memory) (set c.self.inside.sandboxes.items c.args.turn.sandbox c.run_turn.new.sandbox))
taken g c =
    put_back (g.M.Memory.bytes c.self.inside.memory) c.self.inside.sandboxes.items (programs_of c.self.inside.programs.items) c.args.turn.sandbox c.index_mut.result.now c.self.invariant (omega (arith, c.len.ensures, c.if-place-len.false)) c.index_mut.ensures.value
    (g.M.Memory.bytes c.run_turn.new.memory) c.run_turn.new.sandbox c.run_turn.ensures.stays c.args.self.now c.self.view_is

pub invariant_of-self : goal.invariant_of-self
invariant_of-self g c = (taken g c).kept

pub returns : goal.returns
returns g c =
    let after = taken g c in
    let slots = slots_of c.args.self.now in
    record {
      safe = after.kept.0;
      bounds = after.bounds;
      outside = after.outside;
      whole = λ whole machine is. subst (λ (l : List Slot). IsJoint machine g.G.Gates.answer (c.args.turn ∷ []) slots c.args.gates.now l c.run_turn.new.gates) (sym after.slots)
          (one_turn machine g.G.Gates.answer c.args.turn slots c.args.gates.now _ after.there _ c.run_turn.new.gates (c.run_turn.ensures.whole whole machine is));
      refused = λ refused machine is.
          subst (λ (l : List Slot). IsCutJoint machine g.G.Gates.answer g.G.Gates.may_refuse (c.args.turn ∷ []) slots c.args.gates.now 0 l c.run_turn.new.gates) (sym after.slots)
          (cut_turn machine g.G.Gates.answer c.args.turn slots c.args.gates.now _ after.there _ c.run_turn.new.gates g.G.Gates.may_refuse
          (get_set_same slots c.args.turn.sandbox _ _ after.there) (c.run_turn.ensures.refused refused machine is));
    }
