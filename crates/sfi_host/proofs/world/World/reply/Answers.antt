use Rattle.sfi_host.proofs.Prelude.{◌≡◌, ◌≢◌, ℕ, [], ◌∷◌, set, slice_get, slice_set, Option, Some, None, IsSome, IsTrue, refl, sym, ap, ◌∙◌, subst, arith, same_Some, false, true, List, Ecall, Stands, Sandbox, Sandboxes, Slot, RunEnds, Machine, IsMachine, IsJoint, call_of, replied, seat_of, slot_of, slots_of, state_in, world_of, IsSafeWorld}
use Rattle.sfi_host.specs.Modules.{programs_of}
use Rattle.sfi_host.specs.declared.guest.Request.{Request}
use Rattle.sfi_host.specs.Waiting.{Waits, later_answer, later_reply}
use Rattle.sfi_host.proofs.WorldBytes.{found_there, seat_at, world_runs}
use Rattle.sfi_host.proofs.Changing.{AfterTurn, others_same, turn_taken}
use Rattle.sfi_host.proofs.Joined.{joined_are}
use Rattle.sfi_host.proofs.LaterReplies.{reply_is_answer}
use Rattle.sfi_host.proofs.Stops.{have_stopped}
use Rattle.sfi_host.proofs.Waited.{waits_at, is_told}
use Rattle.sfi_host.specs.Sessions.{GiveReply}
use Rattle.sfi_host.proofs.Acted.{past_acts, never_acts, done_acts}
use Rattle.sfi_host.proofs.world.World.reply.Given as given
use Rattle.sfi_host.proofs.world.World.reply.Goals as goal

pub returns-then-place-len-clause-stops : goal.returns-then-place-len-clause-stops
returns-then-place-len-clause-stops g c = have_stopped c.args.self.now (subst (λ (w : Sandboxes). IsSafeWorld w) c.self.view_is c.self.invariant.0)

pub returns-in_default-clause-stops : goal.returns-in_default-clause-stops
returns-in_default-clause-stops g c = have_stopped c.args.self.now (subst (λ (w : Sandboxes). IsSafeWorld w) c.self.view_is c.self.invariant.0)

pub returns-in_default-clause-may : goal.returns-in_default-clause-may
returns-in_default-clause-may g c =
    let m = g.M.Memory.bytes c.self.inside.memory in
    let items = c.self.inside.sandboxes.items in
    let at = found_there items items c.args.i c.index.result.now refl (omega (arith, c.len.ensures, c.if-place-len.false)) c.index.ensures in
    let e = c.asked_by.ensures in
    let told = is_told c.args.self.now m items c.self.view_is c.args.i c.index.result.now at c.self.invariant.0 c.asked_by.result e.asks e.ready e.stands e.silent in (
      λ e. absurd (cc),
      λ h. elim c.asked_by.result as (λ (o : Option Request). c.asked_by.result ≡ o → IsSome o → IsTrue false) [
        | None ↦ λ e s. absurd (cc)
        | Some r ↦ λ e s. absurd (c.in_default.not-Some r e)
      ] refl (told.1 h),
    )

-- ---- the sandbox that gets the reply

seen : (g : given.Over) (c : goal.After-host-1 g) → slice_get c.self.inside.sandboxes.items c.args.i ≡ Some c.index.result.now
seen g c =
    let items = c.self.inside.sandboxes.items in
    found_there items items c.args.i c.index.result.now refl (omega (arith, c.len.ensures, c.if-place-len.false)) c.index.ensures

at : (g : given.Over) (c : goal.After-host-1 g) → slice_get c.self.inside.sandboxes.items c.args.i ≡ Some c.index_mut.result.now
at g c =
    let items = c.self.inside.sandboxes.items in
    found_there items items c.args.i c.index_mut.result.now refl (omega (arith, c.len.ensures, c.if-place-len.false)) c.index_mut.ensures.value

same : (g : given.Over) (c : goal.After-host-1 g) → c.index.result.now ≡ c.index_mut.result.now
same g c = same_Some c.index.result.now c.index_mut.result.now (sym (seen g c) ∙ at g c)

waits : (g : given.Over) (c : goal.After-host-1 g) → Waits (slots_of c.args.self.now) c.args.i c.in-Some.field-0
waits g c =
    let m = g.M.Memory.bytes c.self.inside.memory in
    waits_at c.args.self.now m c.self.inside.sandboxes.items c.self.view_is c.args.i c.index.result.now (seen g c) c.self.invariant.0 c.in-Some.field-0 c.in-Some.ensures.asks
    (c.in-Some.ensures.ready refl) (c.in-Some.ensures.stands refl)

pub ask-requires : goal.ask-requires
ask-requires g c =
    let m = g.M.Memory.bytes c.self.inside.memory in
    let x = c.index_mut.result.now in
    record {
      ready = sym (ap (λ (y : Sandbox). y.status) (same g c)) ∙ c.in-Some.ensures.ready refl;
      safe = c.self.invariant.0.each c.args.i (seat_of x) (seat_at c.self.inside.sandboxes.items c.args.i x (at g c));
      called = subst (λ (y : Sandbox). (n : ℕ) × Stands (state_in m (seat_of y)) Ecall n) (same g c) (c.in-Some.ensures.stands refl);
    }

-- ---- what the reply leaves

after : (g : given.Over) (c : goal.After-self-1 g) → AfterTurn c.args.self.now (programs_of c.self.inside.programs.items) c.args.i (slot_of (g.M.Memory.bytes c.self.inside.memory) (seat_of c.index_mut.result.now))
    (slot_of (g.M.Memory.bytes c.ask.new.memory) (seat_of c.ask.new.sandbox)) (world_of (g.M.Memory.bytes c.ask.new.memory) (set c.self.inside.sandboxes.items c.args.i c.ask.new.sandbox))
after g c =
    turn_taken (g.M.Memory.bytes c.self.inside.memory) (g.M.Memory.bytes c.ask.new.memory) c.self.inside.sandboxes.items (programs_of c.self.inside.programs.items) c.args.i c.index_mut.result.now c.ask.new.sandbox
    c.self.invariant (at g c.before.before) c.ask.ensures.stays c.args.self.now c.self.view_is

pub invariant_of-self : goal.invariant_of-self
invariant_of-self g c = (after g c).kept

answered : (g : given.Over) (c : goal.After-self-1 g) → c.ask.result ≢ RunEnds
answered g c e = let wrong : false ≡ true = (c.ask.ensures.refused e).test in absurd (cc)

got : (g : given.Over) (c : goal.After-self-1 g) (slot : Slot) → slice_get (slots_of c.args.self.now) c.args.i ≡ Some slot
    → slots_of (world_of (g.M.Memory.bytes c.ask.new.memory) (set c.self.inside.sandboxes.items c.args.i c.ask.new.sandbox))
    ≡ slice_set (slots_of c.args.self.now) c.args.i (replied slot (later_reply c.args.reply (call_of c.args.i slot)))
got g c slot there =
    let a = after g c in
    let i = c.args.i in
    a.slots ∙ ap (set (slots_of c.args.self.now) i) ((c.ask.ensures.replied (answered g c)).slot ∙ ap (λ (x : Slot). replied x (later_reply c.args.reply (call_of i x))) (same_Some _ slot (sym a.there ∙ there)))

done : (g : given.Over) (c : goal.After-self-1 g) (machine : Machine) → IsMachine machine → IsJoint machine later_answer (record { sandbox = c.args.i; steps = 1 } ∷ []) (slots_of c.args.self.now) c.args.reply
    (slots_of (world_of (g.M.Memory.bytes c.ask.new.memory) (set c.self.inside.sandboxes.items c.args.i c.ask.new.sandbox))) c.args.reply
done g c machine is =
    let i = c.args.i in
    let w = waits g c.before.before in
    subst (λ (l : List Slot). IsJoint machine later_answer (record { sandbox = i; steps = 1 } ∷ []) (slots_of c.args.self.now) c.args.reply l c.args.reply) (sym (got g c w.at.slot w.at.there))
    (reply_is_answer machine is later_answer i (slots_of c.args.self.now) c.in-Some.field-0 (later_reply c.args.reply (call_of i w.at.slot)) c.args.reply c.args.reply w refl)

pub returns : goal.returns
returns g c =
    let a = after g c in
    let i = c.args.i in
    let w = waits g c.before.before in
    record {
      may = (λ e. w.at, λ h. refl);
      done = done g c;
      replied = got g c;
      refused = tt;
      action = done_acts c.args.self.now _ i (GiveReply c.args.reply) a.kept.0 w.at (λ machine is slot there. record { slots_are = got g c slot there; outside = a.outside });
      runs = λ machine is.
          world_runs joined_are machine is later_answer (record { sandbox = i; steps = 1 } ∷ []) c.args.self.now _ c.args.reply (subst (λ (x : Sandboxes). IsSafeWorld x) c.self.view_is c.self.invariant.0)
          a.bounds a.outside None (done g c machine is).slots;
      others = others_same c.args.self.now i _ _ a.slots;
      safe = a.kept.0;
      stops = have_stopped _ a.kept.0;
      outside = a.outside;
    }

pub returns-then-place-len-clause-action : goal.returns-then-place-len-clause-action
returns-then-place-len-clause-action g c =
    past_acts c.args.self.now (g.M.Memory.bytes c.self.inside.memory) c.self.inside.sandboxes.items c.self.view_is c.args.i (GiveReply c.args.reply) c.self.invariant.0 (omega (arith, c.len.ensures, c.if-place-len.true))

pub returns-in_default-clause-action : goal.returns-in_default-clause-action
returns-in_default-clause-action g c =
    never_acts c.args.self.now (g.M.Memory.bytes c.self.inside.memory) c.self.inside.sandboxes.items c.self.view_is c.args.i (GiveReply c.args.reply) c.self.invariant.0 (returns-in_default-clause-may g c)
