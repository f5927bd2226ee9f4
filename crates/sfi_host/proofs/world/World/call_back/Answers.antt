use Rattle.sfi_host.proofs.Prelude.{◌≡◌, false, refl, ◌↔◌, IsTrue, OnTrue, sym, subst, Hart, Slot, slots_of}
use Rattle.sfi_host.specs.private.Sandboxes.{slot_in}
use Rattle.sfi_host.specs.Changing.{MaySetAt, with_hart}
use Rattle.sfi_host.proofs.FromOutside.{not_waiting, odd_callback, callback_where, callback_if_done}
use Rattle.sfi_host.specs.Sessions.{CallBack}
use Rattle.sfi_host.proofs.Acted.{answers_are_actions}
use Rattle.sfi_host.proofs.world.World.call_back.Given as given
use Rattle.sfi_host.proofs.world.World.call_back.Goals as goal

pub returns-in_default-clause-may : goal.returns-in_default-clause-may
returns-in_default-clause-may g c = not_waiting (slots_of c.args.self.now) c.args.i c.args.pc c.args.arguments.now c.waiting.result c.in_default.is c.waiting.ensures.there

pub returns-in_default-called_back-clause-may : goal.returns-in_default-called_back-clause-may
returns-in_default-called_back-clause-may g c = odd_callback (slots_of c.args.self.now) c.args.i c.args.pc c.args.arguments.now (c.called_back.ensures.odd c.in_default-called_back.is)

-- the sandbox as it waits
abbrev slot : (g : given.Over) (c : goal.After-set_cpu g) → Slot
slot g c = slot_in c.args.self.now.bytes c.in-Some-find.sandbox.now

pub returns-clause-may : goal.returns-clause-may
returns-clause-may g c =
    callback_where (slots_of c.args.self.now) c.args.i c.args.pc c.args.arguments.now (slot g c) c.set_cpu.result (sym c.in-Some-find.ensures) c.in-Some.ensures.waits.at
    (subst (λ (h : Hart). IsTrue c.set_cpu.result ↔ MaySetAt (slots_of c.args.self.now) c.args.i h) c.in-Some-called_back.ensures.some c.set_cpu.ensures.may)

pub returns-clause-done : goal.returns-clause-done
returns-clause-done g c =
    callback_if_done c.set_cpu.result c.args.self.now c.set_cpu.new.self c.args.i c.args.pc c.args.arguments.now (slot g c) (sym c.in-Some-find.ensures)
    (subst (λ (h : Hart). OnTrue c.set_cpu.result (c.set_cpu.new.self ≡ with_hart c.args.self.now c.args.i h)) c.in-Some-called_back.ensures.some c.set_cpu.ensures.done)

pub returns-in_default-clause-action : goal.returns-in_default-clause-action
returns-in_default-clause-action g c machine is = answers_are_actions machine c.args.self.now c.args.self.now c.args.i (CallBack c.args.pc c.args.arguments.now) false (returns-in_default-clause-may g c) tt refl c.stays_safe.ensures

pub returns-in_default-called_back-clause-action : goal.returns-in_default-called_back-clause-action
returns-in_default-called_back-clause-action g c machine is = answers_are_actions machine c.args.self.now c.args.self.now c.args.i (CallBack c.args.pc c.args.arguments.now) false (returns-in_default-called_back-clause-may g c) tt refl c.stays_safe.ensures

pub returns-clause-action : goal.returns-clause-action
returns-clause-action g c machine is =
    answers_are_actions machine c.args.self.now c.set_cpu.new.self c.args.i (CallBack c.args.pc c.args.arguments.now) c.set_cpu.result (returns-clause-may g c) (returns-clause-done g c) c.set_cpu.ensures.refused c.set_cpu.ensures.safe
