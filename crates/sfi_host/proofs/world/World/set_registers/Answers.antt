use Rattle.sfi_host.proofs.Prelude.{◌≡◌, false, refl, ◌↔◌, IsTrue, Hart, slots_of, subst}
use Rattle.std.specs.Bool.{OnTrue}
use Rattle.sfi_host.specs.Changing.{MaySetAt, with_hart}
use Rattle.sfi_host.proofs.FromOutside.{odd_set}
use Rattle.sfi_host.specs.Sessions.{SetRegisters}
use Rattle.sfi_host.proofs.Acted.{answers_are_actions}
use Rattle.sfi_host.proofs.world.World.set_registers.Goals as goal

pub returns-in_default-clause-may : goal.returns-in_default-clause-may
returns-in_default-clause-may g c = odd_set (slots_of c.args.self.now) c.args.i c.args.pc c.args.registers.now (c.cpu_of.ensures.odd c.in_default.is)

pub returns-clause-may : goal.returns-clause-may
returns-clause-may g c = subst (λ (h : Hart). IsTrue c.set_cpu.result ↔ MaySetAt (slots_of c.args.self.now) c.args.i h) c.in-Some.ensures.some c.set_cpu.ensures.may

pub returns-clause-done : goal.returns-clause-done
returns-clause-done g c = subst (λ (h : Hart). OnTrue c.set_cpu.result (c.set_cpu.new.self ≡ with_hart c.args.self.now c.args.i h)) c.in-Some.ensures.some c.set_cpu.ensures.done

pub returns-in_default-clause-action : goal.returns-in_default-clause-action
returns-in_default-clause-action g c machine is = answers_are_actions machine c.args.self.now c.args.self.now c.args.i (SetRegisters c.args.pc c.args.registers.now) false (returns-in_default-clause-may g c) tt refl c.stays_safe.ensures

pub returns-clause-action : goal.returns-clause-action
returns-clause-action g c machine is =
    answers_are_actions machine c.args.self.now c.set_cpu.new.self c.args.i (SetRegisters c.args.pc c.args.registers.now) c.set_cpu.result (returns-clause-may g c) (returns-clause-done g c) c.set_cpu.ensures.refused c.set_cpu.ensures.safe
