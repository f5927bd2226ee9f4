use Rattle.sfi_host.proofs.Prelude.{List, length, length-map, refl, ap, sym, subst, arith, Sandbox, seat_of, world_of, Sandboxes, IsSafeWorld}
use Rattle.sfi_host.specs.Adding.{MeetsSome}
use Rattle.sfi_host.proofs.Meetings.{not_meeting}
use Rattle.sfi_host.proofs.Acted.{in_range}
use Rattle.sfi_host.proofs.world.World.add.Given as given
use Rattle.sfi_host.proofs.world.World.add.Goals.{Else-meets}
use Rattle.sfi_host.proofs.world.World.add.Goals as goal

pub meets-requires : goal.meets-requires
meets-requires g c =
    let m = g.M.Memory.bytes c.self.inside.memory in
    (m, subst (λ (l : List Sandbox). IsSafeWorld (world_of m l)) (sym c.deref.ensures.value) c.self.invariant.0)

pub first_number-requires : goal.first_number-requires
first_number-requires g c = omega (arith, c.len-2.ensures.runs.clean.layout.at_least_one, c.len-2.ensures.count)

clear : (g : given.Over) (c : Else-meets g) → MeetsSome c.args.self.now c.args.module.now → ⊥
clear g c =
    not_meeting c.args.self.now (g.M.Memory.bytes c.self.inside.memory) c.self.inside.sandboxes.items c.deref.result.now c.args.module.now
    (c.if-meets.ensures (g.M.Memory.bytes c.self.inside.memory)) c.deref.ensures.value c.self.view_is

pub extend-requires-clause-apart : goal.extend-requires-clause-apart
extend-requires-clause-apart g c =
    clear g (goal.at.extend-requires-clause-apart g c).Else-meets

pub returns-in-None-clause-meets : goal.returns-in-None-clause-meets
returns-in-None-clause-meets g c =
    (λ e. absurd (cc), λ h. absurd (clear g (goal.at.returns-in-None-clause-meets g c).Else-meets h))

pub returns-in-Ok-clause-meets : goal.returns-in-Ok-clause-meets
returns-in-Ok-clause-meets g c =
    (λ e. absurd (cc), λ h. absurd (clear g (goal.at.returns-in-Ok-clause-meets g c).Else-meets h))

pub returns-in-Err-clause-meets : goal.returns-in-Err-clause-meets
returns-in-Err-clause-meets g c =
    (λ e. absurd (cc), λ h. absurd (clear g (goal.at.returns-in-Err-clause-meets g c).Else-meets h))

pub returns-in-None-clause-full : goal.returns-in-None-clause-full
returns-in-None-clause-full g c =
    let items = c.self.inside.sandboxes.items in
    let seats = ap (λ (w : Sandboxes). length w.seats) c.self.view_is in
    let count = length-map items seat_of in
    let many = c.in-None.ensures.none.0 refl in
    (λ e. (clear g (goal.at.returns-in-None-clause-full g c).Else-meets, omega (arith, many, c.len.ensures, seats, count, c.len-2.ensures.count)), λ x. refl)

pub returns-in-Ok-clause-action : goal.returns-in-Ok-clause-action
returns-in-Ok-clause-action g c machine is =
    record { range = in_range c.extend.new.self c.extend.ensures.safe; makes = (c.len-2.ensures.runs, clear g (goal.at.returns-in-Ok-clause-action g c).Else-meets, c.in-Ok.ensures.added) }
