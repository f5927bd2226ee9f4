use Rattle.std.proofs.Common.{length, refl, sym, ap, subst, arith}
use Rattle.sfi_host.specs.Loading.{MayEnterAt}
use Rattle.sfi_host.specs.Worlds.{Sandboxes, slots_of}
use Rattle.example_host.specs.Functions.{arguments}
use Rattle.example_host.proofs.Calling.{few, seat_there, enter_too, room_entered, outside_entered}
use Rattle.example_host.proofs.function.Function.enter.Goals as goal

pub overflow_cast-arguments : goal.overflow_cast-arguments
overflow_cast-arguments g c =
    let below = few c.args.world.now c.args.self.sandbox c.args.self.text_address (length c.args.text.now) c.stays_safe.ensures (c.if-not-write.ensures.there.0 refl) in
    omega (arith, below)

pub returns-then-not-enter-clause-not_entered : goal.returns-then-not-enter-clause-not_entered
returns-then-not-enter-clause-not_entered g c =
    let f = c.args.self in
    let w = c.args.world.now in
    let written = c.if-not-write.ensures.done in (
      λ e. (
        c.if-not-write.ensures.there.0 refl,
        λ may.
            let now = subst (λ (x : Sandboxes). MayEnterAt (slots_of x) f.sandbox f.address) (sym written) (enter_too w.bytes _ w.seats f.sandbox f.address may) in
            let no = c.if-not-enter.ensures.may.1 now in
            absurd (cc),
      ),
      λ x. refl,
    )

pub returns-clause-not_entered : goal.returns-clause-not_entered
returns-clause-not_entered g c =
    let f = c.args.self in
    let w = c.args.world.now in
    let written = c.if-not-write.ensures.done in (
      λ e. absurd (cc),
      λ x. absurd (x.1 (enter_too _ w.bytes w.seats f.sandbox f.address
          (subst (λ (y : Sandboxes). MayEnterAt (slots_of y) f.sandbox f.address) written (c.if-not-enter.ensures.may.0 refl)))),
    )

pub returns-clause-room : goal.returns-clause-room
returns-clause-room g c =
    let f = c.args.self in
    room_entered c.args.world.now c.write.new.self c.enter.new.self f.sandbox f.address (arguments f (length c.args.text.now)) (ap (λ (x : Sandboxes). x.seats) c.if-not-write.ensures.done) c.if-not-enter.ensures.done
    f.text_address (length c.args.text.now) c.if-not-enter.ensures.safe (c.if-not-write.ensures.there.0 refl)

pub returns-clause-outside : goal.returns-clause-outside
returns-clause-outside g c =
    let f = c.args.self in
    let found = seat_there c.args.world.now f.sandbox f.text_address (length c.args.text.now) (c.if-not-write.ensures.there.0 refl) in
    outside_entered c.args.world.now c.write.new.self c.enter.new.self f.sandbox f.address (arguments f (length c.args.text.now)) (ap (λ (x : Sandboxes). x.seats) c.if-not-write.ensures.done) c.if-not-enter.ensures.done
    found.0 found.1 c.if-not-write.ensures.outside
