use Rattle.sfi_image.proofs.Prelude.{◌≡◌, length, refl, inr, ap, arith, length-append, err_from_is_err_and, flat_map, gate, InGates}
use Rattle.sfi_image.specs.Keeping.{unread}
use Rattle.sfi_image.proofs.CursorSteps.{at_front, more_gates, all_gates, one_more, taken_front}
use Rattle.sfi_image.proofs.cursor.ImageCursor.take_gates.Goals as goal

pub take-requires : goal.take-requires
take-requires c =
    let i = c.loop.invariant c.requires.0 c.requires.1 c.requires.2 c.requires.3 in
    let at = at_front (more_gates c.requires.1 c.requires.2 c.args.fields.now i.gates (let b = c.loop-test.true in omega (arith, i.count_is))) i.read in
    (inr (_, at.stands), rw (at.stands.kept.0) refl)

pub returns-in_err-take : goal.returns-in_err-take
returns-in_err-take c =
    let p = err_from_is_err_and c.from_residual.result c.from_residual.ensures.1 in
    λ bytes n ps h.
    let i = c.loop.invariant bytes n ps h in
    rw (p.1, p.2) (c.in_err-take.ensures bytes (InGates n ps c.args.fields.now i.gates) (at_front (more_gates n ps c.args.fields.now i.gates (let b = c.loop-test.true in omega (arith, i.count_is))) i.read))

pub loop-preserved : goal.loop-preserved
loop-preserved c = λ bytes n ps h.
    let i = c.loop.invariant bytes n ps h in
    one_more bytes n ps c.args.fields.now c.loop.counter c.args.self.now.rest.now _ _ c.loop.self c.take.new.self i
    (c.in_ok-take.ensures bytes (InGates n ps c.args.fields.now i.gates) (at_front (more_gates n ps c.args.fields.now i.gates (let b = c.loop-test.true in omega (arith, i.count_is))) i.read))

pub slice_bounds-result-count : goal.slice_bounds-result-count
slice_bounds-result-count c =
    let i = c.loop.invariant c.requires.0 c.requires.1 c.requires.2 c.requires.3 in
    omega (arith, ap length i.all_are, length-append (flat_map gate i.gates) (unread c.loop.self))

pub returns : goal.returns
returns c = λ bytes n ps h.
    let i = c.loop.invariant bytes n ps h in
    let all : length i.gates ≡ c.args.fields.now.gate_count = let b = c.loop-test.false in let u = c.loop.auto.counter-end in omega (arith, i.count_is) in (
      i.gates,
      taken_front c.args.self.now.rest.now (flat_map gate i.gates) (unread c.loop.self) i.all_are,
      at_front (all_gates n ps c.args.fields.now i.gates all) i.read,
    )
