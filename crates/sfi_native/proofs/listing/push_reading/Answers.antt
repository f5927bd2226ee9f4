use Rattle.std.proofs.Common.{◌-◌, length, take, drop, inl, inr}
use Rattle.std.proofs.lemmas.List.{take_rest}
use Rattle.rv_comp.specs.declared.front.Front.TheVariants.{Read}
use Rattle.sfi_native.proofs.Listed.{at_last, at_rest, next}
use Rattle.sfi_native.proofs.listing.push_reading.Goals as goal

pub loop-place-preserved : goal.loop-place-preserved
loop-place-preserved c =
    let at = c.loop-place.place in
    next c.args.address c.args.bytes.now at c.in-Read.size c.in-Read.instr (take (length c.args.bytes.now - at) (drop at c.args.bytes.now)) c.args.out.now.items c.loop-place.out.items c.add.new.out.items
    (take_rest c.args.bytes.now at) c.loop-place.invariant c.in-Read.ensures.front (λ j m s. c.in-Read.ensures.only (Read j m) s) c.in_ok-add-in-Read.ensures

pub returns-in-Short : goal.returns-in-Short
returns-in-Short c =
    let at = c.loop-place.place in
    at_rest c.args.address c.args.bytes.now at (take (length c.args.bytes.now - at) (drop at c.args.bytes.now)) c.args.out.now.items c.loop-place.out.items
    (take_rest c.args.bytes.now at) c.loop-place.invariant
    (λ i n s. let read = c.read_front.ensures.only (Read i n) s in elim c.in-Short.is [ inl short ↦ cc | inr bad ↦ cc ])

pub returns : goal.returns
returns c = at_last c.args.address c.args.bytes.now c.loop-place.place c.args.out.now.items c.loop-place.out.items c.loop-place-test.false c.loop-place.invariant
