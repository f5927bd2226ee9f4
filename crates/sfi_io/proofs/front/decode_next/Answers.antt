use Rattle.sfi_io.proofs.Prelude.{ℕ, List, sym, subst, filter, drop, is_kept, waiting, SpellsFront}
use Rattle.sfi_io.proofs.Fronts.{spells_white, spells_nothing, spells_low, spells_waiting, first_put}
use Rattle.sfi_io.proofs.front.decode_next.Goals as goal

pub returns-then-is_white-clause-spells : goal.returns-then-is_white-clause-spells
returns-then-is_white-clause-spells c = spells_white c.args.text.now c.args.high c.requires.text c.if-is_white.ensures

pub returns-in_default-byte_of-clause-spells : goal.returns-in_default-byte_of-clause-spells
returns-in_default-byte_of-clause-spells c = spells_waiting _ _ _ c.args.high c.in-Some.first c.in-Some.is (spells_nothing _)

pub returns-clause-spells : goal.returns-clause-spells
returns-clause-spells c =
    let text = c.args.text.now in
    let byte = c.in-Some-byte_of.byte in
    subst (λ (l : List ℕ). SpellsFront (waiting c.args.high (filter is_kept text)) (filter is_kept (drop 1 text)) l) (sym (first_put c.args.out.now byte c.requires.out))
    (spells_waiting _ _ _ c.args.high c.in-Some.first c.in-Some.is (spells_low text c.in-Some.first byte c.requires.text c.if-is_white.ensures c.in-Some-byte_of.ensures.pair))
