use Rattle.sfi_io.proofs.Prelude.{◌*◌, ◌++◌, ℕ, List, arith, subst, sym, drop, take, length-take-le, filter, is_kept, SpellsFront}
use Rattle.sfi_io.proofs.Fronts.{spells_pairs}
use Rattle.sfi_io.proofs.front.decode_one_block.Goals as goal

pub slice_bounds-decode_block-end : goal.slice_bounds-decode_block-end
slice_bounds-decode_block-end c = sym (length-take-le 64 c.args.text.now (omega (arith, c.requires.text)))

pub decode_block-made-requires-clause-block : goal.decode_block-made-requires-clause-block
decode_block-made-requires-clause-block c = length-take-le 64 c.args.text.now (omega (arith, c.requires.text))

pub returns-then-made-clause-spells : goal.returns-then-made-clause-spells
returns-then-made-clause-spells c =
    let block = c.decode_block-made in
    let text = c.args.text.now in
    let out = block.new.out ++ drop 32 c.args.out.now in
    subst (λ (l : List ℕ). SpellsFront (filter is_kept text) l (take 32 out)) c.after_pairs.ensures.kept
    (subst (λ (n : ℕ). SpellsFront (filter is_kept text) (filter is_kept (drop (2 * n) text)) (take n out)) c.if-made.true
    (spells_pairs text block.new.out (drop 32 c.args.out.now) block.result (omega (arith, c.requires.text)) block.ensures.most block.ensures.size block.ensures.each))

pub returns-clause-spells : goal.returns-clause-spells
returns-clause-spells c =
    let block = c.decode_block-made in
    let text = c.args.text.now in
    subst (λ (l : List ℕ). SpellsFront (filter is_kept text) l (take block.result (block.new.out ++ drop 32 c.args.out.now))) c.after_pairs-2.ensures.kept
    (spells_pairs text block.new.out (drop 32 c.args.out.now) block.result (omega (arith, c.requires.text)) block.ensures.most block.ensures.size block.ensures.each)
