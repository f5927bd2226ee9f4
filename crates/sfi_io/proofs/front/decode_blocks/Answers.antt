use Rattle.sfi_io.proofs.Prelude.{None, rules}
use Rattle.sfi_io.proofs.Fronts.{stands_first, stands_step, left_is}
use Rattle.sfi_io.proofs.front.decode_blocks.Goals as goal

pub loop-taken-init : goal.loop-taken-init
loop-taken-init c = stands_first c.args.text.now c.args.out.now None

pub loop-taken-preserved : goal.loop-taken-preserved
loop-taken-preserved c =
    let line = c.decode_one_block-line in
    stands_step c.args.text.now _ c.loop-taken.out line.new.out _ None c.loop-taken.taken c.loop-taken.made _ None line.result.taken line.result.made None
    (left_is c.args.text.now c.loop-taken.taken) line.ensures.taken line.ensures.made line.ensures.room (search rules) line.ensures.spells c.loop-taken.invariant

pub returns-then-line-lt8-clause-spells : goal.returns-then-line-lt8-clause-spells
returns-then-line-lt8-clause-spells c =
    let line = c.decode_one_block-line in
    (stands_step c.args.text.now _ c.loop-taken.out line.new.out _ None c.loop-taken.taken c.loop-taken.made _ None line.result.taken line.result.made None
    (left_is c.args.text.now c.loop-taken.taken) line.ensures.taken line.ensures.made line.ensures.room (search rules) line.ensures.spells c.loop-taken.invariant).spells
