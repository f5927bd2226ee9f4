use Rattle.sfi_scan.proofs.Prelude.{sym, ◌∙◌, arith, []}
use Rattle.sfi_scan.proofs.Look.{looks_first, looks_half, looks_word, looks_written}
use Rattle.sfi_scan.proofs.Walk.{at_last}
use Rattle.sfi_scan.proofs.clean.looks_clean.Goals as goal

pub loop-at-init : goal.loop-at-init
loop-at-init c = looks_first c.args.place.now c.args.bytes.now

pub loop-at-preserved-then-halfword-ne3 : goal.loop-at-preserved-then-halfword-ne3
loop-at-preserved-then-halfword-ne3 c =
    looks_half c.args.place.now c.args.bytes.now c.loop-at.at c.loop-at.from c.half_at-halfword.result c.told-bytes c.loop-at-test.true (sym c.if-is_last_bundle.ensures) c.loop-at.invariant
    c.half_at-halfword.ensures c.if-not-is_clean_short.ensures

pub loop-at-preserved-then-is_stack_written : goal.loop-at-preserved-then-is_stack_written
loop-at-preserved-then-is_stack_written c =
    looks_written c.args.place.now c.args.bytes.now c.loop-at.at c.loop-at.from c.told-bytes c.if-at-le4.true (sym c.if-is_last_bundle.ensures) (sym c.requires.stack ∙ c.if-stack.true) c.loop-at.invariant
    c.if-is_stack_written.ensures.write c.if-is_stack_written.ensures.pair

pub loop-at-preserved : goal.loop-at-preserved
loop-at-preserved c =
    looks_word c.args.place.now c.args.bytes.now c.loop-at.at c.loop-at.from c.word_at.result c.told-bytes (let high = c.if-at-gt12.false in omega arith) (sym c.if-is_last_bundle.ensures) c.loop-at.invariant
    c.word_at.ensures c.if-not-is_clean_wide.ensures

pub returns : goal.returns
returns c = at_last c.args.place.now c.args.bytes.now c.loop-at.at c.loop-at.invariant.before [] c.told-bytes c.loop-at-test.false c.loop-at.invariant.so_far
