use Rattle.sfi_check.proofs.Prelude.{arith}
use Rattle.sfi_check.proofs.Tallying.{one_more_counted, few_more, few_parts, at_end}
use Rattle.sfi_check.proofs.accepted.bundle_count.Goals as goal

pub overflow_add-bundles : goal.overflow_add-bundles
overflow_add-bundles c =
    let more = few_more c.requires.0 c.args.parts.now c.loop-part.part-index c.part-item.result c.part-item.result c.part-item.is c.requires.1 c.loop-part-test.true in
    let few = c.loop-part.invariant.few in
    let parts = few_parts c.requires.0 c.args.parts.now c.requires.1 in
    omega arith

pub loop-part-preserved : goal.loop-part-preserved
loop-part-preserved c =
    let more = few_more c.requires.0 c.args.parts.now c.loop-part.part-index c.part-item.result c.part-item.result c.part-item.is c.requires.1 c.loop-part-test.true in
    let few = c.loop-part.invariant.few in
    record {
      so_far = λ format. one_more_counted format c.args.parts.now c.loop-part.part-index c.part-item.result c.part-item.result c.loop-part.bundles c.part-item.is c.loop-part-test.true (c.loop-part.invariant.so_far format);
      few = omega arith;
    }

pub returns : goal.returns
returns c = λ format. at_end format c.args.parts.now c.loop-part.part-index c.loop-part.bundles c.loop-part-test.false (c.loop-part.invariant.so_far format)
