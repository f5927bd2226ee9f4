use Rattle.std.proofs.Common.{◌<◌, arith, rules}
use Rattle.x86_step.proofs.Bytes.{bound_more, room}
use Rattle.x86_step.proofs.machine.Region.+number.Goals as goal

pub overflow_mul-result : goal.overflow_mul-result
overflow_mul-result n c =
    let small = room c.args.count c.number.result (omega (arith, c.if-count-eq0.false)) c.requires.few c.number.ensures.in_range in
    omega (arith, small)

pub overflow_add-result : goal.overflow_add-result
overflow_add-result n c =
    let small = room c.args.count c.number.result (omega (arith, c.if-count-eq0.false)) c.requires.few c.number.ensures.in_range in
    let byte : c.from.result < 256 = search rules in
    omega (arith, small, byte)

pub returns-clause-in_range : goal.returns-clause-in_range
returns-clause-in_range n c =
    let byte : c.from.result < 256 = search rules in
    bound_more c.args.count c.from.result c.number.result (omega (arith, c.if-count-eq0.false)) byte c.number.ensures.in_range
