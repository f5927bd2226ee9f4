use Rattle.std.proofs.Common.{rules}
use Rattle.sfi_text.proofs.Lists.{reads_on}
use Rattle.sfi_text.proofs.data.read_more.Goals as goal

pub loop-next-preserved : goal.loop-next-preserved
loop-next-preserved c =
    (search rules, reads_on c.args.width _ _ _ _ _ _ c.loop-next.invariant.1 (rw c.in-Ok-Some.field-0-is at c.in-Ok-Some.ensures.ok))
