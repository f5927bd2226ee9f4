use Rattle.sfi_rewrite.proofs.OneByOne.{even_size}
use Rattle.sfi_rewrite.proofs.parts.fill_end.Goals as goal

pub nops_at_end-nops-requires-clause-even : goal.nops_at_end-nops-requires-clause-even
nops_at_end-nops-requires-clause-even c = even_size c.end.result c.args.code.now c.end.ensures
