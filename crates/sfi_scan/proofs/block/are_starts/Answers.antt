use Rattle.sfi_scan.proofs.Prelude.{refl}
use Rattle.sfi_scan.proofs.Marks.{starts_told}
use Rattle.sfi_scan.proofs.block.are_starts.Goals as goal

pub returns-then-starts-words : goal.returns-then-starts-words
returns-then-starts-words c = starts_told c.args.starts c.args.long c.if-starts-words.true _ refl
