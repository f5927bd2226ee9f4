use Rattle.sfi_scan.proofs.Prelude.{refl}
use Rattle.sfi_scan.proofs.BlockPairs.{same_base, use_told}
use Rattle.sfi_scan.proofs.words.block.is_use_of.Goals as goal

pub returns : goal.returns
returns c =
    use_told c.args.d c.args.word c.offset_bits.result c.in-Some.access c.in-Some.ensures.found (same_base c.in-Some.access.base c.args.d c.if-ne.ensures) (λ i is. c.is_dropped.ensures i is c.if-is_dropped.false) c.offset_bits.ensures.offset _ refl
