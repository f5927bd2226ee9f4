use Rattle.sfi_scan.proofs.Prelude.{◌+◌, ◌*◌, ◌∙◌, ap, nat_eq, bit_and}
use Rattle.sfi_scan.proofs.BlockPairs.{step_told}
use Rattle.sfi_scan.proofs.words.block.is_step_of.Goals as goal

pub returns : goal.returns
returns c = step_told c.args.word c.args.d c.ranges.word.fits c.number.ensures.in_range _ (ap (λ n. nat_eq (bit_and c.args.word 1048575) (n * 32896 + 19)) (c.from.ensures ∙ c.number.ensures.value))
