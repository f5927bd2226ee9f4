use Rattle.sfi_scan.proofs.Prelude.{refl}
use Rattle.sfi_scan.proofs.BlockPairs.{masking_told}
use Rattle.sfi_scan.proofs.words.block.is_any_data_masking_word.Goals as goal

pub returns : goal.returns
returns c = masking_told c.args.word c.ranges.word.fits _ refl
