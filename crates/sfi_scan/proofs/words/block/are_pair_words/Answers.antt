use Rattle.sfi_scan.proofs.Prelude.{OnTrue_at, refl, sym}
use Rattle.sfi_scan.proofs.BlockPairs.{data_pair, code_pair}
use Rattle.sfi_scan.proofs.words.block.are_pair_words.Goals as goal

pub returns-then-is_any_data_masking_word : goal.returns-then-is_any_data_masking_word
returns-then-is_any_data_masking_word c = data_pair c.args.format c.args.first c.args.second c.is_any_data_placing_word.result (sym c.if-has_single_mask.ensures) (OnTrue_at c.if-is_any_data_masking_word.true c.is_any_data_masking_word.ensures) c.is_any_data_placing_word.ensures

pub returns : goal.returns
returns c = code_pair c.args.format c.args.first c.args.second c.ranges.first.fits c.if-first-ne-CODE_MASKING.false _ refl
