use Rattle.sfi_scan.proofs.WordBlock.{clean_at_bundle}
use Rattle.sfi_scan.proofs.words.block.is_clean_jump_at.Goals as goal

pub returns : goal.returns
returns c = clean_at_bundle c.args.block.now c.args.i c.told-block c.requires.word c.requires.inside c.args.place.now c.bundle_at-bundle.result c.bundle_at-bundle.ensures.is c.word_at.result c.requires.within c.word_at.ensures c.is_clean_jump_word.result c.is_clean_jump_word.ensures
