use Rattle.sfi_scan.proofs.WordLook.{wide_told}
use Rattle.sfi_scan.proofs.words.look.look_at_word.Goals as goal

pub returns : goal.returns
returns c = wide_told c.args.place.now c.args.address c.args.owed c.args.word.now c.word_at-wide.result c.look_at_wide_word.result c.requires.whole c.word_at-wide.ensures c.look_at_wide_word.ensures
