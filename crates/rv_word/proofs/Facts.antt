-- What holds of every spelling: the laws, for proofs here and in the crates above.
use Rattle.rv_word.specs.Laws.{OneSpelling, SpellingsAreWide, WordIsDecided}
use Rattle.rv_word.proofs.Decided.{decided}
use Rattle.rv_word.proofs.Spellings as spellings
use Rattle.rv_word.proofs.Spellings.{are_wide}

pub one_spelling : OneSpelling
one_spelling = spellings.one_spelling

pub spellings_are_wide : SpellingsAreWide
spellings_are_wide = are_wide

pub word_is_decided : WordIsDecided
word_is_decided = decided
