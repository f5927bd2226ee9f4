-- What holds of the words that bytes spell. Crates above cite this.
use Rattle.sfi_tool_c.specs.Laws.{OneSpelling}
use Rattle.sfi_tool_c.proofs.Spelling.{same_words}

pub one_spelling : OneSpelling
one_spelling = same_words
