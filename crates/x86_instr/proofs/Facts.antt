-- What holds of every spelling: a law, for proofs in the crates above.
use Rattle.x86_instr.specs.Laws.{SpellingDecodes}
use Rattle.x86_instr.proofs.Spelled as spelled

pub spelling_decodes : SpellingDecodes
spelling_decodes = spelled.spelling_decodes
