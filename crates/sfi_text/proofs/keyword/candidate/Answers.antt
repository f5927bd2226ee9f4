use Rattle.sfi_text.proofs.NameTables.{keyword_place_small, keyword_at_hash}
use Rattle.sfi_text.proofs.keyword.candidate.Goals as goal

pub bounds-hash-2 : goal.bounds-hash-2
bounds-hash-2 c = keyword_place_small _ c.hash.ensures.small

pub returns : goal.returns
returns c = keyword_at_hash _ _ _ c.hash.ensures.value c.hash.ensures.small
