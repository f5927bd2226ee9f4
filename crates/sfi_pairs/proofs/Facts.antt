-- What holds of the pairs and of the stub: the laws, for proofs in the crates above.
use Rattle.std.proofs.Common.{refl}
use Rattle.rv_word.specs.Spelling.{spelling}
use Rattle.sfi_pairs.specs.Laws.{PairsAreFound, StubIsSpelled, StubAgrees}
use Rattle.sfi_pairs.proofs.Found.{found, is_found}
pub use Rattle.sfi_pairs.proofs.Found.{masking_is, placing_is}

pub pairs_are_found : PairsAreFound
pairs_are_found mask base target first second = (found mask base target first second, is_found mask base target first second)

pub stub_is_spelled : StubIsSpelled
unfolding spelling
stub_is_spelled = refl

pub stub_agrees : StubAgrees
stub_agrees = refl
