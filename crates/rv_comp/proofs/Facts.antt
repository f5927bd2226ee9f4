-- What holds of every spelling, in two bytes or four: the laws, and three facts, for proofs here and in the crates above.
use Rattle.rv_comp.specs.Laws.{OneSpelling, TwoLengths, EcallIsWide, SpelledInRange, OneFront, SomeFront, OneFirstForm, SomeFirstForm, HalfwordsAreOutlined}
use Rattle.rv_comp.proofs.Firsts.{first_one, some_first}
use Rattle.rv_comp.proofs.Fronts as found
use Rattle.rv_comp.proofs.Fronts.{front_one}
use Rattle.rv_comp.proofs.Exact.{outlined_found, outlined_only}
use Rattle.rv_comp.proofs.Ranges as reach
pub use Rattle.rv_comp.proofs.Spellings.{word_spells, spelled_length, spelled_some}
use Rattle.rv_comp.proofs.Spellings.{spelled_one, spelled_lengths, ecall_length}

pub one_spelling : OneSpelling
one_spelling = spelled_one

pub two_lengths : TwoLengths
two_lengths = spelled_lengths

pub ecall_is_wide : EcallIsWide
ecall_is_wide = ecall_length

pub spelled_in_range : SpelledInRange
spelled_in_range = reach.spelled_in_range

pub one_front : OneFront
one_front = front_one

pub some_front : SomeFront
some_front = found.some_front

pub one_first_form : OneFirstForm
one_first_form = first_one

pub some_first_form : SomeFirstForm
some_first_form = some_first

pub halfwords_are_outlined : HalfwordsAreOutlined
halfwords_are_outlined h small = (outlined_found h small, outlined_only h small)
