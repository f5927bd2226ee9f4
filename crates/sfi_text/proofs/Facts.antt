-- What holds of every text: laws, and that sources are right, for proofs here and in the crates above.
use Rattle.sfi_text.specs.Laws.{OneMeaning, OneCause, MeantIsNotRefused, SomeMeaning, MeaningsAreInRange, PrintedReadsBack, LeadsOnce, LeadingIsNotRefused, RefusedOnce, OneSource, OneText, OneFault, MeantHasNoFault, SomeSource, ConstantsAddUp}
use Rattle.sfi_text.proofs.Numbers as halves
use Rattle.sfi_text.proofs.Meaning as meaning
use Rattle.sfi_text.proofs.OneSource as one
use Rattle.sfi_text.proofs.RoundTrip as round
use Rattle.sfi_text.proofs.SomeSource as some
pub use Rattle.sfi_text.proofs.RightTexts.{sources_are_right}

pub one_meaning : OneMeaning
one_meaning = meaning.one_meaning

pub one_cause : OneCause
one_cause = meaning.one_cause

pub meant_is_not_refused : MeantIsNotRefused
meant_is_not_refused = meaning.meant_is_not_refused

pub some_meaning : SomeMeaning
some_meaning = some.some_meaning

pub meanings_are_in_range : MeaningsAreInRange
meanings_are_in_range = meaning.in_range

pub printed_reads_back : PrintedReadsBack
printed_reads_back = round.reads_back

pub leads_once : LeadsOnce
leads_once = one.leads_once

pub leading_is_not_refused : LeadingIsNotRefused
leading_is_not_refused = one.leading_is_not_refused

pub refused_once : RefusedOnce
refused_once = one.refused_once

pub constants_add_up : ConstantsAddUp
constants_add_up = halves.add_up

pub one_source : OneSource
one_source = one.one_source

pub one_text : OneText
one_text = one.one_text

pub one_fault : OneFault
one_fault = one.one_fault

pub meant_has_no_fault : MeantHasNoFault
meant_has_no_fault = one.meant_has_no_fault

pub some_source : SomeSource
some_source = some.some_source
