-- What holds of every sandbox of code in words that breaks no rule: the laws, for proofs here and in the crates above.
use Rattle.sfi_word_safety.specs.Laws.{EntryIsGoodInWords, TurnKeepsInWords, CleanWordsRunSafely, CleanWordsCallTyped, FindsWhatIsBroken}
use Rattle.sfi_word_safety.proofs.Stepping as turns
use Rattle.sfi_word_safety.proofs.Listing.{finds}

pub entry_is_good : EntryIsGoodInWords
entry_is_good = turns.entry_good

pub turn_keeps : TurnKeepsInWords
turn_keeps = turns.turn_keeps

pub clean_runs_safely : CleanWordsRunSafely
clean_runs_safely = turns.clean_runs

pub clean_calls_typed : CleanWordsCallTyped
clean_calls_typed = turns.clean_calls

pub finds_what_is_broken : FindsWhatIsBroken
finds_what_is_broken = finds
