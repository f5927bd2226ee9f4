-- What holds of runs, whatever the rules: laws, and further lemmas, for proofs here and in the crates above.
use Rattle.sfi_safe_runs.specs.Laws.{SafeTurns, SafeStaysSafe, SafeFetches, GoesOnSafely, CanBeEntered, HasEntries, SafeTurnsAs, EntersAnyway, ChangesAnyway, GuardsHoldAnything, BoardsHoldAnything, RepliesAnyway, BundlesAskTheSame, WordsAsk, FirstFormatAsksNoStack}
use Rattle.sfi_safe_runs.proofs.Entries.{entered, entries, bundles_ask, words_asks, first_asks}
use Rattle.sfi_safe_runs.proofs.Settings as settings
use Rattle.sfi_safe_runs.proofs.SafeRuns.{turns_safe, turns_safe_as, stays_safe, fetches, goes_on}

pub safe_turns : SafeTurns
safe_turns = turns_safe

pub safe_stays_safe : SafeStaysSafe
safe_stays_safe = stays_safe

pub safe_fetches : SafeFetches
safe_fetches = fetches

pub goes_on_safely : GoesOnSafely
goes_on_safely = goes_on

pub can_be_entered : CanBeEntered
can_be_entered = entered

pub has_entries : HasEntries
has_entries = entries

pub safe_turns_as : SafeTurnsAs
safe_turns_as = turns_safe_as

pub enters_anyway : EntersAnyway
enters_anyway = settings.enters_anyway

pub changes_anyway : ChangesAnyway
changes_anyway = settings.changes_anyway

pub guards_hold_anything : GuardsHoldAnything
guards_hold_anything = settings.guards_hold_anything

pub boards_hold_anything : BoardsHoldAnything
boards_hold_anything = settings.boards_hold_anything

pub replies_anyway : RepliesAnyway
replies_anyway = settings.replies_anyway

pub bundles_ask_the_same : BundlesAskTheSame
bundles_ask_the_same = bundles_ask

pub words_ask : WordsAsk
words_ask = words_asks

pub first_format_asks_no_stack : FirstFormatAsksNoStack
first_format_asks_no_stack = first_asks
