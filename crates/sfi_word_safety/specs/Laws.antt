-- What holds of every sandbox of code in words that breaks no rule.
use Rattle.std.specs.Prelude.{◌≡◌, ◌↔◌, ℕ, List, []}
use Rattle.rv_step.specs.State.{State}
use Rattle.sfi_image.specs.Spelling.{Part}
use Rattle.sfi_image.specs.Parts.{IsRightPart}
use Rattle.sfi_rules.specs.declared.finding.Finding.{Finding}
use Rattle.sfi_rules.specs.words.Findings.{AreFindingsInWords}
use Rattle.sfi_safe_runs.specs.Runs.{Turn, IsEntry, IsTurn, after_turn}
use Rattle.sfi_safe_runs.specs.Safety.{IsSafeState, IsSafeTurn, RunsSafely}
use Rattle.sfi_safe_runs.specs.Calling.{CallsTyped}
use Rattle.sfi_word_safety.specs.Code.{AreWordsClean, IsCleanInWords, IsGoodInWords, IsGoodInWordsIf}

-- an entry is a good state
abbrev pub EntryIsGoodInWords : Type 0
EntryIsGoodInWords = (p : Part) (s : State) → IsCleanInWords p → IsEntry p s → IsGoodInWords p s

-- a turn from a good state is safe, and leads to a good state
abbrev pub TurnKeepsInWords : Type 0
TurnKeepsInWords =
    (p : Part) (s : State) (turn : Turn) → IsCleanInWords p → IsGoodInWords p s → IsTurn p s turn
    → IsSafeState p s × IsSafeTurn p s turn × IsGoodInWordsIf p (after_turn turn)

-- every run from every entry is safe
abbrev pub CleanWordsRunSafely : Type 0
CleanWordsRunSafely = (p : Part) → IsCleanInWords p → RunsSafely p

-- in every run from every entry each call is made with the typed registers holding what their types
-- say
abbrev pub CleanWordsCallTyped : Type 0
CleanWordsCallTyped = (p : Part) → IsCleanInWords p → CallsTyped p

-- a sandbox with a right layout, whatever its format, has no finding as code in words exactly if it
-- breaks no rule of code in words
abbrev pub FindsWhatIsBroken : Type 0
FindsWhatIsBroken =
    (sandbox : ℕ) (p : Part) (found : List Finding) → IsRightPart p
    → AreFindingsInWords sandbox p found → ((found ≡ []) ↔ AreWordsClean p)
