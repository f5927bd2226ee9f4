-- That a rule is needed, and that the rules leave code that does something.
use Rattle.std.specs.Prelude.{◌≡◌, ◌≢◌, ◌+◌, ◌*◌, ◌≤◌, false, true, Some, ℕ, List, [], ◌∷◌, ◌++◌, map, filter, reverse, sum_by, take, drop, MatchBool}
use Rattle.rv_mem.specs.Bytes.{byte_at}
use Rattle.rv_step.specs.declared.outcome.Outcome.TheVariants.{Next}
use Rattle.rv_step.specs.State.{State}
use Rattle.rv_step.specs.Step.{Stepped}
use Rattle.sfi_formats.specs.Limits.{bundle_size, word_size}
use Rattle.sfi_image.specs.Parts.{IsImage}
use Rattle.sfi_image.specs.Spelling.{Part, spelling}
use Rattle.sfi_rules.specs.declared.rule.Rule.{Rule}
use Rattle.sfi_rules.specs.declared.rule.Rule.TheVariants.{V1, V2, V9, V10, V12}
use Rattle.sfi_rules.specs.Readings.{bundle_place, bundle_bytes, Piece, IsLongestReading, rest_of}
use Rattle.sfi_rules.specs.Rules.{breaks, is_empty, number_of}
use Rattle.sfi_rules.specs.declared.finding.Finding.{Finding}
use Rattle.sfi_formats.specs.declared.format.Format.{Format}
use Rattle.sfi_formats.specs.Formats.{has_stack, has_words, has_single_mask}
use Rattle.sfi_rules.specs.Findings.{AreImageFindings, all_rules}
use Rattle.sfi_rules.specs.declared.owed.Owed.{Owed}
use Rattle.sfi_rules.specs.words.Findings as words
use Rattle.sfi_rules.specs.words.Findings.{owed_past, AreFoundInWords, AreFoundOfFirst}
use Rattle.sfi_safe_runs.specs.Runs.{InData, Turn, Steps, Changes, IsEntry, IsRun}
use Rattle.sfi_safe_runs.specs.Safety.{IsSafeRun, RunsSafely}
use Rattle.sfi_safety.specs.Clean.{IsAccepted}

-- a run from this state is not safe
pub record HasUnsafeRun (p : Part) (s : State) : Type 0 where
  pub turns : List Turn
  pub run : IsRun p (Some s) turns
  pub unsafe : IsSafeRun p (Some s) turns → ⊥

-- ---- that no other rule is broken

-- The instruction at this address is one of its bundle's longest reading,
-- and it breaks this rule and no other.
pub record BreaksAloneInBundle (rule : Rule) (address : ℕ) (p : Part) : Type 0 where
  pub number : ℕ  -- the bundle's
  pub earlier : List Piece  -- the pieces before it, the nearest first
  pub here : Piece
  pub later : List Piece
  pub longest : IsLongestReading (bundle_bytes p number) (reverse earlier ++ here ∷ later)
  pub address_is : address ≡ p.code_base + bundle_size * number + sum_by (λ x. x.size) earlier
  pub broken :
      filter (λ r. breaks (record {
        bundle = bundle_place 0 p number;
        address = address;
        earlier = map (λ x. x.instr) earlier;
        instr = here.instr;
        later = later;
        whole = is_empty (rest_of (bundle_bytes p number) (reverse earlier ++ here ∷ later));
      }) r) all_rules ≡ rule ∷ []

-- `owed` is owed before word `word` of bundle `number` of code in words, both counted from 0
pub record IsOwedBefore (p : Part) (number word : ℕ) (owed : Owed) : Type 0 where
  pub front : List Finding  -- the findings of the bundles before it
  pub between : Owed  -- what is owed after these
  pub front_found : AreFoundOfFirst 0 p number front between
  pub found : List Finding  -- those of the words before it in its bundle
  pub words_found :
      AreFoundInWords (bundle_place 0 p number) between (bundle_bytes p number) word found owed

-- The instruction at this address is one of its word's longest reading,
-- and it breaks this rule of code in words and no other.
pub record BreaksAloneInWord (rule : Rule) (address : ℕ) (p : Part) : Type 0 where
  pub number : ℕ  -- the bundle's
  pub word : ℕ  -- the word's, in its bundle
  pub owed : Owed  -- before the word
  pub is_owed : IsOwedBefore p number word owed
  pub earlier : List Piece  -- the pieces before it in its word, in order
  pub here : Piece
  pub later : List Piece
  pub longest : IsLongestReading (take word_size (drop (word_size * word) (bundle_bytes p number)))
      (earlier ++ here ∷ later)
  pub address_is : address
      ≡ p.code_base + bundle_size * number + word_size * word + sum_by (λ x. x.size) earlier
  pub broken :
      filter (λ r. words.breaks (record {
        bundle = bundle_place 0 p number;
        address = address;
        owed = owed_past p.format owed earlier;
        instr = here.instr;
        size = here.size;
      }) r) all_rules ≡ rule ∷ []

-- the instruction at this address breaks this rule and no other, of code in bundles or of code in
-- words
abbrev pub BreaksAlone : Rule → ℕ → Part → Type 0
BreaksAlone rule address p = MatchBool (has_words p.format) (BreaksAloneInWord rule address p)
    (BreaksAloneInBundle rule address p)

-- No other rule is broken where this rule's finding is. V1 and V2 are found where no instruction is
-- read, so no other rule is broken there. V9 stands in place of all findings of its bundle, and
-- nothing is said of these.
abbrev pub BreaksNoOther : Rule → ℕ → Part → Type 0
BreaksNoOther V1 address p = Unit {0}
BreaksNoOther V2 address p = Unit {0}
BreaksNoOther V9 address p = Unit {0}
BreaksNoOther rule address p = BreaksAlone rule address p

-- ---- a rule that is needed

-- the image of this sandbox has a right layout, and this one finding
pub record HasOneFinding (p : Part) (found : Finding) : Type 0 where
  pub image : IsImage (spelling (p ∷ [])) (p ∷ [])
  pub found_are : AreImageFindings (p ∷ []) (found ∷ [])

-- The rule is needed: the image of this sandbox has a right layout and one finding, that rule at
-- this address (`BreaksNoOther`), and from an entry it has a run that is not safe.
pub record IsNeeded (rule : Rule) (address : ℕ) (p : Part) : Type 0 where
  pub refused : HasOneFinding p (record { sandbox = 0; address = address; rule = rule })
  pub no_other : BreaksNoOther rule address p
  pub entry : State
  pub is_entry : IsEntry p entry
  pub runs_unsafely : HasUnsafeRun p entry

-- In each format whose code is in bundles each of the ten rules is needed, V10 where it has a stack
-- pointer. (Of V9 this says that its finding may not be passed over, not that no other rule would
-- refuse the image.)
abbrev pub EachRuleIsNeeded : Type 0
EachRuleIsNeeded = (f : Format) → has_words f ≡ false
    → (rule : Rule) → number_of rule ≤ 10 → (rule ≡ V10 → has_stack f ≡ true)
    → (address : ℕ) × (p : Part) × (p.format ≡ f) × IsNeeded rule address p

-- In each format whose code is in words each rule is needed, too: all but V9, which is none of
-- these, and V12 where masks of data have two steps.
abbrev pub EachRuleOfWordsIsNeeded : Type 0
EachRuleOfWordsIsNeeded = (f : Format) → has_words f ≡ true
    → (rule : Rule) → rule ≢ V9 → (rule ≡ V12 → has_single_mask f ≡ false)
    → (address : ℕ) × (p : Part) × (p.format ≡ f) × IsNeeded rule address p

-- ---- a rule that is stricter than safety asks

-- The rule is stricter than safety asks: the image of this sandbox has a right layout and one
-- finding, that rule at this address, and every run from every entry is safe.
pub record IsStricter (rule : Rule) (address : ℕ) (p : Part) : Type 0 where
  pub refused : HasOneFinding p (record { sandbox = 0; address = address; rule = rule })
  pub safe : RunsSafely p

-- ---- an accepted sandbox that does something

-- a run in which others change a byte of the data,
-- and three steps later the sandbox has stored one there
pub record StoresByte (p : Part) : Type 0 where
  pub entry : State
  pub is_entry : IsEntry p entry
  pub changed : State
  pub masked : Stepped
  pub placed : Stepped
  pub stored : Stepped
  pub run : IsRun p (Some entry) (Changes changed ∷ Steps masked ∷ Steps placed ∷ Steps stored ∷ [])
  pub done : stored.outcome ≡ Next
  pub address : ℕ
  pub inside : InData p address
  pub before : byte_at changed.memory address ≡ Some 0
  pub after : byte_at stored.state.memory address ≡ Some 240

-- there is an accepted image of this sandbox, which has such a run
pub record IsAcceptedAndRuns (p : Part) : Type 0 where
  pub bytes : List ℕ
  pub accepted : IsAccepted bytes (p ∷ [])
  pub stores : StoresByte p
