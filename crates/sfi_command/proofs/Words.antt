-- From what the command-line crate ensures to what the words ask for.
use Rattle.std.proofs.Common.{◌≡◌, ◌≢◌, ◌⊎◌, ◌<◌, ◌≤◌, ◌^◌, ◌∙◌, ℕ, ap, refl, sym, true, Option, Some, None, List, [], subst, IfOk, Result, Ok, Err, inl, inr, arith}
use Rattle.std.specs.Prelude.{string_bytes, option_map, unwrap_or, find, IfErr, IsErr, IsTrue, ◌↔◌, Bool, false, codes}
use Rattle.std.specs.Option.{option_map_or}
use Rattle.std.specs.Str.Parse.{IsNumeral, digits_value, without_leading_plus}
use Rattle.hex.specs.Hex.{decode_of}
use Rattle.hex.specs.declared.error.FromHexError.{FromHexError}
use Rattle.hex.specs.declared.error.FromHexError.TheVariants.{OutOfMemory}
use Rattle.clap.specs.Kinds.{HasKind}
use Rattle.clap.specs.Values.{kind_of}
use Rattle.clap.specs.declared.error.Error.{Error}
use Rattle.clap.specs.declared.error.kind.ErrorKind.TheVariants as kind
use Rattle.std.specs.Str.{bytes_eq}
use Rattle.std.proofs.lemmas.Slice.Eq.{bytes_eq-Decides}
use Rattle.clap.specs.declared.parser.matches.Found.{Found}
use Rattle.clap.proofs.WalkLemmas.{find_row, first_value-rows}
use Rattle.std.proofs.lemmas.Result.{IfErr-weaker}
use Rattle.clap.specs.Facts.{Entry}
use Rattle.clap.specs.Walk.{Row, Text, first_of, row_of, rows_of}
use Rattle.clap.specs.Faults.{fault_of, is_simple_and_free}
use Rattle.clap.specs.Matches.{first_value, found_of, matched_of, raw_values, subcommand_name_of}
use Rattle.clap.specs.declared.parser.matches.MatchedArg.{MatchedArg}
use Rattle.clap.specs.Simple.{App, is_simple, subcommand_of, subcommand_rows, HasMatchesOf}
use Rattle.clap.specs.declared.parser.matches.ArgMatches.{ArgMatches}
use Rattle.clap.specs.declared.parser.matches.ArgMatches.TheViews.{out-ArgMatches}
use Rattle.clap.proofs.OnLiterals.{clap_on_literals}
use Rattle.sfi_command.specs.Command.{sfi, texts_of, Names, NamesNoInput, Asks, IsBudget, IsCount, HasOptions, IsFaultOf, IsInputOf, IsNoInput, IsPlaceOf, name_of, number_of, sandbox_most, SpellsPlace}
use Rattle.sfi_command.specs.private.{IsAsked, NamesNothing, IsFaultOfNamed, IsInputFault, IsPlaceFault, IsTextFault}
use Rattle.sfi_formats.specs.declared.place.Place.{Place}
use Rattle.sfi_command.specs.declared.job.Job.{Job}
use Rattle.sfi_command.specs.declared.job.Job.TheVariants.{Exec, Move}
use Rattle.sfi_command.specs.declared.job.JobFault.{JobFault}
use Rattle.sfi_command.specs.declared.job.JobFault.TheVariants.{Usage, Hex, Memory}

-- the crate's definitions give the matches of the command line, and its faults
pub simple : is_simple sfi ≡ true
unfolding clap_on_literals
simple = refl

pub free : is_simple_and_free sfi ≡ true
unfolding clap_on_literals
free = refl

-- the subcommand that the parse met, with its rows
some_of : {B : Type 0} (f : B → Text × List Row) (o : Option B) (n : Text) (rows : List Row) → Some n ≡ option_map (λ b. (f b).0) o
    → Some rows ≡ option_map (λ (p : Text × List Row). p.1) (option_map f o) → option_map f o ≡ Some (n, rows)
some_of f None n rows e h = absurd (cc)
some_of f (Some b) n rows e h =
    let name : (f b).0 ≡ n = cc in
    let found : (f b).1 ≡ rows = cc in
    λ i. Some (name i, found i)

none_of : {B : Type 0} (f : B → Text × List Row) (o : Option B) → None ≡ option_map (λ b. (f b).0) o → option_map f o ≡ None
none_of f None e = refl
none_of f (Some b) e = absurd (cc)

-- the words name the subcommand that the parse met
pub subcommand_is : (a : App) (words : List Text) (m : ArgMatches) (n : Text) (rows : List Row) → a ≡ sfi → HasMatchesOf a words m
    → Some n ≡ subcommand_name_of m → Some rows ≡ option_map (λ (p : Text × List Row). p.1) (subcommand_rows (out-ArgMatches m).subcommand)
    → subcommand_of sfi words ≡ Some (n, rows)
subcommand_is a words m n rows is has e h =
    sym (ap (λ (x : App). subcommand_of x words) is) ∙ sym (has (ap is_simple is ∙ simple)).1 ∙ some_of _ _ n rows e h

pub no_subcommand : (a : App) (words : List Text) (m : ArgMatches) → a ≡ sfi → HasMatchesOf a words m → None ≡ subcommand_name_of m → subcommand_of sfi words ≡ None
no_subcommand a words m is has e = sym (ap (λ (x : App). subcommand_of x words) is) ∙ sym (has (ap is_simple is ∙ simple)).1 ∙ none_of _ _ e

-- words of which the parse succeeds
pub no_parse_fault : (a : App) (words : List Text) → a ≡ sfi → (is_simple_and_free a ≡ true → fault_of a words ≡ []) → fault_of sfi words ≡ []
no_parse_fault a words is parses = sym (ap (λ (x : App). fault_of x words) is) ∙ parses (ap is_simple_and_free is ∙ free)

-- and its fault is that of the words
pub fault_of_words : (words : List Text) (named : Option (Text × List Row)) (fault : JobFault) → fault_of sfi words ≡ [] → subcommand_of sfi words ≡ named
    → IsFaultOfNamed named fault → IsFaultOf words fault
fault_of_words words named (Usage text) parses subcommand_is none = record {
  no_job = λ job asks. none.no_job job (subst (λ (o : Option (Text × List Row)). Names o job) subcommand_is asks.names);
  no_run = λ asks. none.no_run (subst (λ (o : Option (Text × List Row)). NamesNoInput o) subcommand_is asks.names);
}
fault_of_words words named Hex parses subcommand_is none = record { parses = parses; names = subst (λ (o : Option (Text × List Row)). NamesNoInput o) (sym subcommand_is) none }
fault_of_words words named Memory parses subcommand_is none = tt

-- what the subcommand that the parse met comes to is what the words ask for
pub asks_job : (words : List Text) (name : Text) (found : ArgMatches) (r : Result Job JobFault) → fault_of sfi words ≡ []
    → subcommand_of sfi words ≡ Some (name, rows_of (found_of found)) → IsAsked name found r → IfOk r (Asks words)
asks_job words name found (Ok job) parses named is = record { parses = parses; names = subst (λ (o : Option (Text × List Row)). Names o job) (sym named) is }
asks_job words name found (Err fault) parses named is = tt

pub error_of_words : (words : List Text) (name : Text) (found : ArgMatches) (r : Result Job JobFault) → fault_of sfi words ≡ []
    → subcommand_of sfi words ≡ Some (name, rows_of (found_of found)) → IsAsked name found r → IfErr r (IsFaultOf words)
error_of_words words name found (Ok job) parses named is = tt
error_of_words words name found (Err fault) parses named is = fault_of_words words (Some (name, rows_of (found_of found))) fault parses named is

-- a subcommand that names nothing has no other fault
pub usage_of_named : (named : Option (Text × List Row)) (fault : JobFault) → (number_of fault ≡ 2 → ⊥) → NamesNothing named → IsFaultOfNamed named fault
usage_of_named named (Usage text) other none = none
usage_of_named named Hex other none = absurd (other refl)
usage_of_named named Memory other none = tt

-- no subcommand asks for anything
pub fault_of_none : (fault : JobFault) → (number_of fault ≡ 2 → ⊥) → IsFaultOfNamed None fault
fault_of_none fault other = usage_of_named None fault other (record { no_job = λ job names. names; no_run = λ names. names })

-- an option with this value, and one without
pub flag_is : (f : Found) (id v : Text) (b : Bool) → Some v ≡ first_value f id → b ≡ bytes_eq v (codes "true")
    → IsTrue b ↔ (first_of id (rows_of f) ≡ Some (codes "true"))
flag_is f id v b e h = (
  λ t. sym (first_value-rows f id) ∙ sym e ∙ ap Some ((bytes_eq-Decides v (codes "true")).0 (sym h ∙ t)),
  λ g. let whole : Some v ≡ Some (codes "true") = e ∙ first_value-rows f id ∙ g in
      let same : v ≡ codes "true" = cc in
      h ∙ (bytes_eq-Decides v (codes "true")).1 same,
)

pub no_flag_is : (f : Found) (id : Text) → None ≡ first_value f id → IsTrue false ↔ (first_of id (rows_of f) ≡ Some (codes "true"))
no_flag_is f id e = (λ t. absurd (cc), λ g. let none : None ≡ Some (codes "true") = e ∙ first_value-rows f id ∙ g in absurd (cc))

-- ---- the options of a run

-- the text of an option is the one that its value has
text_of : (f : Found) (id v t : Text) → Some v ≡ first_value f id → first_of id (rows_of f) ≡ Some t → v ≡ t
text_of f id v t e is =
    let whole : Some v ≡ Some t = e ∙ first_value-rows f id ∙ is in
    cc

-- an option whose text reads as a number in its range
pub count_is : (f : Found) (id v : Text) (least most n : ℕ) → Some v ≡ first_value f id
    → (IsNumeral 10 (without_leading_plus v) × (digits_value 10 (without_leading_plus v) < 2 ^ 32)) × (n ≡ digits_value 10 (without_leading_plus v))
    → least ≤ n → n ≤ most → IsCount id least most (rows_of f) n
count_is f id v least most n e value_is low high = record {
  text = v;
  text_is = sym (first_value-rows f id) ∙ sym e;
  numeral = value_is.0.0;
  value = sym value_is.1;
  at_least = low;
  at_most = high;
}

-- one whose text reads as a number out of it
pub out_of_range : (f : Found) (id v : Text) (least most n : ℕ) → Some v ≡ first_value f id
    → (IsNumeral 10 (without_leading_plus v) × (digits_value 10 (without_leading_plus v) < 2 ^ 32)) × (n ≡ digits_value 10 (without_leading_plus v))
    → (least ≤ n → n ≤ most → ⊥) → (k : ℕ) → ¬ IsCount id least most (rows_of f) k
out_of_range f id v least most n e value_is out k is =
    let same = text_of f id v is.text e is.text_is in
    let value : digits_value 10 (without_leading_plus v) ≡ k = ap (λ (t : Text). digits_value 10 (without_leading_plus t)) same ∙ is.value in
    out (omega (arith, value_is.1, value, is.at_least)) (omega (arith, value_is.1, value, is.at_most))

-- one whose text is no number
pub no_number : (f : Found) (id v : Text) (least most : ℕ) → most < 2 ^ 32 → Some v ≡ first_value f id
    → ¬ (IsNumeral 10 (without_leading_plus v) × (digits_value 10 (without_leading_plus v) < 2 ^ 32)) → (k : ℕ) → ¬ IsCount id least most (rows_of f) k
no_number f id v least most small e unread k is =
    let same = text_of f id v is.text e is.text_is in
    let value : digits_value 10 (without_leading_plus v) ≡ k = ap (λ (t : Text). digits_value 10 (without_leading_plus t)) same ∙ is.value in
    let numeral : IsNumeral 10 (without_leading_plus v) = subst (λ (t : Text). IsNumeral 10 (without_leading_plus t)) (sym same) is.numeral in
    let fits : digits_value 10 (without_leading_plus v) < 2 ^ 32 = omega (arith, value, is.at_most, small) in
    unread (numeral, fits)

-- and one without a text
pub no_text : (f : Found) (id : Text) (least most : ℕ) → None ≡ first_value f id → (n : ℕ) → ¬ IsCount id least most (rows_of f) n
no_text f id least most e n is =
    let none : None ≡ Some is.text = e ∙ first_value-rows f id ∙ is.text_is in
    absurd (cc)

-- the bytes of an input that wasn't given, and of one that was
pub no_input : (f : Found) (id : Text) (bytes : List ℕ) → None ≡ first_value f id → bytes ≡ [] → IsInputOf (first_of id (rows_of f)) bytes
no_input f id bytes e is = subst (λ (o : Option Text). IsInputOf o bytes) (e ∙ first_value-rows f id) is

pub input_is : (f : Found) (id v w : Text) (bytes : List ℕ) → Some v ≡ first_value f id → w ≡ v → decode_of w ≡ Ok bytes
    → IsInputOf (first_of id (rows_of f)) bytes
input_is f id v w bytes e same is =
    subst (λ (o : Option Text). IsInputOf o bytes) (e ∙ first_value-rows f id) (subst (λ (t : Text). decode_of t ≡ Ok bytes) same is)

-- the fault of one that spells no bytes
pub input_fault : (f : Found) (id v w : Text) (error : FromHexError) (fault : JobFault) → Some v ≡ first_value f id → w ≡ v
    → (error ≡ OutOfMemory) ⊎ (decode_of w ≡ Err error) → (number_of fault ≡ 2 → error ≢ OutOfMemory) → number_of fault ≢ 1
    → IsInputFault (first_of id (rows_of f)) fault
input_fault f id v w error fault e same kinds refused other =
    subst (λ (o : Option Text). IsInputFault o fault) (e ∙ first_value-rows f id) (go fault refused other)
  where
    spells_none : error ≢ OutOfMemory → IsErr (decode_of v)
    spells_none whole = elim kinds [
      | inl memory ↦ absurd (whole memory)
      | inr err ↦
          let is : decode_of v ≡ Err error = ap decode_of (sym same) ∙ err in
          rw is refl
    ]

    go : (fault : JobFault) → (number_of fault ≡ 2 → error ≢ OutOfMemory) → number_of fault ≢ 1 → IsInputFault (Some v) fault
    go (Usage text) refused other = absurd (other refl)
    go Hex refused other = spells_none (refused refl)
    go Memory refused other = tt

-- names of commands that differ
pub other : {A : Type 0} (s t : Text) → bytes_eq s t ≡ false → s ≡ t → A
other s t differ e = let same : bytes_eq s t ≡ true = (bytes_eq-Decides s t).1 e in absurd (cc)

-- a subcommand whose options are no job's names nothing
no_job : (name : Text) (rows : List Row) → ((job : Job) → name ≡ name_of job → ¬ HasOptions rows job) → bytes_eq name (codes "run") ≡ false
    → NamesNothing (Some (name, rows))
no_job name rows none no_run = record { no_job = λ job names. none job names.0 names.1; no_run = λ names. other _ _ no_run names.0 }

-- the texts of an option that was given, and of one that wasn't
option_texts : (o : Option Entry) → unwrap_or (option_map (λ (a : MatchedArg). raw_values a) (option_map (λ (e : Entry). e.1) o)) [] ≡ option_map_or (λ (r : Row). r.values) (option_map row_of o) []
option_texts None = refl
option_texts (Some e) = refl

pub texts-rows : (f : Found) (id : Text) → unwrap_or (option_map raw_values (matched_of f id)) [] ≡ texts_of id (rows_of f)
texts-rows f id =
    option_texts (find (λ (e : Entry). bytes_eq e.0.now id) f.entries.items)
    ∙ ap (λ (o : Option Row). option_map_or (λ (r : Row). r.values) o []) (sym (find_row f.entries.items id))

pub texts_are : (f : Found) (id : Text) (texts : List Text) → Some texts ≡ option_map raw_values (matched_of f id) → texts ≡ texts_of id (rows_of f)
texts_are f id texts e = ap (λ (o : Option (List Text)). unwrap_or o []) e ∙ texts-rows f id

pub no_texts : (f : Found) (id : Text) → None ≡ option_map raw_values (matched_of f id) → [] ≡ texts_of id (rows_of f)
no_texts f id e = ap (λ (o : Option (List Text)). unwrap_or o []) e ∙ texts-rows f id

-- an input that spells bytes is no other
not_no_input : (text : Option Text) (bytes : List ℕ) → IsInputOf text bytes → ¬ IsNoInput text
not_no_input None bytes spells none = none
not_no_input (Some text) bytes spells none = absurd (cc)

-- a run with an input, but with options of no job, names nothing
pub no_run : (rows : List Row) (bytes : List ℕ) → IsInputOf (first_of (codes "input") rows) bytes → ((job : Job) → codes "run" ≡ name_of job → ¬ HasOptions rows job)
    → NamesNothing (Some (codes "run", rows))
no_run rows bytes spells none = record {
  no_job = λ job names. none job names.0 names.1;
  no_run = λ names. not_no_input (first_of (codes "input") rows) bytes spells names.1;
}

-- ---- the options of a run in a process

-- without an image, or with a budget that is none, it names nothing
pub no_image : (f : Found) → None ≡ first_value f (codes "image") → NamesNothing (Some (codes "exec", rows_of f))
no_image f e = no_job (codes "exec") (rows_of f) by refl
  where
    by : (job : Job) → codes "exec" ≡ name_of job → ¬ HasOptions (rows_of f) job
    by (Exec image budget) same has = let none : None ≡ Some (string_bytes image) = e ∙ first_value-rows f (codes "image") ∙ has.0 in absurd (cc)
    by _ same has = other _ _ refl same

pub no_budget : (rows : List Row) → ((n : ℕ) → ¬ IsBudget (first_of (codes "budget") rows) n) → NamesNothing (Some (codes "exec", rows))
no_budget rows none = no_job (codes "exec") rows by refl
  where
    by : (job : Job) → codes "exec" ≡ name_of job → ¬ HasOptions rows job
    by (Exec image budget) e has = none budget has.1
    by _ e has = other _ _ refl e

pub image_is : (f : Found) (v w : Text) → Some v ≡ first_value f (codes "image") → w ≡ v → first_of (codes "image") (rows_of f) ≡ Some w
image_is f v w e same = sym (first_value-rows f (codes "image")) ∙ sym e ∙ ap Some (sym same)

-- the budget of an option that was given, and of one that wasn't
pub budget_is : (f : Found) (o : Option Text) (n : ℕ) → o ≡ first_value f (codes "budget") → IsBudget o n → IsBudget (first_of (codes "budget") (rows_of f)) n
budget_is f o n e is = subst (λ (t : Option Text). IsBudget t n) (e ∙ first_value-rows f (codes "budget")) is

pub budget_of_text : (f : Found) (o : Option Text) (n : ℕ) → o ≡ first_value f (codes "budget") → IsBudget (first_of (codes "budget") (rows_of f)) n → IsBudget o n
budget_of_text f o n e is = subst (λ (t : Option Text). IsBudget t n) (sym (e ∙ first_value-rows f (codes "budget"))) is

-- ---- the options of a move

-- without a place, or with a sandbox that is none, it names nothing
pub no_place : (rows : List Row) (fault : JobFault) → IsPlaceFault (first_of (codes "at") rows) fault → IsFaultOfNamed (Some (codes "move", rows)) fault
no_place rows (Usage text) none = no_job (codes "move") rows by refl
  where
    by : (job : Job) → codes "move" ≡ name_of job → ¬ HasOptions rows job
    by (Move raw sandbox place) e has = none place has.2
    by _ e has = other _ _ refl e
no_place rows Hex none = absurd none
no_place rows Memory none = tt

pub no_sandbox : (rows : List Row) → ((n : ℕ) → ¬ IsCount (codes "sandbox") 0 sandbox_most rows n) → NamesNothing (Some (codes "move", rows))
no_sandbox rows none = no_job (codes "move") rows by refl
  where
    by : (job : Job) → codes "move" ≡ name_of job → ¬ HasOptions rows job
    by (Move raw sandbox place) e has = none sandbox has.1
    by _ e has = other _ _ refl e

-- the place of an option that was given
pub place_is : (f : Found) (v : Text) (r : Result Place JobFault) → Some v ≡ first_value f (codes "at") → IfOk r (SpellsPlace v)
    → IfOk r (IsPlaceOf (first_of (codes "at") (rows_of f)))
place_is f v r e is = subst (λ (t : Option Text). IfOk r (IsPlaceOf t)) (e ∙ first_value-rows f (codes "at")) is

-- the fault of a text that spells no place, of an option that was given, and of one that wasn't
pub text_fault : (text : Text) (fault : JobFault) → number_of fault ≢ 2 → ((place : Place) → ¬ SpellsPlace text place) → IsTextFault text fault
text_fault text (Usage told) other none = none
text_fault text Hex other none = absurd (other refl)
text_fault text Memory other none = tt

of_text : (v : Text) (fault : JobFault) → IsTextFault v fault → IsPlaceFault (Some v) fault
of_text v (Usage told) none = none
of_text v Hex none = none
of_text v Memory none = tt

pub place_fault : (f : Found) (v : Text) (r : Result Place JobFault) → Some v ≡ first_value f (codes "at") → IfErr r (IsTextFault v)
    → IfErr r (IsPlaceFault (first_of (codes "at") (rows_of f)))
place_fault f v r e is =
    subst (λ (t : Option Text). IfErr r (IsPlaceFault t)) (e ∙ first_value-rows f (codes "at")) (IfErr-weaker r _ _ (of_text v) is)

no_place_at_all : (fault : JobFault) → number_of fault ≢ 2 → IsPlaceFault None fault
no_place_at_all (Usage told) other = λ place is. is
no_place_at_all Hex other = absurd (other refl)
no_place_at_all Memory other = tt

pub no_place_fault : (f : Found) (fault : JobFault) → None ≡ first_value f (codes "at") → number_of fault ≢ 2 → IsPlaceFault (first_of (codes "at") (rows_of f)) fault
no_place_fault f fault e other = subst (λ (t : Option Text). IsPlaceFault t fault) (e ∙ first_value-rows f (codes "at")) (no_place_at_all fault other)

-- ---- words that don't parse

-- the fault of words that don't parse
pub fault_of_no_parse : (a : App) (words : List Text) (error : Error) (fault : JobFault) → a ≡ sfi
    → (is_simple_and_free a ≡ true → HasKind (fault_of a words) error) → (number_of fault ≡ 1 → kind_of error ≢ kind.OutOfMemory) → number_of fault ≢ 2
    → IsFaultOf words fault
fault_of_no_parse a words error (Usage text) is kinds refused other = record { no_job = λ job asks. unread asks.parses; no_run = λ asks. unread asks.parses }
  where
    unread : fault_of sfi words ≢ []
    unread parses =
        let none : fault_of a words ≡ [] = ap (λ (x : App). fault_of x words) is ∙ parses in
        elim (subst (λ ks. HasKind ks error) none (kinds (ap is_simple_and_free is ∙ free))) [
          | inl memory ↦ refused refl memory
          | inr among ↦ among
        ]
fault_of_no_parse a words error Hex is kinds refused other = absurd (other refl)
fault_of_no_parse a words error Memory is kinds refused other = tt
