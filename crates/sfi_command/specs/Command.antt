-- The command line of `sfi`: its options, the job that its words ask for, and its faults.
use Rattle.std.specs.Prelude.{◌≡◌, ◌≤◌, ◌++◌, ℕ, List, [], ◌∷◌, codes, length, ◌↔◌, ◌<◌, ◌-◌, ◌^◌, IsTrue, IsErr, pos, Ok, Bool, Option, Some, None, find, true, false, string_bytes}
use Rattle.std.specs.Str.Parse.{IsNumeral, digits_value, without_leading_plus}
use Rattle.clap.specs.Walk.{Text, Row, Rule, first_of}
use Rattle.sfi_formats.specs.declared.place.Place.{Place}
use Rattle.std.specs.Option.{option_map_or}
use Rattle.std.specs.Str.{bytes_eq}
use Rattle.hex.specs.Hex.{decode_of}
use Rattle.clap.specs.Faults.{fault_of}
use Rattle.clap.specs.Simple.{App, Shape, new_app, new_rule, new_shape, on_top, subcommand_of, with_subcommand}
use Rattle.clap.specs.declared.builder.action.ArgAction.TheVariants.{Append, SetTrue}
use Rattle.clap.specs.declared.builder.value_parser.ValueParser.TheVariants.{Signed, Unsigned}
use Rattle.sfi_command.specs.declared.job.Job.{Job}
use Rattle.sfi_command.specs.declared.job.Job.TheVariants.{Check, Dis, Build, Map, Run, Exec, Convert, Move, Native, Translate}
use Rattle.sfi_command.specs.declared.job.JobFault.{JobFault}
use Rattle.sfi_command.specs.declared.job.JobFault.TheVariants.{Usage, Hex, Memory}

-- ==== The places that the option `--at` gives.

-- the text spells this address: 1 to 8 hexadecimal digits, of either case
pub record SpellsAddress (text : Text) (address : ℕ) : Type 0 where
  pub numeral : IsNumeral 16 text
  pub short : length text ≤ 8
  pub value : digits_value 16 text ≡ address

-- the text spells this place: where the code begins, a colon, and where the data begins
pub record SpellsPlace (text : Text) (place : Place) : Type 0 where
  pub before : Text
  pub after : Text
  pub text_is : text ≡ before ++ (codes ":" ++ after)
  pub code_is : SpellsAddress before place.code_base
  pub data_is : SpellsAddress after place.data_base

-- the texts spell these places, one each, in this order
abbrev pub SpellPlaces : List Text → List Place → Type 0
SpellPlaces [] [] = Unit {0}
SpellPlaces [] (place ∷ places) = ⊥
SpellPlaces (text ∷ texts) [] = ⊥
SpellPlaces (text ∷ texts) (place ∷ places) = SpellsPlace text place × SpellPlaces texts places

-- ==== The command line of `sfi`, and the job that its words ask for.

-- ---- the command line

-- the most rounds of a run
abbrev pub rounds_most : ℕ
rounds_most = 10000

-- the most steps of a turn
abbrev pub quantum_most : ℕ
quantum_most = 1000000

-- the program of this name, which has a version and wants a subcommand
abbrev pub program_named : Text → App
program_named name = on_top
    (λ s. record s { has_version = true; subcommand_required = true }) (new_app name)

-- an option that takes no value
abbrev pub flag_rule : Text → Rule
flag_rule name = record (new_rule name) { long = Some name; action = Some SetTrue }

-- `check [--raw] [--report]`
abbrev pub check : Shape
check = record (new_shape
    (codes "check")) { rules = flag_rule (codes "raw") ∷ flag_rule (codes "report") ∷ [] }

-- `dis`, without options
abbrev pub dis : Shape
dis = new_shape (codes "dis")

-- an option that takes a value, which its help names
abbrev pub value_rule : Text → Rule
value_rule name = record (new_rule name) { long = Some name; value_names = 1 }

-- the option `--at`, which takes a text and may be given again and again
abbrev pub places_rule : Rule
places_rule = record (value_rule (codes "at")) { action = Some Append }

-- `build [--at CODE:DATA].. [--raw]`
abbrev pub build : Shape
build = record (new_shape
    (codes "build")) { rules = places_rule ∷ flag_rule (codes "raw") ∷ [] }

-- `map [--at CODE:DATA]..`
abbrev pub map_names : Shape
map_names = record (new_shape (codes "map")) { rules = places_rule ∷ [] }

-- an option that takes a number from the least to the most, with its default
abbrev pub count_rule : Text → Text → ℕ → ℕ → Rule
count_rule name usual least most = record (value_rule name) {
  defaults = usual ∷ [];
  parser = Some (Signed (pos least) (pos most));
}

-- the option `--input`, which takes a text
abbrev pub input_rule : Rule
input_rule = value_rule (codes "input")

-- `run [--rounds N] [--quantum Q] [--input HEX] [--report]`
abbrev pub run : Shape
run = record (new_shape (codes "run")) {
  rules = count_rule (codes "rounds") (codes "1") 1 rounds_most
      ∷ count_rule (codes "quantum") (codes "1000") 1 quantum_most ∷ input_rule
      ∷ flag_rule (codes "report") ∷ [];
}

-- an argument, a text without an option's name, that has to be given
abbrev pub required_argument_rule : Text → Rule
required_argument_rule name = record (new_rule name) { required = true }

-- an option that takes a number from 1 to the largest of 64 bits
abbrev pub number_rule : Text → Rule
number_rule name = record (value_rule name) { parser = Some (Unsigned 1 (2 ^ 64 - 1)) }

-- `exec IMAGE [--budget N] [--interpret]`
abbrev pub exec : Shape
exec = record (new_shape (codes "exec")) {
  rules = record (required_argument_rule (codes "image")) { value_names = 1 }
      ∷ number_rule (codes "budget") ∷ flag_rule (codes "interpret") ∷ [];
}

-- `convert [--raw]`
abbrev pub convert : Shape
convert = record (new_shape (codes "convert")) { rules = flag_rule (codes "raw") ∷ [] }

-- an option that takes a text and has to be given
abbrev pub required_option_rule : Text → Rule
required_option_rule name = record (value_rule name) { required = true }

-- the largest number of a sandbox that an option takes
abbrev pub sandbox_most : ℕ
sandbox_most = 2 ^ 32 - 1

-- `move --at CODE:DATA [--sandbox N] [--raw]`
abbrev pub move_one : Shape
move_one = record (new_shape (codes "move")) {
  rules = required_option_rule (codes "at") ∷ count_rule (codes "sandbox") (codes "0") 0 sandbox_most
      ∷ flag_rule (codes "raw") ∷ [];
}

-- `translate [--whole]`
abbrev pub translate : Shape
translate = record (new_shape (codes "translate")) { rules = flag_rule (codes "whole") ∷ [] }

-- `native`
abbrev pub native : Shape
native = new_shape (codes "native")

-- the program with these subcommands more, in their order
abbrev pub with_all : App → List Shape → App
with_all a [] = a
with_all a (s ∷ rest) = with_all (with_subcommand a s) rest

-- the command line: the program with its subcommands
abbrev pub sfi : App
sfi = with_all (program_named (codes "sfi"))
    (check ∷ dis ∷ build ∷ map_names ∷ run ∷ convert ∷ move_one ∷ translate ∷ native ∷ exec ∷ [])

-- ---- jobs

-- whether the option was given, which takes no value
abbrev pub IsGiven : List ℕ → List Row → Bool → Type 0
IsGiven option found given = IsTrue given ↔ (first_of option found ≡ Some (codes "true"))

-- the texts that the uses of an option give, in their order
abbrev pub texts_of : List ℕ → List Row → List Text
texts_of option found = option_map_or (λ r. r.values) (find (λ r. bytes_eq r.id option) found) []

-- the option's text is this decimal number, from the least to the most
pub record IsCount (option : List ℕ) (least most : ℕ) (found : List Row) (n : ℕ) : Type 0 where
  pub text : Text
  pub text_is : first_of option found ≡ Some text
  pub numeral : IsNumeral 10 (without_leading_plus text)
  pub value : digits_value 10 (without_leading_plus text) ≡ n
  pub at_least : least ≤ n
  pub at_most : n ≤ most

-- the text of an option spells these bytes in hexadecimal; no option, none
abbrev pub IsInputOf : Option Text → List ℕ → Type 0
IsInputOf None bytes = bytes ≡ []
IsInputOf (Some text) bytes = decode_of text ≡ Ok bytes

-- the text of an option spells no bytes
abbrev pub IsNoInput : Option Text → Type 0
IsNoInput None = ⊥
IsNoInput (Some text) = IsErr (decode_of text)

-- the text of an option is this number of steps, at least one; without the option, the most that 64 bits count
abbrev pub IsBudget : Option Text → ℕ → Type 0
IsBudget None n = n ≡ 2 ^ 64 - 1
IsBudget (Some text) n =
    IsNumeral 10 (without_leading_plus text) × (digits_value 10 (without_leading_plus text) ≡ n)
    × (1 ≤ n) × (n < 2 ^ 64)

-- the text of an option spells this place; without the option there is none
abbrev pub IsPlaceOf : Option Text → Place → Type 0
IsPlaceOf None place = ⊥
IsPlaceOf (Some text) place = SpellsPlace text place

-- the name of the job's command
abbrev pub name_of : Job → Text
name_of (Check raw report) = codes "check"
name_of Dis = codes "dis"
name_of (Build raw places) = codes "build"
name_of (Map places) = codes "map"
name_of (Run options) = codes "run"
name_of (Exec image budget) = codes "exec"
name_of (Convert raw) = codes "convert"
name_of (Move raw sandbox place) = codes "move"
name_of (Translate whole) = codes "translate"
name_of Native = codes "native"

-- what was found for the options of the job's command is as the job has it; a build and a map have the
-- places that their uses of `--at` spell, and a check of an image's own bytes has no report
abbrev pub HasOptions : List Row → Job → Type 0
HasOptions found (Check raw report) =
    IsGiven (codes "raw") found raw × IsGiven (codes "report") found report
    × ¬ ((raw ≡ true) × (report ≡ true))
HasOptions found Dis = Unit {0}
HasOptions found (Build raw places) =
    IsGiven (codes "raw") found raw × SpellPlaces (texts_of (codes "at") found) places.items
HasOptions found (Map places) = SpellPlaces (texts_of (codes "at") found) places.items
HasOptions found (Run options) =
    IsCount (codes "rounds") 1 rounds_most found options.rounds
    × IsCount (codes "quantum") 1 quantum_most found options.quantum
    × IsInputOf (first_of (codes "input") found) options.input.items
    × IsGiven (codes "report") found options.report
HasOptions found (Exec image budget) =
    (first_of (codes "image") found ≡ Some (string_bytes image))
    × IsBudget (first_of (codes "budget") found) budget
HasOptions found (Convert raw) = IsGiven (codes "raw") found raw
HasOptions found (Move raw sandbox place) =
    IsGiven (codes "raw") found raw × IsCount (codes "sandbox") 0 sandbox_most found sandbox
    × IsPlaceOf (first_of (codes "at") found) place
HasOptions found (Translate whole) = IsGiven (codes "whole") found whole
HasOptions found Native = Unit {0}

-- the subcommand, with what was found for its options, asks for the job
abbrev pub Names : Option (Text × List Row) → Job → Type 0
Names None job = ⊥
Names (Some p) job = (p.0 ≡ name_of job) × HasOptions p.1 job

-- the words parse by the command line, and their subcommand asks for the job;
-- the first word is the program's name
pub record Asks (words : List Text) (job : Job) : Type 0 where
  pub parses : fault_of sfi words ≡ []
  pub names : Names (subcommand_of sfi words) job

-- ---- faults

-- the subcommand is a run whose input spells no bytes
abbrev pub NamesNoInput : Option (Text × List Row) → Type 0
NamesNoInput None = ⊥
NamesNoInput (Some p) = (p.0 ≡ codes "run") × IsNoInput (first_of (codes "input") p.1)

-- the words parse, and ask for a run whose input spells no bytes
pub record AsksNoInput (words : List Text) : Type 0 where
  pub parses : fault_of sfi words ≡ []
  pub names : NamesNoInput (subcommand_of sfi words)

-- the words don't parse, or name neither a job nor a run whose input spells no bytes
pub record AsksNothing (words : List Text) : Type 0 where
  pub no_job : (job : Job) → ¬ Asks words job
  pub no_run : ¬ AsksNoInput words

-- usage is the fault only of words that ask for nothing,
-- and Hex of a run whose input spells no bytes
abbrev pub IsFaultOf : List Text → JobFault → Type 0
IsFaultOf words (Usage text) = AsksNothing words
IsFaultOf words Hex = AsksNoInput words
IsFaultOf words Memory = Unit {0}

-- ---- what a job reads

-- whether what the job reads is an image's bytes, however it begins
abbrev pub is_raw : Job → Bool
is_raw (Check raw report) = raw
is_raw _ = false

-- ---- the numbers of the faults

-- the number of a fault of the command line
abbrev pub number_of : JobFault → ℕ
number_of (Usage text) = 1
number_of Hex = 2
number_of Memory = 3
