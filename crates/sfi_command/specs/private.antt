-- Words that private contracts and proofs alone cite: no public statement rests on them.
use Rattle.std.specs.Prelude.{◌≡◌, List, [], false, Option, Some, map, Result, Ok, Err}
use Rattle.clap.specs.Simple.{Shape, app_of, new_rule, new_shape}
use Rattle.clap.specs.Matches.{found_of}
use Rattle.clap.specs.Walk.{Row, Text, Rule, rows_of}
use Rattle.clap.specs.declared.parser.matches.ArgMatches.{ArgMatches}
use Rattle.clap.specs.declared.builder.command.Command.{Command}
use Rattle.clap.specs.declared.builder.command.Command.TheViews.{out-Command}
use Rattle.sfi_command.specs.declared.job.Job.{Job}
use Rattle.sfi_command.specs.declared.job.JobFault.{JobFault}
use Rattle.sfi_command.specs.declared.job.JobFault.TheVariants.{Usage, Hex, Memory}
use Rattle.sfi_command.specs.Command.{IsNoInput, IsPlaceOf, Names, NamesNoInput, count_rule, flag_rule, required_option_rule, number_rule, required_argument_rule, value_rule, SpellPlaces, SpellsPlace}
use Rattle.sfi_formats.specs.declared.place.Place.{Place}
use Rattle.clap.specs.declared.builder.action.ArgAction.TheVariants.{Append}
use Rattle.sfi_command.specs.declared.rows.CommandRow.{CommandRow}
use Rattle.sfi_command.specs.declared.rows.OptionRow.{OptionRow}
use Rattle.sfi_command.specs.declared.rows.Takes.{Takes}
use Rattle.sfi_command.specs.declared.rows.Takes.TheVariants as takes

-- ---- commands and faults

-- the command has this shape, and no argument that its subcommands share (a word of private
-- contracts)
pub record IsCommandOf (s : Shape) (c : Command) : Type 0 where
  pub shape_is : app_of c ≡ record { top = s; subs = [] }
  pub local : (out-Command c).has_globals ≡ false

-- the subcommand is neither a job nor a run whose input spells no bytes
pub record NamesNothing (named : Option (Text × List Row)) : Type 0 where
  pub no_job : (job : Job) → ¬ Names named job
  pub no_run : ¬ NamesNoInput named

-- the fault of a subcommand, with what was found for its options
abbrev pub IsFaultOfNamed : Option (Text × List Row) → JobFault → Type 0
IsFaultOfNamed named (Usage text) = NamesNothing named
IsFaultOfNamed named Hex = NamesNoInput named
IsFaultOfNamed named Memory = Unit {0}

-- what a subcommand, with what was found for its options, comes to: a job that it names, or its fault
abbrev pub IsAsked : Text → ArgMatches → Result Job JobFault → Type 0
IsAsked name found (Ok job) = Names (Some (name, rows_of (found_of found))) job
IsAsked name found (Err fault) = IsFaultOfNamed (Some (name, rows_of (found_of found))) fault

-- the fault of the text of a run's input
abbrev pub IsInputFault : Option Text → JobFault → Type 0
IsInputFault input (Usage text) = ⊥
IsInputFault input Hex = IsNoInput input
IsInputFault input Memory = Unit {0}

-- ---- places

-- the fault of texts, of which one spells no place
abbrev pub ArePlacesFault : List Text → JobFault → Type 0
ArePlacesFault texts (Usage text) = (places : List Place) → ¬ SpellPlaces texts places
ArePlacesFault texts Hex = ⊥
ArePlacesFault texts Memory = Unit {0}

-- the fault of a text that spells no place
abbrev pub IsTextFault : Text → JobFault → Type 0
IsTextFault text (Usage told) = (place : Place) → ¬ SpellsPlace text place
IsTextFault text Hex = ⊥
IsTextFault text Memory = Unit {0}

-- the fault of an option that gives no place
abbrev pub IsPlaceFault : Option Text → JobFault → Type 0
IsPlaceFault text (Usage told) = (place : Place) → ¬ IsPlaceOf text place
IsPlaceFault text Hex = ⊥
IsPlaceFault text Memory = Unit {0}

-- ---- rows of commands and options

-- an option of this name, of which nothing more is said
abbrev pub named_rule : Text → Rule
named_rule name = record (new_rule name) { long = Some name }

-- the option of this name that takes this
abbrev pub rule_taking : Text → Takes → Rule
rule_taking name takes.Nothing = flag_rule name
rule_taking name (takes.Text word) = value_rule name
rule_taking name (takes.Texts word) = record (value_rule name) { action = Some Append }
rule_taking name (takes.Number word) = number_rule name
rule_taking name (takes.Needed word) = required_option_rule name
rule_taking name (takes.Word word) = record (required_argument_rule name) { value_names = 1 }
rule_taking name (takes.Count word usual least most) = count_rule name usual.now least most

abbrev pub rule_of_row : OptionRow → Rule
rule_of_row row = rule_taking row.name.now row.takes

abbrev pub shape_of_row : CommandRow → Shape
shape_of_row row = record (new_shape row.name.now) { rules = map rule_of_row row.options.now }
