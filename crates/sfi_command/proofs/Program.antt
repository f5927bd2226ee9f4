-- The command line that rows of commands and options make.
use Rattle.std.proofs.Common.{◌≡◌, ◌+◌, ◌<◌, ◌∙◌, ℕ, List, [], ◌∷◌, ◌++◌, ap, false, get_or, length, map, refl, sym, take}
use Rattle.std.specs.Prelude.{◌||◌}
use Rattle.std.proofs.lemmas.List.{map-append, take_more}
use Rattle.clap.specs.Built.{AddsArg, AddsSubcommand}
use Rattle.clap.specs.Simple.{App, Shape, app_of, new_shape, with_rule, with_subcommand}
use Rattle.clap.specs.Walk.{Rule, Text, rule_of}
use Rattle.clap.specs.declared.builder.arg.Arg.{Arg}
use Rattle.clap.specs.declared.builder.command.Command.{Command}
use Rattle.sfi_command.specs.Command.{with_all}
use Rattle.sfi_command.specs.declared.rows.CommandRow.{CommandRow}
use Rattle.sfi_command.specs.declared.rows.OptionRow.{OptionRow}
use Rattle.sfi_command.specs.private.{IsCommandOf, rule_of_row, shape_of_row}

-- what the first elements of a list map to, and one more
pub map-take_more : {A B : Type 0} (f : A → B) (xs : List A) (k : ℕ) (d : A) → k < length xs
    → map f (take (k + 1) xs) ≡ map f (take k xs) ++ (f (get_or xs k d) ∷ [])
map-take_more f xs k d within = ap (map f) (take_more xs k d within) ∙ map-append f (take k xs) (get_or xs k d ∷ [])

-- a command with one option more
pub one_more_option : (name : Text) (options : List OptionRow) (k : ℕ) (d : OptionRow) (old new : Command) (a : Arg) → k < length options
    → AddsArg old a new → rule_of a ≡ rule_of_row (get_or options k d) → a.global ≡ false
    → IsCommandOf (record (new_shape name) { rules = map rule_of_row (take k options) }) old
    → IsCommandOf (record (new_shape name) { rules = map rule_of_row (take (k + 1) options) }) new
one_more_option name options k d old new a within adds rule_is local is = record {
  shape_is = adds.shape local ∙ (λ i. with_rule (is.shape_is i) (rule_is i))
      ∙ ap (λ (rules : List Rule). record { top = record (new_shape name) { rules = rules }; subs = [] }) (sym (map-take_more rule_of_row options k d within));
  local = adds.globals ∙ (λ i. is.local i || local i);
}

with_all-end : (a : App) (shapes : List Shape) (s : Shape) → with_all a (shapes ++ (s ∷ [])) ≡ with_subcommand (with_all a shapes) s
with_all-end a [] s = refl
with_all-end a (first ∷ rest) s = with_all-end (with_subcommand a first) rest s

-- a program with one command more
pub one_more_command : (a : App) (rows : List CommandRow) (k : ℕ) (d : CommandRow) (old sub new : Command) → k < length rows
    → AddsSubcommand old sub new → IsCommandOf (shape_of_row (get_or rows k d)) sub → app_of old ≡ with_all a (map shape_of_row (take k rows))
    → app_of new ≡ with_all a (map shape_of_row (take (k + 1) rows))
one_more_command a rows k d old sub new within adds is before =
    adds.shape is.local ∙ (λ i. with_subcommand (before i) (is.shape_is i).top) ∙ sym (with_all-end a (map shape_of_row (take k rows)) _)
    ∙ ap (with_all a) (sym (map-take_more shape_of_row rows k d within))
