use Rattle.std.proofs.Common.{◌≡◌, ◌∙◌, Option, Some, [], ◌∷◌, ap, rules, sym, true}
use Rattle.std.specs.Prelude.{pos}
use Rattle.clap.specs.Walk.{Rule, rule_of}
use Rattle.clap.specs.declared.builder.action.ArgAction.TheVariants.{Append, SetTrue}
use Rattle.clap.specs.declared.builder.value_parser.ValueParser.{ValueParser}
use Rattle.clap.specs.declared.builder.value_parser.ValueParser.TheVariants.{Signed, Unsigned}
use Rattle.sfi_command.specs.private.{rule_taking}
use Rattle.sfi_command.proofs.rows.option_of.Goals as goal

pub returns-in-Nothing-clause-rule : goal.returns-in-Nothing-clause-rule
returns-in-Nothing-clause-rule c =
    ap rule_of c.action.ensures ∙ ap (λ (r : Rule). record r { action = Some SetTrue }) c.option_named-option.ensures.rule
    ∙ ap (rule_taking c.args.row.now.name.now) (sym c.in-Nothing.is)

pub returns-in-Text-clause-rule : goal.returns-in-Text-clause-rule
returns-in-Text-clause-rule c =
    ap rule_of c.value_name-in-Text.ensures ∙ ap (λ (r : Rule). record r { value_names = 1 }) c.option_named-option.ensures.rule
    ∙ ap (rule_taking c.args.row.now.name.now) (sym c.in-Text.is)

pub returns-in-Texts-clause-rule : goal.returns-in-Texts-clause-rule
returns-in-Texts-clause-rule c =
    ap rule_of c.action-in-Texts.ensures
    ∙ ap (λ (r : Rule). record r { action = Some Append })
    (ap rule_of c.value_name-in-Texts.ensures ∙ ap (λ (r : Rule). record r { value_names = 1 }) c.option_named-option.ensures.rule)
    ∙ ap (rule_taking c.args.row.now.name.now) (sym c.in-Texts.is)

pub returns-in-Needed-clause-rule : goal.returns-in-Needed-clause-rule
returns-in-Needed-clause-rule c =
    ap rule_of c.required.ensures
    ∙ ap (λ (r : Rule). record r { required = true })
    (ap rule_of c.value_name-in-Needed.ensures ∙ ap (λ (r : Rule). record r { value_names = 1 }) c.option_named-option.ensures.rule)
    ∙ ap (rule_taking c.args.row.now.name.now) (sym c.in-Needed.is)

pub returns-in-Count-clause-rule : goal.returns-in-Count-clause-rule
returns-in-Count-clause-rule c =
    let parser : c.value_parser.result.value_parser ≡ Some (Signed (pos c.in-Count.least) (pos c.in-Count.most)) = search rules in
    ap rule_of c.value_parser.ensures.others
    ∙ ap (λ (p : Option ValueParser). record (rule_of c.default_value.result) { parser = p }) parser
    ∙ ap (λ (r : Rule). record r { parser = Some (Signed (pos c.in-Count.least) (pos c.in-Count.most)) })
    (ap rule_of c.default_value.ensures
    ∙ ap (λ (r : Rule). record r { defaults = c.in-Count.usual.now ∷ [] })
    (ap rule_of c.value_name-in-Count.ensures ∙ ap (λ (r : Rule). record r { value_names = 1 }) c.option_named-option.ensures.rule))
    ∙ ap (rule_taking c.args.row.now.name.now) (sym c.in-Count.is)

pub returns-in-Number-clause-rule : goal.returns-in-Number-clause-rule
returns-in-Number-clause-rule c =
    let parser : c.value_parser-in-Number-2.result.value_parser ≡ Some (Unsigned 1 18446744073709551615) = search rules in
    ap rule_of c.value_parser-in-Number-2.ensures.others
    ∙ ap (λ (p : Option ValueParser). record (rule_of c.value_name-in-Number.result) { parser = p }) parser
    ∙ ap (λ (r : Rule). record r { parser = Some (Unsigned 1 18446744073709551615) })
    (ap rule_of c.value_name-in-Number.ensures ∙ ap (λ (r : Rule). record r { value_names = 1 }) c.option_named-option.ensures.rule)
    ∙ ap (rule_taking c.args.row.now.name.now) (sym c.in-Number.is)
