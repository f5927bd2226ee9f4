use Rattle.sfi_check.proofs.Prelude.{Err, List, refl, sym, ap, ◌∙◌, subst, has_words, Part, format_of}
use Rattle.sfi_check.specs.Converting.{IsConvertFault, AnswersLayout, AnswersFindings}
use Rattle.sfi_check.specs.declared.conversion.ConvertFault.{ConvertFault}
use Rattle.sfi_check.proofs.Converted.{first_not_second, words_not_second, converted_means, stack_means, stack_alone_means, refused_means, refused_layout, refused_findings}
use Rattle.sfi_check.proofs.conversion.convert.Goals as goal

pub returns-then-begins-clause-only_stack : goal.returns-then-begins-clause-only_stack
returns-then-begins-clause-only_stack c found is = first_not_second c.args.bytes.now is.parts is.accepted is.first (c.if-begins.ensures.0 refl)

pub returns-then-begins-clause-only_converted : goal.returns-then-begins-clause-only_converted
returns-then-begins-clause-only_converted c new is = first_not_second c.args.bytes.now is.parts is.accepted is.first (c.if-begins.ensures.0 refl)

pub returns-then-begins-clause-only_words : goal.returns-then-begins-clause-only_words
returns-then-begins-clause-only_words c is = words_not_second c.args.bytes.now is.parts is.accepted is.words (c.if-begins.ensures.0 refl)

-- ---- accepted
pub returns-then-has_words-clause-only_layout : goal.returns-then-has_words-clause-only_layout
returns-then-has_words-clause-only_layout c k first fault =
    absurd (c.in-Ok.ensures.only_layout k fault)

pub returns-then-has_words-clause-only_findings : goal.returns-then-has_words-clause-only_findings
returns-then-has_words-clause-only_findings c found first is =
    absurd (c.in-Ok.ensures.only_findings found is)

pub returns-else-has_words-clause-only_layout : goal.returns-else-has_words-clause-only_layout
returns-else-has_words-clause-only_layout c k first fault =
    absurd (c.in-Ok.ensures.only_layout k fault)

pub returns-else-has_words-clause-only_findings : goal.returns-else-has_words-clause-only_findings
returns-else-has_words-clause-only_findings c found first is =
    absurd (c.in-Ok.ensures.only_findings found is)

pub convert_accepted-requires : goal.convert_accepted-requires
convert_accepted-requires c = record { bundles = ap (λ (ps : List Part). has_words (format_of ps)) (sym c.image.ensures.image) ∙ ap has_words (sym c.format.ensures) ∙ sym c.has_words.ensures ∙ c.if-has_words.false }

pub returns-else-has_words-clause-converted : goal.returns-else-has_words-clause-converted
returns-else-has_words-clause-converted c =
    converted_means c.args.bytes.now c.in-Ok.accepted c.convert_accepted.result (λ s. let z = c.if-begins.ensures.1 s in cc) (ap (λ (ps : List Part). has_words (format_of ps)) (sym c.image.ensures.image) ∙ ap has_words (sym c.format.ensures) ∙ sym c.has_words.ensures ∙ c.if-has_words.false) c.in-Ok.ensures.accepted c.convert_accepted.ensures.converted

pub returns-else-has_words-clause-fault : goal.returns-else-has_words-clause-fault
returns-else-has_words-clause-fault c =
    stack_means c.args.bytes.now c.in-Ok.accepted c.convert_accepted.result (λ s. let z = c.if-begins.ensures.1 s in cc) (ap (λ (ps : List Part). has_words (format_of ps)) (sym c.image.ensures.image) ∙ ap has_words (sym c.format.ensures) ∙ sym c.has_words.ensures ∙ c.if-has_words.false) c.in-Ok.ensures.accepted c.convert_accepted.ensures.fault

pub returns-else-has_words-clause-stack_alone : goal.returns-else-has_words-clause-stack_alone
returns-else-has_words-clause-stack_alone c =
    stack_alone_means c.in-Ok.accepted c.convert_accepted.result (ap (λ (ps : List Part). has_words (format_of ps)) (sym c.image.ensures.image) ∙ ap has_words (sym c.format.ensures) ∙ sym c.has_words.ensures ∙ c.if-has_words.false) c.image.ensures.clean.layout.one_format c.in-Ok.ensures.accepted.none_found c.convert_accepted.ensures.fault

-- ---- refused

pub returns-in-Err-clause-fault : goal.returns-in-Err-clause-fault
returns-in-Err-clause-fault c =
    subst (λ (f : ConvertFault). IsConvertFault c.args.bytes.now f) (sym c.from.ensures)
    (refused_means c.args.bytes.now c.in-Err.refusal (λ s. let z = c.if-begins.ensures.1 s in cc) c.in-Err.ensures.layout c.in-Err.ensures.findings)

pub returns-in-Err-clause-only_layout : goal.returns-in-Err-clause-only_layout
returns-in-Err-clause-only_layout c k first fault =
    subst (λ (f : ConvertFault). AnswersLayout k (Err f)) (sym c.from.ensures) (refused_layout k c.in-Err.refusal (c.in-Err.ensures.only_layout k fault))

pub returns-in-Err-clause-only_findings : goal.returns-in-Err-clause-only_findings
returns-in-Err-clause-only_findings c found first is =
    subst (λ (f : ConvertFault). AnswersFindings found (Err f)) (sym c.from.ensures) (refused_findings found c.in-Err.refusal (c.in-Err.ensures.only_findings found is))
