use Rattle.std.proofs.Common.{sym, ◌∙◌, true≢false}
use Rattle.std.proofs.lemmas.Slice.Eq.{bytes_eq-Decides}
use Rattle.sfi_text.proofs.NameTables.{none_of_other}
use Rattle.sfi_text.proofs.keyword.Keyword.from_name.Goals as goal

pub returns-else-eq-clause-none : goal.returns-else-eq-clause-none
returns-else-eq-clause-none c =
    none_of_other c.args.name.now c.candidate-keyword.result c.candidate-keyword.ensures
    (λ same. true≢false (sym ((bytes_eq-Decides _ _).1 (c.name.ensures ∙ same)) ∙ sym c.if-eq.ensures))
