use Rattle.std.proofs.Common.{sym, ◌∙◌, true≢false}
use Rattle.std.proofs.lemmas.Slice.Eq.{bytes_eq-Decides}
use Rattle.sfi_text.proofs.NameTables.{some_name, no_name}
use Rattle.sfi_text.proofs.register.register.Goals as goal

pub returns-then-eq-clause-some : goal.returns-then-eq-clause-some
returns-then-eq-clause-some c = some_name _ _ _ c.name_place-place.ensures.small c.register_at.ensures (sym c.name_at.ensures ∙ (bytes_eq-Decides _ _).0 (sym c.if-eq.ensures))

pub returns-else-eq-clause-none : goal.returns-else-eq-clause-none
returns-else-eq-clause-none c =
    no_name _ _ c.name_place-place.ensures.value (λ is. true≢false (sym ((bytes_eq-Decides _ _).1 (c.name_at.ensures ∙ is)) ∙ sym c.if-eq.ensures))
