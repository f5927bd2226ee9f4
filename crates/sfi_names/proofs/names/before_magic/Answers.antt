use Rattle.std.proofs.Common.{◌≡◌, ◌∙◌, sym, eqb, true}
use Rattle.std.proofs.lemmas.Bool.Decides.{Decides-eqb}
use Rattle.std.proofs.lemmas.Slice.Eq.{slice_eq-Decides}
use Rattle.sfi_names.specs.Tables.{magic}
use Rattle.sfi_names.proofs.Entries.{same_end}
use Rattle.sfi_names.proofs.names.before_magic.Goals as goal

pub returns-else-eq-clause-none : goal.returns-else-eq-clause-none
returns-else-eq-clause-none c = λ h.
    let cut = c.in_ok-before.ensures.found in
    let same = same_end c.in_ok-before.before.now h.0 c.in_ok-before.end.now magic cut.1 (sym cut.0 ∙ h.1) in
    let test = slice_eq-Decides {E = eqb} Decides-eqb c.in_ok-before.end.now c.as_slice.result.now c.eq.result c.eq.ensures in
    let yes : c.eq.result ≡ true = test.1 (same.1 ∙ sym c.as_slice.ensures) in
    let no = c.if-eq.false in
    absurd cc
