use Rattle.sfi_c.proofs.Prelude.{ℕ, List, [], ◌∙◌, ap, sym, subst, Finding, with_findings}
use Rattle.sfi_c.specs.private.{Has}
use Rattle.sfi_c.proofs.Writing.{at_first, handed_over}
use Rattle.sfi_c.proofs.checking.fill_with_findings.Goals as goal

pub returns-clause-same_array : goal.returns-clause-same_array
returns-clause-same_array c = c.check_into.ensures.handed.1.0

pub returns-clause-listed : goal.returns-clause-listed
returns-clause-listed c = λ found has.
    let j = c.check_into.ensures.handed in
    let same = handed_over c.args.image.now c.check_into.result j.0 found c.check_into.ensures.judged j.2 has in
    let start = subst (λ (n : ℕ). Has c.args.sink.now.elements.now [] c.args.sink.now.elements.now n) (sym c.requires) (at_first c.args.sink.now.elements.now) in
    let filled = j.1.1 c.args.sink.now.elements.now [] start in
    filled.array_is ∙ ap (λ (l : List Finding). with_findings l c.args.sink.now.elements.now) same
