use Rattle.rv_word.proofs.Prelude.{ℕ, sym, subst, IfSome, IfNone, SpellsNone}
use Rattle.rv_word.specs.Outlines.{IsWordThat}
use Rattle.rv_word.proofs.Spellings.{one_spelling}
use Rattle.rv_word.proofs.Outlines.{only}
use Rattle.rv_word.proofs.outline.outline32.Goals as goal

pub returns-clause-only : goal.returns-clause-only
returns-clause-only c i spelled =
    let same = c.from_word.ensures.sum in
    only c.args.word c.outline.result i (λ j s. one_spelling c.args.word j i s spelled)
    (subst (λ (w : ℕ). IfSome c.outline.result (IsWordThat w)) (sym same) c.outline.ensures.found)
    (subst (λ (w : ℕ). IfNone c.outline.result (SpellsNone w)) (sym same) c.outline.ensures.none)
    spelled
