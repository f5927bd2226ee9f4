use Rattle.rv_word.proofs.Prelude.{◌≡◌, ℕ, ap, subst, Option, Some, None, IfSome, IfNone, Instr, IsWordOf, SpellsNone}
use Rattle.rv_word.proofs.Spellings.{one_spelling}
use Rattle.rv_word.proofs.decode.decode32.Goals as goal

-- what was found is the only one
only_found : (word : ℕ) (o : Option Instr) → IfSome o (IsWordOf word) → IfNone o (SpellsNone word) →
    (i : Instr) → IsWordOf word i → o ≡ Some i
only_found word (Some j) found none i spelled = ap Some (one_spelling word j i found spelled)
only_found word None found none i spelled = absurd (none i spelled)

pub returns-clause-only : goal.returns-clause-only
returns-clause-only c i spelled =
    only_found _ c.to_instr.result c.to_instr.ensures.found c.to_instr.ensures.none i
    (subst (λ (w : ℕ). IsWordOf w i) c.from_word.ensures.sum spelled)
