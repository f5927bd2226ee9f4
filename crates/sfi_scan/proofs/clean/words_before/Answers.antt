use Rattle.sfi_scan.proofs.Prelude.{◌-◌, sym, subst, arith, IsWordOr0, Option, Some, None, refl, inl, Instr, Before, AreBefore}
use Rattle.sfi_scan.proofs.clean.words_before.Goals as goal

-- 0 stands for every instruction, and for none
zero_for : (o : Option Instr) → IsWordOr0 0 o
zero_for None = refl
zero_for (Some i) = inl refl

no_words : (before : Before) → AreBefore (record { first = 0; second = 0 }) before
no_words before = record { first = zero_for before.first; second = zero_for before.second }

pub returns-then-at-from-lt8 : goal.returns-then-at-from-lt8
returns-then-at-from-lt8 c = λ before are. no_words before

pub returns : goal.returns
returns c = λ before are.
    let order = c.requires.order in
    let far = c.if-at-from-lt8.false in
    record {
      first = subst (λ w. IsWordOr0 w before.first) (sym c.word_at.ensures) (are.first (c.args.at - 8) (omega arith) (omega arith));
      second = subst (λ w. IsWordOr0 w before.second) (sym c.word_at-2.ensures) (are.second (c.args.at - 4) (omega arith) (omega arith));
    }
