use Rattle.sfi_scan.proofs.Prelude.{◌≡◌, Bool, List, [], ◌∷◌, true, false, refl, ap, ◌∙◌, sym, not, is_some, Instr, Before, is_empty, breaks_ecall, near}
use Rattle.sfi_scan.proofs.rules.lowest_rule.Goals as goal

first_is : (earlier : List Instr) (b : Before) → near earlier ≡ b → is_empty earlier ≡ not (is_some b.second)
first_is [] b e = ap (λ (x : Before). not (is_some x.second)) e
first_is (i ∷ []) b e = ap (λ (x : Before). not (is_some x.second)) e
first_is (i ∷ j ∷ earlier) b e = ap (λ (x : Before). not (is_some x.second)) e

flip : (p q : Bool) → not p ≡ q → not q ≡ p
flip true q e = ap not (sym e)
flip false q e = ap not (sym e)

pub returns-then-breaks_ecall : goal.returns-then-breaks_ecall
returns-then-breaks_ecall c = λ x place address near_is instr last longest.
    let e : breaks_ecall x x.instr ≡ true =
    ap (breaks_ecall x) instr ∙ sym (c.if-breaks_ecall.ensures x place (first_is x.earlier c.args.before.now near_is ∙ flip _ _ (sym c.is_none-is_first.ensures))) in
    rw (e, place, address) refl
