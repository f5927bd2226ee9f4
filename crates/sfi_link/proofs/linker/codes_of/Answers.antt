use Rattle.sfi_link.proofs.Prelude.{◌≡◌, ◌+◌, ◌++◌, [], ◌∷◌, List, ℕ, drop, ap, sym, subst, ◌∙◌, err_from_is_err_and, map_push, Placement, contents}
use Rattle.std.proofs.lemmas.List.{drop_all}
use Rattle.sfi_link.proofs.Pushed.{left_next}
use Rattle.sfi_link.proofs.Linking.{CodesLeft, all_left, one_fewer, code_refused, all_coded}
use Rattle.sfi_link.proofs.linker.codes_of.Goals as goal

pub loop-number-init : goal.loop-number-init
loop-number-init c = rw (c.new-codes.ensures.items, c.new-spans.ensures.items) (all_left c.args.given.now c.args.placed.now c.requires.right)

pub returns-in_err-code : goal.returns-in_err-code
returns-in_err-code c =
    let p = err_from_is_err_and c.from_residual.result c.from_residual.ensures.1 in
    let left = left_next (λ (l : List Placement). CodesLeft c.args.given.now c.loop-number.number c.args.placed.now l (contents c.loop-number.codes.items) c.loop-number.spans.items) c.args.placed.now c.loop-number.number c.index-placed-number.result c.loop-number-test.true c.index-placed-number.is c.loop-number.invariant in
    rw (p.1, p.2) (code_refused _ _ _ _ _ _ _ c.in_err-code.field-0.0 left c.in_err-code.ensures)

pub loop-number-preserved : goal.loop-number-preserved
loop-number-preserved c =
    let left = left_next (λ (l : List Placement). CodesLeft c.args.given.now c.loop-number.number c.args.placed.now l (contents c.loop-number.codes.items) c.loop-number.spans.items) c.args.placed.now c.loop-number.number c.index-placed-number.result c.loop-number-test.true c.index-placed-number.is c.loop-number.invariant in
    let codes : contents c.push.new.self.items ≡ contents c.loop-number.codes.items ++ c.in_ok-code.code.items ∷ [] = ap contents c.in_ok-push.ensures.items ∙ map_push (λ code. code.items) c.loop-number.codes.items c.in_ok-code.code in
    subst (λ (l : List (List ℕ)). CodesLeft c.args.given.now (c.loop-number.number + 1) c.args.placed.now (drop (c.loop-number.number + 1) c.args.placed.now) l c.linked_code.new.spans.items) (sym codes)
    (one_fewer _ _ _ _ _ _ _ _ _ left c.in_ok-code.ensures)

pub returns : goal.returns
returns c = all_coded _ _ _ _ _ _ (drop_all c.loop-number.number c.args.placed.now c.loop-number-test.false) c.loop-number.invariant
