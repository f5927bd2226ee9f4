use Rattle.sfi_link.proofs.Prelude.{◌≡◌, ◌+◌, ◌<◌, ◌++◌, [], ◌∷◌, length, drop, ap, sym, arith, append_assoc, append-nil, ◌∙◌, map_push, length-map, Format, view, views, contents, part_with, parts_with, each_with, set_init}
use Rattle.std.proofs.Math.ListN.{get_or-map}
use Rattle.std.proofs.lemmas.List.{at_drop_more, drop_all}
use Rattle.sfi_link.proofs.Linking.{codes_enough, code_at, init_next, each_with_none}
use Rattle.sfi_link.proofs.linker.linked_parts.Goals as goal

pub bounds-codes-number : goal.bounds-codes-number
bounds-codes-number c =
    let a = codes_enough c.args.given.now 0 c.args.placed.now (contents c.args.codes.now) c.requires.linked in
    let b = length-map c.args.codes.now (λ code. code.items) in
    omega arith

pub linked_part-requires-clause-made : goal.linked_part-requires-clause-made
linked_part-requires-clause-made c =
    let k = c.loop-number.number in
    let code = c.index-codes-number.result in
    let there = ap (λ v. v.items) c.index-codes-number.is ∙ sym (get_or-map (λ v. v.items) c.args.codes.now k code) in
    rw c.deref.ensures.value (code_at c.args.given.now 0 k k c.args.placed.now (contents c.args.codes.now) c.index-placed-number.result code.items (omega arith) c.loop-number-test.true c.index-placed-number.is there c.requires.linked)

pub loop-number-preserved : goal.loop-number-preserved
loop-number-preserved c =
    let given = c.args.given.now in
    let k = c.loop-number.number in
    let p = c.index-placed-number.result in
    let f = c.args.format in
    let qs = views f c.loop-number.parts.items in
    let codes = contents c.args.codes.now in
    let code = c.index-codes-number.result in
    let inits = contents c.args.inits.now in
    let init = c.init_of-init.result.now in
    let count = codes_enough given 0 c.args.placed.now codes c.requires.linked in
    let many = length-map c.args.inits.now (λ v. v.items) in
    let less : k < length codes = omega arith in
    let there = ap (λ v. v.items) c.index-codes-number.is ∙ sym (get_or-map (λ v. v.items) c.args.codes.now k code) in
    let one : drop k c.args.placed.now ≡ p ∷ drop (k + 1) c.args.placed.now = at_drop_more (λ l. l) c.args.placed.now k p c.loop-number-test.true ∙ ap (λ x. x ∷ drop (k + 1) c.args.placed.now) (sym c.index-placed-number.is) in
    let two : drop k codes ≡ code.items ∷ drop (k + 1) codes = at_drop_more (λ l. l) codes k code.items less ∙ ap (λ x. x ∷ drop (k + 1) codes) (sym there) in
    let one_format : p.format ≡ f = ap (λ v. v.format) c.index-placed-number.is ∙ c.requires.format k p c.loop-number-test.true in
    let q = part_with given k p code.items in
    let made : view f c.in_ok-linked.linked ≡ set_init init q = ap (λ (g : Format). view g c.in_ok-linked.linked) (sym one_format) ∙ c.in_ok-linked.ensures ∙ ap (λ x. set_init init (part_with given k p x)) c.deref.ensures.value in
    let parts : views f c.push.new.self.items ≡ qs ++ set_init init q ∷ [] = ap (views f) c.in_ok-push.ensures.items ∙ map_push (view f) c.loop-number.parts.items c.in_ok-linked.linked ∙ ap (λ r. qs ++ r ∷ []) made in
    let rest = parts_with given (k + 1) (drop (k + 1) c.args.placed.now) (drop (k + 1) codes) in
    let left = each_with set_init (drop (k + 1) inits) rest in
    let next = init_next inits k init q rest (λ fewer. c.init_of-init.ensures.listed (omega (arith, many, fewer))) (λ past. c.init_of-init.ensures.own (omega (arith, many, past))) in
    ap (λ l. l ++ left) parts ∙ append_assoc qs (set_init init q ∷ []) left ∙ ap (λ l. qs ++ l) (sym next ∙ sym (λ i. each_with set_init (drop k inits) (parts_with given k (one i) (two i)))) ∙ c.loop-number.invariant

pub returns : goal.returns
returns c =
    let qs = views c.args.format c.loop-number.parts.items in
    let inits = drop c.loop-number.number (contents c.args.inits.now) in
    let none = ap (λ l. each_with set_init inits (parts_with c.args.given.now c.loop-number.number l (drop c.loop-number.number (contents c.args.codes.now)))) (drop_all c.loop-number.number c.args.placed.now c.loop-number-test.false) ∙ each_with_none set_init inits in
    sym (append-nil qs) ∙ ap (λ l. qs ++ l) (sym none) ∙ c.loop-number.invariant
