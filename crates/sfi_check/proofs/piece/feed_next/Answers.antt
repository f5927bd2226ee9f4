use Rattle.sfi_check.proofs.Prelude.{◌≡◌, ◌∙◌, ◌≤◌, ℕ, eqb, false, List, length, sym, arith, eq-eqb}
use Rattle.sfi_check.proofs.Leading.{field_len, init_some, field_taken, init_taken, step_taken}
use Rattle.sfi_check.proofs.Tallying.{field_tallies, init_tallies}
use Rattle.sfi_check.proofs.piece.feed_next.Goals as goal

not_empty : (xs : List ℕ) → eqb (length xs) 0 ≡ false → 1 ≤ length xs
not_empty xs e = grind (arith, eq-eqb (length xs) 0, e)

pub take_bytes-requires : goal.take_bytes-requires
take_bytes-requires g c =
    let h = c.requires.2 in
    (h.at, h.stands, field_taken h.at c.in-Field.len c.args.rest.now (c.in-Field.ensures.want h.at h.stands) c.if-rest-len.false)

pub take_bytes-requires-in-Init : goal.take_bytes-requires-in-Init
take_bytes-requires-in-Init g c =
    let h = c.requires.2 in
    let want = c.in-Init.ensures.want h.at h.stands in
    let some = init_some h.at c.in-Init.most want h.stands.right in
    let there = not_empty c.args.rest.now (sym c.is_empty.ensures ∙ c.if-is_empty.false) in
    (h.at, h.stands, init_taken h.at c.in-Init.most c.min.result c.args.rest.now want (omega (arith, c.min.ensures)) (omega (arith, c.min.ensures)) (omega (arith, c.min.ensures)))

pub returns-else-rest-len : goal.returns-else-rest-len
returns-else-rest-len g c = λ first so_far h.
    let len = c.in-Field.len in
    step_taken c.args.reader.now c.take_bytes.new.reader c.args.tally.now so_far c.args.rest.now len c.take_bytes.result (field_len h.at len (c.in-Field.ensures.want h.at h.stands)).0 c.if-rest-len.false c.take_bytes.ensures
    (λ x y at. field_tallies c.args.tally.now x _ y len (c.in-Field.ensures.want x at)) h

pub returns-else-is_empty : goal.returns-else-is_empty
returns-else-is_empty g c = λ first so_far h.
    let some = init_some h.at c.in-Init.most (c.in-Init.ensures.want h.at h.stands) h.stands.right in
    let there = not_empty c.args.rest.now (sym c.is_empty.ensures ∙ c.if-is_empty.false) in
    step_taken c.args.reader.now c.take_bytes-in-Init.new.reader c.args.tally.now so_far c.args.rest.now c.min.result c.take_bytes-in-Init.result (omega (arith, c.min.ensures)) (omega (arith, c.min.ensures)) c.take_bytes-in-Init.ensures
    (λ x y at. init_tallies c.args.tally.now x _ y c.in-Init.most (c.in-Init.ensures.want x at) at.right) h
