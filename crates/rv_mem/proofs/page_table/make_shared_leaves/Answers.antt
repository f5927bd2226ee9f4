use Rattle.rv_mem.proofs.Prelude.{◌≡◌, true, sym, ◌∙◌, arith, eqb-true}
use Rattle.std.specs.Vec.{vec_len}
use Rattle.rv_mem.proofs.Leaves.{first_leaves, first_numbers, first_room}
use Rattle.rv_mem.proofs.page_table.make_shared_leaves.Goals as goal

pub append_shared_leaves-requires : goal.append_shared_leaves-requires
append_shared_leaves-requires c =
    let is : c.is_empty.result ≡ true = cc in
    sym c.args.leaves.now.ok.0 ∙ eqb-true (vec_len c.args.leaves.now) 0 (sym c.is_empty.ensures ∙ is)

pub returns-clause-is : goal.returns-clause-is
returns-clause-is c = first_leaves _ _ _ c.requires (let is : c.is_empty.result ≡ true = cc in sym c.args.leaves.now.ok.0 ∙ eqb-true (vec_len c.args.leaves.now) 0 (sym c.is_empty.ensures ∙ is)) c.in_ok-append_shared_leaves.ensures.size c.in_ok-append_shared_leaves.ensures.shared

pub returns-clause-same : goal.returns-clause-same
returns-clause-same c = first_numbers _ _ _ c.requires (let is : c.is_empty.result ≡ true = cc in sym c.args.leaves.now.ok.0 ∙ eqb-true (vec_len c.args.leaves.now) 0 (sym c.is_empty.ensures ∙ is)) c.in_ok-append_shared_leaves.ensures.size c.in_ok-append_shared_leaves.ensures.shared

pub returns-clause-keeps : goal.returns-clause-keeps
returns-clause-keeps c kept room =
    let size = c.in_ok-append_shared_leaves.ensures.size in
    let len = c.append_shared_leaves.new.leaves.ok.0 in
    first_room _ _ _ _ _ _ kept c.requires (let is : c.is_empty.result ≡ true = cc in sym c.args.leaves.now.ok.0 ∙ eqb-true (vec_len c.args.leaves.now) 0 (sym c.is_empty.ensures ∙ is)) room c.append_shared_leaves.ensures.capacity (omega (arith, size, len))

pub returns-in_err-append_shared_leaves-clause-keeps : goal.returns-in_err-append_shared_leaves-clause-keeps
returns-in_err-append_shared_leaves-clause-keeps c kept room =
    let size = c.in_err-append_shared_leaves.ensures.err in
    let len = c.append_shared_leaves.new.leaves.ok.0 in
    first_room _ _ _ _ _ _ kept c.requires (let is : c.is_empty.result ≡ true = cc in sym c.args.leaves.now.ok.0 ∙ eqb-true (vec_len c.args.leaves.now) 0 (sym c.is_empty.ensures ∙ is)) room c.append_shared_leaves.ensures.capacity (omega (arith, size, len))
