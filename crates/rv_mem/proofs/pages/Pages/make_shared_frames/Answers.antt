use Rattle.rv_mem.proofs.Prelude.{◌≡◌, ◌∙◌, sym, arith, length, true, eqb-true}
use Rattle.std.specs.Vec.{vec_len}
use Rattle.rv_mem.proofs.Paging.{memory_is}
use Rattle.rv_mem.proofs.Kept.{shared_first, none_kept}
use Rattle.rv_mem.proofs.pages.Pages.make_shared_frames.Goals as goal

pub invariant_of-self-2-clause-are_pages : goal.invariant_of-self-2-clause-are_pages
invariant_of-self-2-clause-are_pages c =
    (shared_first c.args.self.now.table c.args.self.now.cells.items _ _ _ _ c.args.self.now.are_pages
    (let is : c.is_empty.result ≡ true = cc in sym c.args.self.now.cells.ok.0 ∙ eqb-true (vec_len c.args.self.now.cells) 0 (sym c.is_empty.ensures ∙ is))
    c.reserve_exact.ensures.items c.append_frame.ensures.gained c.append_frame-2.ensures.gained c.append_frame-3.ensures.gained).0

pub invariant_of-self-2-clause-in_range : goal.invariant_of-self-2-clause-in_range
invariant_of-self-2-clause-in_range c = memory_is _ _ (invariant_of-self-2-clause-are_pages c)

pub invariant_of-self-2-clause-room : goal.invariant_of-self-2-clause-room
invariant_of-self-2-clause-room c =
    let is : c.is_empty.result ≡ true = cc in
    let none : length c.args.self.now.cells.items ≡ 0 = sym c.args.self.now.cells.ok.0 ∙ eqb-true (vec_len c.args.self.now.cells) 0 (sym c.is_empty.ensures ∙ is) in
    let no = none_kept c.args.self.now.table c.args.self.now.cells.items c.args.self.now.are_pages none in
    let len = c.args.self.now.cells.ok.0 in
    let count = c.args.self.now.counted in
    let room = c.in_ok-reserve_exact.ensures.ok in
    let same = c.reserve_exact.ensures.len in
    omega (arith, no, len, none, count, room, same, c.append_frame.ensures.len, c.append_frame-2.ensures.len, c.append_frame-3.ensures.len, c.append_frame.ensures.capacity, c.append_frame-2.ensures.capacity, c.append_frame-3.ensures.capacity)

pub returns-clause-same : goal.returns-clause-same
returns-clause-same c =
    (shared_first c.args.self.now.table c.args.self.now.cells.items _ _ _ _ c.args.self.now.are_pages
    (let is : c.is_empty.result ≡ true = cc in sym c.args.self.now.cells.ok.0 ∙ eqb-true (vec_len c.args.self.now.cells) 0 (sym c.is_empty.ensures ∙ is))
    c.reserve_exact.ensures.items c.append_frame.ensures.gained c.append_frame-2.ensures.gained c.append_frame-3.ensures.gained).1
