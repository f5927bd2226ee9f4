use Rattle.rv_mem.proofs.Prelude.{ℕ, List, sym, ap, ◌∙◌, arith, slice_index}
use Rattle.rv_mem.proofs.Paging.{many, number_is}
use Rattle.rv_mem.proofs.page_table.PageTable.lengthen.Goals as goal

pub returns-in_err-make_chunk-clause-same : goal.returns-in_err-make_chunk-clause-same
returns-in_err-make_chunk-clause-same c k =
    number_is c.make_chunk.new.chunks.items c.make_chunk.new.leaves.items c.make_chunk.ensures.is k ∙ c.make_chunk.ensures.same k
    ∙ sym (number_is c.self.inside.chunks.items c.self.inside.leaves.items c.self.invariant.0 k) ∙ ap (λ (l : List ℕ). slice_index l k) c.self.view_is

pub returns-in_err-make_chunk-clause-count : goal.returns-in_err-make_chunk-clause-count
returns-in_err-make_chunk-clause-count c = let n = many c.make_chunk.new.chunks.items c.make_chunk.new.leaves.items in let b = c.make_chunk.ensures.is.count in omega (arith, n, b)

pub returns-clause-same : goal.returns-clause-same
returns-clause-same c k =
    number_is c.make_chunk.new.chunks.items c.make_chunk.new.leaves.items c.make_chunk.ensures.is k ∙ c.make_chunk.ensures.same k
    ∙ sym (number_is c.self.inside.chunks.items c.self.inside.leaves.items c.self.invariant.0 k) ∙ ap (λ (l : List ℕ). slice_index l k) c.self.view_is

pub returns-clause-count : goal.returns-clause-count
returns-clause-count c = let n = many c.make_chunk.new.chunks.items c.make_chunk.new.leaves.items in let b = c.make_chunk.ensures.is.count in omega (arith, n, b)

pub returns-clause-room : goal.returns-clause-room
returns-clause-room c = let n = many c.make_chunk.new.chunks.items c.make_chunk.new.leaves.items in let b = c.in_ok-make_chunk.ensures.room in omega (arith, n, b)

pub invariant_of-self : goal.invariant_of-self
invariant_of-self c = (c.make_chunk.ensures.is, c.make_chunk.ensures.keeps c.self.inside.kept c.self.invariant.1)

pub invariant_of-self-2 : goal.invariant_of-self-2
invariant_of-self-2 c = (c.make_chunk.ensures.is, c.make_chunk.ensures.keeps c.self.inside.kept c.self.invariant.1)
