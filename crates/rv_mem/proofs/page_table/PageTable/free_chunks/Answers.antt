use Rattle.rv_mem.proofs.Prelude.{◌+◌, ◌*◌, ℕ, List, sym, ap, ◌∙◌, arith, slice_index}
use Rattle.rv_mem.proofs.Leaves.{numbers_past, numbers_were}
use Rattle.rv_mem.proofs.page_table.PageTable.free_chunks.Goals as goal

pub returns-then-first-len-clause-none : goal.returns-then-first-len-clause-none
returns-then-first-len-clause-none c k h =
    ap (λ (l : List ℕ). slice_index l (c.args.first * 128 + k)) (sym c.self.view_is)
    ∙ numbers_past c.self.inside.chunks.items c.self.inside.leaves.items c.args.first k (omega (arith, c.if-first-len.true, c.len.ensures, c.self.inside.chunks.ok.0))

pub returns-clause-none : goal.returns-clause-none
returns-clause-none c k h =
    ap (λ (l : List ℕ). slice_index l (c.args.first * 128 + k)) (sym c.self.view_is)
    ∙ numbers_were c.self.inside.chunks.items c.self.inside.leaves.items c.self.invariant.0 c.args.first c.shared_run.result 0 (omega (arith, c.if-first-len.false, c.len.ensures, c.self.inside.chunks.ok.0)) (omega arith) c.shared_run.ensures.there k h
