use Rattle.rv_mem.proofs.Prelude.{◌≡◌, ◌+◌, ◌*◌, ◌<◌, ℕ, List, length, sym, ap, ◌∙◌, subst, arith, slice_index, Puts}
use Rattle.rv_mem.specs.private.Frames.{numbers_of}
use Rattle.rv_mem.proofs.Paging.{many}
use Rattle.rv_mem.proofs.Leaves.{chunks_table, numbers_put, numbers_were}
use Rattle.rv_mem.proofs.page_table.PageTable.keep_chunks.Goals as goal

pub keep_run-requires-clause-first : goal.keep_run-requires-clause-first
keep_run-requires-clause-first c = (let count : length c.args.self.now ≡ length c.self.inside.chunks.items * 128 = ap length (sym c.self.view_is) ∙ many c.self.inside.chunks.items c.self.inside.leaves.items in omega (arith, count, c.requires))

pub invariant_of-self-2 : goal.invariant_of-self-2
invariant_of-self-2 c =
    let first : c.args.first < length c.self.inside.chunks.items = (let count : length c.args.self.now ≡ length c.self.inside.chunks.items * 128 = ap length (sym c.self.view_is) ∙ many c.self.inside.chunks.items c.self.inside.leaves.items in omega (arith, count, c.requires)) in (
      chunks_table c.self.inside.chunks.items c.keep_run.new.chunks.items c.self.inside.leaves.items c.keep_run.new.leaves.items c.self.invariant.0 c.keep_run.ensures.leaves c.args.first c.in_ok-count.count 1 first (omega arith) c.in_ok-count.ensures.put,
      c.in_ok-count.ensures.room,
    )

pub returns-clause-within : goal.returns-clause-within
returns-clause-within c =
    let count : length c.args.self.now ≡ length c.self.inside.chunks.items * 128 = ap length (sym c.self.view_is) ∙ many c.self.inside.chunks.items c.self.inside.leaves.items in
    let within = c.in_ok-count.ensures.within in
    omega (arith, count, within)

pub returns-clause-none : goal.returns-clause-none
returns-clause-none c k h =
    let first : c.args.first < length c.self.inside.chunks.items = (let count : length c.args.self.now ≡ length c.self.inside.chunks.items * 128 = ap length (sym c.self.view_is) ∙ many c.self.inside.chunks.items c.self.inside.leaves.items in omega (arith, count, c.requires)) in
    ap (λ (l : List ℕ). slice_index l (c.args.first * 128 + k)) (sym c.self.view_is)
    ∙ numbers_were c.self.inside.chunks.items c.self.inside.leaves.items c.self.invariant.0 c.args.first c.in_ok-count.count 0 first (omega arith) c.in_ok-count.ensures.none k h

pub returns-clause-put : goal.returns-clause-put
returns-clause-put c =
    let first : c.args.first < length c.self.inside.chunks.items = (let count : length c.args.self.now ≡ length c.self.inside.chunks.items * 128 = ap length (sym c.self.view_is) ∙ many c.self.inside.chunks.items c.self.inside.leaves.items in omega (arith, count, c.requires)) in
    subst (λ (t : List ℕ). Puts t (numbers_of c.keep_run.new.chunks.items c.keep_run.new.leaves.items) (c.args.first * 128) (c.in_ok-count.count * 128) (λ j. 1)) c.self.view_is
    (numbers_put c.self.inside.chunks.items c.keep_run.new.chunks.items c.self.inside.leaves.items c.keep_run.new.leaves.items c.self.invariant.0 c.keep_run.ensures.leaves c.args.first c.in_ok-count.count 1 first (omega arith) c.in_ok-count.ensures.put)
