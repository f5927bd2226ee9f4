use Rattle.rv_mem.proofs.Prelude.{◌≡◌, ◌+◌, ◌*◌, ◌<◌, ℕ, List, length, refl, sym, ap, ◌∙◌, subst, arith, slice_index, Puts}
use Rattle.rv_mem.specs.private.Frames.{kept_for, numbers_of}
use Rattle.rv_mem.proofs.Paging.{many}
use Rattle.rv_mem.proofs.Leaves.{chunks_table, numbers_put, kept_were, same_room}
use Rattle.rv_mem.proofs.page_table.PageTable.clear_chunks.Goals as goal

pub clear_run-requires : goal.clear_run-requires
clear_run-requires c = (let count : length c.args.self.now ≡ length c.self.inside.chunks.items * 128 = ap length (sym c.self.view_is) ∙ many c.self.inside.chunks.items c.self.inside.leaves.items in omega (arith, count, c.requires))

pub invariant_of-self : goal.invariant_of-self
invariant_of-self c =
    let first : c.args.first < length c.self.inside.chunks.items = (let count : length c.args.self.now ≡ length c.self.inside.chunks.items * 128 = ap length (sym c.self.view_is) ∙ many c.self.inside.chunks.items c.self.inside.leaves.items in omega (arith, count, c.requires)) in (
      chunks_table c.self.inside.chunks.items c.clear_run.new.chunks.items c.self.inside.leaves.items c.self.inside.leaves.items c.self.invariant.0 refl c.args.first c.clear_run.result 2 first (omega arith) c.clear_run.ensures.put,
      same_room c.self.inside.chunks.items c.clear_run.new.chunks.items _ _ c.self.inside.kept c.args.first c.clear_run.result c.self.invariant.1 c.clear_run.ensures.some c.clear_run.ensures.few c.clear_run.ensures.put,
    )

pub returns-clause-kept : goal.returns-clause-kept
returns-clause-kept c k h =
    let first : c.args.first < length c.self.inside.chunks.items = (let count : length c.args.self.now ≡ length c.self.inside.chunks.items * 128 = ap length (sym c.self.view_is) ∙ many c.self.inside.chunks.items c.self.inside.leaves.items in omega (arith, count, c.requires)) in
    ap (λ (l : List ℕ). kept_for (slice_index l (c.args.first * 128 + k))) (sym c.self.view_is)
    ∙ kept_were c.self.inside.chunks.items c.self.inside.leaves.items c.self.invariant.0 c.args.first c.clear_run.result first c.clear_run.ensures.some c.clear_run.ensures.few k h

pub returns-clause-put : goal.returns-clause-put
returns-clause-put c =
    let first : c.args.first < length c.self.inside.chunks.items = (let count : length c.args.self.now ≡ length c.self.inside.chunks.items * 128 = ap length (sym c.self.view_is) ∙ many c.self.inside.chunks.items c.self.inside.leaves.items in omega (arith, count, c.requires)) in
    subst (λ (t : List ℕ). Puts t (numbers_of c.clear_run.new.chunks.items c.self.inside.leaves.items) (c.args.first * 128) (c.clear_run.result * 128) (λ j. 2)) c.self.view_is
    (numbers_put c.self.inside.chunks.items c.clear_run.new.chunks.items c.self.inside.leaves.items c.self.inside.leaves.items c.self.invariant.0 refl c.args.first c.clear_run.result 2 first (omega arith) c.clear_run.ensures.put)
