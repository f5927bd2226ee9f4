use Rattle.rv_mem.proofs.Prelude.{◌≡◌, ◌+◌, ◌*◌, ◌/◌, ◌<◌, ◌∙◌, ℕ, List, length, ap, sym, subst, arith, ArePages, values_of, cell_at}
use Rattle.rv_mem.proofs.Paging.{memory_is}
use Rattle.rv_mem.proofs.Counts.{put_here, keeps_put}
use Rattle.rv_mem.proofs.Kept.{number_put}
use Rattle.rv_mem.proofs.pages.Pages.number_chunks.Goals as goal

pub invariant_of-self-2-clause-are_pages : goal.invariant_of-self-2-clause-are_pages
invariant_of-self-2-clause-are_pages c =
    (number_put c.args.self.now.table _ _ (subst (ArePages c.args.self.now.table) (sym c.reserve_exact.ensures.items) c.args.self.now.are_pages) (c.args.page / 128 * 128) (c.in_ok-chunks.chunks * 128)
    (subst (λ (l : List ℕ). 0 < length l) (sym c.reserve_exact.ensures.items) c.requires.cells) c.in_ok-chunks.ensures.within c.in_ok-chunks.ensures.none c.in_ok-chunks.ensures.put).0

pub invariant_of-self-2-clause-in_range : goal.invariant_of-self-2-clause-in_range
invariant_of-self-2-clause-in_range c = memory_is _ _ (invariant_of-self-2-clause-are_pages c)

pub invariant_of-self-2-clause-counted : goal.invariant_of-self-2-clause-counted
invariant_of-self-2-clause-counted c =
    (number_put c.args.self.now.table _ _ (subst (ArePages c.args.self.now.table) (sym c.reserve_exact.ensures.items) c.args.self.now.are_pages) (c.args.page / 128 * 128) (c.in_ok-chunks.chunks * 128)
    (subst (λ (l : List ℕ). 0 < length l) (sym c.reserve_exact.ensures.items) c.requires.cells) c.in_ok-chunks.ensures.within c.in_ok-chunks.ensures.none c.in_ok-chunks.ensures.put).2
    ∙ ap (λ (n : ℕ). n + c.in_ok-chunks.chunks * 128) c.args.self.now.counted

pub returns-clause-same : goal.returns-clause-same
returns-clause-same c =
    (number_put c.args.self.now.table _ _ (subst (ArePages c.args.self.now.table) (sym c.reserve_exact.ensures.items) c.args.self.now.are_pages) (c.args.page / 128 * 128) (c.in_ok-chunks.chunks * 128)
    (subst (λ (l : List ℕ). 0 < length l) (sym c.reserve_exact.ensures.items) c.requires.cells) c.in_ok-chunks.ensures.within c.in_ok-chunks.ensures.none c.in_ok-chunks.ensures.put).1
    ∙ ap (λ (l : List ℕ). values_of (cell_at c.args.self.now.table l)) c.reserve_exact.ensures.items

pub returns-clause-made : goal.returns-clause-made
returns-clause-made c k h l none =
    let first : c.args.page / 128 * 128 ≡ c.args.page = omega (arith, c.requires.first) in
    let one = put_here c.args.self.now.table c.keep_chunks.new.self (c.args.page / 128 * 128) (c.in_ok-chunks.chunks * 128) 1 c.in_ok-chunks.ensures.put k (omega (arith, first, h)) (omega (arith, first, l)) in
    omega (arith, one, none)

pub returns-clause-kept : goal.returns-clause-kept
returns-clause-kept c = keeps_put c.args.self.now.table _ (c.args.page / 128 * 128) (c.in_ok-chunks.chunks * 128) 1 c.in_ok-chunks.ensures.put (omega arith)
