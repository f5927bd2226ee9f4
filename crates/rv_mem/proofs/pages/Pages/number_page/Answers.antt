use Rattle.rv_mem.proofs.Prelude.{◌≡◌, ◌+◌, ◌∙◌, ℕ, List, ap, sym, subst, arith, refl, slice_index, ArePages, values_of, cell_at}
use Rattle.rv_mem.proofs.Paging.{memory_is}
use Rattle.rv_mem.proofs.Counts.{set_is}
use Rattle.rv_mem.proofs.Kept.{number_set, keeps_set}
use Rattle.rv_mem.proofs.pages.Pages.number_page.Goals as goal

pub invariant_of-self-2-clause-are_pages : goal.invariant_of-self-2-clause-are_pages
invariant_of-self-2-clause-are_pages c =
    (number_set c.args.self.now.table _ _ (subst (ArePages c.args.self.now.table) (sym c.reserve_exact.ensures.items) c.args.self.now.are_pages) c.args.page c.requires.page c.requires.none c.in_ok-set.ensures.ok).0

pub invariant_of-self-2-clause-in_range : goal.invariant_of-self-2-clause-in_range
invariant_of-self-2-clause-in_range c = memory_is _ _ (invariant_of-self-2-clause-are_pages c)

pub invariant_of-self-2-clause-counted : goal.invariant_of-self-2-clause-counted
invariant_of-self-2-clause-counted c =
    (number_set c.args.self.now.table _ _ (subst (ArePages c.args.self.now.table) (sym c.reserve_exact.ensures.items) c.args.self.now.are_pages) c.args.page c.requires.page c.requires.none c.in_ok-set.ensures.ok).2
    ∙ ap (λ (n : ℕ). n + 1) c.args.self.now.counted

pub returns-clause-same : goal.returns-clause-same
returns-clause-same c =
    (number_set c.args.self.now.table _ _ (subst (ArePages c.args.self.now.table) (sym c.reserve_exact.ensures.items) c.args.self.now.are_pages) c.args.page c.requires.page c.requires.none c.in_ok-set.ensures.ok).1
    ∙ ap (λ (l : List ℕ). values_of (cell_at c.args.self.now.table l)) c.reserve_exact.ensures.items

pub returns-clause-made : goal.returns-clause-made
returns-clause-made c =
    let is = set_is c.args.self.now.table c.args.page 1 c.args.page c.requires.page refl in
    let there : slice_index c.set.new.self c.args.page ≡ 1 = ap (λ (l : List ℕ). slice_index l c.args.page) c.in_ok-set.ensures.ok ∙ is in
    λ none. omega (arith, there, none)

pub returns-clause-kept : goal.returns-clause-kept
returns-clause-kept c = keeps_set c.args.self.now.table _ c.args.page 1 c.in_ok-set.ensures.ok (omega arith)
