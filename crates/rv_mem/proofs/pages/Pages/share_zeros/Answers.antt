use Rattle.rv_mem.proofs.Prelude.{◌∙◌, arith}
use Rattle.rv_mem.proofs.Paging.{memory_is}
use Rattle.rv_mem.proofs.Counts.{number_there}
use Rattle.rv_mem.proofs.Kept.{of_value, zeros_set, keeps_set}
use Rattle.rv_mem.proofs.pages.Pages.share_zeros.Goals as goal

pub set-requires : goal.set-requires
set-requires c = number_there c.args.self.now.table c.args.page (omega (arith, c.requires))

pub unwrap-requires : goal.unwrap-requires
unwrap-requires c = c.set.ensures.there (omega (arith, c.requires))

pub invariant_of-self-clause-are_pages : goal.invariant_of-self-clause-are_pages
invariant_of-self-clause-are_pages c =
    (zeros_set c.args.self.now.table _ _ c.args.self.now.are_pages c.args.page c.requires (of_value c.set.result _ c.set.ensures.ok (c.set.ensures.there (omega (arith, c.requires))))).0

pub invariant_of-self-clause-in_range : goal.invariant_of-self-clause-in_range
invariant_of-self-clause-in_range c = memory_is _ _ (invariant_of-self-clause-are_pages c)

pub invariant_of-self-clause-counted : goal.invariant_of-self-clause-counted
invariant_of-self-clause-counted c =
    (zeros_set c.args.self.now.table _ _ c.args.self.now.are_pages c.args.page c.requires (of_value c.set.result _ c.set.ensures.ok (c.set.ensures.there (omega (arith, c.requires))))).2
    ∙ c.args.self.now.counted

pub returns-clause-written : goal.returns-clause-written
returns-clause-written c =
    (zeros_set c.args.self.now.table _ _ c.args.self.now.are_pages c.args.page c.requires (of_value c.set.result _ c.set.ensures.ok (c.set.ensures.there (omega (arith, c.requires))))).1

pub returns-clause-kept : goal.returns-clause-kept
returns-clause-kept c =
    keeps_set c.args.self.now.table _ c.args.page 2 (of_value c.set.result _ c.set.ensures.ok (c.set.ensures.there (omega (arith, c.requires)))) (omega arith)
