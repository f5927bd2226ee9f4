use Rattle.rv_mem.proofs.Prelude.{◌∙◌}
use Rattle.rv_mem.proofs.Paging.{memory_is}
use Rattle.rv_mem.proofs.Kept.{more_pages}
use Rattle.rv_mem.proofs.pages.Pages.lengthen_table.Goals as goal

pub invariant_of-self-clause-are_pages : goal.invariant_of-self-clause-are_pages
invariant_of-self-clause-are_pages c =
    (more_pages c.args.self.now.table c.lengthen.new.self c.args.self.now.cells.items c.args.self.now.are_pages c.requires.cells c.lengthen.ensures.same c.lengthen.ensures.count).0

pub invariant_of-self-clause-in_range : goal.invariant_of-self-clause-in_range
invariant_of-self-clause-in_range c = memory_is _ _ (invariant_of-self-clause-are_pages c)

pub invariant_of-self-clause-counted : goal.invariant_of-self-clause-counted
invariant_of-self-clause-counted c =
    (more_pages c.args.self.now.table c.lengthen.new.self c.args.self.now.cells.items c.args.self.now.are_pages c.requires.cells c.lengthen.ensures.same c.lengthen.ensures.count).2
    ∙ c.args.self.now.counted

pub returns-clause-same : goal.returns-clause-same
returns-clause-same c =
    (more_pages c.args.self.now.table c.lengthen.new.self c.args.self.now.cells.items c.args.self.now.are_pages c.requires.cells c.lengthen.ensures.same c.lengthen.ensures.count).1
