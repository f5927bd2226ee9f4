use Rattle.rv_mem.proofs.Prelude.{rules, with_items_is}
use Rattle.std.specs.Vec.{with_items}
use Rattle.rv_mem.proofs.Paging.{memory_is}
use Rattle.rv_mem.proofs.PageRuns.{run_put}
use Rattle.rv_mem.proofs.pages.Pages.mark_run.Goals as goal

pub invariant_of-self-clause-are_pages : goal.invariant_of-self-clause-are_pages
invariant_of-self-clause-are_pages c =
    (run_put _ _ _ _ (with_items c.args.self.now.cells c.mark_cells.new.cells).items c.args.self.now.are_pages c.args.at c.args.count c.args.front.now c.args.from c.number.result c.requires.own c.number.ensures c.requires.page
    c.deref_mut.ensures.value c.mark_cells.ensures (with_items_is c.args.self.now.cells c.mark_cells.new.cells (search rules))).0

pub invariant_of-self-clause-in_range : goal.invariant_of-self-clause-in_range
invariant_of-self-clause-in_range c = memory_is c.args.self.now.table _ (invariant_of-self-clause-are_pages c)

pub returns-clause-written : goal.returns-clause-written
returns-clause-written c =
    (run_put _ _ _ _ (with_items c.args.self.now.cells c.mark_cells.new.cells).items c.args.self.now.are_pages c.args.at c.args.count c.args.front.now c.args.from c.number.result c.requires.own c.number.ensures c.requires.page
    c.deref_mut.ensures.value c.mark_cells.ensures (with_items_is c.args.self.now.cells c.mark_cells.new.cells (search rules))).1
