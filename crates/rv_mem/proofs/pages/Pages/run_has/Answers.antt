use Rattle.std.proofs.Common.{sym, ◌∙◌}
use Rattle.rv_mem.proofs.PageRuns.{none_in_page}
use Rattle.rv_mem.proofs.pages.Pages.run_has.Goals as goal

pub returns-then-frame_number-eq0-clause-none : goal.returns-then-frame_number-eq0-clause-none
returns-then-frame_number-eq0-clause-none c =
    none_in_page c.args.self.now.table c.args.self.now.cells.items c.args.self.now.are_pages c.args.at c.args.count c.requires (sym c.frame_number.ensures ∙ c.if-frame_number-eq0.true)
