use Rattle.std.proofs.Common.{refl}
use Rattle.rv_mem.proofs.Paging.{past_table}
use Rattle.rv_mem.proofs.pages.Pages.frame.Goals as goal

pub returns-in_err-number-clause-none : goal.returns-in_err-number-clause-none
returns-in_err-number-clause-none c none =
    past_table c.args.self.now.table c.args.self.now.cells.items c.args.self.now.are_pages c.args.at (c.in_err-number.ensures.none refl)
