use Rattle.std.proofs.Common.{sym, ◌∙◌, refl}
use Rattle.rv_mem.proofs.Paging.{get_pages, byte_here, none_here}
use Rattle.rv_mem.proofs.pages.Pages.byte_at.Goals as goal

pub returns-in_err-place : goal.returns-in_err-place
returns-in_err-place c =
    c.from_residual.ensures ∙ sym (get_pages c.args.self.now.table c.args.self.now.cells.items c.args.self.now.are_pages c.args.at ∙ c.in_err-place.ensures.none refl)

pub returns-then-index-eq1 : goal.returns-then-index-eq1
returns-then-index-eq1 c =
    byte_here c.args.self.now.table c.args.self.now.cells.items c.args.self.now.are_pages c.args.at c.in_ok-place.field-0 c.in_ok-place.ensures.value c.in_ok-place.ensures.within
    c.index.result.now c.index-then-index-eq1.result.now c.index.ensures c.index-then-index-eq1.ensures c.if-index-eq1.true

pub returns-else-index-eq1 : goal.returns-else-index-eq1
returns-else-index-eq1 c =
    none_here c.args.self.now.table c.args.self.now.cells.items c.args.self.now.are_pages c.args.at c.in_ok-place.field-0 c.in_ok-place.ensures.value c.in_ok-place.ensures.within
    c.index.result.now c.index.ensures c.if-index-eq1.false
