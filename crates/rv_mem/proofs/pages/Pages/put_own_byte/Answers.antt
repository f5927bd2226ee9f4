use Rattle.rv_mem.proofs.Prelude.{◌∙◌, sym, ap, is_some}
use Rattle.rv_mem.proofs.Paging.{get_pages, has_frame}
use Rattle.rv_mem.proofs.pages.Pages.put_own_byte.Goals as goal

pub own_frame-requires : goal.own_frame-requires
own_frame-requires c =
    let t = c.args.self.now.table in
    let d = c.args.self.now.cells.items in
    let are = c.args.self.now.are_pages in
    has_frame t d are c.args.at (ap is_some (sym (get_pages t d are c.args.at)) ∙ c.requires)
