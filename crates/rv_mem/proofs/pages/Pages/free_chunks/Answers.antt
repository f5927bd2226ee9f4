use Rattle.rv_mem.proofs.Prelude.{◌≡◌, ◌+◌, ◌*◌, ◌/◌, ◌∙◌, ap, arith, slice_index}
use Rattle.rv_mem.proofs.Paging.{get_pages, no_frame}
use Rattle.rv_mem.proofs.pages.Pages.free_chunks.Goals as goal

pub returns-clause-none : goal.returns-clause-none
returns-clause-none c j h =
    let t = c.args.self.now.table in
    let d = c.args.self.now.cells.items in
    let are = c.args.self.now.are_pages in
    let page : (c.args.at + j) / 512 ≡ c.args.at / 65536 * 128 + j / 512 = omega (arith, c.requires) in
    get_pages t d are (c.args.at + j) ∙ no_frame t d are (c.args.at + j) (ap (slice_index t) page ∙ c.free_chunks-chunks.ensures.none (j / 512) (omega (arith, h)))
