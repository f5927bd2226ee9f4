use Rattle.rv_mem.proofs.Prelude.{[], ℕ, sym, ap, is_some, ◌∙◌, arith, added, bytes_of}
use Rattle.rv_mem.proofs.Paging.{get_pages, has_frame}
use Rattle.rv_mem.proofs.Runs.{cleared_all, each_there, ends_within}
use Rattle.rv_mem.proofs.pages.PagesMemory.clear.Goals as goal

pub fill-requires-clause-end : goal.fill-requires-clause-end
fill-requires-clause-end c =
    let end = ends_within (bytes_of c.args.self.now) c.args.at c.args.count c.args.self.now.in_range c.ranges.at.fits c.requires in
    omega (arith, end, c.from.ensures)

pub fill-requires-clause-made : goal.fill-requires-clause-made
fill-requires-clause-made c k below =
    let t = c.args.self.now.table in
    let d = c.args.self.now.cells.items in
    let are = c.args.self.now.are_pages in
    has_frame t d are _ (ap is_some (sym (get_pages t d are _)) ∙ each_there (bytes_of c.args.self.now) c.args.at c.args.count k c.requires (omega (arith, below, c.from.ensures)))

pub returns : goal.returns
returns c =
    c.fill.ensures ∙ ap (λ (n : ℕ). added (bytes_of c.args.self.now) c.args.at n []) c.from.ensures
    ∙ cleared_all (bytes_of c.args.self.now) c.args.at c.args.count
    (ends_within (bytes_of c.args.self.now) c.args.at c.args.count c.args.self.now.in_range c.ranges.at.fits c.requires)
