use Rattle.rv_mem.proofs.Prelude.{◌≡◌, ap, sym, ◌∙◌, arith, slice_index}
use Rattle.rv_mem.proofs.pages.Pages.make_run.Goals as goal

pub returns-clause-made : goal.returns-clause-made
returns-clause-made c k h l none =
    let z : k ≡ c.args.page = omega (arith, h, l) in
    c.in_ok-make_page.ensures.made (ap (slice_index _) (sym z) ∙ none)
