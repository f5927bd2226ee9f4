use Rattle.rv_mem.proofs.Prelude.{◌/◌, ◌∙◌, [], ℕ, Option, sym, ap, arith, run_of}
use Rattle.rv_mem.proofs.Paging.{get_pages}
use Rattle.rv_mem.proofs.Counts.{number_there}
use Rattle.rv_mem.proofs.Kept.{zeros_stay, table_cells}
use Rattle.rv_mem.proofs.pages.Pages.put_zeros.Goals as goal

pub returns-then-number-eq-ZEROS-clause-done : goal.returns-then-number-eq-ZEROS-clause-done
returns-then-number-eq-ZEROS-clause-done c q =
    let t = c.args.self.now.table in
    let d = c.args.self.now.cells.items in
    let are = c.args.self.now.are_pages in
    let two = sym c.frame_number-number.ensures ∙ c.if-number-eq-ZEROS.true in
    let some = table_cells t d are (c.args.at / 512) (number_there t (c.args.at / 512) (omega (arith, two))) in
    get_pages t d are q ∙ zeros_stay t d are c.args.at c.args.count c.requires some two q
    ∙ ap (λ (o : Option ℕ). run_of c.args.at c.args.count [] 0 q o) (sym (get_pages t d are q))
