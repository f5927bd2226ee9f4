use Rattle.rv_mem.proofs.Prelude.{arith}
use Rattle.rv_mem.proofs.pages.Pages.free_run.Goals as goal

pub returns-then-run_has-clause-found : goal.returns-then-run_has-clause-found
returns-then-run_has-clause-found c e =
    let f = c.if-run_has.ensures.found in
    let least = c.min-count.ensures in
    (f.0, omega (arith, f.1, least), omega (arith, f.1, least), f.2)
