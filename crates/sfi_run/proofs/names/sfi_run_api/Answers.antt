use Rattle.sfi_run.proofs.names.sfi_run_api.Goals as goal

pub returns-in-Err-clause-only_found : goal.returns-in-Err-clause-only_found
returns-in-Err-clause-only_found c = λ t h. absurd (c.in-Err.ensures.only_found t h)
