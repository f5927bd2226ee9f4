use Rattle.std.proofs.Common.{◌≡◌, ◌∙◌, Ok, Err, refl, ap}
use Rattle.sfi_names.specs.Images.{number_of}
use Rattle.sfi_run.proofs.names.tell_address.Goals as goal

pub returns-in-Ok-clause-only_found : goal.returns-in-Ok-clause-only_found
returns-in-Ok-clause-only_found c = λ a h. let e = c.in-Ok.ensures.only (Ok a) h in (refl, cc)

pub returns-in-Ok-clause-only_missing : goal.returns-in-Ok-clause-only_missing
returns-in-Ok-clause-only_missing c = λ m h. let e = c.in-Ok.ensures.only (Err m) h in absurd cc

pub returns-in-Err-clause-only_found : goal.returns-in-Err-clause-only_found
returns-in-Err-clause-only_found c = λ a h. let e = c.in-Err.ensures.only (Ok a) h in absurd cc

pub returns-in-Err-clause-only_missing : goal.returns-in-Err-clause-only_missing
returns-in-Err-clause-only_missing c = λ m h.
    let e = c.in-Err.ensures.only (Err m) h in
    let same : c.in-Err.missing ≡ m = cc in
    c.number.ensures ∙ ap number_of same
