use Rattle.sfi_c.proofs.Prelude.{◌∙◌, sym}
use Rattle.sfi_c.proofs.Lookups.{is_found, found_there}
use Rattle.sfi_c.proofs.looking.sfi_c_gates.Goals as goal
use Rattle.sfi_c.proofs.looking.sfi_c_gates.Goals.{in-Ok, in_default}

pub returns-clause-found : goal.returns-clause-found
returns-clause-found c = λ zero.
    let sought = c.find_sandbox-sought in
    let is = found_there sought.result sought.ensures.missing (sym c.lookup_of-lookup.ensures ∙ is_found c.lookup_of-lookup.result (sym c.number.ensures ∙ zero)) in
    elim c.match-sought.branch [
      | in-Ok w ↦ (let g = rw w.in-Ok.is at sought.ensures.found in (g.0, g.1, w.array-is ∙ w.copy_gates.ensures g.0 g.2))
      | in_default w ↦ absurd (w.in_default.not-Ok is.0 is.1)
    ]
