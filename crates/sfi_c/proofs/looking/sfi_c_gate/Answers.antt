use Rattle.sfi_c.proofs.Prelude.{◌∙◌, sym}
use Rattle.sfi_c.proofs.Lookups.{is_found, found_there}
use Rattle.sfi_c.proofs.looking.sfi_c_gate.Goals as goal
use Rattle.sfi_c.proofs.looking.sfi_c_gate.Goals.{in-Ok, in_default}

pub returns-clause-found : goal.returns-clause-found
returns-clause-found c = λ zero.
    let sought = c.look_up_gate-sought in
    let is = found_there sought.result sought.ensures.missing (sym c.lookup_of-lookup.ensures ∙ is_found c.lookup_of-lookup.result (sym c.number.ensures ∙ zero)) in
    elim c.match-sought.branch [
      | in-Ok w ↦ (let g = rw w.in-Ok.is at sought.ensures.found in (g.0, w.in-Ok.found, g.1, g.2, w.gate-is ∙ w.gate_for_c.ensures))
      | in_default w ↦ absurd (w.in_default.not-Ok is.0 is.1)
    ]
