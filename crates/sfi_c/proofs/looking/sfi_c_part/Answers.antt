use Rattle.sfi_c.proofs.Prelude.{◌∙◌, sym, sandbox_offset}
use Rattle.sfi_c.proofs.Lookups.{tells, is_found, found_there}
use Rattle.sfi_c.proofs.looking.sfi_c_part.Goals as goal
use Rattle.sfi_c.proofs.looking.sfi_c_part.Goals.{in-Ok, in_default}

pub returns-clause-found : goal.returns-clause-found
returns-clause-found c = λ zero.
    let sought = c.find_sandbox-sought in
    let is = found_there sought.result sought.ensures.missing (sym c.lookup_of-lookup.ensures ∙ is_found c.lookup_of-lookup.result (sym c.number.ensures ∙ zero)) in
    elim c.match-sought.branch [
      | in-Ok w ↦ (let g = rw w.in-Ok.is at sought.ensures.found in (g.0, g.1, tells c.args.image.now c.args.number g.0 c.match-sought.part g.1 (w.part-is ∙ w.part_for_c.ensures g.0 (sandbox_offset g.1.parts c.args.number) g.2 g.3)))
      | in_default w ↦ absurd (w.in_default.not-Ok is.0 is.1)
    ]
