use Rattle.std.proofs.lemmas.Result.{err_from_is_err_and}
use Rattle.sfi_c.proofs.Prelude.{Beyond, Found}
use Rattle.sfi_c.specs.declared.looking.Lookup.TheVariants.{NoImage}
use Rattle.sfi_c.proofs.Lookups.{part_said}
use Rattle.sfi_c.proofs.looking.find_sandbox.Goals as goal

pub returns-in_err-found-clause-said : goal.returns-in_err-found-clause-said
returns-in_err-found-clause-said c =
    let p = err_from_is_err_and c.from_residual.result c.from_residual.ensures.1 in
    rw (p.1, p.2) (part_said c.args.image.now c.args.number NoImage (c.in_err-found.field-0.0, c.in_err-found.ensures.fault))

pub returns-in-Some-clause-said : goal.returns-in-Some-clause-said
returns-in-Some-clause-said c =
    let h = rw c.in-Some.is at c.in_ok-found.ensures.found in
    part_said c.args.image.now c.args.number Found (h.0, h.1)

pub returns-in-None-clause-said : goal.returns-in-None-clause-said
returns-in-None-clause-said c = part_said c.args.image.now c.args.number Beyond (rw c.in-None.is at c.in_ok-found.ensures.beyond)
