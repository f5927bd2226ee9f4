use Rattle.std.proofs.Common.{subst}
use Rattle.sfi_text.specs.private.Reading.{values_of, Reads}
use Rattle.sfi_text.proofs.line.read_jal.Goals as goal

pub returns-in-Ok-clause-ok : goal.returns-in-Ok-clause-ok
returns-in-Ok-clause-ok c =
    (values_of c.in-Ok.o, subst (λ f. Reads (values_of c.in-Ok.o) f c.args.rest.now) c.jal_form.ensures c.in-Ok.ensures.reads, c.jal_to.ensures)
