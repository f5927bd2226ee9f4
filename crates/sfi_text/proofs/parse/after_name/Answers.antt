use Rattle.std.proofs.Common.{subst}
use Rattle.sfi_text.specs.Operands.{operand_parts}
use Rattle.sfi_text.specs.private.Reading.{values_of, Reads}
use Rattle.sfi_text.proofs.Meaning.{follows}
use Rattle.sfi_text.proofs.parse.after_name.Goals as goal

pub returns-in-Ok-clause-ok : goal.returns-in-Ok-clause-ok
returns-in-Ok-clause-ok c =
    let reads : Reads (values_of c.in-Ok.o) (operand_parts c.args.name) c.args.rest.now = subst (λ f. Reads (values_of c.in-Ok.o) f c.args.rest.now) c.form.ensures c.in-Ok.ensures.reads in
    follows c.args.rest.now c.args.name (values_of c.in-Ok.o) c.instr.result reads c.instr.ensures.name c.instr.ensures.operands
