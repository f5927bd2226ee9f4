use Rattle.std.proofs.Common.{length}
use Rattle.sfi_text.proofs.read.+set_operands.Given as goal

abbrev pub decreases-set_operands : goal.decreases-set_operands
decreases-set_operands l = length l.form.now
