use Rattle.rv_comp.proofs.Prelude.{arith, refl, row_number}
use Rattle.rv_comp.proofs.encode.FormFields.halfword.Goals as goal

pub loop-place-init : goal.loop-place-init
unfolding row_number
loop-place-init c = record { small = omega arith; rest = refl }
