use Rattle.sfi_io.proofs.Prelude.{length, ◌-◌}
use Rattle.sfi_io.proofs.Fronts.{Stands}
use Rattle.sfi_io.proofs.front.decode_front.Given as goal

abbrev pub invariant-loop-taken : goal.invariant-loop-taken
invariant-loop-taken l = Stands l.text l.out (length l.fn.out) l.fn.high l.taken l.made l.high

abbrev pub decreases-loop-taken : goal.decreases-loop-taken
decreases-loop-taken l = length l.text - l.taken
