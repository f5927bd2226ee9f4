use Rattle.sfi_io.proofs.Prelude.{length, ◌-◌, None}
use Rattle.sfi_io.proofs.Fronts.{Stands}
use Rattle.sfi_io.proofs.front.decode_blocks.Given as goal

abbrev pub invariant-loop-taken : goal.invariant-loop-taken
invariant-loop-taken l = Stands l.text l.out (length l.fn.out) None l.taken l.made None

abbrev pub decreases-loop-taken : goal.decreases-loop-taken
decreases-loop-taken l = length l.text - l.taken
