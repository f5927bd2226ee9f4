use Rattle.sfi_rewrite.proofs.Prelude.{◌≡◌, take, size_of}
use Rattle.sfi_rewrite.proofs.slot.size_of.Given as goal

abbrev pub invariant-loop-slot : goal.invariant-loop-slot
invariant-loop-slot l = l.size ≡ size_of (take l.slot-index l.slots)
