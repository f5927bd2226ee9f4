use Rattle.sfi_link.proofs.Prelude.{drop}
use Rattle.sfi_link.proofs.Pushed.{AreLeft}
use Rattle.sfi_link.proofs.code.push_linked_slots.Given as goal

abbrev pub invariant-loop-slot : goal.invariant-loop-slot
invariant-loop-slot l = AreLeft l.at l.names l.slots (drop l.slot-index l.slots) l.initial.code.items l.code.items
