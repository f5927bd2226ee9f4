use Rattle.sfi_image.proofs.Prelude.{◌-◌, length, Part}
use Rattle.sfi_image.specs.Keeping.{IsViewOf}
use Rattle.sfi_image.proofs.CursorSteps.{AreFirstGates}
use Rattle.sfi_image.proofs.reading.part_of_view.Given as goal

abbrev pub invariant-loop-gate : goal.invariant-loop-gate
invariant-loop-gate l = (p : Part) → IsViewOf l.fn.found p → AreFirstGates p l.gates.items

abbrev pub decreases-loop-gate : goal.decreases-loop-gate
decreases-loop-gate l = l.fn.found.fields.gate_count - length l.gates.items
