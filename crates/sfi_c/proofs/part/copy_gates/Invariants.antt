use Rattle.sfi_c.proofs.Prelude.{◌≡◌, take, Part, IsViewOf}
use Rattle.sfi_c.specs.Parts.{told_gate}
use Rattle.sfi_c.proofs.Writing.{over}
use Rattle.sfi_c.proofs.part.copy_gates.Given as goal

-- the first `i` gates are written to the array's front
abbrev pub invariant-loop-i : goal.invariant-loop-i
invariant-loop-i l = (p : Part) → IsViewOf l.fn.view p → l.array ≡ over told_gate (take l.i p.gates) l.initial.array
