use Rattle.sfi_c.proofs.Prelude.{◌≡◌, take, finding_for_c}
use Rattle.sfi_c.proofs.Writing.{over}
use Rattle.sfi_c.proofs.finding.write_findings.Given as goal

-- the first `i` findings are written to the array's front
abbrev pub invariant-loop-i : goal.invariant-loop-i
invariant-loop-i l = l.array ≡ over finding_for_c (take l.i l.found) l.initial.array
