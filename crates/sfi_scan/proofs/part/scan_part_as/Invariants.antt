use Rattle.sfi_scan.proofs.Prelude.{view}
use Rattle.sfi_scan.proofs.Gates.{IsAtGate}
use Rattle.sfi_scan.proofs.part.scan_part_as.Given as goal

-- the code before the gate is scanned, from the one before it on
abbrev pub invariant-loop-gate : goal.invariant-loop-gate
invariant-loop-gate l = IsAtGate l.sandbox (view l.fn.format l.part) l.gate-index l.place l.at l.found.found.items l.owed l.found.lacks_memory
