use Rattle.sfi_host.proofs.Prelude.{◌≡◌, drop, exit_gate}
use Rattle.sfi_host.proofs.sandbox.exit_gate.Given as goal

abbrev pub invariant-loop-gate : goal.invariant-loop-gate
invariant-loop-gate l = exit_gate (drop l.gate-index l.gates) ≡ exit_gate l.gates
