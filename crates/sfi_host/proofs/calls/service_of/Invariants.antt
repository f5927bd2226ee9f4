use Rattle.sfi_host.proofs.Prelude.{◌≡◌, drop, service_at}
use Rattle.sfi_host.proofs.calls.service_of.Given as goal

abbrev pub invariant-loop-gate : goal.invariant-loop-gate
invariant-loop-gate l = service_at (drop l.gate-index l.gates) l.address ≡ service_at l.gates l.address
