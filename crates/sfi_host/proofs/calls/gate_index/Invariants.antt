use Rattle.sfi_host.proofs.Prelude.{◌≡◌, ◌+◌, drop, gate_at}
use Rattle.sfi_host.proofs.calls.gate_index.Given as goal

abbrev pub invariant-loop-place : goal.invariant-loop-place
invariant-loop-place l = l.place + gate_at (drop l.place l.gates) l.address ≡ gate_at l.gates l.address
