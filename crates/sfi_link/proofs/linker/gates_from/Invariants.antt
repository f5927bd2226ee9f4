use Rattle.sfi_link.proofs.Prelude.{◌≡◌, ◌+◌, ◌*◌, ◌++◌, drop, gates_from}
use Rattle.sfi_link.proofs.linker.gates_from.Given as goal

abbrev pub invariant-loop-k : goal.invariant-loop-k
invariant-loop-k l = l.listed.items ++ gates_from (l.address + 16 * l.k) (drop l.k l.gates) ≡ gates_from l.address l.gates
