use Rattle.sfi_host.proofs.Prelude.{◌≡◌, take, IsHart, with_registers}
use Rattle.sfi_host.proofs.sandbox.set_arguments.Given as goal

abbrev pub invariant-loop-k : goal.invariant-loop-k
invariant-loop-k l = (l.cpu ≡ with_registers l.fn.cpu 10 (take l.k l.arguments)) × IsHart l.cpu
