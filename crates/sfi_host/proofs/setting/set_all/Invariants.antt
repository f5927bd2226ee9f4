use Rattle.sfi_host.proofs.Prelude.{◌≡◌, take, IsHart, with_registers}
use Rattle.sfi_host.proofs.setting.set_all.Given as goal

abbrev pub invariant-loop-k : goal.invariant-loop-k
invariant-loop-k l = (l.cpu ≡ with_registers l.fn.cpu 0 (take l.k l.registers)) × IsHart l.cpu
