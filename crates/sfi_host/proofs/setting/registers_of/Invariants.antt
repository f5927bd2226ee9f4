use Rattle.sfi_host.proofs.Prelude.{◌≡◌, length, take, IsHart}
use Rattle.sfi_host.proofs.setting.registers_of.Given as goal

abbrev pub invariant-loop-number : goal.invariant-loop-number
invariant-loop-number l = record {
  count : length l.registers ≡ 32;
  hart : IsHart l.cpu;
  same : take l.number l.registers ≡ take l.number l.cpu.registers;
}
