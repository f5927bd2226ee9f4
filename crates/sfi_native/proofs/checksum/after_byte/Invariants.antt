use Rattle.std.proofs.Common.{◌≡◌}
use Rattle.std.specs.Int.Bits.{bit_xor}
use Rattle.sfi_native.specs.Checksum.{after_bits}
use Rattle.sfi_native.proofs.checksum.after_byte.Given as goal

abbrev pub invariant-loop : goal.invariant-loop
invariant-loop l = l.remainder ≡ after_bits l.counter (bit_xor l.fn.c l.fn.byte)
