use Rattle.std.proofs.Common.{◌≡◌, ◌-◌, ◌^◌, take, fold}
use Rattle.sfi_native.specs.Checksum.{after_byte}
use Rattle.sfi_native.proofs.checksum.crc32.Given as goal

abbrev pub invariant-loop-byte : goal.invariant-loop-byte
invariant-loop-byte l = l.remainder ≡ fold after_byte (2 ^ 32 - 1) (take l.byte-index l.bytes)
