-- CRC-32, as gzip and PNG have it: RFC 1952, the appendix.
use Rattle.std.specs.Prelude.{ℕ, zero, suc, ◌-◌, ◌/◌, ◌%◌, ◌^◌, ◌==◌, List, fold, if◌then◌else◌}
use Rattle.std.specs.Int.Bits.{bit_xor}

-- the remainder's next value, by its lowest bit; the number is the polynomial, reversed
unfoldable pub next_remainder : ℕ → ℕ
next_remainder c = if c % 2 == 1 then bit_xor (c / 2) 3988292384 else c / 2

-- so for some bits
abbrev pub after_bits : ℕ → ℕ → ℕ
after_bits zero c = c
after_bits (suc n) c = next_remainder (after_bits n c)

-- for a byte, the lowest bit first
abbrev pub after_byte : ℕ → ℕ → ℕ
after_byte c byte = after_bits 8 (bit_xor c byte)

-- of all bytes: bits are flipped before and after
abbrev pub crc32 : List ℕ → ℕ
crc32 bytes = bit_xor (fold after_byte (2 ^ 32 - 1) bytes) (2 ^ 32 - 1)
