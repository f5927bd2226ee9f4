-- The state of a processor, as far as the instructions of `x86_instr` touch it: a thread in user mode, in 64-bit mode.
-- Intel 64 and IA-32 Architectures Software Developer's Manual, volume 1, "Address Calculations in 64-Bit Mode", "Basic
-- Program Execution Registers". `memory` is what page tables and protection keys let a load read: ordinary memory at
-- canonical addresses of 48 bits, no byte at two of them, written by nobody else. TF and AC are 0, no breakpoint is set, no
-- bit of an address is ignored (LAM; AMD's UAI), and no indirect branch is tracked (CET). No form reads the parity or the
-- auxiliary flag. Interrupts and signals come between instructions and leave all this as it was: what their handlers write,
-- as on the stack below rsp - 128, is none of `memory`.
use Rattle.std.specs.Prelude.{◌≡◌, ℕ, zero, suc, ◌+◌, ◌-◌, ◌*◌, ◌/◌, ◌%◌, ◌^◌, ◌<◌, ◌≤◌, ◌==◌, nat_lt, nat_le, ◌&&◌, Bool, true, false, List, length, Option, Some, None, if◌then◌else◌}
use Rattle.x86_step.specs.declared.machine.Flags.{Flags}

-- 16 registers of 64 bits, by number; the flags; the byte at each address that may be read; which may be written
pub record Core : Type 0 where
  pub registers : ℕ → ℕ
  pub flags : Flags
  pub memory : ℕ → Option ℕ
  pub writable : ℕ → Bool

-- the address of the instruction that comes next, and the rest
pub record Machine : Type 0 where
  pub rip : ℕ
  pub core : Core

-- What a host's handler makes of a fault: the address that comes next, a number in rdx, and what it subtracts from r14d.
pub record Fixup : Type 0 where
  pub to : ℕ
  pub rdx : ℕ
  pub subtracted : ℕ

-- so many addresses from one on
pub record Span : Type 0 where
  pub at : ℕ
  pub size : ℕ

-- the address is one of them
abbrev pub IsIn : Span → ℕ → Type 0
IsIn span a = (span.at ≤ a) × (a < span.at + span.size)

-- Code: bytes from an address on. By the addresses of instructions that access memory and don't jump, the fixups that the
-- host has for their faults; it handles faults of accesses that lie in a span, and no others. A fault is #PF; its address is
-- that of a byte that isn't there.
pub record Text : Type 0 where
  pub base : ℕ
  pub bytes : List ℕ
  pub fixups : ℕ → Option Fixup
  pub handled : Span

-- Code stays what it is: no byte of it may be written. A host maps its pages executable and not writable, none of them the
-- last below 2^64. Its bytes were written before, so that this processor fetches them (volume 3A, "Handling Self- and
-- Cross-Modifying Code"; mprotect). No step changes that (`Laws`), so that it is asked once, before the first.
pub record IsFixed (t : Text) (c : Core) : Type 0 where
  pub ends : t.base + length t.bytes < 2 ^ 64
  pub apart : (a : ℕ) → t.base ≤ a → a < t.base + length t.bytes → c.writable a ≡ false

abbrev pub updated : (ℕ → ℕ) → ℕ → ℕ → ℕ → ℕ
updated f r v k = if k == r then v else f k

abbrev pub with_register : Core → ℕ → ℕ → Core
with_register c r v = record { registers = updated c.registers r v; flags = c.flags; memory = c.memory; writable = c.writable }

abbrev pub with_flags : Core → Flags → Core
with_flags c f = record { registers = c.registers; flags = f; memory = c.memory; writable = c.writable }

abbrev pub with_memory : Core → (ℕ → Option ℕ) → Core
with_memory c m = record { registers = c.registers; flags = c.flags; memory = m; writable = c.writable }

-- ==== Memory: numbers with the lowest byte first (volume 1, "Bit and Byte Order").

-- a byte, and what the bytes behind it make, if all are there
abbrev pub joined : Option ℕ → Option ℕ → Option ℕ
joined (Some b) (Some n) = Some (b + 256 * n)
joined _ _ = None

-- the number that n bytes from an address on make
abbrev pub number_at : (ℕ → Option ℕ) → ℕ → ℕ → Option ℕ
number_at m zero at = Some 0
number_at m (suc n) at = joined (m at) (number_at m n (at + 1))

-- n bytes from an address on may be written
abbrev pub may_write : (ℕ → Bool) → ℕ → ℕ → Bool
may_write w zero at = true
may_write w (suc n) at = w at && may_write w n (at + 1)

-- the memory in which n bytes from an address on make v
abbrev pub written : (ℕ → Option ℕ) → ℕ → ℕ → ℕ → ℕ → Option ℕ
written m n at v q = if nat_le at q && nat_lt q (at + n) then Some (v / 256 ^ (q - at) % 256) else m q
