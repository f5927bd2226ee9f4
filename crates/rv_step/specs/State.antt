-- The state of a machine: a hart, which is its pc and its 32 registers, and a memory.
use Rattle.std.specs.Prelude.{◌≡◌, ℕ, ◌-◌, ◌%◌, ◌^◌, ◌<◌, ◌==◌, List, length, slice_index, slice_set, if◌then◌else◌}
use Rattle.rv_mem.specs.Bytes.{Bytes, IsMemory, address_after}

-- a hart
pub record Hart : Type 0 where
  pub pc : ℕ
  pub registers : List ℕ

-- a state
pub record State : Type 0 where
  pub hart : Hart
  pub memory : Bytes

-- the value of a register
abbrev pub register : Hart → ℕ → ℕ
register h r = slice_index h.registers r

-- the pc is an even address; each of the 32 registers has 32 bits, and x0 is 0
pub record IsHart (h : Hart) : Type 0 where
  pub even : h.pc % 2 ≡ 0
  pub address : h.pc < 2 ^ 32
  pub count : length h.registers ≡ 32
  pub words : (r : ℕ) → register h r < 2 ^ 32
  pub zero : register h 0 ≡ 0

pub record IsState (s : State) : Type 0 where
  pub hart : IsHart s.hart
  pub memory : IsMemory s.memory

-- the hart with this value in a register: x0 stays
abbrev pub with_register : Hart → ℕ → ℕ → Hart
with_register h rd v =
    record { pc = h.pc; registers = if rd == 0 then h.registers else slice_set h.registers rd v }

-- the hart at this pc
abbrev pub with_pc : Hart → ℕ → Hart
with_pc h pc = record { pc = pc; registers = h.registers }

-- the hart after an instruction of n bytes
abbrev pub past : Hart → ℕ → Hart
past h n = with_pc h (address_after h.pc n)

-- the number with bit 0 cleared
abbrev pub even_of : ℕ → ℕ
even_of n = n - n % 2
