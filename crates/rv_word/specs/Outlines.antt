-- What an instruction does, without values: its outline, and the registers that it reads and
-- writes.
use Rattle.std.specs.Prelude.{◌≡◌, ℕ, Option, Some, None, ◌==◌, Bool, false, if◌then◌else◌}
use Rattle.rv_word.specs.declared.instr.Instr.{Instr}
use Rattle.rv_word.specs.declared.instr.Instr.TheVariants.{Op, OpImm, Load, Store, Branch, Jal, Jalr, Lui, Auipc, Fence, Ecall, Ebreak}
use Rattle.rv_word.specs.declared.outline.Outline.{Outline}
use Rattle.rv_word.specs.declared.outline.Outline.TheVariants.{Computes, Loads, Stores, Branches, Jumps, JumpsTo, Orders, Calls, Stops}
use Rattle.rv_word.specs.Spelling.{IsWordOf}
use Rattle.rv_word.specs.declared.access.Access.{Access}

-- ==== What an instruction does, without the values that it does it with.

-- the outline of an instruction: what it does
abbrev pub outline : Instr → Outline
outline (Op op rd rs1 rs2) = Computes rd
outline (OpImm op rd rs1 imm) = Computes rd
outline (Load kind rd rs1 imm) = Loads rd rs1
outline (Store width rs1 rs2 imm) = Stores rs1
outline (Branch cond rs1 rs2 offset) = Branches offset
outline (Jal rd offset) = Jumps rd offset
outline (Jalr rd rs1 imm) = JumpsTo rd rs1 imm
outline (Lui rd imm) = Computes rd
outline (Auipc rd imm) = Computes rd
outline (Fence imm rd rs1) = Orders
outline Ecall = Calls
outline Ebreak = Stops

-- the word spells an instruction with this outline
pub record IsWordThat (word : ℕ) (o : Outline) : Type 0 where
  pub instr : Instr
  pub spelled : IsWordOf word instr
  pub does : outline instr ≡ o

-- ==== The registers of loads and stores.

-- what the instruction loads into, or x0 where it stores, and on which base;
-- none where it accesses no memory
abbrev pub access : Instr → Option Access
access (Load kind rd rs1 imm) = Some (record { written = rd; base = rs1 })
access (Store width rs1 rs2 imm) = Some (record { written = 0; base = rs1 })
access _ = None

-- the word spells a load or store with these registers
pub record IsAccessOf (word : ℕ) (a : Access) : Type 0 where
  pub instr : Instr
  pub spelled : IsWordOf word instr
  pub accesses : access instr ≡ Some a

-- ==== The register that an instruction writes.

-- rd, where an instruction other than a fence has one
abbrev pub destination : Instr → Option ℕ
destination (Op op rd rs1 rs2) = Some rd
destination (OpImm op rd rs1 imm) = Some rd
destination (Load kind rd rs1 imm) = Some rd
destination (Store width rs1 rs2 imm) = None
destination (Branch cond rs1 rs2 offset) = None
destination (Jal rd offset) = Some rd
destination (Jalr rd rs1 imm) = Some rd
destination (Lui rd imm) = Some rd
destination (Auipc rd imm) = Some rd
destination (Fence imm rd rs1) = None
destination Ecall = None
destination Ebreak = None

-- the number, unless it is that of x0
abbrev pub unless_x0 : Option ℕ → Option ℕ
unless_x0 (Some rd) = if rd == 0 then None else Some rd
unless_x0 None = None

-- the register that the instruction writes: x0 stays 0
abbrev pub written : Instr → Option ℕ
written i = unless_x0 (destination i)

abbrev pub is_register : ℕ → Option ℕ → Bool
is_register r None = false
is_register r (Some rd) = rd == r

-- the instruction's destination is the register of that number
abbrev pub writes_register : ℕ → Instr → Bool
writes_register r i = is_register r (destination i)
