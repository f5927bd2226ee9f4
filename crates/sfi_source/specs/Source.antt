-- What a text of the assembler means: sandboxes.
use Rattle.std.specs.Prelude.{ℕ, Bool, ◌/◌, ◌%◌, ℤ, pos, ◌+ℤ◌, ◌-ℤ◌, ◌≡◌, ◌≢◌, ◌↔◌, ◌^◌, ◌<◌, ◌≤◌, IsTrue, List, [], ◌∷◌, length, map, slice_get, Some, Contains}
use Rattle.rv_word.specs.Spelling.{modulo, IsReg, InRange}
use Rattle.std.specs.List.{All, AllPairs}
use Rattle.rv_word.specs.declared.instr.Instr.{Instr}
use Rattle.rv_word.specs.declared.instr.Instr.TheVariants as instr
use Rattle.sfi_formats.specs.Limits.{gates_most, items_most, region_least, service_most, source_data_most}
use Rattle.sfi_formats.specs.declared.format.Format.{Format}
use Rattle.sfi_formats.specs.declared.format.Format.TheVariants.{Sfi1}
use Rattle.sfi_source.specs.Names.{IsShortLabel}
use Rattle.sfi_source.specs.declared.item.Named.{Named}
use Rattle.sfi_source.specs.declared.item.Named.TheVariants.{Gate, Code, Data, Unknown}
use Rattle.sfi_source.specs.declared.item.Body.{Body}
use Rattle.sfi_source.specs.declared.item.Body.TheVariants.{Plain, To, High, Low, Base}
use Rattle.sfi_source.specs.declared.item.Item.{Item}
use Rattle.sfi_source.specs.declared.item.SourceGate.{SourceGate}

-- ==== The two halves of a 32-bit number that a lui and an addi put together.

-- z + 2048 as 32 bits hold it: the nearest multiple of 4096 is its bits 31:12
abbrev pub rounded : ℤ → ℕ
rounded z = modulo 32 (z +ℤ pos 2048)

-- the number of lui: (z + 2048) div 4096, rounded down, modulo 1048576
abbrev pub upper : ℤ → ℕ
upper z = rounded z / 4096

-- the number of addi: the low 12 bits of z, signed
abbrev pub lower : ℤ → ℤ
lower z = pos (rounded z % 4096) -ℤ pos 2048

-- ==== What a text of the assembler means: sandboxes.

-- a sandbox: the format of its source, whether it is built to be moved, how many data bytes it has, its
-- gates, its names with what they name, its instructions and its first data bytes
pub record Sandbox : Type 0 where
  pub format : Format
  pub movable : Bool
  pub data_size : ℕ
  pub gates : List SourceGate
  pub names : List (List ℕ × Named)
  pub items : List Item
  pub bytes : List ℕ

-- the sandbox of these parts
abbrev pub sandbox :
    Format → Bool → ℕ → List SourceGate → List (List ℕ × Named) → List Item → List ℕ → Sandbox
sandbox format movable data_size gates names items bytes =
    record {
      format = format;
      movable = movable;
      data_size = data_size;
      gates = gates;
      names = names;
      items = items;
      bytes = bytes;
    }

-- what the names name, in the order of their places
abbrev pub named : Sandbox → List Named
named s = map (λ e. e.1) s.names

-- the size is a power of two, and one that a data region of a source may have
pub record IsDataSize (size : ℕ) : Type 0 where
  pub power : ℕ
  pub size_is : size ≡ 2 ^ power
  pub at_least : region_least ≤ size
  pub at_most : size ≤ source_data_most

-- the instruction is neither a jal nor a branch
abbrev pub IsStraight : Instr → Type 0
IsStraight (instr.Branch cond rs1 rs2 offset) = ⊥
IsStraight (instr.Jal rd offset) = ⊥
IsStraight (instr.Op op rd rs1 rs2) = Unit {0}
IsStraight (instr.OpImm op rd rs1 imm) = Unit {0}
IsStraight (instr.Load kind rd rs1 imm) = Unit {0}
IsStraight (instr.Store width rs1 rs2 imm) = Unit {0}
IsStraight (instr.Jalr rd rs1 imm) = Unit {0}
IsStraight (instr.Lui rd imm) = Unit {0}
IsStraight (instr.Auipc rd imm) = Unit {0}
IsStraight (instr.Fence imm rd rs1) = Unit {0}
IsStraight instr.Ecall = Unit {0}
IsStraight instr.Ebreak = Unit {0}

-- the instruction is a jal or a branch whose offset is left open, as 0
abbrev pub IsOpen : Instr → Type 0
IsOpen (instr.Branch cond rs1 rs2 offset) = offset ≡ pos 0
IsOpen (instr.Jal rd offset) = offset ≡ pos 0
IsOpen (instr.Op op rd rs1 rs2) = ⊥
IsOpen (instr.OpImm op rd rs1 imm) = ⊥
IsOpen (instr.Load kind rd rs1 imm) = ⊥
IsOpen (instr.Store width rs1 rs2 imm) = ⊥
IsOpen (instr.Jalr rd rs1 imm) = ⊥
IsOpen (instr.Lui rd imm) = ⊥
IsOpen (instr.Auipc rd imm) = ⊥
IsOpen (instr.Fence imm rd rs1) = ⊥
IsOpen instr.Ecall = ⊥
IsOpen instr.Ebreak = ⊥

-- each field is in range, and the name is one of the first `count`
abbrev pub IsBody : ℕ → Body → Type 0
IsBody count (Plain i) = InRange i × IsStraight i
IsBody count (To i place) = InRange i × IsOpen i × (place < count)
IsBody count (High rd place) = IsReg rd × (place < count)
IsBody count (Low rd place) = IsReg rd × (place < count)
IsBody count (Base rd place) = IsReg rd × (place < count)

-- there is what the name names: that gate, the place before that item or after the last, or an
-- offset in the data, at most its length
abbrev pub IsThere : Sandbox → Named → Type 0
IsThere s (Gate k) = k < length s.gates
IsThere s (Code k) = k ≤ length s.items
IsThere s (Data offset) = offset ≤ length s.bytes
IsThere s Unknown = Unit {0}

-- a name that a label, a gate or a target may have, and what it names is there
pub record IsEntry (s : Sandbox) (e : List ℕ × Named) : Type 0 where
  pub name : IsShortLabel e.0
  pub there : IsThere s e.1

-- the gate of this number asks for a service that there is, and its name names it
pub record IsGate (s : Sandbox) (k : ℕ) (g : SourceGate) : Type 0 where
  pub service : g.service ≤ service_most
  pub name : slice_get (named s) g.name ≡ Some (Gate k)

-- the item of this number: it is labelled exactly where a name names the place before it
pub record IsItem (s : Sandbox) (k : ℕ) (i : Item) : Type 0 where
  pub labelled : IsTrue i.labelled ↔ Contains (named s) (Code k)
  pub body : IsBody (length s.names) i.body

-- a sandbox within its limits, whose names, gates and items fit each other
pub record IsSandbox (s : Sandbox) : Type 0 where
  pub data_size : IsDataSize s.data_size
  pub gate_count : length s.gates ≤ gates_most
  pub gates : (k : ℕ) (g : SourceGate) → slice_get s.gates k ≡ Some g → IsGate s k g
  pub names : All (IsEntry s) s.names
  pub differ : AllPairs (λ x y. x ≢ y) (map (λ e. e.0) s.names)
  pub item_count : length s.items ≤ items_most
  pub items : (k : ℕ) (i : Item) → slice_get s.items k ≡ Some i → IsItem s k i
  pub byte_count : length s.bytes ≤ s.data_size
  pub bytes : All (λ b. b < 256) s.bytes

-- the format of a source: that of its sandboxes
abbrev pub format_of : List Sandbox → Format
format_of [] = Sfi1
format_of (s ∷ rest) = s.format

-- the sandboxes are of the format
abbrev pub AreOf : Format → List Sandbox → Type 0
AreOf format parts = All (λ s. s.format ≡ format) parts

-- there is one sandbox at least, and no more than 32 bits can number, all of one format
pub record IsSource (parts : List Sandbox) : Type 0 where
  pub at_least_one : 1 ≤ length parts
  pub numbered : length parts ≤ 2 ^ 32
  pub each : All IsSandbox parts
  pub one_format : AreOf (format_of parts) parts
