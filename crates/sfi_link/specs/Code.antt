-- The bytes of what is placed: addresses for names, stubs, and code.
use Rattle.std.specs.Prelude.{ℕ, ◌+◌, ◌-◌, ◌*◌, ℤ, List, length, slice_get, Option, Some, None, pos, [], ◌∷◌, ◌++◌, if◌then◌else◌, ◌≡◌, ◌-ℤ◌, IsTrue, IfSome, ◌≤◌, ◌<◌, ◌^◌}
use Rattle.rv_word.specs.declared.instr.Instr.{Instr}
use Rattle.rv_word.specs.declared.instr.Instr.TheVariants.{Branch, Jal, Jalr, Ecall, Op, OpImm, Lui}
use Rattle.sfi_formats.specs.Limits.{bundle_size}
use Rattle.sfi_formats.specs.Places.{place_of}
use Rattle.sfi_formats.specs.declared.place.Place.{Place}
use Rattle.sfi_rewrite.specs.declared.placed.PlacedName.{PlacedName}
use Rattle.sfi_rewrite.specs.declared.placed.PlacedName.TheVariants.{Gate, Code, Data, Unknown}
use Rattle.sfi_rewrite.specs.Placement.{Placement}
use Rattle.sfi_link.specs.declared.bases.Bases.{Bases}
use Rattle.std.specs.List.{All, flat_map}
use Rattle.std.specs.Int.{w32, to_le_bytes, w16}
use Rattle.rv_word.specs.Spelling.{spelling, InRange}
use Rattle.sfi_formats.specs.declared.format.Format.{Format}
use Rattle.sfi_formats.specs.declared.format.Format.TheVariants.{Sfi2}
use Rattle.sfi_formats.specs.Formats.{built_code_most, has_words, code_base_register, data_base_register, code_register, return_register}
use Rattle.sfi_pairs.specs.Pairs.{code_pair, stub}
use Rattle.rv_word.specs.declared.instr.ImmOp.TheVariants.{Addi}
use Rattle.rv_word.specs.declared.instr.RegOp.TheVariants.{Add}
use Rattle.rv_comp.specs.Table.{allowed, expansion}
use Rattle.rv_comp.specs.Fronts.{halfword_of}
use Rattle.sfi_source.specs.Source.{upper, lower}
use Rattle.sfi_rewrite.specs.declared.slot.BundleSlot.{BundleSlot}
use Rattle.sfi_rewrite.specs.declared.slot.BundleSlot.TheVariants.{Wide, Short, Jump, Upper, Lower, Region}
use Rattle.sfi_rewrite.specs.Expansion.{slot_size}

-- ==== Addresses for names.

-- ---- where a sandbox lies

-- each gate's stub has 16 bytes, as many as a bundle
abbrev pub stub_size : ℕ
stub_size = bundle_size

-- where sandbox `number` lies: its code, the first byte after its gates' stubs, its data; and
-- whether it can be moved
abbrev pub bases_of : List Place → ℕ → Placement → Bases
bases_of given number p =
    let place = place_of given p.format number in
    record {
      code = place.code_base;
      start = place.code_base + stub_size * length p.gates;
      «data» = place.data_base;
      movable = p.movable;
    }

-- ---- names

-- the address for which a name stands: that of the gate's stub, of the place in the code, of the
-- byte of the data
abbrev pub address_of : Bases → PlacedName → Option ℕ
address_of at (Gate k) = Some (at.code + stub_size * k)
address_of at (Code place) = Some (at.start + place)
address_of at (Data offset) = Some (at.«data» + offset)
address_of at Unknown = None

-- the address to which a jump to a name leads: no jump leads to data
abbrev pub target_of : Bases → PlacedName → Option ℕ
target_of at (Gate k) = address_of at (Gate k)
target_of at (Code place) = address_of at (Code place)
target_of at (Data offset) = None
target_of at Unknown = None

-- an address of code of a sandbox that lies so: a distance between two of these fits
abbrev pub IsInCode : Bases → ℕ → Type 0
IsInCode at address = (at.code ≤ address) × (address ≤ at.code + built_code_most Sfi2)

-- the name's address has 32 bits, and a jump's is one of the code
pub record IsInReach (at : Bases) (name : PlacedName) : Type 0 where
  pub fits : IfSome (address_of at name) (λ a. a < 2 ^ 32)
  pub within : IfSome (target_of at name) (IsInCode at)

-- each of the names is
abbrev pub AreInReach : Bases → List PlacedName → Type 0
AreInReach at names = All (IsInReach at) names

-- what `f` gives for the name, if there is a name
abbrev pub of_name : (PlacedName → Option ℕ) → Option PlacedName → Option ℕ
of_name f None = None
of_name f (Some name) = f name

-- how far the name's address is from the base of its region, the code or the data
abbrev pub offset_of : Bases → PlacedName → Option ℕ
offset_of at (Gate k) = Some (stub_size * k)
offset_of at (Code place) = Some (at.start + place - at.code)
offset_of at (Data offset) = Some offset
offset_of at Unknown = None

-- the reserved register that holds the base of the region of what the name names
abbrev pub base_of : PlacedName → Option ℕ
base_of (Gate k) = Some code_base_register
base_of (Code place) = Some code_base_register
base_of (Data offset) = Some data_base_register
base_of Unknown = None

-- the address of what name `place` names
abbrev pub address_at : Bases → List PlacedName → ℕ → Option ℕ
address_at at names place = of_name (address_of at) (slice_get names place)

-- the number that the lui and the addi of `la` hold of name `place`: its address or, in a movable
-- sandbox, how far that is from its region's base
abbrev pub value_at : Bases → List PlacedName → ℕ → Option ℕ
value_at at names place =
    if at.movable then of_name (offset_of at) (slice_get names place)
    else address_at at names place

-- the register that holds the base of the region of what name `place` names
abbrev pub base_at : List PlacedName → ℕ → Option ℕ
base_at names place = of_name base_of (slice_get names place)

-- the address to which a jump to name `place` leads
abbrev pub target_at : Bases → List PlacedName → ℕ → Option ℕ
target_at at names place = of_name (target_of at) (slice_get names place)

-- ---- in instructions

-- the jal or branch with this offset; any other instruction stays as it is
abbrev pub with_offset : ℤ → Instr → Instr
with_offset z (Jal rd offset) = Jal rd z
with_offset z (Branch cond rs1 rs2 offset) = Branch cond rs1 rs2 z
with_offset z i = i

-- ==== A gate's stub: 16 bytes, those of code in bundles or those of code in words.

-- a gate's stub in code in words: it asks the host, and then goes by the code register to the
-- word's start that x1 leads to
abbrev pub word_gate_stub : List Instr
word_gate_stub =
    Ecall ∷ (code_pair code_register return_register ++ Jalr 0 code_register (pos 0) ∷ [])

-- its bytes
abbrev pub word_stub : List ℕ
word_stub = flat_map (λ i. to_le_bytes w32 (spelling i)) word_gate_stub

-- the bytes of a gate's stub in the format
unfoldable pub stub_of : Format → List ℕ
stub_of f = if has_words f then word_stub else stub

-- ==== The bytes of what is placed, once names have addresses.

-- the instruction that `f` makes of an address, if there is one
abbrev pub made_of : (ℕ → Instr) → Option ℕ → Option Instr
made_of f None = None
made_of f (Some address) = Some (f address)

-- the instruction of the slot that stands at `here`, if its name has an address: an address is
-- split as li splits a number
abbrev pub resolved : Bases → List PlacedName → ℕ → BundleSlot → Option Instr
resolved at names here (Wide i) = Some i
resolved at names here (Short f) = Some (expansion f)
resolved at names here (Jump i name line) =
    made_of (λ to. with_offset (pos to -ℤ pos here) i) (target_at at names name)
resolved at names here (Upper rd name line) =
    made_of (λ value. Lui rd (upper (pos value))) (value_at at names name)
resolved at names here (Lower rd name line) =
    made_of (λ value. OpImm Addi rd rd (lower (pos value))) (value_at at names name)
resolved at names here (Region rd name line) =
    made_of (λ base. Op Add rd rd base) (base_at names name)

-- the four bytes of a 32-bit instruction, the lowest first
abbrev IsWord : List ℕ → Instr → Type 0
IsWord bytes i = InRange i × (bytes ≡ to_le_bytes w32 (spelling i))

-- the bytes of the slot, whose instruction this is: a form's are those of its own row
abbrev pub AreSlotBytes : List ℕ → BundleSlot → Instr → Type 0
AreSlotBytes bytes (Short f) i = IsTrue (allowed f) × (bytes ≡ to_le_bytes w16 (halfword_of f))
AreSlotBytes bytes _ i = IsWord bytes i

-- the bytes of the slot that stands at `here`
pub record IsSlot (at : Bases) (names : List PlacedName) (here : ℕ) (s : BundleSlot)
    (bytes : List ℕ) : Type 0 where
  pub instr : Instr
  pub resolves : resolved at names here s ≡ Some instr
  pub spelled : AreSlotBytes bytes s instr

-- the bytes of slots that stand one after another, from `here` on
abbrev pub AreSlots : Bases → List PlacedName → ℕ → List BundleSlot → List ℕ → Type 0
AreSlots at names here [] bytes = bytes ≡ []
AreSlots at names here (s ∷ slots) bytes =
    (front : List ℕ) × (rest : List ℕ) × IsSlot at names here s front
    × AreSlots at names (here + slot_size s) slots rest × (bytes ≡ front ++ rest)
