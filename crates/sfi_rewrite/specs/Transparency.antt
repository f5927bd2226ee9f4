-- What an expansion does: within its sandbox it does what its instruction does, x31 aside; a stack
-- pointer that the instruction writes has the address of the data region that its value masks to.
use Rattle.std.specs.Prelude.{◌≡◌, ◌≢◌, ◌⊎◌, ◌+◌, ◌%◌, ◌==◌, ◌++◌, ℕ, ℤ, Bool, false, MatchBool, List, [], ◌∷◌, length, take, replicate}
use Rattle.rv_word.specs.Spelling.{offset_by}
use Rattle.rv_word.specs.declared.instr.Instr.{Instr}
use Rattle.rv_word.specs.declared.instr.ImmOp.TheVariants.{Addi}
use Rattle.rv_word.specs.declared.instr.RegOp.TheVariants.{Add}
use Rattle.rv_word.specs.declared.instr.Instr.TheVariants.{Op, OpImm, Load, Store, Branch, Jal, Jalr, Lui}
use Rattle.rv_comp.specs.Table.{expansion}
use Rattle.sfi_formats.specs.declared.format.Format.{Format}
use Rattle.sfi_formats.specs.declared.format.Format.TheVariants.{Sfi1}
use Rattle.rv_mem.specs.Bytes.{address_after}
use Rattle.rv_step.specs.declared.outcome.Outcome.TheVariants.{Next}
use Rattle.rv_step.specs.State.{Hart, State, IsState, register, with_register, with_pc}
use Rattle.rv_step.specs.Step.{Stepped, Stands, effect, IsStep}
use Rattle.rv_step.specs.Rows.{further, LeadTo}
use Rattle.sfi_source.specs.declared.item.Body.{Body}
use Rattle.sfi_source.specs.declared.item.Body.TheVariants.{Plain, To, High, Low, Base}
use Rattle.sfi_source.specs.declared.item.Item.{Item}
use Rattle.sfi_formats.specs.Formats.{code_base_register, data_base_register, scratch, stack_pointer}
use Rattle.sfi_image.specs.declared.span.Span.{Span}
use Rattle.sfi_image.specs.Spelling.{Holds}
use Rattle.sfi_image.specs.Parts.{IsCodeRegion, IsDataRegion, IsMaskedBase, IsBundleStart, reserved_for, HasReserved}
use Rattle.sfi_rewrite.specs.declared.slot.BundleSlot.{BundleSlot}
use Rattle.sfi_rewrite.specs.declared.slot.BundleSlot.TheVariants.{Wide, Short}
use Rattle.sfi_rewrite.specs.Expansion.{writes_stack, slot_size, size_of, slots_of, c_nop}
use Rattle.sfi_rewrite.specs.Placement.{IsNext, AreLaid, Placement}

-- ---- the sandbox

-- a sandbox's code, in some format, may lie in the first span, and its data in the second
pub record AreRegions (code_at data_at : Span) : Type 0 where
  pub format : Format
  pub code_placed : IsCodeRegion format code_at.base code_at.size
  pub data_placed : IsDataRegion format data_at.base data_at.size

-- The instruction keeps to the sandbox: a load's or store's base register lies in the data region,
-- whatever its offset adds, and a jalr goes to a bundle start of the code region. Of any other
-- instruction nothing is asked.
abbrev pub KeepsTo : Span → Span → Hart → Instr → Type 0
KeepsTo code_at data_at h (Load kind rd a imm) = Holds data_at (register h a)
KeepsTo code_at data_at h (Store width a rs2 imm) = Holds data_at (register h a)
KeepsTo code_at data_at h (Jalr rd a imm) = IsBundleStart code_at (offset_by (register h a) imm)
KeepsTo code_at data_at h _ = Unit {0}

-- the address of the data region with the offset of v
abbrev pub masked : Span → ℕ → ℕ
masked data_at v = data_at.base + v % data_at.size

-- ---- which slots stand at pc

-- the bytes at pc are the slot's: a slot that waits for a name's address has become i
abbrev pub SlotStands : Instr → State → BundleSlot → Type 0
SlotStands i s (Wide j) = Stands s j 4
SlotStands i s (Short f) = Stands s (expansion f) 2
SlotStands i s _ = Stands s i 4

-- the slots stand one after another from pc on, wherever that is
abbrev pub SlotsStand : Instr → State → List BundleSlot → Type 0
SlotsStand i s [] = Unit {0}
SlotsStand i s (x ∷ slots) = SlotStands i s x × SlotsStand i (further s (slot_size x)) slots

-- ---- what slots do

-- x31, the expansions' own register in bundles
abbrev pub is_scratch : ℕ → Bool
is_scratch r = r == scratch

-- the steps came to the same, the expansions' own registers aside: one outcome, with one cause and
-- one address, one pc, one memory
pub record IsSameAside (is_own : ℕ → Bool) (r q : Stepped) : Type 0 where
  pub outcome : r.outcome ≡ q.outcome
  pub pc : r.state.hart.pc ≡ q.state.hart.pc
  pub registers : (x : ℕ) → is_own x ≡ false → register r.state.hart x ≡ register q.state.hart x
  pub memory : r.state.memory ≡ q.state.memory

-- From this state the steps of the slots before the last are done, and lead to the last one's
-- place. The step there comes to what the line of i does, if i stood there with the last one's
-- length, on the registers and the memory of this state, the expansions' own registers aside.
pub record DoesAs (is_own : ℕ → Bool) (s : State) (i : Instr) (before : List BundleSlot)
    (last : BundleSlot) : Type 0 where
  pub there : State
  pub leads : LeadTo (length before) s there
  pub place : there.hart.pc ≡ address_after s.hart.pc (size_of before)
  pub result : Stepped
  pub step : IsStep there result
  pub same : IsSameAside is_own result (effect i (slot_size last) (with_pc s.hart there.hart.pc) s.memory)

-- What is asked wherever slots stand for i, in code of this format: regions of a sandbox, with a base
-- such as its masks need, a state of the machine, the reserved registers, and the slots from pc on.
pub record IsAskedOf (f : Format) (i : Instr) (slots : List BundleSlot) (code_at data_at : Span)
    (s : State) : Type 0 where
  pub regions : AreRegions code_at data_at
  pub masked_base : IsMaskedBase f data_at.base data_at.size
  pub is_state : IsState s
  pub reserved : HasReserved f (reserved_for f code_at data_at) s.hart.registers
  pub stand : SlotsStand i s slots

-- The slots are transparent to the instruction: wherever they stand, from any state in which the
-- instruction keeps to its sandbox, they do as it does. (The reserved registers hold the same in each format
-- of bundles: those of the first are asked.)
pub record IsTransparent (i : Instr) (slots : List BundleSlot) : Type 0 where
  pub before : List BundleSlot
  pub last : BundleSlot
  pub slots_are : slots ≡ before ++ last ∷ []
  pub does : (code_at data_at : Span) (s : State) → IsAskedOf Sfi1 i slots code_at data_at s
      → KeepsTo code_at data_at s.hart i → DoesAs is_scratch s i before last

-- ---- before the pair that puts the stack pointer back

-- what the line of i does in the state, where i has 4 bytes
abbrev pub effect_in : State → Instr → Stepped
effect_in s i = effect i 4 s.hart s.memory

-- The state at this pc with the stack pointer put back: it has the address of the data region with
-- the offset of what it had, which is that itself if it lies in the region.
abbrev pub put_back_at : Span → State → ℕ → State
put_back_at data_at s pc =
    record {
      hart =
          with_register (with_pc s.hart pc) stack_pointer (masked data_at (register s.hart stack_pointer));
      memory = s.memory;
    }

-- The slots keep what i leaves: wherever they stand, from any state in which the line of i, there, is
-- done, each of their steps is done, and they leave the registers and the memory that i leaves, but
-- for the stack pointer, which is put back, and the pc, which is after all of them. Where it isn't
-- done, their first step stops as it does.
pub record KeepsStack (i : Instr) (slots : List BundleSlot) : Type 0 where
  pub does :
      (code_at data_at : Span) (s : State) → IsAskedOf Sfi1 i slots code_at data_at s
      → (effect_in s i).outcome ≡ Next
      → LeadTo (length slots) s
      (put_back_at data_at (effect_in s i).state (address_after s.hart.pc (size_of slots)))
  pub stops :
      (code_at data_at : Span) (s : State) → IsAskedOf Sfi1 i slots code_at data_at s
      → (effect_in s i).outcome ≢ Next → IsStep s (effect_in s i)

-- what an expansion of the format is to its instruction
abbrev pub ActsAs : Format → Instr → List BundleSlot → Type 0
ActsAs f i slots = MatchBool (writes_stack f i) (KeepsStack i slots) (IsTransparent i slots)

-- ---- an item

-- `i` is the given jal or branch with any offset: no other instruction goes to a name
abbrev pub IsAimed : Instr → Instr → Type 0
IsAimed (Jal rd offset) i = (z : ℤ) × (i ≡ Jal rd z)
IsAimed (Branch cond rs1 rs2 offset) i = (z : ℤ) × (i ≡ Branch cond rs1 rs2 z)
IsAimed _ i = ⊥

-- the item is this instruction, for some address of its name
abbrev pub MayBe : Body → Instr → Type 0
MayBe (Plain j) i = i ≡ j
MayBe (To j name) i = IsAimed j i
MayBe (High rd name) i = (imm : ℕ) × (i ≡ Lui rd imm)
MayBe (Low rd name) i = (imm : ℤ) × (i ≡ OpImm Addi rd rd imm)
MayBe (Base rd name) i =
    (i ≡ Op Add rd rd data_base_register) ⊎ (i ≡ Op Add rd rd code_base_register)

-- ---- what is placed

-- the expansion of item k in its place among the placed bundles,
-- which acts as whatever the item may be
pub record StandsTransparent (f : Format) (items : List Item) (p : Placement) (k : ℕ)
    (x : Item) : Type 0 where
  pub before : List BundleSlot
  pub laid : AreLaid f (take k items) before
  pub nops : ℕ
  pub expanded : List BundleSlot
  pub next : IsNext f (size_of before) x nops expanded
  pub after : List BundleSlot
  pub placed : slots_of p.bundles ≡ before ++ (replicate nops c_nop ++ (expanded ++ after))
  pub transparent : (i : Instr) → MayBe x.body i → ActsAs f i expanded
