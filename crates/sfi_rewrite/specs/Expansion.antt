-- The expansion of an item of the source, in the formats whose code is in bundles.
use Rattle.std.specs.Prelude.{ℕ, List, pos, sum_by, ◌||◌, ◌==◌, Bool, true, false, if◌then◌else◌, ◌&&◌, not, [], map, ◌≡◌, ◌≢◌, ◌⊎◌, IsTrue, ℤ, zero, ◌∷◌, ◌++◌, MatchBool}
use Rattle.std.specs.List.{flat_map}
use Rattle.rv_comp.specs.declared.form.Form16.TheVariants.{CAddi}
use Rattle.sfi_rewrite.specs.declared.slot.BundleSlot.{BundleSlot}
use Rattle.sfi_rewrite.specs.declared.slot.BundleSlot.TheVariants.{Short, Wide, Jump, Upper, Lower, Region}
use Rattle.rv_word.specs.declared.instr.Instr.{Instr}
use Rattle.rv_word.specs.declared.instr.Instr.TheVariants.{Op, OpImm, Load, Store, Branch, Jal, Jalr, Lui, Auipc, Fence, Ecall, Ebreak}
use Rattle.sfi_source.specs.declared.item.Body.{Body}
use Rattle.sfi_source.specs.declared.item.Body.TheVariants.{Plain, To, High, Low, Base}
use Rattle.sfi_formats.specs.declared.format.Format.{Format}
use Rattle.sfi_formats.specs.Formats.{has_words, has_stack, is_stack, is_reserved, code_register, offset_register, stack_pointer, scratch}
use Rattle.sfi_formats.specs.Formats as policy
use Rattle.rv_word.specs.Outlines.{writes_register}
use Rattle.sfi_pairs.specs.Pairs.{data_pair, code_pair}
use Rattle.rv_word.specs.declared.instr.ImmOp.TheVariants.{Addi}
use Rattle.rv_comp.specs.Table.{allowed, expansion}
use Rattle.rv_comp.specs.Fronts.{IsFirst}
use Rattle.rv_comp.specs.declared.form.Form16.{Form16}
use Rattle.sfi_source.specs.declared.item.Item.{Item}

-- ==== How many bytes slots take.

-- the bytes of one slot
abbrev pub slot_size : BundleSlot → ℕ
slot_size (Short f) = 2
slot_size _ = 4

-- the bytes of slots together
abbrev pub size_of : List BundleSlot → ℕ
size_of slots = sum_by slot_size slots

-- the slots of bundles, one bundle after another
abbrev pub slots_of : List (List BundleSlot) → List BundleSlot
slots_of bundles = flat_map (λ slots. slots) bundles

-- c.nop, which is c.addi of x0 and 0
abbrev pub c_nop : BundleSlot
c_nop = Short (CAddi 0 (pos 0))

-- ==== The registers that a source may not name.

-- of code in words, the data register in which the expansions make addresses
abbrev pub address_register : ℕ
address_register = 29

-- the register is reserved, or one that the format's expansions write
abbrev pub is_withheld : Format → ℕ → Bool
is_withheld f r =
    if has_words f then
    is_reserved r || (r == address_register) || (r == code_register) || (r == offset_register)
    else policy.is_withheld r

-- one of an instruction's register operands is withheld, also one that the instruction doesn't use
abbrev pub names_withheld : Format → Instr → Bool
names_withheld f (Op op rd rs1 rs2) = is_withheld f rd || is_withheld f rs1 || is_withheld f rs2
names_withheld f (OpImm op rd rs1 imm) = is_withheld f rd || is_withheld f rs1
names_withheld f (Load kind rd rs1 imm) = is_withheld f rd || is_withheld f rs1
names_withheld f (Store width rs1 rs2 imm) = is_withheld f rs1 || is_withheld f rs2
names_withheld f (Branch cond rs1 rs2 offset) = is_withheld f rs1 || is_withheld f rs2
names_withheld f (Jal rd offset) = is_withheld f rd
names_withheld f (Jalr rd rs1 imm) = is_withheld f rd || is_withheld f rs1
names_withheld f (Lui rd imm) = is_withheld f rd
names_withheld f (Auipc rd imm) = is_withheld f rd
names_withheld f (Fence imm rd rs1) = is_withheld f rd || is_withheld f rs1
names_withheld f Ecall = false
names_withheld f Ebreak = false

-- `names_withheld` for the body of an item
abbrev pub item_names_withheld : Format → Body → Bool
item_names_withheld f (Plain i) = names_withheld f i
item_names_withheld f (To i name) = names_withheld f i
item_names_withheld f (High rd name) = is_withheld f rd
item_names_withheld f (Low rd name) = is_withheld f rd
item_names_withheld f (Base rd name) = is_withheld f rd

-- the item is an ecall
abbrev pub is_ecall : Body → Bool
is_ecall (Plain Ecall) = true
is_ecall _ = false

-- ==== The stack pointer x2, of a format that has one: an access on it stands as it is, and what
-- writes it stands before the pair that puts it back into the data region.

-- ---- x2 in an instruction

-- the instruction is a load or store on x2
abbrev pub is_on_x2 : Instr → Bool
is_on_x2 (Load kind rd a imm) = a == stack_pointer
is_on_x2 (Store width a rs2 imm) = a == stack_pointer
is_on_x2 _ = false

-- x2 is written by an instruction that can't stand before the pair: a jump, or a load on another
-- register, which has its own pair
abbrev pub jumps_or_loads_x2 : Body → Bool
jumps_or_loads_x2 (Plain (Load kind rd a imm)) = (rd == stack_pointer) && not (a == stack_pointer)
jumps_or_loads_x2 (Plain (Jal rd offset)) = rd == stack_pointer
jumps_or_loads_x2 (Plain (Jalr rd a imm)) = rd == stack_pointer
jumps_or_loads_x2 (To (Jal rd offset) name) = rd == stack_pointer
jumps_or_loads_x2 _ = false

-- ---- the same tests, where x2 is a stack pointer

abbrev pub writes_stack : Format → Instr → Bool
writes_stack f i = has_stack f && writes_register stack_pointer i

abbrev pub is_on_stack : Format → Instr → Bool
is_on_stack f i = has_stack f && is_on_x2 i

abbrev pub is_stack_write : Format → Body → Bool
is_stack_write f x = has_stack f && jumps_or_loads_x2 x

-- ---- the pair

-- the pair by which x2 becomes an address of the data region again
abbrev pub stack_pair : List BundleSlot
stack_pair = map Wide (data_pair stack_pointer stack_pointer)

-- the pair, where there is something to put back
abbrev pub put_back : Bool → List BundleSlot
put_back false = []
put_back true = stack_pair

-- ==== The expansion of an item of the source: what stands in its place, so that its accesses and
-- jumps stay in the sandbox, and the stack pointer of a format that has one in its data region.

-- the pair by which x31 becomes an address of the data region, both instructions wide
abbrev pub data_pair_slots : ℕ → List BundleSlot
data_pair_slots a = map Wide (data_pair scratch a)

-- the pair by which x31 becomes a bundle start of the code region, both instructions wide
abbrev pub code_pair_slots : ℕ → List BundleSlot
code_pair_slots a = map Wide (code_pair scratch a)

-- `jalr rd, 0(x31)`
abbrev pub jump_to_x31 : ℕ → BundleSlot
jump_to_x31 rd = Wide (Jalr rd scratch (pos 0))

-- the slots of `jalr rd, imm(a)`; an offset other than 0 is added before the pair
abbrev pub jump_slots : ℕ → ℕ → ℤ → List BundleSlot
jump_slots rd a (pos zero) = code_pair_slots a ++ jump_to_x31 rd ∷ []
jump_slots rd a imm =
    Wide (OpImm Addi scratch a imm) ∷ (code_pair_slots scratch ++ jump_to_x31 rd ∷ [])

-- no 16-bit form expands to the instruction
abbrev pub HasNoForm : Instr → Type 0
HasNoForm i = (f : Form16) → IsTrue (allowed f) → expansion f ≢ i

-- an instruction that stays as it is: as the first 16-bit form that expands to it, where these are
-- asked for and there is one
abbrev pub IsAlone : Bool → Instr → List BundleSlot → Type 0
IsAlone false i slots = slots ≡ Wide i ∷ []
IsAlone true i slots =
    ((f : Form16) × IsFirst i f × (slots ≡ Short f ∷ [])) ⊎ (HasNoForm i × (slots ≡ Wide i ∷ []))

-- the expansion of an instruction that has nothing to do with a stack pointer
abbrev pub IsMasked : Bool → Instr → List BundleSlot → Type 0
IsMasked rvc (Load kind rd a imm) slots =
    slots ≡ data_pair_slots a ++ Wide (Load kind rd scratch imm) ∷ []
IsMasked rvc (Store width a rs2 imm) slots =
    slots ≡ data_pair_slots a ++ Wide (Store width scratch rs2 imm) ∷ []
IsMasked rvc (Jalr rd a imm) slots = slots ≡ jump_slots rd a imm
IsMasked rvc i slots = IsAlone rvc i slots

-- the expansion of any instruction: before the stack pair, if it writes the stack pointer; as it
-- is, if it is an access on that
abbrev pub IsPlainExpansion : Format → Bool → Instr → List BundleSlot → Type 0
IsPlainExpansion f rvc i slots =
    MatchBool (writes_stack f i) (slots ≡ Wide i ∷ stack_pair)
    (MatchBool (is_on_stack f i) (IsAlone rvc i slots) (IsMasked rvc i slots))

-- the expansion of the item on a line
abbrev pub IsExpansionOf : Format → ℕ → Bool → Body → List BundleSlot → Type 0
IsExpansionOf f line rvc (Plain i) slots = IsPlainExpansion f rvc i slots
IsExpansionOf f line rvc (To i name) slots = slots ≡ Jump i name line ∷ []
IsExpansionOf f line rvc (High rd name) slots =
    slots ≡ Upper rd name line ∷ put_back (is_stack f rd)
IsExpansionOf f line rvc (Low rd name) slots = slots ≡ Lower rd name line ∷ put_back (is_stack f rd)
IsExpansionOf f line rvc (Base rd name) slots =
    slots ≡ Region rd name line ∷ put_back (is_stack f rd)

-- the slots are the item's in this format, in order
abbrev pub IsExpansion : Format → Item → List BundleSlot → Type 0
IsExpansion f x slots = IsExpansionOf f x.line x.rvc x.body slots

-- the item is a call: a jalr, or a jal to a name, that writes a register other than x0;
-- no item is a jal by number
abbrev pub is_call : Body → Bool
is_call (Plain (Jalr rd a imm)) = not (rd == 0)
is_call (To (Jal rd offset) name) = not (rd == 0)
is_call _ = false
