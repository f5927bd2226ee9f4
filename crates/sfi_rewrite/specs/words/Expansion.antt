-- The expansion of an item in code in words, and how expansions stand in words.
use Rattle.std.specs.Prelude.{◌≡◌, ◌==◌, ◌&&◌, ◌||◌, not, ℕ, ℤ, pos, negsuc, List, [], ◌∷◌, ◌++◌, map, Bool, false, MatchBool, Option, Some, None, if◌then◌else◌}
use Rattle.rv_word.specs.declared.instr.ImmOp.TheVariants.{Addi}
use Rattle.rv_word.specs.declared.instr.RegOp.TheVariants.{Add, And, Or}
use Rattle.rv_word.specs.declared.instr.Instr.{Instr}
use Rattle.rv_word.specs.declared.instr.Instr.TheVariants.{Op, OpImm, Load, Store, Jal, Jalr}
use Rattle.rv_word.specs.Outlines.{destination}
use Rattle.sfi_formats.specs.declared.format.Format.{Format}
use Rattle.sfi_formats.specs.Formats.{data_base_register, data_mask_register, is_data_register, code_register, offset_register, has_single_mask}
use Rattle.sfi_source.specs.declared.item.Body.{Body}
use Rattle.sfi_source.specs.declared.item.Body.TheVariants.{Plain, To, High, Low, Base}
use Rattle.sfi_source.specs.declared.item.Item.{Item}
use Rattle.sfi_pairs.specs.Pairs.{code_pair, uses}
use Rattle.sfi_rewrite.specs.declared.slot.BundleSlot.{BundleSlot}
use Rattle.sfi_rewrite.specs.declared.slot.BundleSlot.TheVariants.{Wide, Jump, Upper, Lower, Region, Short}
use Rattle.sfi_rewrite.specs.Expansion.{address_register, IsAlone}
use Rattle.rv_comp.specs.Table.{expansion}

-- ==== The expansion of an item in code in words: each access is on a data register or on x26, each
-- indirect jump on x30, and what writes a data register stands before its mask, is the mask, or is
-- a step before its use.

-- `and x31, a, x27`; `or d, x31, x26`: d becomes the address of the data region with the offset of a.
-- Where masks are single it is `and d, a, x27`: d becomes a, if that lies in the data region.
abbrev pub data_mask : Format → ℕ → ℕ → List BundleSlot
data_mask f d a =
    if has_single_mask f then Wide (Op And d a data_mask_register) ∷ []
    else Wide (Op And offset_register a data_mask_register)
    ∷ Wide (Op Or d offset_register data_base_register) ∷ []

-- ---- a load, a store, an indirect jump

-- an access on a is made on x26: it is one on x0, and a masked 0 is the region's first address. (Where
-- masks are single, a masked 0 is 0, and an access there traps.)
abbrev pub is_made_on_x26 : Format → ℕ → Bool
is_made_on_x26 f a = (a == 0) && not (has_single_mask f)

-- the base on which an access on a is made: a data register itself; x26 for x0, where a masked 0 is the
-- region's first address; x29 for any other register
abbrev pub base_of : Format → ℕ → ℕ
base_of f a =
    if is_data_register a then a
    else if is_made_on_x26 f a then data_base_register else address_register

-- the mask by which x29 becomes the address of a, where an access on a is made on x29
abbrev pub makes_base : Format → ℕ → List BundleSlot
makes_base f a =
    if is_data_register a || is_made_on_x26 f a then [] else data_mask f address_register a

-- what stands before the instruction: before an access the mask of its base, if it has one; before an
-- indirect jump the pair by which x30 becomes a word's start in the code region
abbrev pub before : Format → Instr → List BundleSlot
before f (Load kind rd a imm) = makes_base f a
before f (Store width a rs2 imm) = makes_base f a
before f (Jalr rd a imm) = map Wide (code_pair code_register a)
before f i = []

-- the instruction, with its base or target replaced by the register on which it is confined; an
-- indirect jump has 32 bits
abbrev pub IsConfined : Format → Bool → Instr → List BundleSlot → Type 0
IsConfined f rvc (Load kind rd a imm) slots = IsAlone rvc (Load kind rd (base_of f a) imm) slots
IsConfined f rvc (Store width a rs2 imm) slots = IsAlone rvc (Store width (base_of f a) rs2 imm) slots
IsConfined f rvc (Jalr rd a imm) slots = slots ≡ Wide (Jalr rd code_register imm) ∷ []
IsConfined f rvc i slots = IsAlone rvc i slots

-- ---- a write of a data register

-- the mask of the register that is written, if it is a data register
abbrev pub mask_after : Format → Option ℕ → List BundleSlot
mask_after f None = []
mask_after f (Some d) = if is_data_register d then data_mask f d d else []

-- the first body is `addi d, d, k` of a data register, and the second a load or store on d as
-- `uses` says
abbrev pub is_step_to : Body → Body → Bool
is_step_to (Plain (OpImm Addi d a k)) (Plain i) = is_data_register d && (a == d) && uses d i
is_step_to x y = false

-- The item is a step of a data register that the first item of `later` uses: no label stands
-- between. (The rules call any `addi d, d, k` a step.)
abbrev pub is_step_before_use : Item → List Item → Bool
is_step_before_use x [] = false
is_step_before_use x (y ∷ later) = not y.labelled && is_step_to x.body y.body

-- what stands after an instruction, which is a step or not: the mask of what it writes, unless it is a step
abbrev pub after : Format → Bool → Instr → List BundleSlot
after f step i = if step then [] else mask_after f (destination i)

-- ---- a move to a data register

abbrev pub is_zero : ℤ → Bool
is_zero (pos n) = n == 0
is_zero (negsuc n) = false

-- `addi d, a, 0` or `add d, x0, rs2` of a data register d
abbrev pub is_move : Instr → Bool
is_move (OpImm Addi d a imm) = is_data_register d && is_zero imm
is_move (Op Add d rs1 rs2) = is_data_register d && (rs1 == 0)
is_move i = false

-- the mask of what is moved into d, which does alone what the move and the mask of d after it do
abbrev pub moved : Format → Instr → List BundleSlot
moved f (OpImm op d a imm) = data_mask f d a
moved f (Op op d rs1 rs2) = data_mask f d rs2
moved f i = []

-- ---- the whole expansion

-- the confined instruction, with what has to stand before it and after it
abbrev pub IsAround : Format → Bool → Bool → Instr → List BundleSlot → Type 0
IsAround f rvc step i slots =
    (confined : List BundleSlot) × IsConfined f rvc i confined
    × (slots ≡ before f i ++ (confined ++ after f step i))

-- the expansion of an instruction, which is a step or not
abbrev pub IsPlainExpansion : Format → Bool → Bool → Instr → List BundleSlot → Type 0
IsPlainExpansion f rvc step i slots =
    MatchBool (is_move i && not step) (slots ≡ moved f i) (IsAround f rvc step i slots)

-- the expansion of the item on a line
abbrev pub IsExpansionOf : Format → ℕ → Bool → Bool → Body → List BundleSlot → Type 0
IsExpansionOf f line rvc step (Plain i) slots = IsPlainExpansion f rvc step i slots
IsExpansionOf f line rvc step (To i name) slots = slots ≡ Jump i name line ∷ []
IsExpansionOf f line rvc step (High rd name) slots =
    slots ≡ Upper rd name line ∷ mask_after f (Some rd)
IsExpansionOf f line rvc step (Low rd name) slots =
    slots ≡ Lower rd name line ∷ mask_after f (Some rd)
IsExpansionOf f line rvc step (Base rd name) slots =
    slots ≡ Region rd name line ∷ mask_after f (Some rd)

-- the slots are the expansion of the item, where `later` comes after it
abbrev pub IsExpansion : Format → Item → List Item → List BundleSlot → Type 0
IsExpansion f x later slots =
    IsExpansionOf f x.line x.rvc (is_step_before_use x later) x.body slots

-- ---- what has no expansion

-- a jal or jalr that writes a data register, whose mask would never be reached; or a jalr with an
-- offset other than 0, which is no form of the expansion of an indirect jump
abbrev pub is_barred_jump : Body → Bool
is_barred_jump (Plain (Jal rd offset)) = is_data_register rd
is_barred_jump (Plain (Jalr rd a imm)) = is_data_register rd || not (is_zero imm)
is_barred_jump (To (Jal rd offset) name) = is_data_register rd
is_barred_jump x = false

-- ==== How expansions stand in words of 4 bytes.

-- a slot, and whether a label stands before it
abbrev pub Marked : Type 0
Marked = Bool × BundleSlot

-- a label before slots stands before the first of them
abbrev pub marked : Bool → List BundleSlot → List Marked
marked labelled [] = []
marked labelled (s ∷ slots) = (labelled, s) ∷ marked false slots

-- the expansions of items one after another, before other items
abbrev pub AreExpanded : Format → List Item → List Item → List Marked → Type 0
AreExpanded f [] later slots = slots ≡ []
AreExpanded f (x ∷ items) later slots =
    (expanded : List BundleSlot) × (rest : List Marked) × IsExpansion f x (items ++ later) expanded
    × (slots ≡ marked x.labelled expanded ++ rest) × AreExpanded f items later rest

-- a slot that has a word alone has 32 bits
abbrev pub alone : BundleSlot → BundleSlot
alone (Short f) = Wide (expansion f)
alone s = s

-- The slots in words: of 16-bit forms two share a word, unless a label stands before the second; any
-- other slot has a word alone. So each label is at a word's start, and no c.nop is needed.
abbrev pub in_words : List Marked → List BundleSlot
in_words [] = []
in_words ((labelled, Short f) ∷ (false, Short g) ∷ slots) = Short f ∷ Short g ∷ in_words slots
in_words ((labelled, s) ∷ slots) = alone s ∷ in_words slots

-- the slots of items, before other items
abbrev pub AreLaidBefore : Format → List Item → List Item → List BundleSlot → Type 0
AreLaidBefore f items later slots =
    (expanded : List Marked) × AreExpanded f items later expanded × (slots ≡ in_words expanded)

-- the slots of all the items
abbrev pub AreLaid : Format → List Item → List BundleSlot → Type 0
AreLaid f items slots = AreLaidBefore f items [] slots
