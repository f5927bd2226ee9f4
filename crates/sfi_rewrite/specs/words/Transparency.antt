-- What an expansion in words does: within its sandbox it does what its instruction does, the three
-- registers aside that the expansions write; a data register that the instruction writes has the
-- address that its value masks to, but for a step, which leaves there what its
-- instruction does.
use Rattle.std.specs.Prelude.{◌≡◌, ◌≢◌, ◌+◌, ◌==◌, ◌||◌, ◌++◌, ℕ, Bool, true, false, MatchBool, List, [], ◌∷◌, length, map, take, drop, Some, Option, None, not, ◌&&◌, ◌⊎◌, if◌then◌else◌, bit_and}
use Rattle.std.specs.List.{AllZip}
use Rattle.rv_word.specs.Spelling.{offset_by}
use Rattle.rv_word.specs.declared.instr.Instr.{Instr}
use Rattle.rv_word.specs.declared.instr.Instr.TheVariants.{Load, Store, Jalr}
use Rattle.rv_word.specs.Outlines.{destination}
use Rattle.rv_mem.specs.Bytes.{address_after}
use Rattle.rv_step.specs.declared.outcome.Outcome.TheVariants.{Next}
use Rattle.rv_step.specs.State.{Hart, State, register}
use Rattle.rv_step.specs.Step.{Stepped, effect}
use Rattle.rv_step.specs.Rows.{LeadTo}
use Rattle.sfi_source.specs.declared.item.Item.{Item}
use Rattle.sfi_formats.specs.Formats.{data_base_register, is_data_register, code_register, offset_register, has_single_mask}
use Rattle.sfi_formats.specs.declared.format.Format.{Format}
use Rattle.sfi_image.specs.declared.span.Span.{Span}
use Rattle.sfi_image.specs.Spelling.{Holds}
use Rattle.sfi_image.specs.Parts.{IsWordStart, data_mask_of}
use Rattle.sfi_rewrite.specs.declared.slot.BundleSlot.{BundleSlot}
use Rattle.sfi_rewrite.specs.Expansion.{address_register, size_of, slots_of}
use Rattle.sfi_rewrite.specs.Placement.{Placement}
use Rattle.sfi_rewrite.specs.Transparency.{masked, DoesAs, IsAskedOf, MayBe}
use Rattle.sfi_rewrite.specs.words.Expansion.{IsExpansion, is_step_before_use, is_made_on_x26, Marked, alone, AreExpanded, AreLaidBefore}

-- ---- the sandbox

-- the expansions write the register, and no source names it
abbrev pub is_own : ℕ → Bool
is_own r = (r == address_register) || (r == code_register) || (r == offset_register)

-- the base of an access lies in the data region; of an access on a data register or on x0 nothing
-- is asked
abbrev pub IsBased : Span → Hart → ℕ → Type 0
IsBased data_at h a =
    MatchBool (is_data_register a || (a == 0)) (Unit {0}) (Holds data_at (register h a))

-- The instruction keeps to the sandbox: the base of a load or store, other than a data register and
-- x0, lies in the data region, whatever the offset adds, and a jalr goes to a word's start. Of any
-- other instruction nothing is asked.
abbrev pub KeepsTo : Span → Span → Hart → Instr → Type 0
KeepsTo code_at data_at h (Load kind rd a imm) = IsBased data_at h a
KeepsTo code_at data_at h (Store width a rs2 imm) = IsBased data_at h a
KeepsTo code_at data_at h (Jalr rd a imm) = IsWordStart code_at (offset_by (register h a) imm)
KeepsTo code_at data_at h i = Unit {0}

-- the base that is meant: x26 for x0, since no image's data region holds 0, where a masked 0 is the
-- region's first address
abbrev pub meant_base : Format → ℕ → ℕ
meant_base f a = if is_made_on_x26 f a then data_base_register else a

-- What the instruction means in a sandbox: an access on x0 is one on x26, any other is itself. (Where
-- masks are single each is itself.)
abbrev pub meant : Format → Instr → Instr
meant f (Load kind rd a imm) = Load kind rd (meant_base f a) imm
meant f (Store width a rs2 imm) = Store width (meant_base f a) rs2 imm
meant f i = i

-- ---- what slots do

-- The address that v masks to: that of the data region with the offset of v. Where masks are single:
-- what v has in common with the mask, so v itself where that lies in the data region, or below its size.
abbrev pub masked_in : Format → Span → ℕ → ℕ
masked_in f data_at v =
    if has_single_mask f then bit_and v (data_mask_of f data_at) else masked data_at v

-- what the instruction, as it is meant, does in the state, where it has 4 bytes
abbrev pub effect_in : Format → State → Instr → Stepped
effect_in f s i = effect (meant f i) 4 s.hart s.memory

-- wherever the slots stand, the steps of all but the last are done, and that of the last comes to what
-- i, as it is meant, does, x29 to x31 aside
pub record IsTransparent (f : Format) (i : Instr) (slots : List BundleSlot) : Type 0 where
  pub before : List BundleSlot
  pub last : BundleSlot
  pub slots_are : slots ≡ before ++ last ∷ []
  pub does : (code_at data_at : Span) (s : State) → IsAskedOf f i slots code_at data_at s
      → KeepsTo code_at data_at s.hart i → DoesAs is_own s (meant f i) before last

-- The state after all the slots, where an instruction that writes d leaves that of q: pc is `end`;
-- d has the address that its value in q masks to, which is that value if it lies in the data region;
-- each other register but x29 to x31, and the memory, are as in q.
pub record IsLeft (f : Format) (data_at : Span) (d : ℕ) (q : Stepped) (end : ℕ) (t : State) : Type 0 where
  pub pc : t.hart.pc ≡ end
  pub value : register t.hart d ≡ masked_in f data_at (register q.state.hart d)
  pub others : (x : ℕ) → is_own x ≡ false → x ≢ d → register t.hart x ≡ register q.state.hart x
  pub memory : t.memory ≡ q.state.memory

-- From this state the slots stop as i does: the steps of those before one of them are done, and the
-- step there comes to what i, as it is meant, does.
pub record StopAs (f : Format) (s : State) (i : Instr) (slots : List BundleSlot) : Type 0 where
  pub before : List BundleSlot
  pub last : BundleSlot
  pub rest : List BundleSlot
  pub slots_are : slots ≡ before ++ last ∷ rest
  pub does : DoesAs is_own s (meant f i) before last

-- The slots keep what i leaves: wherever they stand, from any state in which i, as it is meant, is
-- done, each of their steps is done, and they leave what it leaves, x29 to x31 aside, but for its
-- data register d, which is masked, and the pc, which is after all of them. Where it isn't done,
-- they stop as it does.
pub record KeepsData (f : Format) (d : ℕ) (i : Instr) (slots : List BundleSlot) : Type 0 where
  pub does :
      (code_at data_at : Span) (s : State) → IsAskedOf f i slots code_at data_at s
      → KeepsTo code_at data_at s.hart i → (effect_in f s i).outcome ≡ Next
      → (t : State) × LeadTo (length slots) s t
      × IsLeft f data_at d (effect_in f s i) (address_after s.hart.pc (size_of slots)) t
  pub stops :
      (code_at data_at : Span) (s : State) → IsAskedOf f i slots code_at data_at s
      → KeepsTo code_at data_at s.hart i → (effect_in f s i).outcome ≢ Next → StopAs f s i slots

-- what the slots are to i, whose destination is given: where i writes a data register and is no
-- step, they keep what it leaves, masked; else they are transparent to it
abbrev pub ActsBy : Format → Option ℕ → Bool → Instr → List BundleSlot → Type 0
ActsBy f None step i slots = IsTransparent f i slots
ActsBy f (Some d) step i slots =
    MatchBool (is_data_register d && not step) (KeepsData f d i slots) (IsTransparent f i slots)

abbrev pub ActsAs : Format → Bool → Instr → List BundleSlot → Type 0
ActsAs f step i slots = ActsBy f (destination i) step i slots

-- ---- what is placed

-- `laid` is s, or s in 32 bits
abbrev pub IsAsLaid : BundleSlot → BundleSlot → Type 0
IsAsLaid s laid = (laid ≡ s) ⊎ (laid ≡ alone s)

-- each laid slot is the one of `slots` at its place, or that in 32 bits
abbrev pub AreAsLaid : List BundleSlot → List BundleSlot → Type 0
AreAsLaid slots laid = AllZip IsAsLaid slots laid

-- the expansion of item k in its place, after those of the items before it, some 16-bit forms in
-- 32 bits, which acts as whatever the item may be; after a label it stands where the label names
pub record StandsTransparent (f : Format) (items : List Item) (p : Placement) (k : ℕ)
    (x : Item) : Type 0 where
  pub before : List BundleSlot
  pub own : List BundleSlot
  pub after : List BundleSlot
  pub placed : slots_of p.bundles ≡ before ++ (own ++ after)
  pub earlier : List Marked
  pub are_earlier : AreExpanded f (take k items) (drop k items) earlier
  pub stand_earlier : AreAsLaid (map (λ m. m.1) earlier) before
  pub at_label : x.labelled ≡ true → AreLaidBefore f (take k items) (drop k items) before
  pub expanded : List BundleSlot
  pub is_expansion : IsExpansion f x (drop (k + 1) items) expanded
  pub stands : AreAsLaid expanded own
  pub transparent : (i : Instr) → MayBe x.body i → ActsAs f (is_step_before_use x (drop (k + 1) items)) i own
