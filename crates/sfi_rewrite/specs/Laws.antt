-- What holds of every source.
use Rattle.std.specs.Prelude.{◌≡◌, ◌⊎◌, ◌*◌, ◌++◌, ◌<◌, ℕ, List, [], ◌∷◌, true, false, replicate}
use Rattle.rv_word.specs.declared.instr.RegOp.TheVariants.{Add}
use Rattle.rv_word.specs.declared.instr.Instr.{Instr}
use Rattle.rv_step.specs.Step.{result_of}
use Rattle.rv_step.specs.State.{State, IsState}
use Rattle.rv_step.specs.Rows.{further, LeadTo}
use Rattle.sfi_formats.specs.Formats.{stack_pointer, has_words, has_single_mask}
use Rattle.sfi_formats.specs.declared.format.Format.{Format}
use Rattle.sfi_formats.specs.declared.format.Format.TheVariants.{Sfi2, Sfiw}
use Rattle.sfi_image.specs.declared.span.Span.{Span}
use Rattle.sfi_image.specs.Spelling.{Holds}
use Rattle.sfi_image.specs.Parts.{IsMaskedBase}
use Rattle.sfi_source.specs.declared.item.Item.{Item}
use Rattle.sfi_source.specs.Source.{Sandbox, IsSource}
use Rattle.sfi_rewrite.specs.declared.slot.BundleSlot.{BundleSlot}
use Rattle.sfi_rewrite.specs.declared.fault.RewriteFault.{RewriteFault}
use Rattle.sfi_rewrite.specs.Expansion.{IsExpansion, size_of, slots_of, c_nop}
use Rattle.sfi_rewrite.specs.Placement.{Placement, IsPlacement, IsLabelAt}
use Rattle.sfi_rewrite.specs.Placed.{IsPlaced}
use Rattle.sfi_rewrite.specs.Rewriting.{IsPermitted, IsSourceFault, IsRewritten, AreRewritten}
use Rattle.sfi_rewrite.specs.words.Expansion as words
use Rattle.sfi_rewrite.specs.words.Transparency as words_transparency
use Rattle.sfi_rewrite.specs.words.Transparency.{masked_in}
use Rattle.sfi_rewrite.specs.words.Samples as words_samples
use Rattle.sfi_rewrite.specs.Standing.{StandTransparent}
use Rattle.sfi_rewrite.specs.Transparency.{AreRegions, MayBe, ActsAs, SlotsStand, StandsTransparent}
use Rattle.sfi_rewrite.specs.Samples.{MeetsTransparent, MeetsInside, MeetsOutside, MeetsStop, sample_load, sample_jump, sample_push, sample_upper, sample_pop}

-- an item has at most one expansion by the rows of bundles, in each format
abbrev pub OneExpansion : Type 0
OneExpansion = (f : Format) (x : Item) (slots others : List BundleSlot) → IsExpansion f x slots
    → IsExpansion f x others → slots ≡ others

-- in words an item has at most one expansion before the items after it
abbrev pub OneWordExpansion : Type 0
OneWordExpansion = (f : Format) (x : Item) (later : List Item) (slots others : List BundleSlot)
    → words.IsExpansion f x later slots → words.IsExpansion f x later others → slots ≡ others

-- a sandbox has at most one placement
abbrev pub OnePlacement : Type 0
OnePlacement = (s : Sandbox) (p q : Placement) → IsPlacement s p → IsPlacement s q → p ≡ q

-- a source is rewritten in one way
abbrev pub OneRewriting : Type 0
OneRewriting =
    (source : List Sandbox) (placed others : List Placement)
    → AreRewritten source placed → AreRewritten source others → placed ≡ others

-- a source has at most one fault
abbrev pub OneFault : Type 0
OneFault = (source : List Sandbox) (f g : RewriteFault) → IsSourceFault source f
    → IsSourceFault source g → f ≡ g

-- a source with a fault isn't rewritten
abbrev pub NeverBoth : Type 0
NeverBoth = (source : List Sandbox) (placed : List Placement) (f : RewriteFault)
    → AreRewritten source placed → IsSourceFault source f → ⊥

-- each source is rewritten or has a fault
abbrev pub SomeRewriting : Type 0
SomeRewriting = (source : List Sandbox) → ((placed : List Placement) × AreRewritten source placed)
    ⊎ ((f : RewriteFault) × IsSourceFault source f)

-- what a source is rewritten to keeps what the type of what is placed keeps
abbrev pub RewrittenIsPlaced : Type 0
RewrittenIsPlaced = (source : List Sandbox) (placed : List Placement) → IsSource source
    → AreRewritten source placed → IsPlaced placed

-- the expansion of a permitted item, by the rows of bundles, acts as the item's instruction
abbrev pub ExpansionsAreTransparent : Type 0
ExpansionsAreTransparent =
    (f : Format) (x : Item) (i : Instr) (slots : List BundleSlot) → MayBe x.body i → IsPermitted f x
    → IsExpansion f x slots → ActsAs f i slots

-- in words the expansion of a permitted item acts as the item's instruction
abbrev pub WordExpansionsAreTransparent : Type 0
WordExpansionsAreTransparent =
    (f : Format) (x : Item) (later : List Item) (i : Instr) (slots : List BundleSlot)
    → has_words f ≡ true → MayBe x.body i → IsPermitted f x → words.IsExpansion f x later slots
    → words_transparency.ActsAs f (words.is_step_before_use x later) i slots

-- What lies in the data region masks to itself. Where a mask has two steps, the mask of a sum is that of
-- the masked number and the rest: so the halves of an address, each with its mask, leave what the whole
-- masks to. Where it has one, what lies below the data's size masks to itself, too: so do the parts of a
-- distance from the base.
abbrev pub MasksCompose : Type 0
MasksCompose = (f : Format) (code_at data_at : Span) (v w : ℕ) → AreRegions code_at data_at
    → IsMaskedBase f data_at.base data_at.size
    → (Holds data_at v → masked_in f data_at v ≡ v)
    × (has_single_mask f ≡ false → masked_in f data_at (result_of Add (masked_in f data_at v) w)
    ≡ masked_in f data_at (result_of Add v w))
    × (has_single_mask f ≡ true → v < data_at.size → masked_in f data_at v ≡ v)

-- each item of a source stands transparent in what is placed
abbrev pub RewrittenIsTransparent : Type 0
RewrittenIsTransparent = (s : Sandbox) (p : Placement) → IsRewritten s p → StandTransparent s p

-- What transparency asks can be met: in some state the expansion of a load stands, and the load
-- keeps to its sandbox and is done; in some state the same is so of an indirect jump; in some state
-- that of a write of the stack pointer stands, and the write leaves it in the data region; in others
-- a write leaves it outside, and a load into it isn't done.
abbrev pub TransparencyCanBeMet : Type 0
TransparencyCanBeMet = MeetsTransparent Sfi2 sample_load × MeetsTransparent Sfi2 sample_jump
    × MeetsInside Sfi2 sample_push × MeetsOutside Sfi2 sample_upper × MeetsStop Sfi2 sample_pop

-- In words, too: in some state the expansion of a load stands, where masks have two steps also of one on x0,
-- and the load keeps to its sandbox and is done; the same is so of an indirect jump and of a step. In some
-- state that of a write of a data register stands, also of a move to it, and the write leaves it in the data
-- region; in others a write leaves it outside, and a load into it isn't done.
abbrev pub WordTransparencyCanBeMet : Type 0
WordTransparencyCanBeMet =
    words_samples.MeetsTransparent Sfiw words_samples.sample_low
    × ((f : Format) → has_words f ≡ true
    → words_samples.MeetsTransparent f sample_load
    × words_samples.MeetsTransparent f sample_jump
    × words_samples.MeetsStep f words_samples.sample_step (words_samples.sample_use ∷ []) sample_push
    × words_samples.MeetsInside f stack_pointer sample_push
    × words_samples.MeetsInside f stack_pointer words_samples.sample_move
    × words_samples.MeetsOutside f stack_pointer sample_upper
    × words_samples.MeetsStop f stack_pointer sample_pop)

-- In bundles a jump to the label before an item comes to the item. What is placed has, at the place that
-- the label names, some c.nops and then the item's expansion; and from where these stand the c.nops
-- lead to the expansion, with the same registers and memory. (In words the label names the place where the
-- expansion begins: `at_label`.)
abbrev pub LabelsLeadToItems : Type 0
LabelsLeadToItems =
    (f : Format) (items : List Item) (p : Placement) (k : ℕ) (x : Item) (place : ℕ)
    → x.labelled ≡ true → IsLabelAt false f items k place
    → (stands : StandsTransparent f items p k x) → (front : List BundleSlot) × (n : ℕ)
    × (size_of front ≡ place)
    × (slots_of p.bundles ≡ front ++ (replicate n c_nop ++ (stands.expanded ++ stands.after)))
    × ((i : Instr) (s : State) → IsState s → SlotsStand i s (replicate n c_nop ++ stands.expanded)
    → LeadTo n s (further s (2 * n)) × SlotsStand i (further s (2 * n)) stands.expanded)
