-- What the linker writes stands for what was placed, in a machine: so each item of a source does in
-- the image what its instruction does.
use Rattle.std.specs.Prelude.{◌≡◌, ℕ, ◌+◌, ◌*◌, List, [], ◌∷◌, MatchBool, length, slice_get, Some}
use Rattle.rv_word.specs.declared.instr.Instr.{Instr}
use Rattle.sfi_formats.specs.declared.format.Format.{Format}
use Rattle.rv_mem.specs.Laws.{Holds}
use Rattle.rv_step.specs.State.{State}
use Rattle.sfi_source.specs.declared.item.Item.{Item}
use Rattle.sfi_source.specs.Source.{Sandbox, IsSandbox, IsSource}
use Rattle.sfi_image.specs.Spelling.{Part, code_region, data_region}
use Rattle.sfi_image.specs.Parts.{IsImage, IsMaskedBase}
use Rattle.sfi_formats.specs.declared.place.Place.{Place}
use Rattle.sfi_rewrite.specs.declared.slot.BundleSlot.{BundleSlot}
use Rattle.sfi_rewrite.specs.declared.slot.BundleSlot.TheVariants.{Wide, Short}
use Rattle.sfi_rewrite.specs.declared.placed.PlacedName.{PlacedName}
use Rattle.sfi_rewrite.specs.Expansion.{slot_size, size_of}
use Rattle.sfi_rewrite.specs.Placement.{Placement, IsPlacement}
use Rattle.sfi_rewrite.specs.Placed.{IsPlacedPart}
use Rattle.sfi_rewrite.specs.Rewriting.{IsRewritten, AreRewritten}
use Rattle.sfi_rewrite.specs.Transparency.{AreRegions, SlotsStand, MayBe, StandsTransparent}
use Rattle.sfi_formats.specs.Formats.{has_words}
use Rattle.sfi_rewrite.specs.words.Transparency as words
use Rattle.sfi_link.specs.declared.bases.Bases.{Bases}
use Rattle.sfi_link.specs.Code.{bases_of, resolved}
use Rattle.sfi_link.specs.Linked.{IsLinked, IsLinkedImage}

-- the slot at `here` becomes i, if it waits for a name
abbrev pub IsResolvedTo : Bases → List PlacedName → ℕ → Instr → BundleSlot → Type 0
IsResolvedTo at names here i (Wide j) = Unit {0}
IsResolvedTo at names here i (Short f) = Unit {0}
IsResolvedTo at names here i s = resolved at names here s ≡ Some i

-- each of these slots, which stand one after another from `here` on, is resolved to the instruction
abbrev pub AreResolvedTo : Bases → List PlacedName → ℕ → Instr → List BundleSlot → Type 0
AreResolvedTo at names here i [] = Unit {0}
AreResolvedTo at names here i (x ∷ slots) =
    IsResolvedTo at names here i x × AreResolvedTo at names (here + slot_size x) i slots

-- ---- the source in the image

-- Slots at byte `offset` of a sandbox's code after its gates' stubs are in the image an instruction that
-- the item may be, with what `resolved` gives for its name, if it has one: wherever a memory holds the
-- code of q and pc is at their place, they stand for `instr`; the regions of q are such as transparency
-- asks for.
pub record RunsAt (given : List Place) (number : ℕ) (p : Placement) (q : Part) (x : Item)
    (slots : List BundleSlot) (offset : ℕ) : Type 0 where
  pub instr : Instr
  pub may_be : MayBe x.body instr
  pub resolves : AreResolvedTo (bases_of given number p) p.names (q.start + offset) instr slots
  pub regions : AreRegions (code_region q) (data_region q)
  pub masked_base : IsMaskedBase q.format q.data_base q.data_size
  pub stands : (s : State) → Holds s.memory q.code_base (length q.code) q.code
      → s.hart.pc ≡ q.start + offset → SlotsStand instr s slots

-- Where code is in bundles, item k's expansion runs so, and it acts as the item's instruction
-- (`transparent`): it stands after those of the items before it and its c.nops.
abbrev pub RunsAs : List Place → ℕ → Format → List Item → Placement → Part → ℕ → Item → Type 0
RunsAs given number f items p q k x = (st : StandsTransparent f items p k x)
    × RunsAt given number p q x st.expanded (size_of st.before + 2 * st.nops)

-- The item runs as its instruction, where code is in words: its slots, as laid, stand directly after
-- those of the items before it.
abbrev pub WordRunsAs : List Place → ℕ → Format → List Item → Placement → Part → ℕ → Item → Type 0
WordRunsAs given number f items p q k x = (st : words.StandsTransparent f items p k x)
    × RunsAt given number p q x st.own (size_of st.before)

-- item k runs as its format has it: `RunsAs` or `WordRunsAs`
abbrev pub RunsAsIn : List Place → ℕ → Format → List Item → Placement → Part → ℕ → Item → Type 0
RunsAsIn given number f items p q k x = MatchBool (has_words f)
    (WordRunsAs given number f items p q k x)
    (RunsAs given number f items p q k x)

-- each item of a source's sandbox runs so in what is linked of it
abbrev pub LinkedRunsAs : Type 0
LinkedRunsAs =
    (given : List Place) (number : ℕ) (s : Sandbox) (p : Placement) (q : Part) (k : ℕ) (x : Item)
    → IsSandbox s → IsRewritten s p → IsPlacedPart p → IsLinked given number p q
    → slice_get s.items k ≡ Some x → RunsAsIn given number s.format s.items p q k x

-- ---- a build

-- each item of the sandbox is an instruction of that one of the image,
-- which is made of its placement
pub record SandboxRunsAs (given : List Place) (number : ℕ) (s : Sandbox) (q : Part)
    : Type 0 where
  pub placed : Placement
  pub placement : IsPlacement s placed
  pub linked : IsLinked given number placed q
  pub each : (k : ℕ) (x : Item) → slice_get s.items k ≡ Some x
      → RunsAsIn given number s.format s.items placed q k x

-- each of these sandboxes in order, the first of which has that number, runs as its source says
abbrev pub SandboxesRunAs : List Place → ℕ → List Sandbox → List Part → Type 0
SandboxesRunAs given number [] parts = parts ≡ []
SandboxesRunAs given number (s ∷ source) [] = ⊥
SandboxesRunAs given number (s ∷ source) (q ∷ parts) =
    SandboxRunsAs given number s q × SandboxesRunAs given (number + 1) source parts

-- the bytes are an image of the source's sandboxes,
-- in which each item of each has its instruction and its place
pub record ImageRunsAs (given : List Place) (source : List Sandbox)
    (bytes : List ℕ) : Type 0 where
  pub parts : List Part
  pub image : IsImage bytes parts
  pub each : SandboxesRunAs given 0 source parts

-- the bytes that a source's placement is linked to are such an image
abbrev pub LinkedImagesRunAs : Type 0
LinkedImagesRunAs =
    (given : List Place) (source : List Sandbox) (placed : List Placement) (bytes : List ℕ)
    → IsSource source → AreRewritten source placed → IsLinkedImage given placed bytes
    → ImageRunsAs given source bytes
