-- Where each expansion stands: the placement of a sandbox.
use Rattle.std.specs.Prelude.{◌≡◌, ◌+◌, ◌-◌, ◌*◌, ◌/◌, ◌%◌, ◌≤◌, ◌++◌, IsTrue, ℕ, List, [], ◌∷◌, Bool, replicate, ◌<◌, true, false, length, take, drop, Contains, MatchBool}
use Rattle.sfi_formats.specs.declared.format.Format.{Format}
use Rattle.sfi_source.specs.declared.item.Item.{Item}
use Rattle.sfi_rewrite.specs.declared.slot.BundleSlot.{BundleSlot}
use Rattle.sfi_formats.specs.Limits.{bundle_size}
use Rattle.sfi_rewrite.specs.Expansion.{size_of, c_nop, slots_of, IsExpansion, is_call}
use Rattle.std.specs.List.{AllZip}
use Rattle.sfi_source.specs.declared.item.Named.{Named}
use Rattle.sfi_source.specs.declared.item.Named.TheVariants.{Gate, Code, Data, Unknown}
use Rattle.sfi_source.specs.declared.item.SourceGate.{SourceGate}
use Rattle.sfi_source.specs.Source.{Sandbox, named}
use Rattle.sfi_rewrite.specs.declared.placed.PlacedName.{PlacedName}
use Rattle.sfi_rewrite.specs.declared.placed.PlacedName.TheVariants as placed
use Rattle.sfi_rewrite.specs.words.Expansion as words
use Rattle.sfi_formats.specs.Formats.{has_words}

-- ==== Where each expansion stands. A place is a number of bytes from the end of the gates' stubs.

-- the first bundle start at or after n
abbrev pub next_bundle : ℕ → ℕ
next_bundle n = (n + (bundle_size - 1)) / bundle_size * bundle_size

-- An expansion of this size may stand here, where what stands before it ends at `end`: not before
-- that end, nor before its label's bundle start; within one bundle; and a call up to its bundle's
-- end, so that it returns to a bundle start.
pub record MayStand (end : ℕ) (labelled call : Bool) (size here : ℕ) : Type 0 where
  pub after : end ≤ here
  pub at_label : IsTrue labelled → next_bundle end ≤ here
  pub in_bundle : here % bundle_size + size ≤ bundle_size
  pub returns : IsTrue call → (here + size) % bundle_size ≡ 0

-- `nops` c.nops, of 2 bytes each, fill the gap from `end` to the first place where an expansion of
-- `size` bytes may stand
pub record FillsGap (end : ℕ) (labelled call : Bool) (size nops : ℕ) : Type 0 where
  pub stands : MayStand end labelled call size (end + 2 * nops)
  pub first : (here : ℕ) → MayStand end labelled call size here → end + 2 * nops ≤ here

-- after `end` there stand `nops` c.nops, and then the item's expansion
pub record IsNext (f : Format) (end : ℕ) (x : Item) (nops : ℕ) (expanded : List BundleSlot) : Type 0 where
  pub expansion : IsExpansion f x expanded
  pub gap : FillsGap end x.labelled (is_call x.body) (size_of expanded) nops

-- from `end` on, the expansions of the items stand one after another, each at its first place
abbrev pub AreLaidFrom : Format → ℕ → List Item → List BundleSlot → Type 0
AreLaidFrom f end [] slots = slots ≡ []
AreLaidFrom f end (x ∷ items) slots =
    (nops : ℕ) × (expanded : List BundleSlot) × (rest : List BundleSlot) × IsNext f end x nops expanded
    × (slots ≡ replicate nops c_nop ++ (expanded ++ rest))
    × AreLaidFrom f (end + 2 * nops + size_of expanded) items rest

-- the slots of the items
abbrev pub AreLaid : Format → List Item → List BundleSlot → Type 0
AreLaid f items slots = AreLaidFrom f 0 items slots

-- ==== The placement of a sandbox: its expansions in their places, with names for addresses. What
-- stands in words is kept in bundles of four words.

-- one sandbox, placed
pub record Placement : Type 0 where
  pub format : Format
  pub movable : Bool
  pub data_size : ℕ
  pub gates : List SourceGate
  pub names : List PlacedName
  pub bytes : List ℕ
  pub bundles : List (List BundleSlot)

-- the slots of the items before others, in words or in bundles; `in_words` is `has_words f` wherever this
-- is cited
abbrev pub AreLaidIn : Bool → Format → List Item → List Item → List BundleSlot → Type 0
AreLaidIn in_words f items later slots =
    MatchBool in_words (words.AreLaidBefore f items later slots) (AreLaid f items slots)

-- the first place at or after that end where a label may stand: in words that end, in bundles a bundle
-- start
abbrev pub label_place : Bool → ℕ → ℕ
label_place true end = end
label_place false end = next_bundle end

-- what a label before item k names: the first place where a label may stand, after what stands
-- before the item
abbrev pub IsLabelAt : Bool → Format → List Item → ℕ → ℕ → Type 0
IsLabelAt in_words f items k place =
    (before : List BundleSlot) × AreLaidIn in_words f (take k items) (drop k items) before
    × (place ≡ label_place in_words (size_of before))

-- what a name of the source names once its items are placed; a label names the place of what stands
-- after it
abbrev pub IsPlacedName : Format → List Item → Named → PlacedName → Type 0
IsPlacedName f items (Gate k) name = name ≡ placed.Gate k
IsPlacedName f items (Code k) name =
    (place : ℕ) × IsLabelAt (has_words f) f items k place × (name ≡ placed.Code place)
IsPlacedName f items (Data offset) name = name ≡ placed.Data offset
IsPlacedName f items Unknown name = name ≡ placed.Unknown

-- a label stands at the end of the code
abbrev pub HasEndLabel : Sandbox → Type 0
HasEndLabel s = Contains (named s) (Code (length s.items))

-- the fewest c.nops after the last expansion,
-- such that a label at the end of the code has its bundle start
pub record FillsEnd (end : ℕ) (labelled : Type 0) (nops : ℕ) : Type 0 where
  pub enough : labelled → next_bundle end ≤ end + 2 * nops
  pub fewest : (n : ℕ) → (labelled → next_bundle end ≤ end + 2 * n) → nops ≤ n

-- `nops` c.nops stand after the last expansion; words need none
abbrev pub FillsEndIn : Bool → ℕ → Type 0 → ℕ → Type 0
FillsEndIn in_words end labelled nops = MatchBool in_words (nops ≡ 0) (FillsEnd end labelled nops)

-- each bundle is full, but for the last, which has some bytes
abbrev pub AreBundles : List (List BundleSlot) → Type 0
AreBundles [] = Unit {0}
AreBundles (b ∷ []) = (0 < size_of b) × (size_of b ≤ bundle_size)
AreBundles (b ∷ c ∷ bundles) = (size_of b ≡ bundle_size) × AreBundles (c ∷ bundles)

-- this is the placement of the sandbox
pub record IsPlacement (s : Sandbox) (p : Placement) : Type 0 where
  pub format : p.format ≡ s.format
  pub movable : p.movable ≡ s.movable
  pub data_size : p.data_size ≡ s.data_size
  pub gates : p.gates ≡ s.gates
  pub bytes : p.bytes ≡ s.bytes
  pub names : AllZip (IsPlacedName s.format s.items) (named s) p.names
  pub slots : List BundleSlot
  pub laid : AreLaidIn (has_words s.format) s.format s.items [] slots
  pub nops : ℕ
  pub end : FillsEndIn (has_words s.format) (size_of slots) (HasEndLabel s) nops
  pub code : slots_of p.bundles ≡ slots ++ replicate nops c_nop
  pub bundles : AreBundles p.bundles
