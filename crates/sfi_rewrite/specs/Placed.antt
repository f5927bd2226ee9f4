-- What the type of what is placed keeps.
use Rattle.std.specs.Prelude.{◌≡◌, ◌%◌, ◌≤◌, ◌<◌, ◌++◌, MatchBool, ℕ, List, [], ◌∷◌, IsTrue, length, slice_get, Some}
use Rattle.std.specs.List.{All}
use Rattle.rv_word.specs.Spelling.{InRange, IsReg}
use Rattle.rv_comp.specs.Table.{allowed}
use Rattle.sfi_formats.specs.declared.format.Format.{Format}
use Rattle.sfi_formats.specs.declared.format.Format.TheVariants.{Sfi1}
use Rattle.sfi_formats.specs.Formats.{built_code_most, has_words, unit}
use Rattle.sfi_source.specs.declared.item.Item.{Item}
use Rattle.sfi_source.specs.declared.item.SourceGate.{SourceGate}
use Rattle.sfi_source.specs.Source.{IsDataSize, IsBody}
use Rattle.sfi_rewrite.specs.declared.slot.BundleSlot.{BundleSlot}
use Rattle.sfi_rewrite.specs.declared.slot.BundleSlot.TheVariants.{Wide, Short, Jump, Upper, Lower, Region}
use Rattle.sfi_rewrite.specs.declared.placed.PlacedName.{PlacedName}
use Rattle.sfi_rewrite.specs.declared.placed.PlacedName.TheVariants as placed
use Rattle.sfi_rewrite.specs.Expansion.{IsExpansion, size_of, slots_of, c_nop}
use Rattle.sfi_rewrite.specs.Rewriting.{IsPermitted}
use Rattle.sfi_rewrite.specs.words.Expansion as words
use Rattle.sfi_formats.specs.Limits.{gates_most, service_most}
use Rattle.sfi_rewrite.specs.Placement.{Placement, AreBundles}

-- ---- slots

-- Slots that are whole expansions of permitted items of a source with `count` names, and c.nops: no
-- expansion is cut, and none stands that the format doesn't have.
pub data AreWhole (f : Format) (count : ℕ) : List BundleSlot → Type 0 where
  nothing : AreWhole f count []
  padding : (rest : List BundleSlot) → AreWhole f count rest → AreWhole f count (c_nop ∷ rest)
  expansion :
      (x : Item) (expanded rest : List BundleSlot) → IsPermitted f x → IsBody count x.body
      → IsExpansion f x expanded → AreWhole f count rest
      → AreWhole f count (expanded ++ rest)

-- the slot encodes, whatever its name's address is, but for a jump out of its reach
abbrev pub Encodes : BundleSlot → Type 0
Encodes (Wide i) = InRange i
Encodes (Short f) = IsTrue (allowed f)
Encodes (Jump i name line) = InRange i
Encodes (Upper rd name line) = IsReg rd
Encodes (Lower rd name line) = IsReg rd
Encodes (Region rd name line) = IsReg rd

-- the slot's name, if it has one, is one of the first `count`
abbrev pub IsNamedBelow : ℕ → BundleSlot → Type 0
IsNamedBelow count (Wide i) = Unit {0}
IsNamedBelow count (Short f) = Unit {0}
IsNamedBelow count (Jump i name line) = name < count
IsNamedBelow count (Upper rd name line) = name < count
IsNamedBelow count (Lower rd name line) = name < count
IsNamedBelow count (Region rd name line) = name < count

-- slots of code in words that are those of permitted items of a source with `count` names
pub record AreOfItems (f : Format) (count : ℕ) (slots : List BundleSlot) : Type 0 where
  pub items : List Item
  pub permitted : All (IsPermitted f) items
  pub bodies : All (λ x. IsBody count x.body) items
  pub laid : words.AreLaid f items slots

-- the bundles hold whole expansions alone: each of its own, or in words all of them together
abbrev pub AreWholeIn : Format → ℕ → List (List BundleSlot) → Type 0
AreWholeIn f count bundles =
    MatchBool (has_words f) (AreOfItems f count (slots_of bundles)) (All (AreWhole f count) bundles)

-- ---- sandboxes

-- there is what the name names: that gate, a place of the code where a jump may go or its end, or
-- an offset in the data, at most its length
abbrev pub IsPlacedThere : Placement → PlacedName → Type 0
IsPlacedThere p (placed.Gate k) = k < length p.gates
IsPlacedThere p (placed.Code place) =
    (place % unit p.format ≡ 0) × (place ≤ size_of (slots_of p.bundles))
IsPlacedThere p (placed.Data offset) = offset ≤ length p.bytes
IsPlacedThere p placed.Unknown = Unit {0}

-- the gate of this number asks for a service that there is, and its name names it
pub record IsPlacedGate (p : Placement) (k : ℕ) (g : SourceGate) : Type 0 where
  pub service : g.service ≤ service_most
  pub name : slice_get p.names g.name ≡ Some (placed.Gate k)

-- a sandbox within its limits: its code is whole expansions, its names and gates fit each other
pub record IsPlacedPart (p : Placement) : Type 0 where
  pub data_size : IsDataSize p.data_size
  pub gate_count : length p.gates ≤ gates_most
  pub gates : (k : ℕ) (g : SourceGate) → slice_get p.gates k ≡ Some g → IsPlacedGate p k g
  pub names : All (IsPlacedThere p) p.names
  pub byte_count : length p.bytes ≤ p.data_size
  pub bytes : All (λ b. b < 256) p.bytes
  pub bundles : AreBundles p.bundles
  pub whole : AreWholeIn p.format (length p.names) p.bundles
  pub fits : size_of (slots_of p.bundles) ≤ built_code_most p.format
  pub encodes : All Encodes (slots_of p.bundles)
  pub names_known : All (IsNamedBelow (length p.names)) (slots_of p.bundles)

-- the format of what is placed: that of its sandboxes
abbrev pub format_of : List Placement → Format
format_of [] = Sfi1
format_of (p ∷ rest) = p.format

-- the sandboxes are of the format
abbrev pub AreOf : Format → List Placement → Type 0
AreOf format parts = All (λ p. p.format ≡ format) parts

-- there is one placed sandbox at least, and all are of one format
pub record IsPlaced (parts : List Placement) : Type 0 where
  pub at_least_one : 1 ≤ length parts
  pub each : All IsPlacedPart parts
  pub one_format : AreOf (format_of parts) parts
