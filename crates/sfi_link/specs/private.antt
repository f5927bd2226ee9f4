-- Words that private contracts and proofs alone cite: no public statement rests on them.
use Rattle.std.specs.Prelude.{◌≡◌, ℕ, ◌+◌, ◌^◌, ◌<◌, ◌≤◌, List, [], ◌∷◌, ◌++◌, length, cond, Result, Ok, Err}
use Rattle.std.specs.List.{All}
use Rattle.sfi_formats.specs.declared.format.Format.{Format}
use Rattle.sfi_formats.specs.declared.format.Format.TheVariants.{Sfi2}
use Rattle.sfi_formats.specs.Formats.{built_code_most, has_single_mask}
use Rattle.sfi_image.specs.declared.span.Span.{Span}
use Rattle.sfi_image.specs.Spelling.{Part, ends_below}
use Rattle.sfi_image.specs.Sources.{IsBounded}
use Rattle.sfi_formats.specs.declared.place.Place.{Place}
use Rattle.sfi_formats.specs.Places.{place_of}
use Rattle.sfi_rewrite.specs.declared.slot.BundleSlot.{BundleSlot}
use Rattle.sfi_rewrite.specs.declared.placed.PlacedName.{PlacedName}
use Rattle.sfi_rewrite.specs.Placement.{Placement}
use Rattle.sfi_link.specs.declared.bases.Bases.{Bases}
use Rattle.sfi_link.specs.declared.fault.LinkFault.{LinkFault}
use Rattle.sfi_link.specs.Faults.{UnlessMemory}
use Rattle.sfi_link.specs.Code.{IsSlot, AreSlots}
use Rattle.sfi_link.specs.Linked.{IsRightPlace, spans_at, ends_at, LieApart, IsLinkedCode}

-- ==== What fits the linker's numbers, what is written so far, and what a step answers.

-- `more` bytes after the `old` bytes of code so far have room below 2 ^ 32, and in a code region
pub record HasRoomFor (at : Bases) (old more : ℕ) : Type 0 where
  pub below : at.code + old + more < 2 ^ 32
  pub within : old + more ≤ built_code_most Sfi2

-- after the old bytes, which lie from the code base on, stand those of the slot
abbrev pub IsPushed : Bases → List PlacedName → BundleSlot → List ℕ → List ℕ → Type 0
IsPushed at names s old new =
    (bytes : List ℕ) × (new ≡ old ++ bytes) × IsSlot at names (at.code + length old) s bytes

-- after the old bytes, which lie from the code base on, stand those of the slots
pub record AreWritten (at : Bases) (names : List PlacedName) (slots : List BundleSlot)
    (old new : List ℕ) : Type 0 where
  pub bytes : List ℕ
  pub appended : new ≡ old ++ bytes
  pub spelled : AreSlots at names (at.code + length old) slots bytes

-- where the zones at zero end of sandboxes of this format with these spans, two for each
abbrev pub ends_in : Format → List Span → List ℕ
ends_in format ss = cond (has_single_mask format) (ends_below ss) []

-- the sandbox lies there, with a code region of that size, where those before it have zones at zero that
-- end at `ends`: its spans are added to the old ones, each holds an address, and they lie apart
pub record LiesBeside (p : Placement) (size : ℕ) (place : Place) (ends : List ℕ)
    (old new : List Span) : Type 0 where
  pub right : IsRightPlace p size place
  pub spans_are : new ≡ old ++ spans_at p size place
  pub bounded : All IsBounded new
  pub apart : LieApart (ends ++ ends_at p) new

-- the code of sandbox `number`, which lies so
pub record IsCodeBeside (given : List Place) (number : ℕ) (p : Placement) (bytes : List ℕ)
    (ends : List ℕ) (old new : List Span) : Type 0 where
  pub code : IsLinkedCode given number p bytes
  pub lies : LiesBeside p (length bytes) (place_of given p.format number) ends old new

-- the code of each placed sandbox, of which the first has that number, and comes after others that
-- have those spans, and zones at zero that end there
abbrev pub AreCodes :
    List Place → ℕ → List ℕ → List Span → List Placement → List (List ℕ) → Type 0
AreCodes given number ends before [] codes = codes ≡ []
AreCodes given number ends before (p ∷ placed) [] = ⊥
AreCodes given number ends before (p ∷ placed) (code ∷ codes) =
    (now : List Span) × IsCodeBeside given number p code ends before now
    × AreCodes given (number + 1) (ends ++ ends_at p) now placed codes

-- the sandbox of an image with these first data bytes
abbrev pub set_init : List ℕ → Part → Part
set_init init q = record q { init = init }

-- the value that was made meets Made, or the fault meets Faulty, or memory ran out
abbrev pub Links : {X : Type 0} → (X → Type 0) → (LinkFault → Type 0) → Result X LinkFault → Type 0
Links Made Faulty (Ok x) = Made x
Links Made Faulty (Err f) = UnlessMemory Faulty f
