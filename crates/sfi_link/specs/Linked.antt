-- The image of what is placed.
use Rattle.std.specs.Prelude.{ℕ, List, [], ◌∷◌, ◌≡◌, ◌+◌, ◌*◌, ◌^◌, ◌≤◌, ◌++◌, length, map, replicate, cond, true, Vec}
use Rattle.std.specs.Global.{Global}
use Rattle.sfi_image.specs.declared.span.Span.{Span}
use Rattle.sfi_image.specs.Spelling.{IsWord, Part, spelling, with_guards, AreApart, spans, zone_end, zone_ends, AreClear}
use Rattle.sfi_image.specs.Parts.{IsCodeRegion, IsDataRegion, IsMaskedBase, HasGuardRoom, HasZoneRoom, IsImage}
use Rattle.sfi_formats.specs.declared.place.Place.{Place}
use Rattle.sfi_rewrite.specs.Placement.{Placement, IsPlacement}
use Rattle.std.specs.List.{repeat, AllPairs, AllZip}
use Rattle.rv_comp.specs.declared.form.Form16.TheVariants.{CEbreak}
use Rattle.sfi_formats.specs.declared.format.Format.{Format}
use Rattle.sfi_formats.specs.Formats.{built_code_most, has_single_mask}
use Rattle.sfi_source.specs.declared.item.SourceGate.{SourceGate}
use Rattle.sfi_formats.specs.Limits.{region_least, sandboxes_most}
use Rattle.sfi_formats.specs.Places.{place_of}
use Rattle.sfi_image.specs.declared.part.Gate.{Gate}
use Rattle.sfi_rewrite.specs.declared.slot.BundleSlot.{BundleSlot}
use Rattle.sfi_rewrite.specs.declared.slot.BundleSlot.TheVariants.{Short}
use Rattle.sfi_rewrite.specs.Expansion.{size_of, slots_of}
use Rattle.sfi_link.specs.Code.{stub_size, bases_of, stub_of, AreSlots}
use Rattle.sfi_source.specs.Source.{Sandbox}
use Rattle.sfi_rules.specs.Findings.{AreImageFindings}

-- ==== Where a placed sandbox may lie.

-- its code, of that size, and its data may begin there: each a multiple of its region's size, with
-- room for the guard zones round the data, and where masks of data are single, with data that
-- begin at a single bit, and both regions clear of the zone at zero
pub record IsRightPlace (p : Placement) (size : ℕ) (place : Place) : Type 0 where
  pub word : IsWord place.code_base
  pub code : IsCodeRegion p.format place.code_base size
  pub «data» : IsDataRegion p.format place.data_base p.data_size
  pub one_bit : IsMaskedBase p.format place.data_base p.data_size
  pub guard_room : HasGuardRoom place.data_base p.data_size
  pub zone_room : HasZoneRoom p.format (record { base = place.code_base; size = size })
      (record { base = place.data_base; size = p.data_size })

-- its two spans there: the code, and the data with a guard zone on each side
abbrev pub spans_at : Placement → ℕ → Place → List Span
spans_at p size place =
    record { base = place.code_base; size = size }
    ∷ with_guards (record { base = place.data_base; size = p.data_size }) ∷ []

-- where its zone at zero ends, if its format has one
abbrev pub ends_at : Placement → List ℕ
ends_at p = cond (has_single_mask p.format) (zone_end p.data_size ∷ []) []

-- sandboxes that have these spans, and zones at zero that end there, may lie so: no two of the spans meet,
-- and each lies clear of each zone
pub record LieApart (ends : List ℕ) (ss : List Span) : Type 0 where
  pub apart : AllPairs AreApart ss
  pub clear : AreClear ends ss

-- There is a usual place for each of so many sandboxes of this format: where masks of data are single, for
-- 11 at most, since no lower bit than that of the eleventh's data lies clear of the zone at zero of the most
-- data that a source has.
abbrev pub HaveUsualPlaces : Format → ℕ → Type 0
HaveUsualPlaces format count = has_single_mask format ≡ true → count ≤ 11

-- ==== The sandbox of an image that is made of a placed one.

-- ---- how large the code region is

-- c.ebreak, with which the region is filled: what runs on after the code stops there
abbrev pub c_ebreak : BundleSlot
c_ebreak = Short CEbreak

-- the bytes of the stubs, the code and one c.ebreak
abbrev pub needed : Placement → ℕ
needed p = stub_size * length p.gates + size_of (slots_of p.bundles) + 2

-- a code region of the format that is made of a source may have `size` bytes, and `bytes` bytes
-- have room in it
pub record HasRoom (f : Format) (bytes size : ℕ) : Type 0 where
  pub power : ℕ
  pub size_is : size ≡ 2 ^ power
  pub at_least : region_least ≤ size
  pub at_most : size ≤ built_code_most f
  pub room : bytes ≤ size

-- `size` is the least size of a code region of the format in which `bytes` bytes have room
pub record IsCodeSize (f : Format) (bytes size : ℕ) : Type 0 where
  pub has_room : HasRoom f bytes size
  pub least : (other : ℕ) → HasRoom f bytes other → size ≤ other

-- ---- a sandbox

-- the gates' stubs lie one after another from the address on
abbrev pub gates_from : ℕ → List SourceGate → List Gate
gates_from address [] = []
gates_from address (g ∷ gates) =
    record { address = address; service = g.service } ∷ gates_from (address + stub_size) gates

-- the code: the stubs, then the bytes of the slots with addresses for names, then c.ebreaks to the
-- region's end, one at least
pub record IsLinkedCode (given : List Place) (number : ℕ) (p : Placement)
    (code : List ℕ) : Type 0 where
  pub size : IsCodeSize p.format (needed p) (length code)
  pub fill : ℕ
  pub bytes : List ℕ
  pub slots : AreSlots (bases_of given number p) p.names (bases_of given number p).start
      (slots_of p.bundles ++ replicate fill c_ebreak) bytes
  pub code_is : code ≡ repeat (length p.gates) (stub_of p.format) ++ bytes

-- the sandbox of an image that a placed one makes with this code, as the one of that number
abbrev pub part_with : List Place → ℕ → Placement → List ℕ → Part
part_with given number p code =
    let at = bases_of given number p in
    record {
      format = p.format;
      code_base = at.code;
      data_base = at.«data»;
      data_size = p.data_size;
      start = at.start;
      gates = gates_from at.code p.gates;
      code = code;
      init = p.bytes;
    }

-- the placed sandbox makes that one of the image, as the one of that number, counted from 0,
-- at its place, where it may lie
pub record IsLinked (given : List Place) (number : ℕ) (p : Placement) (q : Part) : Type 0 where
  pub code : IsLinkedCode given number p q.code
  pub lies : IsRightPlace p (length q.code) (place_of given p.format number)
  pub is : q ≡ part_with given number p q.code

-- the placed sandboxes make those of the image, as `IsLinked` says, the first of them as the one of
-- that number
abbrev pub AreLinkedFrom : List Place → ℕ → List Placement → List Part → Type 0
AreLinkedFrom given number [] parts = parts ≡ []
AreLinkedFrom given number (p ∷ placed) [] = ⊥
AreLinkedFrom given number (p ∷ placed) (q ∷ parts) =
    IsLinked given number p q × AreLinkedFrom given (number + 1) placed parts

-- the placed sandboxes make those of the image at the given places, of which there are no more than
-- sandboxes; they lie apart, and clear of all their zones at zero
pub record AreLinked (given : List Place) (placed : List Placement) (parts : List Part)
    : Type 0 where
  pub used : length given ≤ length placed
  pub each : AreLinkedFrom given 0 placed parts
  pub apart : LieApart (zone_ends parts) (spans parts)

-- ==== The code of each sandbox, and other first data bytes.

-- the bytes of each
abbrev pub contents : List (Vec ℕ Global) → List (List ℕ)
contents vs = map (λ v. v.items) vs

-- the sandboxes of the image that have this code, the first of which has that number
abbrev pub parts_with : List Place → ℕ → List Placement → List (List ℕ) → List Part
parts_with given number [] codes = []
parts_with given number (p ∷ placed) [] = []
parts_with given number (p ∷ placed) (code ∷ codes) =
    part_with given number p code ∷ parts_with given (number + 1) placed codes

-- the placed sandboxes, of which there are no more than an image may have, make sandboxes with this
-- code, as `AreLinked` says
pub record AreLinkedCodes (given : List Place) (placed : List Placement)
    (codes : List (List ℕ)) : Type 0 where
  pub few : length placed ≤ sandboxes_most
  pub linked : AreLinked given placed (parts_with given 0 placed codes)

-- the placed sandbox with these first data bytes
abbrev pub with_bytes : List ℕ → Placement → Placement
with_bytes bytes p = record p { bytes = bytes }

-- each with what it has of the list: what comes after the list's end stays as it is
abbrev pub each_with : {X : Type 0} → (List ℕ → X → X) → List (List ℕ) → List X → List X
each_with add (t ∷ tails) (x ∷ xs) = add t x ∷ each_with add tails xs
each_with add _ xs = xs

-- ==== When bytes are the image of what is placed, and when they are a source's build.

-- the bytes are an image, with a right layout and no broken rule,
-- and it is that of the placed sandboxes at the given places
pub record IsLinkedImage (given : List Place) (placed : List Placement)
    (bytes : List ℕ) : Type 0 where
  pub parts : List Part
  pub linked : AreLinked given placed parts
  pub image : IsImage bytes parts
  pub none_found : AreImageFindings parts []

-- the placed sandboxes are those of the source, in order, each with its expansions in their places
abbrev pub ArePlacements : List Sandbox → List Placement → Type 0
ArePlacements source placed = AllZip IsPlacement source placed

-- The bytes are the source's build: its expansions in their places, with an address for each name.
pub record IsBuild (given : List Place) (source : List Sandbox) (bytes : List ℕ) : Type 0 where
  pub placed : List Placement
  pub placements : ArePlacements source placed
  pub parts : List Part
  pub linked : AreLinked given placed parts
  pub bytes_are : bytes ≡ spelling parts
