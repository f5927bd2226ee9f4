-- What an image is found to be piece by piece: what was found in its prefix, and what a feed keeps.
use Rattle.std.specs.Prelude.{◌≡◌, ℕ, ◌+◌, ◌*◌, ◌/◌, ◌^◌, ◌<◌, ◌≤◌, ◌==◌, List, [], ◌++◌, length, cond, slice_get, ◌⊎◌, take, Option, Some, None}
use Rattle.sfi_formats.specs.Limits.{bundle_size, sandboxes_most}
use Rattle.sfi_image.specs.declared.part.Gate.{Gate}
use Rattle.sfi_image.specs.declared.fields.Fields.{Fields}
use Rattle.sfi_image.specs.Spelling.{Part}
use Rattle.sfi_image.specs.Prefixes.{ImagePrefix, prefix_bytes, want_of, IsLess, part_of, HasFaultWhateverFollows}
use Rattle.sfi_image.specs.Prefixes.ImagePrefix.{Empty, AfterMagic, AfterCount, InGates, InCode, InInit, Whole}
use Rattle.sfi_image.specs.declared.layout_reader.LayoutReader.{LayoutReader}
use Rattle.sfi_image.specs.Keeping.{StandsFor}
use Rattle.sfi_rules.specs.declared.finding.Finding.{Finding}
use Rattle.sfi_rules.specs.declared.owed.Owed.{Owed}
use Rattle.sfi_rules.specs.declared.owed.Owed.TheVariants.{Nothing}
use Rattle.sfi_rules.specs.Findings.{AreFoundUpTo, AreImageFindings}
use Rattle.sfi_scan.specs.Stretches.{findings_most}
use Rattle.sfi_check.specs.declared.tally.Tally.{Tally}
use Rattle.sfi_check.specs.Verdict.{bundle_count}
use Rattle.sfi_image.specs.declared.want.Stage.TheVariants as stage
use Rattle.sfi_image.specs.declared.fault.LayoutFault.{LayoutFault}
use Rattle.sfi_check.specs.declared.feed.Feed.{Feed}

-- ==== What was found in the prefix of an image, and where a reader of it stands.

-- what is owed after the code so far of a sandbox: what the tally keeps, and nothing before the
-- first bundle
abbrev pub owed_after : List ℕ → Owed → Owed
owed_after code kept = cond (length code == 0) Nothing kept

-- the findings of the code so far of sandbox `sandbox`, and what is owed after it,
-- whatever its other code and its data are
pub record AreFindingsSoFar (sandbox : ℕ) (f : Fields) (gs : List Gate) (code : List ℕ)
    (found : List Finding) (kept : Owed) : Type 0 where
  pub bundles : ℕ
  pub len : length code ≡ bundle_size * bundles
  pub found_are : (more init : List ℕ) → length (code ++ more) ≡ f.code_size
      → AreFoundUpTo sandbox (part_of f gs (code ++ more) init) bundles found (owed_after code kept)

-- the findings of whole sandboxes and of the code so far of the next
pub record AreFindingsWithin (ps : List Part) (f : Fields) (gs : List Gate) (code : List ℕ)
    (found : List Finding) (kept : Owed) : Type 0 where
  pub before : List Finding
  pub here : List Finding
  pub before_are : AreImageFindings ps before
  pub here_are : AreFindingsSoFar (length ps) f gs code here kept
  pub found_is : found ≡ before ++ here

-- the findings of a prefix; `kept` is what the tally keeps as owed
abbrev pub AreFrontFindings : ImagePrefix → List Finding → Owed → Type 0
AreFrontFindings Empty found kept = found ≡ []
AreFrontFindings (AfterMagic format) found kept = found ≡ []
AreFrontFindings (AfterCount format n ps) found kept = AreImageFindings ps found
AreFrontFindings (InGates n ps f gs) found kept = AreImageFindings ps found
AreFrontFindings (InCode n ps f gs code) found kept = AreFindingsWithin ps f gs code found kept
AreFrontFindings (InInit n ps f gs code init) found kept = AreFindingsWithin ps f gs code found kept
AreFrontFindings (Whole ps) found kept = AreImageFindings ps found

-- how many bundles a prefix has
abbrev pub front_bundles : ImagePrefix → ℕ
front_bundles Empty = 0
front_bundles (AfterMagic format) = 0
front_bundles (AfterCount format n ps) = bundle_count ps
front_bundles (InGates n ps f gs) = bundle_count ps
front_bundles (InCode n ps f gs code) = bundle_count ps + length code / bundle_size
front_bundles (InInit n ps f gs code init) = bundle_count ps + length code / bundle_size
front_bundles (Whole ps) = bundle_count ps

-- how many sandboxes have a bundle in the prefix
abbrev pub front_sandboxes : ImagePrefix → ℕ
front_sandboxes Empty = 0
front_sandboxes (AfterMagic format) = 0
front_sandboxes (AfterCount format n ps) = length ps
front_sandboxes (InGates n ps f gs) = length ps
front_sandboxes (InCode n ps f gs code) = cond (length code == 0) (length ps) (length ps + 1)
front_sandboxes (InInit n ps f gs code init) = length ps + 1
front_sandboxes (Whole ps) = length ps

-- the tally is that of the prefix, and `holds` is true of its findings
pub record Tallies (holds : List Finding → Type 0) (t : Tally) (x : ImagePrefix) : Type 0 where
  pub found : List Finding
  pub found_holds : holds found
  pub found_are : AreFrontFindings x found t.owed
  pub count : t.count ≡ length found
  pub first : t.first ≡ slice_get found 0
  pub bundles : t.bundles ≡ front_bundles x
  pub sandboxes : t.sandboxes ≡ front_sandboxes x
  pub few : t.count ≤ findings_most * t.bundles

-- no image has more bundles: in each format a sandbox's code has at most 2 ^ 24 bytes
abbrev pub bundles_most : ℕ
bundles_most = sandboxes_most * (2 ^ 24 / bundle_size)

-- the reader and the tally are those of the bytes so far, and `holds` is true of their findings
pub record IsSoFar (holds : List Finding → Type 0) (r : LayoutReader) (t : Tally)
    (bytes : List ℕ) : Type 0 where
  pub at : ImagePrefix
  pub stands : StandsFor r at
  pub bytes_are : bytes ≡ prefix_bytes at
  pub tallies : Tallies holds t at
  pub few : t.bundles ≤ bundles_most

-- the bytes end before what comes next is whole, and are fewer than 28
pub record IsCut (r : LayoutReader) (len : ℕ) : Type 0 where
  pub less : (x : ImagePrefix) → StandsFor r x → IsLess len (want_of x)
  pub few : len < 28

-- ==== What a feed knows of the bytes that it was fed.

-- ---- the parts of `IsFedFinding`, which only private contracts name themselves

-- the `count` bytes that are held are fewer than what comes next has, or the image is whole and
-- none is held
abbrev pub Rests : LayoutReader → ℕ → Type 0
Rests r count = IsCut r count ⊎ ((r.next ≡ stage.End) × (count ≡ 0))

-- the bytes are those that the feed's reader has taken, and then those in its array; `holds` is
-- true of what was found in the former
pub record IsHeld (holds : List Finding → Type 0) (f : Feed) (bytes : List ℕ) : Type 0 where
  pub so_far : List ℕ
  pub at : IsSoFar holds f.reader f.tally so_far
  pub bytes_are : bytes ≡ so_far ++ take f.count f.held
  pub rests : Rests f.reader f.count
  pub long : length f.held ≡ 64

-- the feed was fed these bytes and has met this fault, or none: with none it keeps what the bytes
-- are; with one the bytes have that fault, whatever follows them
abbrev pub IsFedBy : (List Finding → Type 0) → Option LayoutFault → Feed → List ℕ → Type 0
IsFedBy holds None f bytes = IsHeld holds f bytes
IsFedBy holds (Some k) f bytes =
    HasFaultWhateverFollows bytes k × ((found : List Finding) × holds found)

-- ---- what public contracts name

-- the feed is one that was fed these bytes, in any pieces, and `holds` is true of what it found
abbrev pub IsFedFinding : (List Finding → Type 0) → Feed → List ℕ → Type 0
IsFedFinding holds f bytes = IsFedBy holds f.fault f bytes

-- the feed is one that was fed these bytes, in any pieces
abbrev pub IsFed : Feed → List ℕ → Type 0
IsFed f bytes = IsFedFinding (λ found. Unit {0}) f bytes
