-- Stretches of bundles, and the list that takes their findings.
use Rattle.std.specs.Prelude.{◌≡◌, List, Bool, false, ◌++◌, ◌+◌, ◌*◌, ◌/◌, ◌^◌, ◌≤◌, ℕ, zero, suc, [], length, MatchBool}
use Rattle.sfi_rules.specs.declared.finding.Finding.{Finding}
use Rattle.sfi_formats.specs.Formats.{has_words}
use Rattle.sfi_formats.specs.Limits.{bundle_size}
use Rattle.sfi_image.specs.declared.bundle.BundlePlace.{BundlePlace}
use Rattle.sfi_rules.specs.Readings.{block_bundle, bundle_at}
use Rattle.sfi_rules.specs.declared.owed.Owed.{Owed}
use Rattle.sfi_rules.specs.declared.owed.Owed.TheVariants.{Nothing}
use Rattle.sfi_rules.specs.Findings.{AreBundleFindings}
use Rattle.sfi_rules.specs.words.Findings.{AreFoundInBundle}

-- ==== A list that takes findings as long as there is memory.

-- where the list has not run out of memory, it had not before, and these findings were added to its
-- end
abbrev pub Lists : List Finding → Bool → List Finding → List Finding → Bool → Type 0
Lists old lacked found new lacks = lacks ≡ false → (lacked ≡ false) × (new ≡ old ++ found)

-- ==== Stretches of bundles: code of one region, one bundle behind another, of which only the first
-- may be a listed gate's. The caller cuts a region's code at each gate: the places of the other
-- bundles of a stretch say that no gate is listed there, whatever the image lists.

-- The bytes are `bundles` whole bundles, the first of which lies at `b`. All lie in b's code
-- region, whose end is at most 2 ^ 32.
pub record IsStretch (b : BundlePlace) (bytes : List ℕ) (bundles : ℕ) : Type 0 where
  pub whole : length bytes ≡ bundle_size * bundles
  pub base : b.code_base ≤ b.address
  pub end : b.address + length bytes ≤ b.code_base + b.code_size
  pub addresses : b.code_base + b.code_size ≤ 2 ^ 32

-- the place of the stretch's bundle of that number, counted from 0: none but the first is a listed gate's
abbrev pub stretch_place : BundlePlace → ℕ → BundlePlace
stretch_place b zero = b
stretch_place b (suc n) = bundle_at b (suc n)

-- the findings of the stretch's first n bundles, in order
abbrev pub AreStretchFindings : BundlePlace → List ℕ → ℕ → List Finding → Type 0
AreStretchFindings b bytes zero found = found ≡ []
AreStretchFindings b bytes (suc n) found =
    (front : List Finding) × (last : List Finding) × AreStretchFindings b bytes n front
    × AreBundleFindings (stretch_place b n) (block_bundle bytes n) last × (found ≡ front ++ last)

-- the most findings of a bundle: one at each instruction, and an instruction has two bytes at least
abbrev pub findings_most : ℕ
findings_most = bundle_size / 2

-- the stretch's first n bundles are scanned: the sink took their findings
pub record IsScanned {F : Type 0} (takes : F → List Finding → F → Type 0) (b : BundlePlace)
    (bytes : List ℕ) (n : ℕ) (before after : F) : Type 0 where
  pub found : List Finding
  pub found_are : AreStretchFindings b bytes n found
  pub few : length found ≤ findings_most * n
  pub handed : takes before found after

-- ---- stretches of any format

-- in code in words: the findings of the stretch's first n bundles, with `owed` owed before them,
-- and what is owed after them
abbrev pub AreWordStretchFindings : BundlePlace → Owed → List ℕ → ℕ → List Finding → Owed → Type 0
AreWordStretchFindings b owed bytes zero found next = (found ≡ []) × (next ≡ owed)
AreWordStretchFindings b owed bytes (suc n) found next =
    (front : List Finding) × (last : List Finding) × (between : Owed)
    × AreWordStretchFindings b owed bytes n front between
    × AreFoundInBundle (stretch_place b n) between (block_bundle bytes n) last next
    × (found ≡ front ++ last)

-- in code of any format: the findings of the stretch's first n bundles, and what is owed after
-- them; in bundles nothing ever is
abbrev pub AreFoundInStretch : BundlePlace → Owed → List ℕ → ℕ → List Finding → Owed → Type 0
AreFoundInStretch b owed bytes n found next = MatchBool (has_words b.format)
    (AreWordStretchFindings b owed bytes n found next)
    (AreStretchFindings b bytes n found × (next ≡ Nothing))

-- the first n bundles of a stretch of any format are scanned: the sink took their findings
pub record IsStretchScanned {F : Type 0} (takes : F → List Finding → F → Type 0)
    (b : BundlePlace) (owed : Owed) (bytes : List ℕ) (n : ℕ) (next : Owed)
    (before after : F) : Type 0 where
  pub found : List Finding
  pub found_are : AreFoundInStretch b owed bytes n found next
  pub few : length found ≤ findings_most * n
  pub handed : takes before found after
