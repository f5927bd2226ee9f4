-- Laws of readings, rules and findings.
use Rattle.std.specs.Prelude.{◌≡◌, ◌≢◌, ◌↔◌, ℕ, List, [], IsTrue, false, Option, Some, if◌then◌else◌, ◌&&◌, not}
use Rattle.std.specs.List.{All}
use Rattle.rv_word.specs.declared.instr.Instr.{Instr}
use Rattle.sfi_formats.specs.declared.format.Format.TheVariants.{Sfi1, Sfi2}
use Rattle.sfi_formats.specs.declared.format.Format.{Format}
use Rattle.sfi_formats.specs.Formats.{has_words, has_single_mask}
use Rattle.sfi_image.specs.Spelling.{Part}
use Rattle.sfi_image.specs.Numbers.{all_in_format}
use Rattle.sfi_image.specs.Parts.{IsBundleStart}
use Rattle.sfi_image.specs.declared.bundle.BundlePlace.{BundlePlace}
use Rattle.sfi_rules.specs.declared.finding.Finding.{Finding}
use Rattle.sfi_rules.specs.declared.rule.Rule.TheVariants.{V10}
use Rattle.sfi_rules.specs.Readings.{follows_data_pair, Piece, IsLongestReading}
use Rattle.sfi_rules.specs.declared.owed.Owed.{Owed}
use Rattle.sfi_rules.specs.declared.owed.Owed.TheVariants as kind
use Rattle.sfi_rules.specs.words.Rules.{masks, owed_by, owed_next, or_nothing}
use Rattle.sfi_rules.specs.Rules.{InstrInBundle, breaks, is_bundle_start, may_access}
use Rattle.sfi_rules.specs.Findings.{AreBundleFindings, AreFindings, AreImageFindings}

-- the rules' bundle starts are those of the image's code region
abbrev pub SameBundleStarts : Type 0
SameBundleStarts = (b : BundlePlace) (at : ℕ) → IsTrue (is_bundle_start b at)
    ↔ IsBundleStart (record { base = b.code_base; size = b.code_size }) at

-- a list of bytes has at most one longest reading
abbrev pub OneLongestReading : Type 0
OneLongestReading = (bytes : List ℕ) (xs ys : List Piece) → IsLongestReading bytes xs
    → IsLongestReading bytes ys → xs ≡ ys

-- a bundle has at most one list of findings
abbrev pub OneBundleList : Type 0
OneBundleList = (b : BundlePlace) (bytes : List ℕ) (xs ys : List Finding)
    → AreBundleFindings b bytes xs → AreBundleFindings b bytes ys → xs ≡ ys

-- a part has at most one list of findings
abbrev pub OneList : Type 0
OneList = (sandbox : ℕ) (p : Part) (xs ys : List Finding) → AreFindings sandbox p xs
    → AreFindings sandbox p ys → xs ≡ ys

-- an image has at most one list of findings
abbrev pub OneImageList : Type 0
OneImageList = (ps : List Part) (xs ys : List Finding) → AreImageFindings ps xs
    → AreImageFindings ps ys → xs ≡ ys

-- In the first format x2 is a register like any other: an access on it needs the pair,
-- and no place breaks V10.
abbrev pub FirstFormatHasNoStack : Type 0
FirstFormatHasNoStack =
    (x : InstrInBundle) → x.bundle.format ≡ Sfi1
    → ((base : ℕ) (earlier : List Instr)
    → may_access x.bundle base earlier ≡ follows_data_pair base earlier) × (breaks x V10 ≡ false)

-- V10 is no finding of a part of the first format
abbrev pub FirstFormatFindsNoV10 : Type 0
FirstFormatFindsNoV10 = (sandbox : ℕ) (p : Part) (found : List Finding) → p.format ≡ Sfi1
    → AreFindings sandbox p found → All (λ f. f.rule ≢ V10) found

-- where no rule is broken in code in bundles, the second format's findings of the same sandboxes
-- are V10 alone
abbrev pub CleanBreaksStackAlone : Type 0
CleanBreaksStackAlone = (ps : List Part) (found : List Finding)
    → All (λ p. has_words p.format ≡ false) ps → AreImageFindings ps []
    → AreImageFindings (all_in_format Sfi2 ps) found → All (λ f. f.rule ≡ V10) found

-- ---- of code in words

-- What is owed after two instructions, the first of which asked this: where it asked for the mask of a
-- data register, and the second is the first step of two of it, the last one; else what the second asks,
-- or nothing where no next instruction can make that right.
abbrev pub owed_after_two : Format → Option Owed → Instr → Owed
owed_after_two f (Some (kind.Mask d)) m =
    if masks f d m && not (has_single_mask f) then kind.PlaceOnly d else or_nothing (owed_by f m)
owed_after_two f (Some (kind.MaskOrUse d)) m =
    if masks f d m && not (has_single_mask f) then kind.PlaceOnly d else or_nothing (owed_by f m)
owed_after_two f asked m = or_nothing (owed_by f m)

-- what is owed after two instructions depends on these alone, whatever was owed before them
abbrev pub OwedIsOfTwo : Type 0
OwedIsOfTwo =
    (f : Format) (o : Owed) (w m : Instr)
    → owed_next f (owed_next f o w) m ≡ owed_after_two f (owed_by f w) m
