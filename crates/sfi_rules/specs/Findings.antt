-- The findings of a bundle, of a sandbox's part and of an image, in order.
use Rattle.std.specs.Prelude.{◌≡◌, ◌≢◌, ◌+◌, ◌-◌, ◌*◌, ◌⊎◌, ℕ, zero, suc, List, [], ◌∷◌, ◌++◌, Bool, true, cond, length, MatchBool}
use Rattle.rv_word.specs.declared.instr.Instr.{Instr}
use Rattle.sfi_formats.specs.Formats.{has_words}
use Rattle.sfi_image.specs.Spelling.{Part}
use Rattle.sfi_rules.specs.declared.rule.Rule.{Rule}
use Rattle.sfi_rules.specs.declared.rule.Rule.TheVariants.{V9}
use Rattle.sfi_rules.specs.declared.finding.Finding.{Finding}
use Rattle.sfi_image.specs.declared.bundle.BundlePlace.{BundlePlace}
use Rattle.sfi_formats.specs.Limits.{bundle_size}
use Rattle.sfi_pairs.specs.Pairs.{stub}
use Rattle.sfi_rules.specs.Readings.{bundle_place, bundle_bytes, Piece, IsLongestReading, rest_of}
use Rattle.sfi_rules.specs.Rules.{InstrInBundle, breaks, is_empty}
pub use Rattle.sfi_rules.specs.Rules.{broken, all_rules, rule_of_length, rest_finding}
use Rattle.sfi_rules.specs.declared.owed.Owed.{Owed}
use Rattle.sfi_rules.specs.declared.owed.Owed.TheVariants.{Nothing}
use Rattle.sfi_rules.specs.words.Findings.{AreFindingsInWords, AreFoundOfFirst}

-- ---- of a bundle

-- the first of the rules that is broken at the place
abbrev pub lowest : InstrInBundle → List Rule → List Finding
lowest x [] = []
lowest x (rule ∷ rules) =
    cond (breaks x rule) (broken x.bundle x.address rule ∷ []) (lowest x rules)

-- the lowest rule broken at each place of what is left of a reading, in order
abbrev pub findings_from : BundlePlace → Bool → ℕ → List Instr → List Piece → List Finding
findings_from b whole at earlier [] = []
findings_from b whole at earlier (x ∷ later) =
    lowest (record {
      bundle = b;
      address = at;
      earlier = earlier;
      instr = x.instr;
      later = later;
      whole = whole;
    }) all_rules
    ++ findings_from b whole (at + x.size) (x.instr ∷ earlier) later

-- the findings of a bundle that is judged by its instructions
pub record AreReadingFindings (b : BundlePlace) (bytes : List ℕ)
    (found : List Finding) : Type 0 where
  pub reading : List Piece
  pub longest : IsLongestReading bytes reading
  pub found_is :
      found ≡ findings_from b (is_empty (rest_of bytes reading)) b.address [] reading
      ++ rest_finding b (b.address + (length bytes - length (rest_of bytes reading)))
      (rest_of bytes reading)

-- the findings of a bundle with these bytes:
-- a listed gate that is not the stub has one V9 in place of all others
abbrev pub AreBundleFindings : BundlePlace → List ℕ → List Finding → Type 0
AreBundleFindings b bytes found =
    ((b.listed ≡ true) × (bytes ≢ stub) × (found ≡ broken b b.address V9 ∷ []))
    ⊎ ((b.listed ≡ true → bytes ≡ stub) × AreReadingFindings b bytes found)

-- ---- of a part

-- the findings of the first n bundles, in order
abbrev pub AreFindingsOfFirst : ℕ → Part → ℕ → List Finding → Type 0
AreFindingsOfFirst sandbox p zero found = found ≡ []
AreFindingsOfFirst sandbox p (suc n) found =
    (front : List Finding) × (last : List Finding) × AreFindingsOfFirst sandbox p n front
    × AreBundleFindings (bundle_place sandbox p n) (bundle_bytes p n) last × (found ≡ front ++ last)

-- the findings of a part with code in bundles: of all its bundles
abbrev pub AreFindingsInBundles : ℕ → Part → List Finding → Type 0
AreFindingsInBundles sandbox p found = (bundles : ℕ) × (length p.code ≡ bundle_size * bundles)
    × AreFindingsOfFirst sandbox p bundles found

-- the findings of the part of sandbox `sandbox`, by whether its format's code is in words
abbrev pub AreFindings : ℕ → Part → List Finding → Type 0
AreFindings sandbox p found = MatchBool (has_words p.format) (AreFindingsInWords sandbox p found)
    (AreFindingsInBundles sandbox p found)

-- the findings of the part's first n bundles, and what is owed after them: in code in bundles
-- nothing ever is
abbrev pub AreFoundUpTo : ℕ → Part → ℕ → List Finding → Owed → Type 0
AreFoundUpTo sandbox p n found owed = MatchBool (has_words p.format)
    (AreFoundOfFirst sandbox p n found owed)
    (AreFindingsOfFirst sandbox p n found × (owed ≡ Nothing))

-- ---- of an image

-- the findings of parts, the first of which is that of sandbox `sandbox`
abbrev pub AreFindingsFrom : ℕ → List Part → List Finding → Type 0
AreFindingsFrom sandbox [] found = found ≡ []
AreFindingsFrom sandbox (p ∷ ps) found =
    (front : List Finding) × (rest : List Finding) × AreFindings sandbox p front
    × AreFindingsFrom (sandbox + 1) ps rest × (found ≡ front ++ rest)

-- the findings of an image with these parts, by sandbox and then by address
abbrev pub AreImageFindings : List Part → List Finding → Type 0
AreImageFindings ps found = AreFindingsFrom 0 ps found
