-- The findings of code in words, in order. Each word of 4 bytes is read on its own, from its first
-- byte; V10 and V11 are found at the instruction that doesn't meet what is owed, or at a write that
-- nothing can make right. That nothing is found exactly where the rules of words/Rules.antt aren't
-- broken is a law of the crate sfi_word_safety (FindsWhatIsBroken).
use Rattle.std.specs.Prelude.{◌≡◌, ◌+◌, ◌-◌, ◌*◌, ◌==◌, ◌&&◌, ◌||◌, not, ℕ, zero, suc, List, [], ◌∷◌, ◌++◌, Bool, false, Option, Some, None, cond, length, take, drop, is_some}
use Rattle.std.specs.List.{find}
use Rattle.rv_word.specs.declared.instr.Instr.{Instr}
use Rattle.rv_word.specs.Outlines.{destination, writes_register}
use Rattle.sfi_formats.specs.Limits.{bundle_size, word_size}
use Rattle.sfi_formats.specs.Formats.{is_data_register_in, code_register}
use Rattle.sfi_formats.specs.declared.format.Format.{Format}
use Rattle.sfi_image.specs.Spelling.{Part}
use Rattle.sfi_image.specs.declared.bundle.BundlePlace.{BundlePlace}
use Rattle.sfi_rules.specs.declared.finding.Finding.{Finding}
use Rattle.sfi_rules.specs.declared.rule.Rule.{Rule}
use Rattle.sfi_rules.specs.declared.rule.Rule.TheVariants.{V3, V4, V5, V6, V7, V8, V10, V11, V12}
use Rattle.sfi_rules.specs.Rules.{broken, all_rules, rest_finding, ends_region, is_empty}
use Rattle.sfi_rules.specs.Readings.{bundle_place, bundle_bytes, Piece, IsLongestReading, rest_of}
use Rattle.sfi_rules.specs.declared.owed.Owed.{Owed}
use Rattle.sfi_rules.specs.declared.owed.Owed.TheVariants.{Nothing}
use Rattle.sfi_rules.specs.words.Rules.{breaks_ecall, breaks_reserved, breaks_access, breaks_jump, breaks_target, breaks_offset, left, owed_by, owed_next, is_of_data, is_of_code}

-- ---- at an instruction

-- an instruction of a word, and what its rules look at beside it
pub record InstrInWord : Type 0 where
  pub bundle : BundlePlace
  pub address : ℕ  -- that of the instruction
  pub owed : Owed  -- before the instruction
  pub instr : Instr
  pub size : ℕ  -- its length in bytes

-- there is a number, and it is a data register's
abbrev pub is_data_one : Format → Option ℕ → Bool
is_data_one f None = false
is_data_one f (Some d) = is_data_register_in f d

-- the address is that of the gate that is listed for the bundle
abbrev pub is_at_gate : BundlePlace → ℕ → Bool
is_at_gate b at = b.listed && (at == b.address)

-- V8: the region ends after it, and it is not ebreak, jal or jalr
abbrev pub breaks_last : InstrInWord → Bool
breaks_last x =
    (x.address + x.size == x.bundle.code_base + x.bundle.code_size) && not (ends_region x.instr)

-- V10: it doesn't meet what is owed of a data register, or writes one in a way that no next
-- instruction can make right
abbrev pub fails_data : Format → Owed → Instr → Bool
fails_data f o i = (is_of_data o && not (is_some (left f o i)))
    || (is_data_one f (destination i) && not (is_some (owed_by f i)))

-- V11: it doesn't meet what is owed of x30, or writes x30 in a way that no next instruction can
-- make right
abbrev pub fails_code : Format → Owed → Instr → Bool
fails_code f o i = (is_of_code o && not (is_some (left f o i)))
    || (writes_register code_register i && not (is_some (owed_by f i)))

-- the rule is broken at the place (V1 and V2 where no instruction is read, so never at a place; V9
-- is none of code in words)
abbrev pub breaks : InstrInWord → Rule → Bool
breaks x V3 = breaks_ecall (is_at_gate x.bundle x.address) x.instr
breaks x V4 = breaks_reserved x.bundle.format x.instr
breaks x V5 = breaks_access x.bundle.format x.instr
breaks x V6 = breaks_jump x.instr
breaks x V7 = breaks_target x.bundle.code_base x.bundle.code_size x.address x.instr
breaks x V8 = breaks_last x
breaks x V10 = fails_data x.bundle.format x.owed x.instr
breaks x V11 = fails_code x.bundle.format x.owed x.instr
breaks x V12 = breaks_offset x.bundle.format x.instr
breaks x _ = false

-- the lowest rule that is broken at the place
abbrev pub lowest : InstrInWord → Option Rule
lowest x = find (λ rule. breaks x rule) all_rules

-- ---- of a word

-- the finding that this rule is broken at this address, if there is a rule
abbrev pub found_at : BundlePlace → ℕ → Option Rule → List Finding
found_at b at None = []
found_at b at (Some rule) = broken b at rule ∷ []

-- the lowest rule broken at each of these pieces, the first of which is at this address
abbrev pub found_from : BundlePlace → ℕ → Owed → List Piece → List Finding
found_from b at owed [] = []
found_from b at owed (x ∷ later) =
    found_at b at
    (lowest (record { bundle = b; address = at; owed = owed; instr = x.instr; size = x.size }))
    ++ found_from b (at + x.size) (owed_next b.format owed x.instr) later

-- what is owed after these pieces
abbrev pub owed_past : Format → Owed → List Piece → Owed
owed_past f owed [] = owed
owed_past f owed (x ∷ later) = owed_past f (owed_next f owed x.instr) later

-- The findings of the word at this address, with `owed` owed before it, and what is owed after it:
-- nothing, where it isn't read whole.
pub record IsWordFound (b : BundlePlace) (at : ℕ) (owed : Owed) (word : List ℕ)
    (found : List Finding) (next : Owed) : Type 0 where
  pub reading : List Piece
  pub longest : IsLongestReading word reading
  pub found_is : found ≡ found_from b at owed reading
      ++ rest_finding b (at + (word_size - length (rest_of word reading))) (rest_of word reading)
  pub next_is : next ≡ cond (is_empty (rest_of word reading)) (owed_past b.format owed reading) Nothing

-- ---- of a bundle, and of a part

-- the findings of the first n words of a bundle with these bytes, with `owed` owed before them, and
-- what is owed after them
abbrev pub AreFoundInWords : BundlePlace → Owed → List ℕ → ℕ → List Finding → Owed → Type 0
AreFoundInWords b owed bytes zero found next = (found ≡ []) × (next ≡ owed)
AreFoundInWords b owed bytes (suc n) found next =
    (front : List Finding) × (last : List Finding) × (between : Owed)
    × AreFoundInWords b owed bytes n front between
    × IsWordFound b (b.address + word_size * n) between
    (take word_size (drop (word_size * n) bytes)) last next × (found ≡ front ++ last)

-- the findings of a bundle with these bytes, in all four of its words
abbrev pub AreFoundInBundle : BundlePlace → Owed → List ℕ → List Finding → Owed → Type 0
AreFoundInBundle b owed bytes found next = AreFoundInWords b owed bytes 4 found next

-- the findings of a part's first n bundles, and what is owed after them; before the first nothing
-- is owed
abbrev pub AreFoundOfFirst : ℕ → Part → ℕ → List Finding → Owed → Type 0
AreFoundOfFirst sandbox p zero found next = (found ≡ []) × (next ≡ Nothing)
AreFoundOfFirst sandbox p (suc n) found next =
    (front : List Finding) × (last : List Finding) × (between : Owed)
    × AreFoundOfFirst sandbox p n front between
    × AreFoundInBundle (bundle_place sandbox p n) between (bundle_bytes p n) last next
    × (found ≡ front ++ last)

-- the findings of the part of sandbox `sandbox`: those of all its bundles
abbrev pub AreFindingsInWords : ℕ → Part → List Finding → Type 0
AreFindingsInWords sandbox p found = (bundles : ℕ) × (next : Owed)
    × (length p.code ≡ bundle_size * bundles) × AreFoundOfFirst sandbox p bundles found next
