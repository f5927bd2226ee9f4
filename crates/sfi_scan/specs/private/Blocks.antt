-- Words of private contracts: the looks at a bundle and at a block of bundles.
use Rattle.std.specs.Prelude.{ℕ, List, [], ◌∷◌, Option, Some, None, ◌≡◌, ◌+◌, ◌≤◌, take, drop, ◌⊎◌, ◌&&◌, ◌||◌, ◌==◌, not, ℤ, pos, negsuc, Bool, true, false, ◌-◌, ◌*◌, ◌/◌, ◌%◌, ◌<◌, cond}
use Rattle.rv_word.specs.declared.instr.Instr.{Instr}
use Rattle.sfi_scan.specs.declared.ahead.Ahead.{Ahead}
use Rattle.sfi_scan.specs.declared.before.Before.{Before}
use Rattle.sfi_image.specs.declared.bundle.BundlePlace.{BundlePlace}
use Rattle.sfi_rules.specs.declared.rule.Rule.{Rule}
use Rattle.sfi_rules.specs.declared.finding.Finding.{Finding}
use Rattle.sfi_rules.specs.Readings.{Piece, follows_code_pair, bundle_at, block_bundle}
use Rattle.sfi_rules.specs.Findings.{broken}
use Rattle.std.specs.Int.{w16, w32, from_le_bytes}
use Rattle.rv_word.specs.Spelling.{offset_by, IsWordOf}
use Rattle.rv_word.specs.declared.access.Access.{Access}
use Rattle.rv_word.specs.declared.outline.Outline.{Outline}
use Rattle.rv_word.specs.declared.outline.Outline.TheVariants.{Computes, Loads, Stores, Branches, Jumps, JumpsTo, Orders, Calls, Stops}
use Rattle.rv_word.specs.Outlines.{outline}
use Rattle.rv_comp.specs.Fronts.{IsHalfwordThat, IsShortSpelling}
use Rattle.sfi_formats.specs.Formats.{is_stack, data_base_register, data_mask_register, is_reserved, stack_pointer}
use Rattle.sfi_scan.specs.declared.clean.Words.{Words}
use Rattle.sfi_pairs.specs.Pairs.{masking_instr, placing_instr}
use Rattle.sfi_rules.specs.Rules.{is_bundle_start, may_access}
use Rattle.sfi_masks.specs.Masks.{is_in}

-- ==== What the scan keeps while it reads a bundle.

-- the two nearest of the instructions before a place, of which `earlier` has the nearest first
abbrev pub near : List Instr → Before
near [] = record { first = None; second = None }
near (b ∷ []) = record { first = None; second = Some b }
near (b ∷ a ∷ earlier) = record { first = Some a; second = Some b }

-- the two nearest of the instructions after a place
abbrev pub ahead : List Piece → Ahead
ahead [] = record { first = None; second = None }
ahead (x ∷ []) = record { first = Some x.instr; second = None }
ahead (x ∷ y ∷ later) = record { first = Some x.instr; second = Some y.instr }

-- the finding of a broken rule, if there is one
abbrev pub finding_of : BundlePlace → ℕ → Option Rule → List Finding
finding_of b at None = []
finding_of b at (Some rule) = broken b at rule ∷ []

-- ==== The first look at a bundle.

-- the instruction's word, or 0; 0 where there is no instruction
abbrev pub IsWordOr0 : ℕ → Option Instr → Type 0
IsWordOr0 word None = word ≡ 0
IsWordOr0 word (Some i) = (word ≡ 0) ⊎ IsWordOf word i

-- the words of the two instructions directly before, or zeros
pub record AreBefore (words : Words) (before : Before) : Type 0 where
  pub first : IsWordOr0 words.first before.first
  pub second : IsWordOr0 words.second before.second

-- the halfword and the word that begin at an offset of the bytes
abbrev pub half_at : List ℕ → ℕ → ℕ
half_at bytes at = from_le_bytes w16 (take 2 (drop at bytes))

abbrev pub word_at : List ℕ → ℕ → ℕ
word_at bytes at = from_le_bytes w32 (take 4 (drop at bytes))

-- The words of the two nearest instructions, or 0, where the bytes that end at a place are words
-- from another place on: a word that stands four bytes before the place is that of the nearest, and
-- one eight bytes before it that of the other.
pub record AreWordsFrom (bytes : List ℕ) (at from : ℕ) (before : Before) : Type 0 where
  pub first : (k : ℕ) → from ≤ k → k + 8 ≡ at → IsWordOr0 (word_at bytes k) before.first
  pub second : (k : ℕ) → from ≤ k → k + 4 ≡ at → IsWordOr0 (word_at bytes k) before.second

abbrev pub is_zero : ℤ → Bool
is_zero (pos n) = n == 0
is_zero (negsuc n) = false

-- the first look lets nothing write this register: it is reserved, or the stack pointer
abbrev pub is_protected : BundlePlace → ℕ → Bool
is_protected b r = is_reserved r || is_stack b.format r

-- a load or store with these registers breaks none of V4, V5 and V10: it writes none that is
-- protected, and its access stays in the data and the guards
abbrev pub is_clean_access : BundlePlace → Access → List Instr → Bool
is_clean_access b a earlier = not (is_protected b a.written) && may_access b a.base earlier

-- an instruction with this outline at the address breaks none of V3 to V7 and V10, whether a gate
-- is listed or not
abbrev pub is_clean : BundlePlace → ℕ → List Instr → Outline → Bool
is_clean b at earlier (Computes rd) = not (is_protected b rd)
is_clean b at earlier (Loads rd base) = not (is_protected b rd) && may_access b base earlier
is_clean b at earlier (Stores base) = may_access b base earlier
is_clean b at earlier (Branches offset) = is_bundle_start b (offset_by at offset)
is_clean b at earlier (Jumps rd offset) =
    not (is_protected b rd) && is_bundle_start b (offset_by at offset)
is_clean b at earlier (JumpsTo rd base imm) =
    not (is_protected b rd) && (is_zero imm && follows_code_pair base earlier)
is_clean b at earlier Orders = true
is_clean b at earlier Calls = false
is_clean b at earlier Stops = true

-- an instruction is spelled that breaks none of these rules after any two instructions of which
-- `are` holds
pub record IsCleanOne (b : BundlePlace) (at : ℕ) (are : Before → Type 0)
    (spell : Instr → Type 0) : Type 0 where
  pub instr : Instr
  pub spelled : spell instr
  pub clean :
      (earlier : List Instr) → are (near earlier) → is_clean b at earlier (outline instr) ≡ true

-- the halfword is that of an instruction that computes into a register that is not protected
pub record IsFreeHalf (b : BundlePlace) (h : ℕ) : Type 0 where
  pub rd : ℕ
  pub does : IsHalfwordThat h (Computes rd)
  pub free : is_protected b rd ≡ false

-- the word is an instruction that writes the stack pointer: it computes into it, or loads into it
-- by it
pub record IsStackWrite (word : ℕ) : Type 0 where
  pub instr : Instr
  pub spelled : IsWordOf word instr
  pub kind :
      (outline instr ≡ Computes stack_pointer) ⊎ (outline instr ≡ Loads stack_pointer stack_pointer)

-- the words are the pair on the stack pointer
pub record AreStackPair (first second : ℕ) : Type 0 where
  pub any : ℕ
  pub masking : IsWordOf first (masking_instr data_mask_register stack_pointer any)
  pub placing : IsWordOf second (placing_instr data_base_register stack_pointer)

-- ==== The first look at a block of eight bundles, of whose 64 halfwords a mask has a bit each.

-- Instructions begin at the starts, from each bundle's first halfword on, one after another; those
-- at `words` have 32 bits. None crosses a bundle's end.
pub record AreStarts (starts words : ℕ) : Type 0 where
  pub first : (i : ℕ) → i < 64 → i % 8 ≡ 0 → is_in starts i ≡ true
  pub next : (i : ℕ) → i < 63 → is_in starts (i + 1) ≡ not (is_in words i)
  pub only : (i : ℕ) → is_in words i ≡ true → is_in starts i ≡ true
  pub inside : (i : ℕ) → i < 64 → is_in words i ≡ true → i % 8 < 7

-- directly before each halfword of `after` two of the words stand in its bundle
pub record AreAfterTwo (words after : ℕ) : Type 0 where
  pub high : (i : ℕ) → i < 64 → is_in after i ≡ true → 4 ≤ i % 8
  pub first : (i : ℕ) → i < 64 → is_in after i ≡ true → is_in words (i - 4) ≡ true
  pub second : (i : ℕ) → i < 64 → is_in after i ≡ true → is_in words (i - 2) ≡ true

-- at each halfword of `three` the first of three words of a bundle begins, one after another
pub record AreThreeWords (words three : ℕ) : Type 0 where
  pub low : (i : ℕ) → i < 64 → is_in three i ≡ true → i % 8 ≤ 2
  pub first : (i : ℕ) → i < 64 → is_in three i ≡ true → is_in words i ≡ true
  pub second : (i : ℕ) → i < 64 → is_in three i ≡ true → is_in words (i + 2) ≡ true
  pub third : (i : ℕ) → i < 64 → is_in three i ≡ true → is_in words (i + 4) ≡ true

-- the bits of the first mask that aren't bits of the second
abbrev pub IsWithout : ℕ → ℕ → ℕ → Type 0
IsWithout a b rest = (i : ℕ) → i < 64 → is_in rest i ≡ (is_in a i && not (is_in b i))

-- the byte of its bundle at which a halfword begins
abbrev pub offset : ℕ → ℕ
offset i = 2 * (i % 8)

-- the offset from which on, up to `at`, the bundle's bytes are known to be words
abbrev pub words_from : ℕ → ℕ → ℕ → ℕ
words_from after i at = cond (is_in after i) (at - 8) at

-- the word, or the halfword, that begins at the offset spells the instruction
abbrev pub IsSpelledAt : Bool → List ℕ → ℕ → Instr → Type 0
IsSpelledAt true bytes at i = IsWordOf (word_at bytes at) i
IsSpelledAt false bytes at i = IsShortSpelling (half_at bytes at) i

-- at this offset of this bundle an instruction begins that breaks no rule there; i indexes `after`
-- alone
abbrev pub IsCleanIn : BundlePlace → List ℕ → Bool → ℕ → ℕ → ℕ → ℕ → Type 0
IsCleanIn b block wide after i bundle at =
    IsCleanOne (bundle_at b bundle) ((bundle_at b bundle).address + at)
    (AreWordsFrom (block_bundle block bundle) at (words_from after i at))
    (IsSpelledAt wide (block_bundle block bundle) at)

-- an instruction of 32 bits, or of 16, begins with halfword i, and breaks no rule
abbrev pub IsCleanAt : BundlePlace → List ℕ → Bool → ℕ → ℕ → Type 0
IsCleanAt b block wide after i = IsCleanIn b block wide after i (i / 8) (offset i)

-- from halfword i on three words write the stack pointer and put it back
pub record IsWritten (block : List ℕ) (words i : ℕ) : Type 0 where
  pub low : i % 8 ≤ 2
  pub first : is_in words i ≡ true
  pub second : is_in words (i + 2) ≡ true
  pub third : is_in words (i + 4) ≡ true
  pub write : IsStackWrite (word_at (block_bundle block (i / 8)) (offset i))
  pub pair :
      AreStackPair (word_at (block_bundle block (i / 8)) (offset i + 4))
      (word_at (block_bundle block (i / 8)) (offset i + 8))

-- one of three words that write the stack pointer and put it back begins with the halfword
abbrev pub IsOfWrite : List ℕ → ℕ → ℕ → Type 0
IsOfWrite block words m =
    (i : ℕ) × IsWritten block words i × ((m ≡ i) ⊎ ((m ≡ i + 2) ⊎ (m ≡ i + 4)))
