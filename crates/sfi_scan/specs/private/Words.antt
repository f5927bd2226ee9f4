-- Words of private contracts: the looks at a word and at a block of words.
use Rattle.std.specs.Prelude.{◌≡◌, ◌+◌, ◌<◌, ◌&&◌, ◌||◌, ◌==◌, not, ℕ, Bool, true, false, None, ◌*◌, ◌/◌, ◌%◌, ◌⊎◌, zero, suc, List, [], take, drop}
use Rattle.rv_word.specs.Spelling.{offset_by, modulo, IsWordOf}
use Rattle.rv_word.specs.Outlines.{outline}
use Rattle.rv_comp.specs.Fronts.{IsShortSpelling}
use Rattle.rv_word.specs.declared.instr.Instr.{Instr}
use Rattle.rv_word.specs.declared.outline.Outline.{Outline}
use Rattle.rv_word.specs.declared.outline.Outline.TheVariants.{Computes, Loads, Stores, Branches, Jumps, JumpsTo, Orders, Calls, Stops}
use Rattle.sfi_formats.specs.Formats.{code_register, has_single_mask, is_data_register, is_data_register_in, is_reserved, offset_register, code_base_register, code_mask_register, data_base_register, data_mask_register}
use Rattle.sfi_formats.specs.declared.format.Format.{Format}
use Rattle.sfi_image.specs.declared.bundle.BundlePlace.{BundlePlace}
use Rattle.sfi_rules.specs.declared.owed.Owed.{Owed}
use Rattle.sfi_rules.specs.words.Findings.{lowest, IsWordFound}
use Rattle.sfi_rules.specs.words.Rules.{owed_next, may_access, is_word_start, is_pointer_step}
use Rattle.sfi_pairs.specs.Pairs.{uses}
use Rattle.sfi_scan.specs.private.Blocks.{is_zero}
use Rattle.rv_word.specs.declared.instr.Instr.TheVariants.{Op, Load, Store}
use Rattle.rv_word.specs.declared.instr.RegOp.TheVariants.{And, Or}
use Rattle.sfi_masks.specs.Masks.{is_in, word_at}
use Rattle.sfi_masks.specs.declared.masks.Masks.{Masks}
use Rattle.sfi_formats.specs.Limits.{word_size}
use Rattle.sfi_rules.specs.Readings.{bundle_at}
use Rattle.sfi_rules.specs.declared.owed.Owed.TheVariants.{Nothing}

-- ==== The first look at a word of code in words.

-- the register is reserved or typed, which it then is in each format of words
abbrev pub is_reserved_or_typed : ℕ → Bool
is_reserved_or_typed r = is_reserved r || is_data_register r || (r == code_register) || (r == offset_register)

-- an instruction with this outline at the address, before which nothing is owed, breaks none of V3
-- to V7 and V10 to V12, and leaves nothing owed
abbrev pub is_clean_alone : BundlePlace → ℕ → Outline → Bool
is_clean_alone b at (Computes rd) = not (is_reserved_or_typed rd)
is_clean_alone b at (Loads rd base) = not (is_reserved_or_typed rd) && may_access b.format base
is_clean_alone b at (Stores base) = may_access b.format base
is_clean_alone b at (Branches offset) = is_word_start b.code_base b.code_size (offset_by at offset)
is_clean_alone b at (Jumps rd offset) =
    not (is_reserved_or_typed rd) && is_word_start b.code_base b.code_size (offset_by at offset)
is_clean_alone b at (JumpsTo rd base imm) = not (is_reserved_or_typed rd) && (is_zero imm && (base == code_register))
is_clean_alone b at Orders = true
is_clean_alone b at Calls = false
is_clean_alone b at Stops = true

-- `size` bytes from address `at` on end before the code region does
abbrev pub IsBeforeEnd : BundlePlace → ℕ → ℕ → Type 0
IsBeforeEnd b at size = at + size < b.code_base + b.code_size

-- the instruction of `size` bytes breaks no rule at the address, with `owed` before it and `next`
-- after it
pub record IsQuiet (b : BundlePlace) (at size : ℕ) (owed : Owed) (instr : Instr) (next : Owed)
    : Type 0 where
  pub none :
      lowest (record { bundle = b; address = at; owed = owed; instr = instr; size = size }) ≡ None
  pub next_is : next ≡ owed_next b.format owed instr

-- the word spells an instruction that breaks no rule at the address, with `owed` before it and
-- `next` after it
pub record IsQuietThere (b : BundlePlace) (at : ℕ) (owed : Owed) (word : ℕ) (next : Owed)
    : Type 0 where
  pub instr : Instr
  pub spelled : IsWordOf word instr
  pub quiet : IsQuiet b at 4 owed instr next

-- the halfword spells an instruction that is plain at the address
pub record IsCleanHalfAlone (b : BundlePlace) (at half : ℕ) : Type 0 where
  pub instr : Instr
  pub spelled : IsShortSpelling half instr
  pub plain : is_clean_alone b at (outline instr) ≡ true

-- ==== The first look at a block of eight bundles of code in words, of whose 64 halfwords a mask
-- has a bit each. A word goes by its first halfword.

-- the bytes of the word that begins with halfword i
abbrev pub bytes_at : List ℕ → ℕ → List ℕ
bytes_at block i = take word_size (drop (2 * i) block)

-- the word that begins with halfword i breaks no rule, with `owed` before it and `next` after it
abbrev pub IsCleanWord : BundlePlace → List ℕ → ℕ → Owed → Owed → Type 0
IsCleanWord b block i owed next =
    IsWordFound (bundle_at b (i / 8)) (b.address + 2 * i) owed (bytes_at block i) [] next

-- the word breaks no rule and leaves nothing owed, if nothing is owed before it
abbrev pub IsQuietWord : BundlePlace → List ℕ → ℕ → Type 0
IsQuietWord b block i = IsCleanWord b block i Nothing Nothing

-- the word and the next one break no rule and leave nothing owed, if nothing is owed before them;
-- `between` is owed between them
pub record IsSteppedWord (b : BundlePlace) (block : List ℕ) (i : ℕ) : Type 0 where
  pub below : i + 2 < 64
  pub between : Owed
  pub step : IsCleanWord b block i Nothing between
  pub used : IsCleanWord b block (i + 2) between Nothing

-- with nothing owed before it, the word breaks no rule and nothing is owed after it; or this holds
-- of it with the next word, whose bit in `left` isn't set
abbrev pub IsSeen : BundlePlace → List ℕ → ℕ → ℕ → Type 0
IsSeen b block left i =
    IsQuietWord b block i ⊎ (IsSteppedWord b block i × (is_in left (i + 2) ≡ false))

-- n words of the block, from word `from` on, break no rule, with `owed` before them and `next` after
-- them
abbrev pub AreCleanWords : BundlePlace → Owed → List ℕ → ℕ → ℕ → Owed → Type 0
AreCleanWords b owed block from zero next = next ≡ owed
AreCleanWords b owed block from (suc n) next =
    (between : Owed) × AreCleanWords b owed block from n between
    × IsCleanWord b block (2 * (from + n)) between next

-- the masks tell the word to be a free instruction of 32 bits, or two free ones of 16
abbrev pub IsToldFree : Masks → ℕ → Type 0
IsToldFree m i = (is_in m.free i ≡ true)
    × ((is_in m.long i ≡ true) ⊎ ((is_in m.long (i + 1) ≡ false) × (is_in m.free (i + 1) ≡ true)))

-- the word is `and x31, a, x27`
abbrev pub IsMasking : ℕ → Type 0
IsMasking word = (a : ℕ) × IsWordOf word (Op And offset_register a data_mask_register)

-- the word is `or d, x31, x26`, where d is a data register
abbrev pub IsPlacing : ℕ → Type 0
IsPlacing word = (d : ℕ) × (is_data_register d ≡ true)
    × IsWordOf word (Op Or d offset_register data_base_register)

-- the words are `and x30, a, x25` and `or x30, x30, x24`
abbrev pub IsCodePair : ℕ → ℕ → Type 0
IsCodePair first second = ((a : ℕ) × IsWordOf first (Op And code_register a code_mask_register))
    × IsWordOf second (Op Or code_register code_register code_base_register)

-- the words are a pair: of data, where a mask has two steps, or the pair of the code register
abbrev pub IsPair : Format → ℕ → ℕ → Type 0
IsPair f first second = ((has_single_mask f ≡ false) × IsMasking first × IsPlacing second)
    ⊎ IsCodePair first second

-- a pair begins with halfword i
pub record IsPairAt (f : Format) (block : List ℕ) (i : ℕ) : Type 0 where
  pub below : i + 2 < 64
  pub even : i % 2 ≡ 0
  pub pair : IsPair f (word_at block i) (word_at block (i + 2))

-- the word is `addi d, d, k`
abbrev pub IsStepOf : ℕ → ℕ → Type 0
IsStepOf d word = (i : Instr) × IsWordOf word i × (is_pointer_step d i ≡ true)

-- where the instruction is a load or store, these are the bits of its offset
abbrev pub IsOffset : Instr → ℕ → Type 0
IsOffset (Load kind rd rs1 imm) n = modulo 12 imm ≡ n
IsOffset (Store width rs1 rs2 imm) n = modulo 12 imm ≡ n
IsOffset _ n = Unit {0}

-- the instruction loads into x0
abbrev pub is_dropped : Instr → Bool
is_dropped (Load kind rd rs1 imm) = rd == 0
is_dropped _ = false

-- the word is a load or store on d with an offset of at most 1020, up or down, and doesn't load
-- into x0
abbrev pub IsUseOf : ℕ → ℕ → Type 0
IsUseOf d word = (i : Instr) × IsWordOf word i × (uses d i ≡ true)

-- the first word steps a data register, which the next one uses
pub record IsUsedStep (f : Format) (word next : ℕ) : Type 0 where
  pub register : ℕ
  pub is_data : is_data_register_in f register ≡ true
  pub step : IsStepOf register word
  pub used : IsUseOf register next
