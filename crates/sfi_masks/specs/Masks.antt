-- What the masks of a block say of the instructions that its halfwords begin. A mask here is a set of
-- halfwords, a bit for each; but a single mask is an instruction, `and d, a, x27`.
use Rattle.std.specs.Int.{w16, w32, from_le_bytes, bit_at}
use Rattle.std.specs.Prelude.{◌≡◌, ◌<◌, ◌*◌, ◌%◌, ◌&&◌, ◌||◌, ◌==◌, not, ℕ, List, Bool, true, false, take, drop}
use Rattle.rv_word.specs.Outlines.{IsAccessOf, outline}
use Rattle.rv_word.specs.Spelling.{bits, IsWordOf}
use Rattle.rv_word.specs.declared.access.Access.{Access}
use Rattle.rv_word.specs.declared.instr.Instr.{Instr}
use Rattle.rv_word.specs.declared.outline.Outline.{Outline}
use Rattle.rv_word.specs.declared.instr.Instr.TheVariants.{Op}
use Rattle.rv_word.specs.declared.instr.RegOp.TheVariants.{And}
use Rattle.rv_word.specs.declared.outline.Outline.TheVariants.{Computes, Loads, Stores, Orders, Stops}
use Rattle.rv_comp.specs.Fronts.{IsShortSpelling}
use Rattle.sfi_formats.specs.Formats.{is_reserved, is_data_register, is_data_register_in, code_register, data_base_register, data_mask_register, offset_register, stack_pointer}
use Rattle.sfi_formats.specs.declared.format.Format.TheVariants.{Sfis}
use Rattle.sfi_masks.specs.declared.masks.Masks.{Masks}

-- halfword i of the bytes, and the word that begins there
abbrev pub half_at : List ℕ → ℕ → ℕ
half_at bytes i = from_le_bytes w16 (take 2 (drop (2 * i) bytes))

abbrev pub word_at : List ℕ → ℕ → ℕ
word_at bytes i = from_le_bytes w32 (take 4 (drop (2 * i) bytes))

-- bit i of the mask is set
abbrev pub is_in : ℕ → ℕ → Bool
is_in mask i = bit_at mask i == 1

-- ---- in bundles, and in words

-- the register is not reserved, and not x2 where that is a stack pointer
abbrev pub may_write : Bool → ℕ → Bool
may_write stack r = not (is_reserved r) && not (stack && (r == stack_pointer))

-- the register is neither reserved nor typed, in each format of words: x26 is reserved in one, and typed
-- in the other
abbrev pub may_write_in_words : ℕ → Bool
may_write_in_words r = not (is_reserved r)
    && not (is_data_register r || (r == code_register) || (r == offset_register))

-- an access on the register needs nothing beside it: x2, where that is a stack pointer
abbrev pub may_be_on : Bool → ℕ → Bool
may_be_on stack r = stack && (r == stack_pointer)

-- In words a load or a store may be on the register: a data register, or x26. Where masks are single x26
-- and x31 are data registers; else x26 holds the base of the data.
abbrev pub may_be_on_in_words : Bool → ℕ → Bool
may_be_on_in_words single r =
    is_data_register r || (r == data_base_register) || (single && (r == offset_register))

-- ---- what is free

-- The instruction writes only registers that it may write (`may`). It computes, orders or stops, or
-- accesses memory on a register on which an access needs nothing beside it (`on`).
abbrev pub is_free_by : (ℕ → Bool) → (ℕ → Bool) → Outline → Bool
is_free_by may on (Computes rd) = may rd
is_free_by may on (Loads rd base) = may rd && on base
is_free_by may on (Stores base) = on base
is_free_by may on Orders = true
is_free_by may on Stops = true
is_free_by may on _ = false

-- the halfword spells a free instruction, by `may` and `on`
pub record IsFreeHalfBy (may on : ℕ → Bool) (half : ℕ) : Type 0 where
  pub instr : Instr
  pub spelled : IsShortSpelling half instr
  pub free : is_free_by may on (outline instr) ≡ true

-- the word spells a free instruction, by `may` and `on`
pub record IsFreeWordBy (may on : ℕ → Bool) (word : ℕ) : Type 0 where
  pub instr : Instr
  pub spelled : IsWordOf word instr
  pub free : is_free_by may on (outline instr) ≡ true

-- the word spells a load or a store that writes no register that it may not; its bits 19:15 name
-- its base
pub record IsFreeAccessBy (may : ℕ → Bool) (word : ℕ) : Type 0 where
  pub access : Access
  pub is : IsAccessOf word access
  pub base : access.base ≡ bits word 19 15
  pub free : may access.written ≡ true

-- What the masks tell of the block's 64 halfwords. `long` has exactly those whose two lowest bits
-- are 11; these begin no instruction of 16 bits. A bit of `free` or `access` tells what the bytes from
-- that halfword on spell, whether or not an instruction begins there, but nothing of one of 32 bits at a
-- bundle's last halfword. A bit that isn't set tells nothing.
pub record AreMasksBy (may on : ℕ → Bool) (bytes : List ℕ) (m : Masks) : Type 0 where
  pub long : (i : ℕ) → i < 64 → is_in m.long i ≡ (half_at bytes i % 4 == 3)
  pub short :
      (i : ℕ) → i < 64 → is_in m.free i ≡ true → is_in m.long i ≡ false
      → IsFreeHalfBy may on (half_at bytes i)
  pub word :
      (i : ℕ) → i % 8 < 7 → i < 64 → is_in m.free i ≡ true → is_in m.long i ≡ true
      → IsFreeWordBy may on (word_at bytes i)
  pub access :
      (i : ℕ) → i % 8 < 7 → i < 64 → is_in m.access i ≡ true
      → IsFreeAccessBy may (word_at bytes i)

-- ---- in bundles, where x2 is a stack pointer or not

-- An instruction with this outline breaks no rule in a bundle that is neither a gate's nor its
-- region's last, whatever stands before and after it. Where x2 is a stack pointer, an access on it
-- needs no pair.
abbrev pub is_free : Bool → Outline → Bool
is_free stack o = is_free_by (may_write stack) (may_be_on stack) o

-- the halfword spells a free instruction
abbrev pub IsFreeHalf : Bool → ℕ → Type 0
IsFreeHalf stack half = IsFreeHalfBy (may_write stack) (may_be_on stack) half

-- the word spells a free instruction
abbrev pub IsFreeWord : Bool → ℕ → Type 0
IsFreeWord stack word = IsFreeWordBy (may_write stack) (may_be_on stack) word

-- the word spells a load or a store that writes no register that it may not
abbrev pub IsFreeAccess : Bool → ℕ → Type 0
IsFreeAccess stack word = IsFreeAccessBy (may_write stack) word

-- what the masks tell of a block of bundles
abbrev pub AreMasks : Bool → List ℕ → Masks → Type 0
AreMasks stack bytes m = AreMasksBy (may_write stack) (may_be_on stack) bytes m

-- ---- in words, where masks of data are single or not

-- What the masks tell of a block of code in words: a free instruction breaks none of V3 to V7 and
-- V10 to V12 unless the instruction before it demands another (owes a mask or a use of its register),
-- and demands nothing itself.
abbrev pub AreMasksInWords : Bool → List ℕ → Masks → Type 0
AreMasksInWords single bytes m = AreMasksBy may_write_in_words (may_be_on_in_words single) bytes m

-- the word is a single mask, `and d, a, x27`: d is a data register where masks are single, a any register
pub record IsSingleMask (word : ℕ) : Type 0 where
  pub register : ℕ
  pub operand : ℕ
  pub is_data : is_data_register_in Sfis register ≡ true
  pub spelled : IsWordOf word (Op And register operand data_mask_register)

-- Where a bit of `told` is set, the word from that halfword on is a single mask, but at a bundle's last
-- halfword the bit tells nothing. A bit that isn't set tells nothing.
abbrev pub AreSingleMasks : List ℕ → ℕ → Type 0
AreSingleMasks bytes told =
    (i : ℕ) → i % 8 < 7 → i < 64 → is_in told i ≡ true → IsSingleMask (word_at bytes i)
