-- Words that private contracts and proofs alone cite: no public statement rests on them.
use Rattle.std.specs.Prelude.{◌≡◌, ℕ, ◌+◌, ◌*◌, ◌/◌, ◌%◌, ◌^◌, ◌<◌, Bool, true, ◌==◌, not, if◌then◌else◌, List, length, slice_index, bit_and, bit_or}
use Rattle.sfi_masks.specs.Masks.{is_in, may_write, may_write_in_words, may_be_on, may_be_on_in_words}
use Rattle.sfi_masks.specs.declared.masks.Masks.{Masks}
use Rattle.sfi_masks.specs.declared.tables.ByteTable.{ByteTable}
use Rattle.sfi_masks.specs.declared.tables.HalfTable.{HalfTable}
use Rattle.sfi_masks.specs.declared.tables.TheConstants.{ALONE, FOLLOWED, NEXT, REST, FREE, ACCESSES, ALL, PLAIN, NO_RD, WORDS_EVEN, WORDS_ODD, ON_EVEN, ON_ODD, ON_ODD_SINGLE, MASK, MASK_NEXT}

-- ==== What the tables tell of a halfword, by its bytes.

-- the sixteen lanes of a vector, each by its number
pub record HasLanes (v : List ℕ) (lane : ℕ → ℕ) : Type 0 where
  pub count : length v ≡ 16
  pub lanes : (i : ℕ) → i < 16 → slice_index v i ≡ lane i

-- the classes of a byte: the bits that the entries for its two nibbles share
abbrev pub byte_classes : ByteTable → ℕ → ℕ
byte_classes t byte = bit_and (slice_index t.low (byte % 16)) (slice_index t.high (byte / 16))

-- the classes of a halfword, by its low byte and its high byte
abbrev pub half_classes : HalfTable → ℕ → ℕ → ℕ
half_classes t low high = bit_and (byte_classes t.low low) (byte_classes t.high high)

-- the classes of a halfword in FOLLOWED, by the high byte after it too
unfoldable pub followed : ℕ → ℕ → ℕ → ℕ
followed low high next = bit_and (half_classes FOLLOWED low high) (byte_classes NEXT next)

-- code in bundles, where x2 is a stack pointer or not, or in words, where masks are single or not
pub data Code : Type 0 where
  bundles : Bool → Code
  words : Bool → Code

abbrev pub may_of : Code → ℕ → Bool
may_of (bundles stack) r = may_write stack r
may_of (words single) r = may_write_in_words r

-- a 16-bit access on x2 needs nothing beside it
abbrev pub is_on_x2 : Code → Bool
is_on_x2 (bundles stack) = stack
is_on_x2 (words single) = true

abbrev pub on_of : Code → ℕ → Bool
on_of (bundles stack) r = may_be_on stack r
on_of (words single) r = may_be_on_in_words single r

-- bits 11:7 of the halfword are 2
abbrev pub names_x2 : ℕ → ℕ → Bool
names_x2 low high = bit_or (bit_and low 128) (bit_and high 15) == 1

-- the classes that count for a halfword: where its bits 11:7 name x2, a stack pointer, only those that
-- don't write that register
unfoldable pub kept : Bool → ℕ → ℕ → ℕ
kept stack low high =
    if stack then (if names_x2 low high then NO_RD else ALL) else ALL

-- the classes that count in words: where bits 11:7 name a typed register, only those that don't write
-- it; a table each for odd and even numbers
unfoldable pub kept_in_words : ℕ → ℕ → ℕ
kept_in_words low high =
    if bit_and low 128 == 128 then slice_index WORDS_ODD (bit_and high 15)
    else slice_index WORDS_EVEN (bit_and high 15)

abbrev pub kept_of : Code → ℕ → ℕ → ℕ
kept_of (bundles stack) low high = kept stack low high
kept_of (words single) low high = kept_in_words low high

unfoldable pub rest : Bool → ℕ → ℕ → ℕ
rest stack low high = bit_and (half_classes REST low high) (if stack then ALL else PLAIN)

-- the classes of FOLLOWED that are free in words: those that compute, and the accesses where bits 19:15
-- name a base that needs nothing beside it; a table each for odd and even numbers
abbrev pub on_odd : Bool → List ℕ
on_odd single = if single then ON_ODD_SINGLE else ON_ODD

unfoldable pub free_in_words : Bool → ℕ → ℕ → ℕ
free_in_words single high low2 =
    if bit_and high 128 == 128 then slice_index (on_odd single) (bit_and low2 15)
    else slice_index ON_EVEN (bit_and low2 15)

abbrev pub free_followed : Code → ℕ → ℕ → ℕ
free_followed (bundles stack) high low2 = FREE
free_followed (words single) high low2 = free_in_words single high low2

-- the classes by which a halfword is seen to be free, where these of FOLLOWED are
abbrev pub classes_with : Code → ℕ → ℕ → ℕ → ℕ → ℕ
classes_with code low high next free =
    bit_and (bit_or (bit_or (half_classes ALONE low high) (rest (is_on_x2 code) low high))
    (bit_and (followed low high next) free)) (kept_of code low high)

-- the classes by which a halfword is seen to be free, and to begin an access
abbrev pub free_classes : Code → ℕ → ℕ → ℕ → ℕ → ℕ
free_classes code low high low2 high2 = classes_with code low high high2 (free_followed code high low2)

abbrev pub access_classes : Code → ℕ → ℕ → ℕ → ℕ
access_classes code low high next =
    bit_and (bit_and (followed low high next) ACCESSES) (kept_of code low high)

-- Of 32 bytes: sixteen bits of each mask, by the bytes of the halfword and those of the next one, which
-- for the last is the first.
pub record AreSeen (code : Code) (byte : ℕ → ℕ) (m : Masks) : Type 0 where
  pub long_small : m.long < 2 ^ 16
  pub free_small : m.free < 2 ^ 16
  pub access_small : m.access < 2 ^ 16
  pub long : (i : ℕ) → i < 16 → is_in m.long i ≡ (byte (2 * i) % 4 == 3)
  pub free :
      (i : ℕ) → i < 16 → is_in m.free i
      ≡ not (free_classes code (byte (2 * i)) (byte (2 * i + 1)) (byte (2 * ((i + 1) % 16))) (byte (2 * ((i + 1) % 16) + 1)) == 0)
  pub access :
      (i : ℕ) → i < 16 → is_in m.access i
      ≡ not (access_classes code (byte (2 * i)) (byte (2 * i + 1)) (byte (2 * ((i + 1) % 16) + 1)) == 0)

-- the classes by which a halfword begins a single mask, by its two bytes and the two after them
unfoldable pub mask_classes : ℕ → ℕ → ℕ → ℕ → ℕ
mask_classes low high low2 high2 = bit_and (half_classes MASK low high) (half_classes MASK_NEXT low2 high2)

-- of 32 bytes: where single masks begin, as in AreSeen
abbrev pub AreSingleMasksSeen : (ℕ → ℕ) → ℕ → Type 0
AreSingleMasksSeen byte told =
    (i : ℕ) → i < 16 → is_in told i
    ≡ not (mask_classes (byte (2 * i)) (byte (2 * i + 1)) (byte (2 * ((i + 1) % 16))) (byte (2 * ((i + 1) % 16) + 1)) == 0)

-- of four numbers the one with this index
abbrev pub of_four : ℕ → ℕ → ℕ → ℕ → ℕ → ℕ
of_four a b c d place = if place == 0 then a else if place == 1 then b else if place == 2 then c else d
