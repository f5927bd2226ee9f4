-- What is read and written: bytes, hexadecimal text, and an image as either.
use Rattle.std.specs.Prelude.{◌≡◌, ℕ, ◌<◌, ◌≤◌, List, length, Option, Some, None, ◌++◌, ◌⊎◌, Vec, Bool, not, ◌==◌, ◌||◌, filter, Result, Ok, Err, IsErr, take}
use Rattle.sfi_io.specs.declared.streams.Input.{Input}
use Rattle.sfi_io.specs.declared.streams.Input.TheVariants.{Whole, TooLarge}
use Rattle.std.specs.Io.KnownBytes.{Appends}
use Rattle.hex.specs.Hex.{decode_of}
use Rattle.hex.specs.declared.error.FromHexError.TheVariants.{OddLength, InvalidHexCharacter}
use Rattle.sfi_io.specs.declared.hexadecimal.HexFault.{HexFault}
use Rattle.sfi_io.specs.declared.hexadecimal.HexFault.TheVariants.{Odd, Digit}
use Rattle.sfi_io.specs.declared.hexadecimal.HexStop.{HexStop}
use Rattle.sfi_io.specs.declared.hexadecimal.HexStop.TheVariants.{Fault, Memory}
use Rattle.sfi_formats.specs.declared.format.Format.{Format}
use Rattle.sfi_formats.specs.Formats.{magic}

-- ==== What is read and written, where the reader and the writer tell their bytes.

-- the most bytes of input text
abbrev pub limit : ℕ
limit = 134217728

-- what was read of a reader that held these bytes: all of them, where they keep the limit
abbrev pub IsInput : Option (List ℕ) → Input → Type 0
IsInput None input = Unit {0}
IsInput (Some bytes) (Whole text) = (text.items ≡ bytes) × (length bytes ≤ limit)
IsInput (Some bytes) TooLarge = limit < length bytes

-- a beginning of the text was written, and not all of it
abbrev pub WritesPart : Option (List ℕ) → Option (List ℕ) → List ℕ → Type 0
WritesPart old new text = (front : List ℕ) × (rest : List ℕ) × (text ≡ front ++ rest)
    × (0 < length rest) × Appends old new front

-- ==== Hexadecimal text with white space in it.

-- a byte that counts: no space, tab, CR or LF
abbrev pub is_kept : ℕ → Bool
is_kept b = not (b == 32 || (b == 9 || (b == 13 || b == 10)))

-- the text keeps its limit and, without its white space, is these bytes in hexadecimal,
-- in digits of either case
pub record SpellsBytes (text bytes : List ℕ) : Type 0 where
  pub short : length text ≤ limit
  pub digits : decode_of (filter is_kept text) ≡ Ok bytes

-- without its white space, the text has an odd number of digits or something that is no digit
abbrev pub IsNoHexadecimal : List ℕ → Type 0
IsNoHexadecimal text = IsErr (decode_of (filter is_kept text))

-- the text is above its limit or no hexadecimal text
abbrev pub IsUnreadable : List ℕ → Type 0
IsUnreadable text = (limit < length text) ⊎ IsNoHexadecimal text

-- it has this fault: an odd number of digits goes first, and then the first that is no digit, by
-- its place from 0 in what is left without white space
abbrev pub IsHexFault : List ℕ → HexFault → Type 0
IsHexFault text Odd = decode_of (filter is_kept text) ≡ Err OddLength
IsHexFault text (Digit place) =
    (byte : ℕ) × (decode_of (filter is_kept text) ≡ Err (InvalidHexCharacter byte place))

-- a fault is the text's, and nothing is said of want of memory
abbrev pub IsHexStop : List ℕ → HexStop → Type 0
IsHexStop text (Fault fault) = IsHexFault text fault
IsHexStop text Memory = Unit {0}

-- the answer is these bytes, or memory ran out
abbrev pub GivesBytes : {Z : Type 0} → List ℕ → Result (Vec ℕ Z) HexStop → Type 0
GivesBytes bytes (Ok others) = others.items ≡ bytes
GivesBytes bytes (Err (Fault fault)) = ⊥
GivesBytes bytes (Err Memory) = Unit {0}

-- ==== Input that is an image: its own bytes, or hexadecimal text.

-- the first four bytes are the magic of a format
abbrev pub BeginsAsImage : List ℕ → Type 0
BeginsAsImage input = (f : Format) × (take 4 input ≡ magic f)

-- the input begins as an image, keeps the limit, and is these bytes
pub record AreOwnBytes (input bytes : List ℕ) : Type 0 where
  pub begins : BeginsAsImage input
  pub short : length input ≤ limit
  pub same : input ≡ bytes

-- the input is these bytes, which begin as an image's, or spells them
abbrev pub GivesImage : List ℕ → List ℕ → Type 0
GivesImage input bytes = AreOwnBytes input bytes ⊎ SpellsBytes input bytes

-- the input is above its limit, or neither begins as an image nor is hexadecimal text
abbrev pub GivesNoImage : List ℕ → Type 0
GivesNoImage input = (limit < length input) ⊎ ((¬ BeginsAsImage input) × IsNoHexadecimal input)
