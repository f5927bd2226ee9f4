-- Words that private contracts and proofs alone cite: no public statement rests on them.
use Rattle.std.specs.Prelude.{◌≡◌, ◌⊎◌, ℕ, ◌<◌, ◌≤◌, ◌+◌, ◌*◌, [], ◌∷◌, ◌++◌, List, length, Option, Some, None, Result, Ok, Err, true}
use Rattle.hex.specs.Hex.{decode_pairs, hex_digit_value, pair_value}
use Rattle.hex.specs.declared.error.FromHexError.{FromHexError}
use Rattle.hex.specs.declared.error.FromHexError.TheVariants.{OddLength, InvalidHexCharacter}
use Rattle.sfi_io.specs.Hexadecimal.{is_kept, limit}
use Rattle.sfi_io.specs.declared.hexadecimal.HexFault.{HexFault}
use Rattle.sfi_io.specs.declared.hexadecimal.HexFault.TheVariants.{Odd, Digit}
use Rattle.sfi_io.specs.declared.text.TextStop.{TextStop}
use Rattle.sfi_io.specs.declared.text.TextStop.TheVariants.{Fault, TooLarge, Failed}
use Rattle.sfi_io.specs.Pieces.{Ahead, outcome, waiting}

-- two digits, neither of which is white space, spell this byte
pub record IsByteOf (high low byte : ℕ) : Type 0 where
  pub pair : (i : ℕ) → pair_value high low i ≡ Ok byte
  pub high_kept : is_kept high ≡ true
  pub low_kept : is_kept low ≡ true

-- the digits begin with those that spell these bytes, and `others` follow
pub record SpellsFront (digits others bytes : List ℕ) : Type 0 where
  pub front : List ℕ
  pub digits_are : digits ≡ front ++ others
  pub spelled : (place : ℕ) → decode_pairs place front ≡ Ok bytes

-- the second text is what is left of the first after its next digits, which spell these bytes
pub record IsAfter (first then_ : Ahead) (bytes : List ℕ) : Type 0 where
  pub whole : then_.whole ≡ first.whole
  pub place : then_.place ≡ first.place + 2 * length bytes
  pub spells : SpellsFront first.digits then_.digits bytes

-- a text that is known stays known, and goes on after digits that spell these bytes
abbrev pub GoesOn : Option Ahead → Option Ahead → List ℕ → Type 0
GoesOn None then_ bytes = Unit {0}
GoesOn (Some first) None bytes = ⊥
GoesOn (Some first) (Some then_) bytes = IsAfter first then_ bytes

-- two bytes, neither of which is white space, and one of which is no digit
pub record IsNoPair (high low : ℕ) : Type 0 where
  pub low_kept : is_kept low ≡ true
  pub wrong : hex_digit_value high ≡ None ⊎ hex_digit_value low ≡ None

-- a first byte waits, and with the second that comes it is no pair of digits
abbrev pub IsBadPair : Option ℕ → ℕ → Type 0
IsBadPair None low = ⊥
IsBadPair (Some high) low = IsNoPair high low

-- a text that is known was read to its end, and keeps its limit: at most a digit that waits is left
abbrev pub IsOver : Option Ahead → Option ℕ → Type 0
IsOver None high = Unit {0}
IsOver (Some text) high = (text.digits ≡ waiting high []) × (text.whole ≤ limit)

-- how many bytes that aren't white space are left of a text that is known, with a digit that waits
abbrev pub AreLeft : Option Ahead → ℕ → Type 0
AreLeft None count = Unit {0}
AreLeft (Some text) count = (length text.digits ≡ count) × (text.whole ≤ limit)

-- what comes next of a text that is known is no pair
abbrev pub ComesNoPair : Option Ahead → ℕ → ℕ → Type 0
ComesNoPair None high low = Unit {0}
ComesNoPair (Some text) high low =
    (others : List ℕ) × (text.digits ≡ high ∷ low ∷ others) × (IsNoPair high low)

-- the place of the first byte that is no digit, in the pair after `made` pairs
abbrev pub IsWrongPlace : Option ℕ → ℕ → ℕ → Type 0
IsWrongPlace None made place = Unit {0}
IsWrongPlace (Some high) made place =
    (hex_digit_value high ≡ None → place ≡ 2 * made)
    × ((value : ℕ) → hex_digit_value high ≡ Some value → place ≡ 2 * made + 1)

-- a text that is known comes to this; of a read that failed nothing is said
abbrev pub IsStopOf : TextStop → Ahead → Type 0
IsStopOf Failed text = Unit {0}
IsStopOf stop text = outcome text ≡ Err stop

-- a text that is known can't be read on for this reason, which is no fault of its digits
abbrev pub IsReadStop : TextStop → Ahead → Type 0
IsReadStop (Fault fault) text = ⊥
IsReadStop TooLarge text = limit < text.whole
IsReadStop Failed text = Unit {0}

-- the digits have this fault
abbrev pub IsErrorOf : HexFault → Result (List ℕ) FromHexError → Type 0
IsErrorOf Odd decoded = decoded ≡ Err OddLength
IsErrorOf (Digit place) decoded = (byte : ℕ) × (decoded ≡ Err (InvalidHexCharacter byte place))
