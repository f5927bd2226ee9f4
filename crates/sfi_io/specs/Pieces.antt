-- Hexadecimal text that is read in pieces.
use Rattle.std.specs.Prelude.{◌≡◌, ℕ, ◌+◌, ◌-◌, ◌*◌, ◌%◌, ◌==◌, nat_lt, if◌then◌else◌, take, drop, option_map, List, ◌∷◌, ◌++◌, length, filter, Option, Some, None, Result, Ok, Err}
use Rattle.hex.specs.Hex.{decode_pairs}
use Rattle.hex.specs.declared.error.FromHexError.{FromHexError}
use Rattle.hex.specs.declared.error.FromHexError.TheVariants.{OddLength, InvalidHexCharacter}
use Rattle.sfi_io.specs.Hexadecimal.{is_kept, limit}
use Rattle.sfi_io.specs.declared.hexadecimal.HexFault.TheVariants.{Odd, Digit}
use Rattle.sfi_io.specs.declared.text.HexReader.{HexReader}
use Rattle.sfi_io.specs.declared.text.TextStop.{TextStop}
use Rattle.sfi_io.specs.declared.text.TextStop.TheVariants.{Fault, TooLarge, Failed}

-- the first digit of a pair, where it waits for its second, and then the others
abbrev pub waiting : Option ℕ → List ℕ → List ℕ
waiting None others = others
waiting (Some high) others = high ∷ others

-- what is left of a text of which some was read: the length of all of it, the place of the next
-- digit, and the digits to come, with whatever else isn't white space
pub record Ahead : Type 0 where
  pub whole : ℕ
  pub place : ℕ
  pub digits : List ℕ

-- what is left of a text of which nothing was read
abbrev pub start_of : List ℕ → Ahead
start_of text = record { whole = length text; place = 0; digits = filter is_kept text }

-- the bytes that digits spell, the first of them at this place, or the error: an odd number of
-- them goes first
abbrev pub decode_from : ℕ → List ℕ → Result (List ℕ) FromHexError
decode_from place digits =
    if length digits % 2 == 1 then Err OddLength else decode_pairs place digits

-- the bytes, or the fault of the text that the error is
abbrev pub or_fault : Result (List ℕ) FromHexError → Result (List ℕ) TextStop
or_fault (Ok bytes) = Ok bytes
or_fault (Err (InvalidHexCharacter byte place)) = Err (Fault (Digit place))
or_fault (Err other) = Err (Fault Odd)

-- the bytes that are to come of a text, or why there are none: that it is above its limit goes first
abbrev pub outcome : Ahead → Result (List ℕ) TextStop
outcome text =
    if nat_lt limit text.whole then Err TooLarge else or_fault (decode_from text.place text.digits)

-- the result with these bytes before its own
abbrev pub prepend : {E : Type 0} → List ℕ → Result (List ℕ) E → Result (List ℕ) E
prepend bytes (Ok others) = Ok (bytes ++ others)
prepend bytes (Err e) = Err e

-- if it was known what comes of a text, it still is after these bytes were read: what came first is these
-- bytes and then what comes now. After a failed read nothing is said
abbrev pub Leads :
    Option (Result (List ℕ) TextStop) → Option (Result (List ℕ) TextStop) → List ℕ → Type 0
Leads None after bytes = Unit {0}
Leads (Some first) None bytes = ⊥
Leads (Some first) (Some (Err Failed)) bytes = Unit {0}
Leads (Some first) (Some then_) bytes = first ≡ prepend bytes then_

-- what is left, where it is known: how much was read and made, the digit that waits, what is held,
-- and what its reader still has
abbrev pub ahead_of : ℕ → ℕ → Option ℕ → List ℕ → Option (List ℕ) → Option Ahead
ahead_of read made high held known = option_map (λ rest. record {
  whole = read + length rest;
  place = 2 * made;
  digits = waiting high (filter is_kept (held ++ rest));
}) known

-- what is known to be left of a reader's text
abbrev pub ahead : {R : Type 0} → (R → Option (List ℕ)) → HexReader R → Option Ahead
ahead remaining r = ahead_of r.held.read r.held.made r.held.high
    (take (r.held.end - r.held.at) (drop r.held.at r.held.piece)) (remaining r.reader.now)

-- what is known to come of a reader's text
abbrev pub to_come :
    {R : Type 0} → (R → Option (List ℕ)) → HexReader R → Option (Result (List ℕ) TextStop)
to_come remaining r = option_map outcome (ahead remaining r)

-- an upper bound of the number of bytes that the text still gives
abbrev pub most_to_come : {R : Type 0} → HexReader R → ℕ
most_to_come r = limit - r.held.made
