-- Which errors a decoding has, and the fault that a text comes to.
use Rattle.sfi_io.proofs.Prelude.{◌≡◌, ℕ, ◌+◌, ◌*◌, ◌≤◌, arith, Bool, true, false, List, [], ◌∷◌, length, Option, Some, None, Result, Ok, Err, refl, ap, subst, nat_tests, filter, nat_lt, if◌then◌else◌, ◌==◌, ◌%◌, decode_of, decode_pairs, digit_or_error, hex_digit_value, FromHexError, OddLength, InvalidHexCharacter, InvalidStringLength, OutOfMemory, is_kept, limit, or_fault, outcome, Fault, TooLarge}
use Rattle.hex.specs.Hex.{◌>>=◌}
use Rattle.sfi_io.specs.Hexadecimal.{IsHexFault}
use Rattle.sfi_io.specs.Laws.{ComesToItsFault}
use Rattle.sfi_io.specs.Pieces.{start_of}
use Rattle.sfi_io.specs.private.{IsErrorOf}
use Rattle.sfi_io.specs.declared.hexadecimal.HexFault.{HexFault}
use Rattle.sfi_io.specs.declared.hexadecimal.HexFault.TheVariants.{Odd, Digit}
use Rattle.sfi_io.proofs.Ahead.{error_comes}

-- what a decoding of any room comes to: no error but an odd length or a bad digit
abbrev IsDecoded : Result (List ℕ) FromHexError → Type 0
IsDecoded (Err InvalidStringLength) = ⊥
IsDecoded (Err OutOfMemory) = ⊥
IsDecoded r = Unit {0}

pair_decoded : (a b i : ℕ) (high low : Option ℕ) (r : Result (List ℕ) FromHexError) → IsDecoded r
    → IsDecoded ((digit_or_error a i high >>= (λ h. digit_or_error b (i + 1) low >>= (λ l. Ok (h * 16 + l)))) >>= (λ byte. r >>= (λ bytes. Ok (byte ∷ bytes))))
pair_decoded a b i None low r is = tt
pair_decoded a b i (Some h) None r is = tt
pair_decoded a b i (Some h) (Some l) (Ok bytes) is = tt
pair_decoded a b i (Some h) (Some l) (Err OddLength) is = tt
pair_decoded a b i (Some h) (Some l) (Err (InvalidHexCharacter byte place)) is = tt
pair_decoded a b i (Some h) (Some l) (Err InvalidStringLength) is = absurd is
pair_decoded a b i (Some h) (Some l) (Err OutOfMemory) is = absurd is

pairs_decoded : (i : ℕ) (digits : List ℕ) → IsDecoded (decode_pairs i digits)
unfolding decode_pairs
pairs_decoded i [] = tt
pairs_decoded i (digit ∷ []) = tt
pairs_decoded i (a ∷ b ∷ rest) = pair_decoded a b i (hex_digit_value a) (hex_digit_value b) (decode_pairs (i + 2) rest) (pairs_decoded (i + 2) rest)

all_decoded : (digits : List ℕ) → IsDecoded (decode_of digits)
all_decoded digits = by (length digits % 2 == 1)
  where
    by : (odd : Bool) → IsDecoded (if odd then Err OddLength else decode_pairs 0 digits)
    by true = tt
    by false = pairs_decoded 0 digits

-- the fault of a decoding tells its error
fault_tells : (r : Result (List ℕ) FromHexError) (fault : HexFault) → IsDecoded r → or_fault r ≡ Err (Fault fault) → IsErrorOf fault r
fault_tells (Ok bytes) fault is e = absurd (cc)
fault_tells (Err OddLength) Odd is e = refl
fault_tells (Err OddLength) (Digit place) is e = absurd (cc)
fault_tells (Err (InvalidHexCharacter byte place)) Odd is e = absurd (cc)
fault_tells (Err (InvalidHexCharacter byte place)) (Digit other) is e = (byte, let same : place ≡ other = cc in ap (λ (n : ℕ). Err (InvalidHexCharacter byte n)) same)
fault_tells (Err InvalidStringLength) fault is e = absurd is
fault_tells (Err OutOfMemory) fault is e = absurd is

to_fault : (text : List ℕ) (fault : HexFault) → IsErrorOf fault (decode_of (filter is_kept text)) → IsHexFault text fault
to_fault text Odd is = is
to_fault text (Digit place) is = is

of_fault : (text : List ℕ) (fault : HexFault) → IsHexFault text fault → IsErrorOf fault (decode_of (filter is_kept text))
of_fault text Odd is = is
of_fault text (Digit place) is = is

told : (text : List ℕ) (fault : HexFault) → outcome (start_of text) ≡ Err (Fault fault) → (length text ≤ limit) × IsHexFault text fault
told text fault e = by (nat_lt limit (length text)) refl
  where
    at : Bool → Type 0
    at large = (if large then Err TooLarge else or_fault (decode_of (filter is_kept text))) ≡ Err (Fault fault)

    by : (large : Bool) → nat_lt limit (length text) ≡ large → (length text ≤ limit) × IsHexFault text fault
    by true is = let no = subst at is e in absurd (cc)
    by false is = (
      grind (arith, nat_tests, is),
      to_fault text fault (fault_tells (decode_of (filter is_kept text)) fault (all_decoded (filter is_kept text)) (subst at is e)),
    )

pub fault_comes : ComesToItsFault
fault_comes text fault = (told text fault, λ h. error_comes (start_of text) fault h.0 (of_fault text fault h.1))
