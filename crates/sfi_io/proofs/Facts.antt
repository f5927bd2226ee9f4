-- What holds of texts that are read in pieces. Crates above cite this.
use Rattle.sfi_io.proofs.Prelude.{◌≡◌, ◌∙◌, ℕ, arith, Bool, true, false, List, Result, Ok, Err, length, ◌≤◌, refl, sym, ap, nat_tests, filter, nat_lt, if◌then◌else◌, decode_of, FromHexError, OddLength, InvalidHexCharacter, InvalidStringLength, OutOfMemory, is_kept, limit, or_fault, outcome, TooLarge}
use Rattle.sfi_io.specs.Hexadecimal.{SpellsBytes}
use Rattle.sfi_io.specs.Laws.{ComesToItsBytes, ComesToItsFault, TextsBeginAsNone}
use Rattle.sfi_io.specs.Pieces.{start_of}
use Rattle.sfi_io.proofs.Ahead.{keeps_limit}
use Rattle.sfi_io.proofs.Faults.{fault_comes}
use Rattle.sfi_io.proofs.Leads as images

spells : (text bytes : List ℕ) → outcome (start_of text) ≡ Ok bytes → SpellsBytes text bytes
spells text bytes e = by (nat_lt limit (length text)) refl
  where
    decoded : (d : Result (List ℕ) FromHexError) → or_fault d ≡ Ok bytes → d ≡ Ok bytes
    decoded (Ok bytes) e = cc
    decoded (Err (InvalidHexCharacter byte place)) e = absurd (cc)
    decoded (Err OddLength) e = absurd (cc)
    decoded (Err InvalidStringLength) e = absurd (cc)
    decoded (Err OutOfMemory) e = absurd (cc)

    by : (b : Bool) → nat_lt limit (length text) ≡ b → SpellsBytes text bytes
    by true is =
        let large : outcome (start_of text) ≡ Err TooLarge = ap (λ (b : Bool). if b then Err TooLarge else or_fault (decode_of (filter is_kept text))) is in
        absurd (let no : Err TooLarge ≡ Ok bytes = sym large ∙ e in cc)
    by false is =
        let short : length text ≤ limit = grind (arith, nat_tests, is) in
        record { short = short; digits = decoded _ (sym (keeps_limit (start_of text) short) ∙ e) }

pub comes_to_its_bytes : ComesToItsBytes
comes_to_its_bytes text bytes = (spells text bytes, λ h. keeps_limit (start_of text) h.short ∙ ap or_fault h.digits)

pub comes_to_its_fault : ComesToItsFault
comes_to_its_fault = fault_comes

pub texts_begin_as_none : TextsBeginAsNone
texts_begin_as_none = images.texts_begin_as_none
