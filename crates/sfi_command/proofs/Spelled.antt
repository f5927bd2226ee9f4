-- Which place a text spells, and which places texts spell.
use Rattle.std.proofs.Common.{◌≡◌, ◌≢◌, ◌+◌, ◌<◌, ◌≤◌, ◌^◌, ◌∙◌, ℕ, zero, suc, ap, arith, codes, drop, false, get_or, map, length, length-append, refl, subst, sym, take, List, [], ◌∷◌, ◌++◌}
use borrow.Author.Tests.{ne_eqb}
use denote.Ref.{Bor}
use Rattle.std.proofs.Math.Nat.{pow-le-pow_right}
use Rattle.std.proofs.Math.Seq.{take-append_seam, drop-append-add}
use Rattle.std.proofs.lemmas.Int.Digits.{digits_value-lt}
use Rattle.std.proofs.lemmas.Str.Parse.{without_leading_plus_none}
use Rattle.std.specs.Char.{digit_value}
use Rattle.std.specs.List.{after_first, before_first, position_or_len}
use Rattle.std.specs.Prelude.{◌==◌}
use Rattle.std.specs.Str.Parse.{AllDigits, IsNumeral, digits_value, without_leading_plus}
use Rattle.clap.specs.Walk.{Text}
use Rattle.sfi_command.proofs.Program.{map-take_more}
use Rattle.sfi_command.specs.Command.{number_of, SpellsAddress, SpellsPlace, SpellPlaces}
use Rattle.sfi_command.specs.declared.job.JobFault.{JobFault}
use Rattle.sfi_command.specs.declared.job.JobFault.TheVariants.{Usage, Hex, Memory}
use Rattle.sfi_command.specs.private.{ArePlacesFault}
use Rattle.sfi_formats.specs.declared.place.Place.{Place}

-- a text of digits begins with no plus
first_digit : (text : Text) → 0 < length text → AllDigits 16 text → get_or text 0 0 ≢ 43
first_digit [] some digits e = absurd (omega arith)
first_digit (c ∷ cs) some digits e =
    let plus : digit_value 43 < 16 = subst (λ (n : ℕ). digit_value n < 16) e digits.0 in
    absurd (omega (arith, plus))

-- a text of at most 8 bytes that reads as no number of 32 bits spells no address
pub no_address : (text : Text) (n : ℕ) → length text ≤ 8
    → ¬ (IsNumeral 16 (without_leading_plus text) × (digits_value 16 (without_leading_plus text) < 2 ^ 32)) → ¬ SpellsAddress text n
no_address text n short unread is =
    let plain : without_leading_plus text ≡ text = without_leading_plus_none text (first_digit text is.numeral.0 is.numeral.1) in
    let most : 16 ^ length text ≤ 16 ^ 8 = pow-le-pow_right {n = 16} (omega arith) short in
    let small : digits_value 16 text < 2 ^ 32 = omega (arith, most, digits_value-lt 16 text is.numeral.1) in
    unread (subst (λ (t : Text). IsNumeral 16 t × (digits_value 16 t < 2 ^ 32)) (sym plain) (is.numeral, small))

-- ---- the colon

digit_not_colon : (c : ℕ) → digit_value c < 16 → c ≢ 58
digit_not_colon c digit e =
    let colon : digit_value 58 < 16 = subst (λ (n : ℕ). digit_value n < 16) e digit in
    absurd (omega (arith, colon))

-- the first colon stands after the digits
pub first_colon : (before after : Text) → AllDigits 16 before → position_or_len (λ b. b == 58) (before ++ (codes ":" ++ after)) ≡ length before
first_colon [] after digits = refl
first_colon (c ∷ cs) after digits =
    let other : (c == 58) ≡ false = ne_eqb c 58 (λ e. digit_not_colon c digits.0 e) in
    rw other (omega (arith, first_colon cs after digits.1))

-- what stands before and after the first colon of a text that spells a place
pub before_is : (text : Text) (place : Place) (is : SpellsPlace text place) → before_first (λ b. b == 58) text ≡ is.before
before_is text place is =
    let at = ap (position_or_len (λ b. b == 58)) is.text_is ∙ first_colon is.before is.after is.code_is.numeral.1 in
    ap (λ (k : ℕ). take k text) at ∙ ap (take (length is.before)) is.text_is ∙ take-append_seam is.before (codes ":" ++ is.after)

pub after_is : (text : Text) (place : Place) (is : SpellsPlace text place) → after_first (λ b. b == 58) text ≡ is.after
after_is text place is =
    let at = ap (position_or_len (λ b. b == 58)) is.text_is ∙ first_colon is.before is.after is.code_is.numeral.1 in
    ap (λ (k : ℕ). drop (k + 1) text) at ∙ ap (drop (length is.before + 1)) is.text_is ∙ drop-append-add is.before (codes ":" ++ is.after) 1

-- a text without a colon spells no place
pub no_colon : (text : Text) (place : Place) → position_or_len (λ b. b == 58) text ≡ length text → ¬ SpellsPlace text place
no_colon text place none is =
    let at = ap (position_or_len (λ b. b == 58)) is.text_is ∙ first_colon is.before is.after is.code_is.numeral.1 in
    let whole : length text ≡ length is.before + suc (length is.after) = ap length is.text_is ∙ length-append is.before (codes ":" ++ is.after) in
    absurd (omega (arith, none, at, whole))

-- nor does one of which a part spells no address
pub no_code : (text code : Text) (place : Place) → code ≡ before_first (λ b. b == 58) text → ((n : ℕ) → ¬ SpellsAddress code n) → ¬ SpellsPlace text place
no_code text code place part none is = none place.code_base (subst (λ (t : Text). SpellsAddress t place.code_base) (sym (part ∙ before_is text place is)) is.code_is)

pub no_data : (text part : Text) (place : Place) → part ≡ after_first (λ b. b == 58) text → ((n : ℕ) → ¬ SpellsAddress part n) → ¬ SpellsPlace text place
no_data text part place part_is none is = none place.data_base (subst (λ (t : Text). SpellsAddress t place.data_base) (sym (part_is ∙ after_is text place is)) is.data_is)

-- ---- places of texts

-- one more text with its place
pub one_more : (texts : List Text) (places : List Place) (text : Text) (place : Place) → SpellPlaces texts places → SpellsPlace text place
    → SpellPlaces (texts ++ (text ∷ [])) (places ++ (place ∷ []))
one_more [] [] text place are is = (is, tt)
one_more [] (p ∷ ps) text place are is = absurd are
one_more (t ∷ ts) [] text place are is = absurd are
one_more (t ∷ ts) (p ∷ ps) text place are is = (are.0, one_more ts ps text place are.1 is)

-- texts of which one spells no place spell no places
pub none_spelled : (texts : List (Bor Text)) (k : ℕ) (d : Bor Text) → k < length texts
    → ((place : Place) → ¬ SpellsPlace (get_or texts k d).now place) → (places : List Place) → ¬ SpellPlaces (map (λ t. t.now) texts) places
none_spelled [] k d within none places are = absurd (omega arith)
none_spelled (t ∷ ts) k d within none [] are = are
none_spelled (t ∷ ts) zero d within none (p ∷ ps) are = none p are.0
none_spelled (t ∷ ts) (suc k) d within none (p ∷ ps) are = none_spelled ts k d (omega arith) none ps are.1

-- the fault of such texts
pub fault_of_none : (texts : List Text) (fault : JobFault) → number_of fault ≢ 2 → ((places : List Place) → ¬ SpellPlaces texts places) → ArePlacesFault texts fault
fault_of_none texts (Usage text) other none = none
fault_of_none texts Hex other none = absurd (other refl)
fault_of_none texts Memory other none = tt

-- the texts read so far, and one more
pub one_more_read : (texts : List (Bor Text)) (k : ℕ) (d : Bor Text) (places : List Place) (place : Place) → k < length texts
    → SpellPlaces (map (λ t. t.now) (take k texts)) places → SpellsPlace (get_or texts k d).now place
    → SpellPlaces (map (λ t. t.now) (take (k + 1) texts)) (places ++ (place ∷ []))
one_more_read texts k d places place within are is =
    let more = map-take_more (λ (t : Bor Text). t.now) texts k d within in
    subst (λ (ts : List Text). SpellPlaces ts (places ++ (place ∷ []))) (sym more) (one_more (map (λ t. t.now) (take k texts)) places _ place are is)
