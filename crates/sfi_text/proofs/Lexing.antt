-- The token length that the lexer computes is that of the longest token.
use Rattle.sfi_text.proofs.Prelude.{◌≡◌, ℕ, ◌+◌, ◌<◌, ◌≤◌, Bool, true, false, cond, List, [], ◌∷◌, ◌++◌, length, get_or, take, drop, inl, inr, ⊎_elim, refl, sym, ap, ◌∙◌, subst, arith, length-append, zero, suc, pos, neg_ℤ, IsTrue, ◌==◌, ◌||◌, ◌⊎◌, AllByRecursion, prefix_len, prefix_len-le-length, cases_Bool, cond_both, eqb-true, nat_tests, is_space, IsBlank, IsMagnitude, is_mark, IsMark, IsToken, begins_name, continues_name, begins_hex, after_sign}
use Rattle.std.proofs.lemmas.List.Folds.{length-prefix_len}
use Rattle.std.proofs.lemmas.Str.{IsCharBoundary-start, IsCharBoundary-after_ascii}
use Rattle.std.specs.Char.{is_ascii_digit, is_ascii_hexdigit, digit_value}
use Rattle.std.specs.Str.{IsUtf8, IsCharBoundary}
use Rattle.std.specs.Str.Parse.{IsNumeral, AllDigits, digits_value}
use Rattle.sfi_text.specs.private.Reading.{magnitude_len, token_len}

-- what holds of each, and what it implies
pub all_by : {X : Type 0} (P Q : X → Type 0) → ((x : X) → P x → Q x) → (xs : List X) → AllByRecursion P xs → AllByRecursion Q xs
all_by P Q f [] h = tt
all_by P Q f (x ∷ xs) h = (f x h.0, all_by P Q f xs h.1)

-- each byte passes the test
abbrev pub Passes : (ℕ → Bool) → List ℕ → Type 0
Passes p text = AllByRecursion (λ c. IsTrue (p c)) text

-- a front that passes is no longer than the longest such front
pub front_within : (p : ℕ → Bool) (xs ys : List ℕ) → Passes p xs → length xs ≤ prefix_len p (xs ++ ys)
front_within p [] ys h = omega arith
front_within p (x ∷ xs) ys h = rw h.0 (omega (arith, front_within p xs ys h.1))

one_more : (n : ℕ) → 1 + n ≡ suc n
one_more n = omega arith

-- the longest front that passes does pass
pub front_passes : (p : ℕ → Bool) (xs : List ℕ) → Passes p (take (prefix_len p xs) xs)
front_passes p [] = tt
front_passes p (x ∷ xs) = elim (p x) as (λ b. p x ≡ b → Passes p (take (cond b (1 + prefix_len p xs) 0) (x ∷ xs))) [ true ↦ λ e. subst (λ k. Passes p (take k (x ∷ xs))) (sym (one_more (prefix_len p xs))) (e, front_passes p xs) | false ↦ λ e. tt ] refl

pub digit_is : (c : ℕ) → digit_value c < 10 → is_ascii_digit c ≡ true
digit_is c h = grind (arith, nat_tests)

pub digit_below : (c : ℕ) → is_ascii_digit c ≡ true → digit_value c < 10
digit_below c h = grind (arith, nat_tests)

pub hex_digit_is : (c : ℕ) → digit_value c < 16 → is_ascii_hexdigit c ≡ true
hex_digit_is c h = grind (arith, nat_tests)

pub hex_digit_below : (c : ℕ) → is_ascii_hexdigit c ≡ true → digit_value c < 16
hex_digit_below c h = grind (arith, nat_tests)

pub digit_begins_no_name : (c : ℕ) → is_ascii_digit c ≡ true → (begins_name c ≡ false) × (is_mark c ≡ false) × ((c == 45) ≡ false)
digit_begins_no_name c h = (grind (arith, nat_tests), grind (arith, nat_tests), grind (arith, nat_tests))

pub mark_begins_no_name : (c : ℕ) → is_mark c ≡ true → begins_name c ≡ false
mark_begins_no_name c h = grind (arith, nat_tests)

pub numeral_passes : (ds : List ℕ) → AllDigits 10 ds → Passes is_ascii_digit ds
numeral_passes ds h = all_by _ _ digit_is ds h

pub numeral_from : (ds : List ℕ) → Passes is_ascii_digit ds → AllDigits 10 ds
numeral_from ds h = all_by _ _ digit_below ds h

pub hex_passes : (ds : List ℕ) → AllDigits 16 ds → Passes is_ascii_hexdigit ds
hex_passes ds h = all_by _ _ hex_digit_is ds h

pub hex_from : (ds : List ℕ) → Passes is_ascii_hexdigit ds → AllDigits 16 ds
hex_from ds h = all_by _ _ hex_digit_below ds h

-- a text of digits alone that begins `0x` when something follows it is the one digit
digits_before_x : (c : ℕ) (cs more : List ℕ) → Passes is_ascii_digit (c ∷ cs) → begins_hex (c ∷ cs ++ more) ≡ true → length (c ∷ cs) ≡ 1
digits_before_x c [] more h e = omega arith
digits_before_x c (d ∷ cs) more h e = grind (arith, nat_tests)

magnitude_hex : (text : List ℕ) → begins_hex text ≡ true → magnitude_len text ≡ 2 + prefix_len is_ascii_hexdigit (drop 2 text)
unfolding magnitude_len
magnitude_hex text e = rw e refl

magnitude_decimal : (text : List ℕ) → begins_hex text ≡ false → magnitude_len text ≡ prefix_len is_ascii_digit text
unfolding magnitude_len
magnitude_decimal text e = rw e refl

-- decimal digits are no longer than the longest magnitude
decimal_within : (c : ℕ) (cs more : List ℕ) → Passes is_ascii_digit (c ∷ cs) → length (c ∷ cs) ≤ magnitude_len (c ∷ cs ++ more)
decimal_within c cs more h =
    ⊎_elim
    (λ e. omega (arith, digits_before_x c cs more h e, magnitude_hex (c ∷ cs ++ more) e))
    (λ e. omega (arith, front_within is_ascii_digit (c ∷ cs) more h, magnitude_decimal (c ∷ cs ++ more) e))
    (cases_Bool (begins_hex (c ∷ cs ++ more)))

hex_within : (d : ℕ) (ds more : List ℕ) → Passes is_ascii_hexdigit (d ∷ ds) → 2 + length (d ∷ ds) ≤ magnitude_len (48 ∷ 120 ∷ d ∷ ds ++ more)
hex_within d ds more h = omega (arith, magnitude_hex (48 ∷ 120 ∷ d ∷ ds ++ more) h.0, front_within is_ascii_hexdigit (d ∷ ds) more h)

hex_text_within : (ds more : List ℕ) → IsNumeral 16 ds → (0 < length (48 ∷ 120 ∷ ds)) × (length (48 ∷ 120 ∷ ds) ≤ magnitude_len (48 ∷ 120 ∷ ds ++ more))
hex_text_within [] more h = absurd (omega arith)
hex_text_within (d ∷ ds) more h = (omega arith, omega (arith, hex_within d ds more (hex_passes (d ∷ ds) h.1)))

-- no magnitude that stands at the front is longer than the computed length
pub magnitude_within : (text more : List ℕ) (n : ℕ) → IsMagnitude text n → (0 < length text) × (length text ≤ magnitude_len (text ++ more))
magnitude_within [] more n (inl h) = absurd (omega (arith, h.0.0))
magnitude_within (c ∷ cs) more n (inl h) = (omega arith, decimal_within c cs more (numeral_passes (c ∷ cs) h.0.1))
magnitude_within text more n (inr (ds, e, h, v)) =
    subst (λ (t : List ℕ). (0 < length t) × (length t ≤ magnitude_len (t ++ more))) (sym e) (hex_text_within ds more h)

begins_hex_shape : (text : List ℕ) → begins_hex text ≡ true → (d : ℕ) × (rest : List ℕ) × (text ≡ 48 ∷ 120 ∷ d ∷ rest) × (is_ascii_hexdigit d ≡ true)
begins_hex_shape [] h = grind (arith, nat_tests)
begins_hex_shape (a ∷ []) h = grind (arith, nat_tests)
begins_hex_shape (a ∷ b ∷ []) h = grind (arith, nat_tests)
begins_hex_shape (a ∷ b ∷ d ∷ rest) h = (d, rest, grind (arith, nat_tests), grind (arith, nat_tests))

decimal_found : (text : List ℕ) → 0 < prefix_len is_ascii_digit text → IsNumeral 10 (take (prefix_len is_ascii_digit text) text)
decimal_found text h = (omega (arith, length-prefix_len is_ascii_digit text), numeral_from _ (front_passes is_ascii_digit text))

two_more : (k : ℕ) (a b : ℕ) (ds : List ℕ) → take (2 + k) (a ∷ b ∷ ds) ≡ a ∷ b ∷ take k ds
two_more k a b ds = let e : 2 + k ≡ suc (suc k) = omega arith in rw e refl

hex_found : (d : ℕ) (rest : List ℕ) → is_ascii_hexdigit d ≡ true → IsNumeral 16 (take (prefix_len is_ascii_hexdigit (d ∷ rest)) (d ∷ rest))
hex_found d rest h =
    let positive : 0 < prefix_len is_ascii_hexdigit (d ∷ rest) = rw h (omega arith) in
    (omega (arith, length-prefix_len is_ascii_hexdigit (d ∷ rest)), hex_from _ (front_passes is_ascii_hexdigit (d ∷ rest)))

hex_text_found : (text : List ℕ) (d : ℕ) (rest : List ℕ) → text ≡ 48 ∷ 120 ∷ d ∷ rest → is_ascii_hexdigit d ≡ true → begins_hex text ≡ true → (n : ℕ) × IsMagnitude (take (magnitude_len text) text) n
hex_text_found text d rest e h b =
    let digits = take (prefix_len is_ascii_hexdigit (d ∷ rest)) (d ∷ rest) in
    let is_len : magnitude_len text ≡ 2 + prefix_len is_ascii_hexdigit (d ∷ rest) = magnitude_hex text b ∙ ap (λ t. 2 + prefix_len is_ascii_hexdigit (drop 2 t)) e in
    let is_front : take (magnitude_len text) text ≡ 48 ∷ 120 ∷ digits =
    ap (λ k. take k text) is_len ∙ ap (λ t. take (2 + prefix_len is_ascii_hexdigit (d ∷ rest)) t) e ∙ two_more _ 48 120 (d ∷ rest) in
    (digits_value 16 digits, inr (digits, is_front, hex_found d rest h, refl))

-- the text of the computed length is a magnitude, if there is any
pub magnitude_found : (text : List ℕ) → 0 < magnitude_len text → (n : ℕ) × IsMagnitude (take (magnitude_len text) text) n
magnitude_found text positive =
    ⊎_elim
    (λ e. let shape = begins_hex_shape text e in hex_text_found text shape.0 shape.1 shape.2 shape.3 e)
    (λ e. let same = magnitude_decimal text e in
    (digits_value 10 (take (magnitude_len text) text), inl (rw same (decimal_found text (omega arith)), refl)))
    (cases_Bool (begins_hex text))

module _ (c : ℕ) (cs : List ℕ) where
  token_at_name : begins_name c ≡ true → token_len (c ∷ cs) ≡ 1 + prefix_len continues_name cs
  unfolding token_len
  token_at_name h = rw h refl

  pub token_at_mark : is_mark c ≡ true → token_len (c ∷ cs) ≡ 1
  unfolding token_len
  token_at_mark h = rw (mark_begins_no_name c h, h) refl

  token_at_digit : is_ascii_digit c ≡ true → token_len (c ∷ cs) ≡ magnitude_len (c ∷ cs)
  unfolding token_len
  token_at_digit h = let p = digit_begins_no_name c h in rw (p.0, p.1, p.2) refl

token_at_sign : (cs : List ℕ) → token_len (45 ∷ cs) ≡ after_sign (magnitude_len cs)
unfolding token_len
token_at_sign cs = refl

pub digit_first : (c : ℕ) (cs : List ℕ) (n : ℕ) → IsMagnitude (c ∷ cs) n → is_ascii_digit c ≡ true
digit_first c cs n (inl h) = digit_is c h.0.1.0
digit_first c cs n (inr (ds, e, h, v)) = let first : c ≡ 48 = cc in rw first refl

after_sign_more : (n : ℕ) → 0 < n → after_sign n ≡ n + 1
after_sign_more n h = grind (arith, nat_tests)

after_sign_positive : (n : ℕ) → 0 < after_sign n → 0 < n
after_sign_positive zero h = absurd (omega arith)
after_sign_positive (suc n) h = omega arith

positive_within : (text more : List ℕ) (n : ℕ) → IsMagnitude text n → 0 < magnitude_len (text ++ more)
positive_within text more n h = let p = magnitude_within text more n h in omega (arith, p.0, p.1)

-- no token that stands at the front is longer than the computed length
pub token_within : (token more : List ℕ) → IsToken token → (0 < length token) × (length token ≤ token_len (token ++ more))
token_within [] more (inl name) = absurd name
token_within (c ∷ cs) more (inl name) = (omega arith, omega (arith, token_at_name c (cs ++ more) name.0, front_within continues_name cs more name.1))
token_within [] more (inr (inl (z, inl (n, h, e)))) = absurd (omega (arith, magnitude_within [] more n h))
token_within (c ∷ cs) more (inr (inl (z, inl (n, h, e)))) = (omega arith, omega (arith, token_at_digit c (cs ++ more) (digit_first c cs n h), (magnitude_within (c ∷ cs) more n h).1))
token_within token more (inr (inl (z, inr (n, digits, e, h, v)))) =
    subst (λ (t : List ℕ). (0 < length t) × (length t ≤ token_len (t ++ more))) (sym e) (omega arith, omega (arith, token_at_sign (digits ++ more), after_sign_more _ (positive_within digits more n h), (magnitude_within digits more n h).1))
token_within token more (inr (inr (c, h, e))) =
    subst (λ (t : List ℕ). (0 < length t) × (length t ≤ token_len (t ++ more))) (sym e) (omega arith, omega (arith, token_at_mark c more h))

sign_found : (cs : List ℕ) → 0 < after_sign (magnitude_len cs) → IsToken (take (after_sign (magnitude_len cs)) (45 ∷ cs))
sign_found cs h =
    let positive : 0 < magnitude_len cs = after_sign_positive _ h in
    let found = magnitude_found cs positive in
    let is_len : after_sign (magnitude_len cs) ≡ suc (magnitude_len cs) = after_sign_more _ positive ∙ omega arith in
    rw is_len (inr (inl (neg_ℤ (pos found.0), inr (found.0, take (magnitude_len cs) cs, refl, found.1, refl))))

number_found : (text : List ℕ) → 0 < magnitude_len text → IsToken (take (magnitude_len text) text)
number_found text h = let found = magnitude_found text h in inr (inl (pos found.0, inl (found.0, found.1, refl)))

name_found : (c : ℕ) (cs : List ℕ) → begins_name c ≡ true → IsToken (take (1 + prefix_len continues_name cs) (c ∷ cs))
name_found c cs h = rw one_more (inl (h, front_passes continues_name cs))

-- the text of the computed length is a token, if there is any
pub token_found : (text : List ℕ) → 0 < token_len text → IsToken (take (token_len text) text)
unfolding token_len
token_found [] h = absurd (omega arith)
token_found (c ∷ cs) h =
    let P : ℕ → Type 0 = λ k. 0 < k → IsToken (take k (c ∷ cs)) in
    cond_both (begins_name c) _ _ P (λ e _. name_found c cs e)
    (λ _. cond_both (is_mark c) _ _ P (λ e _. inr (inr (c, e, refl)))
    (λ _. cond_both (c == 45) _ _ P (λ e. subst (λ (d : ℕ). 0 < after_sign (magnitude_len cs) → IsToken (take (after_sign (magnitude_len cs)) (d ∷ cs))) (sym (eqb-true c 45 e)) (sign_found cs))
    (λ _. number_found (c ∷ cs)))) h

-- each byte of a name and of a number
abbrev pub is_word : ℕ → Bool
is_word c = continues_name c || c == 45

begins_word : (c : ℕ) → begins_name c ≡ true → is_word c ≡ true
begins_word c h = grind (arith, nat_tests)

continues_word : (c : ℕ) → continues_name c ≡ true → is_word c ≡ true
continues_word c h = grind (arith, nat_tests)

digit_word : (c : ℕ) → is_ascii_digit c ≡ true → is_word c ≡ true
digit_word c h = grind (arith, nat_tests)

hex_word : (c : ℕ) → is_ascii_hexdigit c ≡ true → is_word c ≡ true
hex_word c h = grind (arith, nat_tests)

magnitude_word : (text : List ℕ) (n : ℕ) → IsMagnitude text n → Passes is_word text
magnitude_word text n (inl h) = all_by _ _ digit_word text (numeral_passes text h.0.1)
magnitude_word text n (inr (ds, e, h, v)) = rw e (refl, (refl, all_by _ _ hex_word ds (hex_passes ds h.1)))

-- a token is a name or a number, or one mark
pub token_bytes : (token : List ℕ) → IsToken token → Passes is_word token ⊎ IsMark token
token_bytes [] (inl name) = absurd name
token_bytes (c ∷ cs) (inl name) = inl (begins_word c name.0, all_by _ _ continues_word cs name.1)
token_bytes token (inr (inl (z, inl (n, h, e)))) = inl (magnitude_word token n h)
token_bytes token (inr (inl (z, inr (n, digits, e, h, v)))) = inl (rw e (refl, magnitude_word digits n h))
token_bytes token (inr (inr mark)) = inr mark

word_begins : (c : ℕ) → is_word c ≡ true → is_space c ≡ false
word_begins c h = grind (arith, nat_tests)

mark_begins : (c : ℕ) → is_mark c ≡ true → is_space c ≡ false
mark_begins c h = grind (arith, nat_tests)

-- a token doesn't begin with a space
pub token_begins : (token : List ℕ) → IsToken token → (c : ℕ) × (cs : List ℕ) × (token ≡ c ∷ cs) × (is_space c ≡ false)
token_begins [] is_token = absurd (omega (arith, token_within [] [] is_token))
token_begins (c ∷ cs) is_token = (
  c,
  cs,
  refl,
  elim (token_bytes (c ∷ cs) is_token) [
    | inl word ↦ word_begins c word.0
    | inr (d, mark, e) ↦ let same : d ≡ c = cc in subst (λ x. is_space x ≡ false) same (mark_begins d mark)
  ],
)

magnitude_len-le : (text : List ℕ) → magnitude_len text ≤ length text
magnitude_len-le text =
    ⊎_elim
    (λ e. let shape = begins_hex_shape text e in
    let rest_len : length (drop 2 text) + 2 ≡ length text = rw shape.2 (omega arith) in
    omega (arith, magnitude_hex text e, prefix_len-le-length is_ascii_hexdigit (drop 2 text)))
    (λ e. omega (arith, magnitude_decimal text e, prefix_len-le-length is_ascii_digit text))
    (cases_Bool (begins_hex text))

after_sign-le : (n m : ℕ) → n ≤ m → after_sign n ≤ suc m
after_sign-le zero m h = omega arith
after_sign-le (suc n) m h = omega (arith, after_sign_more (suc n) (omega arith))

pub token_len-le : (text : List ℕ) → token_len text ≤ length text
unfolding token_len
token_len-le [] = omega arith
token_len-le (c ∷ cs) =
    let P : ℕ → Type 0 = λ k. k ≤ suc (length cs) in
    cond_both (begins_name c) _ _ P (λ _. omega (arith, prefix_len-le-length continues_name cs))
    (λ _. cond_both (is_mark c) _ _ P (λ _. omega arith)
    (λ _. cond_both (c == 45) _ _ P (λ _. after_sign-le _ _ (magnitude_len-le cs)) (λ _. magnitude_len-le (c ∷ cs))))

abbrev pub AllAscii : List ℕ → Type 0
AllAscii text = AllByRecursion (λ c. c < 128) text

word_ascii : (c : ℕ) → is_word c ≡ true → c < 128
word_ascii c h = grind (arith, nat_tests)

mark_ascii : (c : ℕ) → is_mark c ≡ true → c < 128
mark_ascii c h = grind (arith, nat_tests)

space_ascii : (c : ℕ) → is_space c ≡ true → c < 128
space_ascii c h = grind (arith, nat_tests)

pub token_ascii : (token : List ℕ) → IsToken token → AllAscii token
token_ascii token is_token = elim (token_bytes token is_token) [
  | inl word ↦ all_by _ (λ c. c < 128) word_ascii token word
  | inr (c, mark, e) ↦ rw e (mark_ascii c mark, tt)
]

pub blank_ascii : (text : List ℕ) → IsBlank text → AllAscii text
blank_ascii text h = all_by _ (λ c. c < 128) space_ascii text h

last_ascii : (c : ℕ) (cs rest : List ℕ) → AllAscii (c ∷ cs) → get_or ((c ∷ cs) ++ rest) (length cs) 0 < 128
last_ascii c [] rest h = h.0
last_ascii c (d ∷ ds) rest h = last_ascii d ds rest h.1

-- an ASCII front of a text may be cut off
pub cut_after_ascii : (front text : List ℕ) → IsUtf8 text → AllAscii front → (rest : List ℕ) → text ≡ front ++ rest → IsCharBoundary text (length front)
cut_after_ascii [] text u h rest e = IsCharBoundary-start text u
cut_after_ascii (c ∷ cs) text u h rest e =
    let last : get_or text (length cs) 0 < 128 = rw e (last_ascii c cs rest h) in
    let within : length cs < length text = rw e (omega (arith, length-append (c ∷ cs) rest)) in
    let is_suc : length cs + 1 ≡ suc (length cs) = omega arith in
    subst (IsCharBoundary text) is_suc (IsCharBoundary-after_ascii text (length cs) u within last)
