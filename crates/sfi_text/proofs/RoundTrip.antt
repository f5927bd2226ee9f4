-- A printed instruction reads back, word by word.
use Rattle.sfi_text.proofs.Prelude.{◌≡◌, ℕ, ◌≤◌, Bool, true, false, ◌||◌, List, [], ◌∷◌, ◌++◌, length, length-append, ◌⊎◌, inl, inr, ⊎_elim, refl, sym, ap, ◌∙◌, subst, arith, AllByRecursion, nat_tests, false≢true, is_space, IsBlank, is_mark, IsToken, Takes, token_len, ◌<◌, ◌^◌, suc, ℤ, pos, negsuc, codes, ints, Mnemonic, NumberKind, Upper, IsNumber, continues_name, name_of, IsNumberOf, number_text, nat_lt, ◌&&◌, flat_map, and_parts, Instr, InRange, OperandPart, Rd, Rs1, Rs2, Number, Name, Mode, ImageFormat, Comma, Open, Close, operand_parts, OperandValues, Stands, SaysFormat, mode_name, Reads, AllSuit, slot, mnemonic_of, operands_of, Means, format_name, part_text, operands_text, printed, PrintedReadsBack}
use Rattle.sfi_text.proofs.Lexing.{all_by, is_word, token_bytes, token_within, token_at_mark, numeral_passes}
use Rattle.sfi_text.specs.Tokens.{x_name}
use Rattle.sfi_text.specs.private.Reading.{IsInReach}
use Rattle.std.proofs.lemmas.Fmt.{decimal_is_IsNumeral, digits_is_IsNumeral}
use Rattle.std.specs.Char.{is_ascii_digit}
use Rattle.std.specs.Fmt.{decimal, signed_decimal, digits}
use Rattle.sfi_text.proofs.NameTables.{name_is_name}
use Rattle.sfi_text.proofs.Numbers.{kind_in_reach}
use Rattle.std.proofs.lemmas.List.{append-nil}
use Rattle.sfi_text.specs.declared.mnemonic.Mnemonic.TheVariants as mnemonic
use Rattle.sfi_text.proofs.Forms.{in_range_fits}
use Rattle.sfi_text.proofs.Meaning.{means}
use Rattle.sfi_formats.specs.declared.format.Format.{Format}
use Rattle.sfi_formats.specs.declared.format.Format.TheVariants.{Sfi1, Sfi2, Sfiw, Sfis}

-- ==== Where a token ends: at a mark, at a space, at the end of the text.

-- a mark or a space ends the token before it
abbrev pub ends_word : ℕ → Bool
ends_word c = is_mark c || is_space c

abbrev Plain : List ℕ → Type 0
Plain text = AllByRecursion (λ c. ends_word c ≡ false) text

word_plain : (c : ℕ) → is_word c ≡ true → ends_word c ≡ false
word_plain c h = grind (arith, nat_tests)

-- a token is one mark, or has none and no space
token_plain : (token : List ℕ) → IsToken token → Plain token ⊎ (length token ≡ 1)
token_plain token is_token = elim (token_bytes token is_token) [
  | inl word ↦ inl (all_by _ (λ c. ends_word c ≡ false) word_plain token word)
  | inr (c, mark, e) ↦ inr (ap length e ∙ omega arith)
]

-- what is plain goes no further than the first byte that ends a word
plain_within : (token other more rest : List ℕ) (c : ℕ) → token ++ (c ∷ rest) ≡ other ++ more → ends_word c ≡ true → Plain other → length other ≤ length token
plain_within token [] more rest c e h p = omega arith
plain_within [] (d ∷ other) more rest c e h p = let same : c ≡ d = cc in let f : ends_word c ≡ false = subst (λ x. ends_word x ≡ false) (sym same) p.0 in absurd (false≢true (sym f ∙ h))
plain_within (t ∷ token) (d ∷ other) more rest c e h p = let same : token ++ (c ∷ rest) ≡ other ++ more = cc in omega (arith, plain_within token other more rest c same h p.1)

-- nothing follows, or a mark or a space
abbrev pub Ends : List ℕ → Type 0
Ends [] = Unit {0}
Ends (c ∷ cs) = ends_word c ≡ true

front_longest : (token more other rest : List ℕ) → Ends more → IsToken token → token ++ more ≡ other ++ rest → IsToken other → length other ≤ length token
front_longest token [] other rest ends is_token e other_is = omega (arith, ap length e, length-append token [], length-append other rest)
front_longest token (c ∷ cs) other rest ends is_token e other_is =
    ⊎_elim
    (λ p. plain_within token other rest cs c e ends p)
    (λ one. omega (arith, one, token_within token [] is_token))
    (token_plain other other_is)

-- a token that a mark or a space follows, or nothing, is the longest that stands there
pub takes_word : (gap token more : List ℕ) → IsBlank gap → IsToken token → Ends more → Takes (gap ++ (token ++ more)) token more
takes_word gap token more blank is_token ends = record {
  gap = gap;
  blank = blank;
  whole = refl;
  is_token = is_token;
  longest = λ other rest e other_is. front_longest token more other rest ends is_token e other_is;
}

mark_longest : (c : ℕ) (more other rest : List ℕ) → is_mark c ≡ true → c ∷ more ≡ other ++ rest → IsToken other → length other ≤ 1
mark_longest c more other rest mark e other_is =
    omega (arith, token_within other rest other_is, ap token_len e, token_at_mark c more mark)

-- a mark is the longest token that stands there, whatever follows it
pub takes_mark : (gap : List ℕ) (c : ℕ) (more : List ℕ) → IsBlank gap → is_mark c ≡ true → Takes (gap ++ (c ∷ more)) (c ∷ []) more
takes_mark gap c more blank mark = record {
  gap = gap;
  blank = blank;
  whole = refl;
  is_token = inr (inr (c, mark, refl));
  longest = λ other rest e other_is. mark_longest c more other rest mark e other_is;
}

-- ==== What a printed word of each kind is: a name, a register, a decimal or a hexadecimal number.

pub name_token : (m : Mnemonic) → IsToken (name_of m)
name_token m = inl (name_is_name m)

digit_continues : (c : ℕ) → is_ascii_digit c ≡ true → continues_name c ≡ true
digit_continues c h = grind (arith, nat_tests)

pub register_token : (r : ℕ) → r < 32 → IsToken (x_name r)
register_token r lt =
    let numeral = decimal_is_IsNumeral r (omega arith) in
    inl (refl, all_by _ _ digit_continues (decimal r) (numeral_passes (decimal r) numeral.0.1))

decimal_number : (z : ℤ) → IsInReach z → IsNumber (signed_decimal z) z
decimal_number (pos n) h = let numeral = decimal_is_IsNumeral n (omega (arith, ints)) in inl (n, inl (numeral.0, sym numeral.1), refl)
decimal_number (negsuc n) h =
    let numeral = decimal_is_IsNumeral (suc n) (omega (arith, ints)) in
    inr (suc n, decimal (suc n), refl, inl (numeral.0, sym numeral.1), refl)

hex_number : (n : ℕ) → n < 16 ^ 64 → IsNumber (codes "0x" ++ digits 16 false n) (pos n)
hex_number n h =
    let numeral = digits_is_IsNumeral 16 false (omega arith) (omega arith) n h in
    inl (n, inr (digits 16 false n, refl, numeral.0, sym numeral.1), refl)

upper_small : (n : ℕ) → IsNumberOf Upper (pos n) → n < 16 ^ 64
upper_small n h = omega (arith, ints)

-- a printed number writes that number
pub printed_number : (kind : NumberKind) (z : ℤ) → IsNumberOf kind z → IsNumber (number_text kind z) z
printed_number Upper (pos n) h = hex_number n (upper_small n h)
printed_number Upper (negsuc n) h = decimal_number (negsuc n) (kind_in_reach Upper (negsuc n) h)
printed_number other z h = decimal_number z (kind_in_reach other z h)

-- ==== A printed instruction reads back, part by part.

abbrev is_mark_part : OperandPart → Bool
is_mark_part part = nat_lt 6 (slot part)

-- the form begins with a mark, if with anything
abbrev may_follow : List OperandPart → Bool
may_follow [] = true
may_follow (part ∷ form) = is_mark_part part

-- no two words stand side by side
abbrev is_spaced : List OperandPart → Bool
is_spaced [] = true
is_spaced (part ∷ form) = (is_mark_part part || may_follow form) && is_spaced form

form_is_spaced : (m : Mnemonic) → is_spaced (operand_parts m) ≡ true
form_is_spaced (mnemonic.Op op) = refl
form_is_spaced _ = refl

operands_end : (o : OperandValues) (form : List OperandPart) → may_follow form ≡ true → Ends (flat_map (part_text o) form)
operands_end o [] h = tt
operands_end o (Comma ∷ form) h = refl
operands_end o (Open ∷ form) h = refl
operands_end o (Close ∷ form) h = refl
operands_end o _ h = cc

-- after blanks the printed operands of a form read as those operands
module _ (o : OperandValues) (form : List OperandPart) (gap : List ℕ) (blank : IsBlank gap) where
  -- a printed word, and then what follows it
  word_reads : (part : OperandPart) → IsToken (part_text o part) → Stands o part (part_text o part) → may_follow form ≡ true → Reads o form (flat_map (part_text o) form) → Reads o (part ∷ form) (gap ++ (part_text o part ++ flat_map (part_text o) form))
  word_reads part is_token stands follows reads =
      (part_text o part, flat_map (part_text o) form, takes_word gap (part_text o part) _ blank is_token (operands_end o form follows), stands, reads)

mode_token : (rvc : Bool) → IsToken (mode_name rvc)
mode_token true = inl (refl, (refl, (refl, tt)))
mode_token false = inl (refl, (refl, (refl, (refl, (refl, tt)))))

format_says : (f : Format) → SaysFormat (format_name f) f
format_says Sfi1 = inl (1, inl ((omega arith, (omega arith, tt)), refl), refl)
format_says Sfi2 = inl (2, inl ((omega arith, (omega arith, tt)), refl), refl)
format_says Sfiw = refl
format_says Sfis = refl

format_token : (f : Format) → IsToken (format_name f)
format_token Sfi1 = inr (inl (pos 1, format_says Sfi1))
format_token Sfi2 = inr (inl (pos 2, format_says Sfi2))
format_token Sfiw = inl (refl, (refl, (refl, (refl, (refl, tt)))))
format_token Sfis = inl (refl, (refl, (refl, (refl, (refl, (refl, tt))))))

pub reads_printed : (o : OperandValues) (form : List OperandPart) (gap : List ℕ) → IsBlank gap → is_spaced form ≡ true → AllSuit o form → Reads o form (gap ++ flat_map (part_text o) form)
reads_printed o [] gap blank spaced fits = subst IsBlank (sym (append-nil gap)) blank
reads_printed o (Comma ∷ form) gap blank spaced fits =
    (codes ",", codes " " ++ flat_map (part_text o) form, takes_mark gap 44 _ blank refl, refl, reads_printed o form (codes " ") (refl, tt) spaced fits.1)
reads_printed o (Open ∷ form) gap blank spaced fits =
    (codes "(", flat_map (part_text o) form, takes_mark gap 40 _ blank refl, refl, reads_printed o form [] tt spaced fits.1)
reads_printed o (Close ∷ form) gap blank spaced fits =
    (codes ")", flat_map (part_text o) form, takes_mark gap 41 _ blank refl, refl, reads_printed o form [] tt spaced fits.1)
reads_printed o (Rd ∷ form) gap blank spaced fits =
    let parts = and_parts _ _ spaced in
    word_reads o form gap blank Rd (register_token o.rd fits.0) (fits.0, inl refl) parts.0 (reads_printed o form [] tt parts.1 fits.1)
reads_printed o (Rs1 ∷ form) gap blank spaced fits =
    let parts = and_parts _ _ spaced in
    word_reads o form gap blank Rs1 (register_token o.rs1 fits.0) (fits.0, inl refl) parts.0 (reads_printed o form [] tt parts.1 fits.1)
reads_printed o (Rs2 ∷ form) gap blank spaced fits =
    let parts = and_parts _ _ spaced in
    word_reads o form gap blank Rs2 (register_token o.rs2 fits.0) (fits.0, inl refl) parts.0 (reads_printed o form [] tt parts.1 fits.1)
reads_printed o (Number kind ∷ form) gap blank spaced fits =
    let parts = and_parts _ _ spaced in
    let number = printed_number kind o.number fits.0 in
    word_reads o form gap blank (Number kind) (inr (inl (o.number, number))) (number, fits.0) parts.0 (reads_printed o form [] tt parts.1 fits.1)
reads_printed o (Name ∷ form) gap blank spaced fits =
    let parts = and_parts _ _ spaced in
    word_reads o form gap blank Name (inl fits.0.0.0) (fits.0.0, fits.0.1, refl) parts.0 (reads_printed o form [] tt parts.1 fits.1)
reads_printed o (Mode ∷ form) gap blank spaced fits =
    let parts = and_parts _ _ spaced in
    word_reads o form gap blank Mode (mode_token o.compressed) refl parts.0 (reads_printed o form [] tt parts.1 fits.1)
reads_printed o (ImageFormat ∷ form) gap blank spaced fits =
    let parts = and_parts _ _ spaced in
    word_reads o form gap blank ImageFormat (format_token o.format) (format_says o.format) parts.0 (reads_printed o form [] tt parts.1 fits.1)

-- after the name stand nothing, or a space and the operands
after_name_ends : (o : OperandValues) (form : List OperandPart) → Ends (operands_text o form)
after_name_ends o [] = tt
after_name_ends o (part ∷ form) = refl

after_name_reads : (o : OperandValues) (form : List OperandPart) → is_spaced form ≡ true → AllSuit o form → Reads o form (operands_text o form)
after_name_reads o [] spaced fits = tt
after_name_reads o (part ∷ form) spaced fits = reads_printed o (part ∷ form) (codes " ") (refl, tt) spaced fits

pub reads_back : PrintedReadsBack
reads_back i h =
    let name = mnemonic_of i in
    let o = operands_of i in
    let takes : Takes (printed i) (name_of name) (operands_text o (operand_parts name)) = takes_word [] (name_of name) _ tt (name_token name) (after_name_ends o (operand_parts name)) in
    means (printed i) (name_of name) (operands_text o (operand_parts name)) i takes (refl, inl (after_name_reads o (operand_parts name) (form_is_spaced name) (in_range_fits i h)))

-- a text that is printed means its instruction
pub printed_means : (text : List ℕ) (i : Instr) → text ≡ printed i → InRange i → Means text i
printed_means text i e in_range = subst (λ t. Means t i) (sym e) (reads_back i in_range)
