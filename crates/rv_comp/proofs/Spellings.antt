-- The first bytes of a list, and the one spelling that a list begins with.
use Rattle.rv_word.specs.Spelling.{length_of, bits}
use Rattle.rv_word.specs.declared.length.Length.{Length}
use Rattle.rv_word.specs.declared.length.Length.TheVariants.{Wide, Longer, Short}
use Rattle.std.proofs.lemmas.List.{length-take}
use Rattle.rv_comp.proofs.Exact.{decoded_only}
use Rattle.rv_word.proofs.Facts.{spellings_are_wide, one_spelling}
use Rattle.rv_word.specs.declared.instr.Instr.TheVariants.{Ecall}
use Rattle.rv_comp.proofs.Prelude.{◌≡◌, ℕ, ◌%◌, ◌^◌, ◌<◌, ◌≤◌, refl, ap, subst, sym, ◌∙◌, Option, Some, None, List, [], ◌∷◌, length, get_or, take, arith, ◌≢◌, ne_eqb, and_mask, bit_and, w16, w32, from_le_bytes, Instr, IsWordOf, IsShortSpelling, decoded, SpellsShort, SpellsWide, Form16, inl, inr, slice_index, expansion, OneSpelling, TwoLengths, EcallIsWide, CEbreak, InRange, spelling, Spells, to_le_bytes, from_le_bytes-to_le_bytes_4}

-- ==== The first bytes of a list, the halfword and the word that they are, and what their low bits tell.

-- ---- lists

abbrev pub first_two : List ℕ → List ℕ
first_two bs = get_or bs 0 0 ∷ get_or bs 1 0 ∷ []

abbrev pub first_four : List ℕ → List ℕ
first_four bs = get_or bs 0 0 ∷ get_or bs 1 0 ∷ get_or bs 2 0 ∷ get_or bs 3 0 ∷ []

pub two_bytes : (bs : List ℕ) → 2 ≤ length bs → take 2 bs ≡ first_two bs
two_bytes [] h = absurd (omega arith)
two_bytes (a ∷ []) h = absurd (omega arith)
two_bytes (a ∷ b ∷ bs) h = refl

pub four_bytes : (bs : List ℕ) → 4 ≤ length bs → take 4 bs ≡ first_four bs
four_bytes [] h = absurd (omega arith)
four_bytes (a ∷ []) h = absurd (omega arith)
four_bytes (a ∷ b ∷ []) h = absurd (omega arith)
four_bytes (a ∷ b ∷ c ∷ []) h = absurd (omega arith)
four_bytes (a ∷ b ∷ c ∷ d ∷ bs) h = refl

begins : (a b c d : ℕ) → a < 256 → b < 256 → from_le_bytes w32 (a ∷ b ∷ c ∷ d ∷ []) % 2 ^ 16 ≡ from_le_bytes w16 (a ∷ b ∷ [])
begins a b c d la lb = omega arith

-- a word's low half is the halfword that begins it
word_begins : (bs : List ℕ) (first : ℕ) → ((k : ℕ) → get_or bs k 0 < 256) → first ≡ from_le_bytes w16 (first_two bs) → from_le_bytes w32 (first_four bs) % 2 ^ 16 ≡ first
word_begins bs first small e = begins (get_or bs 0 0) (get_or bs 1 0) (get_or bs 2 0) (get_or bs 3 0) (small 0) (small 1) ∙ sym e

-- the low half of a word, cut out by a mask
pub low_half : (bs : List ℕ) (word : ℕ) → ((k : ℕ) → get_or bs k 0 < 256) → word ≡ from_le_bytes w32 (first_four bs) → bit_and word 65535 ≡ from_le_bytes w16 (first_two bs)
low_half bs word small e = and_mask word 16 ∙ ap (λ (w : ℕ). w % 2 ^ 16) e ∙ word_begins bs (from_le_bytes w16 (first_two bs)) small refl

at_least : (n : ℕ) (bs : List ℕ) → length (take n bs) ≤ length bs
at_least n bs = rw length-take (omega arith)

pub short_long : (bs : List ℕ) (n : ℕ) (i : Instr) → SpellsShort (take n bs) i n → 2 ≤ length bs
short_long bs n i s = let l = at_least n bs in let e = s.all in omega arith

pub wide_long : (bs : List ℕ) (n : ℕ) (i : Instr) → SpellsWide (take n bs) i n → 4 ≤ length bs
wide_long bs n i s = let l = at_least n bs in let e = s.all in omega arith

pub short_at : (bs : List ℕ) (n first : ℕ) (i : Instr) → 2 ≤ length bs → first ≡ from_le_bytes w16 (first_two bs) → SpellsShort (take n bs) i n → IsShortSpelling first i
short_at bs n first i long e s =
    let t : take n bs ≡ first_two bs = ap (λ (k : ℕ). take k bs) s.size ∙ two_bytes bs long in
    subst (λ (h : ℕ). IsShortSpelling h i) (ap (from_le_bytes w16) t ∙ sym e) s.spelled

pub wide_at : (bs : List ℕ) (n : ℕ) (i : Instr) → SpellsWide (take n bs) i n → IsWordOf (from_le_bytes w32 (first_four bs)) i
wide_at bs n i s =
    let t : take n bs ≡ first_four bs = ap (λ (k : ℕ). take k bs) s.size ∙ four_bytes bs (wide_long bs n i s) in
    subst (λ (w : ℕ). IsWordOf w i) (ap (from_le_bytes w32) t) s.spelled

-- ---- what the low bits tell

decoded_three : (h : ℕ) → bits h 1 0 ≡ 3 → decoded h ≡ None
unfolding decoded
decoded_three h e = rw e refl

pub none_some : (f : Form16) (o : Option Form16) → o ≡ None → o ≡ Some f → ⊥
none_some f o a b = cc

-- a short spelling doesn't end in 11
short_low : (h : ℕ) (i : Instr) → IsShortSpelling h i → bits h 1 0 ≢ 3
short_low h i s = λ three. none_some s.form (decoded h) (decoded_three h three) (decoded_only h s.form s.gives)

pub short_length : (h : ℕ) (i : Instr) → IsShortSpelling h i → length_of h ≡ Short
short_length h i s = rw (ne_eqb (bits h 1 0) 3 (short_low h i s)) refl

-- a word that spells an instruction begins with a halfword that tells 32 bits
pub wide_length : (word first : ℕ) (i : Instr) → IsWordOf word i → word % 2 ^ 16 ≡ first → length_of first ≡ Wide
wide_length word first i w e = ap length_of (sym e) ∙ (spellings_are_wide word i w).1

pub not_both : (l : Length) → l ≡ Short → l ≡ Wide → ⊥
not_both l a b = cc

pub not_short_longer : (l : Length) → l ≡ Short → l ≡ Longer → ⊥
not_short_longer l a b = cc

pub not_wide_longer : (l : Length) → l ≡ Wide → l ≡ Longer → ⊥
not_wide_longer l a b = cc

-- two halfwords with the same low byte have the same length
pub same_length : (h k : ℕ) → h % 256 ≡ k % 256 → length_of h ≡ length_of k
same_length h k e =
    let low : bits h 1 0 ≡ bits k 1 0 = omega arith in
    let middle : bits h 4 2 ≡ bits k 4 2 = omega arith in
    rw (low, middle) refl

-- the first halfword tells the length of the word that begins with it
pub wide_first : (bs : List ℕ) (n first : ℕ) (i : Instr) → first ≡ from_le_bytes w16 (first_two bs) → SpellsWide (take n bs) i n → length_of first ≡ Wide
wide_first bs n first i e s =
    let word = from_le_bytes w32 (first_four bs) in
    same_length first (word % 2 ^ 16) (omega arith) ∙ (spellings_are_wide word i (wide_at bs n i s)).1

-- ==== A list of bytes begins with at most one spelling.

pub some_one : (o : Option Form16) (f g : Form16) → o ≡ Some f → o ≡ Some g → f ≡ g
some_one o f g a b = cc

-- a halfword has one short spelling
pub short_one : (h k : ℕ) (i j : Instr) → IsShortSpelling h i → IsShortSpelling k j → h ≡ k → i ≡ j
short_one h k i j s t e =
    let f = decoded_only h s.form s.gives in
    let g = decoded_only k t.form t.gives in
    let same = some_one (decoded h) s.form t.form f (ap decoded e ∙ g) in
    sym s.expands ∙ ap expansion same ∙ t.expands

word_one : (v w : ℕ) (i j : Instr) → IsWordOf v i → IsWordOf w j → v ≡ w → i ≡ j
word_one v w i j s t e = one_spelling v i j s (subst (λ (x : ℕ). IsWordOf x j) (sym e) t)

abbrev AgreeBelow : ℕ → List ℕ → List ℕ → Type 0
AgreeBelow n xs ys = (k : ℕ) → k < n → slice_index xs k ≡ slice_index ys k

same_halfword : (xs ys : List ℕ) → AgreeBelow 2 xs ys → from_le_bytes w16 xs ≡ from_le_bytes w16 ys
same_halfword xs ys same =
    let e0 = same 0 (omega arith) in
    let e1 = same 1 (omega arith) in
    omega arith

same_word : (xs ys : List ℕ) → AgreeBelow 4 xs ys → from_le_bytes w32 xs ≡ from_le_bytes w32 ys
same_word xs ys same =
    let e0 = same 0 (omega arith) in
    let e1 = same 1 (omega arith) in
    let e2 = same 2 (omega arith) in
    let e3 = same 3 (omega arith) in
    omega arith

-- the first byte tells the length
apart : (xs ys : List ℕ) (i j : Instr) → IsShortSpelling (from_le_bytes w16 xs) i → IsWordOf (from_le_bytes w32 ys) j → slice_index xs 0 ≡ slice_index ys 0 → ⊥
apart xs ys i j s t e =
    let short = short_length (from_le_bytes w16 xs) i s in
    let wide = wide_length (from_le_bytes w32 ys) (from_le_bytes w32 ys % 2 ^ 16) j t refl in
    let same = same_length (from_le_bytes w16 xs) (from_le_bytes w32 ys % 2 ^ 16) (omega arith) in
    not_both _ short (same ∙ wide)

pub spelled_one : OneSpelling
spelled_one xs ys i j m n (inl s) (inl t) same =
    let agree : AgreeBelow 2 xs ys = λ k h. same k (let size = s.size in omega arith) (let size = t.size in omega arith) in
    (short_one _ _ i j s.spelled t.spelled (same_halfword xs ys agree), s.size ∙ sym t.size)
spelled_one xs ys i j m n (inl s) (inr t) same =
    absurd (apart xs ys i j s.spelled t.spelled (same 0 (let size = s.size in omega arith) (let size = t.size in omega arith)))
spelled_one xs ys i j m n (inr s) (inl t) same =
    absurd (apart ys xs j i t.spelled s.spelled (sym (same 0 (let size = s.size in omega arith) (let size = t.size in omega arith))))
spelled_one xs ys i j m n (inr s) (inr t) same =
    let agree : AgreeBelow 4 xs ys = λ k h. same k (let size = s.size in omega arith) (let size = t.size in omega arith) in
    (word_one _ _ i j s.spelled t.spelled (same_word xs ys agree), s.size ∙ sym t.size)

pub spelled_lengths : TwoLengths
spelled_lengths bytes i n (inl s) = inl s.size
spelled_lengths bytes i n (inr s) = inr s.size

no_ecall : (f : Form16) → expansion f ≡ Ecall → ⊥
no_ecall CEbreak e = cc
no_ecall _ e = cc

pub ecall_length : EcallIsWide
ecall_length bytes n (inl s) = let f = s.spelled in absurd (no_ecall f.form f.expands)
ecall_length bytes n (inr s) = s.size

-- the bytes of an instruction's word spell it
pub word_spells : (i : Instr) → InRange i → Spells (to_le_bytes w32 (spelling i)) i 4
word_spells i ok = inr (record {
  size = refl;
  all = refl;
  spelled = (ok, from_le_bytes-to_le_bytes_4 (spelling i) (spellings_are_wide (spelling i) i (ok, refl)).0);
})

pub spelled_length : (bytes : List ℕ) (i : Instr) (n : ℕ) → Spells bytes i n → length bytes ≡ n
spelled_length bytes i n (inl s) = s.all ∙ sym s.size
spelled_length bytes i n (inr s) = s.all ∙ sym s.size

pub spelled_some : (bytes : List ℕ) (i : Instr) (n : ℕ) → Spells bytes i n → 0 < n
spelled_some bytes i n (inl s) = omega (arith, s.size)
spelled_some bytes i n (inr s) = omega (arith, s.size)
