-- The tables of pairs and of halfwords that compute, seen right at each.
use Rattle.sfi_scan.specs.declared.tables.TheConstants.{MASKING, PLACING}
use Rattle.sfi_scan.proofs.FirstLook.{pair_told}
use Rattle.rv_comp.specs.mirror.{extended, jump_offset, branch_offset, row_of, jump, jump_or_stop, outlined}
use Rattle.sfi_scan.specs.declared.tables.TheConstants.{COMPUTING}
use Rattle.sfi_scan.specs.private.Blocks.{IsFreeHalf}
use Rattle.rv_comp.proofs.Facts.{halfwords_are_outlined}
use Rattle.sfi_scan.proofs.Prelude.{◌≡◌, ℕ, ◌+◌, ◌*◌, ◌/◌, ◌%◌, ◌^◌, ◌<◌, Bool, true, false, ◌&&◌, ◌||◌, not, ◌==◌, List, refl, sym, ap, ap₂, ◌∙◌, arith, bit_and, slice_index, nat_eq, OnTrue, agree_below_at, and_parts, eqb-true, and_mask, and_block, and_le_r, Instr, Op, And, Or, spelling, InRange, IsWordOf, is_reserved, follows_pair, AreBefore, near, subst, Option, Some, IfSome, ◌≢◌, agree_below, ne_eqb, outline, has_stack, may_access, IsCleanOne, is_clean, is_clean_access, is_protected, BundlePlace, Before, Load, Store, IsHalfwordThat, access, IsAccessOf, Access, Outline, Computes, Words, not-true}

-- ==== The tables of the pairs on each register, seen right at each.

-- a register's entries are the words of its pair, or it may have none
abbrev is_target : ℕ → Bool
is_target t = not (t == 0) && not (is_reserved t)

unfoldable is_right : ℕ → Bool
is_right t =
    (slice_index MASKING t == 0xffff_ffff)
    || (is_target t && ((slice_index MASKING t == spelling (Op And t 0 27)) && (slice_index PLACING t == spelling (Op Or t t 26))))

all_right : (t : ℕ) → t < 32 → is_right t ≡ true
unfolding is_right spelling
all_right t h = agree_below_at is_right (λ k. true) 32 t refl h

-- ---- a word without its bits 19:15

abbrev pub kept : ℕ
kept = 0xfff0_7fff

pub without_any : (n : ℕ) → n < 2 ^ 32 → bit_and n kept ≡ n / 2 ^ 20 * 2 ^ 20 + n % 2 ^ 15
without_any n h =
    let high = n / 2 ^ 20 in
    let low = n % 2 ^ 20 in
    let split : n ≡ high * 2 ^ 20 + low = omega arith in
    let first : bit_and high 4095 ≡ high = and_mask high 12 ∙ omega (arith, h) in
    let second : bit_and low 32767 ≡ n % 2 ^ 15 = and_mask low 15 ∙ omega arith in
    ap (λ m. bit_and m kept) split ∙ and_block 20 high 4095 low 32767 (omega arith) (omega arith) ∙ ap₂ (λ a b. a * 2 ^ 20 + b) first second

abbrev pub any_of : ℕ → ℕ
any_of n = n / 2 ^ 15 % 32

pub masking_word : (word t : ℕ) → word < 2 ^ 32 → t < 32 → bit_and word kept ≡ spelling (Op And t 0 27) → IsWordOf word (Op And t (any_of word) 27)
unfolding spelling InRange
masking_word word t h lt e =
    let is = sym (without_any word h) ∙ e in
    ((lt, omega arith, omega arith), omega (arith, is))

placing_word : (word t : ℕ) → t < 32 → word ≡ spelling (Op Or t t 26) → IsWordOf word (Op Or t t 26)
unfolding InRange
placing_word word t lt e = ((lt, lt, omega arith), e)

too_large : (word : ℕ) → bit_and word kept ≡ 0xffff_ffff → ⊥
too_large word e = let le = and_le_r word kept in omega (arith, le, e)

pub second : (a b : Bool) → a ≡ false → (a || b) ≡ true → b ≡ true
second true b e h = cc
second false b e h = h

words_told : (words_first words_second t : ℕ) → words_first < 2 ^ 32 → t < 32
    → bit_and words_first kept ≡ slice_index MASKING t → words_second ≡ slice_index PLACING t
    → (earlier : List Instr) → AreBefore (record { first = words_first; second = words_second }) (near earlier) → follows_pair 27 26 t earlier ≡ true
unfolding is_right
words_told first last t fits lt masking placing earlier are = by (slice_index MASKING t == 0xffff_ffff) refl
  where
    by : (none : Bool) → (slice_index MASKING t == 0xffff_ffff) ≡ none → follows_pair 27 26 t earlier ≡ true
    by true f = absurd (too_large first (masking ∙ eqb-true _ _ f))
    by false f =
        let right = second _ _ f (all_right t lt) in
        let both = and_parts (is_target t) _ right in
        let words = and_parts (slice_index MASKING t == spelling (Op And t 0 27)) (slice_index PLACING t == spelling (Op Or t t 26)) both.1 in
        pair_told (record { first = first; second = last }) 27 26 t (any_of first)
        (masking_word first t fits lt (masking ∙ eqb-true _ _ words.0)) (placing_word last t lt (placing ∙ eqb-true _ _ words.1))
        true (sym both.0) earlier are

pub data_pair_told : (first last t place : ℕ) → place ≡ t → first < 2 ^ 32 → t < 32
    → bit_and first kept ≡ slice_index MASKING place → (b : Bool) → b ≡ nat_eq last (slice_index PLACING place)
    → (earlier : List Instr) → AreBefore (record { first = first; second = last }) (near earlier) → OnTrue b (follows_pair 27 26 t earlier ≡ true)
data_pair_told first last t place is fits lt masking false e earlier are = tt
data_pair_told first last t place is fits lt masking true e earlier are =
    words_told first last t fits lt (masking ∙ ap (slice_index MASKING) is) (eqb-true _ _ (sym e) ∙ ap (slice_index PLACING) is) earlier are

-- ==== The table of halfwords that compute, seen right at each halfword.

-- the form computes into a register that is not reserved, and into x2 only where the halfword names
-- it in bits 11:7
abbrev is_free : Bool → Option Outline → Bool
is_free two (Some (Computes rd)) = not (is_reserved rd) && (not (rd == 2) || two)
is_free two _ = false

unfoldable passes : ℕ → ℕ → Bool
passes mask h = (bit_and h mask == 0) || is_free (h / 128 % 32 == 2) (outlined h)

abbrev halfword : ℕ → ℕ → ℕ
halfword p j = (p / 4) * 512 + j * 4 + p % 4

unfoldable row_passes : ℕ → ℕ → Bool
row_passes p mask = agree_below (λ j. passes mask (halfword p j)) (λ j. true) 128

unfoldable tables : Unit {0}
unfolding passes row_passes row_of jump jump_or_stop outlined extended jump_offset branch_offset
tables = tt

all_rows : agree_below (λ p. row_passes p (slice_index COMPUTING p)) (λ p. true) 512 ≡ true
unfolding tables
all_rows = refl

row_at : (p j : ℕ) → p < 512 → j < 128 → passes (slice_index COMPUTING p) (halfword p j) ≡ true
unfolding row_passes
row_at p j ps js =
    agree_below_at (λ k. passes (slice_index COMPUTING p) (halfword p k)) (λ k. true) 128 j
    (agree_below_at (λ q. row_passes q (slice_index COMPUTING q)) (λ q. true) 512 p all_rows ps) js

whole : (h : ℕ) → halfword (h / 512 * 4 + h % 4) (h / 4 % 128) ≡ h
whole h = omega arith

-- a register that is not reserved, and not x2 where that is a stack pointer, is not protected
not_protected : (b : BundlePlace) (rd : ℕ) (two : Bool) → not (is_reserved rd) ≡ true → (not (rd == 2) || two) ≡ true → (has_stack b.format && two) ≡ false → is_protected b rd ≡ false
not_protected b rd two free or none = by (is_reserved rd) (has_stack b.format) (rd == 2) two (not-true (is_reserved rd) free) or none
  where
    by : (r s x t : Bool) → r ≡ false → (not x || t) ≡ true → (s && t) ≡ false → (r || (s && x)) ≡ false
    by true s x t e f g = e
    by false false x t e f g = refl
    by false true false t e f g = refl
    by false true true true e f g = g
    by false true true false e f g = sym f

free_of : (b : BundlePlace) (h : ℕ) (o : Option Outline) → IfSome o (IsHalfwordThat h) → is_free (h / 128 % 32 == 2) o ≡ true
    → (has_stack b.format && (h / 128 % 32 == 2)) ≡ false → IsFreeHalf b h
free_of b h (Some (Computes rd)) is e none =
    let both = and_parts (not (is_reserved rd)) (not (rd == 2) || (h / 128 % 32 == 2)) e in
    record { rd = rd; does = is; free = not_protected b rd (h / 128 % 32 == 2) both.0 both.1 none }
free_of b h _ is e none = cc

pub free_half : (b : BundlePlace) (h : ℕ) → h < 2 ^ 16 → (bit_and h (slice_index COMPUTING (h / 512 * 4 + h % 4)) == 0) ≡ false
    → (has_stack b.format && (h / 128 % 32 == 2)) ≡ false → IsFreeHalf b h
unfolding passes
free_half b h lt some none =
    let p = h / 512 * 4 + h % 4 in
    let at : passes (slice_index COMPUTING p) h ≡ true = subst (λ k. passes (slice_index COMPUTING p) k ≡ true) (whole h) (row_at p (h / 4 % 128) (omega (arith, lt)) (omega arith)) in
    free_of b h (outlined h) (halfwords_are_outlined h lt).0 (second _ _ some at) none

-- what the code tells, where it tells it under r
pub free_told : (h : ℕ) → h < 2 ^ 16 → bit_and h (slice_index COMPUTING (h / 512 * 4 + bit_and h 3)) ≢ 0
    → (b : BundlePlace) (stack : Bool) → stack ≡ has_stack b.format → (r : Bool) → (r ≡ true → (stack && (h / 128 % 32 == 2)) ≡ false) → OnTrue r (IsFreeHalf b h)
free_told h lt some b stack is false none = tt
free_told h lt some b stack is true none =
    free_half b h lt (ap (λ k. bit_and h (slice_index COMPUTING (h / 512 * 4 + k)) == 0) (sym (and_mask h 2)) ∙ ne_eqb _ 0 some)
    (ap (λ s. s && (h / 128 % 32 == 2)) (sym is) ∙ none refl)

pub no_stack : (s t : Bool) → not s ≡ true → (s && t) ≡ false
no_stack true t e = cc
no_stack false t e = refl

pub other_register : (s : Bool) (h : ℕ) → not (bit_and (h / 128) 31 == 2) ≡ true → (s && (h / 128 % 32 == 2)) ≡ false
other_register false h e = refl
other_register true h e = ap (λ r. r == 2) (sym (and_mask (h / 128) 5)) ∙ not-true (bit_and (h / 128) 31 == 2) e

-- ---- what an outline tells

-- where the words before a place are told, so is what is clean there
pub clean_told : (b : BundlePlace) (at : ℕ) (are : Before → Type 0) (words : Words) (spell : Instr → Type 0) (o : Outline) (i : Instr) → spell i → outline i ≡ o
    → ((before : Before) → are before → AreBefore words before)
    → (r : Bool) → ((earlier : List Instr) → AreBefore words (near earlier) → OnTrue r (is_clean b at earlier o ≡ true)) → OnTrue r (IsCleanOne b at are spell)
clean_told b at are words spell o i spelled does told false clean = tt
clean_told b at are words spell o i spelled does told true clean = record {
  instr = i;
  spelled = spelled;
  clean = λ earlier before. ap (is_clean b at earlier) does ∙ clean earlier (told (near earlier) before);
}

abbrev registers : ℕ → ℕ → Access
registers written base = record { written = written; base = base }

-- what loads or stores breaks no rule where its registers break none
of_access : (b : BundlePlace) (at : ℕ) (earlier : List Instr) (i : Instr) (a : Access) → access i ≡ Some a → is_clean_access b a earlier ≡ true → is_clean b at earlier (outline i) ≡ true
of_access b at earlier (Load kind rd rs1 imm) a e clean =
    let same : a ≡ registers rd rs1 = cc in
    subst (λ (x : Access). is_clean_access b x earlier ≡ true) same clean
of_access b at earlier (Store width rs1 rs2 imm) a e clean =
    let same : a ≡ registers 0 rs1 = cc in
    (and_parts (not (is_protected b 0)) (may_access b rs1 earlier) (subst (λ (x : Access). is_clean_access b x earlier ≡ true) same clean)).1
of_access b at earlier i a e clean = absurd cc

pub clean_access : (b : BundlePlace) (at : ℕ) (are : Before → Type 0) (words : Words) (word : ℕ) (a : Access) → IsAccessOf word a
    → ((before : Before) → are before → AreBefore words before)
    → (r : Bool) → ((earlier : List Instr) → AreBefore words (near earlier) → OnTrue r (is_clean_access b a earlier ≡ true)) → OnTrue r (IsCleanOne b at are (IsWordOf word))
clean_access b at are words word a that told false clean = tt
clean_access b at are words word a that told true clean = record {
  instr = that.instr;
  spelled = that.spelled;
  clean = λ earlier before. of_access b at earlier that.instr a that.accesses (clean earlier (told (near earlier) before));
}
