-- What the classes tell of the instruction that begins with a halfword.
use Rattle.std.proofs.Common.{◌≡◌, ℕ, ◌+◌, ◌*◌, ◌/◌, ◌%◌, ◌<◌, Bool, true, false, cond, ◌==◌, List, take, drop, get_or, ap, ◌∙◌, sym, subst, inl, inr, ◌⊎◌, bit_or, arith, Option, Some, None, IfSome}
use Rattle.std.specs.Prelude.{slice_index}
use Rattle.std.proofs.lemmas.Bool.{and_parts}
use Rattle.std.proofs.lemmas.List.{get_or-take, get_or-drop}
use Rattle.rv_word.specs.declared.outline.Outline.{Outline}
use Rattle.rv_word.specs.declared.outline.Outline.TheVariants.{Computes}
use Rattle.rv_word.specs.declared.access.Access.{Access}
use Rattle.rv_word.specs.Outlines.{IsAccessOf, IsWordThat}
use Rattle.rv_word.specs.Spelling.{r_format}
use Rattle.rv_comp.specs.Fronts.{IsHalfwordThat}
use Rattle.rv_comp.specs.mirror.{outlined}
use Rattle.sfi_masks.specs.Masks.{half_at, word_at, is_free_by, IsFreeHalfBy, IsFreeWordBy, IsFreeAccessBy}
use Rattle.sfi_masks.specs.declared.tables.TheConstants.{ALONE}
use Rattle.sfi_masks.specs.private.{Code, bundles, words, may_of, on_of, half_classes, followed, rest, kept_of, classes_with, free_classes, access_classes}
use Rattle.sfi_masks.proofs.Fields.{computes, accesses, that_computes, that_accesses}
use Rattle.sfi_masks.proofs.Cells.{opcode, rd, funct3, is_free_half, is_free_word, begins_free, begins_access, free_begins, access_begins}
use Rattle.sfi_masks.proofs.Bases.{split, base_told, access_free, access_long}
use Rattle.rv_comp.proofs.Facts.{halfwords_are_outlined}

-- ---- a halfword and a word of bytes

taken : (bytes : List ℕ) (n at k place : ℕ) → k < n → at + k ≡ place → get_or (take n (drop at bytes)) k 0 ≡ get_or bytes place 0
taken bytes n at k place h e = get_or-take n (drop at bytes) k 0 h ∙ get_or-drop at bytes k 0 ∙ ap (λ m. get_or bytes m 0) e

pub half_is : (bytes : List ℕ) (i : ℕ) → half_at bytes i ≡ slice_index bytes (2 * i) + 256 * slice_index bytes (2 * i + 1)
half_is bytes i =
    let a = taken bytes 2 (2 * i) 0 (2 * i) (omega arith) (omega arith) in
    let b = taken bytes 2 (2 * i) 1 (2 * i + 1) (omega arith) (omega arith) in
    omega (arith, a, b)

pub word_is : (bytes : List ℕ) (i : ℕ) → word_at bytes i
    ≡ slice_index bytes (2 * i) + 256 * slice_index bytes (2 * i + 1) + 65536 * slice_index bytes (2 * i + 2) + 16777216 * slice_index bytes (2 * i + 3)
word_is bytes i =
    let a = taken bytes 4 (2 * i) 0 (2 * i) (omega arith) (omega arith) in
    let b = taken bytes 4 (2 * i) 1 (2 * i + 1) (omega arith) (omega arith) in
    let c = taken bytes 4 (2 * i) 2 (2 * i + 2) (omega arith) (omega arith) in
    let d = taken bytes 4 (2 * i) 3 (2 * i + 3) (omega arith) (omega arith) in
    omega (arith, a, b, c, d)

-- ---- 16-bit forms

free_outline : (code : Code) (half : ℕ) (o : Option Outline) → IfSome o (IsHalfwordThat half) → is_free_half code o ≡ true → IsFreeHalfBy (may_of code) (on_of code) half
free_outline code half (Some o) that free = record { instr = that.instr; spelled = that.spelled; free = ap (is_free_by (may_of code) (on_of code)) that.does ∙ free }
free_outline code half None that free = absurd cc

half_with : (code : Code) (low high next : ℕ) → low < 256 → high < 256 → next < 256 → (low % 4 == 3) ≡ false
    → (classes_with code low high next 63 == 0) ≡ false → IsFreeHalfBy (may_of code) (on_of code) (low + 256 * high)
unfolding begins_free
half_with code low high next l h n short some =
    free_outline code (low + 256 * high) (outlined (low + 256 * high)) (halfwords_are_outlined (low + 256 * high) (omega arith)).0 (by (low % 4 == 3) short (free_begins code low high l h next n some))
  where
    by : (b : Bool) → b ≡ false → (elim b [ true ↦ is_free_word code low high (next / 2) | false ↦ is_free_half code (outlined (low + 256 * high)) ]) ≡ true
        → is_free_half code (outlined (low + 256 * high)) ≡ true
    by true e told = absurd cc
    by false e told = told

-- ---- words

abbrev pub word_of : ℕ → ℕ → ℕ → ℕ → ℕ
word_of low high low2 high2 = low + 256 * high + 65536 * low2 + 16777216 * high2

abbrev pub rs1 : ℕ → ℕ → ℕ
rs1 high low2 = high / 128 + 2 * (low2 % 16)

abbrev rs2 : ℕ → ℕ → ℕ
rs2 low2 high2 = low2 / 16 + 16 * (high2 % 2)

cut : (low high low2 high2 : ℕ) → low < 256 → high < 256 → low2 < 256 → high2 < 256
    → r_format (high2 / 2) (rs2 low2 high2) (rs1 high low2) (funct3 high) (rd low high) (opcode low) ≡ word_of low high low2 high2
cut low high low2 high2 p q r s = omega arith

word_with : (code : Code) (low high low2 high2 : ℕ) → low < 256 → high < 256 → low2 < 256 → high2 < 256 → (low % 4 == 3) ≡ true
    → (classes_with code low high high2 63 == 0) ≡ false → IsFreeWordBy (may_of code) (on_of code) (word_of low high low2 high2)
unfolding begins_free
word_with code low high low2 high2 p q r s long some =
    let told = by (low % 4 == 3) long (free_begins code low high p q high2 s some) in
    let both = and_parts (may_of code (rd low high)) (computes (opcode low) (funct3 high) (high2 / 2)) told in
    let that = that_computes (high2 / 2) (rs2 low2 high2) (rs1 high low2) (funct3 high) (rd low high) (omega arith) (omega arith) (omega arith) (omega arith) (omega arith) (opcode low) both.1 in
    let is : IsWordThat (word_of low high low2 high2) (Computes (rd low high)) = subst (λ (w : ℕ). IsWordThat w (Computes (rd low high))) (cut low high low2 high2 p q r s) that in
    record { instr = is.instr; spelled = is.spelled; free = ap (is_free_by (may_of code) (on_of code)) is.does ∙ both.0 }
  where
    by : (b : Bool) → b ≡ true → (elim b [ true ↦ is_free_word code low high (high2 / 2) | false ↦ is_free_half code (outlined (low + 256 * high)) ]) ≡ true
        → is_free_word code low high (high2 / 2) ≡ true
    by true e told = told
    by false e told = absurd cc

pub free_access : (code : Code) (low high low2 high2 : ℕ) → low < 256 → high < 256 → low2 < 256 → high2 < 256
    → (access_classes code low high high2 == 0) ≡ false → IsFreeAccessBy (may_of code) (word_of low high low2 high2)
unfolding begins_access
free_access code low high low2 high2 p q r s some =
    let written = cond (opcode low == 35) 0 (rd low high) in
    let both = and_parts (accesses (opcode low) (funct3 high)) (may_of code written) (access_begins code low high p q high2 s some) in
    let a : Access = record { written = written; base = rs1 high low2 } in
    let that : IsAccessOf (r_format (high2 / 2) (rs2 low2 high2) (rs1 high low2) (funct3 high) (rd low high) (opcode low)) a =
    that_accesses (high2 / 2) (rs2 low2 high2) (rs1 high low2) (funct3 high) (rd low high) (omega arith) (omega arith) (omega arith) (omega arith) (omega arith) (opcode low) both.0 in
    record {
      access = a;
      is = subst (λ (w : ℕ). IsAccessOf w a) (cut low high low2 high2 p q r s) that;
      base = omega arith;
      free = both.1;
    }

-- ---- what is free, in words with the accesses whose base is told

split_words : (single : Bool) (low high next : ℕ) → (classes_with (words single) low high next 255 == 0) ≡ false → ((classes_with (words single) low high next 63 == 0) ≡ false) ⊎ ((access_classes (words single) low high next == 0) ≡ false)
split_words single low high next some = split (bit_or (half_classes ALONE low high) (rest true low high)) (followed low high next) (kept_of (words single) low high) some

pub free_word : (code : Code) (low high low2 high2 : ℕ) → low < 256 → high < 256 → low2 < 256 → high2 < 256 → (low % 4 == 3) ≡ true
    → (free_classes code low high low2 high2 == 0) ≡ false → IsFreeWordBy (may_of code) (on_of code) (word_of low high low2 high2)
free_word (bundles stack) low high low2 high2 p q r s long some = word_with (bundles stack) low high low2 high2 p q r s long some
free_word (words single) low high low2 high2 p q r s long some = elim (base_told single high low2 q) [
  | inl few ↦ word_with (words single) low high low2 high2 p q r s long (ap (λ n. classes_with (words single) low high high2 n == 0) (sym few) ∙ some)
  | inr told ↦ elim (split_words single low high high2 (ap (λ n. classes_with (words single) low high high2 n == 0) (sym told.0) ∙ some)) [
    | inl few ↦ word_with (words single) low high low2 high2 p q r s long few
    | inr access ↦ (let f = free_access (words single) low high low2 high2 p q r s access in access_free (may_of (words single)) (on_of (words single)) (word_of low high low2 high2) f (base_is f told.1))
  ]
]
  where
    base_is : (f : IsFreeAccessBy (may_of (words single)) (word_of low high low2 high2)) → on_of (words single) (rs1 high low2) ≡ true → on_of (words single) f.access.base ≡ true
    base_is f h = ap (on_of (words single)) (let b = f.base in let e : f.access.base ≡ rs1 high low2 = omega (arith, b, p, q, r, s) in e) ∙ h

pub free_half : (code : Code) (low high low2 next : ℕ) → low < 256 → high < 256 → next < 256 → (low % 4 == 3) ≡ false
    → (free_classes code low high low2 next == 0) ≡ false → IsFreeHalfBy (may_of code) (on_of code) (low + 256 * high)
unfolding begins_access
free_half (bundles stack) low high low2 next l h n short some = half_with (bundles stack) low high next l h n short some
free_half (words single) low high low2 next l h n short some = elim (base_told single high low2 h) [
  | inl few ↦ half_with (words single) low high next l h n short (ap (λ m. classes_with (words single) low high next m == 0) (sym few) ∙ some)
  | inr told ↦ elim (split_words single low high next (ap (λ m. classes_with (words single) low high next m == 0) (sym told.0) ∙ some)) [
    | inl few ↦ half_with (words single) low high next l h n short few
    | inr access ↦ (let begins = and_parts (accesses (opcode low) (funct3 high)) _ (access_begins (words single) low high l h next n access) in
        absurd (let no = sym (ap (λ m. m == 3) (access_long low (funct3 high) begins.0)) ∙ short in cc))
  ]
]
