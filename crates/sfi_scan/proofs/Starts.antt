-- What begins at a start of a block is clean.
use Rattle.sfi_scan.proofs.Prelude.{◌≡◌, ℕ, ◌+◌, ◌-◌, ◌/◌, ◌%◌, ◌<◌, Bool, true, false, not, ◌&&◌, ◌||◌, ◌==◌, cond, List, Option, Some, None, IfSome, refl, sym, ap, ◌∙◌, subst, arith, bit_and, OnTrue, w16, w32, from_le_bytes, and_parts, and_mask, outline, IsWordThat, IsWordOf, Instr, is_in, may_write, is_free, IsFreeHalf, IsFreeWord, IsFreeAccess, has_stack, is_reserved, stack_pointer, Before, BundlePlace, bundle_at, block_bundle, follows_data_pair, may_access, AreAfterTwo, offset, words_from, IsCleanAt, half_at, word_at, AreWordsFrom, AreBefore, IsWordOr0, is_protected, is_clean, is_clean_access, near, and_from, or_left, IsHalfwordThat, IsShortSpelling, IsAccessOf, bits, Access, Outline, Computes, Loads, Words, ◌^◌, inl, inr, w64, bit_not, AreMasks, AreStarts, IsOfWrite, IsWithout, both_ways}
use Rattle.rv_word.specs.declared.outline.Outline.TheVariants.{Stores, Orders, Stops}
use Rattle.sfi_masks.specs.Masks.{half_at as block_half, word_at as block_word}
use Rattle.sfi_scan.proofs.Joining.{half_cut, word_cut, IsQuietAt}
use Rattle.sfi_scan.proofs.TableEntries.{clean_told, clean_access}
use Rattle.std.proofs.lemmas.Bool.{true_from_ne_false}
use Rattle.sfi_masks.specs.declared.masks.Masks.{Masks}
use Rattle.sfi_scan.proofs.Marks.{in_and, in_not, in_rest, in_rest_other}

-- ==== What begins at a start of a block breaks no rule.

-- ---- the words before a place

pub words_are_before : (block : List ℕ) (words after i first second : ℕ) → i < 64 → AreAfterTwo words after → is_in after i ≡ true
    → first ≡ word_at (block_bundle block ((i - 4) / 8)) (offset (i - 4)) → second ≡ word_at (block_bundle block ((i - 2) / 8)) (offset (i - 2))
    → (before : Before) → AreWordsFrom (block_bundle block (i / 8)) (offset i) (words_from after i (offset i)) before → AreBefore (record { first = first; second = second }) before
words_are_before block words after i first second h two is e f before are =
    let high = two.high i h is in
    let bundle4 : (i - 4) / 8 ≡ i / 8 = omega (arith, high) in
    let bundle2 : (i - 2) / 8 ≡ i / 8 = omega (arith, high) in
    let far : words_from after i (offset i) ≡ offset i - 8 = ap (λ p. cond p (offset i - 8) (offset i)) is in
    let first_is : word_at (block_bundle block (i / 8)) (offset (i - 4)) ≡ first = ap (λ n. word_at (block_bundle block n) (offset (i - 4))) (sym bundle4) ∙ sym e in
    let second_is : word_at (block_bundle block (i / 8)) (offset (i - 2)) ≡ second = ap (λ n. word_at (block_bundle block n) (offset (i - 2))) (sym bundle2) ∙ sym f in
    record {
      first = subst (λ w. IsWordOr0 w before.first) first_is (are.first (offset (i - 4)) (omega (arith, high, far)) (omega (arith, high)));
      second = subst (λ w. IsWordOr0 w before.second) second_is (are.second (offset (i - 2)) (omega (arith, high, far)) (omega (arith, high)));
    }

-- ---- what is free

both_not : (p q : Bool) → (not p && not q) ≡ not (p || q)
both_not true q = refl
both_not false q = refl

may_write_is : (b : BundlePlace) (r : ℕ) → may_write (has_stack b.format) r ≡ true → not (is_protected b r) ≡ true
may_write_is b r may = sym (both_not (is_reserved r) (has_stack b.format && (r == stack_pointer))) ∙ may

on_stack : (b : BundlePlace) (base : ℕ) (earlier : List Instr) → (has_stack b.format && (base == stack_pointer)) ≡ true → may_access b base earlier ≡ true
on_stack b base earlier e = or_left _ (follows_data_pair base earlier) e

free_clean : (b : BundlePlace) (at : ℕ) (earlier : List Instr) (o : Outline) → is_free (has_stack b.format) o ≡ true → is_clean b at earlier o ≡ true
free_clean b at earlier (Computes rd) e = may_write_is b rd e
free_clean b at earlier (Loads rd base) e =
    let both = and_parts (may_write (has_stack b.format) rd) (has_stack b.format && (base == stack_pointer)) e in
    and_from _ (may_access b base earlier) (may_write_is b rd both.0) (on_stack b base earlier both.1)
free_clean b at earlier (Stores base) e = on_stack b base earlier e
free_clean b at earlier Orders e = refl
free_clean b at earlier Stops e = refl
free_clean b at earlier o e = absurd cc

pub free_half : (b : BundlePlace) (block : List ℕ) (stack : Bool) (after i : ℕ) → stack ≡ has_stack b.format → IsFreeHalf stack (block_half block i) → IsCleanAt b block false after i
free_half b block stack after i is f = record {
  instr = f.instr;
  spelled = subst (λ h. IsShortSpelling h f.instr) (ap (from_le_bytes w16) (half_cut block i)) f.spelled;
  clean = λ earlier are. free_clean (bundle_at b (i / 8)) _ earlier (outline f.instr) (ap (λ s. is_free s (outline f.instr)) (sym is) ∙ f.free);
}

pub free_word : (b : BundlePlace) (block : List ℕ) (stack : Bool) (after i : ℕ) → i % 8 < 7 → stack ≡ has_stack b.format → IsFreeWord stack (block_word block i) → IsCleanAt b block true after i
free_word b block stack after i inside is f = record {
  instr = f.instr;
  spelled = subst (λ h. IsWordOf h f.instr) (ap (from_le_bytes w32) (word_cut block i inside)) f.spelled;
  clean = λ earlier are. free_clean (bundle_at b (i / 8)) _ earlier (outline f.instr) (ap (λ s. is_free s (outline f.instr)) (sym is) ∙ f.free);
}

-- ---- accesses

base_is : (word base : ℕ) → base ≡ bit_and (word / 32768) 31 → base ≡ bits word 19 15
base_is word base e = e ∙ and_mask (word / 32768) 5

told_access : (b : BundlePlace) (a : Access) (earlier : List Instr) (base : ℕ) → base ≡ a.base → not (is_protected b a.written) ≡ true
    → (r : Bool) → OnTrue r (may_access b base earlier ≡ true) → OnTrue r (is_clean_access b a earlier ≡ true)
told_access b a earlier base e free false may = tt
told_access b a earlier base e free true may = and_from _ (may_access b a.base earlier) free (ap (λ r. may_access b r earlier) (sym e) ∙ may)

pub access_clean : (b : BundlePlace) (block : List ℕ) (stack : Bool) (after i base : ℕ) (words : Words) → i % 8 < 7 → stack ≡ has_stack b.format → (f : IsFreeAccess stack (block_word block i))
    → base ≡ bit_and (block_word block i / 32768) 31
    → ((before : Before) → AreWordsFrom (block_bundle block (i / 8)) (offset i) (words_from after i (offset i)) before → AreBefore words before)
    → (r : Bool) → ((earlier : List Instr) → AreBefore words (near earlier) → OnTrue r (may_access (bundle_at b (i / 8)) base earlier ≡ true))
    → OnTrue r (IsCleanAt b block true after i)
access_clean b block stack after i base words inside is f base_of told r may =
    let c = bundle_at b (i / 8) in
    let word : block_word block i ≡ word_at (block_bundle block (i / 8)) (offset i) = ap (from_le_bytes w32) (word_cut block i inside) in
    clean_access c (c.address + offset i) (AreWordsFrom (block_bundle block (i / 8)) (offset i) (words_from after i (offset i))) words _ f.access
    (subst (λ w. IsAccessOf w f.access) word f.is) told r
    (λ earlier before. told_access c f.access earlier base (base_is (block_word block i) base base_of ∙ sym f.base) (may_write_is c f.access.written (ap (λ s. may_write s f.access.written) (sym is) ∙ f.free)) r (may earlier before))

-- ---- others

the_some : (P : Outline → Type 0) (o : Option Outline) (x : Outline) → IfSome o P → o ≡ Some x → P x
the_some P (Some y) x h e = let same : y ≡ x = cc in subst P same h
the_some P None x h e = absurd cc

pub short_clean : (b : BundlePlace) (block : List ℕ) (after i half : ℕ) (words : Words) (o : Option Outline) (x : Outline) → half ≡ half_at (block_bundle block (i / 8)) (offset i) → IfSome o (IsHalfwordThat half) → o ≡ Some x
    → ((before : Before) → AreWordsFrom (block_bundle block (i / 8)) (offset i) (words_from after i (offset i)) before → AreBefore words before)
    → (r : Bool) → ((earlier : List Instr) → AreBefore words (near earlier) → OnTrue r (is_clean (bundle_at b (i / 8)) ((bundle_at b (i / 8)).address + offset i) earlier x ≡ true))
    → (w : Bool) → w ≡ false → OnTrue r (IsCleanAt b block w after i)
short_clean b block after i half words o x is found e told r clean w f =
    let c = bundle_at b (i / 8) in
    let that = subst (λ h. IsHalfwordThat h x) is (the_some _ o x found e) in
    subst (λ v. OnTrue r (IsCleanAt b block v after i)) (sym f)
    (clean_told c (c.address + offset i) (AreWordsFrom (block_bundle block (i / 8)) (offset i) (words_from after i (offset i))) words (IsShortSpelling (half_at (block_bundle block (i / 8)) (offset i))) x that.instr that.spelled that.does told r clean)

pub wide_clean : (b : BundlePlace) (block : List ℕ) (after i word : ℕ) (words : Words) (o : Option Outline) (x : Outline) → word ≡ word_at (block_bundle block (i / 8)) (offset i) → IfSome o (IsWordThat word) → o ≡ Some x
    → ((before : Before) → AreWordsFrom (block_bundle block (i / 8)) (offset i) (words_from after i (offset i)) before → AreBefore words before)
    → (r : Bool) → ((earlier : List Instr) → AreBefore words (near earlier) → OnTrue r (is_clean (bundle_at b (i / 8)) ((bundle_at b (i / 8)).address + offset i) earlier x ≡ true))
    → (w : Bool) → w ≡ true → OnTrue r (IsCleanAt b block w after i)
wide_clean b block after i word words o x is found e told r clean w f =
    let c = bundle_at b (i / 8) in
    let that = subst (λ h. IsWordThat h x) is (the_some _ o x found e) in
    subst (λ v. OnTrue r (IsCleanAt b block v after i)) (sym f)
    (clean_told c (c.address + offset i) (AreWordsFrom (block_bundle block (i / 8)) (offset i) (words_from after i (offset i))) words (IsWordOf (word_at (block_bundle block (i / 8)) (offset i))) x that.instr that.spelled that.does told r clean)

-- ---- masks of them

-- one of the accesses, and it is clean
abbrev pub IsCleanAccess : Bool → List ℕ → ℕ → ℕ → ℕ → Type 0
IsCleanAccess stack block after accesses i = (is_in accesses i ≡ true) × ((b : BundlePlace) → stack ≡ has_stack b.format → IsCleanAt b block true after i)

-- ==== Whatever begins in a bundle with none of the places that are left is clean.

pub without_is : (a b : ℕ) → b < 2 ^ 64 → IsWithout a b (bit_and a (bit_not w64 b))
without_is a b fits i lt = in_and a (bit_not w64 b) i ∙ ap (λ p. is_in a i && p) (in_not b i fits lt)

-- the accesses among the places that are left
abbrev accesses : ℕ → ℕ → Masks → ℕ
accesses left words m = bit_and (bit_and left words) m.access

access_parts : (left words : ℕ) (m : Masks) (i : ℕ) → is_in (accesses left words m) i ≡ true → (is_in words i ≡ true) × (is_in m.access i ≡ true)
access_parts left words m i h = (in_rest_other left words i (in_rest (bit_and left words) m.access i h), in_rest_other (bit_and left words) m.access i h)

pub access_inside : (starts left : ℕ) (m : Masks) → AreStarts starts (bit_and starts m.long) → (i : ℕ) → i < 64 → is_in (accesses left (bit_and starts m.long) m) i ≡ true → i % 8 < 7
access_inside starts left m marks i lt h = marks.inside i lt (access_parts left (bit_and starts m.long) m i h).0

pub access_free : (stack : Bool) (bytes : List ℕ) (starts left : ℕ) (m : Masks) → AreMasks stack bytes m → AreStarts starts (bit_and starts m.long) → (i : ℕ) → i < 64 → is_in (accesses left (bit_and starts m.long) m) i ≡ true
    → IsFreeAccess stack (block_word bytes i)
access_free stack bytes starts left m are marks i lt h = are.access i (access_inside starts left m marks i lt h) lt (access_parts left (bit_and starts m.long) m i h).1

-- what is in one mask and not in the other is left; so what isn't left is in the other
pub stays : (a b rest i : ℕ) → IsWithout a b rest → i < 64 → is_in a i ≡ true → is_in b i ≡ false → is_in rest i ≡ true
stays a b rest i without lt e f = without i lt ∙ ap (λ p. p && not (is_in b i)) e ∙ ap not f

pub taken : (a b rest i : ℕ) → IsWithout a b rest → i < 64 → is_in a i ≡ true → is_in rest i ≡ false → is_in b i ≡ true
taken a b rest i without lt e none = true_from_ne_false (is_in b i) (λ no. both_ways (is_in rest i) none (stays a b rest i without lt e no))

free_at : (b : BundlePlace) (block : List ℕ) (stack : Bool) (starts : ℕ) (m : Masks) (after i : ℕ) → stack ≡ has_stack b.format → AreMasks stack block m → AreStarts starts (bit_and starts m.long) → i < 64
    → is_in starts i ≡ true → is_in m.free i ≡ true → IsCleanAt b block (is_in (bit_and starts m.long) i) after i
free_at b block stack starts m after i is are marks lt start free = by (is_in (bit_and starts m.long) i) refl
  where
    long : is_in (bit_and starts m.long) i ≡ is_in m.long i
    long = in_and starts m.long i ∙ ap (λ p. p && is_in m.long i) start

    by : (w : Bool) → is_in (bit_and starts m.long) i ≡ w → IsCleanAt b block w after i
    by false e = free_half b block stack after i is (are.short i lt free (sym long ∙ e))
    by true e = let inside = marks.inside i lt e in free_word b block stack after i inside is (are.word i inside lt free (sym long ∙ e))

pub free_start : (b : BundlePlace) (block : List ℕ) (stack : Bool) (starts : ℕ) (m : Masks) (after left i : ℕ) → stack ≡ has_stack b.format → AreMasks stack block m → AreStarts starts (bit_and starts m.long)
    → IsWithout starts m.free left → i < 64 → is_in left i ≡ false → is_in starts i ≡ true → IsCleanAt b block (is_in (bit_and starts m.long) i) after i
free_start b block stack starts m after left i is are marks first lt none start = free_at b block stack starts m after i is are marks lt start (taken starts m.free left i first lt start none)

pub seen : (b : BundlePlace) (block : List ℕ) (stack : Bool) (starts : ℕ) (m : Masks) (after left paired others clean rest written final i : ℕ) → stack ≡ has_stack b.format → AreMasks stack block m → AreStarts starts (bit_and starts m.long)
    → IsWithout starts m.free left → IsWithout left paired others → IsWithout others clean rest → IsWithout rest written final → i < 64
    → ((i : ℕ) → is_in paired i ≡ true → is_in (accesses left (bit_and starts m.long) m) i ≡ true)
    → ((i : ℕ) → is_in paired i ≡ true → (b : BundlePlace) → stack ≡ has_stack b.format → IsCleanAt b block true after i)
    → ((i : ℕ) → is_in clean i ≡ true → IsCleanAt b block (is_in (bit_and starts m.long) i) after i)
    → ((i : ℕ) → is_in written i ≡ true → stack ≡ true) → ((i : ℕ) → is_in written i ≡ true → IsOfWrite block (bit_and starts m.long) i)
    → is_in final i ≡ false → is_in starts i ≡ true → IsQuietAt b block (bit_and starts m.long) after i
seen b block stack starts m after left paired others clean rest written final i is are marks first second third fourth lt within pairs quiet has writes none start =
    by (is_in m.free i) (is_in paired i) (is_in clean i) (is_in written i) refl refl refl refl
  where
    by : (f p o w : Bool) → is_in m.free i ≡ f → is_in paired i ≡ p → is_in clean i ≡ o → is_in written i ≡ w → IsQuietAt b block (bit_and starts m.long) after i
    by true p o w e f g h = inl (free_at b block stack starts m after i is are marks lt start e)
    by false true o w e f g h = inl (subst (λ w. IsCleanAt b block w after i) (sym (access_parts left (bit_and starts m.long) m i (within i f)).0) (pairs i f b is))
    by false false true w e f g h = inl (quiet i g)
    by false false false true e f g h = inr (sym is ∙ has i h, writes i h)
    by false false false false e f g h =
        let one = stays starts m.free left i first lt start e in
        let two = stays left paired others i second lt one f in
        let three = stays others clean rest i third lt two g in
        absurd (both_ways (is_in final i) none (stays rest written final i fourth lt three h))
