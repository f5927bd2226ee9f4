-- Which words of a block the masks tell to be free, and from one that they don't to the next.
use Rattle.sfi_scan.proofs.Prelude.{◌≡◌, ◌≢◌, ℕ, zero, suc, ◌+◌, ◌-◌, ◌*◌, ◌/◌, ◌%◌, ◌^◌, ◌<◌, ◌≤◌, true, false, ◌==◌, ◌⊎◌, inl, inr, List, refl, sym, ap, ◌∙◌, subst, arith, w64, pow_pos, trailing_zeros, is_in, BundlePlace, IsWithinBlock, both_ways, cases_lt, Owed, Nothing, IsCleanWord, AreCleanWords, Bool, not, ◌&&◌, ◌||◌, length, ap₂, bit_and, agree_below_at, and_parts, and_right, eqb-true, IsWithout, not-true, IsPairAt, IsSteppedWord}
use Rattle.std.proofs.lemmas.Nat.{div_below}
use Rattle.std.proofs.lemmas.Nat.Bits.{bit_at_above, bit_at-trailing_zeros}
use Rattle.sfi_scan.specs.private.Words.{IsSeen, IsQuietWord, IsToldFree}
use Rattle.sfi_scan.proofs.Marks.{in_shr, in_zero, in_or, in_rest, in_rest_other, in_shl, in_shl_low, shl}
use Rattle.std.specs.Int.RustNames.{bit_or}
use Rattle.std.proofs.lemmas.Bool.{cases_Bool, or_cases, or_right}
use Rattle.sfi_formats.specs.Formats.{has_single_mask}
use Rattle.sfi_masks.specs.Masks.{AreMasksInWords, IsSingleMask, word_at}
use Rattle.sfi_masks.specs.declared.masks.Masks.{Masks}
use Rattle.sfi_scan.specs.declared.block.TheConstants.{EVEN}
use Rattle.sfi_scan.proofs.Starts.{stays, taken}
use Rattle.sfi_scan.proofs.WordBlock.{free_word_quiet, free_halves_quiet, single_mask_quiet, first_of_pair, second_of_pair}

-- ==== From one word of a block that has to be looked at to the next.

-- ---- the first bit from a place on

pub in_below : (m i : ℕ) → m < 2 ^ 64 → is_in m i ≡ true → i < 64
in_below m i fits h = elim (cases_lt i 64) [
  | inl less ↦ less
  | inr more ↦ absurd (both_ways (is_in m i) (ap (λ n. n == 1) (bit_at_above m 64 i fits (omega (arith, more)))) h)
]

pub none_ahead : (words at : ℕ) → words / 2 ^ at ≡ 0 → (i : ℕ) → at ≤ i → is_in words i ≡ false
none_ahead words at none i le =
    let e : at + (i - at) ≡ i = omega (arith, le) in
    ap (is_in words) (sym e) ∙ sym (in_shr words at (i - at)) ∙ ap (λ m. is_in m (i - at)) none ∙ in_zero (i - at)

pub record IsFirst (words at i : ℕ) : Type 0 where
  pub below : i < 64
  pub one : is_in words i ≡ true
  pub none : (j : ℕ) → at ≤ j → j < i → is_in words j ≡ false

pub first_ahead : (words at : ℕ) → words < 2 ^ 64 → words / 2 ^ at ≢ 0 → IsFirst words at (at + trailing_zeros w64 (words / 2 ^ at))
first_ahead words at fits some =
    let small : words / 2 ^ at < 2 ^ 64 = div_below words (2 ^ at) (2 ^ 64) (pow_pos at) (omega (arith, fits, pow_pos at)) in
    let all = bit_at-trailing_zeros w64 (words / 2 ^ at) (omega (arith, some)) small in
    let t = trailing_zeros w64 (words / 2 ^ at) in
    let one : is_in words (at + t) ≡ true = sym (in_shr words at t) ∙ ap (λ n. n == 1) all.1 in
    record {
      below = in_below words (at + t) fits one;
      one = one;
      none = λ j from less.
          let e : at + (j - at) ≡ j = omega (arith, from) in
          ap (is_in words) (sym e) ∙ sym (in_shr words at (j - at)) ∙ ap (λ n. n == 1) (all.2 (j - at) (omega (arith, from, less)));
    }

-- ---- words that aren't looked at, of those from word `from` on

module _ (b : BundlePlace) (block : List ℕ) (owed : Owed) (words from : ℕ) (within : IsWithinBlock b) (others : (n : ℕ) → n < 32 → is_in words (2 * n) ≡ false → IsSeen b block words (2 * n)) where
  -- up to the one that is looked at, or the block's end
  advance : (fuel n k : ℕ) → n ≤ k → k ≤ n + fuel → from + k ≤ 32 → ((j : ℕ) → 2 * (from + n) ≤ j → j < 2 * (from + k) → is_in words j ≡ false) → (from + k ≡ 32) ⊎ (is_in words (2 * (from + k)) ≡ true)
      → AreCleanWords b owed block from n Nothing → AreCleanWords b owed block from k Nothing
  advance zero n k less enough end none last h = subst (λ (m : ℕ). AreCleanWords b owed block from m Nothing) (let e : n ≡ k = omega (arith, less, enough) in e) h
  advance (suc fuel) n k le enough end none last h = elim (cases_lt n k) [
    | inr more ↦ subst (λ (m : ℕ). AreCleanWords b owed block from m Nothing) (let e : n ≡ k = omega (arith, le, more) in e) h
    | inl less ↦ elim (others (from + n) (omega (arith, less, end)) (none (2 * (from + n)) (omega arith) (omega (arith, less)))) [
      | inl quiet ↦ advance fuel (suc n) k (omega (arith, less)) (omega (arith, enough)) end (λ j low high. none j (omega (arith, low)) high) last (Nothing, h, quiet)
      | inr both ↦ elim (cases_lt (suc n) k) [
        | inl further ↦ advance fuel (suc (suc n)) k (omega (arith, further)) (omega (arith, enough)) end (λ j low high. none j (omega (arith, low)) high) last
            (both.0.between, (Nothing, h, both.0.step), subst (λ (i : ℕ). IsCleanWord b block i both.0.between Nothing) (let e : 2 * (from + n) + 2 ≡ 2 * (from + suc n) = omega arith in e) both.0.used)
        | inr next ↦ absurd (ends (from + n) (from + k) (let e : from + k ≡ suc (from + n) = omega (arith, next, less) in e) both.0.below both.1 last)
      ]
    ]
  ]
    where
      ends : (n k : ℕ) → k ≡ suc n → 2 * n + 2 < 64 → is_in words (2 * n + 2) ≡ false → (k ≡ 32) ⊎ (is_in words (2 * k) ≡ true) → ⊥
      ends n k next below apart (inl all) = omega (arith, next, below, all)
      ends n k next below apart (inr there) = both_ways (is_in words (2 * n + 2)) apart (ap (is_in words) (let e : 2 * n + 2 ≡ 2 * k = omega (arith, next) in e) ∙ there)

  -- as far as where the look goes on
  pub reached : (left : Owed) (n k at i : ℕ) → at ≡ 2 * (from + n) → i ≡ 2 * (from + k) → at ≤ i → i ≤ 64 → ((j : ℕ) → at ≤ j → j < i → is_in words j ≡ false) → (i ≡ at) ⊎ (i < 64 → is_in words i ≡ true) → (i ≡ at) ⊎ (left ≡ Nothing)
      → AreCleanWords b owed block from n left → AreCleanWords b owed block from k left
  reached left n k at i place here ahead end none one skipped h = by one skipped
    where
      right_there : i ≡ at → AreCleanWords b owed block from k left
      right_there same = subst (λ (m : ℕ). AreCleanWords b owed block from m left) (let e : n ≡ k = omega (arith, place, here, same) in e) h

      last : (i < 64 → is_in words i ≡ true) → (from + k ≡ 32) ⊎ (is_in words (2 * (from + k)) ≡ true)
      last there = elim (cases_lt i 64) [
        | inl less ↦ inr (ap (is_in words) (sym here) ∙ there less)
        | inr more ↦ inl (omega (arith, more, end, here))
      ]

      by : (i ≡ at) ⊎ (i < 64 → is_in words i ≡ true) → (i ≡ at) ⊎ (left ≡ Nothing) → AreCleanWords b owed block from k left
      by (inl same) s = right_there same
      by (inr there) (inl same) = right_there same
      by (inr there) (inr nothing) =
          subst (λ (o : Owed). AreCleanWords b owed block from k o) (sym nothing)
          (advance k n k (omega (arith, place, here, ahead)) (omega arith) (omega (arith, here, end)) (λ j low high. none j (omega (arith, place, low)) (omega (arith, here, high))) (last there)
          (subst (λ (o : Owed). AreCleanWords b owed block from n o) nothing h))

-- and past the word there
pub passed : (b : BundlePlace) (block : List ℕ) (owed left next : Owed) (from n i : ℕ) → i ≡ 2 * (from + n) → AreCleanWords b owed block from n left → IsCleanWord b block i left next → AreCleanWords b owed block from (suc n) next
passed b block owed left next from n i here h word = (left, h, subst (λ (j : ℕ). IsCleanWord b block j left next) here word)

-- the place where the look goes on is a word's
pub even_there : (words n at i : ℕ) → ((j : ℕ) → j < 64 → is_in words j ≡ true → j % 2 ≡ 0) → at ≡ 2 * n → i ≤ 64 → (i ≡ at) ⊎ (i < 64 → is_in words i ≡ true) → i % 2 ≡ 0
even_there words n at i even place end (inl same) = omega (arith, place, same)
even_there words n at i even place end (inr one) = elim (cases_lt i 64) [
  | inl less ↦ even i less (one less)
  | inr more ↦ (let all : i ≡ 64 = omega (arith, more, end) in omega (arith, all))
]

-- where no word is left, and nothing is owed before the first
pub all_seen : (b : BundlePlace) (block : List ℕ) (owed : Owed) (words from : ℕ) → from < 32 → IsWithinBlock b → ((n : ℕ) → n < 32 → is_in words (2 * n) ≡ false → IsSeen b block words (2 * n)) → words ≡ 0 → owed ≡ Nothing
    → AreCleanWords b owed block from (32 - from) Nothing
all_seen b block owed words from inside within others none nothing =
    reached b block owed words from within others Nothing 0 (32 - from) (2 * from) 64 (omega arith) (omega (arith, inside)) (omega (arith, inside)) (omega arith) (λ j low less. ap (λ m. is_in m j) none ∙ in_zero j) (inr (λ less. absurd (omega (arith, less)))) (inr refl) (sym nothing)

-- ==== Which words of a block the masks tell to be free, and that these are quiet.

even_is : (i : ℕ) → i < 64 → is_in EVEN i ≡ (i % 2 == 0)
even_is i h = agree_below_at (λ i. is_in EVEN i) (λ i. i % 2 == 0) 64 i refl h

in_even : (n : ℕ) → n < 32 → is_in EVEN (2 * n) ≡ true
in_even n h = agree_below_at (λ n. is_in EVEN (2 * n)) (λ n. true) 32 n refl h

-- what is left of a mask was in it
pub stays_in : (a b rest i : ℕ) → IsWithout a b rest → i < 64 → is_in rest i ≡ true → is_in a i ≡ true
stays_in a b rest i without lt h = (and_parts (is_in a i) (not (is_in b i)) (sym (without i lt) ∙ h)).0

-- what is left of the first halfwords of words
pub left_even : (free left : ℕ) → IsWithout EVEN free left → (i : ℕ) → i < 64 → is_in left i ≡ true → i % 2 ≡ 0
left_even free left without i lt h = eqb-true (i % 2) 0 (sym (even_is i lt) ∙ stays_in EVEN free left i without lt h)

told : (m : Masks) (short i : ℕ) → IsWithout m.free m.long short → i + 1 < 64 → is_in (bit_and m.free (bit_or m.long (short / 2))) i ≡ true → IsToldFree m i
told m short i without lt h = (
  in_rest m.free (bit_or m.long (short / 2)) i h,
  elim (or_cases (is_in m.long i) (is_in (short / 2) i) (sym (in_or m.long (short / 2) i) ∙ in_rest_other m.free (bit_or m.long (short / 2)) i h)) [
    | inl long ↦ inl long
    | inr after ↦ (
        let e : 1 + i ≡ i + 1 = omega arith in
        let there : is_in short (i + 1) ≡ true = ap (is_in short) (sym e) ∙ sym (in_shr short 1 i) ∙ after in
        let parts = and_parts (is_in m.free (i + 1)) (not (is_in m.long (i + 1))) (sym (without (i + 1) lt) ∙ there) in
        inr (not-true (is_in m.long (i + 1)) parts.1, parts.0))
  ],
)

pub told_free : (m : Masks) (short left : ℕ) → IsWithout m.free m.long short → IsWithout EVEN (bit_and m.free (bit_or m.long (short / 2))) left
    → (n : ℕ) → n < 32 → is_in left (2 * n) ≡ false → IsToldFree m (2 * n)
told_free m short left first second n lt none = told m short (2 * n) first (omega (arith, lt)) (taken EVEN (bit_and m.free (bit_or m.long (short / 2))) left (2 * n) second (omega (arith, lt)) (in_even n lt) none)

pub told_quiet : (b : BundlePlace) → IsWithinBlock b → (block : List ℕ) (m : Masks) (n : ℕ) → length block ≡ 128 → AreMasksInWords (has_single_mask b.format) block m → n < 32 → IsToldFree m (2 * n) → IsQuietWord b block (2 * n)
told_quiet b within block m n long are lt h = elim (cases_Bool (is_in m.long (2 * n))) [
  | inl wide ↦ free_word_quiet b within block long (2 * n) (omega arith) (omega (arith, lt)) (are.word (2 * n) (omega (arith, lt)) (omega (arith, lt)) h.0 wide)
  | inr short ↦ elim h.1 [
    | inl wide ↦ absurd (both_ways (is_in m.long (2 * n)) short wide)
    | inr second ↦ free_halves_quiet b within block long (2 * n) (omega arith) (omega (arith, lt)) (are.short (2 * n) (omega (arith, lt)) h.0 short) (are.short (2 * n + 1) (omega (arith, lt)) second.1 second.0)
  ]
]

-- where masks are single, these are quiet too
pub told_or_mask : (b : BundlePlace) → IsWithinBlock b → (single : Bool) → single ≡ has_single_mask b.format → (block : List ℕ) (m : Masks) (words left n : ℕ) → length block ≡ 128 → AreMasksInWords single block m
    → ((i : ℕ) → i % 8 < 7 → i < 64 → is_in words i ≡ true → is_in left i ≡ false → (single ≡ true) × IsSingleMask (word_at block i)) → ((k : ℕ) → k < 32 → is_in words (2 * k) ≡ false → IsToldFree m (2 * k)) → n < 32 → is_in left (2 * n) ≡ false → IsQuietWord b block (2 * n)
told_or_mask b within single by_format block m words left n long are masks free lt none = elim (cases_Bool (is_in words (2 * n))) [
  | inl there ↦ (let mask = masks (2 * n) (omega (arith, lt)) (omega (arith, lt)) there none in single_mask_quiet b within block long (2 * n) (omega arith) (omega (arith, lt)) (sym by_format ∙ mask.0) mask.1)
  | inr gone ↦ told_quiet b within block m n long (subst (λ (s : Bool). AreMasksInWords s block m) by_format are) lt (free n lt gone)
]

-- what was not in it, or was taken out, is not left
not_there : (a b rest i : ℕ) → IsWithout a b rest → i < 64 → is_in a i ≡ false → is_in rest i ≡ false
not_there a b rest i without lt h = without i lt ∙ ap (λ p. p && not (is_in b i)) h

taken_out : (a b rest i : ℕ) → IsWithout a b rest → i < 64 → is_in b i ≡ true → is_in rest i ≡ false
taken_out a b rest i without lt h = without i lt ∙ and_right (is_in a i) (not (is_in b i)) (ap not h)

-- ---- pairs

pub record AreTwo (words i : ℕ) : Type 0 where
  pub below : i + 2 < 64
  pub first : is_in words i ≡ true

pub two_words : (words i : ℕ) → words < 2 ^ 64 → is_in (bit_and words (words / 4)) i ≡ true → AreTwo words i
two_words words i fits h =
    let e : 2 + i ≡ i + 2 = omega arith in
    let there : is_in words (i + 2) ≡ true = ap (is_in words) (sym e) ∙ sym (in_shr words 2 i) ∙ in_rest_other words (words / 4) i h in
    record { below = in_below words (i + 2) fits there; first = in_rest words (words / 4) i h }

-- ---- what is seen of the words that aren't left

module _ (b : BundlePlace) (block : List ℕ) (words pairs others steps rest plain left : ℕ) (within : IsWithinBlock b) (long : length block ≡ 128)
    (quiet : (n : ℕ) → n < 32 → is_in words (2 * n) ≡ false → IsQuietWord b block (2 * n))
    (first : IsWithout words (bit_or pairs (shl pairs 2)) others) (second : IsWithout others steps rest) (third : IsWithout rest plain left)
    (of_pairs : (i : ℕ) → is_in pairs i ≡ true → IsPairAt b.format block i)
    (stepped : (i : ℕ) → is_in steps i ≡ true → IsSteppedWord b block i) (apart : (i : ℕ) → is_in steps i ≡ true → is_in others (i + 2) ≡ false)
    (of_plain : (i : ℕ) → is_in plain i ≡ true → IsQuietWord b block i) where
  gone : (i : ℕ) → i < 64 → is_in others i ≡ false → is_in left i ≡ false
  gone i lt h = not_there rest plain left i third lt (not_there others steps rest i second lt h)

  first_seen : (i : ℕ) → is_in pairs i ≡ true → IsSeen b block left i
  first_seen i h = elim (first_of_pair b within block i long (of_pairs i h)) [
    | inl alone ↦ inl alone
    | inr both ↦ inr (both, gone (i + 2) both.below (taken_out words _ others (i + 2) first both.below (in_or pairs (shl pairs 2) (i + 2) ∙ or_right (is_in pairs (i + 2)) (is_in (shl pairs 2) (i + 2)) (shifted both.below))))
  ]
    where
      shifted : i + 2 < 64 → is_in (shl pairs 2) (i + 2) ≡ true
      shifted lt = let e : i + 2 ≡ 2 + i = omega arith in ap (is_in (shl pairs 2)) e ∙ in_shl pairs 2 i (omega (arith, lt)) ∙ h

  second_seen : (i : ℕ) → i < 64 → is_in (shl pairs 2) i ≡ true → IsSeen b block left i
  second_seen i lt h = elim (cases_lt i 2) [
    | inl low ↦ absurd (both_ways (is_in (shl pairs 2) i) (in_shl_low pairs 2 i low lt) h)
    | inr high ↦ (let e : i ≡ 2 + (i - 2) = omega (arith, high) in
        let there : is_in pairs (i - 2) ≡ true = sym (in_shl pairs 2 (i - 2) (omega (arith, high, lt))) ∙ ap (is_in (shl pairs 2)) (sym e) ∙ h in
        let same : i - 2 + 2 ≡ i = omega (arith, high) in
        inl (subst (λ (k : ℕ). IsCleanWord b block k Nothing Nothing) same (second_of_pair b within block (i - 2) long (of_pairs (i - 2) there))))
  ]

  pub left_seen : (n : ℕ) → n < 32 → is_in left (2 * n) ≡ false → IsSeen b block left (2 * n)
  left_seen n lt none = by (is_in words (2 * n)) (is_in pairs (2 * n)) (is_in (shl pairs 2) (2 * n)) (is_in steps (2 * n)) (is_in plain (2 * n)) refl refl refl refl refl
    where
      low : 2 * n < 64
      low = omega (arith, lt)

      by : (w p s t q : Bool) → is_in words (2 * n) ≡ w → is_in pairs (2 * n) ≡ p → is_in (shl pairs 2) (2 * n) ≡ s → is_in steps (2 * n) ≡ t → is_in plain (2 * n) ≡ q → IsSeen b block left (2 * n)
      by false p s t q e f g h k = inl (quiet n lt e)
      by true true s t q e f g h k = first_seen (2 * n) f
      by true false true t q e f g h k = second_seen (2 * n) low g
      by true false false true q e f g h k =
          let one = stepped (2 * n) h in
          inr (one, gone (2 * n + 2) one.below (apart (2 * n) h))
      by true false false false true e f g h k = inl (of_plain (2 * n) k)
      by true false false false false e f g h k =
          let none_of : is_in (bit_or pairs (shl pairs 2)) (2 * n) ≡ false = in_or pairs (shl pairs 2) (2 * n) ∙ ap₂ (λ x y. x || y) f g in
          let one = stays words (bit_or pairs (shl pairs 2)) others (2 * n) first low e none_of in
          let two = stays others steps rest (2 * n) second low one h in
          absurd (both_ways (is_in left (2 * n)) none (stays rest plain left (2 * n) third low two k))

-- ---- the steps before an access

pub record IsBefore (accesses words i : ℕ) : Type 0 where
  pub below : i + 2 < 64
  pub word : is_in words i ≡ true
  pub access : is_in accesses (i + 2) ≡ true
  pub apart : is_in words (i + 2) ≡ false

pub before_access : (accesses words rest i : ℕ) → accesses < 2 ^ 64 → IsWithout (bit_and words (accesses / 4)) (words / 4) rest → i < 64 → is_in rest i ≡ true → IsBefore accesses words i
before_access accesses words rest i fits without lt h =
    let e : 2 + i ≡ i + 2 = omega arith in
    let parts = and_parts (is_in (bit_and words (accesses / 4)) i) (not (is_in (words / 4) i)) (sym (without i lt) ∙ h) in
    let there : is_in accesses (i + 2) ≡ true = ap (is_in accesses) (sym e) ∙ sym (in_shr accesses 2 i) ∙ in_rest_other words (accesses / 4) i parts.0 in
    record {
      below = in_below accesses (i + 2) fits there;
      word = in_rest words (accesses / 4) i parts.0;
      access = there;
      apart = ap (is_in words) (sym e) ∙ sym (in_shr words 2 i) ∙ not-true (is_in (words / 4) i) parts.1;
    }
