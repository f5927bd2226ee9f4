-- Vectors of sixteen bytes by their lanes, and the masks that are made of them.
use Rattle.std.proofs.Common.{◌≡◌, ℕ, ◌+◌, ◌*◌, ◌/◌, ◌%◌, ◌^◌, ◌<◌, ◌==◌, refl, sym, ap, ap₂, ◌∙◌, inl, inr, arith, bit_or, Bool, true, false, cond, eqb, List, [], ◌∷◌, ◌++◌, map, length, get_or, replicate, take, drop, subst, w8, Fits, eqb-true, bit_and}
use Rattle.std.proofs.lemmas.Bool.{cases_eq, agree_below_at}
use Rattle.std.proofs.lemmas.Nat.{or_shifted, or_comm, shr-shr, and_mask}
use Rattle.std.proofs.lemmas.Nat.Bits.{bit_at_cat_low}
use Rattle.sfi_masks.specs.Masks.{is_in}
use Rattle.sfi_masks.specs.private.{of_four, HasLanes, Code, is_on_x2, half_classes, followed, free_followed, kept_of, rest, free_classes, access_classes}
use Rattle.std.specs.Prelude.{slice_index}
use Rattle.std.proofs.lemmas.List.{get_or-map, length-map, take-take, take_all, take-append-drop, length-drop}
use Rattle.std.proofs.lemmas.Simd.{length-zip2, get_or-zip2, length-replicate, get_or-replicate, Each1-from_get_or, Each1-get_or, swz_l, SwzOk, SwzOk-from_below, length-swz_l, get_or-swz_l_below, bitmask_splat, mask_l-lt, bit_mask_l, pick_l_left, tops_compared, length-sel_l, get_or-sel_l}
use lib.Lanes.{zip2, mask_l, chunk, top, pick_l, sel_l, Each1}
use Rattle.sfi_masks.specs.declared.tables.TheConstants.{ALONE}

-- ==== Four numbers of 16 bits side by side, bit by bit.

above : (low high k whole : ℕ) → low < 2 ^ k → high * 2 ^ k + low ≡ whole → bit_or low (high * 2 ^ k) ≡ whole
above low high k whole small sum = or_comm low (high * 2 ^ k) ∙ or_shifted high k low small ∙ sum

abbrev whole : ℕ → ℕ → ℕ → ℕ → ℕ
whole a b c d = ((d * 2 ^ 16 + c) * 2 ^ 16 + b) * 2 ^ 16 + a

sum_is : (a b c d : ℕ) → a < 2 ^ 16 → b < 2 ^ 16 → c < 2 ^ 16 → d < 2 ^ 16
    → bit_or (bit_or (bit_or a (b * 2 ^ 16 % 2 ^ 64)) (c * 2 ^ 32 % 2 ^ 64)) (d * 2 ^ 48 % 2 ^ 64) ≡ whole a b c d
sum_is a b c d fa fb fc fd =
    let eb : b * 2 ^ 16 % 2 ^ 64 ≡ b * 2 ^ 16 = omega arith in
    let ec : c * 2 ^ 32 % 2 ^ 64 ≡ c * 2 ^ 32 = omega arith in
    let ed : d * 2 ^ 48 % 2 ^ 64 ≡ d * 2 ^ 48 = omega arith in
    let two = ap (λ n. bit_or a n) eb ∙ above a b 16 (b * 2 ^ 16 + a) fa refl in
    let three = ap₂ (λ m n. bit_or m n) two ec ∙ above (b * 2 ^ 16 + a) c 32 ((c * 2 ^ 16 + b) * 2 ^ 16 + a) (omega arith) (omega arith) in
    ap₂ (λ m n. bit_or m n) three ed ∙ above ((c * 2 ^ 16 + b) * 2 ^ 16 + a) d 48 (whole a b c d) (omega arith) (omega arith)

-- sixteen bits of n, from bit k on
part_at : (n above part k i j : ℕ) → n / 2 ^ k ≡ above * 2 ^ 16 + part → k + j ≡ i → j < 16 → is_in n i ≡ is_in part j
part_at n above part k i j e place small =
    ap (λ m. n / 2 ^ m % 2 == 1) (sym place) ∙ ap (λ m. m % 2 == 1) (sym (shr-shr n k j) ∙ ap (λ m. m / 2 ^ j) e)
    ∙ ap (λ m. m == 1) (bit_at_cat_low above 16 part j small)

pub joined_bits : (a b c d : ℕ) → a < 2 ^ 16 → b < 2 ^ 16 → c < 2 ^ 16 → d < 2 ^ 16 → (i : ℕ) → i < 64
    → is_in (bit_or (bit_or (bit_or a (b * 2 ^ 16 % 2 ^ 64)) (c * 2 ^ 32 % 2 ^ 64)) (d * 2 ^ 48 % 2 ^ 64)) i ≡ is_in (of_four a b c d (i / 16)) (i % 16)
joined_bits a b c d fa fb fc fd i lt = ap (λ n. is_in n i) (sum_is a b c d fa fb fc fd) ∙ elim (cases_eq (i / 16) 0) [
  | inl e ↦ part_at (whole a b c d) ((d * 2 ^ 16 + c) * 2 ^ 16 + b) a 0 i (i % 16) (omega arith) (omega arith) (omega arith) ∙ ap (λ q. is_in (of_four a b c d q) (i % 16)) (sym e)
  | inr x ↦ elim (cases_eq (i / 16) 1) [
    | inl e ↦ part_at (whole a b c d) (d * 2 ^ 16 + c) b 16 i (i % 16) (omega arith) (omega arith) (omega arith) ∙ ap (λ q. is_in (of_four a b c d q) (i % 16)) (sym e)
    | inr y ↦ elim (cases_eq (i / 16) 2) [
      | inl e ↦ part_at (whole a b c d) d c 32 i (i % 16) (omega arith) (omega arith) (omega arith) ∙ ap (λ q. is_in (of_four a b c d q) (i % 16)) (sym e)
      | inr z ↦ (let e : i / 16 ≡ 3 = omega arith in part_at (whole a b c d) 0 d 48 i (i % 16) (omega arith) (omega arith) (omega arith) ∙ ap (λ q. is_in (of_four a b c d q) (i % 16)) (sym e))
    ]
  ]
]

-- ==== Vectors of sixteen bytes by their lanes.

pub own : (v : List ℕ) → length v ≡ 16 → HasLanes v (λ i. slice_index v i)
own v count = record { count = count; lanes = λ i h. refl }

pub splat : (x : ℕ) → HasLanes (replicate 16 x) (λ i. x)
splat x = record { count = length-replicate 16 x; lanes = λ i h. get_or-replicate 16 i x 0 h }

pub zipped : (f : ℕ → ℕ → ℕ) (v w : List ℕ) (a b : ℕ → ℕ) → HasLanes v a → HasLanes w b → HasLanes (zip2 f v w) (λ i. f (a i) (b i))
zipped f v w a b p q = record {
  count = length-zip2 f v w (p.count ∙ sym q.count) ∙ p.count;
  lanes = λ i h. get_or-zip2 f v w i 0 0 0 (omega (arith, p.count)) (omega (arith, q.count)) ∙ ap₂ f (p.lanes i h) (q.lanes i h);
}

pub same_lanes : (v : List ℕ) (a b : ℕ → ℕ) → HasLanes v a → ((i : ℕ) → i < 16 → a i ≡ b i) → HasLanes v b
same_lanes v a b p same = record { count = p.count; lanes = λ i h. p.lanes i h ∙ same i h }

-- ---- tables

pub may_swizzle : (v : List ℕ) → length v ≡ 16 → ((i : ℕ) → i < 16 → slice_index v i < 16) → SwzOk w8 16 16 0 v
may_swizzle v count below =
    SwzOk-from_below w8 16 1 16 0 v refl (omega (arith, count)) (Each1-from_get_or (λ j. j < 16) v 0 (λ i h. below i (omega (arith, count))))

pub looked_up : (table v : List ℕ) → length v ≡ 16 → ((i : ℕ) → i < 16 → slice_index v i < 16) → HasLanes (swz_l w8 16 table 0 v) (λ i. slice_index table (slice_index v i))
looked_up table v count below = record {
  count = length-swz_l w8 16 table 0 v ∙ count;
  lanes = λ i h.
      let e : 16 * ((0 + i) / 16) + get_or v i 0 ≡ get_or v i 0 = omega arith in
      get_or-swz_l_below w8 16 table 0 v i (omega (arith, count)) (below i h) ∙ ap (λ k. get_or table k 0) e;
}

-- ---- every other byte

joined : (bytes : List ℕ) → length bytes ≡ 32 → chunk 0 16 (take 16 bytes) ++ take 16 (drop 16 bytes) ≡ bytes
joined bytes count =
    ap₂ (λ a b. a ++ b) (take-take 16 16 bytes (omega arith)) (take_all 16 (drop 16 bytes) (omega (arith, length-drop 16 bytes)))
    ∙ take-append-drop 16 bytes

abbrev even : List ℕ
even = 0 ∷ 2 ∷ 4 ∷ 6 ∷ 8 ∷ 10 ∷ 12 ∷ 14 ∷ 16 ∷ 18 ∷ 20 ∷ 22 ∷ 24 ∷ 26 ∷ 28 ∷ 30 ∷ []

abbrev odd : List ℕ
odd = 1 ∷ 3 ∷ 5 ∷ 7 ∷ 9 ∷ 11 ∷ 13 ∷ 15 ∷ 17 ∷ 19 ∷ 21 ∷ 23 ∷ 25 ∷ 27 ∷ 29 ∷ 31 ∷ []

even_is : (i : ℕ) → i < 16 → get_or even i 0 ≡ 2 * i
even_is i h = eqb-true _ _ (agree_below_at (λ k. eqb (get_or even k 0) (2 * k)) (λ k. true) 16 i refl h)

odd_is : (i : ℕ) → i < 16 → get_or odd i 0 ≡ 2 * i + 1
odd_is i h = eqb-true _ _ (agree_below_at (λ k. eqb (get_or odd k 0) (2 * k + 1)) (λ k. true) 16 i refl h)

picked : (both bytes places : List ℕ) (place : ℕ → ℕ) → both ≡ bytes → length places ≡ 16 → ((i : ℕ) → i < 16 → get_or places i 0 ≡ place i) → HasLanes (pick_l 0 both places) (λ i. slice_index bytes (place i))
picked both bytes places place same count at = record {
  count = length-map places (λ k. get_or both k 0) ∙ count;
  lanes = λ i h. get_or-map (λ k. get_or both k 0) places i 0 0 (omega (arith, count)) ∙ ap₂ (λ l k. get_or l k 0) same (at i h);
}

pub low_bytes : (bytes : List ℕ) → length bytes ≡ 32 → HasLanes (pick_l 0 (chunk 0 16 (take 16 bytes) ++ take 16 (drop 16 bytes)) even) (λ i. slice_index bytes (2 * i))
low_bytes bytes count = picked _ bytes even (λ i. 2 * i) (joined bytes count) refl even_is

pub high_bytes : (bytes : List ℕ) → length bytes ≡ 32 → HasLanes (pick_l 0 (chunk 0 16 (take 16 bytes) ++ take 16 (drop 16 bytes)) odd) (λ i. slice_index bytes (2 * i + 1))
high_bytes bytes count = picked _ bytes odd (λ i. 2 * i + 1) (joined bytes count) refl odd_is

-- ---- the nibbles of each byte

pub by_low_nibble : (v : List ℕ) → length v ≡ 16
    → HasLanes (zip2 bit_and v (replicate 16 15)) (λ i. slice_index v i % 16) × ((i : ℕ) → i < 16 → slice_index (zip2 bit_and v (replicate 16 15)) i < 16)
by_low_nibble v count =
    let is = same_lanes _ _ (λ i. slice_index v i % 16) (zipped bit_and v (replicate 16 15) _ _ (own v count) (splat 15)) (λ i h. and_mask (slice_index v i) 4) in
    (is, λ i h. omega (arith, is.lanes i h))

pub by_high_nibble : (v : List ℕ) → (length v ≡ 16) × Each1 (Fits w8) v
    → HasLanes (zip2 (λ a b. a / 2 ^ b) v (replicate 16 4)) (λ i. slice_index v i / 16) × ((i : ℕ) → i < 16 → slice_index (zip2 (λ a b. a / 2 ^ b) v (replicate 16 4)) i < 16)
by_high_nibble v fits =
    let is = zipped (λ a b. a / 2 ^ b) v (replicate 16 4) _ _ (own v fits.0) (splat 4) in
    (is, λ i h. omega (arith, is.lanes i h, (Each1-get_or (Fits w8) v i 0 (omega (arith, fits.0)) fits.1).fits))

-- ---- a comparison with one number, as bits

bit_is : (ms : List Bool) (i : ℕ) → is_in (mask_l ms) i ≡ get_or ms i false
bit_is ms i = ap (λ x. x == 1) (bit_mask_l ms i) ∙ back (get_or ms i false)
  where
    back : (b : Bool) → (cond b 1 0 == 1) ≡ b
    back true = refl
    back false = refl

-- what a comparison of a vector with y gives as a number
abbrev pub compared : (ℕ → ℕ → Bool) → List ℕ → ℕ → ℕ
compared t v y = mask_l (map (top 7) (zip2 (λ a b. cond (t a b) 255 0) v (replicate 16 y))) % 2 ^ 64

compared_is : (t : ℕ → ℕ → Bool) (v : List ℕ) (y : ℕ) → length v ≡ 16 → compared t v y ≡ mask_l (map (λ x. t x y) v)
compared_is t v y count = bitmask_splat w8 t v 16 y count (omega arith)

pub compared_small : (t : ℕ → ℕ → Bool) (v : List ℕ) (y : ℕ) → length v ≡ 16 → compared t v y < 2 ^ 16
compared_small t v y count =
    let e : length (map (λ x. t x y) v) ≡ 16 = length-map v (λ x. t x y) ∙ count in
    let small : mask_l (map (λ x. t x y) v) < 2 ^ 16 = subst (λ n. mask_l (map (λ x. t x y) v) < 2 ^ n) e (mask_l-lt (map (λ x. t x y) v)) in
    subst (λ n. n < 2 ^ 16) (sym (compared_is t v y count)) small

pub compared_bits : (t : ℕ → ℕ → Bool) (v : List ℕ) (y : ℕ) → length v ≡ 16 → (i : ℕ) → i < 16 → is_in (compared t v y) i ≡ t (slice_index v i) y
compared_bits t v y count i h =
    ap (λ n. is_in n i) (compared_is t v y count) ∙ bit_is (map (λ x. t x y) v) i ∙ get_or-map (λ x. t x y) v i 0 false (omega (arith, count))

-- ---- one lane further

abbrev turned : List ℕ
turned = 1 ∷ 2 ∷ 3 ∷ 4 ∷ 5 ∷ 6 ∷ 7 ∷ 8 ∷ 9 ∷ 10 ∷ 11 ∷ 12 ∷ 13 ∷ 14 ∷ 15 ∷ 0 ∷ []

turned_is : (i : ℕ) → i < 16 → get_or turned i 0 ≡ (i + 1) % 16
turned_is i h = eqb-true _ _ (agree_below_at (λ k. eqb (get_or turned k 0) ((k + 1) % 16)) (λ k. true) 16 i refl h)

pub rotated : (v : List ℕ) (a : ℕ → ℕ) → HasLanes v a → HasLanes (pick_l 0 (v ++ v) turned) (λ i. a ((i + 1) % 16))
rotated v a p =
    let is = picked v v turned (λ i. (i + 1) % 16) refl refl turned_is in
    subst (λ w. HasLanes w (λ i. a ((i + 1) % 16))) (sym (pick_l_left 0 v v 16 turned p.count tt))
    (same_lanes _ _ _ is (λ i h. p.lanes ((i + 1) % 16) (omega arith)))

-- ---- of two vectors each lane of one, by a comparison with a number

pub chosen_of : (v one other : List ℕ) (a p q : ℕ → ℕ) (y : ℕ) → HasLanes v a → HasLanes one p → HasLanes other q
    → HasLanes (sel_l (map (top 7) (zip2 (λ x z. cond (eqb x z) 255 0) v (replicate 16 y))) one other) (λ i. cond (eqb (a i) y) (p i) (q i))
chosen_of v one other a p q y lanes ones others =
    let ms = zip2 eqb v (replicate 16 y) in
    let same : map (top 7) (zip2 (λ x z. cond (eqb x z) 255 0) v (replicate 16 y)) ≡ ms = tops_compared w8 eqb v (replicate 16 y) in
    let count : length ms ≡ 16 = length-zip2 eqb v (replicate 16 y) lanes.count ∙ lanes.count in
    let is : HasLanes (sel_l ms one other) (λ i. cond (eqb (a i) y) (p i) (q i)) = record {
      count = length-sel_l ms one other (count ∙ sym ones.count) (count ∙ sym others.count) ∙ count;
      lanes = λ i h.
          get_or-sel_l ms one other i 0 (omega (arith, count)) (omega (arith, ones.count)) (omega (arith, others.count))
          ∙ ap₂ (λ (b : Bool) (n : ℕ). cond b n (get_or other i 0))
          (get_or-zip2 eqb v (replicate 16 y) i 0 0 false (omega (arith, lanes.count)) h ∙ ap₂ eqb (lanes.lanes i h) (get_or-replicate 16 i y 0 h)) (ones.lanes i h)
          ∙ ap (λ n. cond (eqb (a i) y) (p i) n) (others.lanes i h);
    } in
    subst (λ (l : List Bool). HasLanes (sel_l l one other) (λ i. cond (eqb (a i) y) (p i) (q i))) (sym same) is

pub chosen : (v : List ℕ) (a : ℕ → ℕ) (y one other : ℕ) → HasLanes v a
    → HasLanes (sel_l (map (top 7) (zip2 (λ x z. cond (eqb x z) 255 0) v (replicate 16 y))) (replicate 16 one) (replicate 16 other)) (λ i. cond (eqb (a i) y) one other)
chosen v a y one other p = chosen_of v (replicate 16 one) (replicate 16 other) a (λ i. one) (λ i. other) y p (splat one) (splat other)

-- ==== The masks of sixteen halfwords, by their bytes.

module _ (code : Code) (byte : ℕ → ℕ) (low high : List ℕ) (lows : HasLanes low (λ i. byte (2 * i))) (highs : HasLanes high (λ i. byte (2 * i + 1))) where
  abbrev next : ℕ → ℕ
  next i = byte (2 * ((i + 1) % 16) + 1)

  followed_is : (v : List ℕ) → HasLanes v (λ i. followed (slice_index low i) (slice_index high i) (slice_index high ((i + 1) % 16))) → HasLanes v (λ i. followed (byte (2 * i)) (byte (2 * i + 1)) (next i))
  followed_is v p = same_lanes v _ _ p (λ i h.
      ap₂ (λ a b. followed a b (slice_index high ((i + 1) % 16))) (lows.lanes i h) (highs.lanes i h)
      ∙ ap (λ n. followed (byte (2 * i)) (byte (2 * i + 1)) n) (highs.lanes ((i + 1) % 16) (omega arith)))

  by_bytes : (f : ℕ → ℕ → ℕ) (v : List ℕ) → HasLanes v (λ i. f (slice_index low i) (slice_index high i)) → HasLanes v (λ i. f (byte (2 * i)) (byte (2 * i + 1)))
  by_bytes f v p = same_lanes v _ _ p (λ i h. ap₂ f (lows.lanes i h) (highs.lanes i h))

  module _ (alone follow others keep free : List ℕ)
      (are_alone : HasLanes alone (λ i. half_classes ALONE (slice_index low i) (slice_index high i)))
      (are_followed : HasLanes follow (λ i. followed (slice_index low i) (slice_index high i) (slice_index high ((i + 1) % 16))))
      (are_rest : HasLanes others (λ i. rest (is_on_x2 code) (slice_index low i) (slice_index high i)))
      (are_kept : HasLanes keep (λ i. kept_of code (slice_index low i) (slice_index high i)))
      (are_free : HasLanes free (λ i. free_followed code (slice_index high i) (slice_index low ((i + 1) % 16)))) where
    pub free_lanes : HasLanes (zip2 bit_and (zip2 bit_or (zip2 bit_or alone others) (zip2 bit_and follow free)) keep)
        (λ i. free_classes code (byte (2 * i)) (byte (2 * i + 1)) (byte (2 * ((i + 1) % 16))) (next i))
    free_lanes =
        let one = zipped bit_or alone others _ _ (by_bytes (half_classes ALONE) alone are_alone) (by_bytes (rest (is_on_x2 code)) others are_rest) in
        let by_base = same_lanes free _ (λ i. free_followed code (byte (2 * i + 1)) (byte (2 * ((i + 1) % 16)))) are_free (λ i h. ap₂ (free_followed code) (highs.lanes i h) (lows.lanes ((i + 1) % 16) (omega arith))) in
        let two = zipped bit_and follow free _ _ (followed_is follow are_followed) by_base in
        zipped bit_and _ keep _ _ (zipped bit_or _ _ _ _ one two) (by_bytes (kept_of code) keep are_kept)

    pub access_lanes : HasLanes (zip2 bit_and (zip2 bit_and follow (replicate 16 192)) keep)
        (λ i. access_classes code (byte (2 * i)) (byte (2 * i + 1)) (next i))
    access_lanes =
        zipped bit_and _ keep _ _ (zipped bit_and follow (replicate 16 192) _ _ (followed_is follow are_followed) (splat 192)) (by_bytes (kept_of code) keep are_kept)
