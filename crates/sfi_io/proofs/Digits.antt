-- Digits by vectors: vectors by their lanes, and the classes of bytes.
use Rattle.std.proofs.Common.{◌/◌, ◌^◌, zero, suc, cond, map, get_or, replicate, ap₂, w8, bit_or, ◌⊎◌}
use Rattle.std.proofs.lemmas.Bool.{cases_lt, agree_below, agree_below_at}
use Rattle.std.proofs.lemmas.List.{length-map}
use Rattle.std.proofs.lemmas.Nat.{le_or_l, le_or_r, trailing_le, or_lt}
use Rattle.std.proofs.lemmas.Simd.{length-zip2, get_or-zip2, length-replicate, get_or-replicate, tops_compared, length-sel_l, get_or-sel_l, zip2_splat, mask_l-mod, leading_from_mask_l, trailing_mask_l, get_or_wider}
use Rattle.std.proofs.lemmas.List.Sums.{prefix_len_passes}
use Rattle.std.specs.List.{prefix_len}
use lib.Count.{count_trailing_zeros}
use lib.Lanes.{Each1, zip2, chunk, top, sel_l, mask_l, fold_l, number_l, digits_l}
use Rattle.std.specs.Int.Bits.{bit_and, bit_xor}
use Rattle.hex.specs.Hex.{pair_value, value_at}
use Rattle.sfi_io.specs.declared.hexadecimal.TheConstants.{CLASSES}
use Rattle.sfi_io.proofs.Prelude.{◌≡◌, ℕ, ◌+◌, ◌-◌, ◌*◌, ◌%◌, ◌<◌, ◌≤◌, Bool, false, List, [], ◌∷◌, length, refl, sym, ap, ◌∙◌, subst, arith, inl, inr, slice_index, not, nat_lt, nat_tests, ◌==◌, true, Option, Some, None, Ok, if◌then◌else◌, hex_digit_value, digit_or_error, is_kept, IsByteOf}

-- ==== Vectors by their lanes.

-- v has n lanes, and lane i is a i
pub record HasLanes (n : ℕ) (v : List ℕ) (a : ℕ → ℕ) : Type 0 where
  pub count : length v ≡ n
  pub lanes : (i : ℕ) → i < n → slice_index v i ≡ a i

pub own : (n : ℕ) (v : List ℕ) → length v ≡ n → HasLanes n v (λ i. slice_index v i)
own n v count = record { count = count; lanes = λ i h. refl }

pub splat : (n x : ℕ) → HasLanes n (replicate n x) (λ i. x)
splat n x = record { count = length-replicate n x; lanes = λ i h. get_or-replicate n i x 0 h }

pub zipped : (n : ℕ) (f : ℕ → ℕ → ℕ) (v w : List ℕ) (a b : ℕ → ℕ) → HasLanes n v a → HasLanes n w b → HasLanes n (zip2 f v w) (λ i. f (a i) (b i))
zipped n f v w a b p q = record {
  count = length-zip2 f v w (p.count ∙ sym q.count) ∙ p.count;
  lanes = λ i h. get_or-zip2 f v w i 0 0 0 (omega (arith, h, p.count)) (omega (arith, h, q.count)) ∙ ap₂ f (p.lanes i h) (q.lanes i h);
}

-- one of two vectors' lanes, by a comparison of two others'
pub chosen : (n : ℕ) (t : ℕ → ℕ → Bool) (v w one other : List ℕ) (a b c d : ℕ → ℕ) → HasLanes n v a → HasLanes n w b → HasLanes n one c → HasLanes n other d
    → HasLanes n (sel_l (map (top 7) (zip2 (λ x z. cond (t x z) 255 0) v w)) one other) (λ i. cond (t (a i) (b i)) (c i) (d i))
chosen n t v w one other a b c d p q r s =
    let ms = zip2 t v w in
    let count : length ms ≡ n = length-zip2 t v w (p.count ∙ sym q.count) ∙ p.count in
    let is : HasLanes n (sel_l ms one other) (λ i. cond (t (a i) (b i)) (c i) (d i)) = record {
      count = length-sel_l ms one other (count ∙ sym r.count) (count ∙ sym s.count) ∙ count;
      lanes = λ i h.
          get_or-sel_l ms one other i 0 (omega (arith, h, count)) (omega (arith, h, r.count)) (omega (arith, h, s.count))
          ∙ ap₂ (λ (m : Bool) (x : ℕ). cond m x (get_or other i 0))
          (get_or-zip2 t v w i 0 0 false (omega (arith, h, p.count)) (omega (arith, h, q.count)) ∙ ap₂ t (p.lanes i h) (q.lanes i h)) (r.lanes i h)
          ∙ ap (λ x. cond (t (a i) (b i)) (c i) x) (s.lanes i h);
    } in
    subst (λ (l : List Bool). HasLanes n (sel_l l one other) (λ i. cond (t (a i) (b i)) (c i) (d i))) (sym (tops_compared w8 t v w)) is

-- ---- a pair of bytes in each lane

pair_at : (bytes : List ℕ) (i : ℕ) → suc i < length bytes → number_l 256 (chunk i 2 bytes) ≡ slice_index bytes i + 256 * slice_index bytes (suc i)
pair_at [] i h = absurd (omega arith)
pair_at (x ∷ []) i h = absurd (omega arith)
pair_at (x ∷ y ∷ bytes) zero h = omega arith
pair_at (x ∷ y ∷ bytes) (suc i) h = pair_at (y ∷ bytes) i (omega arith)

pub paired : (bytes : List ℕ) → length bytes ≡ 64 → Each1 (λ x. x < 256) bytes
    → HasLanes 32 (digits_l 65536 32 (number_l 256 bytes)) (λ i. slice_index bytes (2 * i) + 256 * slice_index bytes (2 * i + 1))
paired bytes count fits = record {
  count = refl;
  lanes = λ i h.
      get_or_wider 256 2 65536 32 bytes i refl fits h
      ∙ pair_at bytes (2 * i) (omega (arith, h, count))
      ∙ ap (λ (k : ℕ). slice_index bytes (2 * i) + 256 * slice_index bytes k) (omega arith);
}

pub joins : (a b : ℕ) → a < 256 → b < 256 → 240 ≤ a → 240 ≤ b → ((a + 256 * b) * 4097 % 65536 / 256 + 16) % 256 ≡ (a - 240) * 16 + (b - 240)
joins a b f g p q = omega arith

-- ---- how many lanes come before the first below 240

start_is : (xs : List ℕ) (a : ℕ) → fold_l bit_or a xs ≡ 0 → a ≡ 0
start_is [] a e = e
start_is (x ∷ xs) a e = omega (arith, start_is xs (bit_or a x) e, le_or_l a x)

pub no_bits : (xs : List ℕ) (a i : ℕ) → fold_l bit_or a xs ≡ 0 → slice_index xs i ≡ 0
no_bits [] a i e = refl
no_bits (x ∷ xs) a zero e = omega (arith, start_is xs (bit_or a x) e, le_or_r a x)
no_bits (x ∷ xs) a (suc i) e = no_bits xs (bit_or a x) i e

abbrev is_other : ℕ → Bool
is_other x = nat_lt x 240

-- what a comparison with 240 gives as a number
abbrev others : List ℕ → ℕ
others v = mask_l (map (top 7) (zip2 (λ a b. cond (nat_lt a b) 255 0) v (replicate 64 240))) % 2 ^ 64

others_is : (v : List ℕ) → length v ≡ 64 → others v ≡ mask_l (map is_other v)
others_is v count =
    ap (λ (l : List Bool). mask_l l % 2 ^ 64) (tops_compared w8 nat_lt v (replicate 64 240) ∙ zip2_splat nat_lt v 64 240 count)
    ∙ mask_l-mod (map is_other v) 64 (omega (arith, length-map v is_other, count))

digit_at : (v : List ℕ) (k : ℕ) → k < prefix_len (λ x. not (is_other x)) v → 240 ≤ slice_index v k
digit_at v k lt = let e = prefix_len_passes (λ x. not (is_other x)) v k 0 lt in grind (arith, nat_tests, e)

pub before_other : (v : List ℕ) → length v ≡ 64 → (k : ℕ) → k < count_trailing_zeros 64 (others v) → 240 ≤ slice_index v k
before_other v count k lt =
    elim (cases_lt 0 (others v)) [
      | inl some ↦
          digit_at v k (omega (arith, lt, ap (count_trailing_zeros 64) (others_is v count) ∙ trailing_mask_l is_other 64 v (omega (arith, count)) (omega (arith, some, others_is v count))))
      | inr none ↦
          digit_at v k (omega (arith, lt, count, trailing_le 64 (others v), leading_from_mask_l is_other v (omega (arith, none, others_is v count))))
    ]

-- ==== The table of the bytes' classes, seen right at each byte.

-- a test that passes at each byte by computation
below_256 : (test : ℕ → Bool) → agree_below test (λ b. true) 256 ≡ true → (r : ℕ) → r < 256 → test r ≡ true
below_256 test h r lt = agree_below_at test (λ b. true) 256 r h lt

abbrev same : Option ℕ → Option ℕ → Bool
same None None = true
same None (Some b) = false
same (Some a) None = false
same (Some a) (Some b) = a == b

same_is : (a b : Option ℕ) → same a b ≡ true → a ≡ b
same_is None None h = refl
same_is None (Some b) h = cc h
same_is (Some a) None h = cc h
same_is (Some a) (Some b) h = ap Some (grind (arith, nat_tests))

-- the digit's value of a class
abbrev pub of_class : ℕ → Option ℕ
of_class k = if nat_lt k 16 then Some k else None

pub class_digit : (c : ℕ) → c < 256 → of_class (slice_index CLASSES c) ≡ hex_digit_value c
class_digit c lt = same_is _ _ (below_256 (λ b. same (of_class (slice_index CLASSES b)) (hex_digit_value b)) refl c lt)

pub class_white : (c : ℕ) → c < 256 → (slice_index CLASSES c == 16) ≡ not (is_kept c)
class_white c lt = agree_below_at (λ b. slice_index CLASSES b == 16) (λ b. not (is_kept b)) 256 c refl lt

pub class_digit_some : (c k : ℕ) → c < 256 → k ≡ slice_index CLASSES c → k < 16 → hex_digit_value c ≡ Some k
class_digit_some c k lt is small =
    let e : nat_lt (slice_index CLASSES c) 16 ≡ true = grind (arith, nat_tests, is, small) in
    sym (class_digit c lt) ∙ rw (e, is) refl

pub class_digit_none : (c : ℕ) → c < 256 → 16 ≤ slice_index CLASSES c → None ≡ hex_digit_value c
class_digit_none c lt large =
    let e : nat_lt (slice_index CLASSES c) 16 ≡ false = grind (arith, nat_tests, large) in
    rw (← class_digit c lt, e) refl

-- a digit isn't white
kept_or : ℕ → Option ℕ → Bool
kept_or c None = true
kept_or c (Some v) = is_kept c

pub digit_kept : (c v : ℕ) → c < 256 → hex_digit_value c ≡ Some v → is_kept c ≡ true
unfolding kept_or
digit_kept c v lt e = sym (ap (kept_or c) e) ∙ below_256 (λ b. kept_or b (hex_digit_value b)) refl c lt

pub both_small : (a b : ℕ) → bit_or a b < 16 → (a < 16) × (b < 16)
both_small a b h = (omega (arith, h, le_or_l a b), omega (arith, h, le_or_r a b))

pub pair_is : (a b h v : ℕ) → hex_digit_value a ≡ Some h → hex_digit_value b ≡ Some v → (i : ℕ) → pair_value a b i ≡ Ok (h * 16 + v)
pair_is a b h v e f i =
    let high : value_at a i ≡ Ok h = ap (digit_or_error a i) e in
    let low : value_at b (i + 1) ≡ Ok v = ap (digit_or_error b (i + 1)) f in
    rw (high, low) refl

-- ---- a digit's value by arithmetic

implies : Bool → Bool → Bool
implies true b = b
implies false b = true

then_true : (a b : Bool) → a ≡ true → implies a b ≡ true → b ≡ true
unfolding implies
then_true true b e h = h
then_true false b e h = cc e

abbrev figure : ℕ → ℕ
figure b = let sum = (b + 198) % 256 in (cond (nat_lt sum 6) 6 sum + 250) % 256

abbrev letter : ℕ → ℕ
letter b = (bit_or ((b + 255) % 256) 32 + 154) % 256

-- what a lane of the vectors makes of a byte
abbrev pub value : ℕ → ℕ
value b = cond (nat_lt (figure b) (letter b)) (letter b) (figure b)

pub value_is : (c : ℕ) → c < 256 → 240 ≤ value c → hex_digit_value c ≡ Some (value c - 240)
unfolding implies
value_is c lt large =
    let near : not (nat_lt (value c) 240) ≡ true = grind (arith, nat_tests, large) in
    let all = below_256 (λ b. implies (not (nat_lt (value b) 240)) (same (Some (value b - 240)) (hex_digit_value b))) refl c lt in
    sym (same_is _ _ (then_true _ _ near all))

pub large_is : (c : ℕ) → c < 256 → bit_and (bit_xor c 240) 240 ≡ 0 → 240 ≤ c
unfolding implies
large_is c lt none =
    let no_bit : (bit_and (bit_xor c 240) 240 == 0) ≡ true = grind (arith, nat_tests, none) in
    let large = then_true _ _ no_bit (below_256 (λ b. implies (bit_and (bit_xor b 240) 240 == 0) (not (nat_lt b 240))) refl c lt) in
    grind (arith, nat_tests, large)

-- the byte of two values that are digits'
pub byte_of_values : (a b h v : ℕ) → a < 256 → b < 256 → hex_digit_value a ≡ Some h → hex_digit_value b ≡ Some v → IsByteOf a b (h * 16 + v)
byte_of_values a b h v la lb e f = record {
  pair = pair_is a b h v e f;
  high_kept = digit_kept a h la e;
  low_kept = digit_kept b v lb f;
}

-- of a pair that isn't two digits, one is none
small_of : (a : ℕ) → (a < 16) ⊎ (16 ≤ a)
small_of a = by (nat_lt a 16) refl
  where
    by : (b : Bool) → nat_lt a 16 ≡ b → (a < 16) ⊎ (16 ≤ a)
    by true e = inl (grind (arith, nat_tests, e))
    by false e = inr (grind (arith, nat_tests, e))

pub wrong_pair : (high low a b : ℕ) → high < 256 → low < 256 → a ≡ slice_index CLASSES high → b ≡ slice_index CLASSES low → 16 ≤ bit_or a b
    → hex_digit_value high ≡ None ⊎ hex_digit_value low ≡ None
wrong_pair high low a b fits fits_low is is_low large =
    elim (small_of a) [
      | inl small ↦ elim (small_of b) [
        | inl small_low ↦ absurd (omega (arith, large, or_lt 4 a b small small_low))
        | inr other ↦ inr (sym (class_digit_none low fits_low (omega (arith, other, is_low))))
      ]
      | inr other ↦ inl (sym (class_digit_none high fits (omega (arith, other, is))))
    ]
