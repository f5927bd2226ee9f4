-- Sandboxes at their usual places never meet where masks of data are single.
use Rattle.sfi_link.proofs.Prelude.{◌≡◌, ℕ, ◌+◌, ◌-◌, ◌*◌, ◌^◌, ◌<◌, ◌≤◌, true, List, [], ◌∷◌, ◌++◌, length, get_or, refl, sym, ap, ◌∙◌, subst, arith, inl, inr, ◌⊎◌, cases_lt, All, All-nil, All-cons, All-append, Format, Span, Part, AreApart, AreClear, spans, with_guards, Placement, IsPlacedPart, Place, IsRightPlace, spans_at, ends_at, LieApart, needed, HasRoom, IsCodeSize, IsLinked, MayLie}
use Rattle.std.proofs.Math.Pow.{pow_mono}
use Rattle.std.proofs.lemmas.Nat.{pow-add}
use Rattle.sfi_formats.specs.Formats.{has_single_mask}
use Rattle.sfi_formats.specs.Places.{usual}
use Rattle.sfi_formats.proofs.Facts.{limits_are_small, limits_have_room}
use Rattle.sfi_image.proofs.Regions.{exponent_le}
use Rattle.sfi_image.proofs.Tests.{pairs_of_two}
use Rattle.sfi_link.proofs.OneLinking.{own_spans}

-- ---- multiples, and spans one after the other

-- a multiple of a power of two is one of each smaller power
pub region_at : (size power most m : ℕ) → size ≡ 2 ^ power → size ≤ 2 ^ most → 2 ^ most * m ≡ (2 ^ (most - power) * m) * size
region_at size power most m is le =
    let narrow : power ≤ most = exponent_le power most (subst (λ n. n ≤ 2 ^ most) is le) in
    let sum : most ≡ (most - power) + power = omega arith in
    ap (λ n. n * m) (ap (λ n. 2 ^ n) sum ∙ pow-add 2 (most - power) power) ∙ shuffled (2 ^ (most - power)) (2 ^ power) m ∙ ap (λ n. (2 ^ (most - power) * m) * n) (sym is)
  where
    shuffled : (a b c : ℕ) → a * b * c ≡ a * c * b
    shuffled a b c = omega arith

pub odd : (n : ℕ) → 0x01000000 * (n + 1) + 0x00800000 ≡ 2 ^ 23 * (2 * n + 3)
odd n = omega arith

pub below_apart : (s t : Span) → s.base + s.size ≤ t.base → AreApart s t
below_apart s t le at in_s in_t = let a = in_s.1 in let b = in_t.0 in omega arith

above_apart : (s t : Span) → t.base + t.size ≤ s.base → AreApart s t
above_apart s t le at in_s in_t = let a = in_s.0 in let b = in_t.1 in omega arith

-- ---- the bit at which the data of a sandbox begin

-- of the first 11: it leaves room below it, and lies below the code, or at a multiple of the distance of code
record IsBit (bit : ℕ) : Type 0 where
  low : 2097152 ≤ bit
  high : bit ≤ 2147483648
  beside : (bit ≤ 8388608) ⊎ ((q : ℕ) × (bit ≡ 16777216 * q))

bit_of : (number : ℕ) → number < 11 → IsBit (2 ^ (31 - number))
bit_of number few =
    let low : 2 ^ 21 ≤ 2 ^ (31 - number) = pow_mono (let e : 21 ≤ 31 - number = omega arith in e) in
    let high : 2 ^ (31 - number) ≤ 2 ^ 31 = pow_mono (let e : 31 - number ≤ 31 = omega arith in e) in
    record {
      low = omega arith;
      high = omega arith;
      beside = elim (cases_lt 7 number) [
        | inl more ↦ inl (let small : 2 ^ (31 - number) ≤ 2 ^ 23 = pow_mono (let e : 31 - number ≤ 23 = omega arith in e) in omega arith)
        | inr few ↦ inr (2 ^ (7 - number), (let sum : 31 - number ≡ 24 + (7 - number) = omega arith in ap (λ (n : ℕ). 2 ^ n) sum ∙ pow-add 2 24 (7 - number)))
      ];
    }

-- that of a later sandbox is at most half as far up
half_bit : (number later : ℕ) → number < later → later < 11 → 2 ^ (31 - later) + 2 ^ (31 - later) ≤ 2 ^ (31 - number)
half_bit number later less few =
    let up : 2 ^ (31 - later + 1) ≤ 2 ^ (31 - number) = pow_mono (let e : 31 - later + 1 ≤ 31 - number = omega arith in e) in
    let twice : 2 ^ (31 - later + 1) ≡ 2 * 2 ^ (31 - later) = ap (λ (n : ℕ). 2 ^ n) (let e : 31 - later + 1 ≡ 1 + (31 - later) = omega arith in e) ∙ pow-add 2 1 (31 - later) in
    omega arith

-- ---- the spans of sandboxes at their usual places

abbrev single : ℕ → Place
single number = record { code_base = 0x01000000 * (number + 1) + 0x00800000; data_base = 2 ^ (31 - number) }

usual_single : (f : Format) (number : ℕ) → has_single_mask f ≡ true → usual f number ≡ single number
usual_single f number is = rw is refl

-- the code of the sandbox of that number, or its data with their guard zones
pub record IsCodeOf (number : ℕ) (s : Span) : Type 0 where
  pub base : s.base ≡ 16777216 * (number + 1) + 8388608
  pub size : s.size ≤ 1048576

pub record IsDataOf (number : ℕ) (s : Span) : Type 0 where
  pub base : s.base + 4096 ≡ 2 ^ (31 - number)
  pub size : s.size ≤ 1056768

codes_apart : (number later : ℕ) (s t : Span) → number < later → IsCodeOf number s → IsCodeOf later t → AreApart s t
codes_apart number later s t less one other = below_apart s t (omega (arith, one.base, one.size, other.base))

datas_apart : (number later : ℕ) (s t : Span) → number < later → later < 11 → IsDataOf number s → IsDataOf later t → AreApart s t
datas_apart number later s t less few one other =
    above_apart s t (omega (arith, one.base, other.base, other.size, half_bit number later less few, (bit_of later few).low))

code_data_apart : (m n : ℕ) (s t : Span) → n < 11 → IsCodeOf m s → IsDataOf n t → AreApart s t
code_data_apart m n s t few one other =
    elim (bit_of n few).beside [
      | inl below ↦ above_apart s t (omega (arith, one.base, other.base, other.size, below))
      | inr (q, is) ↦ elim (cases_lt (m + 1) q) [
        | inl above ↦ below_apart s t (omega (arith, one.base, one.size, other.base, is))
        | inr under ↦ above_apart s t (omega (arith, one.base, other.base, other.size, is))
      ]
    ]

turned : (s t : Span) → AreApart s t → AreApart t s
turned s t apart at in_t in_s = apart at in_s in_t

-- the span is one of the sandboxes before that one
abbrev pub IsOfBefore : ℕ → Span → Type 0
IsOfBefore number s = (m : ℕ) × (m < number) × (IsCodeOf m s ⊎ IsDataOf m s)

apart_from_code : (number : ℕ) (s t : Span) → number < 11 → IsOfBefore number s → IsCodeOf number t → AreApart s t
apart_from_code number s t few (m, less, inl code) own = codes_apart m number s t less code own
apart_from_code number s t few (m, less, inr held) own = turned t s (code_data_apart number m t s (omega arith) own held)

apart_from_data : (number : ℕ) (s t : Span) → number < 11 → IsOfBefore number s → IsDataOf number t → AreApart s t
apart_from_data number s t few (m, less, inl code) own = code_data_apart m number s t few code own
apart_from_data number s t few (m, less, inr held) own = datas_apart m number s t less few held own

-- ---- clear of zones at zero

-- the span lies clear of the largest zone at zero of data of a source
record IsHigh (s : Span) : Type 0 where
  above : 1052672 ≤ s.base
  below : s.base + s.size + 4096 ≤ 4294967296

code_high : (m : ℕ) (s : Span) → m < 11 → IsCodeOf m s → IsHigh s
code_high m s few h = record { above = omega (arith, h.base); below = omega (arith, h.base, h.size) }

data_high : (m : ℕ) (s : Span) → m < 11 → IsDataOf m s → IsHigh s
data_high m s few h = let bit = bit_of m few in record { above = omega (arith, h.base, bit.low); below = omega (arith, h.base, h.size, bit.high) }

of_before_high : (number : ℕ) (s : Span) → number < 11 → IsOfBefore number s → IsHigh s
of_before_high number s few (m, less, inl code) = code_high m s (omega arith) code
of_before_high number s few (m, less, inr held) = data_high m s (omega arith) held

high_clear : (ends : List ℕ) (ss : List Span) → All (λ end. end ≤ 1052672) ends → All IsHigh ss → AreClear ends ss
high_clear ends ss low high = λ k d lt j e l. let s = high k d lt in record { above = omega (arith, low j e l, s.above); below = omega (arith, s.below) }

-- ---- a sandbox at its usual place

single_right : (p : Placement) (number size : ℕ) → number < 11 → IsPlacedPart p → HasRoom p.format (needed p) size → IsRightPlace p size (single number)
single_right p number size few right room =
    let bound = (limits_are_small p.format).2 in
    let wider = limits_have_room p.format in
    let sized = right.data_size in
    let data_most = sized.at_most in
    let data_least = sized.at_least in
    let code_most = room.at_most in
    let bit = bit_of number few in
    let low = bit.low in
    let high = bit.high in
    let size_is = sized.size_is in
    let narrow : sized.power ≤ 20 = exponent_le sized.power 20 (omega arith) in
    let sum : 31 - number ≡ (31 - number - sized.power) + sized.power = omega arith in
    record {
      word = omega arith;
      code = record {
        power = room.power;
        size_is = room.size_is;
        at_least = room.at_least;
        at_most = omega (arith, room.at_most, wider.1);
        multiple = 2 ^ (23 - room.power) * (2 * number + 3);
        base_is = odd number ∙ region_at size room.power 23 (2 * number + 3) room.size_is (omega arith);
      };
      «data» = record {
        power = sized.power;
        size_is = sized.size_is;
        at_least = data_least;
        at_most = omega (arith, data_most, wider.3);
        multiple = 2 ^ (31 - number - sized.power);
        base_is = ap (λ (n : ℕ). 2 ^ n) sum ∙ pow-add 2 (31 - number - sized.power) sized.power ∙ ap (λ (n : ℕ). 2 ^ (31 - number - sized.power) * n) (sym sized.size_is);
      };
      one_bit = λ one. record { power = 31 - number; base_is = refl; no_lower = omega arith };
      guard_room = record { below = omega arith; above = omega arith };
      zone_room = λ one. record { code_above = omega arith; data_above = omega arith; code_below = omega arith };
    }

-- its spans there
code_there : (p : Placement) (number size : ℕ) → size ≤ 1048576 → IsCodeOf number (record { base = 0x01000000 * (number + 1) + 0x00800000; size = size })
code_there p number size small = record { base = omega arith; size = small }

data_there : (p : Placement) (number : ℕ) → number < 11 → p.data_size ≤ 1048576 → IsDataOf number (with_guards (record { base = 2 ^ (31 - number); size = p.data_size }))
data_there p number few small = let low = (bit_of number few).low in record { base = omega arith; size = omega arith }

-- its zone at zero is no larger than that of a source's largest data
low_ends : (p : Placement) (ends : List ℕ) → has_single_mask p.format ≡ true → p.data_size ≤ 1048576 → All (λ end. end ≤ 1052672) ends → All (λ end. end ≤ 1052672) (ends ++ ends_at p)
low_ends p ends one small low =
    let own : ends_at p ≡ (p.data_size + 4096) ∷ [] = rw one refl in
    All-append (λ end. end ≤ 1052672) ends (ends_at p) low (subst (All (λ end. end ≤ 1052672)) (sym own) (All-cons (λ end. end ≤ 1052672) (p.data_size + 4096) [] (omega arith) (All-nil _)))

-- ---- one after the other

-- what is known of the sandboxes before that one
abbrev pub AreSingle : ℕ → List ℕ → List Span → Type 0
AreSingle number ends before = All (λ end. end ≤ 1052672) ends × All (IsOfBefore number) before

-- beside those before it the sandbox has room
pub single_free : (p : Placement) (number size : ℕ) (ends : List ℕ) (before : List Span) → has_single_mask p.format ≡ true → number < 11 → IsPlacedPart p → IsCodeSize p.format (needed p) size → AreSingle number ends before → LieApart ends before
    → MayLie [] number p ends before
single_free p number size ends before one few right sized known lie =
    let room = sized.has_room in
    let bound = (limits_are_small p.format).2 in
    let code_small : size ≤ 1048576 = omega (arith, room.at_most, bound) in
    let data_small : p.data_size ≤ 1048576 = right.data_size.at_most in
    let place = usual_single p.format number one in
    let code : Span = record { base = 0x01000000 * (number + 1) + 0x00800000; size = size } in
    let guarded : Span = with_guards (record { base = 2 ^ (31 - number); size = p.data_size }) in
    let code_is : IsCodeOf number code = code_there p number size code_small in
    let data_is : IsDataOf number guarded = data_there p number few data_small in
    let pairs = pairs_of_two before code guarded lie.apart
    (λ k d lt. apart_from_code number (get_or before k d) code few (known.1 k d lt) code_is)
    (λ k d lt. apart_from_data number (get_or before k d) guarded few (known.1 k d lt) data_is)
    (code_data_apart number number code guarded few code_is data_is) in
    let high = All-append IsHigh before (code ∷ guarded ∷ []) (λ k d lt. of_before_high number (get_or before k d) few (known.1 k d lt))
    (All-cons IsHigh code (guarded ∷ []) (code_high number code few code_is) (All-cons IsHigh guarded [] (data_high number guarded few data_is) (All-nil IsHigh))) in
    let there : LieApart (ends ++ ends_at p) (before ++ spans_at p size (single number)) =
    record { apart = pairs; clear = high_clear (ends ++ ends_at p) (before ++ code ∷ guarded ∷ []) (low_ends p ends one data_small known.0) high } in
    record {
      size = size;
      least = sized;
      right = subst (IsRightPlace p size) (sym place) (single_right p number size few right room);
      apart = subst (λ (x : Place). LieApart (ends ++ ends_at p) (before ++ spans_at p size x)) (sym place) there;
    }

later_of : (number : ℕ) (s : Span) → IsOfBefore number s → IsOfBefore (number + 1) s
later_of number s (m, less, is) = (m, omega arith, is)

-- and so is known of it
pub still_single : (p : Placement) (number : ℕ) (q : Part) (ends : List ℕ) (before : List Span) → has_single_mask p.format ≡ true → number < 11 → IsPlacedPart p → IsLinked [] number p q → AreSingle number ends before
    → AreSingle (number + 1) (ends ++ ends_at p) (before ++ spans (q ∷ []))
still_single p number q ends before one few right linked known =
    let bound = (limits_are_small p.format).2 in
    let size = length q.code in
    let code_small : size ≤ 1048576 = omega (arith, linked.code.size.has_room.at_most, bound) in
    let data_small : p.data_size ≤ 1048576 = right.data_size.at_most in
    let code : Span = record { base = 0x01000000 * (number + 1) + 0x00800000; size = size } in
    let guarded : Span = with_guards (record { base = 2 ^ (31 - number); size = p.data_size }) in
    let Is = IsOfBefore (number + 1) in
    let own : All Is (spans_at p size (single number)) =
    All-cons Is code (guarded ∷ []) (number, omega arith, inl (code_there p number size code_small))
    (All-cons Is guarded [] (number, omega arith, inr (data_there p number few data_small)) (All-nil Is)) in (
      low_ends p ends one data_small known.0,
      All-append Is before (spans (q ∷ [])) (λ k d lt. later_of number (get_or before k d) (known.1 k d lt))
          (subst (All Is) (sym (own_spans [] number p q linked ∙ ap (spans_at p size) (usual_single p.format number one))) own),
    )
