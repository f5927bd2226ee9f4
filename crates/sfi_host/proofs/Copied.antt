-- What is copied from one memory to another, and lists without one of their places.
use Rattle.sfi_host.proofs.Prelude.{◌≡◌, ◌≢◌, ⊎_elim, cond, ℕ, zero, suc, ◌-◌, ◌<◌, ◌≤◌, List, [], ◌∷◌, map, slice_get, refl, sym, ap, ◌∙◌, arith, cases_lt, ◌⊎◌, inl, inr, Bool, true, false, or_left, or_right, or_cases, is_own, ◌+◌, ◌^◌, length, replicate, Option, Some, None, is_some, IsSome, slice_get_within, slice_index, subst, empty, get-empty, same_Some, cases_eq, range_with_len, Bytes, byte_at, bytes_at, in_front, added, Span, Holds, code_region, bytes_in, IsWhole, Bounds, Seat, IsSafeSeat, Sandboxes}
use Rattle.std.specs.Prelude.{nat_lt}
use Rattle.std.specs.List.{remove}
use Rattle.std.proofs.lemmas.Bool.{lt-ltb, le-ltb}
use Rattle.sfi_host.specs.Adding.{number_without, is_own_of, bytes_of}
use Rattle.std.proofs.Math.ListN.{get_or-append}
use Rattle.std.specs.Ordering.{nat_cmp}
use Rattle.sfi_image.proofs.Facts.{code_ends}
use Rattle.sfi_host.specs.Owning.{AreOwned}
use Rattle.sfi_host.specs.private.Copying.{CopiesRegion, CopiesSeat, HasCopies}
use Rattle.sfi_host.proofs.Entered.{added_inside, added_outside}
use Rattle.sfi_host.proofs.WorldBytes.{in_or_out}
use Rattle.sfi_host.proofs.OwnSteps.{own_code, own_data, own_is, true_false}
use Rattle.sfi_host.proofs.RegionBytes.{byte_in, get_kept, is_in-Holds, same_bytes}
use Rattle.sfi_host.proofs.Runs.{all_there}

-- ==== Lists without one of their places.

get_below : {A : Type 0} (xs : List A) (i j : ℕ) → j < i → slice_get (remove xs i) j ≡ slice_get xs j
get_below [] zero j below = refl
get_below [] (suc i) j below = refl
get_below (x ∷ xs) zero j below = absurd (omega (arith, below))
get_below (x ∷ xs) (suc i) zero below = refl
get_below (x ∷ xs) (suc i) (suc j) below = get_below xs i j (omega (arith, below))

get_above : {A : Type 0} (xs : List A) (i j : ℕ) → i ≤ j → slice_get (remove xs i) j ≡ slice_get xs (suc j)
get_above [] zero j above = refl
get_above [] (suc i) j above = refl
get_above (x ∷ xs) zero j above = refl
get_above (x ∷ xs) (suc i) zero above = absurd (omega (arith, above))
get_above (x ∷ xs) (suc i) (suc j) above = get_above xs i j (omega (arith, above))

-- the number that place j of what is left had
abbrev pub old_number : ℕ → ℕ → ℕ
old_number i j = cond (nat_lt j i) j (suc j)

old_below : (i j : ℕ) → j < i → old_number i j ≡ j
old_below i j below = ap (λ t. cond t j (suc j)) (lt-ltb j i below)

old_above : (i j : ℕ) → i ≤ j → old_number i j ≡ suc j
old_above i j above = ap (λ t. cond t j (suc j)) (le-ltb j i above)

without_below : (i j : ℕ) → j < i → number_without i j ≡ j
without_below i j below = ap (λ t. cond t j (j - 1)) (lt-ltb j i below)

without_above : (i j : ℕ) → i ≤ j → number_without i j ≡ j - 1
without_above i j above = ap (λ t. cond t j (j - 1)) (le-ltb j i above)

pub old_other : (i j : ℕ) → old_number i j ≢ i
old_other i j = ⊎_elim
    (λ (below : j < i). λ same. let z = old_below i j below in absurd (omega (arith, z, same, below)))
    (λ (above : i ≤ j). λ same. let z = old_above i j above in absurd (omega (arith, z, same, above)))
    (cases_lt j i)

pub old_back : (i j : ℕ) → number_without i (old_number i j) ≡ j
old_back i j = ⊎_elim
    (λ (below : j < i). ap (number_without i) (old_below i j below) ∙ without_below i j below)
    (λ (above : i ≤ j). ap (number_without i) (old_above i j above) ∙ without_above i (suc j) (omega (arith, above)) ∙ omega arith)
    (cases_lt j i)

pub new_back : (i j : ℕ) → j ≢ i → old_number i (number_without i j) ≡ j
new_back i j other = ⊎_elim
    (λ (below : j < i). ap (old_number i) (without_below i j below) ∙ old_below i j below)
    (λ (above : i ≤ j). ap (old_number i) (without_above i j above) ∙ old_above i (j - 1) (omega (arith, above, other)) ∙ omega (arith, above, other))
    (cases_lt j i)

pub get_removed : {A : Type 0} (xs : List A) (i j : ℕ) → slice_get (remove xs i) j ≡ slice_get xs (old_number i j)
get_removed xs i j = ⊎_elim
    (λ (below : j < i). get_below xs i j below ∙ ap (slice_get xs) (sym (old_below i j below)))
    (λ (above : i ≤ j). get_above xs i j above ∙ ap (slice_get xs) (sym (old_above i j above)))
    (cases_lt j i)

pub get_rest : {A : Type 0} (xs : List A) (i j : ℕ) → j ≢ i → slice_get (remove xs i) (number_without i j) ≡ slice_get xs j
get_rest xs i j other = get_removed xs i (number_without i j) ∙ ap (slice_get xs) (new_back i j other)

pub map_remove : {A B : Type 0} (f : A → B) (xs : List A) (i : ℕ) → map f (remove xs i) ≡ remove (map f xs) i
map_remove f [] zero = refl
map_remove f [] (suc i) = refl
map_remove f (x ∷ xs) zero = refl
map_remove f (x ∷ xs) (suc i) = ap (λ (l : List _). f x ∷ l) (map_remove f xs i)

-- ==== What is copied from one memory to another.

-- ---- one region

pub region_there : (r : Span) (m : Bytes) → IsWhole r (bytes_in r m) → IsSome (bytes_at (bytes_in r m) (range_with_len r.base r.size))
region_there r m whole = all_there (bytes_in r m) r.base r.size (λ k below. whole (r.base + k) (omega arith, omega (arith, below)))

in_two : (o : Option ℕ) (p : Option (List ℕ)) (bs : List ℕ) → in_front o p ≡ Some bs → (b : ℕ) × (cs : List ℕ) × (o ≡ Some b) × (p ≡ Some cs) × (bs ≡ b ∷ cs)
in_two None p bs e = absurd (cc)
in_two (Some b) None bs e = absurd (cc)
in_two (Some b) (Some cs) bs e = (b, cs, refl, refl, (let g : Some (b ∷ cs) ≡ Some bs = e in cc))

listed : (m : Bytes) (a n : ℕ) (bs : List ℕ) → bytes_at m (range_with_len a n) ≡ Some bs → (k : ℕ) → k < n → byte_at m (a + k) ≡ Some (slice_index bs k)
listed m a zero bs e k below = absurd (omega (arith, below))
listed m a (suc n) bs e zero below =
    let x = in_two (byte_at m a) (bytes_at m (range_with_len (a + 1) n)) bs e in
    let z : a + 0 ≡ a = omega arith in
    ap (byte_at m) z ∙ x.2 ∙ ap (λ (l : List ℕ). Some (slice_index l 0)) (sym x.4)
listed m a (suc n) bs e (suc k) below =
    let x = in_two (byte_at m a) (bytes_at m (range_with_len (a + 1) n)) bs e in
    let z : a + suc k ≡ a + 1 + k = omega arith in
    ap (byte_at m) z ∙ listed m (a + 1) n x.1 x.3 k (omega (arith, below)) ∙ ap (λ (l : List ℕ). Some (slice_index l (suc k))) (sym x.4)

pub listed_length : (m : Bytes) (a n : ℕ) (bs : List ℕ) → bytes_at m (range_with_len a n) ≡ Some bs → length bs ≡ n
listed_length m a zero bs e = let none : bs ≡ [] = cc in ap (λ (l : List ℕ). length l) none
listed_length m a (suc n) bs e =
    let x = in_two (byte_at m a) (bytes_at m (range_with_len (a + 1) n)) bs e in
    ap (λ (l : List ℕ). length l) x.4 ∙ ap suc (listed_length m (a + 1) n x.1 x.3)

pub copied : (r : Span) (from old new : Bytes) (bs : List ℕ) → r.base + r.size ≤ 2 ^ 32 → bytes_at (bytes_in r from) (range_with_len r.base r.size) ≡ Some bs → length bs ≡ r.size
    → new ≡ added old r.base r.size bs → CopiesRegion r from old new
copied r from old new bs fits read many is = record {
  inside = λ a h.
      let k = a - r.base in
      let z : r.base + k ≡ a = omega (arith, h) in
      let below : k < r.size = omega (arith, h) in
      let short : length bs ≤ r.size = omega (arith, many) in
      let within : k < length bs = omega (arith, many, below) in
      ap (λ (m : Bytes). byte_at m a) is ∙ ap (byte_at (added old r.base r.size bs)) (sym z)
      ∙ added_inside old r.base r.size bs k short fits below
      ∙ ap Some (get_or-append bs (replicate (r.size - length bs) 0) 0 k within)
      ∙ sym (listed (bytes_in r from) r.base r.size bs read k below)
      ∙ ap (byte_at (bytes_in r from)) z
      ∙ byte_in r from a (is_in-Holds r a h);
  outside = λ a out. ap (λ (m : Bytes). byte_at m a) is ∙ added_outside old r.base r.size bs a fits out;
}

-- ---- those of one more sandbox

pub seat_copied : (s : Seat) (from m0 m1 m2 : Bytes) → CopiesRegion s.bounds.code from m0 m1 → CopiesRegion s.bounds.data from m1 m2 → CopiesSeat s from m0 m2
seat_copied s from m0 m1 m2 first second = record {
  inside = λ a h. ⊎_elim
      (λ (d : Holds s.bounds.data a). second.inside a d)
      (λ (no : Holds s.bounds.data a → ⊥). second.outside a no ∙ ⊎_elim (λ (c : Holds s.bounds.code a). first.inside a c) (λ (d : Holds s.bounds.data a). absurd (no d)) h)
      (in_or_out s.bounds.data a);
  outside = λ a out. second.outside a (λ d. out (inr d)) ∙ first.outside a (λ c. out (inl c));
}

own_or_not : (s : Seat) (a : ℕ) → (Holds s.bounds.code a ⊎ Holds s.bounds.data a) ⊎ (Holds s.bounds.code a ⊎ Holds s.bounds.data a → ⊥)
own_or_not s a = ⊎_elim
    (λ (c : Holds s.bounds.code a). inl (inl c))
    (λ (no_code : Holds s.bounds.code a → ⊥). ⊎_elim
    (λ (d : Holds s.bounds.data a). inl (inr d))
    (λ (no_data : Holds s.bounds.data a → ⊥). inr (λ h. ⊎_elim no_code no_data h))
    (in_or_out s.bounds.data a))
    (in_or_out s.bounds.code a)

module _ (from m0 m2 : Bytes) (seats : List Seat) (n but : ℕ) (before : HasCopies from seats n but m0) where
  pub next_copied : (s : Seat) → CopiesSeat s from m0 m2 → (n ≡ but → ⊥) → slice_get seats n ≡ Some s → HasCopies from seats (n + 1) but m2
  next_copied s copies other at = record {
    there = λ i t below ne e a h. ⊎_elim
        (λ (same : i ≡ n).
        let one : t ≡ s = same_Some t s (sym e ∙ ap (slice_get seats) same ∙ at) in
        copies.inside a (subst (λ (x : Seat). Holds x.bounds.code a ⊎ Holds x.bounds.data a) one h))
        (λ (differs : i ≡ n → ⊥).
        let kept : byte_at m0 a ≡ byte_at from a = before.there i t (omega (arith, below, differs)) ne e a h in
        ⊎_elim
        (λ (own : Holds s.bounds.code a ⊎ Holds s.bounds.data a). copies.inside a own)
        (λ (out : Holds s.bounds.code a ⊎ Holds s.bounds.data a → ⊥). copies.outside a out ∙ kept)
        (own_or_not s a))
        (cases_eq i n);
    none_left = λ a none. copies.outside a (λ h. none n s (omega arith) other at h) ∙ before.none_left a (λ i t below ne e h. none i t (omega (arith, below)) ne e h);
  }

  pub left_out : n ≡ but → HasCopies from seats (n + 1) but m0
  left_out same = record {
    there = λ i t below ne e a h. before.there i t (omega (arith, below, ne, same)) ne e a h;
    none_left = λ a none. before.none_left a (λ i t below ne e h. none i t (omega (arith, below)) ne e h);
  }

pub none_copied : (from : Bytes) (seats : List Seat) (but : ℕ) (m : Bytes) → m ≡ empty → HasCopies from seats 0 but m
none_copied from seats but m is = record {
  there = λ i s below. absurd (omega (arith, below));
  none_left = λ a none. ap (λ (x : Bytes). byte_at x a) is ∙ get-empty nat_cmp a;
}

-- ---- the bytes of some sandboxes

own_here : (s : Seat) (a : ℕ) → Holds s.bounds.code a ⊎ Holds s.bounds.data a → is_own s.bounds a ≡ true
own_here s a h = ⊎_elim (λ (c : Holds s.bounds.code a). own_code s.bounds a c) (λ (d : Holds s.bounds.data a). own_data s.bounds a d) h

pub own_of : (seats : List Seat) (a j : ℕ) (s : Seat) → slice_get seats j ≡ Some s → Holds s.bounds.code a ⊎ Holds s.bounds.data a → is_own_of seats a ≡ true
own_of [] a j s e h = absurd (cc)
own_of (x ∷ seats) a zero s e h =
    let same : x ≡ s = same_Some x s e in
    or_left (is_own x.bounds a) (is_own_of seats a) (subst (λ (y : Seat). is_own y.bounds a ≡ true) (sym same) (own_here s a h))
own_of (x ∷ seats) a (suc j) s e h = or_right (is_own x.bounds a) (is_own_of seats a) (own_of seats a j s e h)

-- whose code or data the address is in
abbrev pub IsOwnOf : List Seat → ℕ → Type 0
IsOwnOf seats a = (j : ℕ) × (s : Seat) × (slice_get seats j ≡ Some s) × (Holds s.bounds.code a ⊎ Holds s.bounds.data a)

pub whose : (seats : List Seat) (a : ℕ) → is_own_of seats a ≡ true → IsOwnOf seats a
whose [] a e = absurd (cc)
whose (x ∷ seats) a e = ⊎_elim
    (λ (h : is_own x.bounds a ≡ true). (0, x, refl, own_is x.bounds a h))
    (λ (h : is_own_of seats a ≡ true). let y = whose seats a h in (suc y.0, y.1, y.2, y.3))
    (or_cases (is_own x.bounds a) (is_own_of seats a) e)

pub others_copied : (from : Bytes) (seats : List Seat) (n but : ℕ) (m : Bytes) → length seats ≤ n → HasCopies from seats n but m → m ≡ bytes_of (remove seats but) from
others_copied from seats n but m all copies = same_bytes m (bytes_of (remove seats but) from) (λ a. by a (is_own_of (remove seats but) a) refl)
  where
    by : (a : ℕ) (b : Bool) → is_own_of (remove seats but) a ≡ b → byte_at m a ≡ byte_at (bytes_of (remove seats but) from) a
    by a true e =
        let o = whose (remove seats but) a e in
        let i = old_number but o.0 in
        let at : slice_get seats i ≡ Some o.1 = sym (get_removed seats but o.0) ∙ o.2 in
        let below : i < length seats = slice_get_within seats i o.1 at in
        copies.there i o.1 (omega (arith, below, all)) (old_other but o.0) at a o.3
        ∙ sym (get_kept from (is_own_of (remove seats but)) a ∙ ap (λ t. cond t (byte_at from a) None) e)
    by a false e =
        copies.none_left a (λ i s below ne at h. true_false (is_own_of (remove seats but) a) (own_of (remove seats but) a (number_without but i) s (get_rest seats but i ne ∙ at) h) e)
        ∙ sym (get_kept from (is_own_of (remove seats but)) a ∙ ap (λ t. cond t (byte_at from a) None) e)

-- where each byte is a sandbox's own, those of all are all
pub all_copied : (w : Sandboxes) → AreOwned w → (but : ℕ) → length w.seats ≤ but → bytes_of (remove w.seats but) w.bytes ≡ w.bytes
all_copied w owned but past = same_bytes (bytes_of (remove w.seats but) w.bytes) w.bytes (λ a. get_kept w.bytes (is_own_of (remove w.seats but)) a ∙ by a (byte_at w.bytes a) refl)
  where
    by : (a : ℕ) (o : Option ℕ) → byte_at w.bytes a ≡ o → cond (is_own_of (remove w.seats but) a) (byte_at w.bytes a) None ≡ byte_at w.bytes a
    by a None e = elim (is_own_of (remove w.seats but) a) as (λ t. cond t (byte_at w.bytes a) None ≡ byte_at w.bytes a) [
      | true ↦ refl
      | false ↦ sym e
    ]
    by a (Some b) e =
        let o = owned a (ap is_some e) in
        let below : o.0 < length w.seats = slice_get_within w.seats o.0 o.1 o.2 in
        let other : o.0 ≡ but → ⊥ = omega (arith, below, past) in
        ap (λ t. cond t (byte_at w.bytes a) None) (own_of (remove w.seats but) a (number_without but o.0) o.1 (get_rest w.seats but o.0 other ∙ o.2) o.3)

-- ---- the regions of a safe sandbox

module _ (m : Bytes) (s : Seat) (seat : IsSafeSeat m s) where
  pub code_whole : IsWhole s.bounds.code m
  code_whole a h =
      let p = seat.part in
      let inside : Holds (code_region p) a = subst (λ (b : Bounds). Holds b.code a) seat.bounds h in
      let z : p.code_base + (a - p.code_base) ≡ a = omega (arith, inside) in
      let below : a - p.code_base < length p.code = omega (arith, inside) in
      ap is_some (ap (byte_at m) (sym z) ∙ seat.code (a - p.code_base) below)

  pub code_end : s.bounds.code.base + s.bounds.code.size ≤ 2 ^ 32
  code_end = subst (λ (b : Bounds). b.code.base + b.code.size ≤ 2 ^ 32) (sym seat.bounds) (code_ends seat.part seat.right)

  pub data_end : s.bounds.data.base + s.bounds.data.size ≤ 2 ^ 32
  data_end = subst (λ (b : Bounds). b.data.base + b.data.size ≤ 2 ^ 32) (sym seat.bounds) (let above : seat.part.data_base + seat.part.data_size + 4096 ≤ 2 ^ 32 = seat.right.guard_room.above in omega arith)
