-- Addresses that follow one another, with or without going round past the last one.
use Rattle.rv_mem.proofs.Prelude.{zero, suc, [], ◌∷◌, ◌++◌, length, replicate, get_or, length-append, ◌≡◌, ℕ, ◌+◌, ◌-◌, ◌%◌, ◌^◌, ◌<◌, ◌≤◌, min, Bool, true, false, List, IsSome, subst, sym, ap, ◌∙◌, arith, length-replicate, Bytes, byte_at, Overlaps, IsFree, added, addresses, with_bytes, byte_among, HasIn, HasNone, inl, inr, map, set, take, Option, Some, None, is_some, refl, slice_index, add-zero, add-one, get_or-set_other, get_or-set_same, insert, IsMemory, bytes_at, in_front, address_after, Puts, frame_of, cell, cell_at, ArePages, values_of}
use Rattle.rv_mem.specs.Segment.{bytes_among}
use Rattle.rv_mem.specs.declared.segment.Segment.{Segment}
use Rattle.std.specs.Bool.{OnTrue, OnFalse}
use Rattle.rv_mem.proofs.Lookups.{get_among, push_free, stays}
use Rattle.std.proofs.lemmas.Bool.{cases_lt}
use Rattle.std.proofs.lemmas.List.{append-nil, take_more, length-take-le}
use Rattle.rv_mem.proofs.PageAccesses.{byte_after}
use Rattle.rv_mem.proofs.Paging.{is_marked, marked}
use Rattle.std.specs.List.{range_with_len}

-- ==== Ranges of addresses that go round past the last one.

pub found_in : (r : Bool) (ss : List Segment) (from to : ℕ) → OnTrue r (HasIn (byte_among ss) from to) → OnTrue r (HasIn (byte_at (bytes_among ss)) from to)
found_in true ss from to (q, a, b, s) = (q, a, b, subst (λ o. IsSome o) (sym (get_among ss q)) s)
found_in false ss from to h = h

pub none_in_all : (r : Bool) (ss : List Segment) (from to : ℕ) → OnFalse r (HasNone (byte_among ss) from to) → OnFalse r (HasNone (byte_at (bytes_among ss)) from to)
none_in_all true ss from to h = h
none_in_all false ss from to h = λ q a b. get_among ss q ∙ h q a b

pub over_low : (m : Bytes) (base size from to : ℕ) → from ≡ base → to ≡ min (base + size) (2 ^ 32) → HasIn (byte_at m) from to → Overlaps m base size
over_low m base size from to f t (q, low, high, some) =
    let e : q ≡ (base + (q - base)) % 2 ^ 32 = omega arith in
    (q - base, omega arith, subst (λ x. IsSome (byte_at m x)) e some)

pub over_high : (r : Bool) (m : Bytes) (base size to : ℕ) → base < 2 ^ 32 → size < 2 ^ 32 → to ≡ base + size - 2 ^ 32 → OnTrue r (HasIn (byte_at m) 0 to) → OnTrue r (Overlaps m base size)
over_high true m base size to b s t (q, low, high, some) =
    let e : q ≡ (base + (q + 2 ^ 32 - base)) % 2 ^ 32 = omega arith in
    (q + 2 ^ 32 - base, omega arith, subst (λ x. IsSome (byte_at m x)) e some)
over_high false m base size to b s t h = h

-- ---- a segment that is added

none_free : (ss : List Segment) (base size : ℕ) → base + size ≤ 2 ^ 32 → IsFree (bytes_among ss) base size → HasNone (byte_among ss) base (base + size)
none_free ss base size h free q f t =
    let e : (base + (q - base)) % 2 ^ 32 ≡ q = omega arith in
    sym (get_among ss q) ∙ ap (byte_at (bytes_among ss)) (sym e) ∙ free (q - base) (omega arith)

pub add_done : (ss new : List Segment) (s : Segment) (base size : ℕ) (front : List ℕ) → new ≡ ss ++ s ∷ [] → s.base ≡ base → s.bytes.items ≡ front ++ replicate (size - length front) 0
    → length front ≤ size → base + size ≤ 2 ^ 32 → IsFree (bytes_among ss) base size → bytes_among new ≡ added (bytes_among ss) base size front
add_done ss new s base size front pushed eb ei short fits free =
    let el : length s.bytes.items ≡ size = rw ei (rw (length-append, length-replicate) (omega arith)) in
    let none : HasNone (byte_among ss) s.base (s.base + length s.bytes.items) = rw (eb, el) (none_free ss base size fits free) in
    let room : s.base + length s.bytes.items ≤ 2 ^ 32 = omega arith in
    ap bytes_among pushed
    ∙ push_free ss s room none
    ∙ ap (λ b. with_bytes (bytes_among ss) (addresses b (length s.bytes.items)) s.bytes.items) eb
    ∙ ap (λ n. with_bytes (bytes_among ss) (addresses base n) s.bytes.items) el
    ∙ ap (with_bytes (bytes_among ss) (addresses base size)) ei

-- ---- bytes of lists

below_append : (xs ys : List ℕ) → ((k : ℕ) → get_or xs k 0 < 256) → ((k : ℕ) → get_or ys k 0 < 256) → (k : ℕ) → get_or (xs ++ ys) k 0 < 256
below_append [] ys p q k = q k
below_append (x ∷ xs) ys p q zero = p 0
below_append (x ∷ xs) ys p q (suc k) = below_append xs ys (λ j. p (suc j)) q k

below_zeros : (n k : ℕ) → get_or (replicate n 0) k 0 < 256
below_zeros zero k = omega arith
below_zeros (suc n) zero = omega arith
below_zeros (suc n) (suc k) = below_zeros n k

-- zeros after bytes are bytes
pub below_filled : (front items : List ℕ) (n : ℕ) → items ≡ front ++ replicate n 0 → ((k : ℕ) → get_or front k 0 < 256) → (k : ℕ) → get_or items k 0 < 256
below_filled front items n e p k = rw e (below_append front (replicate n 0) p (below_zeros n) k)

-- ==== Bytes at consecutive addresses, which aren't taken modulo 2 ^ 32.

-- ---- which are there

first_there : (o : Option ℕ) (p : Option (List ℕ)) → IsSome (in_front o p) → IsSome o
first_there None p h = h
first_there (Some b) p h = refl

others_there : (o : Option ℕ) (p : Option (List ℕ)) → IsSome (in_front o p) → IsSome p
others_there None p h = absurd (cc)
others_there (Some b) None h = h
others_there (Some b) (Some bs) h = refl

-- each is there where all are
pub each_there : (m : Bytes) (a n k : ℕ) → IsSome (bytes_at m (range_with_len a n)) → k < n → IsSome (byte_at m (a + k))
each_there m a zero k h l = absurd (omega arith)
each_there m a (suc n) zero h l =
    let z : a + 0 ≡ a = omega arith in
    ap (λ x. is_some (byte_at m x)) z ∙ first_there (byte_at m a) (bytes_at m (range_with_len (a + 1) n)) h
each_there m a (suc n) (suc k) h l =
    let z : a + suc k ≡ a + 1 + k = omega arith in
    ap (λ x. is_some (byte_at m x)) z ∙ each_there m (a + 1) n k (others_there (byte_at m a) _ h) (omega arith)

there_below : (m : Bytes) (a : ℕ) → IsMemory m → (o : Option ℕ) → byte_at m a ≡ o → IsSome o → a < 2 ^ 32
there_below m a memory None e h = absurd (cc)
there_below m a memory (Some v) e h = memory.addresses a v e

-- so each lies below 2 ^ 32
pub each_below : (m : Bytes) (a n k : ℕ) → IsMemory m → IsSome (bytes_at m (range_with_len a n)) → k < n → a + k < 2 ^ 32
each_below m a n k memory h l = there_below m (a + k) memory (byte_at m (a + k)) refl (each_there m a n k h l)

pub ends_within : (m : Bytes) (a n : ℕ) → IsMemory m → a < 2 ^ 32 → IsSome (bytes_at m (range_with_len a n)) → a + n ≤ 2 ^ 32
ends_within m a zero memory small h = omega arith
ends_within m a (suc n) memory small h = let l = each_below m a (suc n) n memory h (omega arith) in omega (arith, l)

-- ---- reading

joined : (o : Option ℕ) (p : Option (List ℕ)) (b : ℕ) (bs : List ℕ) → o ≡ Some b → p ≡ Some bs → in_front o p ≡ Some (b ∷ bs)
joined None p b bs e f = absurd (cc)
joined (Some c) None b bs e f = absurd (cc)
joined (Some c) (Some cs) b bs e f = cc

-- all are read where each is
pub all_read : (m : Bytes) (a n : ℕ) (bs : List ℕ) → length bs ≡ n → ((k : ℕ) → k < n → byte_at m (a + k) ≡ Some (slice_index bs k)) → bytes_at m (range_with_len a n) ≡ Some bs
all_read m a zero [] e each = refl
all_read m a zero (b ∷ bs) e each = absurd (omega arith)
all_read m a (suc n) [] e each = absurd (omega arith)
all_read m a (suc n) (b ∷ bs) e each =
    let z : a ≡ a + 0 = omega arith in
    joined _ _ b bs (ap (byte_at m) z ∙ each 0 (omega arith))
    (all_read m (a + 1) n bs (omega arith) (λ k h. let y : a + 1 + k ≡ a + suc k = omega arith in ap (byte_at m) y ∙ each (suc k) (omega arith)))

-- what was there, and one byte in its place
pub read_one_more : (m : Bytes) (a k v : ℕ) (bs : List ℕ) → k < length bs → ((j : ℕ) → j < k → byte_at m (a + j) ≡ Some (slice_index bs j)) → byte_at m (a + k) ≡ Some v
    → (j : ℕ) → j < k + 1 → byte_at m (a + j) ≡ Some (slice_index (set bs k v) j)
read_one_more m a k v bs below before here j l = elim (cases_lt j k) [
  | inl h ↦ before j h ∙ ap Some (sym (get_or-set_other bs k j v 0 (omega (arith, h))))
  | inr h ↦
      let e : j ≡ k = omega arith in
      ap (λ (x : ℕ). byte_at m (a + x)) e ∙ here ∙ ap Some (sym (ap (slice_index (set bs k v)) e ∙ get_or-set_same bs k v 0 below))
]

-- `count` more bytes are read, from cells in one page
pub read_more : (t c old new : List ℕ) → ArePages t c → (at n done count frame : ℕ) → IsSome (bytes_at (values_of (cell_at t c)) (range_with_len at n)) → done + count ≤ n → at + done < 2 ^ 32
    → (at + done) % 512 + count ≤ 512 → frame ≡ frame_of t (at + done) → ((j : ℕ) → j < done → byte_at (values_of (cell_at t c)) (at + j) ≡ Some (slice_index old j))
    → Puts old new done count (λ j. slice_index c (frame + (at + done) % 512 + j)) → (j : ℕ) → j < done + count → byte_at (values_of (cell_at t c)) (at + j) ≡ Some (slice_index new j)
read_more t c old new are at n done count frame some room fits page is before puts j l = elim (cases_lt j done) [
  | inl h ↦ before j h ∙ ap Some (sym (puts.below j h))
  | inr h ↦
      let i : ℕ = j - done in
      let small : i < count = omega (arith, h, l) in
      let p : ℕ = frame + (at + done) % 512 + i in
      let m : Bytes = values_of (cell_at t c) in
      let here : address_after (at + done) i ≡ at + j = omega (arith, h, small, page, fits) in
      let cell_is : byte_at m (at + j) ≡ cell c p = ap (byte_at m) (sym here) ∙ byte_after t c are (at + done) frame is count fits page i small in
      let there : IsSome (cell c p) = ap is_some (sym cell_is) ∙ each_there m at n j some (omega (arith, l, room)) in
      let k : done + i ≡ j = omega (arith, h) in
      cell_is ∙ is_marked c p (marked c p there) ∙ ap Some (sym (ap (slice_index new) (sym k) ∙ puts.inside i small))
]

-- ---- writing

-- a write removes none
pub with_keeps : (m : Bytes) (at bs : List ℕ) (q : ℕ) → IsSome (byte_at m q) → IsSome (byte_at (with_bytes m at bs) q)
with_keeps m (a ∷ more) (b ∷ bs) q h = with_keeps (insert m a b) more bs q (stays m a b q h)
with_keeps m at bs q h = h

-- one byte more
put_more : (m : Bytes) (a n b : ℕ) (bs : List ℕ) → length bs ≡ n
    → with_bytes m (range_with_len a (suc n)) (bs ++ b ∷ []) ≡ insert (with_bytes m (range_with_len a n) bs) (a + n) b
put_more m a zero b [] e = let z : a ≡ a + 0 = omega arith in ap (λ x. insert m x b) z
put_more m a (suc n) b (c ∷ bs) e =
    let z : a + 1 + n ≡ a + suc n = omega arith in
    put_more (insert m a c) (a + 1) n b bs (omega arith) ∙ ap (λ x. insert (with_bytes (insert m a c) (range_with_len (a + 1) n) bs) x b) z
put_more m a n b bs e = absurd (omega arith)

pub write_more : (m : Bytes) (a k d : ℕ) (bs : List ℕ) → k < length bs
    → insert (with_bytes m (range_with_len a k) (take k bs)) (a + k) (get_or bs k d) ≡ with_bytes m (range_with_len a (k + 1)) (take (k + 1) bs)
write_more m a k d bs below =
    let many : length (take k bs) ≡ k = length-take-le k bs (omega arith) in
    sym (ap (λ (l : List ℕ). with_bytes m (range_with_len a (k + 1)) l) (take_more bs k d below)
    ∙ ap (λ (j : ℕ). with_bytes m (range_with_len a j) (take k bs ++ get_or bs k d ∷ [])) (add-one k)
    ∙ put_more m a k (get_or bs k d) (take k bs) many)

-- zeros, and one more behind them
zeros_more : (k : ℕ) → replicate {A = ℕ} k 0 ++ 0 ∷ [] ≡ replicate {A = ℕ} (suc k) 0
zeros_more zero = refl
zeros_more (suc k) = ap (λ (l : List ℕ). 0 ∷ l) (zeros_more k)

pub clear_more : (m : Bytes) (a k : ℕ) → insert (with_bytes m (range_with_len a k) (replicate k 0)) (a + k) 0 ≡ with_bytes m (range_with_len a (k + 1)) (replicate (k + 1) 0)
clear_more m a k =
    sym (ap (λ (j : ℕ). with_bytes m (range_with_len a j) (replicate j 0)) (add-one k)
    ∙ ap (λ (l : List ℕ). with_bytes m (range_with_len a (suc k)) l) (sym (zeros_more k))
    ∙ put_more m a k 0 (replicate k 0) (simp length-replicate))

-- the addresses of an access that doesn't go round
straight : (a k n : ℕ) → a + k + n ≤ 2 ^ 32 → map (address_after a) (range_with_len k n) ≡ range_with_len (a + k) n
straight a k zero room = refl
straight a k (suc n) room =
    let x : address_after a k ≡ a + k = omega arith in
    let y : a + (k + 1) ≡ a + k + 1 = omega arith in
    ap (λ (b : ℕ). b ∷ map (address_after a) (range_with_len (k + 1) n)) x
    ∙ ap (λ (l : List ℕ). (a + k) ∷ l) (straight a (k + 1) n (omega arith) ∙ ap (λ (b : ℕ). range_with_len b n) y)

-- bytes that are added, and no zeros
pub added_all : (m : Bytes) (a : ℕ) (bs : List ℕ) → a + length bs ≤ 2 ^ 32 → added m a (length bs) bs ≡ with_bytes m (range_with_len a (length bs)) bs
added_all m a bs room =
    let none : length bs - length bs ≡ 0 = omega arith in
    let all : bs ++ replicate (length bs - length bs) 0 ≡ bs = ap (λ (n : ℕ). bs ++ replicate n 0) none ∙ append-nil bs in
    let same : addresses a (length bs) ≡ range_with_len a (length bs) = straight a 0 (length bs) (omega arith) ∙ ap (λ (b : ℕ). range_with_len b (length bs)) (add-zero a) in
    ap (with_bytes m (addresses a (length bs))) all ∙ ap (λ (l : List ℕ). with_bytes m l bs) same

-- zeros that are added, and nothing in front of them
pub cleared_all : (m : Bytes) (a n : ℕ) → a + n ≤ 2 ^ 32 → added m a n [] ≡ with_bytes m (range_with_len a n) (replicate n 0)
cleared_all m a n room =
    let all : n - 0 ≡ n = omega arith in
    let same : addresses a n ≡ range_with_len a n = straight a 0 n (omega arith) ∙ ap (λ (b : ℕ). range_with_len b n) (add-zero a) in
    ap (λ (k : ℕ). with_bytes m (addresses a n) (replicate k 0)) all ∙ ap (λ (l : List ℕ). with_bytes m l (replicate n 0)) same
