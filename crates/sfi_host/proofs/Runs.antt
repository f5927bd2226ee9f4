-- Bytes at consecutive addresses, and a region that is filled with them.
use Rattle.sfi_host.proofs.Prelude.{◌≡◌, ◌↔◌, IsTrue, IsSome, is_some, ℕ, zero, suc, ◌+◌, ◌-◌, ◌^◌, ◌<◌, ◌≤◌, List, [], ◌∷◌, ◌++◌, length, Option, Some, None, refl, sym, ap, ◌∙◌, add-one, Bool, true, false, not, nat_le, arith, take, OnTrue, range_with_len, insert, Bytes, IsMemory, byte_at, bytes_at, with_bytes, in_front, Span, bytes_in, IsWhole, is_in, bytes_outside, replicate}
use Rattle.std.proofs.lemmas.List.{length-take}
use Rattle.sfi_host.proofs.RegionBytes.{held, byte_in, is_in-Holds, still_there, kept_put, kept_put_out}

-- ==== Bytes at consecutive addresses, which aren't taken modulo 2 ^ 32.

-- ---- which are there

both_there : (o : Option ℕ) (p : Option (List ℕ)) → IsSome o → IsSome p → IsSome (in_front o p)
both_there None p h g = h
both_there (Some b) None h g = g
both_there (Some b) (Some bs) h g = refl

first_there : (o : Option ℕ) (p : Option (List ℕ)) → IsSome (in_front o p) → IsSome o
first_there None p h = h
first_there (Some b) p h = refl

others_there : (o : Option ℕ) (p : Option (List ℕ)) → IsSome (in_front o p) → IsSome p
others_there None p h = absurd (cc)
others_there (Some b) None h = h
others_there (Some b) (Some bs) h = refl

-- all are there where each is
pub all_there : (m : Bytes) (a n : ℕ) → ((k : ℕ) → k < n → IsSome (byte_at m (a + k))) → IsSome (bytes_at m (range_with_len a n))
all_there m a zero h = refl
all_there m a (suc n) h =
    let z : a + 0 ≡ a = omega arith in
    both_there _ _ (ap (λ x. is_some (byte_at m x)) (sym z) ∙ h 0 (omega arith)) (all_there m (a + 1) n (λ k l.
    let y : a + 1 + k ≡ a + suc k = omega arith in
    ap (λ x. is_some (byte_at m x)) y ∙ h (suc k) (omega arith)))

-- each is there where all are
pub each_there : (m : Bytes) (a n k : ℕ) → IsSome (bytes_at m (range_with_len a n)) → k < n → IsSome (byte_at m (a + k))
each_there m a zero k h l = absurd (omega arith)
each_there m a (suc n) zero h l =
    let z : a + 0 ≡ a = omega arith in
    ap (λ x. is_some (byte_at m x)) z ∙ first_there (byte_at m a) (bytes_at m (range_with_len (a + 1) n)) h
each_there m a (suc n) (suc k) h l =
    let z : a + suc k ≡ a + 1 + k = omega arith in
    ap (λ x. is_some (byte_at m x)) z ∙ each_there m (a + 1) n k (others_there (byte_at m a) _ h) (omega arith)

-- ---- reading

one_more : (o : Option ℕ) (p q : Option (List ℕ)) (b : ℕ) (bs : List ℕ) → in_front o p ≡ Some bs → ((cs : List ℕ) → p ≡ Some cs → q ≡ Some (cs ++ b ∷ [])) → in_front o q ≡ Some (bs ++ b ∷ [])
one_more (Some a) (Some cs) q b bs e longer =
    let all : a ∷ cs ≡ bs = cc in
    ap (λ (r : Option (List ℕ)). in_front (Some a) r) (longer cs refl) ∙ ap (λ (l : List ℕ). Some (l ++ b ∷ [])) all
one_more o p q b bs e longer = absurd (cc)

-- one byte more
read_more : (m : Bytes) (a n b : ℕ) (bs : List ℕ) → bytes_at m (range_with_len a n) ≡ Some bs → byte_at m (a + n) ≡ Some b
    → bytes_at m (range_with_len a (suc n)) ≡ Some (bs ++ b ∷ [])
read_more m a zero b bs e f =
    let z : a ≡ a + 0 = omega arith in
    let none : bs ≡ [] = cc in
    rw none (ap (λ (o : Option ℕ). in_front o (Some [])) (ap (byte_at m) z ∙ f))
read_more m a (suc n) b bs e f =
    let z : a + 1 + n ≡ a + suc n = omega arith in
    one_more (byte_at m a) (bytes_at m (range_with_len (a + 1) n)) (bytes_at m (range_with_len (a + 1) (suc n))) b bs e
    (λ cs others. read_more m (a + 1) n b cs others (ap (byte_at m) z ∙ f))

pub bytes_more : (m : Bytes) (a n b : ℕ) (bs : List ℕ) → bytes_at m (range_with_len a n) ≡ Some bs → byte_at m (a + n) ≡ Some b
    → bytes_at m (range_with_len a (n + 1)) ≡ Some (bs ++ b ∷ [])
bytes_more m a n b bs e f = ap (λ k. bytes_at m (range_with_len a k)) (add-one n) ∙ read_more m a n b bs e f

-- ---- which of a region's are there

last_there : (m : Bytes) (a n : ℕ) → IsSome (bytes_at m (range_with_len a n)) → 0 < n → IsSome (byte_at m (a + (n - 1)))
last_there m a n h l = each_there m a n (n - 1) h (omega arith)

-- n addresses that don't begin below the region: all are there exactly where they don't end above it
pub covered : (s : Span) (m : Bytes) (a n q : ℕ) → IsWhole s (bytes_in s m) → s.base ≤ a → 0 < n → q ≡ s.base + s.size - a
    → (IsTrue (nat_le n q) ↔ IsSome (bytes_at (bytes_in s m) (range_with_len a n)))
covered s m a n q w h l f = (
  λ t. let le : n ≤ q = grind arith in all_there (bytes_in s m) a n (λ k below. w (a + k) (omega arith, omega arith)),
  λ t. let x = held s m (a + (n - 1)) (last_there (bytes_in s m) a n t l) in let y = x.1 in grind (arith, y, f, l),
)

-- n addresses that begin below the region aren't all in it
pub not_covered : (s : Span) (m : Bytes) (a n : ℕ) → a < s.base → 0 < n
    → (IsTrue (nat_le s.base a) ↔ IsSome (bytes_at (bytes_in s m) (range_with_len a n)))
not_covered s m a n h l = (
  λ t. let no : s.base ≤ a = grind arith in absurd (omega arith),
  λ t. let x = held s m (a + 0) (each_there (bytes_in s m) a n 0 t l) in let y = x.0 in absurd (omega (arith, y)),
)

-- an address at which there is a byte
pub there_below : (m : Bytes) (a : ℕ) → IsMemory m → (o : Option ℕ) → byte_at m a ≡ o → IsSome o → a < 2 ^ 32
there_below m a memory None e h = absurd (cc)
there_below m a memory (Some v) e h = memory.addresses a v e

-- where all are there, they end at the last address at most
pub ends_within : (s : Span) (m : Bytes) (a n : ℕ) → IsMemory m → 0 < n → IsSome (bytes_at (bytes_in s m) (range_with_len a n)) → a + n ≤ 2 ^ 32
ends_within s m a n r l t =
    let x = last_there (bytes_in s m) a n t l in
    let y = ap is_some (sym (byte_in s m (a + (n - 1)) (is_in-Holds s (a + (n - 1)) (held s m (a + (n - 1)) x)))) ∙ x in
    let z = there_below m (a + (n - 1)) r (byte_at m (a + (n - 1))) refl y in
    omega arith

pub covered_end : (s : Span) (m : Bytes) (a n q : ℕ) → IsMemory m → IsWhole s (bytes_in s m) → s.base ≤ a → 0 < n → q ≡ s.base + s.size - a
    → OnTrue (nat_le n q) (a + n ≤ 2 ^ 32)
covered_end s m a n q r w h l f = on (nat_le n q) (λ t. ends_within s m a n r l ((covered s m a n q w h l f).0 t))
  where
    on : (b : Bool) → (IsTrue b → a + n ≤ 2 ^ 32) → OnTrue b (a + n ≤ 2 ^ 32)
    on true g = g refl
    on false g = tt

-- the first of them are there too
pub fewer_there : (m : Bytes) (a n k : ℕ) → IsSome (bytes_at m (range_with_len a n)) → k ≤ n → IsSome (bytes_at m (range_with_len a k))
fewer_there m a n k h l = all_there m a k (λ j below. each_there m a n j h (omega arith))

-- ---- bytes of a region

-- what is read in the region is read in the memory
pub read_kept : (s : Span) (m : Bytes) (a n : ℕ) → IsSome (bytes_at (bytes_in s m) (range_with_len a n)) → bytes_at (bytes_in s m) (range_with_len a n) ≡ bytes_at m (range_with_len a n)
read_kept s m a zero there = refl
read_kept s m a (suc n) there =
    let here : IsSome (byte_at (bytes_in s m) a) = first_there (byte_at (bytes_in s m) a) _ there in
    let same : byte_at (bytes_in s m) a ≡ byte_at m a = byte_in s m a (is_in-Holds s a (held s m a here)) in
    ap (λ (o : Option ℕ). in_front o (bytes_at (bytes_in s m) (range_with_len (a + 1) n))) same
    ∙ ap (in_front (byte_at m a)) (read_kept s m (a + 1) n (others_there (byte_at (bytes_in s m) a) _ there))

-- what is written there changes the region alone, and leaves it whole
pub record IsWrittenIn (s : Span) (m n : Bytes) (at bs : List ℕ) : Type 0 where
  pub inside : bytes_in s n ≡ with_bytes (bytes_in s m) at bs
  pub outside : bytes_outside s n ≡ bytes_outside s m
  pub whole : IsWhole s (bytes_in s m) → IsWhole s (bytes_in s n)

pub written_in : (s : Span) (m : Bytes) (a n : ℕ) (bs : List ℕ) → IsSome (bytes_at (bytes_in s m) (range_with_len a n)) → IsWrittenIn s m (with_bytes m (range_with_len a n) bs) (range_with_len a n) bs
written_in s m a zero bs there = record { inside = refl; outside = refl; whole = λ w. w }
written_in s m a (suc n) [] there = record { inside = refl; outside = refl; whole = λ w. w }
written_in s m a (suc n) (b ∷ bs) there =
    let here : IsSome (byte_at (bytes_in s m) a) = first_there (byte_at (bytes_in s m) a) _ there in
    let within : is_in s a ≡ true = is_in-Holds s a (held s m a here) in
    let put : bytes_in s (insert m a b) ≡ insert (bytes_in s m) a b = kept_put m (is_in s) a b within in
    let out : bytes_outside s (insert m a b) ≡ bytes_outside s m = kept_put_out m (λ x. not (is_in s x)) a b (ap not within) in
    let later : IsSome (bytes_at (bytes_in s m) (range_with_len (a + 1) n)) = others_there (byte_at (bytes_in s m) a) _ there in
    let still : IsSome (bytes_at (bytes_in s (insert m a b)) (range_with_len (a + 1) n)) =
    all_there (bytes_in s (insert m a b)) (a + 1) n (λ k below.
    ap (λ (x : Bytes). is_some (byte_at x (a + 1 + k))) put ∙ still_there (bytes_in s m) a b (a + 1 + k) (each_there (bytes_in s m) (a + 1) n k later below)) in
    let rest = written_in s (insert m a b) (a + 1) n bs still in
    record {
      inside = rest.inside ∙ ap (λ (x : Bytes). with_bytes x (range_with_len (a + 1) n) bs) put;
      outside = rest.outside ∙ out;
      whole = λ w. rest.whole (λ q h. ap (λ (x : Bytes). is_some (byte_at x q)) put ∙ still_there (bytes_in s m) a b q (w q h));
    }

-- some of a list are no more than were asked for
pub few : (most a : ℕ) (xs ys : List ℕ) → ys ≡ take most xs → most ≡ a → length ys ≤ a
few most a xs ys e f = let n = length-take most xs in rw e (omega (arith, n, f))

-- ==== A region that is filled from one of its places on.

-- some bytes, and then others from where they end
pub with_more : (m : Bytes) (a n k : ℕ) (bs cs : List ℕ) → length bs ≡ n → with_bytes (with_bytes m (range_with_len a n) bs) (range_with_len (a + n) k) cs ≡ with_bytes m (range_with_len a (n + k)) (bs ++ cs)
with_more m a zero k [] cs many =
    let z : a + 0 ≡ a = omega arith in
    let y : k ≡ 0 + k = omega arith in
    ap (λ q. with_bytes m (range_with_len q k) cs) z ∙ ap (λ q. with_bytes m (range_with_len a q) cs) y
with_more m a zero k (b ∷ bs) cs many = absurd (omega arith)
with_more m a (suc n) k [] cs many = absurd (omega arith)
with_more m a (suc n) k (b ∷ bs) cs many =
    let z : a + suc n ≡ a + 1 + n = omega arith in
    let y : suc (n + k) ≡ suc n + k = omega arith in
    ap (λ q. with_bytes (with_bytes (insert m a b) (range_with_len (a + 1) n) bs) (range_with_len q k) cs) z
    ∙ with_more (insert m a b) (a + 1) n k bs cs (omega arith)
    ∙ ap (λ q. with_bytes m (range_with_len a q) (b ∷ (bs ++ cs))) y

-- what is written next is there
pub next_there : (s : Span) (m : Bytes) (at n : ℕ) → IsWhole s (bytes_in s m) → s.base ≤ at → at + n ≤ s.base + s.size → IsSome (bytes_at (bytes_in s m) (range_with_len at n))
next_there s m at n whole low high = all_there (bytes_in s m) at n (λ k below. whole (at + k) (omega arith, omega (arith, below)))

-- bytes, and zeros after them
pub filled_up : (s : Span) (old m n : Bytes) (front : List ℕ) → length front ≤ s.size → m ≡ with_bytes old (range_with_len s.base (length front)) front
    → n ≡ with_bytes m (range_with_len (s.base + length front) (s.size - length front)) (replicate (s.size - length front) 0)
    → n ≡ with_bytes old (range_with_len s.base s.size) (front ++ replicate (s.size - length front) 0)
filled_up s old m n front room first then =
    let all : length front + (s.size - length front) ≡ s.size = omega (arith, room) in
    then
    ∙ ap (λ (x : Bytes). with_bytes x (range_with_len (s.base + length front) (s.size - length front)) (replicate (s.size - length front) 0)) first
    ∙ with_more old s.base (length front) (s.size - length front) front (replicate (s.size - length front) 0) refl
    ∙ ap (λ q. with_bytes old (range_with_len s.base q) (front ++ replicate (s.size - length front) 0)) all
