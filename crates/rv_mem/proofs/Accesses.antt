-- Bytes that are read from addresses and written to them.
use Rattle.rv_mem.proofs.Prelude.{◌≡◌, ◌≢◌, ℕ, zero, suc, ◌+◌, ◌-◌, ◌^◌, ◌<◌, ◌==◌, Bool, true, false, cond, eqb-true, subst, List, [], ◌∷◌, length, map, Option, Some, None, IsSome, is_some, slice_index, add-zero, refl, sym, ap, ◌∙◌, arith, nat_cmp_total, unsigned_tied, insert, get-insert, option_or, Bytes, byte_at, bytes_at, address_after, addresses, in_front, byte_in}
use Rattle.rv_mem.specs.Laws.{AddressesAreThese, Holds, ReadIsHeld, OthersStay, WrittenIsThere, WriteKeepsMemory}
use Rattle.std.proofs.lemmas.Grind.{common_steps}
use Rattle.std.proofs.lemmas.List.FromFn.{length-map-range_with_len, get_or-map-range_with_len}
use Rattle.std.proofs.lemmas.Option.{slice_get-get_or}
use Rattle.std.specs.List.{range_with_len, Contains}
use Rattle.rv_mem.proofs.Lookups.{get_with}

-- ---- reading

-- a byte in front of others
pub record Splits (o : Option ℕ) (p : Option (List ℕ)) (bs : List ℕ) : Type 0 where
  pub byte : ℕ
  pub rest : List ℕ
  pub first : o ≡ Some byte
  pub others : p ≡ Some rest
  pub all : bs ≡ byte ∷ rest

pub split : (o : Option ℕ) (p : Option (List ℕ)) (bs : List ℕ) → in_front o p ≡ Some bs → Splits o p bs
split None p bs e = absurd (cc)
split (Some b) None bs e = absurd (cc)
split (Some b) (Some rest) bs e = record { byte = b; rest = rest; first = refl; others = refl; all = cc }

-- the byte that was read k places further on
read_from : (m : Bytes) (f : ℕ → ℕ) (a n k : ℕ) (bs : List ℕ) → bytes_at m (map f (range_with_len a n)) ≡ Some bs → k < n → byte_at m (f (a + k)) ≡ Some (slice_index bs k)
read_from m f a zero k bs e h = absurd (omega arith)
read_from m f a (suc n) zero bs e h =
    let x = split (byte_at m (f a)) (bytes_at m (map f (range_with_len (a + 1) n))) bs e in
    let z : a + 0 ≡ a = omega arith in
    ap (λ (y : ℕ). byte_at m (f y)) z ∙ x.first ∙ ap Some (ap (λ (l : List ℕ). slice_index l 0) (sym x.all))
read_from m f a (suc n) (suc k) bs e h =
    let x = split (byte_at m (f a)) (bytes_at m (map f (range_with_len (a + 1) n))) bs e in
    let z : a + suc k ≡ a + 1 + k = omega arith in
    ap (λ (y : ℕ). byte_at m (f y)) z ∙ read_from m f (a + 1) n k x.rest x.others (omega arith) ∙ ap Some (ap (λ (l : List ℕ). slice_index l (suc k)) (sym x.all))

count_from : (m : Bytes) (f : ℕ → ℕ) (a n : ℕ) (bs : List ℕ) → bytes_at m (map f (range_with_len a n)) ≡ Some bs → length bs ≡ n
count_from m f a zero bs e = let none : bs ≡ [] = cc in rw none refl
count_from m f a (suc n) bs e =
    let x = split (byte_at m (f a)) (bytes_at m (map f (range_with_len (a + 1) n))) bs e in
    rw x.all (ap suc (count_from m f (a + 1) n x.rest x.others))

joined : (o : Option ℕ) (p : Option (List ℕ)) (b : ℕ) (bs : List ℕ) → o ≡ Some b → p ≡ Some bs → in_front o p ≡ Some (b ∷ bs)
joined None p b bs e f = absurd (cc)
joined (Some c) None b bs e f = absurd (cc)
joined (Some c) (Some cs) b bs e f = cc

held_from : (m : Bytes) (f : ℕ → ℕ) (a n : ℕ) (bs : List ℕ) → length bs ≡ n → ((k : ℕ) → k < n → byte_at m (f (a + k)) ≡ Some (slice_index bs k)) → bytes_at m (map f (range_with_len a n)) ≡ Some bs
held_from m f a zero [] e each = refl
held_from m f a zero (b ∷ bs) e each = absurd (omega arith)
held_from m f a (suc n) [] e each = absurd (omega arith)
held_from m f a (suc n) (b ∷ bs) e each =
    let z : a + 0 ≡ a = omega arith in
    joined _ _ b bs (ap (λ (y : ℕ). byte_at m (f y)) (sym z) ∙ each 0 (omega arith))
    (held_from m f (a + 1) n bs (omega arith) (λ k h. further k h))
  where
    further : (k : ℕ) → k < n → byte_at m (f (a + 1 + k)) ≡ Some (slice_index bs k)
    further k h = let z : a + 1 + k ≡ a + suc k = omega arith in ap (λ (y : ℕ). byte_at m (f y)) z ∙ each (suc k) (omega arith)

pub held_each : (m : Bytes) (at n : ℕ) (bs : List ℕ) (k : ℕ) → bytes_at m (addresses at n) ≡ Some bs → k < n → byte_at m (address_after at k) ≡ Some (slice_index bs k)
held_each m at n bs k e h =
    let z : k ≡ 0 + k = omega arith in
    ap (λ (y : ℕ). byte_at m (address_after at y)) z ∙ read_from m (address_after at) 0 n k bs e h

held : (m : Bytes) (at n : ℕ) (bs : List ℕ) → bytes_at m (addresses at n) ≡ Some bs → Holds m at n bs
held m at n bs e = record { count = count_from m (address_after at) 0 n bs e; each = λ k h. held_each m at n bs k e h }

read : (m : Bytes) (at n : ℕ) (bs : List ℕ) → Holds m at n bs → bytes_at m (addresses at n) ≡ Some bs
read m at n bs h = held_from m (address_after at) 0 n bs h.count each
  where
    each : (k : ℕ) → k < n → byte_at m (address_after at (0 + k)) ≡ Some (slice_index bs k)
    each k below = let z : 0 + k ≡ k = omega arith in ap (λ (y : ℕ). byte_at m (address_after at y)) z ∙ h.each k below

pub read_held : ReadIsHeld
read_held m at n bs = (held m at n bs, read m at n bs)

-- what was read at an address is there
pub there : (m : Bytes) (at : List ℕ) (bs : List ℕ) (a : ℕ) → bytes_at m at ≡ Some bs → Contains at a → IsSome (byte_at m a)
there m [] bs q e (k, below, is) = absurd (omega arith)
there m (a ∷ more) bs q e (zero, below, is) =
    let x = split (byte_at m a) (bytes_at m more) bs e in
    ap (λ (y : ℕ). is_some (byte_at m y)) (sym is) ∙ ap is_some x.first
there m (a ∷ more) bs q e (suc k, below, is) =
    let x = split (byte_at m a) (bytes_at m more) bs e in
    there m more x.rest q x.others (k, omega arith, is)

-- ---- writing

pub byte_at-insert : (m : Bytes) (a b q : ℕ) → byte_at (insert m a b) q ≡ cond (q == a) (Some b) (byte_at m q)
byte_at-insert m a b q = get-insert nat_cmp_total m a b q ∙ ap (λ (t : Bool). cond t (Some b) (byte_at m q)) (unsigned_tied q a)

other : (q a b : ℕ) (o : Option ℕ) → q ≢ a → cond (q == a) (Some b) o ≡ o
other q a b o h = grind arith

pub others_stay : OthersStay
others_stay m [] bs q h = refl
others_stay m (a ∷ more) [] q h = refl
others_stay m (a ∷ more) (b ∷ bs) q h =
    others_stay (insert m a b) more bs q (λ (k, below, is). h (suc k, omega arith, is))
    ∙ byte_at-insert m a b q ∙ other q a b (byte_at m q) (λ e. h (0, omega arith, sym e))

one_of : (P : ℕ → ℕ → Type 0) (q a b c : ℕ) (t : Bool) (o : Option ℕ) → (t ≡ true → q ≡ a) → P a b → ((d : ℕ) → o ≡ Some d → P q d) → cond t (Some b) o ≡ Some c → P q c
one_of P q a b c true o at here others e =
    let same : b ≡ c = cc in
    subst (λ (x : ℕ). P x c) (sym (at refl)) (subst (λ (x : ℕ). P a x) same here)
one_of P q a b c false o at here others e = others c e

pub written_is : WriteKeepsMemory
written_is m a b is f g = record {
  addresses = λ q c e. one_of (λ x y. x < 2 ^ 32) q a b c (q == a) (byte_at m q) (eqb-true q a) f (is.addresses q) (sym (byte_at-insert m a b q) ∙ e);
  bytes = λ q c e. one_of (λ x y. y < 256) q a b c (q == a) (byte_at m q) (eqb-true q a) g (is.bytes q) (sym (byte_at-insert m a b q) ∙ e);
}

byte_in_run : (at : ℕ) (bs : List ℕ) (k : ℕ) → k < length bs → byte_in at bs (at + k) ≡ Some (slice_index bs k)
byte_in_run at bs k h =
    let z : at + k - at ≡ k = omega arith in
    grind (arith, common_steps, z, slice_get-get_or bs k 0 h)

pub written_there : WrittenIsThere
written_there m at bs k room h =
    get_with m at 0 bs (at + k) (omega arith)
    ∙ ap (λ (x : ℕ). option_or (byte_in x bs (at + k)) (byte_at m (at + k))) (add-zero at)
    ∙ ap (λ (o : Option ℕ). option_or o (byte_at m (at + k))) (byte_in_run at bs k h)

-- ---- the addresses of an access

address_of : (at n a : ℕ) → Contains (addresses at n) a → (k : ℕ) × (k < n) × (a ≡ address_after at k)
address_of at n a (k, below, is) =
    let many = length-map-range_with_len (address_after at) 0 n in
    let small : k < n = omega arith in
    (k, small, sym is ∙ get_or-map-range_with_len (address_after at) 0 n k k a small (omega arith))

has_one : (at n a : ℕ) → ((k : ℕ) × (k < n) × (a ≡ address_after at k)) → Contains (addresses at n) a
has_one at n a (k, below, is) =
    let many = length-map-range_with_len (address_after at) 0 n in
    (k, omega arith, get_or-map-range_with_len (address_after at) 0 n k k a below (omega arith) ∙ sym is)

pub addresses_these : AddressesAreThese
addresses_these at n a = (address_of at n a, has_one at n a)
