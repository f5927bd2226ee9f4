-- A look-up in the entries of segments.
use Rattle.rv_mem.proofs.Prelude.{eqb-true, is_some, add-zero, ◌^◌, ◌≡◌, ℕ, ◌+◌, ◌-◌, ◌<◌, ◌≤◌, ◌==◌, Bool, true, false, cond, zero, suc, add-one, take, get_or, length, map, set, IsSome, IsTrue, ◌↔◌, subst, List, [], ◌∷◌, ◌++◌, Option, Some, None, refl, sym, ap, ◌∙◌, arith, nat_lt, slice_get, option_or, nat_cmp_total, unsigned_tied, get, find, insert, get-from_entries, get-insert, same_map, nat_cmp-IsAntisymmetric, Bytes, byte_at, IsMemory, address_after, addresses, with_bytes, byte_in, byte_among, HasIn, HasNone}
use Rattle.rv_mem.specs.Segment.{entries_from, all_entries, bytes_among}
use Rattle.rv_mem.specs.declared.segment.Segment.{Segment}
use Rattle.std.proofs.lemmas.Grind.{common_steps}
use Rattle.std.proofs.lemmas.Option.{get_or_from_slice_get}
use Rattle.std.specs.Bool.{OnTrue}
use Rattle.std.specs.List.{range_with_len}
use Rattle.std.specs.Ordering.{nat_cmp, eq_by_cmp}
use Rattle.rv_mem.specs.private.Segment.{Puts}

slice_get_first : (b : ℕ) (bs : List ℕ) (q base : ℕ) → q ≡ base → slice_get (b ∷ bs) (q - base) ≡ Some b
slice_get_first b bs q base e = let z : q - base ≡ 0 = omega arith in rw z refl

slice_get_later : (b : ℕ) (bs : List ℕ) (q base : ℕ) → base < q → slice_get (b ∷ bs) (q - base) ≡ slice_get bs (q - (base + 1))
slice_get_later b bs q base h = let e : q - base ≡ suc (q - (base + 1)) = omega arith in rw e refl

-- the first byte stands at the first address, and the others from the next on
byte_in-cons : (base b : ℕ) (bs : List ℕ) (q : ℕ) → byte_in base (b ∷ bs) q ≡ cond (q == base) (Some b) (byte_in (base + 1) bs q)
byte_in-cons base b bs q = grind (arith, common_steps, slice_get_first, slice_get_later)

cond_or : (t : Bool) (x : ℕ) (o p r : Option ℕ) → r ≡ option_or o p → cond t (Some x) r ≡ option_or (cond t (Some x) o) p
cond_or true x o p r e = refl
cond_or false x o p r e = e

find_in : (q base : ℕ) (bs : List ℕ) (rest : List (ℕ × ℕ)) → find nat_cmp q (entries_from base bs ++ rest) ≡ option_or (byte_in base bs q) (find nat_cmp q rest)
find_in q base [] rest = grind (arith, common_steps)
find_in q base (b ∷ bs) rest =
    rw (unsigned_tied, byte_in-cons base b bs q) (cond_or (q == base) b _ _ _ (find_in q (base + 1) bs rest))

find_among : (q : ℕ) (ss : List Segment) → find nat_cmp q (all_entries ss) ≡ byte_among ss q
find_among q [] = refl
find_among q (s ∷ ss) = find_in q s.base s.bytes.items (all_entries ss) ∙ ap (option_or (byte_in s.base s.bytes.items q)) (find_among q ss)

pub get_among : (ss : List Segment) (q : ℕ) → byte_at (bytes_among ss) q ≡ byte_among ss q
get_among ss q = get-from_entries nat_cmp_total _ _ ∙ find_among q ss

-- ---- options

or_none_left : (o p : Option ℕ) → option_or o p ≡ None → o ≡ None
or_none_left None p e = refl
or_none_left (Some x) p e = e

or_none_right : (o p : Option ℕ) → option_or o p ≡ None → p ≡ None
or_none_right None p e = e
or_none_right (Some x) p e = absurd (cc)

or_some : (o p : Option ℕ) → IsSome o → IsSome (option_or o p)
or_some None p h = absurd (cc)
or_some (Some x) p h = h

not_some : (o : Option ℕ) → ¬ (IsSome o) → o ≡ None
not_some None h = refl
not_some (Some x) h = absurd (h refl)

or_each : (P : ℕ → Type 0) (o p : Option ℕ) (b : ℕ) → (o ≡ Some b → P b) → (p ≡ Some b → P b) → option_or o p ≡ Some b → P b
or_each P None p b f g e = g e
or_each P (Some x) p b f g e = f e

or_put_left : (t : Bool) (b : ℕ) (o o' p : Option ℕ) → o' ≡ cond t (Some b) o → option_or o' p ≡ cond t (Some b) (option_or o p)
or_put_left true b o o' p e = ap (λ x. option_or x p) e
or_put_left false b o o' p e = ap (λ x. option_or x p) e

or_put_right : (q at b : ℕ) (f : ℕ → Option ℕ) (o o' : Option ℕ) → f at ≡ None → o' ≡ cond (q == at) (Some b) o → option_or (f q) o' ≡ cond (q == at) (Some b) (option_or (f q) o)
or_put_right q at b f o o' n e =
    elim (q == at) as (λ t. q == at ≡ t → o' ≡ cond t (Some b) o → option_or (f q) o' ≡ cond t (Some b) (option_or (f q) o)) [
      | true ↦ λ t w. rw (eqb-true q at t, n) w
      | false ↦ λ t w. ap (option_or (f q)) w
    ] refl e

-- ---- the first i segments don't have an address

pub none_more : (ss : List Segment) (i at : ℕ) (d : Segment) → i < length ss → byte_among (take i ss) at ≡ None → ¬ (IsSome (byte_in (get_or ss i d).base (get_or ss i d).bytes.items at)) → byte_among (take (i + 1) ss) at ≡ None
none_more [] i at d h n m = absurd (omega arith)
none_more (s ∷ ss) zero at d h n m = let e : byte_in s.base s.bytes.items at ≡ None = not_some _ m in rw e refl
none_more (s ∷ ss) (suc i) at d h n m =
    let e : byte_among (take (i + 1) ss) at ≡ None = none_more ss i at d (omega arith) (or_none_right _ _ n) m in
    let f : byte_in s.base s.bytes.items at ≡ None = or_none_left _ _ n in
    rw (add-one, f) (rw add-one at e)

pub among_at : (ss : List Segment) (i at : ℕ) (d : Segment) → i < length ss → byte_among (take i ss) at ≡ None → IsSome (byte_in (get_or ss i d).base (get_or ss i d).bytes.items at) → IsSome (byte_among ss at)
among_at [] i at d h n m = absurd (omega arith)
among_at (s ∷ ss) zero at d h n m = or_some _ _ m
among_at (s ∷ ss) (suc i) at d h n m =
    let f : byte_in s.base s.bytes.items at ≡ None = or_none_left _ _ n in
    rw f (among_at ss i at d (omega arith) (or_none_right _ _ n) m)

-- a byte put into the first segment that has the address is put into all
pub puts_at : (ss : List Segment) (i at b : ℕ) (d s' : Segment) → i < length ss → byte_among (take i ss) at ≡ None → Puts (byte_in (get_or ss i d).base (get_or ss i d).bytes.items) (byte_in s'.base s'.bytes.items) at b → Puts (byte_among ss) (byte_among (set ss i s')) at b
puts_at [] i at b d s' h n p = absurd (omega arith)
puts_at (s ∷ ss) zero at b d s' h n p = λ q. or_put_left (q == at) b _ _ _ (p q)
puts_at (s ∷ ss) (suc i) at b d s' h n p = λ q. or_put_right q at b (byte_in s.base s.bytes.items) _ _ (or_none_left _ _ n) (puts_at ss i at b d s' (omega arith) (or_none_right _ _ n) p q)

-- to put a byte is to insert it
pub insert_put : (ss ss' : List Segment) (at b : ℕ) → Puts (byte_among ss) (byte_among ss') at b → bytes_among ss' ≡ insert (bytes_among ss) at b
insert_put ss ss' at b p = same_map nat_cmp_total nat_cmp-IsAntisymmetric _ _ (λ q.
    get_among ss' q ∙ p q ∙ sym (get-insert nat_cmp_total (bytes_among ss) at b q
    ∙ ap (λ t. cond t (Some b) (byte_at (bytes_among ss) q)) (unsigned_tied q at)
    ∙ ap (cond (q == at) (Some b)) (get_among ss q)))

-- ---- where a segment has bytes

some_within : (bs : List ℕ) (i : ℕ) → IsSome (slice_get bs i) → i < length bs
some_within [] i h = absurd (cc)
some_within (b ∷ bs) zero h = omega arith
some_within (b ∷ bs) (suc i) h = omega (arith, some_within bs i h)

within : (base : ℕ) (bs : List ℕ) (q : ℕ) → IsSome (byte_in base bs q) → (base ≤ q) × (q < base + length bs)
within base bs q h = elim (nat_lt q base) as (λ t. nat_lt q base ≡ t → IsSome (cond t None (slice_get bs (q - base))) → (base ≤ q) × (q < base + length bs)) [
  | true ↦ λ t s. absurd (cc)
  | false ↦ λ t s. let l : q - base < length bs = some_within bs (q - base) s in let g : base ≤ q = grind arith in (g, omega arith)
] refl h

-- ---- what is kept is bytes

byte_below : (base : ℕ) (bs : List ℕ) (q b : ℕ) → ((k : ℕ) → get_or bs k 0 < 256) → byte_in base bs q ≡ Some b → b < 256
byte_below base bs q b h e =
    elim (nat_lt q base) as (λ t. cond t None (slice_get bs (q - base)) ≡ Some b → b < 256) [
      | true ↦ λ w. absurd (cc)
      | false ↦ λ w. let r : get_or bs (q - base) 0 ≡ b = get_or_from_slice_get bs (q - base) b 0 w in rw (← r) (h (q - base))
    ] e

among_below : (ss : List Segment) (q b : ℕ) → byte_among ss q ≡ Some b → b < 256
among_below [] q b e = absurd (cc)
among_below (s ∷ ss) q b e = or_each (λ v. v < 256) (byte_in s.base s.bytes.items q) (byte_among ss q) b (byte_below s.base s.bytes.items q b s.in_range) (among_below ss q b) e

among_address : (ss : List Segment) (q b : ℕ) → byte_among ss q ≡ Some b → q < 2 ^ 32
among_address [] q b e = absurd (cc)
among_address (s ∷ ss) q b e =
    or_each (λ v. q < 2 ^ 32) (byte_in s.base s.bytes.items q) (byte_among ss q) b
    (λ here. let w = within s.base s.bytes.items q (ap is_some here) in omega (arith, s.fits, s.bytes.ok, w.1))
    (among_address ss q b) e

-- segments make a memory
pub is_memory : (ss : List Segment) → IsMemory (bytes_among ss)
is_memory ss = record {
  addresses = λ a b e. among_address ss a b (sym (get_among ss a) ∙ e);
  bytes = λ a b e. among_below ss a b (sym (get_among ss a) ∙ e);
}

-- ---- steps of a store

some_cond : (t : Bool) (b : ℕ) (o : Option ℕ) → IsSome o → IsSome (cond t (Some b) o)
some_cond true b o h = refl
some_cond false b o h = h

pub stays : (m : Bytes) (k b q : ℕ) → IsSome (byte_at m q) → IsSome (get (insert m k b) q)
stays m k b q h = rw (get-insert nat_cmp_total m k b q) (some_cond (eq_by_cmp nat_cmp q k) b (byte_at m q) h)

pub put_done : (r : Bool) (ss ss' : List Segment) (at b : ℕ) → IsSome (byte_at (bytes_among ss) at)
    → (IsTrue r ↔ IsSome (byte_among ss at)) → OnTrue r (Puts (byte_among ss) (byte_among ss') at b) → bytes_among ss' ≡ insert (bytes_among ss) at b
put_done true ss ss' at b h t p = insert_put ss ss' at b p
put_done false ss ss' at b h t p =
    let g : IsSome (byte_among ss at) = subst (λ o. IsSome o) (get_among ss at) h in
    absurd (cc (t.1 g))

-- ---- ranges of addresses

none_is : (o : Option ℕ) → o ≡ None → ¬ (IsSome o)
none_is None e h = absurd (cc)
none_is (Some x) e h = absurd (cc)

pub found_later : (ss : List Segment) (i from to : ℕ) (d : Segment) → i < length ss → HasNone (byte_among (take i ss)) from to → HasIn (byte_in (get_or ss i d).base (get_or ss i d).bytes.items) from to → HasIn (byte_among ss) from to
found_later ss i from to d h n (q, f, t, m) = (q, f, t, among_at ss i q d h (n q f t) m)

pub none_later : (ss : List Segment) (i from to : ℕ) (d : Segment) → i < length ss → HasNone (byte_among (take i ss)) from to → HasNone (byte_in (get_or ss i d).base (get_or ss i d).bytes.items) from to → HasNone (byte_among (take (i + 1) ss)) from to
none_later ss i from to d h n m = λ q f t. none_more ss i q d h (n q f t) (none_is _ (m q f t))

-- ---- a segment at the end

pub none_right : (o : Option ℕ) → option_or o None ≡ o
none_right None = refl
none_right (Some x) = refl

or_assoc : (o p r : Option ℕ) → option_or (option_or o p) r ≡ option_or o (option_or p r)
or_assoc None p r = refl
or_assoc (Some x) p r = refl

pub among_push : (ss : List Segment) (s : Segment) (q : ℕ) → byte_among (ss ++ s ∷ []) q ≡ option_or (byte_among ss q) (byte_in s.base s.bytes.items q)
among_push [] s q = none_right _
among_push (t ∷ ss) s q = ap (option_or (byte_in t.base t.bytes.items q)) (among_push ss s q) ∙ sym (or_assoc (byte_in t.base t.bytes.items q) (byte_among ss q) (byte_in s.base s.bytes.items q))

or_cond : (t : Bool) (b : ℕ) (o p : Option ℕ) → (t ≡ true → o ≡ None) → option_or o (cond t (Some b) p) ≡ option_or (cond t (Some b) o) p
or_cond true b o p h = rw (h refl) refl
or_cond false b o p h = refl

before : (base : ℕ) (bs : List ℕ) (q : ℕ) → q ≡ base → byte_in (base + 1) bs q ≡ None
before base bs q e = grind (arith, common_steps)

swapped : (o p : Option ℕ) → (IsSome p → o ≡ None) → option_or o p ≡ option_or p o
swapped None None h = refl
swapped None (Some x) h = refl
swapped (Some x) None h = refl
swapped (Some x) (Some y) h = absurd (cc (h refl))

-- bytes written one after another
pub get_with : (m : Bytes) (at k : ℕ) (bs : List ℕ) (q : ℕ) → at + k + length bs ≤ 2 ^ 32 → get (with_bytes m (map (address_after at) (range_with_len k (length bs))) bs) q ≡ option_or (byte_in (at + k) bs q) (byte_at m q)
get_with m at k [] q h = grind (arith, common_steps)
get_with m at k (b ∷ bs) q h =
    let a : address_after at k ≡ at + k = omega arith in
    let e : at + (k + 1) ≡ at + k + 1 = omega arith in
    get_with (insert m (address_after at k) b) at (k + 1) bs q (omega arith)
    ∙ ap (λ x. option_or (byte_in x bs q) (get (insert m (address_after at k) b) q)) e
    ∙ ap (option_or (byte_in (at + k + 1) bs q)) (get-insert nat_cmp_total m (address_after at k) b q ∙ ap (λ t. cond t (Some b) (byte_at m q)) (unsigned_tied q (address_after at k) ∙ ap (λ x. q == x) a))
    ∙ or_cond (q == at + k) b _ _ (λ t. before (at + k) bs q (eqb-true q (at + k) t))
    ∙ ap (λ o. option_or o (byte_at m q)) (sym (byte_in-cons (at + k) b bs q))

-- a segment at addresses where nothing is
pub push_free : (ss : List Segment) (s : Segment) → s.base + length s.bytes.items ≤ 2 ^ 32 → HasNone (byte_among ss) s.base (s.base + length s.bytes.items) → bytes_among (ss ++ s ∷ []) ≡ with_bytes (bytes_among ss) (addresses s.base (length s.bytes.items)) s.bytes.items
push_free ss s h n = same_map nat_cmp_total nat_cmp-IsAntisymmetric _ _ (λ q.
    get_among (ss ++ s ∷ []) q ∙ among_push ss s q
    ∙ swapped _ _ (λ m. let w = within s.base s.bytes.items q m in n q w.0 w.1)
    ∙ sym (get_with (bytes_among ss) s.base 0 s.bytes.items q (omega arith)
    ∙ ap (λ x. option_or (byte_in x s.bytes.items q) (byte_at (bytes_among ss) q)) (add-zero s.base)
    ∙ ap (option_or (byte_in s.base s.bytes.items q)) (get_among ss q)))
