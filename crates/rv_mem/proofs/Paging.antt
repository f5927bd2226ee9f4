-- Pages: the table of their numbers, and what they have at an address.
use Rattle.std.proofs.Math.ListN.{length-set}
use Rattle.std.proofs.lemmas.Bool.{cases_eq, cases_lt, eqb-false}
use Rattle.std.proofs.lemmas.List.{ext_get_or, get_or_past, get_or_default}
use Rattle.std.proofs.lemmas.List.FromFn.{get_or-map-range_with_len, length-map-range_with_len}
use Rattle.rv_mem.specs.private.Frames.{number_at, numbers_of, IsTable}
use Rattle.std.specs.Ordering.{nat_cmp}
use Rattle.rv_mem.proofs.Accesses.{byte_at-insert}
use Rattle.rv_mem.proofs.Lookups.{none_right}
use Rattle.rv_mem.proofs.Prelude.{◌≡◌, ◌≢◌, ℕ, ◌+◌, ◌*◌, ◌/◌, ◌%◌, ◌<◌, ◌≤◌, inl, inr, List, length, set, sym, ap, ◌∙◌, arith, slice_index, get_or-set_other, get_or-set_same, eqb-true, is_some, ◌^◌, ◌==◌, Bool, true, false, cond, zero, suc, nat_lt, get_or, IsSome, [], Option, Some, None, refl, subst, option_or, nat_cmp_total, empty, get-empty, same_map, nat_cmp-IsAntisymmetric, Bytes, byte_at, IsMemory, frame_of, cell, cell_at, ArePages, with_entry, values_below, values_of}

-- ==== A page table in two levels: the numbers of its pages.

-- ---- as one list

pub many : (chunks leaves : List ℕ) → length (numbers_of chunks leaves) ≡ length chunks * 128
many chunks leaves = length-map-range_with_len (number_at chunks leaves) 0 (length chunks * 128)

module _ (chunks leaves : List ℕ) (is : IsTable chunks leaves) where
  -- a chunk past the last has none
  none_past : (page : ℕ) → length chunks ≤ page / 128 → number_at chunks leaves page ≡ 0
  none_past page past =
      let is_zero : slice_index chunks (page / 128) ≡ 0 = get_or_past chunks (page / 128) 0 past in
      let place : slice_index chunks (page / 128) * 128 + page % 128 ≡ page % 128 = omega (arith, is_zero) in
      ap (slice_index leaves) place ∙ is.none (page % 128) (omega arith)

  pub number_is : (page : ℕ) → slice_index (numbers_of chunks leaves) page ≡ number_at chunks leaves page
  number_is page =
      let n = many chunks leaves in
      elim (cases_lt page (length chunks * 128)) [
        | inl below ↦ get_or-map-range_with_len (number_at chunks leaves) 0 (length chunks * 128) page page 0 below (omega arith)
        | inr past ↦ get_or_past (numbers_of chunks leaves) page 0 (omega (arith, n, past)) ∙ sym (none_past page (omega (arith, past)))
      ]

-- a page with a number lies in a chunk with a leaf of its own
pub has_leaf : (chunks leaves : List ℕ) → IsTable chunks leaves → (page : ℕ) → number_at chunks leaves page ≢ 0 → slice_index chunks (page / 128) ≢ 0
has_leaf chunks leaves is page some e =
    let place : slice_index chunks (page / 128) * 128 + page % 128 ≡ page % 128 = omega (arith, e) in
    some (ap (slice_index leaves) place ∙ is.none (page % 128) (omega arith))

-- the same numbers are the same list
pub same_numbers : (c l d m : List ℕ) → length d ≡ length c → ((page : ℕ) → number_at d m page ≡ number_at c l page) → IsTable c l → IsTable d m → numbers_of d m ≡ numbers_of c l
same_numbers c l d m count same is js =
    let n = many c l in
    let o = many d m in
    ext_get_or 0 (numbers_of d m) (numbers_of c l) (omega (arith, n, o, count)) (λ k below. number_is d m js k ∙ same k ∙ sym (number_is c l is k))

-- one number is set
pub one_set : (c l d m : List ℕ) (page number : ℕ) → length d ≡ length c → IsTable c l → IsTable d m → page < length (numbers_of c l)
    → number_at d m page ≡ number → ((other : ℕ) → other ≢ page → number_at d m other ≡ number_at c l other) → numbers_of d m ≡ set (numbers_of c l) page number
one_set c l d m page number count is js there here others =
    let n = many c l in
    let o = many d m in
    let s = length-set (numbers_of c l) page number in
    ext_get_or 0 (numbers_of d m) (set (numbers_of c l) page number) (omega (arith, n, o, s, count)) (λ k below.
    number_is d m js k ∙ elim (cases_eq k page) [
      | inl e ↦ ap (number_at d m) e ∙ here ∙ sym (ap (slice_index (set (numbers_of c l) page number)) e ∙ get_or-set_same (numbers_of c l) page number 0 there)
      | inr other ↦ others k other ∙ sym (get_or-set_other (numbers_of c l) page k number 0 other ∙ number_is c l is k)
    ])

-- ==== Pages: what they have at an address.

-- ---- a map from a function

cond_same : (t : Bool) (o : Option ℕ) → o ≡ cond t o o
cond_same true o = refl
cond_same false o = refl

entry_get : (m : Bytes) (a : ℕ) (o : Option ℕ) (q : ℕ) → byte_at (with_entry m a o) q ≡ cond (q == a) (option_or o (byte_at m q)) (byte_at m q)
entry_get m a None q = cond_same (q == a) (byte_at m q)
entry_get m a (Some b) q = byte_at-insert m a b q

one_further : (n : ℕ) (f : ℕ → Option ℕ) (q : ℕ) (o : Option ℕ) → o ≡ cond (nat_lt q n) (f q) None → cond (q == n) (option_or (f n) o) o ≡ cond (nat_lt q (suc n)) (f q) None
one_further n f q o e = elim (q == n) as (λ t. (q == n) ≡ t → cond t (option_or (f n) o) o ≡ cond (nat_lt q (suc n)) (f q) None) [
  | true ↦ λ t.
      let same : q ≡ n = eqb-true q n t in
      let no : nat_lt q n ≡ false = grind arith in
      let yes : nat_lt q (suc n) ≡ true = grind arith in
      let none : o ≡ None = e ∙ ap (λ (b : Bool). cond b (f q) None) no in
      ap (option_or (f n)) none ∙ none_right (f n) ∙ ap f (sym same) ∙ ap (λ (b : Bool). cond b (f q) None) (sym yes)
  | false ↦ λ t.
      let other : q ≢ n = eqb-false q n t in
      let as_before : nat_lt q n ≡ nat_lt q (suc n) = grind arith in
      e ∙ ap (λ (b : Bool). cond b (f q) None) as_before
] refl

none_below_zero : (q : ℕ) (o : Option ℕ) → None ≡ cond (nat_lt q 0) o None
none_below_zero q o = elim (nat_lt q 0) as (λ t. nat_lt q 0 ≡ t → None ≡ cond t o None) [
  | true ↦ λ t. let h : q < 0 = grind arith in absurd (omega arith)
  | false ↦ λ t. refl
] refl

get_below : (n : ℕ) (f : ℕ → Option ℕ) (q : ℕ) → byte_at (values_below n f) q ≡ cond (nat_lt q n) (f q) None
unfolding values_below
get_below zero f q = get-empty nat_cmp q ∙ none_below_zero q (f q)
get_below (suc n) f q = entry_get (values_below n f) n (f n) q ∙ one_further n f q (byte_at (values_below n f) q) (get_below n f q)

pub get_values : (f : ℕ → Option ℕ) → ((q : ℕ) → 2 ^ 32 ≤ q → f q ≡ None) → (q : ℕ) → byte_at (values_of f) q ≡ f q
unfolding values_of
get_values f past q = get_below (2 ^ 32) f q ∙ elim (nat_lt q (2 ^ 32)) as (λ t. nat_lt q (2 ^ 32) ≡ t → cond t (f q) None ≡ f q) [
  | true ↦ λ t. refl
  | false ↦ λ t. let h : 2 ^ 32 ≤ q = grind arith in sym (past q h)
] refl

-- ---- look-ups

pub within : (xs : List ℕ) (k : ℕ) → slice_index xs k ≢ 0 → k < length xs
within xs k h = elim (cases_lt k (length xs)) [ inl lt ↦ lt | inr le ↦ absurd (h (get_or_past xs k 0 le)) ]

pub unmarked : (c : List ℕ) (p : ℕ) → slice_index c (p + 512) ≢ 1 → cell c p ≡ None
unmarked c p h = elim (slice_index c (p + 512) == 1) as (λ t. (slice_index c (p + 512) == 1) ≡ t → cond t (Some (slice_index c p)) None ≡ None) [
  | true ↦ λ t. absurd (h (eqb-true (slice_index c (p + 512)) 1 t))
  | false ↦ λ t. refl
] refl

pub is_marked : (c : List ℕ) (p : ℕ) → slice_index c (p + 512) ≡ 1 → cell c p ≡ Some (slice_index c p)
is_marked c p h = ap (λ (k : ℕ). cond (k == 1) (Some (slice_index c p)) None) h

pub marked : (c : List ℕ) (p : ℕ) → IsSome (cell c p) → slice_index c (p + 512) ≡ 1
marked c p h = elim (slice_index c (p + 512) == 1) as (λ t. (slice_index c (p + 512) == 1) ≡ t → IsSome (cond t (Some (slice_index c p)) None) → slice_index c (p + 512) ≡ 1) [
  | true ↦ λ t s. eqb-true (slice_index c (p + 512)) 1 t
  | false ↦ λ t s. absurd (cc)
] refl h

module _ (t c : List ℕ) (are : ArePages t c) where
  pub no_frame : (q : ℕ) → slice_index t (q / 512) ≡ 0 → cell_at t c q ≡ None
  no_frame q e =
      let k : frame_of t q + q % 512 + 512 ≡ 512 + q % 512 = omega (arith, e) in
      let small : q % 512 < 512 = omega arith in
      let z : slice_index c (frame_of t q + q % 512 + 512) ≡ 0 = ap (slice_index c) k ∙ are.none (q % 512) small in
      unmarked c (frame_of t q + q % 512) (λ o. let w : 0 ≡ 1 = sym z ∙ o in absurd (omega arith))

  pub past_table : (q : ℕ) → length t ≤ q / 512 → cell_at t c q ≡ None
  past_table q h = no_frame q (get_or_past t (q / 512) 0 h)

  past_all : (q : ℕ) → 2 ^ 32 ≤ q → cell_at t c q ≡ None
  past_all q h = let n : length t ≤ 2 ^ 23 = are.count in past_table q (omega arith)

  pub get_pages : (q : ℕ) → byte_at (values_of (cell_at t c)) q ≡ cell_at t c q
  get_pages q = get_values (cell_at t c) past_all q

  address_is : (a b : ℕ) → cell_at t c a ≡ Some b → a < 2 ^ 32
  address_is a b e = elim (cases_lt a (2 ^ 32)) [ inl lt ↦ lt | inr le ↦ (let n : cell_at t c a ≡ None = past_all a le in absurd (cc)) ]

  byte_is : (a b : ℕ) → cell_at t c a ≡ Some b → b < 256
  byte_is a b e =
      let p = frame_of t a + a % 512 in
      let f : Some (slice_index c p) ≡ Some b = sym (is_marked c p (marked c p (ap is_some e))) ∙ e in
      let g : slice_index c p ≡ b = cc in
      subst (λ (x : ℕ). x < 256) g (are.bytes p)

  pub memory_is : IsMemory (values_of (cell_at t c))
  memory_is = record {
    addresses = λ a b e. address_is a b (sym (get_pages a) ∙ e);
    bytes = λ a b e. byte_is a b (sym (get_pages a) ∙ e);
  }

  pub has_frame : (q : ℕ) → IsSome (cell_at t c q) → slice_index t (q / 512) ≢ 0
  has_frame q s e = let n : cell_at t c q ≡ None = no_frame q e in absurd (cc)

-- ---- a memory without any byte

pub none_anywhere : (t c : List ℕ) → t ≡ [] → c ≡ [] → values_of (cell_at t c) ≡ empty
none_anywhere t c e f = same_map nat_cmp_total nat_cmp-IsAntisymmetric _ _ (λ q. get_values (cell_at t c) (λ r h. nothing r) q ∙ nothing q ∙ sym (get-empty nat_cmp q))
  where
    nothing : (q : ℕ) → cell_at t c q ≡ None
    nothing q = unmarked c (frame_of t q + q % 512) (λ o. let z : slice_index c (frame_of t q + q % 512 + 512) ≡ 0 = ap (λ (l : List ℕ). slice_index l (frame_of t q + q % 512 + 512)) f in let w : 0 ≡ 1 = sym z ∙ o in absurd (omega arith))

-- ---- what was read

pub read_is : (xs : List ℕ) (k r : ℕ) → k < length xs → r ≡ get_or xs k r → slice_index xs k ≡ r
read_is xs k r h e = get_or_default xs k 0 r h ∙ sym e

module _ (t c : List ℕ) (are : ArePages t c) (at f : ℕ) (is : f ≡ frame_of t at) (room : f + 1024 ≤ length c) where
  here : f + at % 512 ≡ frame_of t at + at % 512
  here = omega (arith, is)

  pub byte_here : (m r : ℕ) → m ≡ get_or c (f + at % 512 + 512) m → r ≡ get_or c (f + at % 512) r → m ≡ 1 → Some r ≡ byte_at (values_of (cell_at t c)) at
  byte_here m r e g one =
      let small : at % 512 < 512 = omega arith in
      let mark : slice_index c (f + at % 512 + 512) ≡ 1 = read_is c (f + at % 512 + 512) m (omega arith) e ∙ one in
      let byte : slice_index c (f + at % 512) ≡ r = read_is c (f + at % 512) r (omega arith) g in
      sym (get_pages t c are at ∙ ap (cell c) (sym here) ∙ is_marked c (f + at % 512) mark ∙ ap Some byte)

  pub none_here : (m : ℕ) → m ≡ get_or c (f + at % 512 + 512) m → m ≢ 1 → None ≡ byte_at (values_of (cell_at t c)) at
  none_here m e other =
      let small : at % 512 < 512 = omega arith in
      let mark : slice_index c (f + at % 512 + 512) ≡ m = read_is c (f + at % 512 + 512) m (omega arith) e in
      sym (get_pages t c are at ∙ ap (cell c) (sym here) ∙ unmarked c (f + at % 512) (λ o. other (sym mark ∙ o)))

pub small_byte : (t c : List ℕ) → ArePages t c → (k x : ℕ) → slice_index c k ≡ x → x < 256
small_byte t c are k x e = subst (λ (y : ℕ). y < 256) e (are.bytes k)

-- ---- options

pub some_if : (o : Option ℕ) (x : Option ℕ) → (o ≡ None → x ≡ None) → IsSome x → IsSome o
some_if None x h s = let n : x ≡ None = h refl in absurd (cc)
some_if (Some b) x h s = refl

pub same_values : (t c t0 c0 : List ℕ) → ArePages t c → ArePages t0 c0 → ((q : ℕ) → cell_at t c q ≡ cell_at t0 c0 q) → values_of (cell_at t c) ≡ values_of (cell_at t0 c0)
same_values t c t0 c0 are are0 same = same_map nat_cmp_total nat_cmp-IsAntisymmetric _ _ (λ q. get_pages t c are q ∙ same q ∙ sym (get_pages t0 c0 are0 q))

-- no pages at all
pub no_pages : (t c : List ℕ) → t ≡ [] → c ≡ [] → ArePages t c
no_pages t c e f =
    let n : length t ≡ 0 = ap (λ (l : List ℕ). length l) e in
    let m : length c ≡ 0 = ap (λ (l : List ℕ). length l) f in
    let z : (l : List ℕ) (k : ℕ) → l ≡ [] → slice_index l k ≡ 0 = λ l k g. ap (λ (x : List ℕ). slice_index x k) g in
    record {
      count = omega arith;
      whole = ap (λ (x : ℕ). x % 1024) m;
      frames = λ p h. absurd (omega (arith, h, n));
      none = λ k h. z c (512 + k) f;
      kept = λ k h. z c (1536 + k) f;
      zeros = λ k h. z c (2048 + k) f;
      marks = λ k h some. absurd (omega (arith, some, m));
      apart = λ p r g h. let w = z t p e in absurd (omega (arith, h, w));
      bytes = λ k. let y = z c k f in omega (arith, y);
    }
