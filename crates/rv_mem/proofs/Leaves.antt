-- The page table in two levels: the leaves that chunks share, and those of their own.
use Rattle.rv_mem.proofs.Prelude.{◌≡◌, ◌≢◌, ℕ, ◌+◌, ◌*◌, ◌/◌, ◌%◌, ◌<◌, ◌≤◌, ◌^◌, inl, inr, length, List, sym, ap, ◌∙◌, arith, set, slice_index, get_or-set_other, Puts}
use Rattle.rv_mem.specs.private.Frames.{kept_for, kept_in, number_at, numbers_of, IsTable, HasLeafRoom}
use Rattle.std.proofs.Math.ListN.{length-set}
use Rattle.std.proofs.lemmas.Bool.{cases_eq, cases_lt}
use Rattle.std.proofs.lemmas.List.{get_or_past}
use Rattle.rv_mem.proofs.Paging.{many, number_is, within}
use Rattle.rv_mem.proofs.Counts.{kept_own, kept_shared, kept_set, kept_none, kept_first, kept_cleared, counts_one, either, put_here, set_is}

-- where there are leaves, there are those that are shared
three_leaves : (c l : List ℕ) → IsTable c l → 0 < length l → 384 ≤ length l
three_leaves c l is some =
    let m : slice_index l 383 ≡ 2 = is.shared 383 (omega arith) some in
    let w = within l 383 (λ e. let x : 0 ≡ 2 = sym e ∙ m in absurd (omega arith)) in
    omega (arith, w)

leaves_there : (c l : List ℕ) → IsTable c l → (chunk : ℕ) → chunk < length c → 0 < length l
leaves_there c l is chunk there = let w = is.within chunk there in omega (arith, w)

-- the number of a page whose chunk shares a leaf
shared_number : (c l : List ℕ) → IsTable c l → 0 < length l → (page v : ℕ) → slice_index c (page / 128) ≡ v → v ≤ 2 → number_at c l page ≡ v
shared_number c l is some page v e few =
    let place : slice_index c (page / 128) * 128 + page % 128 ≡ v * 128 + page % 128 = omega (arith, e) in
    let quotient : (v * 128 + page % 128) / 128 ≡ v = omega arith in
    ap (slice_index l) place ∙ is.shared (v * 128 + page % 128) (omega (arith, few)) some ∙ quotient

-- ---- the first leaves

no_chunks : (c l : List ℕ) → IsTable c l → length l ≡ 0 → length c ≡ 0
no_chunks c l is none = elim (cases_lt 0 (length c)) [
  | inl h ↦ (let w = is.within 0 h in absurd (omega (arith, w, none)))
  | inr h ↦ omega (arith, h)
]

pub first_room : (c l : List ℕ) (size capacity size' capacity' kept : ℕ) → IsTable c l → length l ≡ 0 → HasLeafRoom c size capacity kept → size' ≤ capacity' → size' ≤ 384 → HasLeafRoom c size' capacity' kept
first_room c l size capacity size' capacity' kept is none room fits few =
    let empty = no_chunks c l is none in
    let no : kept_in c ≡ 0 = kept_none c (λ k. ap kept_for (get_or_past c k 0 (omega (arith, empty)))) in
    let count = room.counted in
    record {
      counted = count;
      room = omega (arith, no, count, fits);
      most = omega (arith, no, count, few);
    }

module _ (c l m : List ℕ) (is : IsTable c l) (none : length l ≡ 0) (size : length m ≡ 384) (shared : (k : ℕ) → k < 384 → slice_index m k ≡ k / 128) where
  pub first_leaves : IsTable c m
  first_leaves =
      let empty = no_chunks c l is none in
      record {
        count = is.count;
        whole = ap (λ (x : ℕ). x % 128) size;
        within = λ chunk h. absurd (omega (arith, empty, h));
        none = λ k h. shared k (omega (arith, h)) ∙ (let z : k / 128 ≡ 0 = omega (arith, h) in z);
        shared = λ k h some. shared k h;
        apart = is.apart;
      }

  pub first_numbers : (page : ℕ) → number_at c m page ≡ number_at c l page
  first_numbers page =
      let empty = no_chunks c l is none in
      let z : slice_index c (page / 128) ≡ 0 = get_or_past c (page / 128) 0 (omega (arith, empty)) in
      let place : slice_index c (page / 128) * 128 + page % 128 ≡ page % 128 = omega (arith, z) in
      let quotient : (page % 128) / 128 ≡ 0 = omega arith in
      ap (slice_index m) place ∙ shared (page % 128) (omega arith) ∙ quotient
      ∙ sym (ap (slice_index l) place ∙ is.none (page % 128) (omega arith))

-- ---- a chunk gets a leaf of its own

pub keeps_leaf : (c : List ℕ) (size capacity kept chunk : ℕ) → HasLeafRoom c size capacity kept → chunk < length c → kept_for (slice_index c chunk) ≤ kept
keeps_leaf c size capacity kept chunk room there =
    let all = counts_one c chunk there in
    let count = room.counted in
    omega (arith, all, count)

module _ (c l l' m : List ℕ) (is : IsTable c l) (chunk number shared : ℕ) (there : chunk < length c) (read : slice_index c chunk ≡ shared) (few : shared ≤ 2)
    (same : l' ≡ l) (numbered : number ≡ length l / 128) (longer : length m ≡ length l' + 128) (before : (k : ℕ) → k < length l' → slice_index m k ≡ slice_index l' k)
    (value : (k : ℕ) → length l' ≤ k → k < length l' + 128 → slice_index m k ≡ shared) where
  three : 384 ≤ length l
  three = three_leaves c l is (leaves_there c l is chunk there)

  long : length l' ≡ length l
  long = ap (λ (x : List ℕ). length x) same

  lies : number * 128 ≡ length l
  lies = let w = is.whole in omega (arith, w, numbered)

  pub own_leaf : 2 < number
  own_leaf = let t = three in let e = lies in omega (arith, t, e)

  as_before : (k : ℕ) → k < length l → slice_index m k ≡ slice_index l k
  as_before k h = let e = long in before k (omega (arith, h, e)) ∙ ap (λ (x : List ℕ). slice_index x k) same

  below : (o : ℕ) → slice_index c o < number
  below o = elim (cases_lt o (length c)) [
    | inl h ↦ (let w = is.within o h in let e = lies in omega (arith, w, e))
    | inr h ↦ (let z : slice_index c o ≡ 0 = get_or_past c o 0 h in let a = own_leaf in omega (arith, z, a))
  ]

  pub leaf_made : IsTable (set c chunk number) m
  leaf_made = record {
    count = (let s = length-set c chunk number in let b = is.count in omega (arith, s, b));
    whole = (let w = is.whole in let e = long in omega (arith, w, e, longer));
    within = λ o h. elim (cases_eq o chunk) [
      | inl e ↦ (let v = set_is c chunk number o there e in let a = lies in let b = long in omega (arith, v, a, b, longer))
      | inr other ↦
          let v = get_or-set_other c chunk o number 0 other in
          let s = length-set c chunk number in
          let w = is.within o (omega (arith, s, h)) in
          let b = long in
          omega (arith, v, w, b, longer)
    ];
    none = λ k h. as_before k (let t = three in omega (arith, t, h)) ∙ is.none k h;
    shared = λ k h some. as_before k (let t = three in omega (arith, t, h)) ∙ is.shared k h (let t = three in omega (arith, t));
    apart = λ p o alike own. elim (cases_eq p chunk) [
      | inl e ↦ elim (cases_eq o chunk) [
        | inl f ↦ e ∙ sym f
        | inr further ↦
            let v = set_is c chunk number p there e in
            let w = get_or-set_other c chunk o number 0 further in
            let b = below o in
            absurd (omega (arith, v, w, b, alike))
      ]
      | inr other ↦ elim (cases_eq o chunk) [
        | inl f ↦
            let v = set_is c chunk number o there f in
            let w = get_or-set_other c chunk p number 0 other in
            let b = below p in
            absurd (omega (arith, v, w, b, alike))
        | inr further ↦
            let v = get_or-set_other c chunk p number 0 other in
            let w = get_or-set_other c chunk o number 0 further in
            is.apart p o (sym v ∙ alike ∙ w) (omega (arith, v, own))
      ]
    ];
  }

  pub leaf_same : (page : ℕ) → number_at (set c chunk number) m page ≡ number_at c l page
  leaf_same page = elim (cases_eq (page / 128) chunk) [
    | inl e ↦
        let v = set_is c chunk number (page / 128) there e in
        let a = lies in
        let b = long in
        let place : slice_index (set c chunk number) (page / 128) * 128 + page % 128 ≡ length l' + page % 128 = omega (arith, v, a, b) in
        ap (slice_index m) place ∙ value (length l' + page % 128) (omega arith) (omega arith)
        ∙ sym (shared_number c l is (leaves_there c l is chunk there) page shared (ap (slice_index c) e ∙ read) few)
    | inr other ↦
        let v = get_or-set_other c chunk (page / 128) number 0 other in
        let b = below (page / 128) in
        let a = lies in
        ap (λ (x : ℕ). slice_index m (x * 128 + page % 128)) v ∙ as_before (slice_index c (page / 128) * 128 + page % 128) (omega (arith, a, b))
  ]

  pub leaf_room : (size capacity kept rest size' capacity' : ℕ) → HasLeafRoom c size capacity kept → rest + kept_for shared ≡ kept → size' + 128 * rest ≤ capacity' → size' + 128 * rest ≤ 2 ^ 39
      → HasLeafRoom (set c chunk number) size' capacity' rest
  leaf_room size capacity kept rest size' capacity' room taken fits most =
      let s = kept_set c chunk number there in
      let own = kept_own number own_leaf in
      let old : kept_for (slice_index c chunk) ≡ kept_for shared = ap kept_for read in
      let count = room.counted in
      record {
        counted = omega (arith, s, own, old, count, taken);
        room = fits;
        most = most;
      }

-- ---- chunks get a leaf that is shared

module _ (c d l m : List ℕ) (is : IsTable c l) (same : m ≡ l) (first n v : ℕ) (room : first < length c) (few : v ≤ 2) (puts : Puts c d first n (λ j. v)) where
  chunks_table' : IsTable d l
  chunks_table' = record {
    count = (let s = puts.size in let b = is.count in omega (arith, s, b));
    whole = is.whole;
    within = λ k h. elim (either c d first n v puts k) [
      | inl e ↦ (let t = three_leaves c l is (leaves_there c l is first room) in omega (arith, e, t, few))
      | inr e ↦ (let s = puts.size in let w = is.within k (omega (arith, s, h)) in omega (arith, e, w))
    ];
    none = is.none;
    shared = is.shared;
    apart = λ k o alike own. elim (either c d first n v puts k) [
      | inl e ↦ absurd (omega (arith, e, own, few))
      | inr e ↦ elim (either c d first n v puts o) [
        | inl f ↦ absurd (omega (arith, f, own, alike, few))
        | inr f ↦ is.apart k o (sym e ∙ alike ∙ f) (omega (arith, e, own))
      ]
    ];
  }

  pub chunks_table : IsTable d m
  chunks_table = rw same chunks_table'

  numbers_put' : Puts (numbers_of c l) (numbers_of d l) (first * 128) (n * 128) (λ j. v)
  numbers_put' = record {
    size = (let a = many c l in let b = many d l in let s = puts.size in omega (arith, a, b, s));
    inside = λ j h. number_is d l chunks_table' (first * 128 + j)
        ∙ shared_number d l chunks_table' (leaves_there c l is first room) (first * 128 + j) v (put_here c d first n v puts ((first * 128 + j) / 128) (omega arith) (omega (arith, h))) few;
    below = λ j h. number_is d l chunks_table' j ∙ ap (λ (x : ℕ). slice_index l (x * 128 + j % 128)) (puts.below (j / 128) (omega (arith, h))) ∙ sym (number_is c l is j);
    past = λ j h. number_is d l chunks_table' j ∙ ap (λ (x : ℕ). slice_index l (x * 128 + j % 128)) (puts.past (j / 128) (omega (arith, h))) ∙ sym (number_is c l is j);
  }

  pub numbers_put : Puts (numbers_of c l) (numbers_of d m) (first * 128) (n * 128) (λ j. v)
  numbers_put = rw same numbers_put'

-- what pages of such chunks have
pub numbers_were : (c l : List ℕ) → IsTable c l → (first n v : ℕ) → first < length c → v ≤ 2 → ((k : ℕ) → k < n → slice_index c (first + k) ≡ v)
    → (k : ℕ) → k < n * 128 → slice_index (numbers_of c l) (first * 128 + k) ≡ v
numbers_were c l is first n v room few each k h =
    let z : (first * 128 + k) / 128 ≡ first + k / 128 = omega arith in
    number_is c l is (first * 128 + k)
    ∙ shared_number c l is (leaves_there c l is first room) (first * 128 + k) v (ap (slice_index c) z ∙ each (k / 128) (omega (arith, h))) few

pub kept_were : (c l : List ℕ) → IsTable c l → (first n : ℕ) → first < length c → ((k : ℕ) → k < n → slice_index c (first + k) ≢ 0) → ((k : ℕ) → k < n → slice_index c (first + k) ≤ 2)
    → (k : ℕ) → k < n * 128 → kept_for (slice_index (numbers_of c l) (first * 128 + k)) ≡ 1
kept_were c l is first n room some few k h =
    let z : (first * 128 + k) / 128 ≡ first + k / 128 = omega arith in
    let below : k / 128 < n = omega (arith, h) in
    ap kept_for (number_is c l is (first * 128 + k) ∙ shared_number c l is (leaves_there c l is first room) (first * 128 + k) (slice_index c (first + k / 128)) (ap (slice_index c) z) (few (k / 128) below))
    ∙ kept_shared (slice_index c (first + k / 128)) (some (k / 128) below) (few (k / 128) below)

pub numbers_past : (c l : List ℕ) → (first k : ℕ) → length c ≤ first → slice_index (numbers_of c l) (first * 128 + k) ≡ 0
numbers_past c l first k past = let n = many c l in get_or_past (numbers_of c l) (first * 128 + k) 0 (omega (arith, n, past))

-- the room for leaves
pub more_room : (c d : List ℕ) (size capacity kept first n size' capacity' : ℕ) → HasLeafRoom c size capacity kept → first + n ≤ length c → ((k : ℕ) → k < n → slice_index c (first + k) ≡ 0)
    → Puts c d first n (λ j. 1) → size' + 128 * (kept + n) ≤ capacity' → size' + 128 * (kept + n) ≤ 2 ^ 39 → HasLeafRoom d size' capacity' (kept + n)
more_room c d size capacity kept first n size' capacity' room there none puts fits most = record {
  counted = kept_first c d first n there none puts ∙ ap (λ (x : ℕ). x + n) room.counted;
  room = fits;
  most = most;
}

pub same_room : (c d : List ℕ) (size capacity kept first n : ℕ) → HasLeafRoom c size capacity kept → ((k : ℕ) → k < n → slice_index c (first + k) ≢ 0)
    → ((k : ℕ) → k < n → slice_index c (first + k) ≤ 2) → Puts c d first n (λ j. 2) → HasLeafRoom d size capacity kept
same_room c d size capacity kept first n room some few puts = record {
  counted = kept_cleared c d first n (λ k h. kept_shared (slice_index c (first + k)) (some k h) (few k h)) puts ∙ room.counted;
  room = room.room;
  most = room.most;
}

pub longer_room : (c d : List ℕ) (size capacity kept : ℕ) → HasLeafRoom c size capacity kept → kept_in d ≡ kept_in c → HasLeafRoom d size capacity kept
longer_room c d size capacity kept room same = record {
  counted = same ∙ room.counted;
  room = room.room;
  most = room.most;
}
