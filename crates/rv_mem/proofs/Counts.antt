-- How many frames, or leaves, room is kept for, where numbers are set.
use Rattle.rv_mem.proofs.Prelude.{◌≡◌, ◌≢◌, ℕ, zero, suc, ◌+◌, ◌-◌, ◌<◌, ◌≤◌, ◌⊎◌, inl, inr, length, List, [], ◌∷◌, refl, sym, ap, ◌∙◌, arith, set, slice_index, get_or-set_other, get_or-set_same, Puts}
use Rattle.rv_mem.specs.private.Frames.{kept_for, kept_in}
use Rattle.std.proofs.Math.ListN.{length-set}
use Rattle.std.proofs.lemmas.Bool.{cases_lt}
use Rattle.rv_mem.proofs.Paging.{within}

pub kept_own : (n : ℕ) → 2 < n → kept_for n ≡ 0
kept_own zero h = refl
kept_own (suc zero) h = absurd (omega arith)
kept_own (suc (suc zero)) h = absurd (omega arith)
kept_own (suc (suc (suc n))) h = refl

pub kept_shared : (n : ℕ) → n ≢ 0 → n ≤ 2 → kept_for n ≡ 1
kept_shared zero some few = absurd (some refl)
kept_shared (suc zero) some few = refl
kept_shared (suc (suc zero)) some few = refl
kept_shared (suc (suc (suc n))) some few = absurd (omega arith)

-- one number is set
pub kept_set : (t : List ℕ) (p n : ℕ) → p < length t → kept_in (set t p n) + kept_for (slice_index t p) ≡ kept_in t + kept_for n
kept_set [] p n h = absurd (omega arith)
kept_set (x ∷ t) zero n h = omega arith
kept_set (x ∷ t) (suc p) n h = let more = kept_set t p n (omega arith) in omega (arith, more)

pub kept_none : (t : List ℕ) → ((k : ℕ) → kept_for (slice_index t k) ≡ 0) → kept_in t ≡ 0
kept_none [] z = refl
kept_none (x ∷ t) z =
    let first : kept_for x ≡ 0 = z 0 in
    let more = kept_none t (λ k. z (suc k)) in
    omega (arith, first, more)

kept_alike : (t u : List ℕ) → ((k : ℕ) → kept_for (slice_index t k) ≡ kept_for (slice_index u k)) → kept_in t ≡ kept_in u
kept_alike [] u e = sym (kept_none u (λ k. sym (e k)))
kept_alike (x ∷ t) [] e = kept_none (x ∷ t) (λ k. e k)
kept_alike (x ∷ t) (y ∷ u) e =
    let first : kept_for x ≡ kept_for y = e 0 in
    let more = kept_alike t u (λ k. e (suc k)) in
    omega (arith, first, more)

pub kept_same : (t u : List ℕ) → ((k : ℕ) → slice_index t k ≡ slice_index u k) → kept_in t ≡ kept_in u
kept_same t u e = kept_alike t u (λ k. ap kept_for (e k))

-- n numbers that keep no room are made such as keep it
kept_run : (t u : List ℕ) (p n : ℕ) → length u ≡ length t → p + n ≤ length t → ((k : ℕ) → p ≤ k → k < p + n → kept_for (slice_index t k) ≡ 0)
    → ((k : ℕ) → p ≤ k → k < p + n → kept_for (slice_index u k) ≡ 1) → ((k : ℕ) → k < p → slice_index u k ≡ slice_index t k)
    → ((k : ℕ) → p + n ≤ k → slice_index u k ≡ slice_index t k) → kept_in u ≡ kept_in t + n
kept_run [] [] p n size room none one below past = omega (arith, room)
kept_run [] (y ∷ u) p n size room none one below past = absurd (omega (arith, size))
kept_run (x ∷ t) [] p n size room none one below past = absurd (omega (arith, size))
kept_run (x ∷ t) (y ∷ u) zero zero size room none one below past =
    let here : kept_for y ≡ kept_for x = ap kept_for (past 0 (omega arith)) in
    let more = kept_run t u zero zero (omega (arith, size)) (omega arith) (λ k h l. absurd (omega (arith, l))) (λ k h l. absurd (omega (arith, l))) (λ k h. absurd (omega (arith, h))) (λ k h. past (suc k) (omega arith)) in
    omega (arith, here, more)
kept_run (x ∷ t) (y ∷ u) zero (suc n) size room none one below past =
    let old : kept_for x ≡ 0 = none 0 (omega arith) (omega arith) in
    let new : kept_for y ≡ 1 = one 0 (omega arith) (omega arith) in
    let more = kept_run t u zero n (omega (arith, size)) (omega (arith, room)) (λ k h l. none (suc k) (omega arith) (omega (arith, l))) (λ k h l. one (suc k) (omega arith) (omega (arith, l))) (λ k h. absurd (omega (arith, h))) (λ k h. past (suc k) (omega (arith, h))) in
    omega (arith, old, new, more)
kept_run (x ∷ t) (y ∷ u) (suc p) n size room none one below past =
    let here : kept_for y ≡ kept_for x = ap kept_for (below 0 (omega arith)) in
    let more = kept_run t u p n (omega (arith, size)) (omega (arith, room)) (λ k h l. none (suc k) (omega (arith, h)) (omega (arith, l))) (λ k h l. one (suc k) (omega (arith, h)) (omega (arith, l))) (λ k h. below (suc k) (omega (arith, h))) (λ k h. past (suc k) (omega (arith, h))) in
    omega (arith, here, more)

-- what is set is at its places, and elsewhere what was there
module _ (t u : List ℕ) (p n number : ℕ) (puts : Puts t u p n (λ j. number)) where
  pub put_here : (k : ℕ) → p ≤ k → k < p + n → slice_index u k ≡ number
  put_here k h l = let z : k ≡ p + (k - p) = omega (arith, h) in ap (slice_index u) z ∙ puts.inside (k - p) (omega (arith, h, l))

  pub either : (k : ℕ) → ((slice_index u k ≡ number) ⊎ (slice_index u k ≡ slice_index t k))
  either k = elim (cases_lt k p) [
    | inl h ↦ inr (puts.below k h)
    | inr h ↦ elim (cases_lt k (p + n)) [ inl l ↦ inl (put_here k h l) | inr l ↦ inr (puts.past k l) ]
  ]

pub kept_first : (t u : List ℕ) (p n : ℕ) → p + n ≤ length t → ((j : ℕ) → j < n → slice_index t (p + j) ≡ 0) → Puts t u p n (λ j. 1) → kept_in u ≡ kept_in t + n
kept_first t u p n room none puts = kept_run t u p n puts.size room old (λ k h l. ap kept_for (put_here t u p n 1 puts k h l)) puts.below puts.past
  where
    old : (k : ℕ) → p ≤ k → k < p + n → kept_for (slice_index t k) ≡ 0
    old k h l = let z : k ≡ p + (k - p) = omega (arith, h) in ap (λ (x : ℕ). kept_for (slice_index t x)) z ∙ ap kept_for (none (k - p) (omega (arith, h, l)))

-- n numbers that keep room are made such as keep it, too
pub kept_cleared : (t u : List ℕ) (p n : ℕ) → ((j : ℕ) → j < n → kept_for (slice_index t (p + j)) ≡ 1) → Puts t u p n (λ j. 2) → kept_in u ≡ kept_in t
kept_cleared t u p n one puts = kept_alike u t (λ k. elim (cases_lt k p) [
  | inl h ↦ ap kept_for (puts.below k h)
  | inr h ↦ elim (cases_lt k (p + n)) [
    | inl l ↦
        let z : k ≡ p + (k - p) = omega (arith, h) in
        ap kept_for (put_here t u p n 2 puts k h l) ∙ sym (ap (λ (x : ℕ). kept_for (slice_index t x)) z ∙ one (k - p) (omega (arith, h, l)))
    | inr l ↦ ap kept_for (puts.past k l)
  ]
])

-- where one number is set
pub set_puts : (t : List ℕ) (page number : ℕ) → page < length t → Puts t (set t page number) page 1 (λ j. number)
set_puts t page number room = record {
  size = length-set t page number;
  inside = λ j h. let z : page + j ≡ page = omega (arith, h) in ap (slice_index (set t page number)) z ∙ get_or-set_same t page number 0 room;
  below = λ j h. get_or-set_other t page j number 0 (λ e. absurd (omega (arith, h, e)));
  past = λ j h. get_or-set_other t page j number 0 (λ e. absurd (omega (arith, h, e)));
}

-- a page with a number is in the table
pub number_there : (t : List ℕ) (page : ℕ) → slice_index t page ≢ 0 → page < length t
number_there = within

-- the number that is set, and the others
pub set_is : (t : List ℕ) (page number p : ℕ) → page < length t → p ≡ page → slice_index (set t page number) p ≡ number
set_is t page number p room e = ap (slice_index (set t page number)) e ∙ get_or-set_same t page number 0 room

-- where a page keeps room, it is that for one frame at least
pub counts_one : (t : List ℕ) (page : ℕ) → page < length t → kept_for (slice_index t page) ≤ kept_in t
counts_one [] page h = absurd (omega arith)
counts_one (x ∷ t) zero h = omega arith
counts_one (x ∷ t) (suc page) h = let more = counts_one t page (omega arith) in omega (arith, more)

pub keeps_one : (t : List ℕ) (page : ℕ) → slice_index t page ≢ 0 → slice_index t page ≤ 2 → 1 ≤ kept_in t
keeps_one t page some few =
    let all = counts_one t page (number_there t page some) in
    let one = kept_shared (slice_index t page) some few in
    omega (arith, all, one)

-- it is taken by a frame of its own
pub kept_taken : (t : List ℕ) (page number : ℕ) → slice_index t page ≢ 0 → slice_index t page ≤ 2 → 2 < number → kept_in (set t page number) + 1 ≡ kept_in t
kept_taken t page number some few own =
    let s = kept_set t page number (number_there t page some) in
    let a = kept_shared (slice_index t page) some few in
    let b = kept_own number own in
    omega (arith, s, a, b)

-- what is there stays so where others get a number
pub keeps_put : (t u : List ℕ) (p n number : ℕ) → Puts t u p n (λ j. number) → number ≢ 0 → (k : ℕ) → slice_index t k ≢ 0 → slice_index u k ≢ 0
keeps_put t u p n number puts some k there = elim (either t u p n number puts k) [ inl e ↦ (λ z. some (sym e ∙ z)) | inr e ↦ (λ z. there (sym e ∙ z)) ]
