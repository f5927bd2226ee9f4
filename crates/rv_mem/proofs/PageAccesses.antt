-- Pages: what their bytes are as numbers, and what a write makes of them.
use Rattle.rv_mem.proofs.Prelude.{◌^◌, ◌≡◌, ◌≢◌, ℕ, zero, suc, ◌+◌, ◌*◌, ◌/◌, ◌%◌, ◌<◌, ◌≤◌, inl, inr, get_or, length, List, [], ◌∷◌, Option, Some, None, refl, sym, ap, ◌∙◌, arith, slice_index, option_map, Bytes, byte_at, bytes_at, number_of, address_after, addresses, loaded, frame_of, cell, cell_at, ArePages, values_of, ◌==◌, true, false, cond, set, IsSome, subst, get_or-set_other, get_or-set_same, nat_cmp_total, insert, same_map, nat_cmp-IsAntisymmetric, with_two, with_four, nat_lt, ◌-◌, MarksRun, run_of}
use Rattle.std.proofs.lemmas.Bool.{cases_eq, cases_lt, eq-eqb, ne_eqb}
use Rattle.rv_mem.proofs.Accesses.{held_each, read_held, byte_at-insert}
use Rattle.rv_mem.proofs.Paging.{is_marked, get_pages, read_is, unmarked, small_byte, within, marked, some_if}
use Rattle.std.proofs.Math.ListN.{length-set}
use Rattle.rv_mem.proofs.Lookups.{stays}
use Rattle.rv_mem.proofs.PageRuns.{are_run, run_written}
use Rattle.rv_mem.proofs.Kept.{has_own}

-- ==== Pages: the number that stands at some addresses of one page.

-- where a byte is missing, nothing is loaded
pub missing_byte : (m : Bytes) (at n k : ℕ) → k < n → byte_at m (address_after at k) ≡ None → loaded m at n ≡ None
missing_byte m at n k below none = by (bytes_at m (addresses at n)) refl
  where
    by : (o : Option (List ℕ)) → bytes_at m (addresses at n) ≡ o → option_map number_of o ≡ None
    by None e = refl
    by (Some bs) e = let there = held_each m at n bs k e below in absurd (cc)

pub no_first : (t c : List ℕ) → ArePages t c → (at n : ℕ) → at < 2 ^ 32 → 0 < n → cell_at t c at ≡ None → loaded (values_of (cell_at t c)) at n ≡ None
no_first t c are at n fits some e =
    let first : address_after at 0 ≡ at = omega arith in
    missing_byte (values_of (cell_at t c)) at n 0 some (ap (byte_at (values_of (cell_at t c))) first ∙ get_pages t c are at ∙ e)

-- ---- marks, as a number

-- a mark for each cell of the list, as a number
abbrev pub ones : List ℕ → ℕ
ones [] = 0
ones (m ∷ ms) = 1 + 256 * ones ms

all_ones : (ms : List ℕ) → ((k : ℕ) → k < length ms → slice_index ms k < 256) → number_of ms ≡ ones ms → (k : ℕ) → k < length ms → slice_index ms k ≡ 1
all_ones [] small e k below = absurd (omega arith)
all_ones (m ∷ ms) small e zero below = let s = small 0 (omega arith) in omega arith
all_ones (m ∷ ms) small e (suc k) below = let s = small 0 (omega arith) in all_ones ms (λ j h. small (suc j) (omega arith)) (omega arith) k (omega arith)

some_other : (ms : List ℕ) → number_of ms ≢ ones ms → (k : ℕ) × (k < length ms) × (slice_index ms k ≢ 1)
some_other [] other = absurd (other refl)
some_other (m ∷ ms) other =
    elim (cases_eq m 1) [
      | inl one ↦ (let more = some_other ms (λ e. other (omega arith)) in (suc more.0, omega (arith, more.1), more.2))
      | inr not_one ↦ (0, omega arith, not_one)
    ]

-- ---- in one page

module _ (t c : List ℕ) (are : ArePages t c) (at f : ℕ) (is : f ≡ frame_of t at) (n : ℕ) (fits : at < 2 ^ 32) (one_page : at % 512 + n ≤ 512) where
  pub byte_after : (k : ℕ) → k < n → byte_at (values_of (cell_at t c)) (address_after at k) ≡ cell c (f + at % 512 + k)
  byte_after k small =
      let a : address_after at k ≡ at + k = omega arith in
      let p : (at + k) / 512 ≡ at / 512 = omega arith in
      let o : (at + k) % 512 ≡ at % 512 + k = omega arith in
      let same : frame_of t (at + k) ≡ f = ap (λ (x : ℕ). slice_index t x * 1024) p ∙ sym is in
      let place : frame_of t (at + k) + (at + k) % 512 ≡ f + at % 512 + k = omega (arith, same, o) in
      get_pages t c are (address_after at k) ∙ ap (cell_at t c) a ∙ ap (cell c) place

  module _ (ms : List ℕ) (count : length ms ≡ n) (marks : (k : ℕ) → k < n → slice_index c (f + at % 512 + 512 + k) ≡ slice_index ms k) where
    mark_after : (k : ℕ) → k < n → slice_index c (f + at % 512 + k + 512) ≡ slice_index ms k
    mark_after k below = let z : f + at % 512 + k + 512 ≡ f + at % 512 + 512 + k = omega arith in ap (slice_index c) z ∙ marks k below

    pub all_there : (bs : List ℕ) → length bs ≡ n → ((k : ℕ) → k < n → slice_index c (f + at % 512 + k) ≡ slice_index bs k) → number_of ms ≡ ones ms → loaded (values_of (cell_at t c)) at n ≡ Some (number_of bs)
    all_there bs many bytes e =
        let one = all_ones ms (λ k h. small_byte t c are _ _ (mark_after k (omega (arith, count)))) e in
        ap (option_map number_of) ((read_held (values_of (cell_at t c)) at n bs).1 (record {
          count = many;
          each = λ k h. byte_after k h ∙ is_marked c (f + at % 512 + k) (mark_after k h ∙ one k (omega (arith, count))) ∙ ap Some (bytes k h);
        }))

    pub one_missing : number_of ms ≢ ones ms → loaded (values_of (cell_at t c)) at n ≡ None
    one_missing other =
        let bad = some_other ms other in
        let below : bad.0 < n = omega (arith, count, bad.1) in
        missing_byte (values_of (cell_at t c)) at n bad.0 below (byte_after bad.0 below ∙ unmarked c (f + at % 512 + bad.0) (λ e. bad.2 (sym (mark_after bad.0 below) ∙ e)))

-- ---- what was read

pub two_read : (c : List ℕ) (p x0 x1 : ℕ) → p + 2 ≤ length c → x0 ≡ get_or c p x0 → x1 ≡ get_or c (p + 1) x1 → (k : ℕ) → k < 2 → slice_index c (p + k) ≡ slice_index (x0 ∷ x1 ∷ []) k
two_read c p x0 x1 room e0 e1 zero below = let z : p + 0 ≡ p = omega arith in ap (slice_index c) z ∙ read_is c p x0 (omega arith) e0
two_read c p x0 x1 room e0 e1 (suc zero) below = read_is c (p + 1) x1 (omega arith) e1
two_read c p x0 x1 room e0 e1 (suc (suc k)) below = absurd (omega arith)

pub four_read : (c : List ℕ) (p x0 x1 x2 x3 : ℕ) → p + 4 ≤ length c → x0 ≡ get_or c p x0 → x1 ≡ get_or c (p + 1) x1 → x2 ≡ get_or c (p + 2) x2 → x3 ≡ get_or c (p + 3) x3
    → (k : ℕ) → k < 4 → slice_index c (p + k) ≡ slice_index (x0 ∷ x1 ∷ x2 ∷ x3 ∷ []) k
four_read c p x0 x1 x2 x3 room e0 e1 e2 e3 zero below = let z : p + 0 ≡ p = omega arith in ap (slice_index c) z ∙ read_is c p x0 (omega arith) e0
four_read c p x0 x1 x2 x3 room e0 e1 e2 e3 (suc zero) below = read_is c (p + 1) x1 (omega arith) e1
four_read c p x0 x1 x2 x3 room e0 e1 e2 e3 (suc (suc zero)) below = read_is c (p + 2) x2 (omega arith) e2
four_read c p x0 x1 x2 x3 room e0 e1 e2 e3 (suc (suc (suc zero))) below = read_is c (p + 3) x3 (omega arith) e3
four_read c p x0 x1 x2 x3 room e0 e1 e2 e3 (suc (suc (suc (suc k)))) below = absurd (omega arith)

-- ==== Pages: what the write of a byte or a word makes of them.

-- ---- bytes that are there are written

-- a byte is a run of one
one_run : (d : List ℕ) (p b : ℕ) → b < 256 → slice_index d (p + 512) ≡ 1 → MarksRun d (set d p b) p 1 (b ∷ []) 0
one_run d p b small mark = record {
  size = simp length-set;
  written = written;
  small = fits;
  marks = marks;
  below = λ j h. get_or-set_other d p j b 0 (λ e. omega arith);
  between = λ j h l. get_or-set_other d p j b 0 (λ e. omega arith);
  past = λ j h. get_or-set_other d p j b 0 (λ e. omega arith);
}
  where
    near : p < length d
    near = let far : p + 512 < length d = within d (p + 512) (λ e. let w : 0 ≡ 1 = sym e ∙ mark in absurd (omega arith)) in omega arith

    written : (j : ℕ) → j < 1 → slice_index (set d p b) (p + j) ≡ slice_index (b ∷ []) (0 + j)
    written zero h = let z : p + 0 ≡ p = omega arith in ap (slice_index (set d p b)) z ∙ get_or-set_same d p b 0 near
    written (suc j) h = absurd (omega arith)

    fits : (j : ℕ) → j < 1 → slice_index (b ∷ []) (0 + j) < 256
    fits zero h = small
    fits (suc j) h = absurd (omega arith)

    marks : (j : ℕ) → j < 1 → slice_index (set d p b) (p + 512 + j) ≡ 1
    marks zero h = let z : p + 512 + 0 ≡ p + 512 = omega arith in ap (slice_index (set d p b)) z ∙ get_or-set_other d p (p + 512) b 0 (λ e. omega arith) ∙ mark
    marks (suc j) h = absurd (omega arith)

one_at : (at b q : ℕ) (o : Option ℕ) → run_of at 1 (b ∷ []) 0 q o ≡ cond (q == at) (Some b) o
one_at at b q o = elim (cases_lt q at) [
  | inl low ↦ (let is : nat_lt q at ≡ true = grind arith in rw (is, ne_eqb q at (λ e. omega arith)) refl)
  | inr from ↦
      let is : nat_lt q at ≡ false = grind arith in
      elim (cases_eq q at) [
        | inl e ↦ (let less : nat_lt q (at + 1) ≡ true = grind arith in let z : 0 + (q - at) ≡ 0 = omega arith in rw (is, less, z, eq-eqb q at e) refl)
        | inr other ↦ (let past : nat_lt q (at + 1) ≡ false = grind arith in rw (is, past, ne_eqb q at other) refl)
      ]
]

pub put_there : (t d : List ℕ) → ArePages t d → (q p b : ℕ) → p ≡ frame_of t q + q % 512 → b < 256 → slice_index t (q / 512) ≢ 2 → IsSome (byte_at (values_of (cell_at t d)) q)
    → ArePages t (set d p b) × (values_of (cell_at t (set d p b)) ≡ insert (values_of (cell_at t d)) q b)
put_there t d are q p b e small own there =
    let here : IsSome (cell_at t d q) = subst (λ (o : Option ℕ). IsSome o) (get_pages t d are q) there in
    let frame = has_own t d are q here own in
    let mark : slice_index d (p + 512) ≡ 1 = ap (λ (x : ℕ). slice_index d (x + 512)) e ∙ marked d (frame_of t q + q % 512) here in
    let run : MarksRun d (set d p b) (frame_of t q + q % 512) 1 (b ∷ []) 0 = subst (λ (x : ℕ). MarksRun d (set d p b) x 1 (b ∷ []) 0) e (one_run d p b small mark) in
    let all = are_run t d (set d p b) are q 1 (b ∷ []) 0 frame (omega arith) run in (
      all,
      same_map nat_cmp_total nat_cmp-IsAntisymmetric _ _ (λ r.
          get_pages t (set d p b) all r ∙ run_written t d (set d p b) are q 1 (b ∷ []) 0 frame (omega arith) run r ∙ one_at q b r (cell_at t d r)
          ∙ ap (cond (r == q) (Some b)) (sym (get_pages t d are r)) ∙ sym (byte_at-insert (values_of (cell_at t d)) q b r)),
    )

-- another byte is there still
still : (m n : Bytes) (a b q : ℕ) → n ≡ insert m a b → IsSome (byte_at m q) → IsSome (byte_at n q)
still m n a b q e there = subst (λ (x : Bytes). IsSome (byte_at x q)) (sym e) (stays m a b q there)

pub halfword_put : (t d first new items l : List ℕ) → ArePages t d → (at u value : ℕ) → u ≡ frame_of t at → at < 2 ^ 32 → at % 512 ≤ 510 → slice_index t (at / 512) ≢ 2 → IsSome (loaded (values_of (cell_at t d)) at 2)
    → l ≡ value % 256 ∷ value / 256 % 256 ∷ [] → first ≡ d → new ≡ with_two first (u + at % 512) l → items ≡ new
    → ArePages t items × (values_of (cell_at t items) ≡ insert (insert (values_of (cell_at t d)) (address_after at 0) (get_or l 0 0)) (address_after at 1) (get_or l 1 0))
halfword_put t d first new items l are at u value is fits one_page own there e first_is new_is items_is =
    let m = values_of (cell_at t d) in
    let p = u + at % 512 in
    let there' : (k : ℕ) → k < 2 → IsSome (byte_at m (address_after at k)) = λ k h. some_if _ _ (missing_byte m at 2 k h) there in
    let place : (k x : ℕ) → k < 2 → x ≡ p + k → x ≡ frame_of t (address_after at k) + address_after at k % 512 = λ k x h f. place_after k x h f in
    let small : (k : ℕ) → k < 2 → get_or l k 0 < 256 = λ k h. below_256 k h in
    let own' : (k : ℕ) → k < 2 → slice_index t (address_after at k / 512) ≢ 2 = λ k h is2. own (let page : address_after at k / 512 ≡ at / 512 = omega arith in ap (slice_index t) (sym page) ∙ is2) in
    let x0 = put_there t d are (address_after at 0) p (get_or l 0 0) (place 0 p (omega arith) (omega arith)) (small 0 (omega arith)) (own' 0 (omega arith)) (there' 0 (omega arith)) in
    let x1 = put_there t _ x0.0 (address_after at 1) (p + 1) (get_or l 1 0) (place 1 (p + 1) (omega arith) refl) (small 1 (omega arith)) (own' 1 (omega arith)) (still _ _ _ _ _ x0.1 (there' 1 (omega arith))) in
    let same : items ≡ with_two d p l = items_is ∙ new_is ∙ ap (λ (c : List ℕ). with_two c p l) first_is in (
      subst (ArePages t) (sym same) x1.0,
      ap (λ (c : List ℕ). values_of (cell_at t c)) same
          ∙ x1.1 ∙ ap (λ (m : Bytes). insert m (address_after at 1) (get_or l 1 0)) x0.1,
    )
  where
    place_after : (k x : ℕ) → k < 2 → x ≡ u + at % 512 + k → x ≡ frame_of t (address_after at k) + address_after at k % 512
    place_after k x small f =
        let page : address_after at k / 512 ≡ at / 512 = omega arith in
        let rest : address_after at k % 512 ≡ at % 512 + k = omega arith in
        let same : frame_of t (address_after at k) ≡ u = ap (λ (x : ℕ). slice_index t x * 1024) page ∙ sym is in
        omega (arith, same, rest, f)

    below_256 : (k : ℕ) → k < 2 → get_or l k 0 < 256
    below_256 k below = rw e (each k below)
      where
        each : (k : ℕ) → k < 2 → get_or (value % 256 ∷ value / 256 % 256 ∷ []) k 0 < 256
        each zero h = omega arith
        each (suc zero) h = omega arith
        each (suc (suc k)) h = absurd (omega arith)

pub word_put : (t d first new items l : List ℕ) → ArePages t d → (at u value : ℕ) → u ≡ frame_of t at → at < 2 ^ 32 → at % 512 ≤ 508 → slice_index t (at / 512) ≢ 2 → IsSome (loaded (values_of (cell_at t d)) at 4)
    → l ≡ value % 256 ∷ value / 256 % 256 ∷ value / 65536 % 256 ∷ value / 16777216 % 256 ∷ [] → first ≡ d → new ≡ with_four first (u + at % 512) l → items ≡ new
    → ArePages t items × (values_of (cell_at t items) ≡ insert (insert (insert (insert (values_of (cell_at t d)) (address_after at 0) (get_or l 0 0)) (address_after at 1) (get_or l 1 0)) (address_after at 2) (get_or l 2 0)) (address_after at 3) (get_or l 3 0))
word_put t d first new items l are at u value is fits one_page own there e first_is new_is items_is =
    let m = values_of (cell_at t d) in
    let p = u + at % 512 in
    let there' : (k : ℕ) → k < 4 → IsSome (byte_at m (address_after at k)) = λ k h. some_if _ _ (missing_byte m at 4 k h) there in
    let place : (k x : ℕ) → k < 4 → x ≡ p + k → x ≡ frame_of t (address_after at k) + address_after at k % 512 = λ k x h f. place_after k x h f in
    let small : (k : ℕ) → k < 4 → get_or l k 0 < 256 = λ k h. below_256 k h in
    let own' : (k : ℕ) → k < 4 → slice_index t (address_after at k / 512) ≢ 2 = λ k h is2. own (let page : address_after at k / 512 ≡ at / 512 = omega arith in ap (slice_index t) (sym page) ∙ is2) in
    let x0 = put_there t d are (address_after at 0) p (get_or l 0 0) (place 0 p (omega arith) (omega arith)) (small 0 (omega arith)) (own' 0 (omega arith)) (there' 0 (omega arith)) in
    let x1 = put_there t _ x0.0 (address_after at 1) (p + 1) (get_or l 1 0) (place 1 (p + 1) (omega arith) refl) (small 1 (omega arith)) (own' 1 (omega arith)) (still _ _ _ _ _ x0.1 (there' 1 (omega arith))) in
    let x2 = put_there t _ x1.0 (address_after at 2) (p + 2) (get_or l 2 0) (place 2 (p + 2) (omega arith) refl) (small 2 (omega arith)) (own' 2 (omega arith)) (still _ _ _ _ _ x1.1 (still _ _ _ _ _ x0.1 (there' 2 (omega arith)))) in
    let x3 = put_there t _ x2.0 (address_after at 3) (p + 3) (get_or l 3 0) (place 3 (p + 3) (omega arith) refl) (small 3 (omega arith)) (own' 3 (omega arith)) (still _ _ _ _ _ x2.1 (still _ _ _ _ _ x1.1 (still _ _ _ _ _ x0.1 (there' 3 (omega arith))))) in
    let same : items ≡ with_four d p l = items_is ∙ new_is ∙ ap (λ (c : List ℕ). with_four c p l) first_is in (
      subst (ArePages t) (sym same) x3.0,
      ap (λ (c : List ℕ). values_of (cell_at t c)) same
          ∙ x3.1 ∙ ap (λ (m : Bytes). insert m (address_after at 3) (get_or l 3 0)) (x2.1 ∙ ap (λ (m : Bytes). insert m (address_after at 2) (get_or l 2 0)) (x1.1 ∙ ap (λ (m : Bytes). insert m (address_after at 1) (get_or l 1 0)) x0.1)),
    )
  where
    place_after : (k x : ℕ) → k < 4 → x ≡ u + at % 512 + k → x ≡ frame_of t (address_after at k) + address_after at k % 512
    place_after k x small f =
        let page : address_after at k / 512 ≡ at / 512 = omega arith in
        let rest : address_after at k % 512 ≡ at % 512 + k = omega arith in
        let same : frame_of t (address_after at k) ≡ u = ap (λ (x : ℕ). slice_index t x * 1024) page ∙ sym is in
        omega (arith, same, rest, f)

    below_256 : (k : ℕ) → k < 4 → get_or l k 0 < 256
    below_256 k below = rw e (each k below)
      where
        each : (k : ℕ) → k < 4 → get_or (value % 256 ∷ value / 256 % 256 ∷ value / 65536 % 256 ∷ value / 16777216 % 256 ∷ []) k 0 < 256
        each zero h = omega arith
        each (suc zero) h = omega arith
        each (suc (suc zero)) h = omega arith
        each (suc (suc (suc zero))) h = omega arith
        each (suc (suc (suc (suc k)))) h = absurd (omega arith)
