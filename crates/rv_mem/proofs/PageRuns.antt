-- Pages: runs of bytes, and their marks.
use Rattle.rv_mem.proofs.Prelude.{◌^◌, ◌≡◌, ℕ, ◌+◌, ◌-◌, ◌*◌, ◌/◌, ◌%◌, ◌<◌, ◌≤◌, ◌==◌, ◌⊎◌, inl, inr, ⊎_elim, true, false, cond, zero, suc, nat_lt, length, List, [], ◌∷◌, ◌++◌, Option, Some, None, refl, sym, ap, ◌∙◌, subst, arith, slice_index, replicate, option_or, nat_cmp_total, get, same_map, nat_cmp-IsAntisymmetric, Bytes, byte_at, address_after, addresses, run_of, Puts, MarksRun, frame_of, cell, cell_at, ArePages, values_of, slice_get, length-replicate, add-zero, length-append, with_bytes, added, byte_in}
use Rattle.std.proofs.lemmas.Bool.{cases_eq, cases_lt}
use Rattle.std.proofs.lemmas.Option.{slice_get-get_or, slice_get_past}
use Rattle.rv_mem.proofs.Lookups.{get_with}
use Rattle.rv_mem.proofs.Paging.{is_marked, no_frame, get_pages}

-- ---- a run of bytes

-- what is at q where k bytes of a list, and zeros past its end, stand from base on
abbrev pub run_at : ℕ → ℕ → List ℕ → ℕ → Option ℕ → Option ℕ
run_at base k f q o = cond (nat_lt q base) o (cond (nat_lt q (base + k)) (Some (slice_index f (q - base))) o)

zeros_after : (f : List ℕ) (n k : ℕ) → slice_index (f ++ replicate n 0) k ≡ slice_index f k
zeros_after [] zero k = refl
zeros_after [] (suc n) zero = refl
zeros_after [] (suc n) (suc k) = zeros_after [] n k
zeros_after (x ∷ f) n zero = refl
zeros_after (x ∷ f) n (suc k) = zeros_after f n k

run_is : (base size : ℕ) (f bs : List ℕ) (q : ℕ) (o : Option ℕ) → length bs ≡ size → ((k : ℕ) → slice_index bs k ≡ slice_index f k) → run_at base size f q o ≡ option_or (byte_in base bs q) o
run_is base size f bs q o many same = elim (nat_lt q base) as (λ r. nat_lt q base ≡ r → cond r o (cond (nat_lt q (base + size)) (Some (slice_index f (q - base))) o) ≡ option_or (cond r None (slice_get bs (q - base))) o) [
  | true ↦ λ r. refl
  | false ↦ λ r. elim (nat_lt q (base + size)) as (λ s. nat_lt q (base + size) ≡ s → cond s (Some (slice_index f (q - base))) o ≡ option_or (slice_get bs (q - base)) o) [
    | true ↦ λ s.
        let above : base ≤ q = grind arith in
        let below : q < base + size = grind arith in
        let in_bs : q - base < length bs = omega arith in
        ap Some (sym (same (q - base))) ∙ ap (λ (x : Option ℕ). option_or x o) (sym (slice_get-get_or bs (q - base) 0 in_bs))
    | false ↦ λ s.
        let above : base ≤ q = grind arith in
        let past : base + size ≤ q = grind arith in
        let out : length bs ≤ q - base = omega arith in
        ap (λ (x : Option ℕ). option_or x o) (sym (slice_get_past bs (q - base) out))
  ] refl
] refl

pub filled : (base size : ℕ) (f : List ℕ) (m m0 : Bytes) → length f ≤ size → base + size ≤ 2 ^ 32 → ((q : ℕ) → byte_at m q ≡ run_at base size f q (byte_at m0 q)) → m ≡ added m0 base size f
filled base size f m m0 few fits run =
    let bs : List ℕ = f ++ replicate (size - length f) 0 in
    let many : length bs ≡ size = rw (length-append, length-replicate) (omega arith) in
    same_map nat_cmp_total nat_cmp-IsAntisymmetric _ _ (λ q.
    run q ∙ run_is base size f bs q (byte_at m0 q) many (zeros_after f (size - length f))
    ∙ ap (λ (x : ℕ). option_or (byte_in x bs q) (byte_at m0 q)) (sym (add-zero base))
    ∙ sym (get_with m0 base 0 bs q (omega (arith, many)))
    ∙ ap (λ (n : ℕ). get (with_bytes m0 (addresses base n) bs) q) many)

-- ---- runs in one page

pub none_in_page : (t c : List ℕ) → ArePages t c → (at n : ℕ) → at % 512 + n ≤ 512 → slice_index t (at / 512) ≡ 0 → (j : ℕ) → j < n → byte_at (values_of (cell_at t c)) (at + j) ≡ None
none_in_page t c are at n room e j below =
    let p : (at + j) / 512 ≡ at / 512 = omega arith in
    get_pages t c are (at + j) ∙ no_frame t c are (at + j) (ap (slice_index t) p ∙ e)

-- bytes, zeros after them, and their marks
pub marks_run : (c d e g : List ℕ) (p n given : ℕ) (f ys : List ℕ) (k : ℕ) → n ≤ 512 → given ≤ n
    → Puts c d p given (slice_index ys) → Puts d e (p + given) (n - given) (λ j. 0) → Puts e g (p + 512) n (λ j. 1)
    → ((j : ℕ) → j < given → slice_index ys j ≡ slice_index f (k + j)) → ((j : ℕ) → slice_index ys j < 256) → ((j : ℕ) → given ≤ j → j < n → slice_index f (k + j) ≡ 0)
    → MarksRun c g p n f k
marks_run c d e g p n given f ys k page some first zeros marks is small none = record {
  size = marks.size ∙ zeros.size ∙ first.size;
  written = λ j h. marks.below (p + j) (omega (arith, h, page)) ∙ elim (cases_lt j given) [
    | inl less ↦ zeros.below (p + j) (omega (arith, less)) ∙ first.inside j less ∙ is j less
    | inr more ↦
        let z : p + j ≡ p + given + (j - given) = omega (arith, more) in
        ap (slice_index e) z ∙ zeros.inside (j - given) (omega (arith, more, h)) ∙ sym (none j more h)
  ];
  small = λ j h. elim (cases_lt j given) [
    | inl less ↦ subst (λ (x : ℕ). x < 256) (is j less) (small j)
    | inr more ↦ let z : slice_index f (k + j) ≡ 0 = none j more h in omega (arith, z)
  ];
  marks = marks.inside;
  below = λ j h. marks.below j (omega (arith, h)) ∙ zeros.below j (omega (arith, h)) ∙ first.below j h;
  between = λ j h l. marks.below j l ∙ zeros.past j (omega (arith, h, some)) ∙ first.past j (omega (arith, h, some));
  past = λ j h. marks.past j h ∙ zeros.past j (omega (arith, h, some)) ∙ first.past j (omega (arith, h, some));
}

-- what such cells are in a table in which they lie in one page
module _ (t c d : List ℕ) (are : ArePages t c) (at n : ℕ) (f : List ℕ) (k : ℕ) (frame : 2 < slice_index t (at / 512)) (room : at % 512 + n ≤ 512)
    (run : MarksRun c d (frame_of t at + at % 512) n f k) where
  frame_above : 3072 ≤ frame_of t at
  frame_above = omega (arith, frame)

  small_run : (x : ℕ) → slice_index d x < 256
  small_run x = elim (cases_lt x p) [
    | inl h ↦ as_before x (run.below x h)
    | inr h ↦ elim (cases_lt x (p + n)) [
      | inl l ↦
          let z : x ≡ p + (x - p) = omega (arith, h) in
          let less : x - p < n = omega (arith, h, l) in
          subst (λ (y : ℕ). y < 256) (sym (ap (slice_index d) z ∙ run.written (x - p) less)) (run.small (x - p) less)
      | inr l ↦ elim (cases_lt x (p + 512)) [
        | inl m ↦ as_before x (run.between x l m)
        | inr m ↦ elim (cases_lt x (p + 512 + n)) [
          | inl o ↦
              let z : x ≡ p + 512 + (x - (p + 512)) = omega (arith, m) in
              let one : slice_index d x ≡ 1 = ap (slice_index d) z ∙ run.marks (x - (p + 512)) (omega (arith, m, o)) in
              omega (arith, one)
          | inr o ↦ as_before x (run.past x o)
        ]
      ]
    ]
  ]
    where
      p : ℕ
      p = frame_of t at + at % 512

      as_before : (x : ℕ) → slice_index d x ≡ slice_index c x → slice_index d x < 256
      as_before x e = subst (λ (y : ℕ). y < 256) (sym e) (are.bytes x)

  pub are_run : ArePages t d
  are_run = record {
    count = are.count;
    whole = ap (λ (x : ℕ). x % 1024) run.size ∙ are.whole;
    frames = λ p h. subst (λ (x : ℕ). (slice_index t p + 1) * 1024 ≤ x) (sym run.size) (are.frames p h);
    none = λ j h. run.below (512 + j) (let a = frame_above in omega (arith, a, h)) ∙ are.none j h;
    kept = λ j h. run.below (1536 + j) (let a = frame_above in omega (arith, a, h)) ∙ are.kept j h;
    zeros = λ j h. run.below (2048 + j) (let a = frame_above in omega (arith, a, h)) ∙ are.zeros j h;
    marks = λ j h some. run.below (2560 + j) (let a = frame_above in omega (arith, a, h)) ∙ are.marks j h (let s = run.size in omega (arith, s, some));
    apart = are.apart;
    bytes = small_run;
  }

  -- in the run
  inside_run : (j : ℕ) → j < n → cell_at t d (at + j) ≡ Some (slice_index f (k + j))
  inside_run j h =
      let page : (at + j) / 512 ≡ at / 512 = omega (arith, h, room) in
      let rest : (at + j) % 512 ≡ at % 512 + j = omega (arith, h, room) in
      let same : frame_of t (at + j) ≡ frame_of t at = ap (λ (x : ℕ). slice_index t x * 1024) page in
      let place : frame_of t (at + j) + (at + j) % 512 ≡ frame_of t at + at % 512 + j = omega (arith, same, rest) in
      let mark : frame_of t at + at % 512 + j + 512 ≡ frame_of t at + at % 512 + 512 + j = omega arith in
      ap (cell d) place ∙ is_marked d (frame_of t at + at % 512 + j) (ap (slice_index d) mark ∙ run.marks j h) ∙ ap Some (run.written j h)

  -- elsewhere all stays
  other_place : (q : ℕ) → ((q < at) ⊎ (at + n ≤ q)) → cell_at t d q ≡ cell_at t c q
  other_place q out = elim (cases_eq (slice_index t (q / 512)) (slice_index t (at / 512))) [
    | inl s ↦
        let page : at / 512 ≡ q / 512 = are.apart (at / 512) (q / 512) (sym s) frame in
        ⊎_elim
        (λ (h : q < at). stays q (run.below (frame_of t q + q % 512) (omega (arith, h, page, s))) (run.between (frame_of t q + q % 512 + 512) (omega (arith, page, s, room)) (omega (arith, h, page, s))))
        (λ (h : at + n ≤ q). stays q (run.between (frame_of t q + q % 512) (omega (arith, h, page, s)) (omega (arith, page, s))) (run.past (frame_of t q + q % 512 + 512) (omega (arith, h, page, s))))
        out
    | inr other ↦ elim (cases_lt (slice_index t (q / 512)) (slice_index t (at / 512))) [
      | inl less ↦ stays q (run.below (frame_of t q + q % 512) (omega (arith, less))) (run.below (frame_of t q + q % 512 + 512) (omega (arith, less)))
      | inr above ↦
          let more : slice_index t (at / 512) < slice_index t (q / 512) = omega (arith, above, other) in
          stays q (run.past (frame_of t q + q % 512) (omega (arith, more, room))) (run.past (frame_of t q + q % 512 + 512) (omega (arith, more, room)))
    ]
  ]
    where
      stays : (q : ℕ) → slice_index d (frame_of t q + q % 512) ≡ slice_index c (frame_of t q + q % 512) → slice_index d (frame_of t q + q % 512 + 512) ≡ slice_index c (frame_of t q + q % 512 + 512) → cell_at t d q ≡ cell_at t c q
      stays q byte mark =
          let p = frame_of t q + q % 512 in
          ap (λ (x : ℕ). cond (x == 1) (Some (slice_index d p)) None) mark ∙ ap (λ (x : ℕ). cond (slice_index c (p + 512) == 1) (Some x) None) byte

  pub run_written : (q : ℕ) → cell_at t d q ≡ run_of at n f k q (cell_at t c q)
  run_written q = elim (nat_lt q at) as (λ r. nat_lt q at ≡ r → cell_at t d q ≡ cond r (cell_at t c q) (cond (nat_lt q (at + n)) (Some (slice_index f (k + (q - at)))) (cell_at t c q))) [
    | true ↦ λ r. let h : q < at = grind arith in other_place q (inl h)
    | false ↦ λ r. elim (nat_lt q (at + n)) as (λ s. nat_lt q (at + n) ≡ s → cell_at t d q ≡ cond s (Some (slice_index f (k + (q - at)))) (cell_at t c q)) [
      | true ↦ λ s.
          let h : at ≤ q = grind arith in
          let l : q < at + n = grind arith in
          let z : q ≡ at + (q - at) = omega (arith, h) in
          ap (cell_at t d) z ∙ inside_run (q - at) (omega (arith, h, l))
      | false ↦ λ s. let h : at + n ≤ q = grind arith in other_place q (inr h)
    ] refl
  ] refl

-- the frame was read, and the cells are those of a vector
pub run_put : (t d first new items : List ℕ) → ArePages t d → (at n : ℕ) (f : List ℕ) (k frame : ℕ) → 2 < slice_index t (at / 512) → frame ≡ slice_index t (at / 512) → at % 512 + n ≤ 512
    → first ≡ d → MarksRun first new (frame * 1024 + at % 512) n f k → items ≡ new
    → ArePages t items × ((q : ℕ) → byte_at (values_of (cell_at t items)) q ≡ run_of at n f k q (byte_at (values_of (cell_at t d)) q))
run_put t d first new items are at n f k frame some read room first_is marks items_is =
    let place : frame * 1024 + at % 512 ≡ frame_of t at + at % 512 = omega (arith, read) in
    let run : MarksRun d items (frame_of t at + at % 512) n f k = rw (items_is, ← place, ← first_is) marks in
    let all = are_run t d items are at n f k some room run in (
      all,
      λ q.
          get_pages t items all q ∙ run_written t d items are at n f k some room run q
          ∙ ap (λ (o : Option ℕ). run_of at n f k q o) (sym (get_pages t d are q)),
    )

-- a run in the round of all addresses
pub after_run : (base d n at j : ℕ) → at ≡ (base + d) % 2 ^ 32 → at + n ≤ 2 ^ 32 → j < n → address_after base (d + j) ≡ at + j
after_run base d n at j e room below = omega arith

pub none_further : (m : Bytes) (base d n at : ℕ) → at ≡ (base + d) % 2 ^ 32 → at + n ≤ 2 ^ 32 → ((j : ℕ) → j < d → byte_at m (address_after base j) ≡ None) → ((j : ℕ) → j < n → byte_at m (at + j) ≡ None)
    → (j : ℕ) → j < d + n → byte_at m (address_after base j) ≡ None
none_further m base d n at e room before more j below = elim (cases_lt j d) [
  | inl h ↦ before j h
  | inr above ↦
      let k : d + (j - d) ≡ j = omega arith in
      let small : j - d < n = omega arith in
      ap (λ (x : ℕ). byte_at m (address_after base x)) (sym k) ∙ ap (byte_at m) (after_run base d n at (j - d) e room small) ∙ more (j - d) small
]
