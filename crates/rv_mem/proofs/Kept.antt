-- Frames that pages share, and those of their own.
use Rattle.rv_mem.proofs.Prelude.{◌^◌, ◌≡◌, ◌≢◌, ℕ, ◌+◌, ◌-◌, ◌*◌, ◌/◌, ◌%◌, ◌<◌, ◌≤◌, ◌==◌, inl, inr, true, false, cond, length, List, [], ◌∷◌, Option, Some, None, IsSome, Result, Ok, Err, OnOk, refl, sym, ap, ◌∙◌, subst, arith, set, slice_index, nat_lt, get_or-set_other, byte_at, run_of, Puts, frame_of, cell, cell_at, ArePages, values_of}
use Rattle.std.specs.Result.{IsOk, OnErr}
use Rattle.rv_mem.specs.private.Frames.{GainsFrame, kept_for, kept_in}
use Rattle.std.proofs.Math.ListN.{length-set}
use Rattle.std.proofs.lemmas.Bool.{cases_eq, cases_lt}
use Rattle.std.proofs.lemmas.List.{get_or_past}
use Rattle.rv_mem.proofs.Counts.{kept_same, kept_first, kept_cleared, kept_taken, put_here, either, set_puts, set_is, number_there}
use Rattle.rv_mem.proofs.Paging.{is_marked, unmarked, no_frame, get_pages, same_values, within}

-- what holds of a value, where there is one
pub of_value : {A E : Type 0} (r : Result A E) (P : Type 0) → OnOk r P → IsOk r → P
of_value (Ok x) P p is = p
of_value (Err x) P p is = absurd (cc)

pub on_error : {A E : Type 0} (r : Result A E) (P : Type 0) → P → OnErr r P
on_error (Ok x) P p = tt
on_error (Err x) P p = p

-- ---- one frame more

gained_small : (c d : List ℕ) (mark : ℕ) → GainsFrame c d mark → mark < 256 → ((k : ℕ) → slice_index c k < 256) → (k : ℕ) → slice_index d k < 256
gained_small c d mark g low small k = elim (cases_lt k (length c)) [
  | inl h ↦ subst (λ (x : ℕ). x < 256) (sym (g.same k h)) (small k)
  | inr h ↦ elim (cases_lt k (length c + 512)) [
    | inl l ↦
        let z : k ≡ length c + (k - length c) = omega (arith, h) in
        let e : slice_index d k ≡ 0 = ap (slice_index d) z ∙ g.bytes (k - length c) (omega (arith, h, l)) in
        omega (arith, e)
    | inr l ↦ elim (cases_lt k (length c + 1024)) [
      | inl m ↦
          let z : k ≡ length c + 512 + (k - (length c + 512)) = omega (arith, l) in
          let e : slice_index d k ≡ mark = ap (slice_index d) z ∙ g.marks (k - (length c + 512)) (omega (arith, l, m)) in
          omega (arith, e, low)
      | inr m ↦
          let s = g.size in
          let e : slice_index d k ≡ 0 = get_or_past d k 0 (omega (arith, m, s)) in
          omega (arith, e)
    ]
  ]
]

-- no cell, so no page
pub no_cells : (t c : List ℕ) → ArePages t c → length c ≡ 0 → length t ≡ 0
no_cells t c are none = elim (cases_lt 0 (length t)) [
  | inl h ↦ (let f = are.frames 0 h in absurd (omega (arith, f, none)))
  | inr h ↦ omega (arith, h)
]

empty_keeps : (t : List ℕ) → length t ≡ 0 → kept_in t ≡ 0
empty_keeps [] e = refl
empty_keeps (x ∷ t) e = absurd (omega arith)

pub none_kept : (t c : List ℕ) → ArePages t c → length c ≡ 0 → kept_in t ≡ 0
none_kept t c are none = empty_keeps t (no_cells t c are none)

-- the first three frames
module _ (t c d e g : List ℕ) (are : ArePages t c) (none : length c ≡ 0) (first : GainsFrame c d 0) (second : GainsFrame d e 0) (third : GainsFrame e g 1) where
  pub first_frames : ArePages t g
  first_frames =
      let a = first.size in
      let b = second.size in
      let z = third.size in
      let no = no_cells t c are none in
      record {
        count = are.count;
        whole = (let n : length g ≡ 3072 = omega (arith, a, b, z, none) in ap (λ (x : ℕ). x % 1024) n);
        frames = λ p h. absurd (omega (arith, no, h));
        none = λ k h. third.same (512 + k) (omega (arith, a, b, none, h)) ∙ second.same (512 + k) (omega (arith, a, none, h))
            ∙ (let w : 512 + k ≡ length c + 512 + k = omega (arith, none) in ap (slice_index d) w ∙ first.marks k h);
        kept = λ k h. third.same (1536 + k) (omega (arith, a, b, none, h))
            ∙ (let w : 1536 + k ≡ length d + 512 + k = omega (arith, a, none) in ap (slice_index e) w ∙ second.marks k h);
        zeros = λ k h. (let w : 2048 + k ≡ length e + k = omega (arith, a, b, none) in ap (slice_index g) w ∙ third.bytes k h);
        marks = λ k h some. (let w : 2560 + k ≡ length e + 512 + k = omega (arith, a, b, none) in ap (slice_index g) w ∙ third.marks k h);
        apart = are.apart;
        bytes = gained_small e g 1 third (omega arith) (gained_small d e 0 second (omega arith) (gained_small c d 0 first (omega arith) are.bytes));
      }

  pub first_same : (q : ℕ) → cell_at t g q ≡ cell_at t c q
  first_same q =
      let no = no_cells t c are none in
      let zero_number : slice_index t (q / 512) ≡ 0 = get_or_past t (q / 512) 0 (omega (arith, no)) in
      no_frame t g first_frames q zero_number ∙ sym (no_frame t c are q zero_number)

-- and where a table has a page, there are cells
pub table_cells : (t c : List ℕ) → ArePages t c → (page : ℕ) → page < length t → 0 < length c
table_cells t c are page room = let f = are.frames page room in omega (arith, f)

-- ---- a page's number is set to one that pages share

-- where there are cells, there are those of the three frames
pub three_frames : (t c : List ℕ) → ArePages t c → 0 < length c → 3072 ≤ length c
three_frames t c are some =
    let m : slice_index c (2560 + 511) ≡ 1 = are.marks 511 (omega arith) some in
    let w = within c (2560 + 511) (λ e. let x : 0 ≡ 1 = sym e ∙ m in absurd (omega arith)) in
    omega (arith, w)

-- n pages from page p on get such a number
module _ (t u c : List ℕ) (are : ArePages t c) (p n number : ℕ) (some : 0 < length c) (shared : number ≤ 2) (puts : Puts t u p n (λ j. number)) where
  pub shared_put : ArePages u c
  shared_put = record {
    count = (let s = puts.size in let b = are.count in omega (arith, s, b));
    whole = are.whole;
    frames = λ k h. elim (either t u p n number puts k) [
      | inl e ↦ (let three = three_frames t c are some in omega (arith, e, three, shared))
      | inr e ↦ (let s = puts.size in let f = are.frames k (omega (arith, s, h)) in omega (arith, e, f))
    ];
    none = are.none;
    kept = are.kept;
    zeros = are.zeros;
    marks = are.marks;
    apart = λ k o same own. elim (either t u p n number puts k) [
      | inl e ↦ absurd (omega (arith, e, own, shared))
      | inr e ↦ elim (either t u p n number puts o) [
        | inl f ↦ absurd (omega (arith, f, own, same, shared))
        | inr f ↦ are.apart k o (sym e ∙ same ∙ f) (omega (arith, e, own))
      ]
    ];
    bytes = are.bytes;
  }

  -- other pages have what they had
  pub before_run : (q : ℕ) → q / 512 < p → cell_at u c q ≡ cell_at t c q
  before_run q h = ap (λ (x : ℕ). cell c (x * 1024 + q % 512)) (puts.below (q / 512) h)

  pub past_run : (q : ℕ) → p + n ≤ q / 512 → cell_at u c q ≡ cell_at t c q
  past_run q h = ap (λ (x : ℕ). cell c (x * 1024 + q % 512)) (puts.past (q / 512) h)

-- a page of number 1 has no byte
pub kept_cell : (t c : List ℕ) → ArePages t c → (q : ℕ) → slice_index t (q / 512) ≡ 1 → cell_at t c q ≡ None
kept_cell t c are q e =
    let k : frame_of t q + q % 512 + 512 ≡ 1536 + q % 512 = omega (arith, e) in
    let z : slice_index c (frame_of t q + q % 512 + 512) ≡ 0 = ap (slice_index c) k ∙ are.kept (q % 512) (omega arith) in
    unmarked c (frame_of t q + q % 512) (λ o. let w : 0 ≡ 1 = sym z ∙ o in absurd (omega arith))

-- one of number 2 has zeros
pub zero_cell : (t c : List ℕ) → ArePages t c → 0 < length c → (q : ℕ) → slice_index t (q / 512) ≡ 2 → cell_at t c q ≡ Some 0
zero_cell t c are some q e =
    let k : frame_of t q + q % 512 + 512 ≡ 2560 + q % 512 = omega (arith, e) in
    let j : frame_of t q + q % 512 ≡ 2048 + q % 512 = omega (arith, e) in
    let one : slice_index c (frame_of t q + q % 512 + 512) ≡ 1 = ap (slice_index c) k ∙ are.marks (q % 512) (omega arith) some in
    is_marked c (frame_of t q + q % 512) one ∙ ap Some (ap (slice_index c) j ∙ are.zeros (q % 512) (omega arith))

-- pages without a number get number 1
numbered_same : (t u c : List ℕ) → ArePages t c → (p n : ℕ) → 0 < length c → ((j : ℕ) → j < n → slice_index t (p + j) ≡ 0) → Puts t u p n (λ j. 1) → (q : ℕ) → cell_at u c q ≡ cell_at t c q
numbered_same t u c are p n some none puts q = elim (cases_lt (q / 512) p) [
  | inl h ↦ before_run t u c are p n 1 some (omega arith) puts q h
  | inr h ↦ elim (cases_lt (q / 512) (p + n)) [
    | inl l ↦
        let z : q / 512 ≡ p + (q / 512 - p) = omega (arith, h) in
        kept_cell u c (shared_put t u c are p n 1 some (omega arith) puts) q (put_here t u p n 1 puts (q / 512) h l)
        ∙ sym (no_frame t c are q (ap (slice_index t) z ∙ none (q / 512 - p) (omega (arith, h, l))))
    | inr l ↦ past_run t u c are p n 1 some (omega arith) puts q l
  ]
]

-- pages get zeros
zeros_shared : (t u c : List ℕ) → ArePages t c → (p n : ℕ) → 0 < length c → Puts t u p n (λ j. 2) → (q : ℕ)
    → cell_at u c q ≡ run_of (p * 512) (n * 512) [] 0 q (cell_at t c q)
zeros_shared t u c are p n some puts q = elim (nat_lt q (p * 512)) as (λ r. nat_lt q (p * 512) ≡ r → cell_at u c q ≡ cond r (cell_at t c q) (cond (nat_lt q (p * 512 + n * 512)) (Some (slice_index [] (0 + (q - p * 512)))) (cell_at t c q))) [
  | true ↦ λ r. let h : q < p * 512 = grind arith in before_run t u c are p n 2 some (omega arith) puts q (omega (arith, h))
  | false ↦ λ r. elim (nat_lt q (p * 512 + n * 512)) as (λ s. nat_lt q (p * 512 + n * 512) ≡ s → cell_at u c q ≡ cond s (Some (slice_index [] (0 + (q - p * 512)))) (cell_at t c q)) [
    | true ↦ λ s.
        let h : p * 512 ≤ q = grind arith in
        let l : q < p * 512 + n * 512 = grind arith in
        zero_cell u c (shared_put t u c are p n 2 some (omega arith) puts) some q (put_here t u p n 2 puts (q / 512) (omega (arith, h)) (omega (arith, l)))
    | false ↦ λ s. let h : p * 512 + n * 512 ≤ q = grind arith in past_run t u c are p n 2 some (omega arith) puts q (omega (arith, h))
  ] refl
] refl

-- zeros over a page of zeros
pub zeros_stay : (t c : List ℕ) → ArePages t c → (at n : ℕ) → at % 512 + n ≤ 512 → 0 < length c → slice_index t (at / 512) ≡ 2 → (q : ℕ)
    → cell_at t c q ≡ run_of at n [] 0 q (cell_at t c q)
zeros_stay t c are at n room some is q = elim (nat_lt q at) as (λ r. nat_lt q at ≡ r → cell_at t c q ≡ cond r (cell_at t c q) (cond (nat_lt q (at + n)) (Some (slice_index [] (0 + (q - at)))) (cell_at t c q))) [
  | true ↦ λ r. refl
  | false ↦ λ r. elim (nat_lt q (at + n)) as (λ s. nat_lt q (at + n) ≡ s → cell_at t c q ≡ cond s (Some (slice_index [] (0 + (q - at)))) (cell_at t c q)) [
    | true ↦ λ s.
        let h : at ≤ q = grind arith in
        let l : q < at + n = grind arith in
        let e : q / 512 ≡ at / 512 = omega (arith, h, l, room) in
        zero_cell t c are some q (ap (slice_index t) e ∙ is)
    | false ↦ λ s. refl
  ] refl
] refl

-- bytes that are zeros, as those past the end of a list are
pub zeros_run : (at n q : ℕ) (f : List ℕ) (k : ℕ) (o : Option ℕ) → ((j : ℕ) → j < n → slice_index f (k + j) ≡ 0) → run_of at n f k q o ≡ run_of at n [] 0 q o
zeros_run at n q f k o none = elim (nat_lt q at) as (λ r. nat_lt q at ≡ r → cond r o (cond (nat_lt q (at + n)) (Some (slice_index f (k + (q - at)))) o) ≡ cond r o (cond (nat_lt q (at + n)) (Some (slice_index [] (0 + (q - at)))) o)) [
  | true ↦ λ r. refl
  | false ↦ λ r. elim (nat_lt q (at + n)) as (λ s. nat_lt q (at + n) ≡ s → cond s (Some (slice_index f (k + (q - at)))) o ≡ cond s (Some (slice_index [] (0 + (q - at)))) o) [
    | true ↦ λ s.
        let h : at ≤ q = grind arith in
        let l : q < at + n = grind arith in
        ap Some (none (q - at) (omega (arith, h, l)))
    | false ↦ λ s. refl
  ] refl
] refl

pub run_none : (at q : ℕ) (f : List ℕ) (k : ℕ) (o : Option ℕ) → o ≡ run_of at 0 f k q o
run_none at q f k o = elim (nat_lt q at) as (λ r. nat_lt q at ≡ r → o ≡ cond r o (cond (nat_lt q (at + 0)) (Some (slice_index f (k + (q - at)))) o)) [
  | true ↦ λ r. refl
  | false ↦ λ r. elim (nat_lt q (at + 0)) as (λ s. nat_lt q (at + 0) ≡ s → o ≡ cond s (Some (slice_index f (k + (q - at)))) o) [
    | true ↦ λ s.
        let h : at ≤ q = grind arith in
        let l : q < at + 0 = grind arith in
        absurd (omega (arith, h, l))
    | false ↦ λ s. refl
  ] refl
] refl

-- ---- a page gets a frame of its own

module _ (t c d : List ℕ) (are : ArePages t c) (page number mark : ℕ) (some : slice_index t page ≢ 0) (few : slice_index t page ≤ 2)
    (marked_if : slice_index t page ≡ 2 → mark ≡ 1) (unmarked_if : slice_index t page ≢ 2 → mark ≡ 0) (is : number ≡ length c / 1024) (gains : GainsFrame c d mark) where
  room_of : page < length t
  room_of = within t page some

  cells_there : 0 < length c
  cells_there = let f = are.frames page room_of in omega (arith, f)

  three : 3072 ≤ length c
  three = three_frames t c are cells_there

  low : mark < 256
  low = elim (cases_eq (slice_index t page) 2) [
    | inl e ↦ (let m = marked_if e in omega (arith, m))
    | inr other ↦ (let m = unmarked_if other in omega (arith, m))
  ]

  pub number_above : 2 < number
  number_above = let h = three in omega (arith, h, is)

  lies : number * 1024 ≡ length c
  lies = let w = are.whole in omega (arith, w, is)

  pub own_set : ArePages (set t page number) d
  own_set = record {
    count = (let s = length-set t page number in let b = are.count in omega (arith, s, b));
    whole = (let s = gains.size in let w = are.whole in omega (arith, s, w));
    frames = frames_of;
    none = λ k h. gains.same (512 + k) (let r = three in omega (arith, r, h)) ∙ are.none k h;
    kept = λ k h. gains.same (1536 + k) (let r = three in omega (arith, r, h)) ∙ are.kept k h;
    zeros = λ k h. gains.same (2048 + k) (let r = three in omega (arith, r, h)) ∙ are.zeros k h;
    marks = λ k h _. gains.same (2560 + k) (let r = three in omega (arith, r, h)) ∙ are.marks k h cells_there;
    apart = apart_of;
    bytes = gained_small c d mark gains low are.bytes;
  }
    where
      below : (p : ℕ) → slice_index t p < number
      below p = elim (cases_lt p (length t)) [
        | inl h ↦ (let f = are.frames p h in let w = are.whole in omega (arith, f, is, w))
        | inr h ↦ (let z : slice_index t p ≡ 0 = get_or_past t p 0 h in let a = number_above in omega (arith, z, a))
      ]

      frames_of : (p : ℕ) → p < length (set t page number) → (slice_index (set t page number) p + 1) * 1024 ≤ length d
      frames_of p h = elim (cases_eq p page) [
        | inl e ↦ (let v = set_is t page number p room_of e in let l = lies in let s = gains.size in omega (arith, v, l, s))
        | inr other ↦
            let v = get_or-set_other t page p number 0 other in
            let s = length-set t page number in
            let f = are.frames p (omega (arith, s, h)) in
            let g = gains.size in
            omega (arith, v, f, g)
      ]

      apart_of : (p o : ℕ) → slice_index (set t page number) p ≡ slice_index (set t page number) o → 2 < slice_index (set t page number) p → p ≡ o
      apart_of p o same own = elim (cases_eq p page) [
        | inl e ↦ elim (cases_eq o page) [
          | inl f ↦ e ∙ sym f
          | inr further ↦
              let v = set_is t page number p room_of e in
              let w = get_or-set_other t page o number 0 further in
              let b = below o in
              absurd (omega (arith, v, w, b, same))
        ]
        | inr other ↦ elim (cases_eq o page) [
          | inl f ↦
              let v = set_is t page number o room_of f in
              let w = get_or-set_other t page p number 0 other in
              let b = below p in
              absurd (omega (arith, v, w, b, same))
          | inr further ↦
              let v = get_or-set_other t page p number 0 other in
              let w = get_or-set_other t page o number 0 further in
              are.apart p o (sym v ∙ same ∙ w) (omega (arith, v, own))
        ]
      ]

  -- its cells are those of the frame that it shared
  own_here : (q : ℕ) → q / 512 ≡ page → cell_at (set t page number) d q ≡ cell_at t c q
  own_here q e =
      let v = set_is t page number (q / 512) room_of e in
      let l = lies in
      let p : frame_of (set t page number) q + q % 512 ≡ length c + q % 512 = omega (arith, v, l) in
      let m : frame_of (set t page number) q + q % 512 + 512 ≡ length c + 512 + q % 512 = omega (arith, v, l) in
      let old : slice_index t (q / 512) ≡ slice_index t page = ap (slice_index t) e in
      let place = frame_of (set t page number) q + q % 512 in
      let mark_is : slice_index d (place + 512) ≡ mark = ap (slice_index d) m ∙ gains.marks (q % 512) (omega arith) in
      elim (cases_eq (slice_index t page) 2) [
        | inl two ↦
            is_marked d place (mark_is ∙ marked_if two) ∙ ap Some (ap (slice_index d) p ∙ gains.bytes (q % 512) (omega arith))
            ∙ sym (zero_cell t c are cells_there q (old ∙ two))
        | inr other ↦
            let one : slice_index t page ≡ 1 = omega (arith, other, some, few) in
            unmarked d place (λ o. let w : 0 ≡ 1 = sym (mark_is ∙ unmarked_if other) ∙ o in absurd (omega arith))
            ∙ sym (kept_cell t c are q (old ∙ one))
      ]

  own_elsewhere : (q : ℕ) → q / 512 ≢ page → cell_at (set t page number) d q ≡ cell_at t c q
  own_elsewhere q other =
      let v = get_or-set_other t page (q / 512) number 0 other in
      let p = frame_of t q + q % 512 in
      let h : p + 512 < length c = frame_within in
      ap (λ (x : ℕ). cell d (x * 1024 + q % 512)) v
      ∙ ap (λ (x : ℕ). cond (x == 1) (Some (slice_index d p)) None) (gains.same (p + 512) h)
      ∙ ap (λ (x : ℕ). cond (slice_index c (p + 512) == 1) (Some x) None) (gains.same p (omega (arith, h)))
    where
      frame_within : frame_of t q + q % 512 + 512 < length c
      frame_within = elim (cases_lt (q / 512) (length t)) [
        | inl h ↦ (let f = are.frames (q / 512) h in omega (arith, f))
        | inr h ↦ (let z : slice_index t (q / 512) ≡ 0 = get_or_past t (q / 512) 0 h in let r = three in omega (arith, z, r))
      ]

  pub own_same : (q : ℕ) → cell_at (set t page number) d q ≡ cell_at t c q
  own_same q = elim (cases_eq (q / 512) page) [ inl e ↦ own_here q e | inr other ↦ own_elsewhere q other ]

-- a page with a byte, and not of zeros alone, has its own frame
pub has_own : (t c : List ℕ) → ArePages t c → (q : ℕ) → IsSome (cell_at t c q) → slice_index t (q / 512) ≢ 2 → 2 < slice_index t (q / 512)
has_own t c are q there other = elim (cases_eq (slice_index t (q / 512)) 0) [
  | inl e ↦ (let n : cell_at t c q ≡ None = no_frame t c are q e in absurd (cc))
  | inr some ↦ elim (cases_eq (slice_index t (q / 512)) 1) [
    | inl e ↦ (let n : cell_at t c q ≡ None = kept_cell t c are q e in absurd (cc))
    | inr more ↦ omega (arith, other, some, more)
  ]
]

-- ==== What the calls make of pages.

pub shared_first : (t c b d e g : List ℕ) → ArePages t c → length c ≡ 0 → b ≡ c → GainsFrame b d 0 → GainsFrame d e 0 → GainsFrame e g 1
    → ArePages t g × (values_of (cell_at t g) ≡ values_of (cell_at t c))
shared_first t c b d e g are none same first second third =
    let first' : GainsFrame c d 0 = subst (λ (l : List ℕ). GainsFrame l d 0) same first in
    let all = first_frames t c d e g are none first' second third in
    (all, same_values t g t c all are (first_same t c d e g are none first' second third))

pub more_pages : (t u c : List ℕ) → ArePages t c → 0 < length c → ((k : ℕ) → slice_index u k ≡ slice_index t k) → length u ≤ 2 ^ 23
    → ArePages u c × (values_of (cell_at u c) ≡ values_of (cell_at t c)) × (kept_in u ≡ kept_in t)
more_pages t u c are some same few = (all, same_values u c t c all are (λ q. ap (λ (x : ℕ). cell c (x * 1024 + q % 512)) (same (q / 512))), kept_same u t same)
  where
    all : ArePages u c
    all = record {
      count = few;
      whole = are.whole;
      frames = λ p h. elim (cases_lt p (length t)) [
        | inl l ↦ (let f = are.frames p l in let e = same p in omega (arith, f, e))
        | inr past ↦ (let z : slice_index u p ≡ 0 = same p ∙ get_or_past t p 0 past in let r = three_frames t c are some in omega (arith, z, r))
      ];
      none = are.none;
      kept = are.kept;
      zeros = are.zeros;
      marks = are.marks;
      apart = λ p o e own. are.apart p o (sym (same p) ∙ e ∙ same o) (let s = same p in omega (arith, s, own));
      bytes = are.bytes;
    }

pub zeros_put : (t u d : List ℕ) → ArePages t d → (p n : ℕ) → 0 < length d → ((j : ℕ) → j < n → kept_for (slice_index t (p + j)) ≡ 1) → Puts t u p n (λ j. 2)
    → ArePages u d × ((q : ℕ) → byte_at (values_of (cell_at u d)) q ≡ run_of (p * 512) (n * 512) [] 0 q (byte_at (values_of (cell_at t d)) q)) × (kept_in u ≡ kept_in t)
zeros_put t u d are p n some one puts =
    let all = shared_put t u d are p n 2 some (omega arith) puts in (
      all,
      λ q.
          get_pages u d all q ∙ zeros_shared t u d are p n some puts q
          ∙ ap (λ (o : Option ℕ). run_of (p * 512) (n * 512) [] 0 q o) (sym (get_pages t d are q)),
      kept_cleared t u p n one puts,
    )

pub zeros_set : (t u d : List ℕ) → ArePages t d → (page : ℕ) → slice_index t page ≡ 1 → u ≡ set t page 2
    → ArePages u d × ((q : ℕ) → byte_at (values_of (cell_at u d)) q ≡ run_of (page * 512) 512 [] 0 q (byte_at (values_of (cell_at t d)) q)) × (kept_in u ≡ kept_in t)
zeros_set t u d are page one e =
    let room = number_there t page (omega (arith, one)) in
    let puts : Puts t u page 1 (λ j. 2) = subst (λ (l : List ℕ). Puts t l page 1 (λ j. 2)) (sym e) (set_puts t page 2 room) in
    zeros_put t u d are page 1 (table_cells t d are page room) (λ j h. let z : page + j ≡ page = omega (arith, h) in ap kept_for (ap (slice_index t) z ∙ one)) puts

pub number_put : (t u d : List ℕ) → ArePages t d → (p n : ℕ) → 0 < length d → p + n ≤ length t → ((j : ℕ) → j < n → slice_index t (p + j) ≡ 0) → Puts t u p n (λ j. 1)
    → ArePages u d × (values_of (cell_at u d) ≡ values_of (cell_at t d)) × (kept_in u ≡ kept_in t + n)
number_put t u d are p n some room none puts =
    let all = shared_put t u d are p n 1 some (omega arith) puts in
    (all, same_values u d t d all are (numbered_same t u d are p n some none puts), kept_first t u p n room none puts)

pub number_set : (t u d : List ℕ) → ArePages t d → (page : ℕ) → page < length t → slice_index t page ≡ 0 → u ≡ set t page 1
    → ArePages u d × (values_of (cell_at u d) ≡ values_of (cell_at t d)) × (kept_in u ≡ kept_in t + 1)
number_set t u d are page room none e =
    number_put t u d are page 1 (table_cells t d are page room) (omega (arith, room)) (λ j h. let z : page + j ≡ page = omega (arith, h) in ap (slice_index t) z ∙ none)
    (subst (λ (l : List ℕ). Puts t l page 1 (λ j. 1)) (sym e) (set_puts t page 1 room))

pub own_made : (t u c d : List ℕ) → ArePages t c → (page number mark : ℕ) → slice_index t page ≢ 0 → slice_index t page ≤ 2
    → (slice_index t page ≡ 2 → mark ≡ 1) → (slice_index t page ≢ 2 → mark ≡ 0) → number ≡ length c / 1024 → GainsFrame c d mark → u ≡ set t page number
    → ArePages u d × (values_of (cell_at u d) ≡ values_of (cell_at t c)) × (kept_in u + 1 ≡ kept_in t) × (2 < slice_index u page)
own_made t u c d are page number mark some few full bare is gains e =
    let all : ArePages u d = subst (λ (l : List ℕ). ArePages l d) (sym e) (own_set t c d are page number mark some few full bare is gains) in
    let above = number_above t c d are page number mark some few full bare is gains in
    let here = set_is t page number page (number_there t page some) refl in
    let there : slice_index u page ≡ number = ap (λ (l : List ℕ). slice_index l page) e ∙ here in (
      all,
      same_values u d t c all are (λ q. ap (λ (l : List ℕ). cell_at l d q) e ∙ own_same t c d are page number mark some few full bare is gains q),
      ap (λ (l : List ℕ). kept_in l + 1) e ∙ kept_taken t page number some few above,
      omega (arith, there, above),
    )

-- a page that is there stays so when a number is set that isn't 0
pub keeps_set : (t u : List ℕ) (page number : ℕ) → u ≡ set t page number → number ≢ 0 → (p : ℕ) → slice_index t p ≢ 0 → slice_index u p ≢ 0
keeps_set t u page number e some p there = elim (cases_eq p page) [
  | inl is ↦
      (let room = number_there t page (λ z. there (ap (slice_index t) is ∙ z)) in
      let v : slice_index u p ≡ number = ap (λ (l : List ℕ). slice_index l p) e ∙ set_is t page number p room is in λ z. some (sym v ∙ z))
  | inr other ↦ (let v : slice_index u p ≡ slice_index t p = ap (λ (l : List ℕ). slice_index l p) e ∙ get_or-set_other t page p number 0 other in λ z. there (sym v ∙ z))
]
