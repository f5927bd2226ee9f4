-- Each word's start is a place of the code's reading, and so is what stands after one; the one instruction there is the reading's.
use Rattle.sfi_word_safety.proofs.Prelude.{◌≡◌, ℕ, ◌+◌, ◌-◌, ◌%◌, ◌<◌, ◌≤◌, ◌⊎◌, List, [], ◌∷◌, length, take, drop, Bool, true, false, not, ◌==◌, refl, sym, ap, ◌∙◌, subst, ⊎_elim, arith, add-zero, length-drop, drop-drop, cases_lt, eqb-true, eq-eqb, false≢true, Spells, Bytes, address_after, Hart, Stands, Part, Piece, IsReading, rest_of, is_empty, ends_region, HasCode, IsWordStart, breaks_width, BreakNone, IsCleanInWords, AreKnown, IsPlace, IsAtPlaceInWords, AreWordsTyped, IsSafeState, IsRightPart}
use Rattle.rv_comp.proofs.Facts.{two_lengths}
use Rattle.sfi_image.proofs.Facts.{code_ends, whole_bundles}
use Rattle.sfi_rules.proofs.OneList.{spelled_within}
use Rattle.sfi_safe_runs.proofs.Stepping.{stands_there, state_safe}
use Rattle.sfi_word_safety.proofs.Known.{typed_known}
use Rattle.sfi_image.specs.Spelling.{code_region, data_region}

-- ---- pieces

-- its size is 2, or 4 at a multiple of 4
pub sized : (p : Part) (bytes : List ℕ) (offset : ℕ) (x : Piece) → p.code_base % 4 ≡ 0 → Spells (take x.size bytes) x.instr x.size → breaks_width (p.code_base + offset) x.size ≡ false
    → (x.size ≡ 2) ⊎ ((x.size ≡ 4) × (offset % 4 ≡ 0))
sized p bytes offset x base spelled kept =
    ⊎_elim
    (λ (two : x.size ≡ 2). Rattle.std.proofs.Common.inl two)
    (λ (four : x.size ≡ 4).
    let e : (x.size == 4) ≡ true = eq-eqb x.size 4 four in
    let kept' : not ((p.code_base + offset) % 4 == 0) ≡ false = rw e at kept in
    let at : (p.code_base + offset) % 4 ≡ 0 = eqb-true _ 0 (Rattle.std.proofs.lemmas.Bool.not-false _ kept') in
    Rattle.std.proofs.Common.inr (four, omega arith))
    (two_lengths (take x.size bytes) x.instr x.size spelled)

-- the code's base is a multiple of 16, and its size too
pub bundles_whole : (p : Part) → IsRightPart p → (p.code_base % 16 ≡ 0) × (length p.code % 16 ≡ 0)
bundles_whole p right =
    let bundles = whole_bundles p.format p.code_base (length p.code) right.code_base right.code_placed in
    (let e = bundles.3 in omega arith, let e = bundles.2 in omega arith)

module _ (p : Part) (clean : IsCleanInWords p) where
  pub base_aligned : p.code_base % 4 ≡ 0
  base_aligned = let both = bundles_whole p clean.right in omega (arith, both.0)

  -- ---- a word's start

  -- going on from an offset to a word's start that isn't before it
  place_from : (k : ℕ) → k % 4 ≡ 0 → k < length p.code → (pieces : List Piece) (offset : ℕ) → IsReading (drop offset p.code) pieces → rest_of (drop offset p.code) pieces ≡ []
      → BreakNone p (p.code_base + offset) pieces → offset % 2 ≡ 0 → offset ≤ k → IsPlace p k
  place_from k aligned below [] offset is whole none even le =
      absurd (let e : length (drop offset p.code) ≡ 0 = ap length whole in omega (arith, length-drop offset p.code))
  place_from k aligned below (x ∷ later) offset is whole none even le =
      ⊎_elim
      (λ (less : offset < k).
      let moved : drop x.size (drop offset p.code) ≡ drop (offset + x.size) p.code = drop-drop x.size offset p.code in
      let size = sized p (drop offset p.code) offset x base_aligned is.0 none.0.width in
      let sum : p.code_base + offset + x.size ≡ p.code_base + (offset + x.size) = omega arith in
      place_from k aligned below later (offset + x.size)
      (subst (λ (bytes : List ℕ). IsReading bytes later) moved is.1)
      (subst (λ (bytes : List ℕ). rest_of bytes later ≡ []) moved whole)
      (subst (λ (at : ℕ). BreakNone p at later) sum none.1)
      (⊎_elim (λ (two : x.size ≡ 2). omega arith) (λ (four : (x.size ≡ 4) × (offset % 4 ≡ 0)). let f = four.0 in omega arith) size)
      (⊎_elim (λ (two : x.size ≡ 2). omega arith) (λ (four : (x.size ≡ 4) × (offset % 4 ≡ 0)). let f = four.0 in let g = four.1 in omega arith) size))
      (λ (more : k ≤ offset).
      let same : offset ≡ k = omega arith in
      subst (λ (n : ℕ). IsPlace p n) same (record { here = x; later = later; reading = is; whole = whole; none = none }))
      (cases_lt offset k)

  pub word_place : (k : ℕ) → k % 4 ≡ 0 → k < length p.code → IsPlace p k
  word_place k aligned below =
      let c = clean.clean in
      place_from k aligned below c.reading 0 c.is_reading c.whole (subst (λ (at : ℕ). BreakNone p at c.reading) (sym (add-zero p.code_base)) c.none) (omega arith) (omega arith)

  -- with the typed registers set
  pub at_start : (h : Hart) → IsWordStart (code_region p) h.pc → AreWordsTyped p.format (code_region p) (data_region p) h.registers → IsAtPlaceInWords p h
  at_start h start typed =
      let base = base_aligned in
      let from : p.code_base ≤ h.pc = start.held.0 in
      let below : h.pc < p.code_base + length p.code = start.held.1 in
      let aligned : h.pc % 4 ≡ 0 = start.aligned in
      let k = h.pc - p.code_base in
      let place = word_place k (omega arith) (omega arith) in
      record { offset = k; place = place; pc = omega arith; even = omega arith; known = typed_known p h.registers (place.here ∷ place.later) typed }

  module _ (h : Hart) (at : IsAtPlaceInWords p h) where
    -- the instruction lies in the code
    pub here_within : (0 < at.place.here.size) × (at.offset + at.place.here.size ≤ length p.code)
    here_within =
        let w = spelled_within (drop at.offset p.code) at.place.here.instr at.place.here.size at.place.reading.0 in
        (w.0, omega (arith, w.0, w.1, length-drop at.offset p.code))

    -- ---- what stands after it

    -- something does, where the instruction is not one that ends a region
    not_last : ends_region at.place.here.instr ≡ false → is_empty at.place.later ≡ false
    not_last goes = by (is_empty at.place.later) refl
      where
        by : (b : Bool) → is_empty at.place.later ≡ b → is_empty at.place.later ≡ false
        by false e = e
        by true e = absurd (false≢true (sym at.place.none.0.end ∙ rw (e, goes) refl))

    after_is : (h' : Hart) (later : List Piece) → at.place.later ≡ later → h'.pc ≡ address_after h.pc at.place.here.size → is_empty later ≡ false → AreKnown p h'.registers later → IsAtPlaceInWords p h'
    after_is h' [] is pc' some known = absurd (false≢true (sym some))
    after_is h' (x ∷ later) is pc' some known =
        let n = at.place.here.size in
        let offset = at.offset in
        let moved : drop n (drop offset p.code) ≡ drop (offset + n) p.code = drop-drop n offset p.code in
        let reading : IsReading (drop (offset + n) p.code) (x ∷ later) = subst (λ (bytes : List ℕ). IsReading bytes (x ∷ later)) moved (subst (λ (l : List Piece). IsReading (drop n (drop offset p.code)) l) is at.place.reading.1) in
        let whole : rest_of (drop (offset + n) p.code) (x ∷ later) ≡ [] = subst (λ (bytes : List ℕ). rest_of bytes (x ∷ later) ≡ []) moved (subst (λ (l : List Piece). rest_of (drop n (drop offset p.code)) l ≡ []) is at.place.whole) in
        let sum : p.code_base + offset + n ≡ p.code_base + (offset + n) = omega arith in
        let none : BreakNone p (p.code_base + (offset + n)) (x ∷ later) = subst (λ (a : ℕ). BreakNone p a (x ∷ later)) sum (subst (λ (l : List Piece). BreakNone p (p.code_base + offset + n) l) is at.place.none.1) in
        let lies = spelled_within (drop (offset + n) p.code) x.instr x.size reading.0 in
        let a : 0 < x.size = lies.0 in
        let b : x.size ≤ length (drop (offset + n) p.code) = lies.1 in
        let inside : offset + n < length p.code = omega (arith, length-drop (offset + n) p.code) in
        let end = code_ends p clean.right in
        let pc : h.pc ≡ p.code_base + offset = at.pc in
        let size = sized p (drop offset p.code) offset at.place.here base_aligned at.place.reading.0 at.place.none.0.width in
        let even : offset % 2 ≡ 0 = at.even in
        record {
          offset = offset + n;
          place = record { here = x; later = later; reading = reading; whole = whole; none = none };
          pc = pc' ∙ (let e : address_after h.pc n ≡ p.code_base + (offset + n) = omega (arith, inside, pc, end) in e);
          even = ⊎_elim (λ (two : n ≡ 2). omega arith) (λ (four : (n ≡ 4) × (offset % 4 ≡ 0)). let f = four.0 in omega arith) size;
          known = known;
        }

    pub goes_on : (h' : Hart) → h'.pc ≡ address_after h.pc at.place.here.size → ends_region at.place.here.instr ≡ false → AreKnown p h'.registers at.place.later → IsAtPlaceInWords p h'
    goes_on h' pc' goes known = after_is h' at.place.later refl pc' (not_last goes) known

    -- ---- the one instruction there

    pub present : (m : Bytes) → HasCode p m → Stands (record { hart = h; memory = m }) at.place.here.instr at.place.here.size
    present m code = stands_there p clean.right h at.offset at.place.here.size at.pc here_within.1 m at.place.here.instr code at.place.reading.0

    pub safe_here : (m : Bytes) → HasCode p m → IsSafeState p (record { hart = h; memory = m })
    safe_here m code = state_safe p clean.right h at.offset at.place.here.size at.pc here_within.1 m at.place.here.instr code at.place.reading.0
