-- Each unit of a sandbox without a finding is read whole.
use Rattle.sfi_translate.proofs.Prelude.{◌≡◌, ℕ, ◌+◌, ◌*◌, ◌≤◌, List, [], ◌∷◌, length, take, drop, sym, ap, ◌∙◌, subst, arith, inl, inr, length-take, drop-drop, Part}
use Rattle.std.proofs.Common.{◌%◌, ◌⊎◌, ◌==◌, true, false, length-drop}
use Rattle.std.specs.Prelude.{not}
use Rattle.std.proofs.lemmas.Bool.{eqb-true, eq-eqb, not-false}
use Rattle.std.proofs.lemmas.List.{take-take, drop-take, drop_all}
use Rattle.rv_comp.specs.Fronts.{Spells}
use Rattle.rv_comp.proofs.Facts.{two_lengths}
use Rattle.rv_step.specs.State.{Hart}
use Rattle.sfi_formats.specs.Formats.{unit}
use Rattle.sfi_image.proofs.Facts.{whole_bundles}
use Rattle.sfi_rules.specs.Readings.{Piece, IsReading, IsLongestReading, rest_of, bundle_bytes}
use Rattle.sfi_rules.specs.words.Rules.{breaks_width}
use Rattle.sfi_rules.proofs.Facts.{one_longest_reading}
use Rattle.sfi_rules.proofs.OneList.{spelled_within}
use Rattle.sfi_safe_runs.proofs.Entries.{bundles, words}
use Rattle.sfi_safety.specs.Places.{AreCleanBundles, IsAtPlace}
use Rattle.sfi_safety.proofs.Places.{at_start, here_within}
use Rattle.sfi_safety.proofs.Readings.{longest_of, nothing_begins}
use Rattle.sfi_word_safety.specs.Code.{IsCleanInWords, BreakNone}
use Rattle.sfi_word_safety.proofs.Places.{word_place}

-- where one reading leaves nothing, neither does the longest
all_read : (bytes : List ℕ) (one reading : List Piece) → IsReading bytes one → rest_of bytes one ≡ [] → IsLongestReading bytes reading → rest_of bytes reading ≡ []
all_read bytes one reading is none longest =
    let same : one ≡ reading = one_longest_reading bytes one reading (longest_of bytes one is (nothing_begins (rest_of bytes one) none)) longest in
    subst (λ (l : List Piece). rest_of bytes l ≡ []) same none

-- ---- a bundle

module _ (sandbox : ℕ) (p : Part) (clean : AreCleanBundles sandbox p) (k : ℕ) (within : 16 * k + 16 ≤ length p.code) where
  abbrev start : Hart
  start = record { pc = p.code_base + 16 * k; registers = 0 ∷ 0 ∷ p.data_base ∷ [] }

  base : p.code_base % 16 ≡ 0
  base =
      let parts = whole_bundles p.format p.code_base (length p.code) clean.right.code_base clean.right.code_placed in
      let is : p.code_base ≡ 16 * parts.1 = parts.3 in
      omega (arith, is)

  place : IsAtPlace sandbox p start
  place =
      let size : 256 ≤ p.data_size = clean.right.data_placed.at_least in
      at_start sandbox p start clean (record { held = (omega arith, omega (arith, within)); aligned = omega (arith, base) }) (λ has. (omega arith, omega (arith, size)))

  offset_is : place.offset ≡ 0
  offset_is =
      let fits = here_within sandbox p start clean place in
      let pc : p.code_base + 16 * k ≡ p.code_base + 16 * place.number + place.offset = place.pc in
      let some = spelled_within (drop place.offset (bundle_bytes p place.number)) place.here.instr place.here.size place.reading.0 in
      omega (arith, fits, pc, some.0)

  number_is : place.number ≡ k
  number_is =
      let pc : p.code_base + 16 * k ≡ p.code_base + 16 * place.number + place.offset = place.pc in
      omega (arith, pc, offset_is)

  bytes_are : drop place.offset (bundle_bytes p place.number) ≡ bundle_bytes p k
  bytes_are = ap (λ (o : ℕ). drop o (bundle_bytes p place.number)) offset_is ∙ ap (λ (n : ℕ). bundle_bytes p n) number_is

  bundle_read : (reading : List Piece) → IsLongestReading (bundle_bytes p k) reading → rest_of (bundle_bytes p k) reading ≡ []
  bundle_read reading longest =
      all_read (bundle_bytes p k) (place.here ∷ place.later) reading
      (subst (λ (l : List ℕ). IsReading l (place.here ∷ place.later)) bytes_are place.reading)
      (subst (λ (l : List ℕ). rest_of l (place.here ∷ place.later) ≡ []) bytes_are place.whole)
      longest

-- ---- a word

narrow : (at size : ℕ) → at % 4 ≡ 2 → (size ≡ 2) ⊎ (size ≡ 4) → breaks_width at size ≡ false → size ≡ 2
narrow at size odd (inl e) kept = e
narrow at size odd (inr four) kept =
    let e : (size == 4) ≡ true = eq-eqb size 4 four in
    let kept' : not (at % 4 == 0) ≡ false = rw e at kept in
    let aligned : at % 4 ≡ 0 = eqb-true (at % 4) 0 (not-false (at % 4 == 0) kept') in
    absurd (omega (arith, odd, aligned))

-- the first word of these bytes is read whole, from an address that is a multiple of 4
word_read : (p : Part) (at : ℕ) (bytes : List ℕ) → at % 4 ≡ 0 → 4 ≤ length bytes → (here : Piece) (later : List Piece) → IsReading bytes (here ∷ later) → rest_of bytes (here ∷ later) ≡ [] → BreakNone p at (here ∷ later)
    → (one : List Piece) × IsReading (take 4 bytes) one × (rest_of (take 4 bytes) one ≡ [])
word_read p at bytes aligned long here later is whole none = by_size (two_lengths (take here.size bytes) here.instr here.size is.0)
  where
    cut : length (take 4 bytes) ≤ 4
    cut = omega (arith, length-take 4 bytes)

    in_word : (n : ℕ) → here.size ≡ n → n ≤ 4 → Spells (take here.size (take 4 bytes)) here.instr here.size
    in_word n e few = subst (λ (l : List ℕ). Spells l here.instr here.size) (sym (take-take here.size 4 bytes (omega (arith, e, few)))) is.0

    second : (later : List Piece) → here.size ≡ 2 → IsReading (drop here.size bytes) later → rest_of (drop here.size bytes) later ≡ [] → BreakNone p (at + here.size) later
        → (one : List Piece) × IsReading (take 4 bytes) one × (rest_of (take 4 bytes) one ≡ [])
    second [] e is' whole' none' = absurd (let none_left : length (drop here.size bytes) ≡ 0 = ap length whole' in omega (arith, length-drop here.size bytes, none_left, e, long))
    second (y ∷ ys) e is' whole' none' =
        let two = narrow (at + here.size) y.size (omega (arith, aligned, e)) (two_lengths (take y.size (drop here.size bytes)) y.instr y.size is'.0) none'.0.width in
        let split : 4 ≡ here.size + 2 = omega (arith, e) in
        let rest : drop here.size (take 4 bytes) ≡ take 2 (drop here.size bytes) = ap (λ (n : ℕ). drop here.size (take n bytes)) split ∙ drop-take here.size 2 bytes in
        let spelled : Spells (take y.size (drop here.size (take 4 bytes))) y.instr y.size =
        subst (λ (l : List ℕ). Spells l y.instr y.size) (sym (ap (take y.size) rest ∙ take-take y.size 2 (drop here.size bytes) (omega (arith, two)))) is'.0 in
        let end : drop y.size (drop here.size (take 4 bytes)) ≡ [] = drop-drop y.size here.size (take 4 bytes) ∙ drop_all (here.size + y.size) (take 4 bytes) (omega (arith, cut, e, two)) in
        (here ∷ y ∷ [], (in_word 2 e (omega arith), (spelled, tt)), end)

    by_size : (here.size ≡ 2) ⊎ (here.size ≡ 4) → (one : List Piece) × IsReading (take 4 bytes) one × (rest_of (take 4 bytes) one ≡ [])
    by_size (inl e) = second later e is.1 whole none.1
    by_size (inr e) = (here ∷ [], (in_word 4 e (omega arith), tt), drop_all here.size (take 4 bytes) (omega (arith, cut, e)))

word_whole : (p : Part) → IsCleanInWords p → (k : ℕ) → 4 * k + 4 ≤ length p.code → (reading : List Piece) → IsLongestReading (take 4 (drop (4 * k) p.code)) reading → rest_of (take 4 (drop (4 * k) p.code)) reading ≡ []
word_whole p clean k within reading longest =
    let parts = whole_bundles p.format p.code_base (length p.code) clean.right.code_base clean.right.code_placed in
    let base : p.code_base ≡ 16 * parts.1 = parts.3 in
    let place = word_place p clean (4 * k) (omega arith) (omega (arith, within)) in
    let read = word_read p (p.code_base + 4 * k) (drop (4 * k) p.code) (omega (arith, base)) (omega (arith, within, length-drop (4 * k) p.code)) place.here place.later place.reading place.whole place.none in
    all_read (take 4 (drop (4 * k) p.code)) read.0 reading read.1 read.2 longest

-- ---- a unit

module _ (p : Part) (number : ℕ) (reading : List Piece) where
  -- where units have `u` bytes, the reading of the unit leaves none of them
  abbrev IsWhole : ℕ → Type 0
  IsWhole u = u * number + u ≤ length p.code → IsLongestReading (take u (drop (u * number) p.code)) reading → rest_of (take u (drop (u * number) p.code)) reading ≡ []

  pub bundles_whole : (sandbox : ℕ) → AreCleanBundles sandbox p → IsWhole (unit p.format)
  bundles_whole sandbox clean = subst IsWhole (sym (bundles p.format clean.bundles)) (λ within longest. bundle_read sandbox p clean number within reading longest)

  pub words_whole : IsCleanInWords p → IsWhole (unit p.format)
  words_whole clean = subst IsWhole (sym (words p.format clean.words)) (λ within longest. word_whole p clean number within reading longest)
