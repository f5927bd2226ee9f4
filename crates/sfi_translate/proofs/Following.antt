-- The lines of a sandbox without a finding follow one another, by address.
use Rattle.sfi_translate.proofs.Prelude.{◌≡◌, ℕ, zero, suc, ◌+◌, ◌*◌, ◌≤◌, List, [], ◌∷◌, ◌++◌, length, drop, refl, sym, ap, ◌∙◌, subst, arith, inl, inr, append_assoc, append-nil, Part, Line, Function, End, Entry, Head, Does, AreLines, AreUnitLines, reading_lines}
use Rattle.std.proofs.Common.{◌≢◌, ◌%◌, ◌^◌, ◌<◌, ◌⊎◌, ◌==◌, Bool, true, false, Option, Some, None, length-drop, ⊎_elim}
use Rattle.std.proofs.lemmas.Bool.{cond_both, eqb-true, eqb-false, cases_lt}
use Rattle.rv_word.specs.declared.instr.Instr.{Instr}
use Rattle.sfi_formats.specs.Formats.{unit}
use Rattle.sfi_image.proofs.Facts.{whole_bundles, code_ends}
use Rattle.sfi_rules.specs.Readings.{Piece, IsReading, IsLongestReading, rest_of}
use Rattle.sfi_rules.proofs.Facts.{one_longest_reading}
use Rattle.sfi_rules.proofs.OneList.{spelled_within}
use Rattle.sfi_report.specs.Listing.{unit_bytes}
use Rattle.sfi_image.specs.Parts.{IsRightPart}
use Rattle.sfi_translate.specs.Lines.{function_lines, entry_lines, head_lines, AreLinesOfFirst}
use Rattle.sfi_translate.specs.Machine.{label, entry}
use Rattle.sfi_translate.proofs.LinesStand.{IsLine, bytes_of, units, fits, line_some, unit_length}

-- ==== Lines from an address on.

-- The lines from that address on. The rank is that of what stands there before them: 0 is an instruction's before it, 1 an end, 2 a
-- function's beginning, 3 an entry, 4 a head.
abbrev pub Follow : Part → ℕ → ℕ → List Line → Type 0
Follow p rank at [] = (rank ≡ 0) × (at ≡ p.code_base + length p.code)
Follow p rank at (Function sandbox to ∷ rest) = (rank < 2) × Follow p 2 at rest
Follow p rank at (End to ∷ rest) = (to ≡ at) × (at < 2 ^ 32) × (rank ≡ 0) × Follow p 1 at rest
Follow p rank at (Entry to ∷ rest) = (to ≡ at) × (rank < 3) × Follow p 3 at rest
Follow p rank at (Head to ∷ rest) = (to ≡ at) × (at < 2 ^ 32) × (rank < 4) × Follow p 4 at rest
Follow p rank at (Does to n i ∷ rest) = (to ≡ at) × IsLine p at i n × (rank < 4 → (at % 128) ≢ 0) × Follow p 0 (at + n) rest

-- ---- pieces

pub bytes_both : (xs ys : List Piece) → bytes_of (xs ++ ys) ≡ bytes_of xs + bytes_of ys
bytes_both [] ys = omega arith
bytes_both (x ∷ xs) ys = let e = bytes_both xs ys in omega (arith, e)

pub all_bytes : (bytes : List ℕ) (reading : List Piece) → IsReading bytes reading → rest_of bytes reading ≡ [] → bytes_of reading ≡ length bytes
all_bytes bytes [] is none = sym (ap length none)
all_bytes bytes (x ∷ reading) is none =
    let rest = all_bytes (drop x.size bytes) reading is.1 none in
    let w = spelled_within bytes x.instr x.size is.0 in
    omega (arith, rest, w.1, length-drop x.size bytes)

-- an address within a unit is no head's
inner : (base u k o at : ℕ) → base % 16 ≡ 0 → (u ≡ 16) ⊎ (u ≡ 4) → 0 < o → o < u → at ≡ base + u * k + o → (at % 128) ≢ 0
inner base u k o at whole (inl e) some less is = λ z. let at_is : at ≡ base + 16 * k + o = subst (λ (v : ℕ). at ≡ base + v * k + o) e is in absurd (omega (arith, whole, e, some, less, at_is, z))
inner base u k o at whole (inr e) some less is = λ z. let at_is : at ≡ base + 4 * k + o = subst (λ (v : ℕ). at ≡ base + v * k + o) e is in absurd (omega (arith, whole, e, some, less, at_is, z))

pub unit_more : (base u k : ℕ) → base + u * k + u ≡ base + u * suc k
unit_more base u k = omega arith

pub unit_some : (u : ℕ) → (u ≡ 16) ⊎ (u ≡ 4) → 0 < u
unit_some u (inl e) = omega (arith, e)
unit_some u (inr e) = omega (arith, e)

module _ (sandbox : ℕ) (p : Part) (right : IsRightPart p)
    (whole : (number : ℕ) (reading : List Piece) → unit p.format * number + unit p.format ≤ length p.code → IsLongestReading (unit_bytes p number) reading → rest_of (unit_bytes p number) reading ≡ []) where
  pub base_whole : p.code_base % 16 ≡ 0
  base_whole =
      let bundles = whole_bundles p.format p.code_base (length p.code) right.code_base right.code_placed in
      let base : p.code_base ≡ 16 * bundles.1 = bundles.3 in
      omega (arith, base)

  -- ---- a unit

  module _ (k : ℕ) (within : unit p.format * k + unit p.format ≤ length p.code) (reading : List Piece) (longest : IsLongestReading (unit_bytes p k) reading) where
    abbrev start : ℕ
    start = p.code_base + unit p.format * k

    abbrev line_of : (before : List Piece) (x : Piece) (after : List Piece) (at : ℕ) → reading ≡ before ++ (x ∷ after) → at ≡ start + bytes_of before → IsLine p at x.instr x.size
    line_of before x after at split is = record { number = k; within = within; before = before; after = after; longest = subst (λ (l : List Piece). IsLongestReading (unit_bytes p k) l) split longest; at_is = is }

    all_read : bytes_of reading ≡ unit p.format
    all_read = all_bytes (unit_bytes p k) reading longest.is_reading (whole k reading within longest) ∙ unit_length p k within

    rest_follow : (tail : List Line) → Follow p 0 (start + unit p.format) tail → (before after : List Piece) (at : ℕ) → reading ≡ before ++ after → at ≡ start + bytes_of before → 0 < bytes_of before → Follow p 0 at (reading_lines at after ++ tail)
    rest_follow tail goes before [] at split is some =
        let all : bytes_of reading ≡ bytes_of before = ap bytes_of split ∙ ap bytes_of (append-nil before) in
        subst (λ (a : ℕ). Follow p 0 a tail) (ap (λ (n : ℕ). start + n) (sym all_read ∙ all) ∙ sym is) goes
    rest_follow tail goes before (x ∷ after) at split is some =
        let line = line_of before x after at split is in
        let less : bytes_of before + x.size ≤ unit p.format = fits p at x.instr x.size line in
        let some_here = line_some p at x.instr x.size line in
        let below : bytes_of before < unit p.format = omega (arith, less, some_here) in
        let both = bytes_both before (x ∷ []) in
        let split' : reading ≡ (before ++ (x ∷ [])) ++ after = split ∙ sym (append_assoc before (x ∷ []) after) in (
          refl,
          line,
          (λ e. inner p.code_base (unit p.format) k (bytes_of before) at base_whole (units p.format) some below is),
          rest_follow tail goes (before ++ (x ∷ [])) after (at + x.size) split' (omega (arith, both, is)) (omega (arith, both, some)),
        )

    reading_follow : (tail : List Line) → Follow p 0 (start + unit p.format) tail → (l : List Piece) → reading ≡ l → (rank : ℕ) → (rank < 4 → (start % 128) ≢ 0) → Follow p rank start (reading_lines start l ++ tail)
    reading_follow tail goes [] split rank off =
        let none : bytes_of reading ≡ 0 = ap bytes_of split in
        let some = unit_some (unit p.format) (units p.format) in
        absurd (omega (arith, all_read, none, some))
    reading_follow tail goes (x ∷ after) split rank off =
        let line = line_of [] x after start split (omega arith) in
        let some_here = line_some p start x.instr x.size line in
        (refl, line, off, rest_follow tail goes (x ∷ []) after (start + x.size) split (omega arith) (omega (arith, some_here)))

    -- ---- what stands before the instructions

    below_end : start < 2 ^ 32
    below_end =
        let end : p.code_base + length p.code ≤ 2 ^ 32 = code_ends p right in
        let some = unit_some (unit p.format) (units p.format) in
        omega (arith, end, some, within)

    head_follow : (rest : List Line) → ((rank : ℕ) → (rank < 4 → (start % 128) ≢ 0) → Follow p rank start rest) → (rank : ℕ) → rank < 4 → Follow p rank start (head_lines start ++ rest)
    head_follow rest then rank low =
        cond_both (start % 128 == 0) (Head start ∷ []) [] (λ (l : List Line). Follow p rank start (l ++ rest))
        (λ e. (refl, below_end, low, then 4 (λ c. absurd (omega (arith, c)))))
        (λ e. then rank (λ c. eqb-false (start % 128) 0 e))

    entry_follow : (rest : List Line) → ((rank : ℕ) → rank < 4 → Follow p rank start rest) → (chosen : Bool) (rank : ℕ) → rank < 3 → Follow p rank start (entry_lines chosen start ++ rest)
    entry_follow rest then true rank low = (refl, low, then 3 (omega arith))
    entry_follow rest then false rank low = then rank (omega (arith, low))

    function_follow : (rest : List Line) → ((rank : ℕ) → rank < 3 → Follow p rank start rest) → (offset : ℕ) → Follow p 0 start (function_lines sandbox offset start ++ rest)
    function_follow rest then offset =
        cond_both (offset == 0) (Function sandbox start ∷ []) _ (λ (l : List Line). Follow p 0 start (l ++ rest))
        (λ e. (omega arith, then 2 (omega arith)))
        (λ e. cond_both (offset % 16384 == 0) (End start ∷ Function sandbox start ∷ []) [] (λ (l : List Line). Follow p 0 start (l ++ rest))
        (λ f. (refl, below_end, refl, (omega arith, then 2 (omega arith))))
        (λ f. then 0 (omega arith)))

  regroup : (a b c d e : List Line) → (((a ++ b) ++ c) ++ d) ++ e ≡ a ++ (b ++ (c ++ (d ++ e)))
  regroup a b c d e = simp append_assoc

  unit_follow : (k : ℕ) → unit p.format * k + unit p.format ≤ length p.code → (lines : List Line) → AreUnitLines sandbox (unit p.format * k) (p.code_base + unit p.format * k) (unit_bytes p k) lines
      → (tail : List Line) → Follow p 0 (p.code_base + unit p.format * k + unit p.format) tail → Follow p 0 (p.code_base + unit p.format * k) (lines ++ tail)
  unit_follow k within lines are tail goes =
      let at = p.code_base + unit p.format * k in
      let r = are.reading in
      let d = reading_lines at r ++ tail in
      let c = head_lines at ++ d in
      let b = entry_lines are.chosen at ++ c in
      let heads = head_follow k within r are.longest d (λ rank off. reading_follow k within r are.longest tail goes r refl rank off) in
      let entries = entry_follow k within r are.longest c heads are.chosen in
      subst (λ (l : List Line). Follow p 0 at l) (sym (ap (λ (l : List Line). l ++ tail) are.lines_are ∙ regroup (function_lines sandbox (unit p.format * k) at) (entry_lines are.chosen at) (head_lines at) (reading_lines at r) tail))
      (function_follow k within r are.longest b entries (unit p.format * k))

  -- ---- the code

  first_follow : (n : ℕ) (lines : List Line) → AreLinesOfFirst sandbox p n lines → unit p.format * n ≤ length p.code → (tail : List Line) → Follow p 0 (p.code_base + unit p.format * n) tail → Follow p 0 p.code_base (lines ++ tail)
  first_follow zero lines are within tail goes =
      let none : p.code_base + unit p.format * 0 ≡ p.code_base = omega arith in
      subst (λ (l : List Line). Follow p 0 p.code_base (l ++ tail)) (sym are) (subst (λ (a : ℕ). Follow p 0 a tail) none goes)
  first_follow (suc n) lines are within tail goes =
      let within' : unit p.format * n + unit p.format ≤ length p.code = omega (arith, within) in
      let here = unit_follow n within' are.1 are.3 tail (subst (λ (a : ℕ). Follow p 0 a tail) (sym (unit_more p.code_base (unit p.format) n)) goes) in
      let before : unit p.format * n ≤ length p.code = omega (arith, within') in
      subst (λ (l : List Line). Follow p 0 p.code_base l) (sym (ap (λ (l : List Line). l ++ tail) are.4 ∙ append_assoc are.0 are.1 tail))
      (first_follow n are.0 are.2 before (are.1 ++ tail) here)

  pub code_follows : (lines : List Line) → AreLines sandbox p lines → Follow p 0 p.code_base lines
  code_follows lines are =
      let end : unit p.format * are.units ≤ length p.code = let e = are.whole in omega (arith, e) in
      subst (λ (l : List Line). Follow p 0 p.code_base l) (append-nil lines)
      (first_follow are.units lines are.lines_are end [] (refl, ap (λ (n : ℕ). p.code_base + n) (sym are.whole)))

-- ==== What a label and an entry lead to.

module _ (p : Part) (to : ℕ) where
  pub label_follows : (lines rest : List Line) (rank at : ℕ) → Follow p rank at lines → label to lines ≡ Some rest → Follow p 4 to rest
  label_follows [] rest rank at goes is = absurd (cc)
  label_follows (Function sandbox x ∷ lines) rest rank at goes is = label_follows lines rest 2 at goes.1 is
  label_follows (End x ∷ lines) rest rank at goes is = label_follows lines rest 1 at goes.3 is
  label_follows (Entry x ∷ lines) rest rank at goes is = label_follows lines rest 3 at goes.2 is
  label_follows (Head x ∷ lines) rest rank at goes is = label_follows lines rest 4 at goes.3 is
  label_follows (Does x n i ∷ lines) rest rank at goes is =
      cond_both (x == to) (Some (Does x n i ∷ lines)) (label to lines) (λ (o : Option (List Line)). o ≡ Some rest → Follow p 4 to rest)
      (λ e found.
      let same : Does x n i ∷ lines ≡ rest = cc in
      let here : at ≡ to = sym goes.0 ∙ eqb-true x to e in
      subst (λ (l : List Line). Follow p 4 to l) same
      (subst (λ (a : ℕ). Follow p 4 a (Does x n i ∷ lines)) here (goes.0, goes.1, (λ c. absurd (omega (arith, c))), goes.3)))
      (λ e found. label_follows lines rest 0 (at + n) goes.3 found)
      is

  pub entry_follows : (lines rest : List Line) (rank at : ℕ) → Follow p rank at lines → entry to lines ≡ Some rest → Follow p 3 to rest
  entry_follows [] rest rank at goes is = absurd (cc)
  entry_follows (Function sandbox x ∷ lines) rest rank at goes is = entry_follows lines rest 2 at goes.1 is
  entry_follows (End x ∷ lines) rest rank at goes is = entry_follows lines rest 1 at goes.3 is
  entry_follows (Head x ∷ lines) rest rank at goes is = entry_follows lines rest 4 at goes.3 is
  entry_follows (Does x n i ∷ lines) rest rank at goes is = entry_follows lines rest 0 (at + n) goes.3 is
  entry_follows (Entry x ∷ lines) rest rank at goes is =
      cond_both (x == to) (Some lines) (entry to lines) (λ (o : Option (List Line)). o ≡ Some rest → Follow p 3 to rest)
      (λ e found.
      let same : lines ≡ rest = cc in
      let here : at ≡ to = sym goes.0 ∙ eqb-true x to e in
      subst (λ (l : List Line). Follow p 3 to l) same (subst (λ (a : ℕ). Follow p 3 a lines) here goes.2))
      (λ e found. entry_follows lines rest 3 at goes.2 found)
      is

-- ==== Each line is there.

-- ---- two lines lie apart

earlier_first : (x y : Piece) (before after before' after' : List Piece) → before ++ (x ∷ after) ≡ before' ++ (y ∷ after') → bytes_of before < bytes_of before' → bytes_of before + x.size ≤ bytes_of before'
earlier_first x y [] after [] after' same less = absurd (omega (arith, less))
earlier_first x y [] after (z ∷ before') after' same less = let e : x ≡ z = cc in let size : x.size ≡ z.size = ap (λ (q : Piece). q.size) e in omega (arith, size)
earlier_first x y (w ∷ before) after [] after' same less = absurd (omega (arith, less))
earlier_first x y (w ∷ before) after (z ∷ before') after' same less =
    let e : w ≡ z = cc in
    let size : w.size ≡ z.size = ap (λ (q : Piece). q.size) e in
    let rest : before ++ (x ∷ after) ≡ before' ++ (y ∷ after') = cc in
    let later = earlier_first x y before after before' after' rest (omega (arith, size, less)) in
    omega (arith, size, later)

unit_before : (u k m : ℕ) → (u ≡ 16) ⊎ (u ≡ 4) → k < m → u * k + u ≤ u * m
unit_before u k m (inl e) less = subst (λ (v : ℕ). v * k + v ≤ v * m) (sym e) (omega (arith, less))
unit_before u k m (inr e) less = subst (λ (v : ℕ). v * k + v ≤ v * m) (sym e) (omega (arith, less))

module _ (p : Part) (at : ℕ) (i : Instr) (n : ℕ) (l : IsLine p at i n) (to : ℕ) (j : Instr) (m : ℕ) (k : IsLine p to j m) (less : at < to) where
  apart_in_one : l.number ≡ k.number → at + n ≤ to
  apart_in_one same =
      let x : Piece = record { instr = i; size = n } in
      let y : Piece = record { instr = j; size = m } in
      let one = one_longest_reading (unit_bytes p k.number) (l.before ++ (x ∷ l.after)) (k.before ++ (y ∷ k.after)) (subst (λ (c : ℕ). IsLongestReading (unit_bytes p c) (l.before ++ (x ∷ l.after))) same l.longest) k.longest in
      let here : at ≡ p.code_base + unit p.format * k.number + bytes_of l.before = l.at_is ∙ ap (λ (c : ℕ). p.code_base + unit p.format * c + bytes_of l.before) same in
      let there = k.at_is in
      let first = earlier_first x y l.before l.after k.before k.after one (omega (arith, here, there, less)) in
      omega (arith, here, there, first)

  pub lines_apart : at + n ≤ to
  lines_apart =
      let here = l.at_is in
      let there = k.at_is in
      let fit = fits p at i n l in
      let fit' = fits p to j m k in
      ⊎_elim
      (λ (first : l.number < k.number). let between = unit_before (unit p.format) l.number k.number (units p.format) first in omega (arith, here, there, fit, between))
      (λ (more : k.number ≤ l.number).
      ⊎_elim
      (λ (later : k.number < l.number). let between = unit_before (unit p.format) k.number l.number (units p.format) later in absurd (omega (arith, here, there, fit', between, less)))
      (λ (most : l.number ≤ k.number). apart_in_one (omega (arith, more, most)))
      (cases_lt k.number l.number))
      (cases_lt l.number k.number)

-- ---- the label of a line

module _ (p : Part) (to : ℕ) (j : Instr) (m : ℕ) (line : IsLine p to j m) where
  pub has_label : (lines : List Line) (rank at : ℕ) → Follow p rank at lines → at ≤ to → label to lines ≡ None → ⊥
  has_label [] rank at goes from none =
      let here = line.at_is in
      let fit = fits p to j m line in
      let some = line_some p to j m line in
      let within = line.within in
      let end = goes.1 in
      omega (arith, here, fit, some, within, end, from)
  has_label (Function sandbox x ∷ lines) rank at goes from none = has_label lines 2 at goes.1 from none
  has_label (End x ∷ lines) rank at goes from none = has_label lines 1 at goes.3 from none
  has_label (Entry x ∷ lines) rank at goes from none = has_label lines 3 at goes.2 from none
  has_label (Head x ∷ lines) rank at goes from none = has_label lines 4 at goes.3 from none
  has_label (Does x n i ∷ lines) rank at goes from none =
      cond_both (x == to) (Some (Does x n i ∷ lines)) (label to lines) (λ (o : Option (List Line)). o ≡ None → ⊥)
      (λ e found. cc)
      (λ e found.
      let other = eqb-false x to e in
      let is = goes.0 in
      let less : at < to = omega (arith, other, is, from) in
      has_label lines 0 (at + n) goes.3 (lines_apart p at i n goes.1 to j m line less) found)
      none
