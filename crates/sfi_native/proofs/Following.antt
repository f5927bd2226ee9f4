-- The lines of a sandbox's code follow one another by address.
use Rattle.std.proofs.Common.{◌≡◌, ℕ, zero, suc, ◌+◌, ◌*◌, ◌%◌, ◌≤◌, Bool, true, false, List, [], ◌∷◌, ◌++◌, length, refl, sym, ap, ◌∙◌, subst, arith, append_assoc}
use Rattle.std.specs.Prelude.{◌==◌}
use Rattle.std.proofs.lemmas.Bool.{cond_both}
use Rattle.std.proofs.lemmas.List.{append-nil}
use Rattle.sfi_formats.specs.Formats.{unit}
use Rattle.sfi_image.specs.Spelling.{Part}
use Rattle.sfi_rules.specs.Readings.{Piece}
use Rattle.sfi_report.specs.Listing.{unit_bytes}
use Rattle.sfi_safety.specs.Places.{IsCleanPart}
use Rattle.sfi_translate.specs.Lines.{Line, Function, End, Head, AreLines, AreLinesOfFirst, AreUnitLines, entry_lines, function_lines, function_most, head_bytes, head_lines, reading_lines}
use Rattle.sfi_translate.proofs.Facts.{units_are_whole}
use Rattle.sfi_translate.proofs.Following.{all_bytes, unit_more}
use Rattle.sfi_translate.proofs.LinesStand.{bytes_of, unit_length}
use Rattle.sfi_native.specs.Following.{FollowFrom, next_address}

-- ==== From any address on.

module _ (end : ℕ) where
  -- what is left of such lines after some of them follows, too
  pub rest_follows : (front rest : List Line) (at : ℕ) → FollowFrom end at (front ++ rest) → (from : ℕ) × FollowFrom end from rest
  rest_follows [] rest at goes = (at, goes)
  rest_follows (line ∷ front) rest at goes = rest_follows front rest (next_address line) goes.1

  -- ---- a unit's lines

  reading_goes : (tail : List Line) (reading : List Piece) (at : ℕ) → FollowFrom end (at + bytes_of reading) tail → FollowFrom end at (reading_lines at reading ++ tail)
  reading_goes tail [] at goes = let none : at + 0 ≡ at = omega arith in subst (λ a. FollowFrom end a tail) none goes
  reading_goes tail (x ∷ reading) at goes =
      let sum : at + (x.size + bytes_of reading) ≡ at + x.size + bytes_of reading = omega arith in
      (refl, reading_goes tail reading (at + x.size) (subst (λ a. FollowFrom end a tail) sum goes))

  module _ (at : ℕ) (rest : List Line) (goes : FollowFrom end at rest) where
    head_goes : FollowFrom end at (head_lines at ++ rest)
    head_goes = cond_both (at % head_bytes == 0) (Head at ∷ []) [] (λ l. FollowFrom end at (l ++ rest)) (λ e. (refl, goes)) (λ e. goes)

    entry_goes : (chosen : Bool) → FollowFrom end at (entry_lines chosen at ++ rest)
    entry_goes true = (refl, goes)
    entry_goes false = goes

    function_goes : (sandbox offset : ℕ) → FollowFrom end at (function_lines sandbox offset at ++ rest)
    function_goes sandbox offset =
        cond_both (offset == 0) (Function sandbox at ∷ []) _ (λ l. FollowFrom end at (l ++ rest)) (λ e. (refl, goes))
        (λ e. cond_both (offset % function_most == 0) (End at ∷ Function sandbox at ∷ []) [] (λ l. FollowFrom end at (l ++ rest)) (λ f. (refl, (refl, goes))) (λ f. goes))

regroup : (a b c d e : List Line) → (((a ++ b) ++ c) ++ d) ++ e ≡ a ++ (b ++ (c ++ (d ++ e)))
regroup a b c d e = simp append_assoc

-- ==== A sandbox without a finding.

module _ (sandbox : ℕ) (p : Part) (clean : IsCleanPart sandbox p) (end : ℕ) where
  unit_goes : (k : ℕ) → unit p.format * k + unit p.format ≤ length p.code → (lines : List Line)
      → AreUnitLines sandbox (unit p.format * k) (p.code_base + unit p.format * k) (unit_bytes p k) lines
      → (tail : List Line) → FollowFrom end (p.code_base + unit p.format * suc k) tail → FollowFrom end (p.code_base + unit p.format * k) (lines ++ tail)
  unit_goes k within lines are tail goes =
      let at = p.code_base + unit p.format * k in
      let size : bytes_of are.reading ≡ unit p.format = all_bytes (unit_bytes p k) are.reading are.longest.is_reading (units_are_whole sandbox p k are.reading clean within are.longest) ∙ unit_length p k within in
      let after : p.code_base + unit p.format * suc k ≡ at + bytes_of are.reading = sym (unit_more p.code_base (unit p.format) k) ∙ ap (λ n. at + n) (sym size) in
      let d = reading_lines at are.reading ++ tail in
      let c = head_lines at ++ d in
      let b = entry_lines are.chosen at ++ c in
      let reading = reading_goes end tail are.reading at (subst (λ a. FollowFrom end a tail) after goes) in
      let entry = entry_goes end at c (head_goes end at d reading) are.chosen in
      subst (λ l. FollowFrom end at l) (sym (ap (λ l. l ++ tail) are.lines_are ∙ regroup (function_lines sandbox (unit p.format * k) at) (entry_lines are.chosen at) (head_lines at) (reading_lines at are.reading) tail))
      (function_goes end at b entry sandbox (unit p.format * k))

  first_go : (n : ℕ) (lines : List Line) → AreLinesOfFirst sandbox p n lines → unit p.format * n ≤ length p.code → (tail : List Line)
      → FollowFrom end (p.code_base + unit p.format * n) tail → FollowFrom end p.code_base (lines ++ tail)
  first_go zero lines are within tail goes =
      let none : p.code_base + unit p.format * 0 ≡ p.code_base = omega arith in
      subst (λ l. FollowFrom end p.code_base (l ++ tail)) (sym are) (subst (λ a. FollowFrom end a tail) none goes)
  first_go (suc n) lines are within tail goes =
      let fewer : unit p.format * n + unit p.format ≤ length p.code = omega (arith, within) in
      let here = unit_goes n fewer are.1 are.3 tail goes in
      subst (λ l. FollowFrom end p.code_base l) (sym (ap (λ l. l ++ tail) are.4 ∙ append_assoc are.0 are.1 tail))
      (first_go n are.0 are.2 (omega (arith, fewer)) (are.1 ++ tail) here)

pub lines_follow_on : (sandbox : ℕ) (p : Part) (code : List Line) → IsCleanPart sandbox p → AreLines sandbox p code → FollowFrom (p.code_base + length p.code) p.code_base code
lines_follow_on sandbox p code clean are =
    let end = p.code_base + length p.code in
    let within : unit p.format * are.units ≤ length p.code = let e = are.whole in omega (arith, e) in
    subst (λ l. FollowFrom end p.code_base l) (append-nil code)
    (first_go sandbox p clean end are.units code are.lines_are within [] (ap (λ n. p.code_base + n) (sym are.whole)))
