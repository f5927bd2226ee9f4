-- Elements and findings that are written to an array.
use Rattle.sfi_c.proofs.Prelude.{◌≡◌, ℕ, suc, ◌+◌, ◌<◌, List, [], ◌∷◌, ◌++◌, length, refl, ap, ◌∙◌, arith, take, drop, min, ◌-◌, sym, subst, length-append, Finding, finding_for_c, with_findings}
use Rattle.std.proofs.Common.{zero, get_or, true}
use Rattle.std.specs.Prelude.{map, slice_set}
use Rattle.std.proofs.Math.Seq.{take-nil}
use Rattle.sfi_c.specs.Parts.{with_front}
use Rattle.sfi_check.specs.declared.for_c.SfiFinding.{SfiFinding}
use Rattle.sfi_c.specs.private.{Has}
use Rattle.sfi_check.specs.declared.stream_answer.StreamAnswer.{StreamAnswer}
use Rattle.sfi_check.specs.Verdict.{HasFindings, IsVerdictOn, IfFindings, AreHandedOver}
use Rattle.sfi_check.proofs.Facts.{one_list_of_findings}

-- ==== Elements that are written to the front of an array, each in another form.

module _ {A B : Type 0} (form : A → B) where
  -- an array after these were written to it, by recursion
  abbrev pub over : List A → List B → List B
  over [] array = array
  over (x ∷ xs) [] = []
  over (x ∷ xs) (b ∷ array) = form x ∷ over xs array

  pub with_is : (xs : List A) (array : List B) → with_front form xs array ≡ over xs array
  with_is [] array = ap (λ (l : List A). map form l ++ array) (take-nil (length array))
  with_is (x ∷ xs) [] = refl
  with_is (x ∷ xs) (b ∷ array) = ap (λ (l : List B). form x ∷ l) (with_is xs array)

  pub over_length : (xs : List A) (array : List B) → length (over xs array) ≡ length array
  over_length [] array = refl
  over_length (x ∷ xs) [] = refl
  over_length (x ∷ xs) (b ∷ array) = ap (λ (k : ℕ). suc k) (over_length xs array)

  one_set : (xs : List A) (array : List B) (i : ℕ) (d : A) → i < length xs → i < length array → slice_set (over (take i xs) array) i (form (get_or xs i d)) ≡ over (take (suc i) xs) array
  one_set [] array i d lt room = absurd (omega arith)
  one_set (x ∷ xs) [] i d lt room = absurd (omega arith)
  one_set (x ∷ xs) (b ∷ array) zero d lt room = refl
  one_set (x ∷ xs) (b ∷ array) (suc i) d lt room = ap (λ (l : List B). form x ∷ l) (one_set xs array i d (omega arith) (omega arith))

  -- the array after another item is written
  pub written_one_more : (xs : List A) (array now : List B) (i : ℕ) (x : B) (d : A) → i < length xs → i < length array → now ≡ over (take i xs) array
      → x ≡ form (get_or xs i d) → slice_set now i x ≡ over (take (i + 1) xs) array
  written_one_more xs array now i x d lt room is e =
      let next : suc i ≡ i + 1 = omega arith in
      rw (is, e) (one_set xs array i d lt room ∙ ap (λ (k : ℕ). over (take k xs) array) next)

  -- all for which there is room
  pub all_written : (xs : List A) (array : List B) (n : ℕ) → n ≡ min (length xs) (length array) → over (take n xs) array ≡ over xs array
  all_written [] array n e = ap (λ (l : List A). over l array) (take-nil n)
  all_written (x ∷ xs) [] zero e = refl
  all_written (x ∷ xs) [] (suc n) e = refl
  all_written (x ∷ xs) (b ∷ array) zero e = absurd (omega (arith, e))
  all_written (x ∷ xs) (b ∷ array) (suc n) e = ap (λ (l : List B). form x ∷ l) (all_written xs array n (omega (arith, e)))

  none_over : (ys : List A) → over ys [] ≡ []
  none_over [] = refl
  none_over (y ∷ ys) = refl

  -- writing `ys` from element `n` on, where `xs` end, is writing both lists in one
  pub written_after : (xs ys : List A) (array : List B) (n : ℕ) → n ≡ min (length xs) (length array) → take n (over xs array) ++ over ys (drop n (over xs array)) ≡ over (xs ++ ys) array
  written_after [] ys array zero e = refl
  written_after [] ys array (suc n) e = absurd (omega (arith, e))
  written_after (x ∷ xs) ys [] zero e = none_over ys
  written_after (x ∷ xs) ys [] (suc n) e = absurd (omega (arith, e))
  written_after (x ∷ xs) ys (b ∷ array) zero e = absurd (omega (arith, e))
  written_after (x ∷ xs) ys (b ∷ array) (suc n) e = ap (λ (l : List B). form x ∷ l) (written_after xs ys array n (omega (arith, e)))

-- ==== Findings that are handed over, and written to an array after those before them.

-- the array before has these findings; then others are written after them, as many as there is room for
pub filled : (first : List SfiFinding) (before found : List Finding) (array after : List SfiFinding) (written from count : ℕ) → Has first before array written
    → from ≡ min written (length array) → after ≡ take from array ++ with_findings found (drop from array) → count ≡ min (length found) (length array - from)
    → Has first (before ++ found) after (from + count)
filled first before found array after written from count has from_is after_is count_is =
    let is : array ≡ over finding_for_c before first = has.array_is ∙ with_is finding_for_c before first in
    let long : length array ≡ length first = ap length is ∙ over_length finding_for_c before first in
    let least : from ≡ min (length before) (length first) = omega (arith, from_is, long, has.written_is) in
    record {
      array_is = after_is ∙ ap (λ (l : List SfiFinding). take from array ++ l) (with_is finding_for_c found (drop from array))
          ∙ rw (is) (written_after finding_for_c before found first from least) ∙ sym (with_is finding_for_c (before ++ found) first);
      written_is = omega (arith, least, long, count_is, length-append before found);
    }

-- at first it has none
pub at_first : (first : List SfiFinding) → Has first [] first 0
at_first first = record { array_is = sym (with_is finding_for_c [] first); written_is = omega arith }

-- ---- what was handed over on the way to an answer, where the bytes have findings

pub handed_over : (image : List ℕ) (a : StreamAnswer) (got found : List Finding) → IsVerdictOn image true a → AreHandedOver image got a → HasFindings image found → got ≡ found
handed_over image a got [] judged handed has = absurd (has.some refl)
handed_over image a got (x ∷ xs) judged handed has =
    let is = judged.only_findings refl (x ∷ xs) has x refl in
    one_list_of_findings image got (x ∷ xs) (subst (λ (b : StreamAnswer). IfFindings (λ count first. HasFindings image got) b) is handed.findings) has
