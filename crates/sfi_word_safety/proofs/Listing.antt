-- The findings of bundles and of a part: what they tell.
use Rattle.sfi_word_safety.proofs.Prelude.{drop-drop, drop-take, take-take, append-nil, Part, IsRightPart, is_gate_of, Finding, Owed}
use Rattle.std.proofs.Common.{append_assoc, ◌≡◌, ℕ, zero, suc, ◌+◌, ◌-◌, ◌*◌, ◌%◌, ◌<◌, ◌≤◌, List, [], ◌∷◌, ◌++◌, length, take, drop, Bool, true, false, ◌&&◌, ◌==◌, refl, sym, ap, ◌∙◌, subst, arith}
use Rattle.std.specs.List.{All}
use Rattle.std.proofs.lemmas.Bool.{eqb-true, eq-eqb, ne_eqb, false≢true}
use Rattle.std.proofs.lemmas.List.Elements.{All-head, All-tail}
use Rattle.sfi_image.specs.declared.part.Gate.{Gate}
use Rattle.sfi_image.specs.declared.span.Span.{Span}
use Rattle.sfi_image.specs.Spelling.{code_region}
use Rattle.sfi_image.specs.Parts.{IsBundleStart}
use Rattle.sfi_rules.specs.Readings.{bundle_place, bundle_bytes}
use Rattle.sfi_rules.specs.words.Findings.{is_at_gate, IsWordFound, AreFoundInWords, AreFoundOfFirst}
use Rattle.sfi_word_safety.specs.Laws.{FindsWhatIsBroken}
use Rattle.sfi_word_safety.proofs.Places as places
use Rattle.sfi_word_safety.proofs.Telling.{Tells, IsPlaceIn, IsLeft, IsGateOf, Code, tells_first, told, word_tells}

-- ---- the gate of a bundle

no_gate : (gates : List Gate) (region : Span) (at : ℕ) → All (λ g. IsBundleStart region g.address) gates → (at % 16 ≡ 0 → ⊥) → is_gate_of gates at ≡ false
no_gate [] region at all unlike = refl
no_gate (g ∷ gates) region at all unlike =
    let start = All-head (λ g. IsBundleStart region g.address) g gates all in
    let other : (g.address == at) ≡ false = ne_eqb g.address at (λ same. let aligned = start.aligned in unlike (subst (λ (a : ℕ). a % 16 ≡ 0) same aligned)) in
    rw other (no_gate gates region at (All-tail (λ g. IsBundleStart region g.address) g gates all) unlike)

and_true : (b : Bool) → (b && true) ≡ b
and_true true = refl
and_true false = refl

and_false : (b : Bool) → (b && false) ≡ false
and_false true = refl
and_false false = refl

-- an address of a bundle is that of its gate where the image lists one there
gate_in : (p : Part) (n at : ℕ) → IsRightPart p → p.code_base % 16 ≡ 0 → 16 * n ≤ at → at < 16 * n + 16 → is_at_gate (bundle_place 0 p n) (p.code_base + at) ≡ is_gate_of p.gates (p.code_base + at)
gate_in p n at right base from below = by (p.code_base + at == p.code_base + 16 * n) refl
  where
    by : (b : Bool) → (p.code_base + at == p.code_base + 16 * n) ≡ b → (is_gate_of p.gates (p.code_base + 16 * n) && (p.code_base + at == p.code_base + 16 * n)) ≡ is_gate_of p.gates (p.code_base + at)
    by true e =
        let same = eqb-true (p.code_base + at) (p.code_base + 16 * n) e in
        rw e (and_true _) ∙ ap (is_gate_of p.gates) (sym same)
    by false e =
        let other : (p.code_base + at ≡ p.code_base + 16 * n) → ⊥ = λ same. false≢true (sym e ∙ eq-eqb (p.code_base + at) (p.code_base + 16 * n) same) in
        rw e (and_false _) ∙ sym (no_gate p.gates (code_region p) (p.code_base + at) right.gates.starts (λ aligned. other (omega (arith, aligned, base, from, below))))

-- ---- what they tell

word_of : (p : Part) (n k : ℕ) → k < 4 → 16 * n + 16 ≤ length p.code → take 4 (drop (4 * k) (bundle_bytes p n)) ≡ Code p (16 * n + 4 * k) 4
word_of p n k below inside =
    let room : 4 * k + (16 - 4 * k) ≡ 16 = omega (arith, below) in
    let cut : drop (4 * k) (take 16 (drop (16 * n) p.code)) ≡ take (16 - 4 * k) (drop (4 * k) (drop (16 * n) p.code))
    = ap (λ (m : ℕ). drop (4 * k) (take m (drop (16 * n) p.code))) (sym room) ∙ drop-take (4 * k) (16 - 4 * k) (drop (16 * n) p.code) in
    ap (take 4) cut ∙ take-take 4 (16 - 4 * k) _ (omega (arith, below)) ∙ ap (take 4) (drop-drop (4 * k) (16 * n) p.code)

module _ (sandbox : ℕ) (p : Part) (right : IsRightPart p) (base : p.code_base % 16 ≡ 0) where
  place : (n : ℕ) → IsPlaceIn p (bundle_place sandbox p n)
  place n = record { base = refl; size = refl; format = refl }

  words_tell : (n k : ℕ) (o next : Owed) (before found : List Finding) → k ≤ 4 → 16 * n + 16 ≤ length p.code → AreFoundInWords (bundle_place sandbox p n) o (bundle_bytes p n) k found next → Tells p (16 * n) o before
      → Tells p (16 * n + 4 * k) next (before ++ found)
  words_tell n zero o next before found few inside h t =
      subst (λ (l : List Finding). Tells p (16 * n + 0) next (before ++ l)) (sym h.0)
      (subst (λ (q : Owed). Tells p (16 * n + 0) q (before ++ [])) (sym h.1)
      (subst (λ (l : List Finding). Tells p (16 * n + 0) o l) (sym (append-nil before))
      (subst (λ (at : ℕ). Tells p at o before) (let s : 16 * n ≡ 16 * n + 0 = omega arith in s) t)))
  words_tell n (suc k) o next before found few inside h t =
      let at = 16 * n + 4 * k in
      let so_far = words_tell n k o h.2 before h.0 (omega arith) inside h.3 t in
      let left : IsLeft p at 4 = record { even = omega arith; ends = omega arith; few = omega arith; inside = omega arith; base = omega (arith, base) } in
      let address : p.code_base + 16 * n + 4 * k ≡ p.code_base + at = omega arith in
      let word = subst (λ (w : List ℕ). IsWordFound (bundle_place sandbox p n) (p.code_base + at) h.2 w h.1 next) (word_of p n k (omega arith) inside)
      (subst (λ (a : ℕ). IsWordFound (bundle_place sandbox p n) a h.2 (take 4 (drop (4 * k) (bundle_bytes p n))) h.1 next) address h.4) in
      let gate : IsGateOf p (bundle_place sandbox p n) (16 * n) (16 * n + 16) = λ a from below. gate_in p n a right base from below in
      let done = word_tells p (bundle_place sandbox p n) (place n) (16 * n) (16 * n + 16) gate at h.2 next (before ++ h.0) h.1 left (omega arith) (omega arith) word so_far in
      subst (λ (a : ℕ). Tells p a next (before ++ found)) (let s : at + 4 ≡ 16 * n + 4 * suc k = omega arith in s)
      (subst (λ (l : List Finding). Tells p (at + 4) next l) (append_assoc before h.0 h.1 ∙ ap (λ (l : List Finding). before ++ l) (sym h.5)) done)

  first_tell : (n : ℕ) (found : List Finding) (next : Owed) → 16 * n ≤ length p.code → AreFoundOfFirst sandbox p n found next → Tells p (16 * n) next found
  first_tell zero found next inside h = subst (λ (l : List Finding). Tells p 0 next l) (sym h.0) (subst (λ (o : Owed). Tells p 0 o []) (sym h.1) (tells_first p))
  first_tell (suc n) found next inside h =
      let so_far = first_tell n h.0 h.2 (omega arith) h.3 in
      let done = words_tell n 4 h.2 next h.0 h.1 (omega arith) (omega arith) h.4 so_far in
      subst (λ (a : ℕ). Tells p a next found) (let s : 16 * n + 16 ≡ 16 * suc n = omega arith in s)
      (subst (λ (l : List Finding). Tells p (16 * n + 16) next l) (sym h.5) done)

pub finds : FindsWhatIsBroken
finds sandbox p found right h =
    let whole = places.bundles_whole p right in
    let all = h.2 in
    told p (16 * h.0) h.1 found (omega arith) (first_tell sandbox p right whole.0 h.0 found h.1 (omega arith) h.3)
