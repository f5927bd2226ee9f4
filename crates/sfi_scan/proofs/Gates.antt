-- A part's code from gate to gate: each stretch begins at one, but the first, and no gate lies within.
use Rattle.sfi_scan.proofs.Prelude.{◌++◌, bundle_bytes, ◌≡◌, ℕ, zero, suc, ◌+◌, ◌-◌, ◌*◌, ◌<◌, ◌≤◌, ◌==◌, ◌⊎◌, Bool, true, false, List, [], ◌∷◌, length, take, drop, get_or, inl, inr, refl, sym, ap, ◌∙◌, subst, arith, ne_eqb, length-drop, length-take, BundlePlace, Finding, Part, bundle_place, block_bundle, eq-eqb, ◌/◌, Owed, Nothing, AreFoundUpTo, stretch_place}
use Rattle.std.proofs.lemmas.List.{get_or_default}
use Rattle.std.proofs.lemmas.Bool.{or_right}
use Rattle.sfi_image.specs.Parts.{is_gate_of, IsRightPart}
use Rattle.sfi_image.specs.declared.part.Gate.{Gate}
use Rattle.sfi_image.proofs.Facts.{whole_bundles}
use Rattle.sfi_rules.proofs.Facts.{none_found}
use Rattle.sfi_scan.specs.Stretches.{IsStretch, AreFoundInStretch, Lists}
use Rattle.sfi_scan.proofs.WordStretches.{found_in_part}
use Rattle.sfi_scan.proofs.Stretches.{front_bundle, rest_bundle}

-- ---- gates

-- what stands past the last gate
abbrev unlisted : Gate
unlisted = record { address = 0; service = 0 }

-- none of the gates is at the address
no_gate : (gs : List Gate) (a : ℕ) → ((k : ℕ) (d : Gate) → k < length gs → (get_or gs k d).address ≡ a → ⊥) → is_gate_of gs a ≡ false
no_gate [] a none = refl
no_gate (g ∷ gs) a none = rw (ne_eqb g.address a (λ e. none 0 g (omega arith) e)) (no_gate gs a (λ k d less e. none (suc k) d (omega arith) e))

-- one of them is
one_gate : (gs : List Gate) (k : ℕ) (d : Gate) → k < length gs → is_gate_of gs (get_or gs k d).address ≡ true
one_gate [] k d less = absurd (omega arith)
one_gate (g ∷ gs) zero d less = rw (eq-eqb g.address g.address refl) refl
one_gate (g ∷ gs) (suc k) d less = rw (one_gate gs k d (omega arith)) (or_right (g.address == (get_or gs k d).address) true refl)

-- ---- where the scan stands

-- the bytes before `at` are scanned: up to the gate before gate `i`, or none if `i` is 0
pub record IsAtGate (sandbox : ℕ) (p : Part) (i : ℕ) (b : BundlePlace) (at : ℕ) (found : List Finding) (owed : Owed) (lacks : Bool) : Type 0 where
  pub bundles : ℕ
  pub at_is : at ≡ 16 * bundles
  pub inside : at < length p.code
  pub place_is : b ≡ record (bundle_place sandbox p bundles) { listed = b.listed }
  pub last : ((i ≡ 0) × (at ≡ 0) × (b.listed ≡ false)) ⊎ ((j : ℕ) × (i ≡ j + 1) × (j < length p.gates) × (b.listed ≡ true) × ((d : Gate) → (get_or p.gates j d).address ≡ p.code_base + at))
  pub found_are : lacks ≡ false → AreFoundUpTo sandbox p bundles found owed

-- up to that gate, or to the code's end
pub record IsNext (p : Part) (i at end n : ℕ) : Type 0 where
  pub end_is : end ≡ at + 16 * n
  pub inside : end ≤ length p.code
  pub gates : (k : ℕ) (d : Gate) → i ≤ k → k < length p.gates → p.code_base + end ≤ (get_or p.gates k d).address

module _ {sandbox : ℕ} {p : Part} {i : ℕ} {b : BundlePlace} {at end n : ℕ} {found : List Finding} {owed : Owed} {lacks : Bool} (right : IsRightPart p) (here : IsAtGate sandbox p i b at found owed lacks) (next : IsNext p i at end n) where
  -- no gate lies between
  between : (m : ℕ) → 0 < m → m < n → is_gate_of p.gates (p.code_base + at + 16 * m) ≡ false
  between m some less =
      no_gate p.gates (p.code_base + at + 16 * m) (λ k d inside e. elim here.last [
        | inl first ↦ (let zero = first.0 in let after = next.gates k d (omega arith) inside in let end_is = next.end_is in omega arith)
        | inr one ↦ (
            let i_is = one.1 in
            let gate_is = one.4 d in
            let end_is = next.end_is in
            let before : k < one.0 → ⊥ = λ lt. let up = right.gates.ascending k one.0 d lt one.2 in omega arith in
            let same : k ≡ one.0 → ⊥ = λ is. let at_k : (get_or p.gates k d).address ≡ p.code_base + at = ap (λ (x : ℕ). (get_or p.gates x d).address) is ∙ gate_is in omega arith in
            let beyond : one.0 < k → ⊥ = λ lt. let after = next.gates k d (omega arith) inside in omega arith in
            let none : (k < one.0) ⊎ ((k ≡ one.0) ⊎ (one.0 < k)) = grind arith in
            elim none [ inl x ↦ before x | inr y ↦ elim y [ inl x ↦ same x | inr x ↦ beyond x ] ])
      ])

  -- whether one lies where the stretch begins, if it has a bundle
  at_begin : 0 < n → b.listed ≡ is_gate_of p.gates (p.code_base + at)
  at_begin some =
      elim here.last [
        | inl first ↦ first.2 ∙ sym (no_gate p.gates (p.code_base + at) (λ k d inside e. let zero = first.0 in let after = next.gates k d (omega arith) inside in let end_is = next.end_is in omega arith))
        | inr one ↦ one.3 ∙ sym (one_gate p.gates one.0 unlisted one.2) ∙ ap (is_gate_of p.gates) (one.4 unlisted)
      ]

  -- the stretch's places are those of the part
  places : (m : ℕ) → m < n → stretch_place b m ≡ bundle_place sandbox p (here.bundles + m)
  places zero less =
      let listed = at_begin less ∙ ap (λ (x : ℕ). is_gate_of p.gates (p.code_base + x)) here.at_is in
      here.place_is ∙ ap (λ (l : Bool). record (bundle_place sandbox p here.bundles) { listed = l }) listed ∙ ap (bundle_place sandbox p) (let e : here.bundles ≡ here.bundles + 0 = omega arith in e)
  places (suc m) less =
      let at_is = here.at_is in
      let address : p.code_base + 16 * here.bundles + 16 * suc m ≡ p.code_base + 16 * (here.bundles + suc m) = omega arith in
      let gate : p.code_base + at + 16 * suc m ≡ p.code_base + 16 * (here.bundles + suc m) = omega arith in
      let free = ap (is_gate_of p.gates) (sym gate) ∙ between (suc m) (omega arith) less in
      ap (λ (x : BundlePlace). stretch_place x (suc m)) here.place_is
      ∙ ap (λ (a : ℕ). record (bundle_place sandbox p here.bundles) { address = a; listed = false }) address
      ∙ ap (λ (l : Bool). record (bundle_place sandbox p (here.bundles + suc m)) { listed = l }) (sym free)

  -- its bytes
  pub next_stretch : IsStretch b (take (end - at) (drop at p.code)) n
  next_stretch =
      let whole = whole_bundles p.format p.code_base (length p.code) right.code_base right.code_placed in
      let end_is = next.end_is in
      let inside = next.inside in
      let at_is = here.at_is in
      let cut = length-take (end - at) (drop at p.code) in
      let rest = length-drop at p.code in
      let base = ap (λ (x : BundlePlace). x.code_base) here.place_is in
      let size = ap (λ (x : BundlePlace). x.code_size) here.place_is in
      let address = ap (λ (x : BundlePlace). x.address) here.place_is in
      let limit = whole.4 in
      record { whole = omega arith; base = omega arith; end = omega arith; addresses = omega arith }

  -- the findings with those of its bundles
  pub next_found : {new : List Finding} {lacks' : Bool} (more : List Finding) (next_owed : Owed) → AreFoundInStretch b owed (take (end - at) (drop at p.code)) n more next_owed → Lists found lacks more new lacks' → lacks' ≡ false
      → AreFoundUpTo sandbox p (here.bundles + n) new next_owed
  next_found {new = new} more next_owed are lists has =
      let old : (lacks ≡ false) × (new ≡ found ++ more) = lists has in
      let cut : end - at ≡ 16 * n = let end_is = next.end_is in omega arith in
      let bytes_are : take (end - at) (drop at p.code) ≡ take (16 * n) (drop (16 * here.bundles) p.code) = ap (λ (m : ℕ). take m (drop at p.code)) cut ∙ ap (λ (m : ℕ). take (16 * n) (drop m p.code)) here.at_is in
      let each : (m : ℕ) → m < n → block_bundle (take (end - at) (drop at p.code)) m ≡ bundle_bytes p (here.bundles + m) =
      λ m less. ap (λ (l : List ℕ). block_bundle l m) bytes_are ∙ front_bundle n m (drop (16 * here.bundles) p.code) less ∙ rest_bundle here.bundles m p.code in
      subst (λ (l : List Finding). AreFoundUpTo sandbox p (here.bundles + n) l next_owed) (sym old.1)
      (found_in_part sandbox p b (take (end - at) (drop at p.code)) here.bundles n found more owed next_owed (ap (λ (x : BundlePlace). x.format) here.place_is) places each (here.found_are old.0) are)

-- ---- where it goes on

-- a gate at the address lies within the code, and the stretch goes up to it
pub record IsBefore (p : Part) (i at a : ℕ) : Type 0 where
  pub low : p.code_base + at ≤ a
  pub high : a < p.code_base + length p.code
  pub next : IsNext p i at (a - p.code_base) ((a - p.code_base - at) / 16)

-- the gates of the loop, whose addresses are the part's
module _ {sandbox : ℕ} {p : Part} {i : ℕ} {b : BundlePlace} {at : ℕ} {found : List Finding} {owed : Owed} {lacks : Bool} (right : IsRightPart p) (here : IsAtGate sandbox p i b at found owed lacks) {gates : List Gate} (same : gates ≡ p.gates) where
  is_at : i < length gates → (d : Gate) → (get_or p.gates i d).address ≡ (get_or gates i unlisted).address
  is_at less d =
      let inside : i < length p.gates = omega (arith, ap length same, less) in
      ap (λ (g : Gate). g.address) (get_or_default p.gates i d unlisted inside) ∙ ap (λ (l : List Gate). (get_or l i unlisted).address) (sym same)

  -- the stretch to the next gate
  pub next_gate : i < length gates → IsBefore p i at (get_or gates i unlisted).address
  next_gate short =
      let a = (get_or gates i unlisted).address in
      let less : i < length p.gates = omega (arith, ap length same, short) in
      let whole = whole_bundles p.format p.code_base (length p.code) right.code_base right.code_placed in
      let start = right.gates.starts i unlisted less in
      let low = start.held.0 in
      let high = start.held.1 in
      let even = start.aligned in
      let a_is = is_at short unlisted in
      let base_is = whole.3 in
      let at_is = here.at_is in
      let on : p.code_base + at ≤ a = elim here.last [
        | inl first ↦ (let zero = first.1 in omega arith)
        | inr one ↦ (let i_is = one.1 in let gate_is = one.4 unlisted in let up = right.gates.ascending one.0 i unlisted (omega arith) less in omega arith)
      ] in
      record {
        low = on;
        high = omega arith;
        next = record {
          end_is = omega arith;
          inside = omega arith;
          gates = λ k e from inside. elim (cases_le i k from) [
            | inl same_one ↦ (let at_k : (get_or p.gates k e).address ≡ a = ap (λ (x : ℕ). (get_or p.gates x e).address) (sym same_one) ∙ is_at short e in omega arith)
            | inr more ↦ (let up = right.gates.ascending i k e more inside in let at_i = is_at short e in omega arith)
          ];
        };
      }
    where
      cases_le : (i k : ℕ) → i ≤ k → (i ≡ k) ⊎ (i < k)
      cases_le i k h = grind arith

  -- the stretch to the code's end
  pub next_end : length gates ≤ i → IsNext p i at (length p.code) ((length p.code - at) / 16)
  next_end over =
      let count = ap length same in
      let whole = whole_bundles p.format p.code_base (length p.code) right.code_base right.code_placed in
      let size_is = whole.2 in
      let at_is = here.at_is in
      let inside = here.inside in
      record { end_is = omega arith; inside = omega arith; gates = λ k e from less. absurd (omega arith) }

  -- the code up to it is scanned
  pub at_next : {j : ℕ} {c : BundlePlace} {end : ℕ} {new : List Finding} {next_owed : Owed} {lacks' : Bool} (more : List Finding) → i < length gates → j ≡ i + 1 → end ≡ (get_or gates i unlisted).address - p.code_base
      → c ≡ record b { address = (get_or gates i unlisted).address; listed = true } → AreFoundInStretch b owed (take (end - at) (drop at p.code)) ((end - at) / 16) more next_owed → Lists found lacks more new lacks'
      → IsAtGate sandbox p j c end new next_owed lacks'
  at_next {end = end} {next_owed = next_owed} more less on end_is place are lists =
      let a = (get_or gates i unlisted).address in
      let next = next_gate less in
      let n = (end - at) / 16 in
      let low = next.low in
      let high = next.high in
      let at_is = here.at_is in
      let next_is = subst (λ (e : ℕ). IsNext p i at e ((e - at) / 16)) (sym end_is) next.next in
      let step = next_is.end_is in
      let address : a ≡ p.code_base + 16 * (here.bundles + n) = omega arith in
      record {
        bundles = here.bundles + n;
        at_is = omega arith;
        inside = omega arith;
        place_is = place ∙ ap (λ (x : BundlePlace). record x { address = a; listed = true }) here.place_is ∙ ap (λ (x : ℕ). record (bundle_place sandbox p 0) { address = x; listed = true }) address
            ∙ ap (λ (l : Bool). record (bundle_place sandbox p (here.bundles + n)) { listed = l }) (sym (ap (λ (x : BundlePlace). x.listed) place));
        last = inr (i, on, omega (arith, ap length same, less), ap (λ (x : BundlePlace). x.listed) place, λ d. is_at less d ∙ (let e : a ≡ p.code_base + end = omega arith in e));
        found_are = next_found right here next_is more next_owed are lists;
      }

-- at first
pub at_first : (sandbox : ℕ) (p : Part) → IsRightPart p → IsAtGate sandbox p 0 (record (bundle_place sandbox p 0) { address = p.code_base; listed = false }) 0 [] Nothing false
at_first sandbox p right =
    let least = right.code_placed.at_least in
    record {
      bundles = 0;
      at_is = refl;
      inside = omega arith;
      place_is = ap (λ (a : ℕ). record (bundle_place sandbox p 0) { address = a; listed = false }) (let e : p.code_base ≡ p.code_base + 16 * 0 = omega arith in e);
      last = inl (refl, refl, refl);
      found_are = λ has. none_found sandbox p;
    }
