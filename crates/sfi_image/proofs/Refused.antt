-- What is wrong with sandboxes that are to be written.
use Rattle.sfi_image.proofs.Prelude.{suc, ◌≡◌, ℕ, ◌+◌, ◌<◌, ◌≤◌, ◌^◌, List, [], ◌∷◌, ◌++◌, length, get_or, map, take, drop, refl, sym, ap, subst, subst₂, ◌∙◌, arith, inl, inr, ◌⊎◌, Some, None, Option, All, AllPairs, take_more, map_push, All-push, All-append, cases_lt, nat_tests, nat_le, true, false, code_most, data_most, Gate, Fields, Span, LayoutFault, Part, fields_of, AreFieldWords, AreGateWords, AreApart, AreApartWith, AreClear, zone_ends, code_span, code_region, spans_of, spans, IsBounded, gates_most, AreGates, IsRightPart, AreRight, IsFirstFault, field_tests}
use Rattle.sfi_image.specs.Faults.{HasWrongGate, HasFault, HaveFault}
use Rattle.sfi_image.specs.private.{capped, capped_fields}
use Rattle.std.proofs.Math.ListN.{get_or-map}
use Rattle.std.proofs.Math.Seq.{split_at}
use Rattle.sfi_image.specs.declared.fault.LayoutFault.TheVariants as faults
use Rattle.sfi_image.proofs.Formats.{code_at_most, data_at_most}
use Rattle.sfi_image.proofs.Regions.{not_region}
use Rattle.sfi_image.proofs.Tests.{right_part, all_pass, right_bounded, spans_push, zone_ends_push}

-- ---- lengths that no field can hold

test_big : (n : ℕ) → 0xffffffff < n → nat_le n 0xffffffff ≡ false
test_big n h = grind (arith, nat_tests)

test_small : (n : ℕ) → n ≤ 0xffffffff → nat_le n 0xffffffff ≡ true
test_small n h = grind (arith, nat_tests)

-- a number is kept, or it is above each limit and so is what stands for it
pub capped_cases : (n : ℕ) → (capped n ≡ n) ⊎ ((2 ^ 32 ≤ n) × (capped n ≡ 0xffffffff))
capped_cases n = elim (cases_lt 0xffffffff n) [
  | inl big ↦ inr (omega arith, rw (test_big n big) refl)
  | inr small ↦ inl (rw (test_small n small) refl)
]

with_code : (before : List Part) (f : Fields) (m : ℕ) (k : Option LayoutFault) → code_most f.format < f.code_size → code_most f.format < m
    → IsFirstFault before f field_tests k → IsFirstFault before (record f { code_size = m }) field_tests k
with_code before f m k high too (inl h) = absurd (omega (arith, h.0.at_most))
with_code before f m k high too (inr h) = inr (not_region f.code_base m 256 (code_most f.format) (inr (inr too)), h.1)

with_gates : (before : List Part) (f : Fields) (m : ℕ) (k : Option LayoutFault) → gates_most < f.gate_count → gates_most < m
    → IsFirstFault before f field_tests k → IsFirstFault before (record f { gate_count = m }) field_tests k
with_gates before f m k high too (inr h) = inr h
with_gates before f m k high too (inl (a, inr h)) = inl (a, inr h)
with_gates before f m k high too (inl (a, inl (b, inr h))) = inl (a, inl (b, inr h))
with_gates before f m k high too (inl (a, inl (b, inl (c, inr h)))) = inl (a, inl (b, inl (c, inr h)))
with_gates before f m k high too (inl (a, inl (b, inl (c, inl (d, inl h))))) = absurd (omega (arith, h.0))
with_gates before f m k high too (inl (a, inl (b, inl (c, inl (d, inr h))))) = inl (a, inl (b, inl (c, inl (d, inr (λ low. omega arith, h.1)))))

with_init : (before : List Part) (f : Fields) (m : ℕ) (k : Option LayoutFault) → data_most f.format < f.init_len → data_most f.format < m
    → IsFirstFault before f field_tests k → IsFirstFault before (record f { init_len = m }) field_tests k
with_init before f m k high too (inr h) = inr h
with_init before f m k high too (inl (a, inr h)) = inl (a, inr h)
with_init before f m k high too (inl (a, inl (b, inr h))) = inl (a, inl (b, inr h))
with_init before f m k high too (inl (a, inl (b, inl (c, inr h)))) = inl (a, inl (b, inl (c, inr h)))
with_init before f m k high too (inl (a, inl (b, inl (c, inl (d, inr h))))) = inl (a, inl (b, inl (c, inl (d, inr h))))
with_init before f m k high too (inl (a, inl (b, inl (c, inl (d, inl (e, inl h)))))) = absurd (omega (arith, h.0, b.0.at_most))
with_init before f m k high too (inl (a, inl (b, inl (c, inl (d, inl (e, inr h)))))) =
    inl (a, inl (b, inl (c, inl (d, inl (e, inr (λ low. omega (arith, b.0.at_most), h.1))))))

abbrev lengthened : Part → ℕ → ℕ → ℕ → Fields
lengthened p c g i = record (fields_of p) { code_size = c; gate_count = g; init_len = i }

abbrev Fails : List Part → Option LayoutFault → Part → ℕ → ℕ → ℕ → Type 0
Fails before k p c g i = IsFirstFault before (lengthened p c g i) field_tests k

same_code : (before : List Part) (k : Option LayoutFault) (p : Part) (g i : ℕ) → Fails before k p (capped (length p.code)) g i → Fails before k p (length p.code) g i
same_code before k p g i h = elim (capped_cases (length p.code)) [
  | inl same ↦ subst (λ n. Fails before k p n g i) same h
  | inr big ↦ with_code before (lengthened p (capped (length p.code)) g i) (length p.code) k (omega (arith, big.0, code_at_most p.format, big.1)) (omega (arith, big.0, code_at_most p.format)) h
]

same_gates : (before : List Part) (k : Option LayoutFault) (p : Part) (c i : ℕ) → Fails before k p c (capped (length p.gates)) i → Fails before k p c (length p.gates) i
same_gates before k p c i h = elim (capped_cases (length p.gates)) [
  | inl same ↦ subst (λ n. Fails before k p c n i) same h
  | inr big ↦ with_gates before (lengthened p c (capped (length p.gates)) i) (length p.gates) k (omega (arith, big.1)) (omega (arith, big.0)) h
]

same_init : (before : List Part) (k : Option LayoutFault) (p : Part) (c g : ℕ) → Fails before k p c g (capped (length p.init)) → Fails before k p c g (length p.init)
same_init before k p c g h = elim (capped_cases (length p.init)) [
  | inl same ↦ subst (λ n. Fails before k p c g n) same h
  | inr big ↦ with_init before (lengthened p c g (capped (length p.init))) (length p.init) k (omega (arith, big.1, data_at_most p.format)) (omega (arith, big.0, data_at_most p.format)) h
]

-- the first test that fails is the same one
pub uncapped : (before : List Part) (p : Part) (k : Option LayoutFault) → IsFirstFault before (capped_fields p) field_tests k → IsFirstFault before (fields_of p) field_tests k
uncapped before p k h =
    same_init before k p (length p.code) (length p.gates)
    (same_gates before k p (length p.code) (capped (length p.init)) (same_code before k p (capped (length p.gates)) (capped (length p.init)) h))

-- ---- gates

abbrev pub other_gate : Gate
other_gate = record { address = 0; service = 0 }

-- the gate at the place is the first wrong one
pub wrong_gate : (region : Span) (gs : List Gate) (i : ℕ) (d : Gate) → i < length gs → AreGates region (take i gs) → (AreGates region (take i gs ++ get_or gs i d ∷ []) → ⊥) → HasWrongGate region gs
wrong_gate region gs i d lt right wrong = (take i gs, get_or gs i d, drop (suc i) gs, split_at gs i d lt, right, wrong)

-- ---- sandboxes

-- the first sandboxes are right, and these are their spans
pub record StartRight (ps : List Part) (before : List Span) : Type 0 where
  pub each : All IsRightPart ps
  pub spans_are : before ≡ spans ps
  pub bounded : All IsBounded before
  pub apart : AllPairs AreApart before
  pub clear : AreClear (zone_ends ps) before

pub StartRight-push : (ps : List Part) (before : List Span) (p : Part) → StartRight ps before → IsRightPart p → AreApartWith ps (fields_of p)
    → StartRight (ps ++ p ∷ []) (before ++ spans_of (fields_of p))
StartRight-push ps before p start right lies = record {
  each = All-push IsRightPart ps p start.each right;
  spans_are = ap (λ (t : List Span). t ++ spans_of (fields_of p)) start.spans_are ∙ sym (spans_push ps p);
  bounded = All-append IsBounded before (spans_of (fields_of p)) start.bounded (right_bounded p right);
  apart = subst (λ (t : List Span). AllPairs AreApart (t ++ spans_of (fields_of p))) (sym start.spans_are) lies.apart;
  clear = subst₂ AreClear (sym (zone_ends_push ps p)) (ap (λ (t : List Span). t ++ spans_of (fields_of p)) (sym start.spans_are)) lies.clear;
}

pub start_right : (ps : List Part) (before : List Span) → StartRight ps before → AreRight ps
start_right ps before start = record {
  each = start.each;
  apart = subst (AllPairs AreApart) start.spans_are start.apart;
  clear = subst (AreClear (zone_ends ps)) start.spans_are start.clear;
}

-- ---- one sandbox

pub tests_failed : (before : List Part) (p : Part) (f : Fields) (k : LayoutFault) → f ≡ capped_fields p → IsFirstFault before f field_tests (Some k) → HasFault before p k
tests_failed before p f k is h = inl (uncapped before p (Some k) (subst (λ g. IsFirstFault before g field_tests (Some k)) is h))

pub tests_passed : (before : List Part) (p : Part) (f : Fields) → f ≡ capped_fields p → IsFirstFault before f field_tests None → IsFirstFault before (fields_of p) field_tests None
tests_passed before p f is h = uncapped before p None (subst (λ g. IsFirstFault before g field_tests None) is h)

-- fields that pass are their own capped fields
pub code_kept : (before : List Part) (p : Part) → IsFirstFault before (fields_of p) field_tests None → capped (length p.code) ≡ length p.code
code_kept before p (inl h) = elim (capped_cases (length p.code)) [ inl same ↦ same | inr big ↦ absurd (omega (arith, big.0, h.0.at_most, code_at_most p.format)) ]
code_kept before p (inr h) = let e = h.1 in absurd cc

pub gates_failed : (before : List Part) (p : Part) (f : Fields) (gs : List Gate) → f ≡ capped_fields p → IsFirstFault before f field_tests None → gs ≡ p.gates
    → HasWrongGate (code_span f) gs → HasFault before p faults.Gates
gates_failed before p f gs is h same wrong =
    let passed = tests_passed before p f is h in
    let region : code_span f ≡ code_region p = ap code_span is ∙ ap (λ n. code_span (record (fields_of p) { code_size = n })) (code_kept before p passed) in
    inr (passed, subst (λ r. HasWrongGate r p.gates) region (subst (HasWrongGate (code_span f)) same wrong), refl)

-- fields that pass are words
passed_words : (before : List Part) (p : Part) → IsFirstFault before (fields_of p) field_tests None → AreFieldWords (capped_fields p) → AreFieldWords (fields_of p)
passed_words before p passed words =
    let all = all_pass before (fields_of p) field_tests passed in
    record {
      code_base = words.code_base;
      code_size = omega (arith, all.0.at_most, code_at_most p.format);
      data_base = words.data_base;
      data_size = words.data_size;
      start = words.start;
      gate_count = omega (arith, all.1.1.1.1.0);
      init_len = omega (arith, all.1.1.1.1.1.0, all.1.0.0.at_most, data_at_most p.format);
    }

pub all_passed : (before : List Part) (p : Part) (f : Fields) (gs : List Gate) → f ≡ capped_fields p → IsFirstFault before f field_tests None → gs ≡ p.gates
    → AreFieldWords f → AreGates (code_span f) gs → All AreGateWords gs → IsRightPart p × AreApartWith before (fields_of p)
all_passed before p f gs is h same fits right words =
    let passed = tests_passed before p f is h in
    let region : code_span f ≡ code_region p = ap code_span is ∙ ap (λ n. code_span (record (fields_of p) { code_size = n })) (code_kept before p passed) in
    right_part before p (fields_of p) refl (passed_words before p passed (subst AreFieldWords is fits)) passed (subst (All AreGateWords) same words)
    (subst (λ r. AreGates r p.gates) region (subst (AreGates (code_span f)) same right))

-- ---- all

pub wrong_part : (ps : List Part) (i : ℕ) (p : Part) (before : List Span) (k : LayoutFault) → 1 ≤ length ps → length ps ≤ 16 → i < length ps → get_or ps i p ≡ p
    → StartRight (take i ps) before → HasFault (take i ps) p k → HaveFault ps k
wrong_part ps i p before k least most lt is start h =
    let split : ps ≡ take i ps ++ p ∷ drop (suc i) ps = split_at ps i p lt ∙ ap (λ q. take i ps ++ q ∷ drop (suc i) ps) is in
    inr (least, most, (take i ps, p, drop (suc i) ps, split, start_right (take i ps) before start, h))

-- the spans that the code adds are the sandbox's
pub same_spans : (p : Part) (f : Fields) → f ≡ capped_fields p → IsRightPart p → spans_of f ≡ spans_of (fields_of p)
same_spans p f is right =
    let kept : capped (length p.code) ≡ length p.code = elim (capped_cases (length p.code)) [ inl same ↦ same | inr big ↦ absurd (omega (arith, big.0, right.code_placed.at_most, code_at_most p.format)) ] in
    ap spans_of is ∙ ap (λ n. spans_of (record (fields_of p) { code_size = n })) kept

-- ---- by what they stand for

pub map_at : {X Y : Type 0} (f : X → Y) (xs : List X) (i : ℕ) (x : X) → x ≡ get_or xs i x → get_or (map f xs) i (f x) ≡ f x
map_at f xs i x is = get_or-map f xs i x ∙ ap f (sym is)

pub map_more_at : {X Y : Type 0} (f : X → Y) (xs : List X) (i : ℕ) (x : X) → i < length xs → x ≡ get_or xs i x → map f (take (i + 1) xs) ≡ map f (take i xs) ++ f x ∷ []
map_more_at f xs i x lt is = ap (map f) (take_more xs i x lt) ∙ map_push f (take i xs) (get_or xs i x) ∙ ap (λ y. map f (take i xs) ++ f y ∷ []) (sym is)
