-- Each test of a layout is passed or not.
use Rattle.sfi_image.proofs.Prelude.{◌≡◌, ℕ, ◌+◌, ◌%◌, ◌<◌, ◌≤◌, List, [], ◌∷◌, ◌++◌, refl, arith, ◌⊎◌, inl, inr, suc, Option, Some, None, count_ones, All, AllPairs, cases_lt, cases_eq, eqb-true, eq-eqb, All-nil, All-cons, All-head, All-tail, code_most, data_most, has_single_mask, Bool, true, false, Gate, Part, AreApartWith, AreClear, IsClear, zone_end, zone_ends_of, zone_ends, spans, data_span, IsOneBit, IsClearOfZero, Fields, Span, LayoutFault, Holds, AreApart, code_span, spans_of, IsRegion, HasGuardRoom, IsBundleStart, gates_most, service_most, AreGates, FieldTest, Passes, IsFirstFault, fault_of}
use Rattle.sfi_image.specs.FieldTests.FieldTest.{Code, Data, GuardRoom, Start, Gates, Init, Overlap}
use Rattle.std.proofs.lemmas.List.Kept.{AllPairs-cons}
use Rattle.sfi_image.proofs.Regions.{region_test, not_region, one_bit_test}

abbrev pub Decided : Type 0 → Type 0
Decided P = P ⊎ (¬ P)

-- ---- numbers and lists

pub decided_le : (a b : ℕ) → Decided (a ≤ b)
decided_le a b = elim (cases_lt b a) [ inl lt ↦ inr (λ h. omega arith) | inr le ↦ inl le ]

pub decided_lt : (a b : ℕ) → Decided (a < b)
decided_lt a b = elim (cases_lt a b) [ inl lt ↦ inl lt | inr le ↦ inr (λ h. omega arith) ]

pub decided_both : {P Q : Type 0} → Decided P → Decided Q → Decided (P × Q)
decided_both (inl p) (inl q) = inl (p, q)
decided_both (inl p) (inr q) = inr (λ both. q both.1)
decided_both (inr p) q = inr (λ both. p both.0)

-- what is the same as something decided
decided_as : {P Q : Type 0} → (P → Q) → (Q → P) → Decided P → Decided Q
decided_as to from (inl p) = inl (to p)
decided_as to from (inr not) = inr (λ q. not (from q))

pub decided_same : (xs ys : List ℕ) → Decided (xs ≡ ys)
decided_same [] [] = inl refl
decided_same [] (y ∷ ys) = inr (λ e. absurd cc)
decided_same (x ∷ xs) [] = inr (λ e. absurd cc)
decided_same (x ∷ xs) (y ∷ ys) = decided_as (λ both. rw (both.0, both.1) refl) (λ e. (cc, cc)) (decided_both (cases_eq x y) (decided_same xs ys))

pub decided_all : {X : Type 0} (P : X → Type 0) → ((x : X) → Decided (P x)) → (xs : List X) → Decided (All P xs)
decided_all P each [] = inl (All-nil P)
decided_all P each (x ∷ xs) = decided_as (λ both. All-cons P x xs both.0 both.1) (λ all. (All-head P x xs all, All-tail P x xs all)) (decided_both (each x) (decided_all P each xs))

pairs_head : {X : Type 0} (R : X → X → Type 0) (x : X) (xs : List X) → AllPairs R (x ∷ xs) → All (R x) xs
pairs_head R x xs pairs k d lt = pairs 0 (suc k) d (omega arith) (omega arith)

pairs_tail : {X : Type 0} (R : X → X → Type 0) (x : X) (xs : List X) → AllPairs R (x ∷ xs) → AllPairs R xs
pairs_tail R x xs pairs i j d lt within = pairs (suc i) (suc j) d (omega arith) (omega arith)

pub decided_pairs : {X : Type 0} (R : X → X → Type 0) → ((x y : X) → Decided (R x y)) → (xs : List X) → Decided (AllPairs R xs)
decided_pairs R each [] = inl (λ i j d lt within. absurd (omega arith))
decided_pairs R each (x ∷ xs) =
    decided_as (λ both. AllPairs-cons R x xs both.0 both.1) (λ pairs. (pairs_head R x xs pairs, pairs_tail R x xs pairs))
    (decided_both (decided_all (R x) (each x) xs) (decided_pairs R each xs))

-- ---- spans

decided_holds : (s : Span) (at : ℕ) → Decided (Holds s at)
decided_holds s at = decided_both (decided_le s.base at) (decided_lt at (s.base + s.size))

-- two spans meet where they meet at the higher of their bases
apart_unless_there : (s t : Span) (at : ℕ) → s.base ≤ at → t.base ≤ at → (at ≡ s.base) ⊎ (at ≡ t.base) → ¬ (Holds s at × Holds t at) → AreApart s t
apart_unless_there s t at one other (inl is) not = λ x in_s in_t. not ((one, omega arith), (other, omega arith))
apart_unless_there s t at one other (inr is) not = λ x in_s in_t. not ((one, omega arith), (other, omega arith))

apart_there : (s t : Span) (at : ℕ) → s.base ≤ at → t.base ≤ at → (at ≡ s.base) ⊎ (at ≡ t.base) → Decided (AreApart s t)
apart_there s t at one other is =
    elim (decided_both (decided_holds s at) (decided_holds t at)) [
      | inl both ↦ inr (λ apart. apart at both.0 both.1)
      | inr not ↦ inl (apart_unless_there s t at one other is not)
    ]

pub decided_apart : (s t : Span) → Decided (AreApart s t)
decided_apart s t =
    elim (cases_lt s.base t.base) [
      | inl lt ↦ apart_there s t t.base (omega arith) (omega arith) (inr refl)
      | inr le ↦ apart_there s t s.base (omega arith) (omega arith) (inl refl)
    ]

-- ---- regions

region_by_base : (base size least most : ℕ) → count_ones size ≡ 1 → least ≤ size → size ≤ most → Decided (IsRegion base size least most)
region_by_base base size least most ones low high =
    let test = region_test base size least most ones low high in
    elim (cases_eq (base % size) 0) [
      | inl even ↦ inl (test.0 (eq-eqb _ _ even))
      | inr odd ↦ inr (λ r. odd (eqb-true _ _ (test.1 r)))
    ]

region_by_bounds : (base size least most : ℕ) → count_ones size ≡ 1 → Decided (IsRegion base size least most)
region_by_bounds base size least most ones =
    elim (cases_lt size least) [
      | inl low ↦ inr (not_region base size least most (inr (inl low)))
      | inr from ↦ elim (cases_lt most size) [
        | inl high ↦ inr (not_region base size least most (inr (inr high)))
        | inr to ↦ region_by_base base size least most ones from to
      ]
    ]

pub decided_region : (base size least most : ℕ) → Decided (IsRegion base size least most)
decided_region base size least most =
    elim (cases_eq (count_ones size) 1) [
      | inl one ↦ region_by_bounds base size least most one
      | inr more ↦ inr (not_region base size least most (inl more))
    ]

pub decided_guard_room : (base size : ℕ) → Decided (HasGuardRoom base size)
decided_guard_room base size =
    decided_as (λ both. record { below = both.0; above = both.1 }) (λ room. (room.below, room.above)) (decided_both (decided_le 4096 base) (decided_le (base + size + 4096) 4294967296))

decided_bundle_start : (region : Span) (at : ℕ) → Decided (IsBundleStart region at)
decided_bundle_start region at =
    decided_as (λ both. record { held = both.0; aligned = both.1 }) (λ start. (start.held, start.aligned)) (decided_both (decided_holds region at) (cases_eq (at % 16) 0))

-- ---- gates

pub decided_gates : (region : Span) (gs : List Gate) → Decided (AreGates region gs)
decided_gates region gs =
    let starts = decided_all (λ (g : Gate). IsBundleStart region g.address) (λ g. decided_bundle_start region g.address) gs in
    let services = decided_all (λ (g : Gate). g.service ≤ service_most) (λ g. decided_le g.service service_most) gs in
    let ascending = decided_pairs (λ (g h : Gate). g.address < h.address) (λ g h. decided_lt g.address h.address) gs in
    decided_as (λ all. record { starts = all.0; services = all.1.0; ascending = all.1.1 }) (λ are. (are.starts, (are.services, are.ascending))) (decided_both starts (decided_both services ascending))

-- ---- what formats with single masks ask

-- what is asked under a condition
decided_where : {P : Type 0} (b : Bool) → Decided P → Decided (b ≡ true → P)
decided_where true (inl p) = inl (λ is. p)
decided_where true (inr not) = inr (λ f. not (f refl))
decided_where false d = inl (λ is. absurd cc)

pub decided_one_bit : (base size : ℕ) → Decided (IsOneBit base size)
decided_one_bit base size =
    decided_as (λ both. (one_bit_test base size).0 both) (λ one. (one_bit_test base size).1 one) (decided_both (cases_eq (count_ones base) 1) (decided_le size base))

pub decided_clear : (code_at data_at : Span) → Decided (IsClearOfZero code_at data_at)
decided_clear code_at data_at =
    decided_as (λ all. record { code_above = all.0; data_above = all.1.0; code_below = all.1.1 }) (λ clear. (clear.code_above, (clear.data_above, clear.code_below)))
    (decided_both (decided_le (zone_end data_at.size) code_at.base) (decided_both (decided_le (zone_end data_at.size) data_at.base) (decided_le (code_at.base + code_at.size + 4096) 4294967296)))

decided_clear_of : (end : ℕ) (s : Span) → Decided (IsClear end s)
decided_clear_of end s =
    decided_as (λ both. record { above = both.0; below = both.1 }) (λ clear. (clear.above, clear.below)) (decided_both (decided_le end s.base) (decided_le (s.base + s.size + 4096) 4294967296))

pub decided_all_clear : (ends : List ℕ) (ss : List Span) → Decided (AreClear ends ss)
decided_all_clear ends ss = decided_all (λ (s : Span). All (λ end. IsClear end s) ends) (λ s. decided_all (λ end. IsClear end s) (λ end. decided_clear_of end s) ends) ss

decided_apart_with : (before : List Part) (f : Fields) → Decided (AreApartWith before f)
decided_apart_with before f =
    decided_as (λ both. record { apart = both.0; clear = both.1 }) (λ lies. (lies.apart, lies.clear))
    (decided_both (decided_pairs AreApart decided_apart (spans before ++ spans_of f)) (decided_all_clear (zone_ends before ++ zone_ends_of f) (spans before ++ spans_of f)))

-- ---- the tests of the fields

pub decided_test : (before : List Part) (f : Fields) (t : FieldTest) → Decided (Passes before f t)
decided_test before f Code = decided_region f.code_base f.code_size 256 (code_most f.format)
decided_test before f Data =
    decided_both (decided_region f.data_base f.data_size 256 (data_most f.format)) (decided_where (has_single_mask f.format) (decided_one_bit f.data_base f.data_size))
decided_test before f GuardRoom =
    decided_both (decided_guard_room f.data_base f.data_size) (decided_where (has_single_mask f.format) (decided_clear (code_span f) (data_span f)))
decided_test before f Start = decided_bundle_start (code_span f) f.start
decided_test before f Gates = decided_le f.gate_count gates_most
decided_test before f Init = decided_le f.init_len f.data_size
decided_test before f Overlap = decided_apart_with before f

-- one of the tests is the first that fails, or none does
pub some_first_fault : (before : List Part) (f : Fields) (ts : List FieldTest) → (found : Option LayoutFault) × IsFirstFault before f ts found
some_first_fault before f [] = (None, refl)
some_first_fault before f (t ∷ ts) =
    elim (decided_test before f t) [
      | inl passed ↦ let rest = some_first_fault before f ts in (rest.0, inl (passed, rest.1))
      | inr failed ↦ (Some (fault_of t), inr (failed, refl))
    ]
