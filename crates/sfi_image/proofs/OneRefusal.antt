-- Sandboxes that are to be written have one fault at most, that of their bytes.
use Rattle.sfi_image.proofs.Prelude.{◌≡◌, ℕ, ◌≤◌, List, [], ◌∷◌, ◌++◌, length, refl, sym, ap, subst, ◌∙◌, arith, append_assoc, inl, inr, ◌⊎◌, Some, None, Result, Ok, Err, IfErr, All, flat_map, flat_map-append, length-append, All-cons, All-head, All-tail, Format, LayoutFault, Part, format_of, fields_of, gate, part, number, spelling, AreGateWords, AreWords, AreApartWith, code_region, AreGates, IsRightPart, AreOf, AreRight, IsRightLayout, field_tests, IsBodyFault, IsPartFault, ArePartsFault, IsFault, IfLayout}
use Rattle.sfi_image.specs.Faults.{HasWrongGate, HasFault, HasWrongPart, HaveFault}
use Rattle.sfi_image.specs.declared.fault.ImageFault.{ImageFault}
use Rattle.sfi_image.specs.private.{Reads}
use Rattle.std.proofs.Common.{append-nil}
use Rattle.sfi_image.specs.declared.fault.LayoutFault.TheVariants as faults
use Rattle.sfi_image.specs.declared.fault.ImageFault.TheVariants as errors
use Rattle.sfi_image.proofs.Tests.{front_gates, flat_split, middle_apart, part_passes}
use Rattle.sfi_image.proofs.Regions.{right_words}
use Rattle.sfi_image.proofs.Fronts.{part_split}
use Rattle.sfi_image.proofs.OneReading.{one_field_fault, same_some, not_some, no_fault}

-- ---- what is wrong is the fault of the bytes

all_front : {X : Type 0} (P : X → Type 0) (xs ys : List X) → All P (xs ++ ys) → All P xs
all_front P [] ys all = λ k d lt. absurd (omega arith)
all_front P (x ∷ xs) ys all = All-cons P x xs (All-head P x (xs ++ ys) all) (all_front P xs ys (All-tail P x (xs ++ ys) all))

all_middle : {X : Type 0} (P : X → Type 0) (xs : List X) (y : X) (ys : List X) → All P (xs ++ y ∷ ys) → P y
all_middle P [] y ys all = All-head P y ys all
all_middle P (x ∷ xs) y ys all = all_middle P xs y ys (All-tail P x (xs ++ y ∷ ys) all)

-- too few gates are read before the wrong one
gate_fault : (p : Part) (rest : List ℕ) → All AreGateWords p.gates → HasWrongGate (code_region p) p.gates
    → IsBodyFault (fields_of p) (flat_map gate p.gates ++ rest) faults.Gates
gate_fault p rest words (front, g, more, split, right, wrong) =
    let w = subst (All AreGateWords) split words in
    let count = ap length split ∙ length-append front (g ∷ more) in (
      front,
      gate g ++ (flat_map gate more ++ rest),
      ap (λ gs. flat_map gate gs ++ rest) split ∙ flat_split gate front g more rest,
      all_front AreGateWords front (g ∷ more) w,
      right,
      inr (inl (omega (arith, count), g, flat_map gate more ++ rest, refl, all_middle AreGateWords front g more w, wrong, refl)),
    )

part_fault : (before : List Part) (p : Part) (rest : List ℕ) (k : LayoutFault) → AreWords p → HasFault before p k → IsPartFault p.format before (part p ++ rest) k
part_fault before p rest k words (inl h) = inr (fields_of p, flat_map gate p.gates ++ (p.code ++ (p.init ++ rest)), part_split p rest, words.fields, refl, inl h)
part_fault before p rest k words (inr h) =
    inr (
      fields_of p,
      flat_map gate p.gates ++ (p.code ++ (p.init ++ rest)),
      part_split p rest,
      words.fields,
      refl,
      inr (h.0, subst (IsBodyFault (fields_of p) (flat_map gate p.gates ++ (p.code ++ (p.init ++ rest)))) (sym h.2) (gate_fault p (p.code ++ (p.init ++ rest)) words.gates h.1)),
    )

parts_fault : (format : Format) (ps : List Part) (k : LayoutFault) → AreOf format ps → All AreWords ps → HasWrongPart ps k → ArePartsFault format (length ps) (flat_map part ps) k
parts_fault format ps k are words (front, p, more, split, right, wrong) =
    let w = subst (All AreWords) split words in
    let are' = subst (AreOf format) split are in
    let count = ap length split ∙ length-append front (p ∷ more) in
    let bytes : flat_map part ps ≡ flat_map part front ++ (part p ++ flat_map part more) =
    sym (append-nil (flat_map part ps)) ∙ ap (λ qs. flat_map part qs ++ []) split ∙ flat_split part front p more [] ∙ ap (λ t. flat_map part front ++ (part p ++ t)) (append-nil (flat_map part more)) in (
      front,
      part p ++ flat_map part more,
      bytes,
      right,
      all_front (λ (q : Part). q.format ≡ format) front (p ∷ more) are',
      inl (omega (arith, count), subst (λ (f : Format). IsPartFault f front (part p ++ flat_map part more) k) (all_middle (λ (q : Part). q.format ≡ format) front p more are') (part_fault front p (flat_map part more) k (all_middle AreWords front p more w) wrong)),
    )

pub as_read : (ps : List Part) (k : LayoutFault) → length ps ≤ 16 → AreOf (format_of ps) ps → All AreWords ps → HaveFault ps k → IsFault (spelling ps) k
unfolding spelling
as_read ps k most are words (inl h) = inr (inr (format_of ps, number (length ps) ++ flat_map part ps, refl, inr (length ps, flat_map part ps, refl, omega arith, inl h)))
as_read ps k most are words (inr h) =
    inr (inr (format_of ps, number (length ps) ++ flat_map part ps, refl, inr (length ps, flat_map part ps, refl, omega arith, inr (h.0, h.1, parts_fault (format_of ps) ps k are words h.2))))

-- right sandboxes have no fault
pub none_of_right : (ps : List Part) (k : LayoutFault) → IsRightLayout ps → HaveFault ps k → ⊥
none_of_right ps k right h =
    let words : All AreWords ps = λ i d lt. right_words _ (right.right.each i d lt) in
    no_fault (spelling ps) ps k (record { bytes_are = refl; layout = right }) (as_read ps k right.at_most right.one_format words h)

-- ---- one fault

-- a list goes on with an element where another ends
abbrev Goes : {X : Type 0} → List X → List X → X → Type 0
Goes {X = X} xs ys y = (more : List X) × (xs ≡ ys ++ y ∷ more)

same_split : {X : Type 0} (xs ys : List X) (x y : X) (r s : List X) → xs ++ x ∷ r ≡ ys ++ y ∷ s → ((xs ≡ ys) × (x ≡ y)) ⊎ (Goes xs ys y ⊎ Goes ys xs x)
same_split [] [] x y r s e = inl (refl, cc)
same_split [] (z ∷ ys) x y r s e = inr (inr (ys, ap (λ w. w ∷ ys) (cc)))
same_split (z ∷ xs) [] x y r s e = inr (inl (xs, ap (λ w. w ∷ xs) (cc)))
same_split (w ∷ xs) (z ∷ ys) x y r s e =
    let head : w ≡ z = cc in
    let tail : xs ++ x ∷ r ≡ ys ++ y ∷ s = cc in
    elim (same_split xs ys x y r s tail) [
      | inl both ↦ inl (cc, both.1)
      | inr (inl on) ↦ inr (inl (on.0, (let f = on.1 in cc)))
      | inr (inr on) ↦ inr (inr (on.0, (let f = on.1 in cc)))
    ]

-- right sandboxes go on where a wrong one stands
right_goes_on : (xs ys : List Part) (y : Part) (k : LayoutFault) → AreRight xs → Goes xs ys y → HasFault ys y k → ⊥
right_goes_on xs ys y k right (more, is) wrong =
    let each = subst (All IsRightPart) is right.each in
    let one : IsRightPart y = all_middle IsRightPart ys y more each in
    right_has_none ys y k one (middle_apart ys y more (subst AreRight is right)) wrong
  where
    right_has_none : (before : List Part) (p : Part) (k : LayoutFault) → IsRightPart p → AreApartWith before (fields_of p) → HasFault before p k → ⊥
    right_has_none before p k right apart (inl h) = not_some k (one_field_fault before (fields_of p) field_tests None (Some k) (part_passes before p right apart) h)
    right_has_none before p k right apart (inr (passed, (front, g, more, split, ok, wrong), is)) =
        let all = subst (AreGates (code_region p)) (split ∙ sym (append_assoc front (g ∷ []) more)) right.gates in
        wrong (front_gates (code_region p) (front ++ g ∷ []) more all)

one_of_part : (before : List Part) (p : Part) (j k : LayoutFault) → HasFault before p j → HasFault before p k → j ≡ k
one_of_part before p j k (inl a) (inl b) = same_some j k (one_field_fault before (fields_of p) field_tests (Some j) (Some k) a b)
one_of_part before p j k (inl a) (inr b) = absurd (not_some j (one_field_fault before (fields_of p) field_tests None (Some j) b.0 a))
one_of_part before p j k (inr a) (inl b) = absurd (not_some k (one_field_fault before (fields_of p) field_tests None (Some k) a.0 b))
one_of_part before p j k (inr a) (inr b) = a.2 ∙ sym b.2

pub one_fault : (ps : List Part) (j k : LayoutFault) → HaveFault ps j → HaveFault ps k → j ≡ k
one_fault ps j k (inl a) (inl b) = a.1 ∙ sym b.1
one_fault ps j k (inl a) (inr b) = absurd (a.0 (b.0, b.1))
one_fault ps j k (inr a) (inl b) = absurd (b.0 (a.0, a.1))
one_fault ps j k (inr (_, _, (front, p, more, is, right, wrong))) (inr (_, _, (start, q, rest, same, good, bad))) =
    elim (same_split front start p q more rest (sym is ∙ same)) [
      | inl both ↦ one_of_part start q j k (subst (λ x. HasFault start x j) both.1 (subst (λ x. HasFault x p j) both.0 wrong)) bad
      | inr (inl on) ↦ absurd (right_goes_on front start q k right on bad)
      | inr (inr on) ↦ absurd (right_goes_on start front p j good on wrong)
    ]

-- ---- what a writer answers that way

module _ {A : Type 0} (ps : List Part) (Found : A → Type 0) where
  -- right sandboxes are written, or memory ran out
  pub only_image : (r : Result A ImageFault) → Reads Found (HaveFault ps) r → IsRightLayout ps → IfErr r (λ e. e ≡ errors.Memory)
  only_image (Ok a) h right = tt
  only_image (Err (errors.Layout k)) h right = absurd (none_of_right ps k right h)
  only_image (Err errors.Memory) h right = refl

  -- a fault is answered, or memory ran out
  pub only_fault : ((a : A) → Found a → IsRightLayout ps) → (r : Result A ImageFault) → Reads Found (HaveFault ps) r → (k : LayoutFault) → HaveFault ps k
      → (r ≡ Err (errors.Layout k)) ⊎ (r ≡ Err errors.Memory)
  only_fault right (Ok a) h k wrong = absurd (none_of_right ps k (right a h) wrong)
  only_fault right (Err (errors.Layout j)) h k wrong = inl (ap (λ (x : LayoutFault). Err (errors.Layout x)) (one_fault ps j k h wrong))
  only_fault right (Err errors.Memory) h k wrong = inr refl

  -- the fault that is answered is that of the bytes
  pub fault_as_read : (r : Result A ImageFault) → Reads Found (HaveFault ps) r → length ps ≤ 16 → AreOf (format_of ps) ps → All AreWords ps → IfErr r (λ e. IfLayout e (λ k. IsFault (spelling ps) k))
  fault_as_read (Ok a) h most are words = tt
  fault_as_read (Err (errors.Layout k)) h most are words = as_read ps k most are words h
  fault_as_read (Err errors.Memory) h most are words = tt
