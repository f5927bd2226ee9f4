-- The test for a pair finds the pairs.
use Rattle.std.proofs.Common.{◌≡◌, ℕ, List, [], ◌∷◌, true, ◌&&◌, ◌==◌, refl, ap, ◌∙◌}
use Rattle.std.proofs.lemmas.Bool.{and_parts, and_from, false≢true, eqb-true, eq-eqb}
use Rattle.rv_word.specs.declared.instr.RegOp.TheVariants.{And, Or}
use Rattle.rv_word.specs.declared.instr.Instr.{Instr}
use Rattle.rv_word.specs.declared.instr.Instr.TheVariants.{Op}
use Rattle.sfi_pairs.specs.Pairs.{masking_instr, placing_instr, pair, is_masking, is_placing, is_pair}

pub masking_is : (mask target : ℕ) (i : Instr) → is_masking mask target i ≡ true → (a : ℕ) × (i ≡ masking_instr mask target a)
masking_is mask target (Op And rd rs1 rs2) h =
    let both = and_parts (rd == target) (rs2 == mask) h in
    let e1 = eqb-true rd target both.0 in
    let e2 = eqb-true rs2 mask both.1 in
    (rs1, cc)
masking_is mask target _ h = absurd (false≢true h)

pub placing_is : (base target : ℕ) (i : Instr) → is_placing base target i ≡ true → i ≡ placing_instr base target
placing_is base target (Op Or rd rs1 rs2) h =
    let outer = and_parts ((rd == target) && (rs1 == target)) (rs2 == base) h in
    let inner = and_parts (rd == target) (rs1 == target) outer.0 in
    let e1 = eqb-true rd target inner.0 in
    let e2 = eqb-true rs1 target inner.1 in
    let e3 = eqb-true rs2 base outer.1 in
    cc
placing_is base target _ h = absurd (false≢true h)

pub found : (mask base target : ℕ) (first second : Instr) → is_pair mask base target first second ≡ true
    → (a : ℕ) × ((first ∷ second ∷ []) ≡ pair mask base target a)
found mask base target first second h =
    let both = and_parts (is_masking mask target first) (is_placing base target second) h in
    let one = masking_is mask target first both.0 in
    let other = placing_is base target second both.1 in
    let e1 = one.1 in
    (one.0, cc)

passes : (mask base target a : ℕ) → is_pair mask base target (masking_instr mask target a) (placing_instr base target) ≡ true
passes mask base target a =
    and_from (is_masking mask target (masking_instr mask target a)) (is_placing base target (placing_instr base target))
    (and_from (target == target) (mask == mask) (eq-eqb target target refl) (eq-eqb mask mask refl))
    (and_from ((target == target) && (target == target)) (base == base) (and_from (target == target) (target == target) (eq-eqb target target refl) (eq-eqb target target refl)) (eq-eqb base base refl))

first_of : List Instr → Instr → Instr
first_of [] none = none
first_of (i ∷ is) none = i

second_of : List Instr → Instr → Instr
second_of [] none = none
second_of (i ∷ is) none = first_of is none

pub is_found : (mask base target : ℕ) (first second : Instr) → ((a : ℕ) × ((first ∷ second ∷ []) ≡ pair mask base target a))
    → is_pair mask base target first second ≡ true
unfolding first_of second_of
is_found mask base target first second h =
    let one : first ≡ masking_instr mask target h.0 = ap (λ l. first_of l first) h.1 in
    let other : second ≡ placing_instr base target = ap (λ l. second_of l second) h.1 in
    ap (λ i. is_pair mask base target i second) one ∙ ap (λ i. is_pair mask base target (masking_instr mask target h.0) i) other ∙ passes mask base target h.0
