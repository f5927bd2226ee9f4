-- A hart at a bundle start is at its first piece, and goes on from a place to a place.
use Rattle.sfi_rules.proofs.OneList.{spelled_within}
use Rattle.std.proofs.lemmas.List.{take-take, drop-take}
use Rattle.sfi_safety.proofs.Registers.{leaves_nothing}
use Rattle.sfi_safe_runs.proofs.Stepping.{pc_within, stands_there, state_safe}
use Rattle.sfi_image.proofs.Facts.{whole_bundles, code_ends}
use Rattle.sfi_rules.proofs.Findings.{kept}
use Rattle.sfi_safety.proofs.Prelude.{◌≡◌, ℕ, zero, suc, ◌+◌, ◌-◌, ◌*◌, ◌/◌, ◌%◌, ◌<◌, ◌≤◌, List, [], ◌∷◌, ◌++◌, length, take, drop, true, refl, sym, ap, ◌∙◌, subst, inl, inr, ⊎_elim, arith, add-zero, cases_lt, Spells, Bytes, Hart, Stands, Part, code_region, IsBundleStart, BundlePlace, Finding, bundle_place, bundle_bytes, Piece, IsReading, rest_of, is_empty, findings_from, rest_finding, AreReadingFindings, AreBundleFindings, AreFindingsOfFirst, StackInData, HasCode, AreCleanBundles, IsAtPlace, IsSafeState, length-take, length-drop, InCode, ◌≢◌, Bool, false, not, ◌&&◌, ◌==◌, eqb-false, drop-drop, address_after, InstrInBundle, breaks_ecall, breaks_reserved, breaks_access, breaks_jump, breaks_target, breaks_end, breaks_stack, ends_region, lowest, all_rules, Leaves, StackInDataBefore, V3, V4, V5, V6, V7, V8, V10}

-- ==== A hart at a bundle start is at that bundle's first piece, and the one instruction there is the reading's.

-- ---- a bundle without a finding

pub nothing_before : {A : Type 0} (xs ys : List A) → xs ++ ys ≡ [] → (xs ≡ []) × (ys ≡ [])
nothing_before [] ys h = (refl, h)
nothing_before (x ∷ xs) ys h = absurd cc

rest_is_none : (b : BundlePlace) (at : ℕ) (rest : List ℕ) → rest_finding b at rest ≡ [] → rest ≡ []
rest_is_none b at [] h = refl
rest_is_none b at (low ∷ []) h = absurd cc
rest_is_none b at (low ∷ high ∷ []) h = absurd cc
rest_is_none b at (low ∷ high ∷ x ∷ rest) h = absurd cc

clean_bundle : (sandbox : ℕ) (p : Part) (n : ℕ) (found : List Finding) → AreFindingsOfFirst sandbox p n found → found ≡ [] → (b : ℕ) → b < n → AreBundleFindings (bundle_place sandbox p b) (bundle_bytes p b) []
clean_bundle sandbox p zero found h e b below = absurd (omega arith)
clean_bundle sandbox p (suc n) found h e b below =
    let both = nothing_before h.0 h.1 (sym h.4 ∙ e) in
    ⊎_elim
    (λ (less : b < n). clean_bundle sandbox p n h.0 h.2 both.0 b less)
    (λ (more : n ≤ b).
    let at : n ≡ b = omega arith in
    subst (λ m. AreBundleFindings (bundle_place sandbox p m) (bundle_bytes p m) []) at
    (subst (λ (l : List Finding). AreBundleFindings (bundle_place sandbox p n) (bundle_bytes p n) l) both.1 h.3))
    (cases_lt b n)

by_reading : (b : BundlePlace) (bytes : List ℕ) → AreBundleFindings b bytes [] → AreReadingFindings b bytes []
by_reading b bytes (inl x) = absurd (let e = x.2 in cc)
by_reading b bytes (inr x) = x.1

-- its reading leaves nothing
all_clean : (b : BundlePlace) (bytes : List ℕ) (found : AreReadingFindings b bytes []) → (rest_of bytes found.reading ≡ []) × (findings_from b true b.address [] found.reading ≡ [])
all_clean b bytes found =
    let parts = nothing_before (findings_from b (is_empty (rest_of bytes found.reading)) b.address [] found.reading) (rest_finding b (b.address + (length bytes - length (rest_of bytes found.reading))) (rest_of bytes found.reading)) (sym found.found_is) in
    let rest = rest_is_none b (b.address + (length bytes - length (rest_of bytes found.reading))) (rest_of bytes found.reading) parts.1 in
    (rest, subst (λ (l : List ℕ). findings_from b (is_empty l) b.address [] found.reading ≡ []) rest parts.0)

pub bundle_length : (p : Part) (b : ℕ) → 16 * b + 16 ≤ length p.code → length (bundle_bytes p b) ≡ 16
bundle_length p b within = simp (length-take, length-drop) (omega arith)

-- a reading that leaves nothing has a first piece
at_first : (sandbox : ℕ) (p : Part) (h : Hart) (b : ℕ) → 16 * b + 16 ≤ length p.code → h.pc ≡ p.code_base + 16 * b → length (bundle_bytes p b) ≡ 16
    → StackInData p h.registers → (reading : List Piece) → IsReading (bundle_bytes p b) reading → rest_of (bundle_bytes p b) reading ≡ [] → findings_from (bundle_place sandbox p b) true (p.code_base + 16 * b) [] reading ≡ [] → IsAtPlace sandbox p h
at_first sandbox p h b within pc size stack [] is whole clean = absurd (let e = sym size ∙ ap length whole in omega arith)
at_first sandbox p h b within pc size stack (here ∷ later) is whole clean = record {
  number = b;
  within = within;
  offset = 0;
  earlier = [];
  here = here;
  later = later;
  reading = is;
  whole = whole;
  clean = subst (λ (n : ℕ). findings_from (bundle_place sandbox p b) true n [] (here ∷ later) ≡ []) (sym (add-zero (p.code_base + 16 * b))) clean;
  pc = pc ∙ sym (add-zero (p.code_base + 16 * b));
  first = λ _. refl;
  leaves = leaves_nothing p h.registers;
  stack = λ has. inl (stack has);
}

-- at a bundle start
pub at_start : (sandbox : ℕ) (p : Part) (h : Hart) → AreCleanBundles sandbox p → IsBundleStart (code_region p) h.pc → StackInData p h.registers → IsAtPlace sandbox p h
at_start sandbox p h clean start stack =
    let bundles = whole_bundles p.format p.code_base (length p.code) clean.right.code_base clean.right.code_placed in
    let base_is : p.code_base ≡ 16 * bundles.1 = bundles.3 in
    let from : p.code_base ≤ h.pc = start.held.0 in
    let below : h.pc < p.code_base + length p.code = start.held.1 in
    let multiple : h.pc % 16 ≡ 0 = start.aligned in
    let b = (h.pc - p.code_base) / 16 in
    let n = clean.none_found.0 in
    let size_is : length p.code ≡ 16 * n = clean.none_found.1 in
    let pc : h.pc ≡ p.code_base + 16 * b = omega arith in
    let number : b < n = omega arith in
    let within : 16 * b + 16 ≤ length p.code = omega arith in
    let found = by_reading (bundle_place sandbox p b) (bundle_bytes p b) (clean_bundle sandbox p n [] clean.none_found.2 refl b number) in
    let all = all_clean (bundle_place sandbox p b) (bundle_bytes p b) found in
    at_first sandbox p h b within pc (bundle_length p b within) stack found.reading found.longest.is_reading all.0 all.1

-- ---- the one instruction there

module _ (sandbox : ℕ) (p : Part) (h : Hart) (clean : AreCleanBundles sandbox p) (at : IsAtPlace sandbox p h) where
  -- the instruction lies in the bundle
  within_here : (0 < at.here.size) × (at.here.size ≤ length (drop at.offset (bundle_bytes p at.number)))
  within_here = spelled_within (drop at.offset (bundle_bytes p at.number)) at.here.instr at.here.size at.reading.0

  pub here_within : at.offset + at.here.size ≤ 16
  here_within =
      let bundle = bundle_bytes p at.number in
      let w = within_here in
      omega (arith, w.0, w.1, length-drop at.offset bundle, bundle_length p at.number at.within)

  -- what is cut from a bundle is cut from the code
  in_code : (code : List ℕ) (at offset n : ℕ) → offset + n ≤ 16 → take n (drop offset (take 16 (drop at code))) ≡ take n (drop (at + offset) code)
  in_code code at offset n within =
      let m = 16 - offset in
      let whole : 16 ≡ offset + m = omega arith in
      ap (λ k. take n (drop offset (take k (drop at code)))) whole ∙ ap (take n) (drop-take offset m (drop at code))
      ∙ take-take n m (drop offset (drop at code)) (omega arith) ∙ ap (take n) (drop-drop offset at code)

  pc_is : h.pc ≡ p.code_base + (16 * at.number + at.offset)
  pc_is = let pc = at.pc in omega arith

  inside : 16 * at.number + at.offset + at.here.size ≤ length p.code
  inside =
      let size = here_within in
      let within : 16 * at.number + 16 ≤ length p.code = at.within in
      omega arith

  pub pc_in_code : InCode p h.pc
  pc_in_code = pc_within p clean.right h (16 * at.number + at.offset) at.here.size pc_is inside within_here.0

  spelled_there : Spells (take at.here.size (drop (16 * at.number + at.offset) p.code)) at.here.instr at.here.size
  spelled_there = subst (λ (bytes : List ℕ). Spells bytes at.here.instr at.here.size) (in_code p.code (16 * at.number) at.offset at.here.size here_within) at.reading.0

  pub present : (m : Bytes) → HasCode p m → Stands (record { hart = h; memory = m }) at.here.instr at.here.size
  present m code = stands_there p clean.right h (16 * at.number + at.offset) at.here.size pc_is inside m at.here.instr code spelled_there

  pub safe_here : (m : Bytes) → HasCode p m → IsSafeState p (record { hart = h; memory = m })
  safe_here m code = state_safe p clean.right h (16 * at.number + at.offset) at.here.size pc_is inside m at.here.instr code spelled_there

-- ==== What a place without a finding keeps, and that the machine goes on from it to a place again.

-- none of the rules is broken at a place
pub record KeepsRules (x : InstrInBundle) : Type 0 where
  pub ecall : breaks_ecall x x.instr ≡ false
  pub reserved : breaks_reserved x.instr ≡ false
  pub access : breaks_access x x.instr ≡ false
  pub jump : breaks_jump x x.instr ≡ false
  pub target : breaks_target x x.instr ≡ false
  pub end : breaks_end x x.instr ≡ false
  pub stack : breaks_stack x x.instr ≡ false

keeps_rules : (x : InstrInBundle) → lowest x all_rules ≡ [] → KeepsRules x
keeps_rules x none =
    let each = kept x none in
    record { ecall = each V3; reserved = each V4; access = each V5; jump = each V6; target = each V7; end = each V8; stack = each V10 }

-- the place where the machine is
abbrev pub place_here : (sandbox : ℕ) (p : Part) (h : Hart) → IsAtPlace sandbox p h → InstrInBundle
place_here sandbox p h at = record {
  bundle = bundle_place sandbox p at.number;
  address = p.code_base + 16 * at.number + at.offset;
  earlier = at.earlier;
  instr = at.here.instr;
  later = at.later;
  whole = true;
}

-- what is left after the instruction has no finding either
later_clean : (sandbox : ℕ) (p : Part) (h : Hart) (at : IsAtPlace sandbox p h) → List Piece → Type 0
later_clean sandbox p h at later = findings_from (bundle_place sandbox p at.number) true (p.code_base + 16 * at.number + at.offset + at.here.size) (at.here.instr ∷ at.earlier) later ≡ []

clean_parts : (sandbox : ℕ) (p : Part) (h : Hart) (at : IsAtPlace sandbox p h) → (lowest (place_here sandbox p h at) all_rules ≡ []) × later_clean sandbox p h at at.later
unfolding later_clean
clean_parts sandbox p h at = nothing_before _ _ at.clean

pub rules_kept : (sandbox : ℕ) (p : Part) (h : Hart) (at : IsAtPlace sandbox p h) → KeepsRules (place_here sandbox p h at)
rules_kept sandbox p h at = keeps_rules (place_here sandbox p h at) (clean_parts sandbox p h at).0

-- the last instruction of a whole bundle that isn't the end of the region is in another bundle than the last
only_the_first : (first second third fourth : Bool) → (first && (second && third) && not fourth) ≡ false → second ≡ true → third ≡ true → fourth ≡ false → first ≡ false
only_the_first true true true false h a b c = absurd cc
only_the_first false second third fourth h a b c = refl
only_the_first true false third fourth h a b c = absurd cc
only_the_first true true false fourth h a b c = absurd cc
only_the_first true true true true h a b c = absurd cc

module _ (sandbox : ℕ) (p : Part) (h h' : Hart) (clean : AreCleanBundles sandbox p) (at : IsAtPlace sandbox p h) where
  -- after the last piece of a bundle that is not the region's last
  over_the_end : at.later ≡ [] → h'.pc ≡ address_after h.pc at.here.size → ends_region at.here.instr ≡ false → StackInDataBefore p (at.here.instr ∷ at.earlier) at.later h'.registers → IsAtPlace sandbox p h'
  over_the_end nil pc' goes stack =
      let b = at.number in
      let size = here_within sandbox p h clean at in
      let end = code_ends p clean.right in
      let pc : h.pc ≡ p.code_base + 16 * b + at.offset = at.pc in
      let within : 16 * b + 16 ≤ length p.code = at.within in
      let bundles = whole_bundles p.format p.code_base (length p.code) clean.right.code_base clean.right.code_placed in
      let base_is : p.code_base ≡ 16 * bundles.1 = bundles.3 in
      let size_is : length p.code ≡ 16 * bundles.0 = bundles.2 in
      let gone : drop at.here.size (drop at.offset (bundle_bytes p b)) ≡ [] =
      subst (λ (later : List Piece). rest_of (drop at.here.size (drop at.offset (bundle_bytes p b))) later ≡ []) nil at.whole in
      let sixteen : length (bundle_bytes p b) ≡ 16 = bundle_length p b within in
      let left = length-drop at.here.size (drop at.offset (bundle_bytes p b)) in
      let left' = length-drop at.offset (bundle_bytes p b) in
      let none_left : length (drop at.here.size (drop at.offset (bundle_bytes p b))) ≡ 0 = ap length gone in
      let whole : at.offset + at.here.size ≡ 16 = omega (arith, size, sixteen, left, left', none_left) in
      let kept = (rules_kept sandbox p h at).end in
      let not_last : (p.code_base + 16 * b + 16 == p.code_base + length p.code) ≡ false =
      only_the_first (p.code_base + 16 * b + 16 == p.code_base + length p.code) true (is_empty at.later) (ends_region at.here.instr) kept refl (ap (λ (l : List Piece). is_empty l) nil) goes in
      let other : p.code_base + 16 * b + 16 ≢ p.code_base + length p.code = eqb-false _ _ not_last in
      let next : p.code_base + 16 * b + 16 < p.code_base + length p.code = omega arith in
      let to : h'.pc ≡ p.code_base + 16 * b + 16 = pc' ∙ omega arith in
      at_start sandbox p h' clean (record { held = (omega arith, omega arith); aligned = omega arith }) (subst (λ (l : List Piece). StackInDataBefore p (at.here.instr ∷ at.earlier) l h'.registers) nil stack)

  -- before another piece of the same bundle
  to_the_next : (x : Piece) (later : List Piece) → at.later ≡ x ∷ later → h'.pc ≡ address_after h.pc at.here.size → Leaves p (at.here.instr ∷ at.earlier) h'.registers → StackInDataBefore p (at.here.instr ∷ at.earlier) at.later h'.registers → IsAtPlace sandbox p h'
  unfolding later_clean
  to_the_next x later is pc' leaves stack =
      let b = at.number in
      let size = here_within sandbox p h clean at in
      let end = code_ends p clean.right in
      let pc : h.pc ≡ p.code_base + 16 * b + at.offset = at.pc in
      let within : 16 * b + 16 ≤ length p.code = at.within in
      let moved : drop at.here.size (drop at.offset (bundle_bytes p b)) ≡ drop (at.offset + at.here.size) (bundle_bytes p b) = drop-drop at.here.size at.offset (bundle_bytes p b) in
      let reading = subst (λ (l : List Piece). IsReading (drop at.here.size (drop at.offset (bundle_bytes p b))) l) is at.reading.1 in
      let some = spelled_within (drop at.here.size (drop at.offset (bundle_bytes p b))) x.instr x.size reading.0 in
      let sixteen : length (bundle_bytes p b) ≡ 16 = bundle_length p b within in
      let left = length-drop at.here.size (drop at.offset (bundle_bytes p b)) in
      let left' = length-drop at.offset (bundle_bytes p b) in
      let inside : at.offset + at.here.size < 16 = omega (arith, some.0, some.1, sixteen, left, left') in
      let sum : p.code_base + 16 * b + at.offset + at.here.size ≡ p.code_base + 16 * b + (at.offset + at.here.size) = omega arith in
      record {
        number = b;
        within = within;
        offset = at.offset + at.here.size;
        earlier = at.here.instr ∷ at.earlier;
        here = x;
        later = later;
        reading = subst (λ (bytes : List ℕ). IsReading bytes (x ∷ later)) moved reading;
        whole = subst (λ (bytes : List ℕ). rest_of bytes (x ∷ later) ≡ []) moved (subst (λ (l : List Piece). rest_of (drop at.here.size (drop at.offset (bundle_bytes p b))) l ≡ []) is at.whole);
        clean = subst (λ (n : ℕ). findings_from (bundle_place sandbox p b) true n (at.here.instr ∷ at.earlier) (x ∷ later) ≡ []) sum (subst (later_clean sandbox p h at) is (clean_parts sandbox p h at).1);
        pc = pc' ∙ (let e : address_after h.pc at.here.size ≡ p.code_base + 16 * b + (at.offset + at.here.size) = omega (arith, inside, pc, within, end) in e);
        first = λ none. absurd (let e : at.here.instr ∷ at.earlier ≡ [] = none in cc);
        leaves = leaves;
        stack = subst (λ (l : List Piece). StackInDataBefore p (at.here.instr ∷ at.earlier) l h'.registers) is stack;
      }

  -- to what is after an instruction that does not end a region
  pub goes_on : h'.pc ≡ address_after h.pc at.here.size → ends_region at.here.instr ≡ false → Leaves p (at.here.instr ∷ at.earlier) h'.registers → StackInDataBefore p (at.here.instr ∷ at.earlier) at.later h'.registers → IsAtPlace sandbox p h'
  goes_on pc' goes leaves stack = by_later at.later refl
    where
      by_later : (later : List Piece) → at.later ≡ later → IsAtPlace sandbox p h'
      by_later [] is = over_the_end is pc' goes stack
      by_later (x ∷ later) is = to_the_next x later is pc' leaves stack
