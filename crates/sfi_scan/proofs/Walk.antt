-- The walk over a bundle: what is found so far, and what the rest adds.
use Rattle.sfi_scan.proofs.Prelude.{◌≡◌, ℕ, ◌+◌, ◌-◌, ◌*◌, ◌%◌, ◌<◌, ◌≤◌, false, List, [], ◌∷◌, ◌++◌, length, take, drop, Option, Some, None, refl, sym, ap, ◌∙◌, subst, inl, inr, arith, append_assoc, length-drop, ◌&&◌, and_right, length-append, append-nil, drop_all, drop-drop, take_all, w16, from_le_bytes, Instr, Spells, IsCutShort, SpellsNothing, Before, BundlePlace, Rule, Finding, Piece, IsReading, IsLongestReading, rest_of, InstrInBundle, is_empty, broken, lowest, all_rules, findings_from, rest_finding, rule_of_length, AreReadingFindings, near, finding_of, V1, V2}
use Rattle.rv_word.specs.Spelling.{length_of}
use Rattle.rv_word.specs.declared.length.Length.{Length}
use Rattle.rv_word.specs.declared.length.Length.TheVariants.{Wide}
use Rattle.sfi_rules.proofs.OneList.{IsStuck, spelled_within}
use Rattle.sfi_scan.proofs.Readings.{longest_more, longest_none, no_bytes_left}

-- ---- spellings

pub spell_size : (bytes : List ℕ) (i : Instr) (n : ℕ) → Spells bytes i n → (n ≡ length bytes) × (2 ≤ n) × (n ≤ 4) × (n % 2 ≡ 0)
spell_size bytes i n (inl s) = let size = s.size in let all = s.all in (omega arith, omega arith, omega arith, rw size refl)
spell_size bytes i n (inr s) = let size = s.size in let all = s.all in (omega arith, omega arith, omega arith, rw size refl)

-- a reading of no bytes has no pieces
nothing_there : (reading : List Piece) → IsReading [] reading → reading ≡ []
nothing_there [] h = refl
nothing_there (x ∷ reading) h = absurd (no_bytes_left [] refl x.instr x.size h.0)

-- ---- the walk

-- what the rest of a bundle adds to the findings, if it is read so
abbrev pub tail_findings : BundlePlace → ℕ → ℕ → List Instr → List ℕ → List Piece → List Finding
tail_findings b count at earlier rest later =
    findings_from b (is_empty (rest_of rest later)) at earlier later
    ++ rest_finding b (b.address + (count - length (rest_of rest later))) (rest_of rest later)

-- at this place, with these findings so far
pub record Leads (b : BundlePlace) (bytes : List ℕ) (at : ℕ) (before : Before) (found : List Finding) : Type 0 where
  pub earlier : List Instr
  pub near_is : near earlier ≡ before
  pub few : 2 * length found ≤ at
  pub even : at % 2 ≡ 0
  pub within : at ≤ 16
  pub leads : (later : List Piece) → IsLongestReading (drop at bytes) later → AreReadingFindings b bytes (found ++ tail_findings b (length bytes) (b.address + at) earlier (drop at bytes) later)

at_zero : (b : BundlePlace) (bytes : List ℕ) (later : List Piece) (rest : List ℕ) (at : ℕ) → rest ≡ bytes → at ≡ b.address → IsLongestReading rest later → AreReadingFindings b bytes (tail_findings b (length bytes) at [] rest later)
at_zero b bytes later rest at e f longest =
    record {
      reading = later;
      longest = subst (λ (r : List ℕ). IsLongestReading r later) e longest;
      found_is = ap (λ (r : List ℕ). tail_findings b (length bytes) at [] r later) e ∙ ap (λ k. tail_findings b (length bytes) k [] bytes later) f;
    }

pub at_first : (b : BundlePlace) (bytes : List ℕ) → Leads b bytes 0 (near []) []
at_first b bytes = record {
  earlier = [];
  near_is = refl;
  few = omega arith;
  even = refl;
  within = omega arith;
  leads = λ later longest. at_zero b bytes later (drop 0 bytes) (b.address + 0) refl (omega arith) longest;
}

-- whether a piece is the bundle's last, as the rule asks it
is_last : (rest : List ℕ) (later : List Piece) → IsReading rest later → (is_empty (rest_of rest later) && is_empty later) ≡ is_empty rest
is_last [] later h = rw (nothing_there later h) refl
is_last (x ∷ rest) [] h = refl
is_last (x ∷ rest) (y ∷ later) h = and_right (is_empty (rest_of (drop y.size (x ∷ rest)) later)) false refl

regroup : (found here here' more rest : List Finding) → here ≡ here' → found ++ ((here ++ more) ++ rest) ≡ (found ++ here') ++ (more ++ rest)
regroup found here here' more rest e = rw e (simp append_assoc)

pub next : (b : BundlePlace) (bytes : List ℕ) (at n : ℕ) (before after : Before) (found : List Finding) (i : Instr) (o : Option Rule)
    → length bytes ≡ 16
    → Leads b bytes at before found
    → Spells (take n (drop at bytes)) i n
    → ((x : InstrInBundle) → x.bundle ≡ b → x.address ≡ b.address + at → near x.earlier ≡ before → x.instr ≡ i → (x.whole && is_empty x.later) ≡ is_empty (drop (at + n) bytes) → IsLongestReading (drop (at + n) bytes) x.later → lowest x all_rules ≡ finding_of b (b.address + at) o)
    → ((earlier : List Instr) → near earlier ≡ before → after ≡ near (i ∷ earlier))
    → Leads b bytes (at + n) after (found ++ finding_of b (b.address + at) o)
next b bytes at n before after found i o count so_far s rule go =
    let size = spell_size (take n (drop at bytes)) i n s in
    let fits = (spelled_within (drop at bytes) i n s).1 in
    let left = length-drop at bytes in
    let even = so_far.even in
    let few = so_far.few in
    let within = so_far.within in
    record {
      earlier = i ∷ so_far.earlier;
      near_is = sym (go so_far.earlier so_far.near_is);
      few = few_more found o few;
      even = omega (arith, size.3);
      within = omega (arith, fits, left);
      leads = leads;
    }
  where
    few_more : (found : List Finding) (o : Option Rule) → 2 * length found ≤ at → 2 * length (found ++ finding_of b (b.address + at) o) ≤ at + n
    few_more found None h = rw (append-nil found) (omega arith)
    few_more found (Some r) h =
        let size = spell_size (take n (drop at bytes)) i n s in
        rw (length-append found (broken b (b.address + at) r ∷ [])) (omega (arith, size.1))

    beyond : drop n (drop at bytes) ≡ drop (at + n) bytes
    beyond = drop-drop n at bytes

    leads : (later : List Piece) → IsLongestReading (drop (at + n) bytes) later → AreReadingFindings b bytes ((found ++ finding_of b (b.address + at) o) ++ tail_findings b (length bytes) (b.address + (at + n)) (i ∷ so_far.earlier) (drop (at + n) bytes) later)
    leads later longest =
        let longest' = subst (λ (r : List ℕ). IsLongestReading r later) (sym beyond) longest in
        let old = so_far.leads (record { instr = i; size = n } ∷ later) (longest_more (drop at bytes) (record { instr = i; size = n }) later s longest') in
        let place : InstrInBundle = record { bundle = b; address = b.address + at; earlier = so_far.earlier; instr = i; later = later; whole = is_empty (rest_of (drop n (drop at bytes)) later) } in
        let last = is_last (drop n (drop at bytes)) later longest'.is_reading ∙ ap (λ (r : List ℕ). is_empty r) beyond in
        let here = rule place refl refl so_far.near_is refl last longest in
        let joined = regroup found (lowest place all_rules) (finding_of b (b.address + at) o) (findings_from b (is_empty (rest_of (drop n (drop at bytes)) later)) (b.address + at + n) (i ∷ so_far.earlier) later) (rest_finding b (b.address + (length bytes - length (rest_of (drop n (drop at bytes)) later))) (rest_of (drop n (drop at bytes)) later)) here in
        let moved = ap (λ (r : List ℕ). (found ++ finding_of b (b.address + at) o) ++ tail_findings b (length bytes) (b.address + at + n) (i ∷ so_far.earlier) r later) beyond in
        let placed = ap (λ k. (found ++ finding_of b (b.address + at) o) ++ tail_findings b (length bytes) k (i ∷ so_far.earlier) (drop (at + n) bytes) later) (let e : b.address + at + n ≡ b.address + (at + n) = omega arith in e) in
        subst (λ (l : List Finding). AreReadingFindings b bytes l) (joined ∙ moved ∙ placed) old

-- ---- its ends

-- after the last byte
pub at_last : (b : BundlePlace) (bytes : List ℕ) (at : ℕ) (before : Before) (found : List Finding) → length bytes ≡ 16 → 16 ≤ at → Leads b bytes at before found → AreReadingFindings b bytes found
at_last b bytes at before found count over so_far =
    let none : drop at bytes ≡ [] = drop_all at bytes (omega arith) in
    let done = so_far.leads [] (longest_none (drop at bytes) (no_bytes_left (drop at bytes) (ap length none))) in
    let same = ap (λ (r : List ℕ). found ++ tail_findings b (length bytes) (b.address + at) so_far.earlier r []) none ∙ append-nil found in
    subst (λ (l : List Finding). AreReadingFindings b bytes l) same done

-- where nothing is spelled
pub at_rest : (b : BundlePlace) (bytes : List ℕ) (at : ℕ) (before : Before) (found : List Finding) (rule : Rule) → length bytes ≡ 16 → at < 16
    → IsStuck (drop at bytes) → rest_finding b (b.address + at) (drop at bytes) ≡ broken b (b.address + at) rule ∷ []
    → Leads b bytes at before found → AreReadingFindings b bytes (found ++ broken b (b.address + at) rule ∷ [])
at_rest b bytes at before found rule count below stuck e so_far =
    let done = so_far.leads [] (longest_none (drop at bytes) stuck) in
    let place : length bytes - length (drop at bytes) ≡ at = omega (arith, length-drop at bytes) in
    let same = ap (λ k. found ++ rest_finding b (b.address + k) (drop at bytes)) place ∙ ap (λ (l : List Finding). found ++ l) e in
    subst (λ (l : List Finding). AreReadingFindings b bytes l) same done

-- where an instruction is cut short by the bundle's end
pub rest_short : (b : BundlePlace) (at : ℕ) (rest : List ℕ) → 2 ≤ length rest → length rest % 2 ≡ 0 → IsCutShort rest → rest_finding b at rest ≡ broken b at V2 ∷ []
rest_short b at (x ∷ y ∷ []) h even (inr wide) = ap (λ (l : Length). broken b at (rule_of_length l) ∷ []) wide.1
rest_short b at (x ∷ y ∷ z ∷ []) h even cut = absurd (let three : 3 % 2 ≡ 0 = even in omega arith)
rest_short b at rest h even (inl low) = absurd (omega arith)
rest_short b at rest h even (inr wide) = absurd (let low = wide.0 in omega arith)

-- where what stands there is no instruction
pub rest_bad : (b : BundlePlace) (at : ℕ) (rest : List ℕ) → 0 < length rest → (IsCutShort rest → ⊥) → rest_finding b at rest ≡ broken b at V1 ∷ []
rest_bad b at [] h none = absurd (omega arith)
rest_bad b at (x ∷ []) h none = refl
rest_bad b at (x ∷ y ∷ []) h none = ap (λ (r : Rule). broken b at r ∷ []) (not_wide (length_of (from_le_bytes w16 (x ∷ y ∷ []))) (λ wide. none (inr (omega arith, wide))))
  where
    not_wide : (l : Length) → (l ≡ Wide → ⊥) → rule_of_length l ≡ V1
    not_wide Wide h = absurd (h refl)
    not_wide l h = refl
rest_bad b at (x ∷ y ∷ z ∷ rest) h none = refl

-- ---- as the code has it: the rest is a slice of the bytes

pub slice_is : (at : ℕ) (bytes : List ℕ) → length bytes ≡ 16 → take (16 - at) (drop at bytes) ≡ drop at bytes
slice_is at bytes e = take_all (16 - at) (drop at bytes) (omega (arith, length-drop at bytes))

pub next_of : (b : BundlePlace) (bytes : List ℕ) (at n : ℕ) (before after : Before) (found : List Finding) (i : Instr) (o : Option Rule)
    → length bytes ≡ 16
    → Leads b bytes at before found
    → Spells (take n (take (16 - at) (drop at bytes))) i n
    → ((x : InstrInBundle) → x.bundle ≡ b → x.address ≡ b.address + at → near x.earlier ≡ before → x.instr ≡ i → (x.whole && is_empty x.later) ≡ is_empty (take (16 - (at + n)) (drop (at + n) bytes)) → IsLongestReading (take (16 - (at + n)) (drop (at + n) bytes)) x.later → lowest x all_rules ≡ finding_of b (b.address + at) o)
    → ((earlier : List Instr) → near earlier ≡ before → after ≡ near (i ∷ earlier))
    → Leads b bytes (at + n) after (found ++ finding_of b (b.address + at) o)
next_of b bytes at n before after found i o count so_far s rule go =
    next b bytes at n before after found i o count so_far
    (subst (λ (r : List ℕ). Spells (take n r) i n) (slice_is at bytes count) s)
    (λ x place address near_is instr last longest. rule x place address near_is instr
    (last ∙ ap (λ (r : List ℕ). is_empty r) (sym (slice_is (at + n) bytes count)))
    (subst (λ (r : List ℕ). IsLongestReading r x.later) (sym (slice_is (at + n) bytes count)) longest))
    go

even_left : (at left : ℕ) → at < 16 → at % 2 ≡ 0 → left ≡ 16 - at → (2 ≤ left) × (left % 2 ≡ 0)
even_left at left h even e = (omega arith, omega arith)

pub short_end : (b : BundlePlace) (bytes : List ℕ) (at : ℕ) (before : Before) (found : List Finding) → length bytes ≡ 16 → at < 16
    → Leads b bytes at before found
    → IsStuck (take (16 - at) (drop at bytes)) → IsCutShort (take (16 - at) (drop at bytes))
    → AreReadingFindings b bytes (found ++ broken b (b.address + at) V2 ∷ [])
short_end b bytes at before found count below so_far stuck cut =
    let e = slice_is at bytes count in
    let left = even_left at (length (drop at bytes)) below so_far.even (omega (arith, length-drop at bytes)) in
    at_rest b bytes at before found V2 count below
    (subst IsStuck e stuck)
    (rest_short b (b.address + at) (drop at bytes) left.0 left.1 (subst (λ (r : List ℕ). IsCutShort r) e cut))
    so_far

pub bad_end : (b : BundlePlace) (bytes : List ℕ) (at : ℕ) (before : Before) (found : List Finding) → length bytes ≡ 16 → at < 16
    → Leads b bytes at before found
    → SpellsNothing (take (16 - at) (drop at bytes))
    → AreReadingFindings b bytes (found ++ broken b (b.address + at) V1 ∷ [])
bad_end b bytes at before found count below so_far nothing =
    let nothing' = subst (λ (r : List ℕ). SpellsNothing r) (slice_is at bytes count) nothing in
    at_rest b bytes at before found V1 count below nothing'.unspelled
    (rest_bad b (b.address + at) (drop at bytes) (omega (arith, length-drop at bytes)) nothing'.enough)
    so_far

-- ---- what a push leaves

pub pushed : (b : BundlePlace) (at : ℕ) (rule : Rule) (f : Finding) (found after : List Finding) → after ≡ found ++ f ∷ [] → f ≡ broken b at rule → after ≡ found ++ broken b at rule ∷ []
pushed b at rule f found after e g = e ∙ ap (λ (x : Finding). found ++ x ∷ []) g

pub some_found : (b : BundlePlace) (at : ℕ) (o : Option Rule) (rule : Rule) (found after : List Finding) → after ≡ found ++ broken b at rule ∷ [] → o ≡ Some rule → after ≡ found ++ finding_of b at o
some_found b at o rule found after e h = e ∙ ap (λ (p : Option Rule). found ++ finding_of b at p) (sym h)

pub none_found : (b : BundlePlace) (at : ℕ) (o : Option Rule) (found after : List Finding) → after ≡ found → o ≡ None → after ≡ found ++ finding_of b at o
none_found b at o found after e h = e ∙ sym (append-nil found) ∙ ap (λ (p : Option Rule). found ++ finding_of b at p) (sym h)
