-- Each finding stands at a place of a part: what the code begins with there.
use Rattle.sfi_report.proofs.Prelude.{◌≡◌, ℕ, zero, suc, ◌+◌, ◌-◌, ◌*◌, ◌≤◌, List, [], ◌∷◌, length, take, drop, refl, sym, ap, ◌∙◌, subst, inl, inr, arith, Some, length-take, drop-drop, Part, V1, Finding, Stands}
use Rattle.std.proofs.Common.{◌%◌, Bool, true, false, cond, Option, None, length-drop}
use Rattle.std.specs.Prelude.{slice_get, MatchBool}
use Rattle.std.specs.Int.{w16, from_le_bytes}
use Rattle.std.specs.List.{All, find}
use Rattle.std.proofs.lemmas.List.{drop-take, take-take}
use Rattle.std.proofs.lemmas.List.Elements.{All-append}
use Rattle.rv_word.specs.declared.instr.Instr.{Instr}
use Rattle.rv_word.specs.declared.length.Length.{Length}
use Rattle.rv_word.specs.declared.length.Length.TheVariants as lengths
use Rattle.rv_word.specs.Spelling.{length_of}
use Rattle.rv_comp.specs.Fronts.{Spells}
use Rattle.sfi_image.specs.declared.bundle.BundlePlace.{BundlePlace}
use Rattle.sfi_rules.specs.declared.rule.Rule.{Rule}
use Rattle.sfi_rules.specs.declared.rule.Rule.TheVariants.{V2, V9}
use Rattle.sfi_rules.specs.Readings.{bundle_bytes, bundle_place, Piece, IsReading, rest_of}
use Rattle.sfi_rules.specs.Rules.{breaks}
use Rattle.sfi_rules.specs.Findings.{broken, lowest, all_rules, findings_from, rest_finding, rule_of_length, AreBundleFindings, AreFindingsOfFirst, AreFindingsInBundles, AreFindings, AreFindingsFrom, AreImageFindings}
use Rattle.sfi_formats.specs.Formats.{has_words}
use Rattle.sfi_rules.specs.declared.owed.Owed.{Owed}
use Rattle.sfi_rules.specs.words.Rules.{owed_next}
use Rattle.sfi_rules.specs.words.Findings as words
use Rattle.sfi_report.specs.private.{SpellsFirst, IsPlace}
use Rattle.sfi_rules.proofs.Findings.{lowest_is}
use Rattle.sfi_report.proofs.Lines.{spell_even, spell_fits}

-- the finding is one of the sandbox, `offset` bytes after address `at`, where these bytes lie
pub record StandsIn (sandbox at : ℕ) (bytes : List ℕ) (f : Finding) : Type 0 where
  pub offset : ℕ
  pub sandbox_is : f.sandbox ≡ sandbox
  pub address_is : f.address ≡ at + offset
  pub within : offset ≤ length bytes
  pub place : IsPlace f.rule (drop offset bytes)

-- ---- in a bundle

-- what stands after a piece
after_piece : (sandbox at : ℕ) (rest : List ℕ) (i : Instr) (n : ℕ) → Spells (take n rest) i n
    → (f : Finding) → StandsIn sandbox (at + n) (drop n rest) f → StandsIn sandbox at rest f
after_piece sandbox at rest i n spelled f s =
    let fits = spell_fits rest i n spelled in
    record {
      offset = n + s.offset;
      sandbox_is = s.sandbox_is;
      address_is = omega (arith, s.address_is);
      within = omega (arith, s.within, length-drop n rest, fits.1);
      place = subst (λ (code : List ℕ). IsPlace f.rule code) (drop-drop s.offset n rest) s.place;
    }

-- at the places of a reading
reading_stands : (b : BundlePlace) (whole : Bool) (at : ℕ) (earlier : List Instr) (rest : List ℕ) (reading : List Piece) → IsReading rest reading
    → All (StandsIn b.sandbox at rest) (findings_from b whole at earlier reading)
reading_stands b whole at earlier rest [] h = λ k d g. absurd (omega arith)
reading_stands b whole at earlier rest (x ∷ later) h =
    All-append (StandsIn b.sandbox at rest) (lowest (record { bundle = b; address = at; earlier = earlier; instr = x.instr; later = later; whole = whole }) all_rules) (findings_from b whole (at + x.size) (x.instr ∷ earlier) later)
    (lowest_is (StandsIn b.sandbox at rest) (record { bundle = b; address = at; earlier = earlier; instr = x.instr; later = later; whole = whole }) all_rules here)
    (λ k d g. after_piece _ _ _ _ _ h.0 _ (reading_stands b whole (at + x.size) (x.instr ∷ earlier) (drop x.size rest) later h.1 k d g))
  where
    first : SpellsFirst rest
    first = record { instr = x.instr; size = x.size; spelled = h.0 }

    here : (rule : Rule) → breaks (record { bundle = b; address = at; earlier = earlier; instr = x.instr; later = later; whole = whole }) rule ≡ true → StandsIn b.sandbox at rest (broken b at rule)
    here rule h = record { offset = 0; sandbox_is = refl; address_is = omega arith; within = omega arith; place = place rule h }
      where
        place : (r : Rule) → breaks (record { bundle = b; address = at; earlier = earlier; instr = x.instr; later = later; whole = whole }) r ≡ true → IsPlace r rest
        place V1 h = absurd cc
        place V2 h = absurd cc
        place V9 h = tt
        place _ h = first

-- where a reading ends
record EndsAt (bytes rest : List ℕ) : Type 0 where
  count : ℕ
  rest_is : rest ≡ drop count bytes
  within : count ≤ length bytes
  even : count % 2 ≡ 0

ends_at : (bytes : List ℕ) (reading : List Piece) → IsReading bytes reading → EndsAt bytes (rest_of bytes reading)
ends_at bytes [] h = record { count = 0; rest_is = refl; within = omega arith; even = refl }
ends_at bytes (x ∷ reading) h =
    let fits = spell_fits bytes x.instr x.size h.0 in
    let end = ends_at (drop x.size bytes) reading h.1 in
    record {
      count = x.size + end.count;
      rest_is = end.rest_is ∙ drop-drop end.count x.size bytes;
      within = omega (arith, end.within, length-drop x.size bytes, fits.1);
      even = omega (arith, end.even, spell_even (take x.size bytes) x.instr x.size h.0);
    }

half_place : (l : Length) (code : List ℕ) → 2 ≤ length code → IsPlace (rule_of_length l) code
half_place lengths.Short code h = h
half_place lengths.Wide code h = h
half_place lengths.Longer code h = h

rest_stands : (b : BundlePlace) (at base : ℕ) (bytes rest : List ℕ) (offset : ℕ) → rest ≡ drop offset bytes → at ≡ base + offset → offset ≤ length bytes → length rest % 2 ≡ 0
    → All (StandsIn b.sandbox base bytes) (rest_finding b at rest)
rest_stands b at base bytes rest offset is at_is within even = stands rest is even
  where
    there : (rule : Rule) (code : List ℕ) → code ≡ drop offset bytes → IsPlace rule code → All (StandsIn b.sandbox base bytes) (broken b at rule ∷ [])
    there rule code e place zero d g =
        record { offset = offset; sandbox_is = refl; address_is = at_is; within = within; place = subst (λ (l : List ℕ). IsPlace rule l) e place }
    there rule code e place (suc k) d g = absurd (omega arith)

    stands : (code : List ℕ) → code ≡ drop offset bytes → length code % 2 ≡ 0 → All (StandsIn b.sandbox base bytes) (rest_finding b at code)
    stands [] e two = λ k d g. absurd (omega arith)
    stands (x ∷ []) e two = absurd (let one : 1 % 2 ≡ 0 = two in omega arith)
    stands (x ∷ y ∷ []) e two =
        there (rule_of_length (length_of (from_le_bytes w16 (x ∷ y ∷ [])))) (x ∷ y ∷ []) e (half_place (length_of (from_le_bytes w16 (x ∷ y ∷ []))) (x ∷ y ∷ []) (omega arith))
    stands (x ∷ y ∷ z ∷ code) e two = there V1 (x ∷ y ∷ z ∷ code) e (omega arith)

bundle_stands : (b : BundlePlace) (bytes : List ℕ) (found : List Finding) → length bytes ≡ 16 → AreBundleFindings b bytes found → All (StandsIn b.sandbox b.address bytes) found
bundle_stands b bytes found count (inl gate) =
    subst (λ (l : List Finding). All (StandsIn b.sandbox b.address bytes) l) (sym gate.2) one
  where
    one : All (StandsIn b.sandbox b.address bytes) (broken b b.address V9 ∷ [])
    one zero d g = record { offset = 0; sandbox_is = refl; address_is = omega arith; within = omega arith; place = tt }
    one (suc k) d g = absurd (omega arith)
bundle_stands b bytes found count (inr read) =
    let reading = read.1.reading in
    let is_reading = read.1.longest.is_reading in
    let rest = rest_of bytes reading in
    let end = ends_at bytes reading is_reading in
    let left : length rest ≡ 16 - end.count = omega (arith, ap length end.rest_is, length-drop end.count bytes) in
    let place : b.address + (length bytes - length rest) ≡ b.address + end.count = omega (arith, end.within) in
    subst (λ (l : List Finding). All (StandsIn b.sandbox b.address bytes) l) (sym read.1.found_is)
    (All-append (StandsIn b.sandbox b.address bytes) _ _
    (reading_stands b _ b.address [] bytes reading is_reading)
    (rest_stands b (b.address + (length bytes - length rest)) b.address bytes rest end.count end.rest_is place end.within (omega (arith, end.even, end.within))))

-- ---- in a part

-- what a place of the first bytes is, it is of all
place_more : (rule : Rule) (m : ℕ) (code : List ℕ) → IsPlace rule (take m code) → IsPlace rule code
place_more rule m code h = more rule h
  where
    half : 2 ≤ length (take m code) → 2 ≤ length code
    half e = omega (arith, length-take m code)

    spelled : SpellsFirst (take m code) → SpellsFirst code
    spelled s =
        let fits = spell_fits (take m code) s.instr s.size s.spelled in
        let short : s.size ≤ m = omega (arith, fits.1, length-take m code) in
        record { instr = s.instr; size = s.size; spelled = subst (λ (l : List ℕ). Spells l s.instr s.size) (take-take s.size m code short) s.spelled }

    more : (r : Rule) → IsPlace r (take m code) → IsPlace r code
    more V1 e = half e
    more V2 e = half e
    more V9 e = tt
    more _ e = spelled e

-- what stands in a slice stands in all
moved : (sandbox base k m : ℕ) (bytes : List ℕ) (f : Finding) → k + m ≤ length bytes → StandsIn sandbox (base + k) (take m (drop k bytes)) f → StandsIn sandbox base bytes f
moved sandbox base k m bytes f inside s =
    let count : length (take m (drop k bytes)) ≡ m = omega (arith, inside, length-take m (drop k bytes), length-drop k bytes) in
    let within : s.offset ≤ m = omega (arith, s.within, count) in
    let split : drop s.offset (take m (drop k bytes)) ≡ take (m - s.offset) (drop s.offset (drop k bytes)) =
    ap (λ n. drop s.offset (take n (drop k bytes))) (let e : m ≡ s.offset + (m - s.offset) = omega arith in e) ∙ drop-take s.offset (m - s.offset) (drop k bytes) in
    let place = place_more f.rule (m - s.offset) (drop s.offset (drop k bytes)) (subst (λ (l : List ℕ). IsPlace f.rule l) split s.place) in
    record {
      offset = k + s.offset;
      sandbox_is = s.sandbox_is;
      address_is = omega (arith, s.address_is);
      within = omega arith;
      place = subst (λ (l : List ℕ). IsPlace f.rule l) (drop-drop s.offset k bytes) place;
    }

first_stand : (sandbox : ℕ) (p : Part) (n : ℕ) (found : List Finding) → 16 * n ≤ length p.code → AreFindingsOfFirst sandbox p n found
    → All (StandsIn sandbox p.code_base p.code) found
first_stand sandbox p zero found few h = subst (λ (l : List Finding). All (StandsIn sandbox p.code_base p.code) l) (sym h) (λ k d g. absurd (omega arith))
first_stand sandbox p (suc n) found few h =
    let inside : 16 * n + 16 ≤ length p.code = omega arith in
    let count : length (bundle_bytes p n) ≡ 16 = omega (arith, length-take 16 (drop (16 * n) p.code), length-drop (16 * n) p.code) in
    subst (λ (l : List Finding). All (StandsIn sandbox p.code_base p.code) l) (sym h.4)
    (All-append (StandsIn sandbox p.code_base p.code) h.0 h.1 (first_stand sandbox p n h.0 (omega arith) h.2)
    (λ k d g. moved sandbox p.code_base (16 * n) 16 p.code _ inside (bundle_stands (bundle_place sandbox p n) (bundle_bytes p n) h.1 count h.3 k d g)))

-- ---- of code in words

-- the rule that is found is one that passes
found_rule : (Q : Rule → Type 0) (test : Rule → Bool) (rules : List Rule) → ((r : Rule) → test r ≡ true → Q r) → (r : Rule) → find test rules ≡ Some r → Q r
found_rule Q test [] each r e = absurd (cc)
found_rule Q test (x ∷ rules) each r e = by (test x) refl (found_rule Q test rules each r) e
  where
    by : (b : Bool) → test x ≡ b → (find test rules ≡ Some r → Q r) → cond b (Some x) (find test rules) ≡ Some r → Q r
    by true is later e = let same : x ≡ r = cc in subst Q same (each x is)
    by false is later e = later e

-- at the places of a reading
pieces_stand : (b : BundlePlace) (at : ℕ) (owed : Owed) (rest : List ℕ) (reading : List Piece) → IsReading rest reading → All (StandsIn b.sandbox at rest) (words.found_from b at owed reading)
pieces_stand b at owed rest [] h = λ k d g. absurd (omega arith)
pieces_stand b at owed rest (x ∷ later) h =
    All-append (StandsIn b.sandbox at rest) (words.found_at b at (words.lowest here)) (words.found_from b (at + x.size) (owed_next b.format owed x.instr) later)
    (first (words.lowest here) refl)
    (λ k d g. after_piece _ _ _ _ _ h.0 _ (pieces_stand b (at + x.size) (owed_next b.format owed x.instr) (drop x.size rest) later h.1 k d g))
  where
    here : words.InstrInWord
    here = record { bundle = b; address = at; owed = owed; instr = x.instr; size = x.size }

    begins : SpellsFirst rest
    begins = record { instr = x.instr; size = x.size; spelled = h.0 }

    place : (r : Rule) → words.breaks here r ≡ true → IsPlace r rest
    place V1 b = absurd cc
    place V2 b = absurd cc
    place V9 b = tt
    place _ b = begins

    only : (rule : Rule) → words.lowest here ≡ Some rule → All (StandsIn b.sandbox at rest) (broken b at rule ∷ [])
    only rule e zero d g = record { offset = 0; sandbox_is = refl; address_is = omega arith; within = omega arith; place = found_rule (λ r. IsPlace r rest) (λ r. words.breaks here r) all_rules place rule e }
    only rule e (suc k) d g = absurd (omega arith)

    first : (o : Option Rule) → words.lowest here ≡ o → All (StandsIn b.sandbox at rest) (words.found_at b at o)
    first None e = λ k d g. absurd (omega arith)
    first (Some rule) e = only rule e

word_stands : (b : BundlePlace) (at : ℕ) (owed : Owed) (word : List ℕ) (found : List Finding) (next : Owed) → length word ≡ 4 → words.IsWordFound b at owed word found next → All (StandsIn b.sandbox at word) found
word_stands b at owed word found next count h =
    let reading = h.reading in
    let is_reading = h.longest.is_reading in
    let rest = rest_of word reading in
    let end = ends_at word reading is_reading in
    let left : length rest ≡ 4 - end.count = omega (arith, ap length end.rest_is, length-drop end.count word) in
    let place : at + (4 - length rest) ≡ at + end.count = omega (arith, end.within) in
    subst (λ (l : List Finding). All (StandsIn b.sandbox at word) l) (sym h.found_is)
    (All-append (StandsIn b.sandbox at word) _ _
    (pieces_stand b at owed word reading is_reading)
    (rest_stands b (at + (4 - length rest)) at word rest end.count end.rest_is place end.within (omega (arith, end.even, end.within))))

words_stand : (b : BundlePlace) (owed : Owed) (bytes : List ℕ) (n : ℕ) (found : List Finding) (next : Owed) → length bytes ≡ 16 → n ≤ 4 → words.AreFoundInWords b owed bytes n found next → All (StandsIn b.sandbox b.address bytes) found
words_stand b owed bytes zero found next count few h = subst (λ (l : List Finding). All (StandsIn b.sandbox b.address bytes) l) (sym h.0) (λ k d g. absurd (omega arith))
words_stand b owed bytes (suc n) found next count few h =
    let inside : 4 * n + 4 ≤ length bytes = omega (arith, count, few) in
    let four : length (take 4 (drop (4 * n) bytes)) ≡ 4 = omega (arith, inside, length-take 4 (drop (4 * n) bytes), length-drop (4 * n) bytes) in
    subst (λ (l : List Finding). All (StandsIn b.sandbox b.address bytes) l) (sym h.5)
    (All-append (StandsIn b.sandbox b.address bytes) h.0 h.1 (words_stand b owed bytes n h.0 h.2 count (omega arith) h.3)
    (λ k d g. moved b.sandbox b.address (4 * n) 4 bytes _ inside (word_stands b (b.address + 4 * n) h.2 (take 4 (drop (4 * n) bytes)) h.1 next four h.4 k d g)))

first_words_stand : (sandbox : ℕ) (p : Part) (n : ℕ) (found : List Finding) (next : Owed) → 16 * n ≤ length p.code → words.AreFoundOfFirst sandbox p n found next
    → All (StandsIn sandbox p.code_base p.code) found
first_words_stand sandbox p zero found next few h = subst (λ (l : List Finding). All (StandsIn sandbox p.code_base p.code) l) (sym h.0) (λ k d g. absurd (omega arith))
first_words_stand sandbox p (suc n) found next few h =
    let inside : 16 * n + 16 ≤ length p.code = omega arith in
    let count : length (bundle_bytes p n) ≡ 16 = omega (arith, length-take 16 (drop (16 * n) p.code), length-drop (16 * n) p.code) in
    subst (λ (l : List Finding). All (StandsIn sandbox p.code_base p.code) l) (sym h.5)
    (All-append (StandsIn sandbox p.code_base p.code) h.0 h.1 (first_words_stand sandbox p n h.0 h.2 (omega arith) h.3)
    (λ k d g. moved sandbox p.code_base (16 * n) 16 p.code _ inside (words_stand (bundle_place sandbox p n) h.2 (bundle_bytes p n) 4 h.1 next count (omega arith) h.4 k d g)))

-- ---- of any code

part_stands : (sandbox : ℕ) (p : Part) (found : List Finding) → AreFindings sandbox p found → All (StandsIn sandbox p.code_base p.code) found
part_stands sandbox p found = by (has_words p.format)
  where
    by : (w : Bool) → MatchBool w (words.AreFindingsInWords sandbox p found) (AreFindingsInBundles sandbox p found) → All (StandsIn sandbox p.code_base p.code) found
    by true h = first_words_stand sandbox p h.0 found h.1 (omega (arith, h.2)) h.3
    by false h = first_stand sandbox p h.0 found (omega (arith, h.1)) h.2

-- ---- in an image

record StandsFrom (first : ℕ) (ps : List Part) (f : Finding) : Type 0 where
  part : Part
  place : ℕ
  part_is : slice_get ps place ≡ Some part
  stands : StandsIn (first + place) part.code_base part.code f

from_stand : (first : ℕ) (ps : List Part) (found : List Finding) → AreFindingsFrom first ps found → All (StandsFrom first ps) found
from_stand first [] found h = subst (λ (l : List Finding). All (StandsFrom first []) l) (sym h) (λ k d g. absurd (omega arith))
from_stand first (p ∷ ps) found h =
    subst (λ (l : List Finding). All (StandsFrom first (p ∷ ps)) l) (sym h.4)
    (All-append (StandsFrom first (p ∷ ps)) h.0 h.1
    (λ k d g. here _ (part_stands first p h.0 h.2 k d g))
    (λ k d g. after _ (from_stand (first + 1) ps h.1 h.3 k d g)))
  where
    here : (f : Finding) → StandsIn first p.code_base p.code f → StandsFrom first (p ∷ ps) f
    here f s = record { part = p; place = 0; part_is = refl; stands = subst (λ n. StandsIn n p.code_base p.code f) (let e : first ≡ first + 0 = omega arith in e) s }

    after : (f : Finding) → StandsFrom (first + 1) ps f → StandsFrom first (p ∷ ps) f
    after f s = record {
      part = s.part;
      place = suc s.place;
      part_is = s.part_is;
      stands = subst (λ n. StandsIn n s.part.code_base s.part.code f) (let e : first + 1 + s.place ≡ first + suc s.place = omega arith in e) s.stands;
    }

-- each finding of an image stands at a place of one of its parts
pub findings_stand : (ps : List Part) (found : List Finding) → AreImageFindings ps found → All (Stands ps) found
findings_stand ps found h = λ k d g. at _ (from_stand 0 ps found h k d g)
  where
    at : (f : Finding) → StandsFrom 0 ps f → Stands ps f
    at f s =
        let number : s.place ≡ f.sandbox = omega (arith, s.stands.sandbox_is) in
        record {
          part = s.part;
          offset = s.stands.offset;
          part_is = subst (λ n. slice_get ps n ≡ Some s.part) number s.part_is;
          address_is = s.stands.address_is;
          within = s.stands.within;
          place = s.stands.place;
        }
