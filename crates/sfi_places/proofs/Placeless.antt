-- What is found doesn't depend on the place.
use Rattle.std.proofs.Common.{◌≡◌, ℕ, zero, suc, ◌+◌, ◌-◌, ◌*◌, ◌%◌, ◌^◌, ◌<◌, ◌≤◌, List, [], ◌∷◌, ◌++◌, length, map, take, drop, Bool, true, false, not, cond, ◌&&◌, ◌==◌, refl, sym, ap, ◌∙◌, subst, inl, inr, arith, nat_le, nat_lt, Option, Some, None}
use Rattle.std.specs.Prelude.{ℤ, pos, negsuc, ◌+ℤ◌, MatchBool}
use Rattle.std.specs.List.{All, find}
use Rattle.std.proofs.lemmas.Int.{ints}
use Rattle.std.proofs.lemmas.Bool.{and_parts, and_from, leb-true, ltb-true, eqb-true, le-leb, lt-ltb, eq-eqb}
use Rattle.std.proofs.lemmas.List.{map-append}
use Rattle.std.proofs.lemmas.List.Elements.{All-head, All-tail}
use Rattle.rv_word.specs.Spelling.{modulo, offset_by}
use Rattle.rv_word.specs.declared.instr.Instr.{Instr}
use Rattle.rv_word.specs.declared.instr.Instr.TheVariants.{Load, Store, Branch, Jal, Jalr, Ecall}
use Rattle.sfi_formats.specs.Formats.{has_words}
use Rattle.sfi_image.specs.declared.part.Gate.{Gate}
use Rattle.sfi_image.specs.declared.bundle.BundlePlace.{BundlePlace}
use Rattle.sfi_image.specs.Spelling.{Part}
use Rattle.sfi_image.specs.Parts.{is_gate_of, IsRightPart}
use Rattle.sfi_image.proofs.Facts.{whole_bundles, code_ends}
use Rattle.sfi_rules.specs.declared.finding.Finding.{Finding}
use Rattle.sfi_rules.specs.declared.rule.Rule.{Rule}
use Rattle.sfi_rules.specs.declared.rule.Rule.TheVariants.{V1, V3, V5, V6, V7, V8, V9}
use Rattle.sfi_rules.specs.Rules.{broken, all_rules, rest_finding, InstrInBundle, is_empty, breaks_ecall, breaks_access, breaks_jump, breaks_target, breaks, is_last_bundle}
use Rattle.sfi_rules.specs.Readings.{bundle_place, bundle_bytes, Piece, rest_of}
use Rattle.sfi_rules.specs.Findings.{lowest, findings_from, AreReadingFindings, AreBundleFindings, AreFindingsOfFirst, AreFindingsInBundles}
use Rattle.sfi_rules.specs.words.Rules.{owed_next}
use Rattle.sfi_rules.specs.words.Rules as word_rules
use Rattle.sfi_rules.specs.words.Findings as words
use Rattle.sfi_rules.specs.words.Findings.{found_from, found_at, IsWordFound, AreFoundInWords, AreFoundOfFirst, AreFindingsInWords}
use Rattle.sfi_rules.specs.declared.owed.Owed.{Owed}
use Rattle.sfi_places.specs.Moving.{moved_address, moved_gate, moved_finding, moved, FindingsArePlaceless, CleanIsPlaceless}

-- ---- numbers

same_bool : (a b : Bool) → (a ≡ true → b ≡ true) → (b ≡ true → a ≡ true) → a ≡ b
same_bool true b f g = sym (f refl)
same_bool false true f g = g refl
same_bool false false f g = refl

same_eq : (a b c d : ℕ) → (a ≡ b → c ≡ d) → (c ≡ d → a ≡ b) → (a == b) ≡ (c == d)
same_eq a b c d f g = same_bool (a == b) (c == d) (λ e. eq-eqb c d (f (eqb-true a b e))) (λ e. eq-eqb a b (g (eqb-true c d e)))

-- where an offset leads inside a region, it leads as far inside from the other base
goes_to : (from to size k : ℕ) (z w v : ℤ) → w ≡ pos (from + k) +ℤ z → v ≡ pos (to + k) +ℤ z → to + size ≤ 2 ^ 32
    → from ≤ modulo 32 w → modulo 32 w < from + size → modulo 32 v + from ≡ modulo 32 w + to
goes_to from to size k (pos n) (pos i) (pos j) e f end low high = omega (arith, ints)
goes_to from to size k (pos n) (pos i) (negsuc j) e f end low high = absurd (omega (arith, ints))
goes_to from to size k (pos n) (negsuc i) v e f end low high = absurd (omega (arith, ints))
goes_to from to size k (negsuc n) (pos i) (pos j) e f end low high = omega (arith, ints)
goes_to from to size k (negsuc n) (pos i) (negsuc j) e f end low high = omega (arith, ints)
goes_to from to size k (negsuc n) (negsuc i) (pos j) e f end low high = omega (arith, ints)
goes_to from to size k (negsuc n) (negsuc i) (negsuc j) e f end low high = omega (arith, ints)

lands : (from to size k : ℕ) (z : ℤ) → to + size ≤ 2 ^ 32 → from ≤ offset_by (from + k) z → offset_by (from + k) z < from + size
    → offset_by (to + k) z + from ≡ offset_by (from + k) z + to
lands from to size k z end low high = goes_to from to size k z (pos (from + k) +ℤ z) (pos (to + k) +ℤ z) refl refl end low high

-- the start of a unit, by its size
abbrev is_start : ℕ → ℕ → ℕ → ℕ → Bool
is_start unit base size a = nat_le base a && nat_lt a (base + size) && (a % unit == 0)

start_there : (unit from to size k : ℕ) (z : ℤ) → to + size ≤ 2 ^ 32 → ((a b : ℕ) → b + from ≡ a + to → a % unit ≡ 0 → b % unit ≡ 0)
    → is_start unit from size (offset_by (from + k) z) ≡ true → is_start unit to size (offset_by (to + k) z) ≡ true
start_there unit from to size k z end keeps h =
    let a = offset_by (from + k) z in
    let b = offset_by (to + k) z in
    let outer = and_parts (nat_le from a && nat_lt a (from + size)) (a % unit == 0) h in
    let inner = and_parts (nat_le from a) (nat_lt a (from + size)) outer.0 in
    let low = leb-true from a inner.0 in
    let high = ltb-true a (from + size) inner.1 in
    let on = eqb-true (a % unit) 0 outer.1 in
    let e : b + from ≡ a + to = lands from to size k z end low high in
    and_from (nat_le to b && nat_lt b (to + size)) (b % unit == 0)
    (and_from (nat_le to b) (nat_lt b (to + size)) (le-leb to b (omega arith)) (lt-ltb b (to + size) (omega arith)))
    (eq-eqb (b % unit) 0 (keeps a b e on))

start_16 : (from to size k : ℕ) (z : ℤ) → to + size ≤ 2 ^ 32 → from % 16 ≡ 0 → to % 16 ≡ 0 → is_start 16 from size (offset_by (from + k) z) ≡ true → is_start 16 to size (offset_by (to + k) z) ≡ true
start_16 from to size k z end even even' = start_there 16 from to size k z end (λ a b e on. omega (arith, even, even', e, on))

start_4 : (from to size k : ℕ) (z : ℤ) → to + size ≤ 2 ^ 32 → from % 16 ≡ 0 → to % 16 ≡ 0 → is_start 4 from size (offset_by (from + k) z) ≡ true → is_start 4 to size (offset_by (to + k) z) ≡ true
start_4 from to size k z end even even' = start_there 4 from to size k z end (λ a b e on. omega (arith, even, even', e, on))

gates_move : (from to n : ℕ) (gs : List Gate) → All (λ (g : Gate). from ≤ g.address) gs → is_gate_of (map (moved_gate from to) gs) (to + n) ≡ is_gate_of gs (from + n)
gates_move from to n [] all = refl
gates_move from to n (g ∷ gs) all =
    let here : from ≤ g.address = All-head (λ (h : Gate). from ≤ h.address) g gs all in
    let a : (moved_address from to g.address == to + n) ≡ (g.address == from + n) = same_eq (moved_address from to g.address) (to + n) g.address (from + n) (λ e. omega arith) (λ e. omega arith) in
    let b = gates_move from to n gs (All-tail (λ (h : Gate). from ≤ h.address) g gs all) in
    rw (a, b) refl

-- ---- from one base to another

module _ (from to size : ℕ) (end : from + size ≤ 2 ^ 32) (end' : to + size ≤ 2 ^ 32) (even : from % 16 ≡ 0) (even' : to % 16 ≡ 0) where
  abbrev there : BundlePlace → ℕ → BundlePlace
  there b n = record b { address = to + n; code_base = to; code_size = size }

  abbrev here : BundlePlace → ℕ → BundlePlace
  here b n = record b { address = from + n; code_base = from; code_size = size }

  abbrev f : Finding → Finding
  f = moved_finding from to

  back : (n : ℕ) → moved_address from to (from + n) ≡ to + n
  back n = omega arith

  -- ---- in bundles

  abbrev place_at : BundlePlace → ℕ → List Instr → Instr → List Piece → Bool → InstrInBundle
  place_at b k earlier i later whole = record { bundle = b; address = k; earlier = earlier; instr = i; later = later; whole = whole }

  target_same : (b : BundlePlace) (n k : ℕ) (earlier : List Instr) (i j : Instr) (later : List Piece) (whole : Bool)
      → breaks_target (place_at (there b n) (to + k) earlier i later whole) j ≡ breaks_target (place_at (here b n) (from + k) earlier i later whole) j
  target_same b n k earlier i (Jal rd z) later whole = ap not (same_bool _ _ (start_16 to from size k z end even' even) (start_16 from to size k z end' even even'))
  target_same b n k earlier i (Branch c rs1 rs2 z) later whole = ap not (same_bool _ _ (start_16 to from size k z end even' even) (start_16 from to size k z end' even even'))
  target_same b n k earlier i _ later whole = refl

  ecall_same : (b : BundlePlace) (n k : ℕ) (earlier : List Instr) (i j : Instr) (later : List Piece) (whole : Bool)
      → breaks_ecall (place_at (there b n) (to + k) earlier i later whole) j ≡ breaks_ecall (place_at (here b n) (from + k) earlier i later whole) j
  ecall_same b n k earlier i Ecall later whole = refl
  ecall_same b n k earlier i _ later whole = refl

  access_same : (b : BundlePlace) (n k : ℕ) (earlier : List Instr) (i j : Instr) (later : List Piece) (whole : Bool)
      → breaks_access (place_at (there b n) (to + k) earlier i later whole) j ≡ breaks_access (place_at (here b n) (from + k) earlier i later whole) j
  access_same b n k earlier i (Load kind rd rs1 imm) later whole = refl
  access_same b n k earlier i (Store width rs1 rs2 imm) later whole = refl
  access_same b n k earlier i _ later whole = refl

  jump_same : (b : BundlePlace) (n k : ℕ) (earlier : List Instr) (i j : Instr) (later : List Piece) (whole : Bool)
      → breaks_jump (place_at (there b n) (to + k) earlier i later whole) j ≡ breaks_jump (place_at (here b n) (from + k) earlier i later whole) j
  jump_same b n k earlier i (Jalr rd rs1 (pos x)) later whole = refl
  jump_same b n k earlier i (Jalr rd rs1 (negsuc x)) later whole = refl
  jump_same b n k earlier i _ later whole = refl

  last_same : (b : BundlePlace) (n : ℕ) → is_last_bundle (there b n) ≡ is_last_bundle (here b n)
  last_same b n = same_eq (to + n + 16) (to + size) (from + n + 16) (from + size) (λ e. omega arith) (λ e. omega arith)

  breaks_same : (b : BundlePlace) (n k : ℕ) (earlier : List Instr) (i : Instr) (later : List Piece) (whole : Bool) (rule : Rule)
      → breaks (place_at (there b n) (to + k) earlier i later whole) rule ≡ breaks (place_at (here b n) (from + k) earlier i later whole) rule
  breaks_same b n k earlier i later whole V3 = ecall_same b n k earlier i i later whole
  breaks_same b n k earlier i later whole V5 = access_same b n k earlier i i later whole
  breaks_same b n k earlier i later whole V6 = jump_same b n k earlier i i later whole
  breaks_same b n k earlier i later whole V7 = target_same b n k earlier i i later whole
  breaks_same b n k earlier i later whole V8 = rw (last_same b n) refl
  breaks_same b n k earlier i later whole _ = refl

  found_same : (b : BundlePlace) (n k : ℕ) (rule : Rule) → broken (there b n) (to + k) rule ≡ f (broken (here b n) (from + k) rule)
  found_same b n k rule = ap (λ (a : ℕ). broken (there b n) a rule) (sym (back k))

  lowest_same : (b : BundlePlace) (n k : ℕ) (earlier : List Instr) (i : Instr) (later : List Piece) (whole : Bool) (rules : List Rule)
      → lowest (place_at (there b n) (to + k) earlier i later whole) rules ≡ map f (lowest (place_at (here b n) (from + k) earlier i later whole) rules)
  lowest_same b n k earlier i later whole [] = refl
  lowest_same b n k earlier i later whole (rule ∷ rules) =
      pick (breaks (place_at (there b n) (to + k) earlier i later whole) rule) (breaks (place_at (here b n) (from + k) earlier i later whole) rule)
      (breaks_same b n k earlier i later whole rule)
      (lowest (place_at (there b n) (to + k) earlier i later whole) rules) (lowest (place_at (here b n) (from + k) earlier i later whole) rules)
      (lowest_same b n k earlier i later whole rules)
    where
      pick : (x y : Bool) → x ≡ y → (xs ys : List Finding) → xs ≡ map f ys
          → cond x (broken (there b n) (to + k) rule ∷ []) xs ≡ map f (cond y (broken (here b n) (from + k) rule ∷ []) ys)
      pick true true e xs ys g = ap (λ (a : Finding). a ∷ []) (found_same b n k rule)
      pick false false e xs ys g = g
      pick true false e xs ys g = absurd cc
      pick false true e xs ys g = absurd cc

  from_same : (b : BundlePlace) (n k : ℕ) (whole : Bool) (earlier : List Instr) (reading : List Piece)
      → findings_from (there b n) whole (to + k) earlier reading ≡ map f (findings_from (here b n) whole (from + k) earlier reading)
  from_same b n k whole earlier [] = refl
  from_same b n k whole earlier (x ∷ later) =
      let first = lowest_same b n k earlier x.instr later whole all_rules in
      let more = from_same b n (k + x.size) whole (x.instr ∷ earlier) later in
      let u : to + (k + x.size) ≡ to + k + x.size = omega arith in
      let v : from + (k + x.size) ≡ from + k + x.size = omega arith in
      let more' : findings_from (there b n) whole (to + k + x.size) (x.instr ∷ earlier) later ≡ map f (findings_from (here b n) whole (from + k + x.size) (x.instr ∷ earlier) later) =
      ap (λ (a : ℕ). findings_from (there b n) whole a (x.instr ∷ earlier) later) (sym u) ∙ more ∙ ap (λ (a : ℕ). map f (findings_from (here b n) whole a (x.instr ∷ earlier) later)) v in
      let xs = lowest (place_at (here b n) (from + k) earlier x.instr later whole) all_rules in
      let ys = findings_from (here b n) whole (from + k + x.size) (x.instr ∷ earlier) later in
      ap (λ l. l ++ findings_from (there b n) whole (to + k + x.size) (x.instr ∷ earlier) later) first ∙ ap (λ l. map f xs ++ l) more' ∙ sym (map-append f xs ys)

  rest_same : (b : BundlePlace) (n k : ℕ) (rest : List ℕ) → rest_finding (there b n) (to + k) rest ≡ map f (rest_finding (here b n) (from + k) rest)
  rest_same b n k [] = refl
  rest_same b n k (low ∷ []) = ap (λ (a : Finding). a ∷ []) (found_same b n k V1)
  rest_same b n k (low ∷ high ∷ []) = ap (λ (a : Finding). a ∷ []) (found_same b n k _)
  rest_same b n k (low ∷ high ∷ x ∷ rest) = ap (λ (a : Finding). a ∷ []) (found_same b n k V1)

  reading_same : (b : BundlePlace) (n : ℕ) (bytes : List ℕ) (found : List Finding) → AreReadingFindings (here b n) bytes found → AreReadingFindings (there b n) bytes (map f found)
  reading_same b n bytes found h =
      let rest = rest_of bytes h.reading in
      let gone = length bytes - length rest in
      let xs = findings_from (here b n) (is_empty rest) (from + n) [] h.reading in
      let u : to + (n + gone) ≡ to + n + gone = omega arith in
      let v : from + (n + gone) ≡ from + n + gone = omega arith in
      let last : rest_finding (there b n) (to + n + gone) rest ≡ map f (rest_finding (here b n) (from + n + gone) rest) =
      ap (λ (a : ℕ). rest_finding (there b n) a rest) (sym u) ∙ rest_same b n (n + gone) rest ∙ ap (λ (a : ℕ). map f (rest_finding (here b n) a rest)) v in
      record {
        reading = h.reading;
        longest = h.longest;
        found_is = ap (map f) h.found_is ∙ map-append f xs (rest_finding (here b n) (from + n + gone) rest)
            ∙ ap (λ l. l ++ map f (rest_finding (here b n) (from + n + gone) rest)) (sym (from_same b n n (is_empty rest) [] h.reading))
            ∙ ap (λ l. findings_from (there b n) (is_empty rest) (to + n) [] h.reading ++ l) (sym last);
      }

  bundle_same : (b : BundlePlace) (n : ℕ) (bytes : List ℕ) (found : List Finding) → AreBundleFindings (here b n) bytes found → AreBundleFindings (there b n) bytes (map f found)
  bundle_same b n bytes found (inl h) = inl (h.0, h.1, ap (map f) h.2 ∙ ap (λ (a : Finding). a ∷ []) (sym (found_same b n n V9)))
  bundle_same b n bytes found (inr h) = inr (h.0, reading_same b n bytes found h.1)

  -- ---- in words

  abbrev word_at : BundlePlace → ℕ → Owed → Instr → ℕ → words.InstrInWord
  word_at b k owed i n = record { bundle = b; address = k; owed = owed; instr = i; size = n }

  word_target_same : (k : ℕ) (i : Instr) → word_rules.breaks_target to size (to + k) i ≡ word_rules.breaks_target from size (from + k) i
  word_target_same k (Jal rd z) = ap not (same_bool _ _ (start_4 to from size k z end even' even) (start_4 from to size k z end' even even'))
  word_target_same k (Branch c rs1 rs2 z) = ap not (same_bool _ _ (start_4 to from size k z end even' even) (start_4 from to size k z end' even even'))
  word_target_same k _ = refl

  at_gate_same : (n k : ℕ) → (to + k == to + n) ≡ (from + k == from + n)
  at_gate_same n k = same_eq (to + k) (to + n) (from + k) (from + n) (λ e. omega arith) (λ e. omega arith)

  word_end_same : (k n : ℕ) → (to + k + n == to + size) ≡ (from + k + n == from + size)
  word_end_same k n = same_eq (to + k + n) (to + size) (from + k + n) (from + size) (λ e. omega arith) (λ e. omega arith)

  word_breaks_same : (b : BundlePlace) (n k : ℕ) (owed : Owed) (i : Instr) (m : ℕ) (rule : Rule)
      → words.breaks (word_at (there b n) (to + k) owed i m) rule ≡ words.breaks (word_at (here b n) (from + k) owed i m) rule
  word_breaks_same b n k owed i m V3 = ap (λ (g : Bool). word_rules.breaks_ecall (b.listed && g) i) (at_gate_same n k)
  word_breaks_same b n k owed i m V7 = word_target_same k i
  word_breaks_same b n k owed i m V8 = rw (word_end_same k m) refl
  word_breaks_same b n k owed i m _ = refl

  find_same : (b : BundlePlace) (n k : ℕ) (owed : Owed) (i : Instr) (m : ℕ) (rules : List Rule)
      → find (λ rule. words.breaks (word_at (there b n) (to + k) owed i m) rule) rules ≡ find (λ rule. words.breaks (word_at (here b n) (from + k) owed i m) rule) rules
  find_same b n k owed i m [] = refl
  find_same b n k owed i m (rule ∷ rules) = rw (word_breaks_same b n k owed i m rule, find_same b n k owed i m rules) refl

  at_same : (b : BundlePlace) (n k : ℕ) (o : Option Rule) → found_at (there b n) (to + k) o ≡ map f (found_at (here b n) (from + k) o)
  at_same b n k None = refl
  at_same b n k (Some rule) = ap (λ (a : Finding). a ∷ []) (found_same b n k rule)

  words_same : (b : BundlePlace) (n k : ℕ) (owed : Owed) (reading : List Piece) → found_from (there b n) (to + k) owed reading ≡ map f (found_from (here b n) (from + k) owed reading)
  words_same b n k owed [] = refl
  words_same b n k owed (x ∷ later) =
      let first : found_at (there b n) (to + k) (words.lowest (word_at (there b n) (to + k) owed x.instr x.size)) ≡ map f (found_at (here b n) (from + k) (words.lowest (word_at (here b n) (from + k) owed x.instr x.size))) =
      ap (found_at (there b n) (to + k)) (find_same b n k owed x.instr x.size all_rules) ∙ at_same b n k (words.lowest (word_at (here b n) (from + k) owed x.instr x.size)) in
      let o = owed_next b.format owed x.instr in
      let more = words_same b n (k + x.size) o later in
      let u : to + (k + x.size) ≡ to + k + x.size = omega arith in
      let v : from + (k + x.size) ≡ from + k + x.size = omega arith in
      let more' : found_from (there b n) (to + k + x.size) o later ≡ map f (found_from (here b n) (from + k + x.size) o later) =
      ap (λ (a : ℕ). found_from (there b n) a o later) (sym u) ∙ more ∙ ap (λ (a : ℕ). map f (found_from (here b n) a o later)) v in
      let xs = found_at (here b n) (from + k) (words.lowest (word_at (here b n) (from + k) owed x.instr x.size)) in
      let ys = found_from (here b n) (from + k + x.size) o later in
      ap (λ l. l ++ found_from (there b n) (to + k + x.size) o later) first ∙ ap (λ l. map f xs ++ l) more' ∙ sym (map-append f xs ys)

  word_same : (b : BundlePlace) (n k : ℕ) (owed : Owed) (word : List ℕ) (found : List Finding) (next : Owed) → IsWordFound (here b n) (from + k) owed word found next → IsWordFound (there b n) (to + k) owed word (map f found) next
  word_same b n k owed word found next h =
      let rest = rest_of word h.reading in
      let gone = 4 - length rest in
      let xs = found_from (here b n) (from + k) owed h.reading in
      let u : to + (k + gone) ≡ to + k + gone = omega arith in
      let v : from + (k + gone) ≡ from + k + gone = omega arith in
      let last : rest_finding (there b n) (to + k + gone) rest ≡ map f (rest_finding (here b n) (from + k + gone) rest) =
      ap (λ (a : ℕ). rest_finding (there b n) a rest) (sym u) ∙ rest_same b n (k + gone) rest ∙ ap (λ (a : ℕ). map f (rest_finding (here b n) a rest)) v in
      record {
        reading = h.reading;
        longest = h.longest;
        found_is = ap (map f) h.found_is ∙ map-append f xs (rest_finding (here b n) (from + k + gone) rest)
            ∙ ap (λ l. l ++ map f (rest_finding (here b n) (from + k + gone) rest)) (sym (words_same b n k owed h.reading))
            ∙ ap (λ l. found_from (there b n) (to + k) owed h.reading ++ l) (sym last);
        next_is = h.next_is;
      }

  in_words_same : (b : BundlePlace) (n : ℕ) (owed : Owed) (bytes : List ℕ) (k : ℕ) (found : List Finding) (next : Owed)
      → AreFoundInWords (here b n) owed bytes k found next → AreFoundInWords (there b n) owed bytes k (map f found) next
  in_words_same b n owed bytes zero found next h = (ap (map f) h.0, h.1)
  in_words_same b n owed bytes (suc k) found next h =
      let u : from + n + 4 * k ≡ from + (n + 4 * k) = omega arith in
      let v : to + (n + 4 * k) ≡ to + n + 4 * k = omega arith in
      let word = take 4 (drop (4 * k) bytes) in
      let one = subst (λ (a : ℕ). IsWordFound (here b n) a h.2 word h.1 next) u h.4 in (
        map f h.0,
        map f h.1,
        h.2,
        in_words_same b n owed bytes k h.0 h.2 h.3,
        subst (λ (a : ℕ). IsWordFound (there b n) a h.2 word (map f h.1) next) v (word_same b n (n + 4 * k) h.2 word h.1 next one),
        ap (map f) h.5 ∙ map-append f h.0 h.1,
      )

-- ---- a part

module _ (sandbox code data_at : ℕ) (p : Part) (right : IsRightPart p) (right' : IsRightPart (moved code data_at p)) where
  even_base : (q : Part) → IsRightPart q → q.code_base % 16 ≡ 0
  even_base q r = let w = whole_bundles q.format q.code_base (length q.code) r.code_base r.code_placed in let e : q.code_base ≡ 16 * w.1 = w.3 in omega arith

  above : All (λ (g : Gate). p.code_base ≤ g.address) p.gates
  above k d below = (right.gates.starts k d below).held.0

  place_same : (n : ℕ) → bundle_place sandbox (moved code data_at p) n ≡ record (bundle_place sandbox p n) { address = code + 16 * n; code_base = code }
  place_same n = ap (λ (l : Bool). record (bundle_place sandbox p n) { address = code + 16 * n; code_base = code; listed = l }) (gates_move p.code_base code (16 * n) p.gates above)

  one_bundle : (n : ℕ) (found : List Finding) → AreBundleFindings (bundle_place sandbox p n) (bundle_bytes p n) found
      → AreBundleFindings (bundle_place sandbox (moved code data_at p) n) (bundle_bytes p n) (map (moved_finding p.code_base code) found)
  one_bundle n found h =
      subst (λ (b : BundlePlace). AreBundleFindings b (bundle_bytes p n) (map (moved_finding p.code_base code) found)) (sym (place_same n))
      (bundle_same p.code_base code (length p.code) (code_ends p right) (code_ends (moved code data_at p) right') (even_base p right) (even_base (moved code data_at p) right') (bundle_place sandbox p n) (16 * n) (bundle_bytes p n) found h)

  of_first : (n : ℕ) (found : List Finding) → AreFindingsOfFirst sandbox p n found → AreFindingsOfFirst sandbox (moved code data_at p) n (map (moved_finding p.code_base code) found)
  of_first zero found h = ap (map (moved_finding p.code_base code)) h
  of_first (suc n) found h =
      (map (moved_finding p.code_base code) h.0, map (moved_finding p.code_base code) h.1, of_first n h.0 h.2, one_bundle n h.1 h.3, ap (map (moved_finding p.code_base code)) h.4 ∙ map-append (moved_finding p.code_base code) h.0 h.1)

  pub bundles_placeless : (found : List Finding) → AreFindingsInBundles sandbox p found → AreFindingsInBundles sandbox (moved code data_at p) (map (moved_finding p.code_base code) found)
  bundles_placeless found h = (h.0, h.1, of_first h.0 found h.2)

  of_first_words : (n : ℕ) (found : List Finding) (next : Owed) → AreFoundOfFirst sandbox p n found next → AreFoundOfFirst sandbox (moved code data_at p) n (map (moved_finding p.code_base code) found) next
  of_first_words zero found next h = (ap (map (moved_finding p.code_base code)) h.0, h.1)
  of_first_words (suc n) found next h = (
    map (moved_finding p.code_base code) h.0,
    map (moved_finding p.code_base code) h.1,
    h.2,
    of_first_words n h.0 h.2 h.3,
    subst (λ (b : BundlePlace). AreFoundInWords b h.2 (bundle_bytes p n) 4 (map (moved_finding p.code_base code) h.1) next) (sym (place_same n))
        (in_words_same p.code_base code (length p.code) (code_ends p right) (code_ends (moved code data_at p) right') (even_base p right) (even_base (moved code data_at p) right') (bundle_place sandbox p n) (16 * n) h.2 (bundle_bytes p n) 4 h.1 next h.4),
    ap (map (moved_finding p.code_base code)) h.5 ∙ map-append (moved_finding p.code_base code) h.0 h.1,
  )

  pub words_placeless : (found : List Finding) → AreFindingsInWords sandbox p found → AreFindingsInWords sandbox (moved code data_at p) (map (moved_finding p.code_base code) found)
  words_placeless found h = (h.0, h.1, h.2, of_first_words h.0 found h.1 h.3)

  any_placeless : (w : Bool) (found : List Finding) → MatchBool w (AreFindingsInWords sandbox p found) (AreFindingsInBundles sandbox p found)
      → MatchBool w (AreFindingsInWords sandbox (moved code data_at p) (map (moved_finding p.code_base code) found)) (AreFindingsInBundles sandbox (moved code data_at p) (map (moved_finding p.code_base code) found))
  any_placeless true found h = words_placeless found h
  any_placeless false found h = bundles_placeless found h

pub findings_are_placeless : FindingsArePlaceless
findings_are_placeless sandbox code data_at p found right right' h = any_placeless sandbox code data_at p right right' (has_words p.format) found h

pub clean_is_placeless : CleanIsPlaceless
clean_is_placeless sandbox code data_at p right right' h = findings_are_placeless sandbox code data_at p [] right right' h
