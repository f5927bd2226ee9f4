-- A prefix of bytes with a finding is no prefix of bytes without one, whatever follows.
use Rattle.sfi_c.proofs.Prelude.{◌≡◌, ◌∙◌, ℕ, suc, ◌+◌, ◌-◌, ◌*◌, ◌<◌, List, [], ◌∷◌, ◌++◌, length, refl, sym, ap, subst, arith, inr, length-append, Part, Finding}
use Rattle.std.proofs.Common.{◌≤◌, ◌⊎◌, ◌%◌, zero, inl, Bool, true, false, cond, take, drop, replicate, append_assoc}
use Rattle.std.proofs.lemmas.Bool.{cases_lt}
use Rattle.std.proofs.lemmas.List.{length-replicate}
use Rattle.std.specs.Prelude.{MatchBool}
use Rattle.std.specs.List.{All, flat_map}
use Rattle.sfi_formats.specs.declared.format.Format.{Format}
use Rattle.sfi_formats.specs.Formats.{has_words}
unfoldable use Rattle.sfi_formats.specs.Formats.{magic}
use Rattle.sfi_image.specs.declared.fields.Fields.{Fields}
use Rattle.sfi_image.specs.declared.part.Gate.{Gate}
use Rattle.sfi_image.specs.declared.bundle.BundlePlace.{BundlePlace}
use Rattle.sfi_image.specs.Spelling.{fields_of, number, fields, gate, part}
use Rattle.sfi_image.specs.Numbers.{AreFieldWords, AreGateWords}
use Rattle.sfi_image.specs.Parts.{IsRightPart, AreOf}
use Rattle.sfi_image.specs.Prefixes.{part_of}
use Rattle.sfi_image.proofs.Regions.{right_words}
use Rattle.sfi_image.proofs.Fronts.{same_gate, same_fields, same_list, length-fields, part_split}
use Rattle.sfi_rules.specs.declared.owed.Owed.{Owed}
use Rattle.sfi_rules.specs.declared.owed.Owed.TheVariants.{Nothing}
use Rattle.sfi_rules.specs.Rules.{rest_finding, is_empty}
use Rattle.sfi_rules.specs.Readings.{bundle_place, bundle_bytes, Piece, rest_of}
use Rattle.sfi_rules.specs.Findings.{AreFindings, AreFindingsFrom, AreFoundUpTo, AreFindingsOfFirst, AreFindingsInBundles}
use Rattle.sfi_rules.specs.words.Findings.{found_from, owed_past, IsWordFound, AreFoundInWords, AreFoundOfFirst, AreFindingsInWords}
use Rattle.sfi_rules.proofs.Facts.{one_longest_reading, one_bundle_list}
use Rattle.sfi_safety.proofs.Places.{nothing_before}
use Rattle.sfi_check.specs.Feeds.{AreFindingsSoFar, owed_after}
use Rattle.sfi_image.proofs.Seeking.{length-gates}

-- ---- the first bundles of a part, where more have no finding

module _ (sandbox : ℕ) (p : Part) where
  fewer_in_bundles : (m n : ℕ) → n ≤ m → AreFindingsOfFirst sandbox p m [] → AreFindingsOfFirst sandbox p n []
  fewer_in_bundles zero n le h = let e : 0 ≡ n = omega arith in subst (λ (k : ℕ). AreFindingsOfFirst sandbox p k []) e h
  fewer_in_bundles (suc m) n le h =
      elim (cases_lt n (suc m)) [
        | inl less ↦ fewer_in_bundles m n (omega arith) (subst (λ (l : List Finding). AreFindingsOfFirst sandbox p m l) (nothing_before h.0 h.1 (sym h.4)).0 h.2)
        | inr more ↦ (let e : suc m ≡ n = omega arith in subst (λ (k : ℕ). AreFindingsOfFirst sandbox p k []) e h)
      ]

  one_in_bundles : (n : ℕ) (xs ys : List Finding) → AreFindingsOfFirst sandbox p n xs → AreFindingsOfFirst sandbox p n ys → xs ≡ ys
  one_in_bundles zero xs ys x y = x ∙ sym y
  one_in_bundles (suc n) xs ys x y =
      let last = one_bundle_list (bundle_place sandbox p n) (bundle_bytes p n) x.1 y.1 x.3 y.3 in
      x.4 ∙ ap (λ l. l ++ x.1) (one_in_bundles n x.0 y.0 x.2 y.2) ∙ ap (λ l. y.0 ++ l) last ∙ sym y.4

  fewer_in_words : (m n : ℕ) (next : Owed) → n ≤ m → AreFoundOfFirst sandbox p m [] next → (owed : Owed) × AreFoundOfFirst sandbox p n [] owed
  fewer_in_words zero n next le h = let e : 0 ≡ n = omega arith in (next, subst (λ (k : ℕ). AreFoundOfFirst sandbox p k [] next) e h)
  fewer_in_words (suc m) n next le h =
      elim (cases_lt n (suc m)) [
        | inl less ↦ fewer_in_words m n h.2 (omega arith) (subst (λ (l : List Finding). AreFoundOfFirst sandbox p m l h.2) (nothing_before h.0 h.1 (sym h.5)).0 h.3)
        | inr more ↦ (let e : suc m ≡ n = omega arith in (next, subst (λ (k : ℕ). AreFoundOfFirst sandbox p k [] next) e h))
      ]

-- the findings are the same, and what is owed after them
record IsSame (xs ys : List Finding) (n m : Owed) : Type 0 where
  found : xs ≡ ys
  owed : n ≡ m

judged : BundlePlace → ℕ → Owed → List ℕ → List Piece → List Finding
judged b at owed word reading = found_from b at owed reading ++ rest_finding b (at + (4 - length (rest_of word reading))) (rest_of word reading)

left_by : BundlePlace → Owed → List ℕ → List Piece → Owed
left_by b owed word reading = cond (is_empty (rest_of word reading)) (owed_past b.format owed reading) Nothing

one_word : (b : BundlePlace) (at : ℕ) (owed : Owed) (word : List ℕ) (xs ys : List Finding) (n m : Owed) → IsWordFound b at owed word xs n → IsWordFound b at owed word ys m → IsSame xs ys n m
unfolding judged left_by
one_word b at owed word xs ys n m x y =
    let same = one_longest_reading word x.reading y.reading x.longest y.longest in
    let f : judged b at owed word x.reading ≡ judged b at owed word y.reading = ap (judged b at owed word) same in
    let g : left_by b owed word x.reading ≡ left_by b owed word y.reading = ap (left_by b owed word) same in
    record { found = x.found_is ∙ f ∙ sym y.found_is; owed = x.next_is ∙ g ∙ sym y.next_is }

one_in_bundle : (b : BundlePlace) (owed : Owed) (bytes : List ℕ) (k : ℕ) (xs ys : List Finding) (n m : Owed) → AreFoundInWords b owed bytes k xs n → AreFoundInWords b owed bytes k ys m → IsSame xs ys n m
one_in_bundle b owed bytes zero xs ys n m x y = record { found = x.0 ∙ sym y.0; owed = x.1 ∙ sym y.1 }
one_in_bundle b owed bytes (suc k) xs ys n m x y =
    let front = one_in_bundle b owed bytes k x.0 y.0 x.2 y.2 x.3 y.3 in
    let word = take 4 (drop (4 * k) bytes) in
    let last = one_word b (b.address + 4 * k) y.2 word x.1 y.1 n m (subst (λ (o : Owed). IsWordFound b (b.address + 4 * k) o word x.1 n) front.owed x.4) y.4 in
    record { found = x.5 ∙ ap (λ l. l ++ x.1) front.found ∙ ap (λ l. y.0 ++ l) last.found ∙ sym y.5; owed = last.owed }

one_in_words : (sandbox : ℕ) (p : Part) (k : ℕ) (xs ys : List Finding) (n m : Owed) → AreFoundOfFirst sandbox p k xs n → AreFoundOfFirst sandbox p k ys m → IsSame xs ys n m
one_in_words sandbox p zero xs ys n m x y = record { found = x.0 ∙ sym y.0; owed = x.1 ∙ sym y.1 }
one_in_words sandbox p (suc k) xs ys n m x y =
    let front = one_in_words sandbox p k x.0 y.0 x.2 y.2 x.3 y.3 in
    let last = one_in_bundle (bundle_place sandbox p k) y.2 (bundle_bytes p k) 4 x.1 y.1 n m (subst (λ (o : Owed). AreFoundInWords (bundle_place sandbox p k) o (bundle_bytes p k) 4 x.1 n) front.owed x.4) y.4 in
    record { found = x.5 ∙ ap (λ l. l ++ x.1) front.found ∙ ap (λ l. y.0 ++ l) last.found ∙ sym y.5; owed = last.owed }

none_of_fewer : (sandbox : ℕ) (p : Part) (n m : ℕ) (found : List Finding) (owed next : Owed) → n ≤ m → AreFoundUpTo sandbox p n found owed → AreFoundUpTo sandbox p m [] next → found ≡ []
none_of_fewer sandbox p n m found owed next le = by (has_words p.format)
  where
    by : (b : Bool) → MatchBool b (AreFoundOfFirst sandbox p n found owed) (AreFindingsOfFirst sandbox p n found × (owed ≡ Nothing))
        → MatchBool b (AreFoundOfFirst sandbox p m [] next) (AreFindingsOfFirst sandbox p m [] × (next ≡ Nothing)) → found ≡ []
    by true x y = let fewer = fewer_in_words sandbox p m n next le y in (one_in_words sandbox p n found [] owed fewer.0 x fewer.1).found
    by false x y = one_in_bundles sandbox p n found [] x.0 (fewer_in_bundles sandbox p m n le y.0)

-- ---- a part of which this code is read, and one with all of it

-- where the code so far has these findings, and more of the same has none, there are none
pub none_so_far : (sandbox : ℕ) (f : Fields) (gs : List Gate) (code more : List ℕ) (found : List Finding) (kept other : Owed) → AreFindingsSoFar sandbox f gs code found kept → AreFindingsSoFar sandbox f gs (code ++ more) [] other
    → length (code ++ more) ≤ f.code_size → found ≡ []
none_so_far sandbox f gs code more found kept other x y le =
    let z : List ℕ = replicate (f.code_size - length (code ++ more)) 0 in
    let all : length ((code ++ more) ++ z) ≡ f.code_size = omega (arith, length-append (code ++ more) z, length-replicate {A = ℕ} (f.code_size - length (code ++ more)) 0, le) in
    let same : code ++ (more ++ z) ≡ (code ++ more) ++ z = sym (append_assoc code more z) in
    let p : Part = part_of f gs ((code ++ more) ++ z) [] in
    let fewer : x.bundles ≤ y.bundles = omega (arith, x.len, y.len, length-append code more) in
    none_of_fewer sandbox p x.bundles y.bundles found (owed_after code kept) (owed_after (code ++ more) other) fewer
    (subst (λ (l : List ℕ). AreFoundUpTo sandbox (part_of f gs l []) x.bundles found (owed_after code kept)) same (x.found_are (more ++ z) [] (ap length same ∙ all)))
    (y.found_are z [] all)

-- the findings of a whole part as those of all its bundles
all_up_to : (sandbox : ℕ) (p : Part) → AreFindings sandbox p [] → (n : ℕ) × (owed : Owed) × (length p.code ≡ 16 * n) × AreFoundUpTo sandbox p n [] owed
all_up_to sandbox p = by (has_words p.format)
  where
    by : (b : Bool) → MatchBool b (AreFindingsInWords sandbox p []) (AreFindingsInBundles sandbox p [])
        → (n : ℕ) × (owed : Owed) × (length p.code ≡ 16 * n) × MatchBool b (AreFoundOfFirst sandbox p n [] owed) (AreFindingsOfFirst sandbox p n [] × (owed ≡ Nothing))
    by true h = (h.0, h.1, h.2, h.3)
    by false h = (h.0, Nothing, h.1, (h.2, refl))

-- and of a whole part that has none
pub none_of_part : (sandbox : ℕ) (f : Fields) (gs : List Gate) (code more init : List ℕ) (found : List Finding) (kept : Owed) → AreFindingsSoFar sandbox f gs code found kept → length (code ++ more) ≡ f.code_size
    → AreFindings sandbox (part_of f gs (code ++ more) init) [] → found ≡ []
none_of_part sandbox f gs code more init found kept x all clean =
    let p : Part = part_of f gs (code ++ more) init in
    let up = all_up_to sandbox p clean in
    none_of_fewer sandbox p x.bundles up.0 found (owed_after code kept) up.1 (omega (arith, x.len, up.2, length-append code more)) (x.found_are more init all) up.3

-- ---- the sandboxes of a list

-- where nothing is found in all of the sandboxes, nothing is found in the first ones, nor in the rest
pub first_clean : (sandbox : ℕ) (ps qs : List Part) → AreFindingsFrom sandbox (ps ++ qs) [] → AreFindingsFrom sandbox ps [] × AreFindingsFrom (sandbox + length ps) qs []
first_clean sandbox [] qs h = let at : sandbox ≡ sandbox + 0 = omega arith in (refl, subst (λ (n : ℕ). AreFindingsFrom n qs []) at h)
first_clean sandbox (p ∷ ps) qs h =
    let none = nothing_before h.0 h.1 (sym h.4) in
    let rest = first_clean (sandbox + 1) ps qs (subst (λ (l : List Finding). AreFindingsFrom (sandbox + 1) (ps ++ qs) l) none.1 h.3) in
    let at : sandbox + 1 + length ps ≡ sandbox + suc (length ps) = omega arith in
    (([], [], subst (λ (l : List Finding). AreFindings sandbox p l) none.0 h.2, rest.0, refl), subst (λ (n : ℕ). AreFindingsFrom n qs []) at rest.1)

-- ---- prefixes

-- the bytes of a prefix lie after the format's magic and the count, and these whole sandboxes
pub record Reads (format : Format) (ps : List Part) (tail : List ℕ) (bytes : List ℕ) : Type 0 where
  pub count : ℕ
  pub few : count ≤ 16
  pub of : AreOf format ps
  pub right : All IsRightPart ps
  pub bytes_are : bytes ≡ magic format ++ (number count ++ (flat_map part ps ++ tail))

-- what follows them is no whole sandbox
abbrev pub IsPartial : Format → List ℕ → Type 0
IsPartial format tail =
    (length tail < 28)
    ⊎ ((f : Fields) × (rest : List ℕ) × AreFieldWords f × (f.format ≡ format) × (tail ≡ fields f ++ rest) × (length rest < 8 * f.gate_count + (f.code_size + f.init_len)))

-- the bytes end before the next sandbox's code
abbrev pub HasNoCode : Format → List ℕ → Type 0
HasNoCode format tail =
    (length tail < 28)
    ⊎ ((f : Fields) × (rest : List ℕ) × AreFieldWords f × (f.format ≡ format) × (tail ≡ fields f ++ rest) × (length rest < 8 * f.gate_count))

-- the bytes have the fields and gates of another sandbox, and `code` of its code
pub record HasCode (format : Format) (f : Fields) (gs : List Gate) (code rest tail : List ℕ) : Type 0 where
  pub words : AreFieldWords f
  pub kind : f.format ≡ format
  pub gate_words : All AreGateWords gs
  pub all_gates : length gs ≡ f.gate_count
  pub inside : length code ≤ f.code_size
  pub tail_is : tail ≡ fields f ++ (flat_map gate gs ++ (code ++ rest))

-- all of it, or as many whole bundles as are there
abbrev pub IsAllThereIs : Fields → List ℕ → List ℕ → Type 0
IsAllThereIs f code rest = (length code ≡ f.code_size) ⊎ ((length rest < 16) × (length code + length rest < f.code_size))

-- a whole sandbox isn't at the front of what is none
pub no_part : (format : Format) (p : Part) (tail after : List ℕ) → p.format ≡ format → IsRightPart p → IsPartial format tail → tail ≡ part p ++ after → ⊥
no_part format p tail after kind right (inl few) e =
    omega (arith, few, ap length (e ∙ part_split p after), length-fields (fields_of p) (flat_map gate p.gates ++ (p.code ++ (p.init ++ after))))
no_part format p tail after kind right (inr (f, rest, words, of, is, few)) e =
    let whole = flat_map gate p.gates ++ (p.code ++ (p.init ++ after)) in
    let same = same_fields f (fields_of p) rest whole words (right_words p right).fields (of ∙ sym kind) (sym is ∙ e ∙ part_split p after) in
    let gates : f.gate_count ≡ length p.gates = ap (λ (g : Fields). g.gate_count) same.0 in
    let code : f.code_size ≡ length p.code = ap (λ (g : Fields). g.code_size) same.0 in
    let init : f.init_len ≡ length p.init = ap (λ (g : Fields). g.init_len) same.0 in
    omega (arith, few, gates, code, init, ap length same.1, length-append (flat_map gate p.gates) (p.code ++ (p.init ++ after)), length-gates p.gates, length-append p.code (p.init ++ after), length-append p.init after)

-- bytes that end before the next sandbox's code don't begin with bytes that reach it
pub no_code : (format : Format) (f : Fields) (gs : List Gate) (code rest tail more longer : List ℕ) → HasCode format f gs code rest tail → HasNoCode format longer → tail ++ more ≡ longer → ⊥
no_code format f gs code rest tail more longer h none e =
    let after = flat_map gate gs ++ ((code ++ rest) ++ more) in
    let split : longer ≡ fields f ++ after = sym e ∙ ap (λ (l : List ℕ). l ++ more) h.tail_is ∙ append_assoc (fields f) (flat_map gate gs ++ (code ++ rest)) more ∙ ap (λ (l : List ℕ). fields f ++ l) (append_assoc (flat_map gate gs) (code ++ rest) more) in
    let long : 8 * f.gate_count ≤ length after = omega (arith, length-append (flat_map gate gs) ((code ++ rest) ++ more), length-gates gs, h.all_gates) in
    elim none [
      | inl few ↦ omega (arith, few, ap length split, length-fields f after)
      | inr (g, other, words, of, is, few) ↦
          let same = same_fields f g after other h.words words (h.kind ∙ sym of) (sym split ∙ is) in
          omega (arith, few, long, ap (λ (x : Fields). x.gate_count) same.0, ap length same.1)
    ]

-- a list at the front of bytes at whose front a longer one is begins it
pub begins : (xs ys r s : List ℕ) → length xs ≤ length ys → xs ++ r ≡ ys ++ s → (more : List ℕ) × (ys ≡ xs ++ more)
begins [] ys r s le e = (ys, refl)
begins (x ∷ xs) [] r s le e = absurd (omega arith)
begins (x ∷ xs) (y ∷ ys) r s le e =
    let rest : xs ++ r ≡ ys ++ s = cc in
    let more = begins xs ys r s (omega arith) rest in
    (more.0, (let is = more.1 in cc))

-- the code of two that have some of one sandbox: the fields and the gates are the same, and the second
-- code goes on where the first ends
pub same_code : (format : Format) (f g : Fields) (gs hs : List Gate) (code rest tail more all other longer : List ℕ) → HasCode format f gs code rest tail → HasCode format g hs all other longer → IsAllThereIs g all other
    → (length code % 16 ≡ 0) → (length all % 16 ≡ 0) → tail ++ more ≡ longer → (f ≡ g) × (gs ≡ hs) × (on : List ℕ) × (all ≡ code ++ on)
same_code format f g gs hs code rest tail more all other longer x y there even even' e =
    let split : longer ≡ fields f ++ (flat_map gate gs ++ (code ++ (rest ++ more))) =
    sym e ∙ ap (λ (l : List ℕ). l ++ more) x.tail_is ∙ append_assoc (fields f) (flat_map gate gs ++ (code ++ rest)) more
    ∙ ap (λ (l : List ℕ). fields f ++ l) (append_assoc (flat_map gate gs) (code ++ rest) more ∙ ap (λ (l : List ℕ). flat_map gate gs ++ l) (append_assoc code rest more)) in
    let head = same_fields f g _ _ x.words y.words (x.kind ∙ sym y.kind) (sym split ∙ y.tail_is) in
    let gates = same_list gate AreGateWords same_gate gs hs (code ++ (rest ++ more)) (all ++ other) x.gate_words y.gate_words (x.all_gates ∙ ap (λ (h : Fields). h.gate_count) head.0 ∙ sym y.all_gates) head.1 in
    let size : f.code_size ≡ g.code_size = ap (λ (h : Fields). h.code_size) head.0 in
    let total = ap length gates.1 in
    let long : length code ≤ length all = elim there [
      | inl full ↦ omega (arith, full, size, x.inside)
      | inr few ↦ omega (arith, few.0, few.1, even, even', total, length-append code (rest ++ more), length-append all other)
    ] in
    let on = begins code all (rest ++ more) other long gates.1 in
    (head.0, gates.0, on.0, on.1)
