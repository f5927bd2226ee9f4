-- What the first and the second format find of V10.
use Rattle.rv_word.specs.declared.length.Length.{Length}
use Rattle.rv_word.specs.declared.length.Length.TheVariants.{Wide}
use Rattle.sfi_rules.specs.Laws.{FirstFormatHasNoStack, FirstFormatFindsNoV10}
use Rattle.sfi_rules.specs.declared.rule.Rule.TheVariants.{V1, V9, V10, V3, V4, V5, V6, V7, V8}
use Rattle.sfi_rules.proofs.Findings.{in_bundles, lowest_is, kept}
use Rattle.sfi_image.specs.Numbers.{in_format, all_in_format}
use Rattle.sfi_formats.specs.declared.format.Format.TheVariants.{Sfi2, Sfiw, Sfis}
use Rattle.std.proofs.lemmas.List.Elements.{All-head, All-tail}
use Rattle.sfi_rules.proofs.OneList.{longest_one}
use Rattle.sfi_rules.proofs.Prelude.{◌≡◌, ◌≢◌, ◌∷◌, ◌++◌, ℕ, zero, suc, ◌+◌, Bool, true, false, List, [], refl, sym, ap, subst, inl, inr, All, Instr, has_stack, Part, BundlePlace, Finding, Rule, bundle_place, bundle_bytes, follows_data_pair, Piece, InstrInBundle, breaks, breaks_stack, may_access, broken, lowest, all_rules, rule_of_length, findings_from, rest_finding, AreReadingFindings, AreBundleFindings, AreFindingsOfFirst, has_words, Format, Sfi1, All-append, All-cons, All-nil, pos, negsuc, ◌-◌, length, not, ◌&&◌, ◌||◌, ◌∙◌, arith, Load, Store, Branch, Jal, Jalr, Ecall, rest_of, breaks_ecall, breaks_access, breaks_jump, breaks_target, is_empty, AreFindingsInBundles, AreFindings, AreFindingsFrom}

-- ==== The first format has no stack pointer: no place breaks V10.

no_stack : (f : Format) → f ≡ Sfi1 → has_stack f ≡ false
no_stack f e = ap has_stack e

access_as_ever : (b : BundlePlace) → b.format ≡ Sfi1 → (base : ℕ) (earlier : List Instr) → may_access b base earlier ≡ follows_data_pair base earlier
access_as_ever b e base earlier = rw (no_stack b.format e) refl

never : (x : InstrInBundle) (i : Instr) → x.bundle.format ≡ Sfi1 → breaks_stack x i ≡ false
never x i e = rw (no_stack x.bundle.format e) refl

pub first_format_has_no_stack : FirstFormatHasNoStack
first_format_has_no_stack x e = (access_as_ever x.bundle e, never x x.instr e)

-- ---- findings

abbrev IsOther : Finding → Type 0
IsOther f = f.rule ≢ V10

both_other : (xs ys : List Finding) → All IsOther xs → All IsOther ys → All IsOther (xs ++ ys)
both_other xs ys a b = All-append IsOther xs ys a b

one : (f : Finding) → IsOther f → All IsOther (f ∷ [])
one f other = All-cons IsOther f [] other (All-nil IsOther)

broken_other : (x : InstrInBundle) → x.bundle.format ≡ Sfi1 → (rule : Rule) → breaks x rule ≡ true → rule ≢ V10
broken_other x e V10 h = absurd (let n = never x x.instr e in cc)
broken_other x e _ h = λ s. cc

lowest_other : (x : InstrInBundle) → x.bundle.format ≡ Sfi1 → All IsOther (lowest x all_rules)
lowest_other x e = lowest_is IsOther x all_rules (broken_other x e)

from_other : (b : BundlePlace) (whole : Bool) (at : ℕ) (earlier : List Instr) (later : List Piece) → b.format ≡ Sfi1 → All IsOther (findings_from b whole at earlier later)
from_other b whole at earlier [] e = All-nil IsOther
from_other b whole at earlier (x ∷ later) e =
    both_other (lowest (record { bundle = b; address = at; earlier = earlier; instr = x.instr; later = later; whole = whole }) all_rules) _
    (lowest_other (record { bundle = b; address = at; earlier = earlier; instr = x.instr; later = later; whole = whole }) e)
    (from_other b whole (at + x.size) (x.instr ∷ earlier) later e)

by_length : (l : Length) → rule_of_length l ≢ V10
by_length Wide s = cc
by_length _ s = cc

rest_other : (b : BundlePlace) (at : ℕ) (bytes : List ℕ) → All IsOther (rest_finding b at bytes)
rest_other b at [] = All-nil IsOther
rest_other b at (low ∷ []) = one (broken b at V1) (λ s. cc)
rest_other b at (low ∷ high ∷ []) = one _ (by_length _)
rest_other b at (low ∷ high ∷ x ∷ bytes) = one (broken b at V1) (λ s. cc)

reading_other : (b : BundlePlace) (bytes : List ℕ) (found : List Finding) → b.format ≡ Sfi1 → AreReadingFindings b bytes found → All IsOther found
reading_other b bytes found e h = subst (λ (l : List Finding). All IsOther l) (sym h.found_is) (both_other _ _ (from_other b _ b.address [] h.reading e) (rest_other b _ _))

bundle_other : (b : BundlePlace) (bytes : List ℕ) (found : List Finding) → b.format ≡ Sfi1 → AreBundleFindings b bytes found → All IsOther found
bundle_other b bytes found e (inl h) = subst (λ (l : List Finding). All IsOther l) (sym h.2) (one (broken b b.address V9) (λ s. cc))
bundle_other b bytes found e (inr h) = reading_other b bytes found e h.1

first_other : (sandbox : ℕ) (p : Part) (n : ℕ) (found : List Finding) → p.format ≡ Sfi1 → AreFindingsOfFirst sandbox p n found → All IsOther found
first_other sandbox p zero found e h = subst (λ (l : List Finding). All IsOther l) (sym h) (All-nil IsOther)
first_other sandbox p (suc n) found e h =
    subst (λ (l : List Finding). All IsOther l) (sym h.4)
    (both_other h.0 h.1 (first_other sandbox p n h.0 e h.2) (bundle_other (bundle_place sandbox p n) (bundle_bytes p n) h.1 e h.3))

pub first_format_finds_no_v10 : FirstFormatFindsNoV10
first_format_finds_no_v10 sandbox p found e h =
    let all = in_bundles sandbox p found (ap has_words e) h in
    first_other sandbox p all.0 found e all.2

-- ==== Where no rule is broken, the second format's findings are V10 alone.

-- ---- findings of V10 alone

abbrev OfStack : List Finding → Type 0
OfStack found = All (λ (f : Finding). f.rule ≡ V10) found

none : OfStack []
none = All-nil (λ (f : Finding). f.rule ≡ V10)

both_of_stack : (xs ys : List Finding) → OfStack xs → OfStack ys → OfStack (xs ++ ys)
both_of_stack xs ys a b = All-append (λ (f : Finding). f.rule ≡ V10) xs ys a b

two_empty : (xs ys : List Finding) → xs ++ ys ≡ [] → (xs ≡ []) × (ys ≡ [])
two_empty [] ys e = (refl, e)
two_empty (x ∷ xs) ys e = absurd (cc)

-- ---- a place

abbrev second_bundle : BundlePlace → BundlePlace
second_bundle b = record b { format = Sfi2 }

abbrev second_place : InstrInBundle → InstrInBundle
second_place x = record x { bundle = record x.bundle { format = Sfi2 } }

same_ecall : (x : InstrInBundle) (i : Instr) → breaks_ecall (second_place x) i ≡ breaks_ecall x i
same_ecall x Ecall = refl
same_ecall x _ = refl

same_jump : (x : InstrInBundle) (i : Instr) → breaks_jump (second_place x) i ≡ breaks_jump x i
same_jump x (Jalr rd rs1 (pos n)) = refl
same_jump x (Jalr rd rs1 (negsuc n)) = refl
same_jump x _ = refl

same_target : (x : InstrInBundle) (i : Instr) → breaks_target (second_place x) i ≡ breaks_target x i
same_target x (Jal rd offset) = refl
same_target x (Branch condition rs1 rs2 offset) = refl
same_target x _ = refl

more_allowed : (f : Format) (on paired : Bool) → not ((has_stack f && on) || paired) ≡ false → not (on || paired) ≡ false
more_allowed Sfi1 true paired e = refl
more_allowed Sfi1 false paired e = e
more_allowed Sfi2 on paired e = e
more_allowed Sfiw true paired e = refl
more_allowed Sfis true paired e = refl
more_allowed Sfiw false paired e = e
more_allowed Sfis false paired e = e

fewer_accesses : (x : InstrInBundle) (i : Instr) → breaks_access x i ≡ false → breaks_access (second_place x) i ≡ false
fewer_accesses x (Load kind rd rs1 imm) e = more_allowed x.bundle.format _ (follows_data_pair rs1 x.earlier) e
fewer_accesses x (Store width rs1 rs2 imm) e = more_allowed x.bundle.format _ (follows_data_pair rs1 x.earlier) e
fewer_accesses x _ e = refl

-- of the rules that are kept, the second format breaks V10 alone
broken_of_stack : (x : InstrInBundle) → ((rule : Rule) → breaks x rule ≡ false) → (rule : Rule) → breaks (second_place x) rule ≡ true → rule ≡ V10
broken_of_stack x are_kept V3 h = absurd (let e = same_ecall x x.instr ∙ are_kept V3 in cc)
broken_of_stack x are_kept V4 h = absurd (let e = are_kept V4 in cc)
broken_of_stack x are_kept V5 h = absurd (let e = fewer_accesses x x.instr (are_kept V5) in cc)
broken_of_stack x are_kept V6 h = absurd (let e = same_jump x x.instr ∙ are_kept V6 in cc)
broken_of_stack x are_kept V7 h = absurd (let e = same_target x x.instr ∙ are_kept V7 in cc)
broken_of_stack x are_kept V8 h = absurd (let e = are_kept V8 in cc)
broken_of_stack x are_kept V10 h = refl
broken_of_stack x are_kept _ h = absurd cc

place_of_stack : (x : InstrInBundle) → lowest x all_rules ≡ [] → OfStack (lowest (second_place x) all_rules)
place_of_stack x none = lowest_is (λ (f : Finding). f.rule ≡ V10) (second_place x) all_rules (broken_of_stack x (kept x none))

-- ---- a reading, a bundle, and all

pieces_of_stack : (b : BundlePlace) (whole : Bool) (at : ℕ) (earlier : List Instr) (reading : List Piece) → findings_from b whole at earlier reading ≡ [] → OfStack (findings_from (second_bundle b) whole at earlier reading)
pieces_of_stack b whole at earlier [] h = none
pieces_of_stack b whole at earlier (x ∷ later) h =
    let here : InstrInBundle = record { bundle = b; address = at; earlier = earlier; instr = x.instr; later = later; whole = whole } in
    let e = two_empty (lowest here all_rules) (findings_from b whole (at + x.size) (x.instr ∷ earlier) later) h in
    both_of_stack (lowest (second_place here) all_rules) (findings_from (second_bundle b) whole (at + x.size) (x.instr ∷ earlier) later)
    (place_of_stack here e.0) (pieces_of_stack b whole (at + x.size) (x.instr ∷ earlier) later e.1)

judged : BundlePlace → List ℕ → List Piece → List Finding
judged b bytes reading =
    findings_from b (is_empty (rest_of bytes reading)) b.address [] reading
    ++ rest_finding b (b.address + (length bytes - length (rest_of bytes reading))) (rest_of bytes reading)

judged_rest : (b : BundlePlace) (at : ℕ) (rest : List ℕ) → rest_finding b at rest ≡ [] → rest ≡ []
judged_rest b at [] e = refl
judged_rest b at (low ∷ []) e = absurd (cc)
judged_rest b at (low ∷ high ∷ []) e = absurd (cc)
judged_rest b at (low ∷ high ∷ more ∷ rest) e = absurd (cc)

reading_of_stack : (b : BundlePlace) (bytes : List ℕ) (reading : List Piece) → judged b bytes reading ≡ [] → OfStack (judged (second_bundle b) bytes reading)
unfolding judged
reading_of_stack b bytes reading h =
    let e = two_empty (findings_from b (is_empty (rest_of bytes reading)) b.address [] reading) _ h in
    let rest = judged_rest b _ (rest_of bytes reading) e.1 in
    let none_left : OfStack (rest_finding (second_bundle b) (b.address + (length bytes - length (rest_of bytes reading))) (rest_of bytes reading))
    = subst (λ (l : List ℕ). OfStack (rest_finding (second_bundle b) (b.address + (length bytes - length (rest_of bytes reading))) l)) (sym rest) none in
    both_of_stack _ _ (pieces_of_stack b (is_empty (rest_of bytes reading)) b.address [] reading e.0) none_left

is_judged : (b : BundlePlace) (bytes : List ℕ) (found : List Finding) (x : AreReadingFindings b bytes found) → found ≡ judged b bytes x.reading
unfolding judged
is_judged b bytes found x = x.found_is

bundle_of_stack : (b : BundlePlace) (bytes : List ℕ) (clean found : List Finding) → clean ≡ [] → AreBundleFindings b bytes clean → AreBundleFindings (second_bundle b) bytes found → OfStack found
bundle_of_stack b bytes clean found e (inl x) y = absurd (let z = sym x.2 ∙ e in cc)
bundle_of_stack b bytes clean found e (inr x) (inl y) = absurd (y.1 (x.0 y.0))
bundle_of_stack b bytes clean found e (inr x) (inr y) =
    let r = x.1 in
    let s = y.1 in
    let same : r.reading ≡ s.reading = longest_one bytes r.reading s.reading r.longest s.longest in
    let here = reading_of_stack b bytes r.reading (sym (is_judged b bytes clean r) ∙ e) in
    subst OfStack (sym (is_judged (second_bundle b) bytes found s)) (subst (λ (v : List Piece). OfStack (judged (second_bundle b) bytes v)) same here)

first_of_stack : (sandbox : ℕ) (p : Part) (n : ℕ) (clean found : List Finding) → clean ≡ [] → AreFindingsOfFirst sandbox p n clean → AreFindingsOfFirst sandbox (in_format Sfi2 p) n found → OfStack found
first_of_stack sandbox p zero clean found e x y = subst OfStack (sym y) none
first_of_stack sandbox p (suc n) clean found e x y =
    let z = two_empty x.0 x.1 (sym x.4 ∙ e) in
    subst OfStack (sym y.4)
    (both_of_stack y.0 y.1 (first_of_stack sandbox p n x.0 y.0 z.0 x.2 y.2) (bundle_of_stack (bundle_place sandbox p n) (bundle_bytes p n) x.1 y.1 z.1 x.3 y.3))

part_of_stack : (sandbox : ℕ) (p : Part) (clean found : List Finding) → clean ≡ [] → AreFindingsInBundles sandbox p clean → AreFindings sandbox (in_format Sfi2 p) found → OfStack found
part_of_stack sandbox p clean found e x y =
    let same : x.0 ≡ y.0 = let e = x.1 in let f = y.1 in omega arith in
    first_of_stack sandbox p y.0 clean found e (subst (λ n. AreFindingsOfFirst sandbox p n clean) same x.2) y.2

pub image_of_stack : (sandbox : ℕ) (ps : List Part) (clean found : List Finding) → All (λ p. has_words p.format ≡ false) ps → clean ≡ [] → AreFindingsFrom sandbox ps clean → AreFindingsFrom sandbox (all_in_format Sfi2 ps) found → OfStack found
image_of_stack sandbox [] clean found all e x y = subst OfStack (sym y) none
image_of_stack sandbox (p ∷ ps) clean found all e x y =
    let z = two_empty x.0 x.1 (sym x.4 ∙ e) in
    subst OfStack (sym y.4) (both_of_stack y.0 y.1 (part_of_stack sandbox p x.0 y.0 z.0 (in_bundles sandbox p x.0 (All-head (λ (q : Part). has_words q.format ≡ false) p ps all) x.2) y.2)
    (image_of_stack (sandbox + 1) ps x.1 y.1 (All-tail (λ (q : Part). has_words q.format ≡ false) p ps all) z.1 x.3 y.3))
