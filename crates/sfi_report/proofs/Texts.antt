-- The texts of a report, a listing and a state: one each, and one finding, unit or sandbox more.
use Rattle.sfi_report.proofs.Prelude.{◌≡◌, ℕ, zero, suc, ◌+◌, ◌-◌, List, [], ◌∷◌, ◌++◌, length, get_or, take, drop, refl, sym, ap, ◌∙◌, subst, append_assoc, Some, append-nil, Format, SandboxPart, Part, view, Finding, IsFindingLine, IsReport, Adds, Stands, ◌*◌, ◌≤◌, arith, flat_map, take_all, length-take, format_of, gate_line, IsUnitListing, IsSandboxListing, format_line, V1, registers_text}
use Rattle.std.proofs.Common.{◌<◌, ◌^◌, add-zero, get_or-take}
use Rattle.std.specs.Prelude.{slice_get, Result, Ok, Err, OnOk, if◌then◌else◌}
use Rattle.std.specs.Result.{is_ok}
use Rattle.std.proofs.lemmas.List.{take_more, length-map, get_or-map}
use Rattle.sfi_image.specs.Spelling.{views}
use Rattle.sfi_report.specs.Listing.{line_end, IsNamesText, sandbox_line, IsListingOfFirst, IsCodeListing, IsListingFrom, IsListing, reading_lines, unit_bytes}
use Rattle.sfi_report.specs.Report.{IsPlaceText, line_front, IsInstructionText}
use Rattle.std.specs.List.{All}
use Rattle.sfi_formats.specs.Formats.{unit}
use Rattle.sfi_formats.specs.declared.format.Format.TheVariants.{Sfi1, Sfi2, Sfiw, Sfis}
use Rattle.sfi_image.specs.Parts.{IsRightPart, IsRightLayout}
use Rattle.sfi_image.proofs.Facts.{whole_bundles}
use Rattle.rv_comp.specs.declared.front.Front.{Front}
use Rattle.sfi_text.specs.Statement.{printed}
use Rattle.sfi_rules.specs.declared.rule.Rule.{Rule}
use Rattle.sfi_rules.specs.declared.rule.Rule.TheVariants.{V2, V9}
use Rattle.sfi_report.specs.State.{code_from, place_line, state_front}
use Rattle.sfi_report.specs.Laws.{OneReport, OneListing, OneState}
use Rattle.rv_comp.proofs.Facts.{one_front, one_spelling}
use Rattle.sfi_rules.proofs.Facts.{one_longest_reading}
use Rattle.sfi_report.proofs.Lines.{one_names_text}

-- ==== The report, one finding more.

-- the part of that number
part_at : (format : Format) (items : List SandboxPart) (k : ℕ) (d : SandboxPart) (p : Part) → slice_get (views format items) k ≡ Some p → view format (get_or items k d) ≡ p
part_at format [] k d p h = absurd (cc)
part_at format (x ∷ items) zero d p h = cc
part_at format (x ∷ items) (suc k) d p h = part_at format items k d p h

-- the pieces of a finding's line
pub line_of : (format : Format) (items : List SandboxPart) (f : Finding) (d : SandboxPart) (code old front placed new : List ℕ) → Stands (views format items) f
    → d ≡ get_or items f.sandbox d
    → code ≡ drop (f.address - d.code_base) d.code.now
    → front ≡ old ++ line_front format f
    → Adds front placed (IsPlaceText f.rule code)
    → new ≡ placed ++ line_end
    → Adds old new (IsFindingLine (views format items) f)
line_of format items f d code old front placed new s is there e h g =
    let part : view format d ≡ s.part = ap (view format) is ∙ part_at format items f.sandbox d s.part s.part_is in
    record {
      text = line_front format f ++ h.text ++ line_end;
      text_is = record { part = view format d; place = h.text; part_is = s.part_is ∙ ap Some (sym part); place_is = subst (λ (l : List ℕ). IsPlaceText f.rule l h.text) there h.text_is; line_is = refl };
      new_is = g ∙ ap (λ t. t ++ line_end) (h.new_is ∙ ap (λ t. t ++ h.text) e) ∙ regroup old (line_front format f) h.text line_end;
    }
  where
    regroup : (a b c d : List ℕ) → ((a ++ b) ++ c) ++ d ≡ a ++ ((b ++ c) ++ d)
    regroup a b c d = simp append_assoc

report_append : (ps : List Part) (found : List Finding) (f : Finding) (text line : List ℕ) → IsReport ps found text → IsFindingLine ps f line → IsReport ps (found ++ f ∷ []) (text ++ line)
report_append ps [] f text line h here = (line, [], here, refl, ap (λ (t : List ℕ). t ++ line) h ∙ sym (append-nil line))
report_append ps (g ∷ found) f text line h here =
    (h.0, h.1 ++ line, h.2, report_append ps found f h.1 line h.3 here, ap (λ (t : List ℕ). t ++ line) h.4 ∙ append_assoc h.0 h.1 line)

pub one_finding_more : (ps : List Part) (found : List Finding) (i : ℕ) (d : Finding) (text more : List ℕ) → i < length found
    → IsReport ps (take i found) text → Adds text more (IsFindingLine ps (get_or found i d)) → IsReport ps (take (i + 1) found) more
one_finding_more ps found i d text more h before here =
    let reported = report_append ps (take i found) (get_or found i d) text here.text before here.text_is in
    let longer = subst (λ (l : List Finding). IsReport ps l (text ++ here.text)) (sym (take_more found i d h)) reported in
    subst (λ (t : List ℕ). IsReport ps (take (i + 1) found) t) (sym here.new_is) longer

-- what was written where a write succeeds
pub text_on_ok : {A E : Type 0} (r : Result A E) (new long short : List ℕ) → new ≡ (if is_ok r then long else short) → OnOk r (new ≡ long)
text_on_ok (Ok a) new long short e = e
text_on_ok (Err x) new long short e = tt

-- ==== The listing of sandboxes and of an image, one unit and one sandbox more.

-- before the end of whole bundles there is a whole unit, and one unit more is that many
unit_there : (format : Format) (n m at size : ℕ) → size ≡ 16 * n → at ≡ unit format * m → at < size → (at + unit format ≤ size) × (at + unit format ≡ unit format * suc m)
unit_there Sfi1 n m at size whole e less = let same : at ≡ 16 * m = e in (omega arith, omega arith)
unit_there Sfi2 n m at size whole e less = let same : at ≡ 16 * m = e in (omega arith, omega arith)
unit_there Sfiw n m at size whole e less = let same : at ≡ 4 * m = e in (omega arith, omega arith)
unit_there Sfis n m at size whole e less = let same : at ≡ 4 * m = e in (omega arith, omega arith)

-- the next unit ends within the code, at a unit more, and the code at or below 2 ^ 32
pub unit_fits : (p : Part) (size at units : ℕ) → IsRightPart p → size ≡ unit p.format → at ≡ unit p.format * units → at < length p.code
    → (at + size ≤ length p.code) × (at + size ≡ unit p.format * suc units) × (p.code_base + length p.code ≤ 2 ^ 32)
unit_fits p size at units right is at_is less =
    let whole = whole_bundles p.format p.code_base (length p.code) right.code_base right.code_placed in
    let there = unit_there p.format whole.0 units at (length p.code) whole.2 at_is less in
    (subst (λ n. at + n ≤ length p.code) (sym is) there.0, ap (λ n. at + n) is ∙ there.1, whole.4)

-- the listing of the units before this offset after the text
pub record IsListedTo (p : Part) (at : ℕ) (old new : List ℕ) : Type 0 where
  pub units : ℕ
  pub at_is : at ≡ unit p.format * units
  pub within : at ≤ length p.code
  pub text : List ℕ
  pub text_is : IsListingOfFirst p units text
  pub new_is : new ≡ old ++ text

pub one_unit_more : (p : Part) (size at : ℕ) (old new more : List ℕ) → IsRightPart p → size ≡ unit p.format → at < length p.code → IsListedTo p at old new
    → Adds new more (IsUnitListing (p.code_base + at) (take size (drop at p.code))) → IsListedTo p (at + size) old more
one_unit_more p size at old new more right is less so_far here =
    let fits = unit_fits p size at so_far.units right is so_far.at_is less in
    let sized = subst (λ n. IsUnitListing (p.code_base + at) (take n (drop at p.code)) here.text) is here.text_is in
    let last = subst (λ k. IsUnitListing (p.code_base + k) (take (unit p.format) (drop k p.code)) here.text) so_far.at_is sized in
    record {
      units = suc so_far.units;
      at_is = fits.1;
      within = fits.0;
      text = so_far.text ++ here.text;
      text_is = (so_far.text, here.text, so_far.text_is, last, refl);
      new_is = here.new_is ∙ ap (λ t. t ++ here.text) so_far.new_is ∙ append_assoc old so_far.text here.text;
    }

-- a sandbox's listing: its fields and gates, its names, and then its code
pub whole_sandbox : (sandbox : ℕ) (p : Part) (old fields gates named new : List ℕ)
    → fields ≡ old ++ sandbox_line sandbox p → gates ≡ fields ++ flat_map gate_line p.gates
    → Adds gates named (IsNamesText p.init) → Adds named new (IsCodeListing p) → Adds old new (IsSandboxListing sandbox p)
whole_sandbox sandbox p old fields gates named new e f n h =
    record {
      text = sandbox_line sandbox p ++ flat_map gate_line p.gates ++ n.text ++ h.text;
      text_is = record { names = n.text; names_are = n.text_is; code = h.text; code_is = h.text_is; text_is = refl };
      new_is = h.new_is ∙ ap (λ t. t ++ h.text) (n.new_is ∙ ap (λ t. t ++ n.text) (f ∙ ap (λ t. t ++ flat_map gate_line p.gates) e))
          ∙ regroup old (sandbox_line sandbox p) (flat_map gate_line p.gates) n.text h.text;
    }
  where
    regroup : (a b c d e : List ℕ) → (((a ++ b) ++ c) ++ d) ++ e ≡ a ++ (b ++ c ++ d ++ e)
    regroup a b c d e = simp append_assoc

listing_append : (n m : ℕ) (parts : List Part) (p : Part) (text last : List ℕ) → IsListingFrom n parts text → IsSandboxListing m p last → m ≡ n + length parts → IsListingFrom n (parts ++ p ∷ []) (text ++ last)
listing_append n m [] p text last h here e =
    let at : m ≡ n = e ∙ add-zero n in
    (last, [], subst (λ k. IsSandboxListing k p last) at here, refl, ap (λ (l : List ℕ). l ++ last) h ∙ sym (append-nil last))
listing_append n m (q ∷ parts) p text last h here e =
    let rest = listing_append (n + 1) m parts p h.1 last h.3 here (omega arith) in
    (h.0, h.1 ++ last, h.2, rest, ap (λ (l : List ℕ). l ++ last) h.4 ∙ append_assoc h.0 h.1 last)

-- the parts in the list that the code goes over are right
pub right_at : (format : Format) (image : List Part) (items : List SandboxPart) (i : ℕ) (d : SandboxPart) → views format items ≡ image → IsRightLayout image → i < length items
    → IsRightPart (view format (get_or items i d))
right_at format image items i d e right h =
    let each = subst (λ (l : List Part). All IsRightPart l) (sym e) right.right.each in
    let within : i < length (views format items) = omega (arith, length-map items (view format)) in
    subst (λ (p : Part). IsRightPart p) (get_or-map (view format) items i d (view format d) h) (each i (view format d) within)

-- the listing of the first sandboxes after the text
abbrev pub AreListedTo : List Part → ℕ → List ℕ → List ℕ → Type 0
AreListedTo image i old new = Adds old new (IsListingFrom 0 (take i image))

pub no_sandboxes : (image : List Part) (old : List ℕ) → AreListedTo image 0 old old
no_sandboxes image old = record { text = []; text_is = refl; new_is = sym (append-nil old) }

pub one_sandbox_more : (format : Format) (image : List Part) (items : List SandboxPart) (i : ℕ) (d : SandboxPart) (old text more : List ℕ) → views format items ≡ image → i < length items
    → AreListedTo image i old text → Adds text more (IsSandboxListing i (view format (get_or items i d))) → AreListedTo image (i + 1) old more
one_sandbox_more format image items i d old text more e h before here =
    let within : i < length (views format items) = omega (arith, length-map items (view format)) in
    let longer : take (i + 1) (views format items) ≡ take i (views format items) ++ view format (get_or items i d) ∷ [] =
    take_more (views format items) i (view format d) within ∙ ap (λ (p : Part). take i (views format items) ++ p ∷ []) (get_or-map (view format) items i d (view format d) h) in
    let count : i ≡ 0 + length (take i (views format items)) = omega (arith, length-take i (views format items)) in
    let before' = subst (λ (l : List Part). IsListingFrom 0 (take i l) before.text) (sym e) before.text_is in
    let listed = listing_append 0 i (take i (views format items)) (view format (get_or items i d)) before.text here.text before' here.text_is count in
    record {
      text = before.text ++ here.text;
      text_is = subst (λ (l : List Part). IsListingFrom 0 l (before.text ++ here.text)) (sym longer ∙ ap (take (i + 1)) e) listed;
      new_is = here.new_is ∙ ap (λ t. t ++ here.text) before.new_is ∙ append_assoc old before.text here.text;
    }

pub all_sandboxes : (format : Format) (image : List Part) (items : List SandboxPart) (i : ℕ) (text : List ℕ) → views format items ≡ image → format ≡ format_of image → length items ≤ i
    → AreListedTo image i (format_line format) text → IsListing image text
all_sandboxes format image items i text e is h before =
    let all : length image ≤ i = omega (arith, length-map items (view format), ap length e) in
    (before.text, subst (λ (l : List Part). IsListingFrom 0 l before.text) (take_all i image all) before.text_is, before.new_is ∙ ap (λ (f : Format). format_line f ++ before.text) is)

-- ==== Findings have one report, an image has one listing, and the state of a sandbox one text.

-- ---- reports

one_instruction : (code text other : List ℕ) → IsInstructionText code text → IsInstructionText code other → text ≡ other
one_instruction code text other a b =
    let same = one_spelling (take a.1 code) (take b.1 code) a.0 b.0 a.1 b.1 a.2 b.2 (λ k h g. get_or-take a.1 code k 0 h ∙ sym (get_or-take b.1 code k 0 g)) in
    a.3 ∙ ap printed same.0 ∙ sym b.3

one_place : (rule : Rule) (code text other : List ℕ) → IsPlaceText rule code text → IsPlaceText rule code other → text ≡ other
one_place V1 code text other a b = a ∙ sym b
one_place V2 code text other a b = a ∙ sym b
one_place V9 code text other a b = a ∙ sym b
one_place _ code text other a b = one_instruction code text other a b

one_line : (ps : List Part) (f : Finding) (line other : List ℕ) → IsFindingLine ps f line → IsFindingLine ps f other → line ≡ other
one_line ps f line other a b =
    let whole : Some b.part ≡ Some a.part = sym b.part_is ∙ a.part_is in
    let part : b.part ≡ a.part = cc in
    let placed = subst (λ (p : Part). IsPlaceText f.rule (drop (f.address - p.code_base) p.code) b.place) part b.place_is in
    let place = one_place f.rule (drop (f.address - a.part.code_base) a.part.code) a.place b.place a.place_is placed in
    a.line_is ∙ ap (λ t. line_front a.part.format f ++ t ++ line_end) place ∙ ap (λ (p : Part). line_front p.format f ++ b.place ++ line_end) (sym part) ∙ sym b.line_is

pub one_report : OneReport
one_report ps [] text other a b = a ∙ sym b
one_report ps (f ∷ found) text other a b =
    let line = one_line ps f a.0 b.0 a.2 b.2 in
    let rest = one_report ps found a.1 b.1 a.3 b.3 in
    a.4 ∙ ap (λ l. l ++ a.1) line ∙ ap (λ l. b.0 ++ l) rest ∙ sym b.4

-- ---- listings

one_unit : (at : ℕ) (bytes text other : List ℕ) → IsUnitListing at bytes text → IsUnitListing at bytes other → text ≡ other
one_unit at bytes text other a b = a.text_is ∙ ap (reading_lines at bytes) (one_longest_reading bytes a.reading b.reading a.longest b.longest) ∙ sym b.text_is

one_of_first : (p : Part) (n : ℕ) (text other : List ℕ) → IsListingOfFirst p n text → IsListingOfFirst p n other → text ≡ other
one_of_first p zero text other a b = a ∙ sym b
one_of_first p (suc n) text other a b =
    let front = one_of_first p n a.0 b.0 a.2 b.2 in
    let last = one_unit (p.code_base + unit p.format * n) (unit_bytes p n) a.1 b.1 a.3 b.3 in
    a.4 ∙ ap (λ l. l ++ a.1) front ∙ ap (λ l. b.0 ++ l) last ∙ sym b.4

one_count : (format : Format) (n m : ℕ) → unit format * n ≡ unit format * m → n ≡ m
one_count Sfi1 n m e = let same : 16 * n ≡ 16 * m = e in omega arith
one_count Sfi2 n m e = let same : 16 * n ≡ 16 * m = e in omega arith
one_count Sfiw n m e = let same : 4 * n ≡ 4 * m = e in omega arith
one_count Sfis n m e = let same : 4 * n ≡ 4 * m = e in omega arith

one_code : (p : Part) (text other : List ℕ) → IsCodeListing p text → IsCodeListing p other → text ≡ other
one_code p text other a b =
    let same = one_count p.format a.units b.units (sym a.whole ∙ b.whole) in
    one_of_first p b.units text other (subst (λ n. IsListingOfFirst p n text) same a.text_is) b.text_is

one_sandbox : (sandbox : ℕ) (p : Part) (text other : List ℕ) → IsSandboxListing sandbox p text → IsSandboxListing sandbox p other → text ≡ other
one_sandbox sandbox p text other a b =
    let names = one_names_text p.init a.names b.names a.names_are b.names_are in
    let code = one_code p a.code b.code a.code_is b.code_is in
    a.text_is
    ∙ ap (λ l. sandbox_line sandbox p ++ flat_map gate_line p.gates ++ l ++ a.code) names
    ∙ ap (λ l. sandbox_line sandbox p ++ flat_map gate_line p.gates ++ b.names ++ l) code
    ∙ sym b.text_is

one_from : (sandbox : ℕ) (ps : List Part) (text other : List ℕ) → IsListingFrom sandbox ps text → IsListingFrom sandbox ps other → text ≡ other
one_from sandbox [] text other a b = a ∙ sym b
one_from sandbox (p ∷ ps) text other a b =
    let front = one_sandbox sandbox p a.0 b.0 a.2 b.2 in
    let rest = one_from (sandbox + 1) ps a.1 b.1 a.3 b.3 in
    a.4 ∙ ap (λ l. l ++ a.1) front ∙ ap (λ l. b.0 ++ l) rest ∙ sym b.4

pub one_listing : OneListing
one_listing ps text other a b = a.2 ∙ ap (λ l. format_line (format_of ps) ++ l) (one_from 0 ps a.0 b.0 a.1 b.1) ∙ sym b.2

-- ---- states

pub one_state : OneState
one_state sandbox p h text other a b =
    let same = one_front (code_from p h.pc) a.front b.front a.front_is b.front_is in
    a.text_is
    ∙ ap (λ (f : Front). state_front sandbox ++ place_line h.pc (code_from p h.pc) f ++ registers_text h 31) same
    ∙ sym b.text_is
