-- An image with one of its sandboxes at another place.
use Rattle.std.proofs.Common.{◌≡◌, ◌∙◌, ◌↔◌, ℕ, zero, suc, ◌+◌, ◌-◌, ◌<◌, ◌≤◌, ◌^◌, List, [], ◌∷◌, ◌++◌, length, Some, refl, sym, ap, subst, arith, take, drop, map, Result, Ok, Err, IfOk, IfErr, Option, None, Bool}
use Rattle.std.specs.Prelude.{slice_get, OnOk, IfSome, IfNone, is_ok}
use Rattle.std.specs.Bool.{OnTrue, OnFalse}
use Rattle.std.specs.List.{All, flat_map}
use Rattle.std.proofs.lemmas.List.{length-map, append-nil}
use Rattle.std.proofs.lemmas.Option.{slice_get_within}
use Rattle.std.proofs.lemmas.List.Elements.{All-head, All-tail, All-cons, All-map}
unfoldable use Rattle.sfi_formats.specs.Formats.{magic}
use Rattle.sfi_formats.specs.declared.format.Format.{Format}
use Rattle.sfi_formats.specs.declared.place.Place.{Place}
use Rattle.sfi_formats.proofs.Formats.{length_of_magic}
use Rattle.sfi_image.specs.declared.fault.LayoutFault.{LayoutFault}
use Rattle.sfi_image.specs.declared.part.Gate.{Gate}
use Rattle.sfi_image.specs.Spelling.{Part, format_of, IsWord}
use Rattle.sfi_image.specs.Numbers.{AreWords, AreGateWords}
unfoldable use Rattle.sfi_image.specs.Spelling.{number, part, spelling}
use Rattle.sfi_image.specs.Prefixes.{head}
use Rattle.sfi_image.specs.Faults.{IsFault}
use Rattle.sfi_image.specs.Parts.{IsImage, IsRightPart, IsRightLayout, IsCodeRegion}
use Rattle.sfi_image.proofs.Regions.{right_words}
use Rattle.sfi_image.proofs.Fronts.{same_front, same_number, same_list, same_part}
use Rattle.sfi_image.proofs.Facts.{whole_bundles, code_ends, one_image, never_both, one_fault}
use Rattle.sfi_image.proofs.Formats.{one_magic}
use Rattle.sfi_places.specs.declared.moving.MoveFault.{MoveFault}
use Rattle.sfi_places.specs.declared.moving.MoveFault.TheVariants.{NoImage, NoSandbox, NoPlace}
use Rattle.sfi_image.specs.declared.cursor.PartView.{PartView}
use Rattle.sfi_image.specs.Keeping.{IsViewOf, IsSandboxOf, IsBeyond, LiesAt, sandbox_offset}
use Rattle.sfi_rules.specs.declared.finding.Finding.{Finding}
use Rattle.sfi_rules.specs.Findings.{AreFindings, AreFindingsFrom}
use Rattle.sfi_safety.proofs.Places.{nothing_before}
use Rattle.sfi_safety.specs.Clean.{IsAccepted}
use Rattle.sfi_places.specs.Moving.{moved_one, with_first, IsMoved, IsMoveFault, OneMoves, moved_address, moved_gate, moved}
use Rattle.sfi_places.proofs.Placeless.{clean_is_placeless}
use Rattle.sfi_places.specs.private.{IsReplaced, GoesTo, GatesGo, CanMove}
use Rattle.sfi_image.proofs.Seeking.{length-head, split_at, spelled, spelled_round, image_split}
use Rattle.sfi_places.proofs.Writing.{one_of}
use Rattle.sfi_places.proofs.FirstData.{with, again, own, right_layout, found_same, one_there, first_there}

abbrev pub own_place : Part → Place
own_place p = record { code_base = p.code_base; data_base = p.data_base }

-- ---- there and back

module _ (p : Part) (to : Place) (right : IsRightPart p) (code_word : IsWord to.code_base) (data_word : IsWord to.data_base)
    (region : IsCodeRegion p.format to.code_base (length p.code)) where
  there_ends : to.code_base + length p.code ≤ 2 ^ 32
  there_ends = let w = whole_bundles p.format to.code_base (length p.code) code_word region in w.4

  goes : (at : ℕ) → p.code_base ≤ at → at < p.code_base + length p.code → GoesTo p.code_base to.code_base at
  goes at low high =
      let end = code_ends p right in
      let there = there_ends in
      record { above = low; here = omega (arith, end, high); there = omega (arith, there, high, low) }

  pub can_move : CanMove (own_place p) to (length p.gates) p
  can_move =
      let words = right_words p right in
      record {
        code_is = refl;
        data_is = refl;
        count_is = refl;
        code = record { above = omega arith; here = words.fields.code_base; there = omega (arith, code_word) };
        data_goes = record { above = omega arith; here = words.fields.data_base; there = omega (arith, data_word) };
        start = goes p.start right.start.held.0 right.start.held.1;
        gates = λ k d below. let g = right.gates.starts k d below in goes _ g.held.0 g.held.1;
      }

module _ (p : Part) (to : Place) (n : ℕ) (can : CanMove (own_place p) to n p) where
  goes_back : (at : ℕ) → GoesTo p.code_base to.code_base at → GoesTo to.code_base p.code_base (moved_address p.code_base to.code_base at)
  goes_back at go = let low = go.above in let word = go.here in record { above = omega arith; here = go.there; there = omega (arith, low, word) }

  pub can_move_back : CanMove to (own_place p) n (moved to.code_base to.data_base p)
  can_move_back =
      let code = can.code in
      let data_at = can.data_goes in
      record {
        code_is = refl;
        data_is = refl;
        count_is = length-map p.gates (moved_gate p.code_base to.code_base) ∙ can.count_is;
        code = record { above = omega arith; here = omega (arith, code.there); there = omega (arith, code.here) };
        data_goes = record { above = omega arith; here = omega (arith, data_at.there); there = omega (arith, data_at.here) };
        start = goes_back p.start can.start;
        gates = All-map (λ (g : Gate). GoesTo to.code_base p.code_base g.address) (moved_gate p.code_base to.code_base) p.gates (λ k d below. goes_back _ (can.gates k d below));
      }

  gates_back : (gs : List Gate) → GatesGo p.code_base to.code_base gs → map (moved_gate to.code_base p.code_base) (map (moved_gate p.code_base to.code_base) gs) ≡ gs
  gates_back [] go = refl
  gates_back (g ∷ gs) go =
      let low = (All-head (λ (g : Gate). GoesTo p.code_base to.code_base g.address) g gs go).above in
      let e : p.code_base + ((to.code_base + (g.address - p.code_base)) - to.code_base) ≡ g.address = omega (arith, low) in
      let rest = gates_back gs (All-tail (λ (g : Gate). GoesTo p.code_base to.code_base g.address) g gs go) in
      ap (λ (a : ℕ). record g { address = a } ∷ map (moved_gate to.code_base p.code_base) (map (moved_gate p.code_base to.code_base) gs)) e ∙ ap (λ (l : List Gate). g ∷ l) rest

  pub moved_back : moved p.code_base p.data_base (moved to.code_base to.data_base p) ≡ p
  moved_back =
      let low = can.start.above in
      let start : p.code_base + ((to.code_base + (p.start - p.code_base)) - to.code_base) ≡ p.start = omega (arith, low) in
      let gates = gates_back p.gates can.gates in
      λ k. record p { start = start k; gates = gates k }

  -- its numbers have 32 bits there
  pub words_there : AreWords p → AreWords (moved to.code_base to.data_base p)
  words_there words = record {
    fields = record {
      code_base = can_move_back.code.here;
      code_size = words.fields.code_size;
      data_base = can_move_back.data_goes.here;
      data_size = words.fields.data_size;
      start = can.start.there;
      gate_count = subst IsWord (sym (length-map p.gates (moved_gate p.code_base to.code_base))) words.fields.gate_count;
      init_len = words.fields.init_len;
    };
    gates = All-map AreGateWords (moved_gate p.code_base to.code_base) p.gates (λ k d below. record { address = (can.gates k d below).there; service = (words.gates k d below).service });
  }

-- ---- one of a list

pub one_is : (n : ℕ) (to : Place) (ps : List Part) (p : Part) → slice_get ps n ≡ Some p → moved_one n to ps ≡ take n ps ++ moved to.code_base to.data_base p ∷ drop (suc n) ps
one_is n to [] p e = absurd cc
one_is zero to (q ∷ ps) p e = let is : q ≡ p = cc in ap (λ (x : Part). moved to.code_base to.data_base x ∷ ps) is
one_is (suc n) to (q ∷ ps) p e = ap (λ (l : List Part). q ∷ l) (one_is n to ps p e)

same_format : (n : ℕ) (to : Place) (ps : List Part) → format_of (moved_one n to ps) ≡ format_of ps
same_format n to [] = refl
same_format zero to (p ∷ ps) = refl
same_format (suc n) to (p ∷ ps) = refl

same_length : (n : ℕ) (to : Place) (ps : List Part) → length (moved_one n to ps) ≡ length ps
same_length n to [] = refl
same_length zero to (p ∷ ps) = refl
same_length (suc n) to (p ∷ ps) = ap suc (same_length n to ps)

all_but : (P : Part → Type 0) (n : ℕ) (to : Place) (ps : List Part) (p : Part) → slice_get ps n ≡ Some p → All P ps → P (moved to.code_base to.data_base p) → All P (moved_one n to ps)
all_but P n to [] p e all there = absurd cc
all_but P zero to (q ∷ ps) p e all there = let is : p ≡ q = cc in All-cons P (moved to.code_base to.data_base q) ps (subst (λ (x : Part). P (moved to.code_base to.data_base x)) is there) (All-tail P q ps all)
all_but P (suc n) to (q ∷ ps) p e all there = All-cons P q (moved_one n to ps) (All-head P q ps all) (all_but P n to ps p e (All-tail P q ps all) there)

pub the_one : (P : Part → Type 0) (n : ℕ) (to : Place) (ps : List Part) (p : Part) → slice_get ps n ≡ Some p → All P (moved_one n to ps) → P (moved to.code_base to.data_base p)
the_one P n to ps p e all = one_of P (take n ps) (moved to.code_base to.data_base p) (drop (suc n) ps) (subst (All P) (one_is n to ps p e) all)

-- and back
pub one_back : (n : ℕ) (to : Place) (ps : List Part) (p : Part) → slice_get ps n ≡ Some p → moved p.code_base p.data_base (moved to.code_base to.data_base p) ≡ p → moved_one n (own_place p) (moved_one n to ps) ≡ ps
one_back n to [] p e back = absurd cc
one_back zero to (q ∷ ps) p e back = let is : p ≡ q = cc in ap (λ (x : Part). x ∷ ps) (subst (λ (x : Part). moved p.code_base p.data_base (moved to.code_base to.data_base x) ≡ x) is back)
one_back (suc n) to (q ∷ ps) p e back = ap (λ (l : List Part). q ∷ l) (one_back n to ps p e back)

-- ---- in bytes

module _ (ps : List Part) (n : ℕ) (p : Part) (here : slice_get ps n ≡ Some p) (to : Place) where
  abbrev before : List ℕ
  before = head (format_of ps) (length ps) (take n ps)

  abbrev after : List ℕ
  after = flat_map part (drop (suc n) ps)

  abbrev other : Part
  other = moved to.code_base to.data_base p

  spelled_there : spelling (moved_one n to ps) ≡ before ++ (part other ++ after)
  spelled_there =
      spelled (moved_one n to ps) ∙ ap (λ (f : Format). magic f ++ (number (length (moved_one n to ps)) ++ flat_map part (moved_one n to ps))) (same_format n to ps)
      ∙ ap (λ (k : ℕ). magic (format_of ps) ++ (number k ++ flat_map part (moved_one n to ps))) (same_length n to ps)
      ∙ ap (λ (l : List Part). magic (format_of ps) ++ (number (length ps) ++ flat_map part l)) (one_is n to ps p here)
      ∙ spelled_round (format_of ps) (length ps) (take n ps) other (drop (suc n) ps)

  far : (offset : ℕ) → offset ≡ sandbox_offset ps n → offset ≡ length before
  far offset at = at ∙ sym (length-head (format_of ps) (length ps) (take n ps))

  -- there
  pub written_there : (old new : List ℕ) (offset : ℕ) → IsImage old ps → offset ≡ sandbox_offset ps n → IsReplaced old new offset (part p) (part other) → new ≡ spelling (moved_one n to ps)
  written_there old new offset image at step = step before after (far offset at) (image_split old ps n p image here) ∙ sym spelled_there

  pub lies_there : (new : List ℕ) (offset : ℕ) → offset ≡ sandbox_offset ps n → new ≡ spelling (moved_one n to ps) → LiesAt new offset (part other)
  lies_there new offset at is = record { before = before; after = after; bytes_are = is ∙ spelled_there; offset_is = far offset at }

  -- and back
  pub written_back : (old new again : List ℕ) (offset : ℕ) → IsImage old ps → offset ≡ sandbox_offset ps n → new ≡ spelling (moved_one n to ps) → (back : Part) → back ≡ p
      → IsReplaced new again offset (part other) (part back) → again ≡ old
  written_back old new again offset image at is back same step =
      step before after (far offset at) (is ∙ spelled_there) ∙ ap (λ (q : Part). before ++ (part q ++ after)) same ∙ sym (image_split old ps n p image here)

-- ---- the layout

abbrev Fits : Format → Part → Type 0
Fits format p = (p.format ≡ format) × AreWords p

same_one : (format : Format) (p q : Part) (r s : List ℕ) → Fits format p → Fits format q → part p ++ r ≡ part q ++ s → (p ≡ q) × (r ≡ s)
same_one format p q r s a b e = same_part p q r s a.1 b.1 (a.0 ∙ sym b.0) e

-- sandboxes of one spelling are the same
same_parts : (format other : Format) (ps qs : List Part) → length ps < 2 ^ 32 → length qs < 2 ^ 32 → All (Fits format) ps → All (Fits other) qs
    → magic format ++ (number (length ps) ++ flat_map part ps) ≡ magic other ++ (number (length qs) ++ flat_map part qs) → ps ≡ qs
same_parts format other ps qs few many all all' e =
    let front = same_front (magic format) (magic other) (number (length ps) ++ flat_map part ps) (number (length qs) ++ flat_map part qs) (length_of_magic format ∙ sym (length_of_magic other)) e in
    let count = same_number (length ps) (length qs) (flat_map part ps) (flat_map part qs) few many front.1 in
    let fit = subst (λ (f : Format). All (Fits f) ps) (one_magic format other front.0) all in
    (same_list part (Fits other) (same_one other) ps qs [] [] fit all' count.0 (append-nil (flat_map part ps) ∙ count.1 ∙ sym (append-nil (flat_map part qs)))).0

fit_right : (ps : List Part) → IsRightLayout ps → All (Fits (format_of ps)) ps
fit_right ps layout = λ k d below. (layout.one_format k d below, right_words _ (layout.right.each k d below))

module _ (ps : List Part) (layout : IsRightLayout ps) (n : ℕ) (p : Part) (here : slice_get ps n ≡ Some p) (to : Place) (m : ℕ) (can : CanMove (own_place p) to m p) where
  fit_there : All (Fits (format_of ps)) (moved_one n to ps)
  fit_there =
      let fit = one_of (Fits (format_of ps)) (take n ps) p (drop (suc n) ps) (subst (All (Fits (format_of ps))) (split_at ps n p here) (fit_right ps layout)) in
      all_but (Fits (format_of ps)) n to ps p here (fit_right ps layout) (fit.0, words_there p to m can fit.1)

  -- where the bytes are an image, its sandboxes are these
  pub layout_there : (new : List ℕ) (qs : List Part) → new ≡ spelling (moved_one n to ps) → IsImage new qs → IsRightLayout (moved_one n to ps)
  layout_there new qs is image =
      let most = layout.at_most in
      let most' = image.layout.at_most in
      let count = same_length n to ps in
      let kind = same_format n to ps in
      let same = same_parts (format_of ps) (format_of qs) (moved_one n to ps) qs (omega (arith, most, count)) (omega (arith, most')) fit_there (fit_right qs image.layout)
      (ap (λ (f : Format). magic f ++ (number (length (moved_one n to ps)) ++ flat_map part (moved_one n to ps))) (sym kind) ∙ sym (spelled (moved_one n to ps)) ∙ sym is ∙ image.bytes_are ∙ spelled qs) in
      subst IsRightLayout (sym same) image.layout

-- ---- a sandbox of an image

pub right_one : {bytes : List ℕ} {n : ℕ} {p : Part} (h : IsSandboxOf bytes n p) → IsRightPart p
right_one {n = n} {p = p} h = one_of IsRightPart (take n h.parts) p (drop (suc n) h.parts) (subst (All IsRightPart) (split_at h.parts n p h.sandbox_is) h.image.layout.right.each)

pub image_there : (bytes : List ℕ) (n : ℕ) (r : Result (Option (PartView × ℕ)) LayoutFault) (b : Bool) → b ≡ is_ok r
    → IfOk r (λ found. IfSome found (λ f. (p : Part) × (h : IsSandboxOf bytes n p) × IsViewOf f.0 p × (f.1 ≡ sandbox_offset h.parts n + length (part p))))
    → IfOk r (λ found. IfNone found (IsBeyond bytes n)) → OnTrue b ((ps : List Part) × IsImage bytes ps)
image_there bytes n (Ok (Some f)) b e found beyond = rw (e) (found.1.parts, found.1.image)
image_there bytes n (Ok None) b e found beyond = rw (e) (beyond.0, beyond.1)
image_there bytes n (Err k) b e found beyond = rw (e) tt

pub fault_there : (bytes : List ℕ) (r : Result (Option (PartView × ℕ)) LayoutFault) (b : Bool) → b ≡ is_ok r → IfErr r (λ k. IsFault bytes k) → OnFalse b ((k : LayoutFault) × IsFault bytes k)
fault_there bytes (Ok f) b e fault = rw (e) tt
fault_there bytes (Err k) b e fault = rw (e) (k, fault)

-- ---- the verdict

none_moves : (sandbox n : ℕ) (to : Place) (ps : List Part) (found : List Finding) → All IsRightPart ps → All IsRightPart (moved_one n to ps) → found ≡ [] → AreFindingsFrom sandbox ps found → AreFindingsFrom sandbox (moved_one n to ps) []
none_moves sandbox n to [] found right right' e h = subst (λ (l : List Finding). AreFindingsFrom sandbox [] l) e h
none_moves sandbox zero to (p ∷ ps) found right right' e h =
    let both = nothing_before h.0 h.1 (sym h.4 ∙ e) in (
      [],
      [],
      clean_is_placeless sandbox to.code_base to.data_base p (All-head IsRightPart p ps right) (All-head IsRightPart (moved to.code_base to.data_base p) ps right') (subst (λ (l : List Finding). AreFindings sandbox p l) both.0 h.2),
      subst (λ (l : List Finding). AreFindingsFrom (sandbox + 1) ps l) both.1 h.3,
      refl,
    )
none_moves sandbox (suc n) to (p ∷ ps) found right right' e h =
    let both = nothing_before h.0 h.1 (sym h.4 ∙ e) in (
      [],
      [],
      subst (λ (l : List Finding). AreFindings sandbox p l) both.0 h.2,
      none_moves (sandbox + 1) n to ps h.1 (All-tail IsRightPart p ps right) (All-tail IsRightPart p (moved_one n to ps) right') both.1 h.3,
      refl,
    )

got : (ps : List Part) (n : ℕ) → n < length ps → (p : Part) × (slice_get ps n ≡ Some p)
got [] n lt = absurd (omega arith)
got (p ∷ ps) zero lt = (p, refl)
got (p ∷ ps) (suc n) lt = got ps n (omega (arith, lt))

place_moves : (ps : List Part) (n : ℕ) (to : Place) → n < length ps → IsRightLayout ps → IsRightLayout (moved_one n to ps) → IsAccepted (spelling ps) ps ↔ IsAccepted (spelling (moved_one n to ps)) (moved_one n to ps)
place_moves ps n to lt layout layout' =
    let one = got ps n lt in
    let p = one.0 in
    let right = one_of IsRightPart (take n ps) p (drop (suc n) ps) (subst (All IsRightPart) (split_at ps n p one.1) layout.right.each) in
    let there = the_one IsRightPart n to ps p one.1 layout'.right.each in
    let room = there.guard_room.above in
    let can = can_move p to right there.code_base (omega (arith, room)) there.code_placed in
    let back : moved_one n (own_place p) (moved_one n to ps) ≡ ps = one_back n to ps p one.1 (moved_back p to (length p.gates) can) in (
      λ a. record {
        image = record { bytes_are = refl; layout = layout' };
        none_found = none_moves 0 n to ps [] layout.right.each layout'.right.each refl a.none_found;
      },
      λ a. record {
        image = record { bytes_are = refl; layout = layout };
        none_found = subst (λ (l : List Part). AreFindingsFrom 0 l []) back
            (none_moves 0 n (own_place p) (moved_one n to ps) [] layout'.right.each (subst (All IsRightPart) (sym back) layout.right.each) refl a.none_found);
      },
    )

-- the layout of the sandboxes there with their old first data bytes
pub layout_before : (ps : List Part) (n : ℕ) (to : Place) (first : List ℕ) → n < length ps → IsRightLayout ps → IsRightLayout (with_first n first (moved_one n to ps)) → IsRightLayout (moved_one n to ps)
layout_before ps n to first lt layout layout' =
    let one = got ps n lt in
    let p = one.0 in
    let right = one_of IsRightPart (take n ps) p (drop (suc n) ps) (subst (All IsRightPart) (split_at ps n p one.1) layout.right.each) in
    let other = moved to.code_base to.data_base p in
    let here = one_there n to ps p one.1 in
    subst IsRightLayout (again n first p.init (moved_one n to ps) ∙ own n (moved_one n to ps) other here)
    (right_layout n p.init (with_first n first (moved_one n to ps)) (with first other) (first_there n first (moved_one n to ps) other here) right.init_len layout')

pub one_moves : OneMoves
one_moves ps qs n to first lt is layout layout' =
    let mid = moved_one n to ps in
    let one = got ps n lt in
    let p = one.0 in
    let there : IsRightLayout (with_first n first mid) = subst IsRightLayout is layout' in
    let between = layout_before ps n to first lt layout there in
    let law = place_moves ps n to lt layout between in
    let back : with_first n p.init qs ≡ mid =
    ap (with_first n p.init) is ∙ again n first p.init mid ∙ own n mid (moved to.code_base to.data_base p) (one_there n to ps p one.1) in (
      λ a. record {
        image = record { bytes_are = refl; layout = layout' };
        none_found = subst (λ (l : List Part). AreFindingsFrom 0 l []) (sym is) (found_same 0 n first mid [] (law.0 a).none_found);
      },
      λ a. law.1 (record {
        image = record { bytes_are = refl; layout = between };
        none_found = subst (λ (l : List Part). AreFindingsFrom 0 l []) back (found_same 0 n p.init qs [] a.none_found);
      }),
    )

pub same_verdict : (old new : List ℕ) (n : ℕ) (to : Place) → IsMoved old n to new → (ps qs : List Part) → IsImage old ps → IsImage new qs → IsAccepted old ps ↔ IsAccepted new qs
same_verdict old new n to m ps qs image now =
    let parts = m.was.parts in
    let same : parts ≡ ps = one_image old parts ps m.was.image image in
    let is : qs ≡ with_first n m.first (moved_one n to ps) =
    one_image new qs (with_first n m.first (moved_one n to parts)) now m.image ∙ ap (λ (l : List Part). with_first n m.first (moved_one n to l)) same in
    let lt : n < length ps = subst (λ (l : List Part). n < length l) same (slice_get_within parts n m.sandbox m.was.sandbox_is) in
    let law = one_moves ps qs n to m.first lt is image.layout now.layout in (
      λ a. subst (λ (l : List ℕ). IsAccepted l qs) (sym now.bytes_are) (law.0 (subst (λ (l : List ℕ). IsAccepted l ps) image.bytes_are a)),
      λ a. subst (λ (l : List ℕ). IsAccepted l ps) (sym image.bytes_are) (law.1 (subst (λ (l : List ℕ). IsAccepted l qs) now.bytes_are a)),
    )

-- ---- which answer

same_element : {X : Type 0} (xs : List X) (i : ℕ) → i < length xs → length xs ≤ i → ⊥
same_element xs i lt le = omega (arith, lt, le)

moved_or_not : (bytes now : List ℕ) (n : ℕ) (to : Place) (e : MoveFault) → IsMoved bytes n to now → IsMoveFault bytes n to e → ⊥
moved_or_not bytes now n to (NoImage k) m f = never_both bytes m.was.parts k m.was.image f
moved_or_not bytes now n to NoSandbox m f =
    let parts = m.was.parts in
    same_element f.0 n (subst (λ (l : List Part). n < length l) (one_image bytes parts f.0 m.was.image f.1) (slice_get_within parts n m.sandbox m.was.sandbox_is)) f.2
moved_or_not bytes now n to NoPlace m f =
    let parts = m.was.parts in
    let there = layout_before parts n to m.first (slice_get_within parts n m.sandbox m.was.sandbox_is) m.was.image.layout m.image.layout in
    f.3 (subst (λ (l : List Part). IsRightLayout (moved_one n to l)) (one_image bytes parts f.0 m.was.image f.1) there)

one_move_fault : (bytes : List ℕ) (n : ℕ) (to : Place) (e f : MoveFault) → IsMoveFault bytes n to e → IsMoveFault bytes n to f → e ≡ f
one_move_fault bytes n to (NoImage j) (NoImage k) a b = ap (λ (l : LayoutFault). NoImage l) (one_fault bytes j k a b)
one_move_fault bytes n to (NoImage j) NoSandbox a b = absurd (never_both bytes b.0 j b.1 a)
one_move_fault bytes n to (NoImage j) NoPlace a b = absurd (never_both bytes b.0 j b.1 a)
one_move_fault bytes n to NoSandbox (NoImage k) a b = absurd (never_both bytes a.0 k a.1 b)
one_move_fault bytes n to NoSandbox NoSandbox a b = refl
one_move_fault bytes n to NoSandbox NoPlace a b = absurd (same_element b.0 n b.2 (subst (λ (l : List Part). length l ≤ n) (one_image bytes a.0 b.0 a.1 b.1) a.2))
one_move_fault bytes n to NoPlace (NoImage k) a b = absurd (never_both bytes a.0 k a.1 b)
one_move_fault bytes n to NoPlace NoSandbox a b = absurd (same_element a.0 n a.2 (subst (λ (l : List Part). length l ≤ n) (one_image bytes b.0 a.0 b.1 a.1) b.2))
one_move_fault bytes n to NoPlace NoPlace a b = refl

module _ (old new : List ℕ) (n : ℕ) (to : Place) where
  pub only_moved : (r : Result (Unit {0}) MoveFault) → OnOk r (IsMoved old n to new) → IfErr r (IsMoveFault old n to) → (now : List ℕ) → IsMoved old n to now → r ≡ Ok tt
  only_moved (Ok x) moved fault now m = refl
  only_moved (Err e) moved fault now m = absurd (moved_or_not old now n to e m fault)

  pub only_fault : (r : Result (Unit {0}) MoveFault) → OnOk r (IsMoved old n to new) → IfErr r (IsMoveFault old n to) → (e : MoveFault) → IsMoveFault old n to e → r ≡ Err e
  only_fault (Ok x) moved fault e h = absurd (moved_or_not old new n to e moved h)
  only_fault (Err f) moved fault e h = ap (λ (x : MoveFault). Err x) (one_move_fault old n to f e fault h)

  pub accepted : (r : Result (Unit {0}) MoveFault) → OnOk r (IsMoved old n to new) → OnOk r ((ps qs : List Part) → IsImage old ps → IsImage new qs → IsAccepted old ps ↔ IsAccepted new qs)
  accepted (Ok x) moved = same_verdict old new n to moved
  accepted (Err e) moved = tt
