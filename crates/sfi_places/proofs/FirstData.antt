-- An image with other first data bytes in one of its sandboxes.
use Rattle.std.proofs.Common.{◌≡◌, ◌∙◌, ℕ, zero, suc, ◌+◌, ◌-◌, ◌<◌, ◌≤◌, ◌^◌, List, [], ◌∷◌, ◌++◌, length, Some, refl, sym, ap, subst, subst₂, arith, take, drop, append_assoc}
use Rattle.std.specs.Prelude.{slice_get}
use Rattle.std.specs.List.{All, AllPairs, flat_map}
use Rattle.std.proofs.lemmas.List.{length-append}
use Rattle.std.proofs.lemmas.List.Elements.{All-head, All-tail, All-cons}
unfoldable use Rattle.sfi_formats.specs.Formats.{magic}
use Rattle.sfi_formats.specs.declared.format.Format.{Format}
use Rattle.sfi_formats.specs.declared.place.Place.{Place}
use Rattle.sfi_image.specs.declared.fields.Fields.{Fields}
use Rattle.sfi_image.specs.declared.span.Span.{Span}
use Rattle.sfi_image.specs.Spelling.{Part, fields_of, format_of, spans, spans_of, AreApart, AreClear, zone_ends, zone_ends_of, number, fields, gate, part, spelling}
use Rattle.sfi_image.specs.Parts.{IsImage, IsRightPart, IsRightLayout}
use Rattle.sfi_image.specs.Prefixes.{head}
use Rattle.sfi_image.specs.Keeping.{LiesAt, sandbox_offset}
use Rattle.sfi_image.proofs.Fronts.{part_split}
use Rattle.sfi_image.proofs.Facts.{code_ends}
use Rattle.sfi_image.proofs.Seeking.{length-head, split_at, spelled, spelled_round, image_split}
use Rattle.sfi_rules.specs.declared.finding.Finding.{Finding}
use Rattle.sfi_rules.specs.Findings.{AreFindingsFrom}
use Rattle.sfi_places.specs.Moving.{moved, moved_one, with_first}
use Rattle.sfi_places.specs.private.{IsReplaced, HasRoomThere}
use Rattle.sfi_places.proofs.Writing.{one_of}

-- ---- one of a list

abbrev pub with : List ℕ → Part → Part
with first q = record q { init = first }

first_is : (n : ℕ) (first : List ℕ) (qs : List Part) (q : Part) → slice_get qs n ≡ Some q → with_first n first qs ≡ take n qs ++ with first q ∷ drop (suc n) qs
first_is n first [] q e = absurd cc
first_is zero first (p ∷ qs) q e = let is : p ≡ q = cc in ap (λ (x : Part). with first x ∷ qs) is
first_is (suc n) first (p ∷ qs) q e = ap (λ (l : List Part). p ∷ l) (first_is n first qs q e)

same_format : (n : ℕ) (first : List ℕ) (qs : List Part) → format_of (with_first n first qs) ≡ format_of qs
same_format n first [] = refl
same_format zero first (p ∷ qs) = refl
same_format (suc n) first (p ∷ qs) = refl

same_length : (n : ℕ) (first : List ℕ) (qs : List Part) → length (with_first n first qs) ≡ length qs
same_length n first [] = refl
same_length zero first (p ∷ qs) = refl
same_length (suc n) first (p ∷ qs) = ap suc (same_length n first qs)

same_spans : (n : ℕ) (first : List ℕ) (qs : List Part) → spans (with_first n first qs) ≡ spans qs
same_spans n first [] = refl
same_spans zero first (p ∷ qs) = refl
same_spans (suc n) first (p ∷ qs) = ap (λ (l : List Span). spans_of (fields_of p) ++ l) (same_spans n first qs)

same_ends : (n : ℕ) (first : List ℕ) (qs : List Part) → zone_ends (with_first n first qs) ≡ zone_ends qs
same_ends n first [] = refl
same_ends zero first (p ∷ qs) = refl
same_ends (suc n) first (p ∷ qs) = ap (λ (l : List ℕ). zone_ends_of (fields_of p) ++ l) (same_ends n first qs)

all_but : (P : Part → Type 0) (n : ℕ) (first : List ℕ) (qs : List Part) → All P qs → ((q : Part) → slice_get qs n ≡ Some q → P q → P (with first q)) → All P (with_first n first qs)
all_but P n first [] all there = all
all_but P zero first (q ∷ qs) all there = All-cons P (with first q) qs (there q refl (All-head P q qs all)) (All-tail P q qs all)
all_but P (suc n) first (q ∷ qs) all there = All-cons P q (with_first n first qs) (All-head P q qs all) (all_but P n first qs (All-tail P q qs all) there)

-- the last are the ones
pub again : (n : ℕ) (first last : List ℕ) (qs : List Part) → with_first n last (with_first n first qs) ≡ with_first n last qs
again n first last [] = refl
again zero first last (q ∷ qs) = refl
again (suc n) first last (q ∷ qs) = ap (λ (l : List Part). q ∷ l) (again n first last qs)

pub own : (n : ℕ) (qs : List Part) (q : Part) → slice_get qs n ≡ Some q → with_first n q.init qs ≡ qs
own n [] q e = refl
own zero (p ∷ qs) q e = let is : p ≡ q = cc in ap (λ (x : Part). with x.init p ∷ qs) (sym is)
own (suc n) (p ∷ qs) q e = ap (λ (l : List Part). p ∷ l) (own n qs q e)

pub first_there : (n : ℕ) (first : List ℕ) (qs : List Part) (q : Part) → slice_get qs n ≡ Some q → slice_get (with_first n first qs) n ≡ Some (with first q)
first_there n first [] q e = absurd cc
first_there zero first (p ∷ qs) q e = let is : p ≡ q = cc in ap (λ (x : Part). Some (with first x)) is
first_there (suc n) first (p ∷ qs) q e = first_there n first qs q e

-- ---- the layout and the findings

right : (first : List ℕ) (q : Part) → length first ≤ q.data_size → IsRightPart q → IsRightPart (with first q)
right first q room r = record {
  code_base = r.code_base;
  code_placed = r.code_placed;
  data_placed = r.data_placed;
  one_bit = r.one_bit;
  guard_room = r.guard_room;
  zone_room = r.zone_room;
  start = r.start;
  gate_count = r.gate_count;
  init_len = room;
  gates = r.gates;
}

pub right_layout : (n : ℕ) (first : List ℕ) (qs : List Part) (q : Part) → slice_get qs n ≡ Some q → length first ≤ q.data_size → IsRightLayout qs → IsRightLayout (with_first n first qs)
right_layout n first qs q here room layout =
    let count = same_length n first qs in
    let few = layout.at_least_one in
    let most = layout.at_most in
    record {
      at_least_one = omega (arith, count, few);
      at_most = omega (arith, count, most);
      one_format = subst (λ (f : Format). All (λ (x : Part). x.format ≡ f) (with_first n first qs)) (sym (same_format n first qs))
          (all_but (λ (x : Part). x.format ≡ format_of qs) n first qs layout.one_format (λ x e same. same));
      right = record {
        each = all_but IsRightPart n first qs layout.right.each (λ x e r. right first x (let is : x ≡ q = cc in subst (λ (y : Part). length first ≤ y.data_size) (sym is) room) r);
        apart = subst (λ (l : List Span). AllPairs AreApart l) (sym (same_spans n first qs)) layout.right.apart;
        clear = subst₂ AreClear (sym (same_ends n first qs)) (sym (same_spans n first qs)) layout.right.clear;
      };
    }

-- what is found doesn't depend on them
pub found_same : (sandbox n : ℕ) (first : List ℕ) (qs : List Part) (found : List Finding) → AreFindingsFrom sandbox qs found → AreFindingsFrom sandbox (with_first n first qs) found
found_same sandbox n first [] found h = h
found_same sandbox zero first (q ∷ qs) found h = h
found_same sandbox (suc n) first (q ∷ qs) found h = (h.0, h.1, h.2, found_same (sandbox + 1) n first qs h.1 h.3, h.4)

-- ---- in bytes

abbrev before_init : Part → List ℕ
before_init q = fields (fields_of q) ++ (flat_map gate q.gates ++ q.code)

part_ends : (q : Part) (r : List ℕ) → part q ++ r ≡ before_init q ++ (q.init ++ r)
part_ends q r = part_split q r ∙ regroup (fields (fields_of q)) (flat_map gate q.gates) q.code
  where
    regroup : (x y z : List ℕ) → x ++ (y ++ (z ++ (q.init ++ r))) ≡ (x ++ (y ++ z)) ++ (q.init ++ r)
    regroup x y z = simp append_assoc

same_before : (first : List ℕ) (q : Part) → length first ≡ length q.init → before_init (with first q) ≡ before_init q
same_before first q len = ap (λ (n : ℕ). fields (record (fields_of q) { init_len = n }) ++ (flat_map gate q.gates ++ q.code)) len

module _ (bytes : List ℕ) (qs : List Part) (n : ℕ) (q : Part) (image : IsImage bytes qs) (here : slice_get qs n ≡ Some q) (at : ℕ)
    (at_is : at + length q.init ≡ sandbox_offset qs n + length (part q)) where
  abbrev front : List ℕ
  front = head (format_of qs) (length qs) (take n qs)

  abbrev rest : List ℕ
  rest = flat_map part (drop (suc n) qs)

  split : (first : List ℕ) → length first ≡ length q.init → front ++ (part (with first q) ++ rest) ≡ (front ++ before_init q) ++ (first ++ rest)
  split first len =
      ap (λ (l : List ℕ). front ++ l) (part_ends (with first q) rest ∙ ap (λ (l : List ℕ). l ++ (first ++ rest)) (same_before first q len))
      ∙ sym (append_assoc front (before_init q) (first ++ rest))

  far : at ≡ length (front ++ before_init q)
  far = omega (
    arith,
    at_is,
    length-head (format_of qs) (length qs) (take n qs),
    length-append front (before_init q),
    ap length (part_ends q []),
    length-append (part q) [],
    length-append (before_init q) (q.init ++ []),
    length-append q.init [],
  )

  pub init_lies : LiesAt bytes at q.init
  init_lies = record {
    before = front ++ before_init q;
    after = rest;
    bytes_are = image_split bytes qs n q image here ∙ split q.init refl;
    offset_is = far;
  }

  pub rewritten : (new first : List ℕ) → length first ≡ length q.init → IsReplaced bytes new at q.init first → IsImage new (with_first n first qs)
  rewritten new first len step =
      record {
        bytes_are = step (front ++ before_init q) rest far (image_split bytes qs n q image here ∙ split q.init refl) ∙ sym (split first len) ∙ sym spelled_there;
        layout = right_layout n first qs q here room image.layout;
      }
    where
      room : length first ≤ q.data_size
      room = let fits = (one_of IsRightPart (take n qs) q (drop (suc n) qs) (subst (All IsRightPart) (split_at qs n q here) image.layout.right.each)).init_len in omega (arith, fits, len)

      spelled_there : spelling (with_first n first qs) ≡ front ++ (part (with first q) ++ rest)
      spelled_there =
          spelled (with_first n first qs) ∙ ap (λ (f : Format). magic f ++ (number (length (with_first n first qs)) ++ flat_map part (with_first n first qs))) (same_format n first qs)
          ∙ ap (λ (k : ℕ). magic (format_of qs) ++ (number k ++ flat_map part (with_first n first qs))) (same_length n first qs)
          ∙ ap (λ (l : List Part). magic (format_of qs) ++ (number (length qs) ++ flat_map part l)) (first_is n first qs q here)
          ∙ spelled_round (format_of qs) (length qs) (take n qs) (with first q) (drop (suc n) qs)

-- ---- of a sandbox that was moved

pub one_there : (n : ℕ) (to : Place) (ps : List Part) (p : Part) → slice_get ps n ≡ Some p → slice_get (moved_one n to ps) n ≡ Some (moved to.code_base to.data_base p)
one_there n to [] p e = absurd cc
one_there zero to (q ∷ ps) p e = let is : q ≡ p = cc in ap (λ (x : Part). Some (moved to.code_base to.data_base x)) is
one_there (suc n) to (q ∷ ps) p e = one_there n to ps p e

same_front : (n : ℕ) (to : Place) (ps : List Part) → take n (moved_one n to ps) ≡ take n ps
same_front n to [] = refl
same_front zero to (p ∷ ps) = refl
same_front (suc n) to (p ∷ ps) = ap (λ (l : List Part). p ∷ l) (same_front n to ps)

pub same_offset : (n : ℕ) (to : Place) (ps : List Part) → sandbox_offset (moved_one n to ps) n ≡ sandbox_offset ps n
same_offset n to ps = ap (λ (l : List Part). 8 + length (flat_map part l)) (same_front n to ps)

pub has_room : (f : Fields) (to : Place) (p : Part) → f ≡ fields_of p → IsRightPart (moved to.code_base to.data_base p) → HasRoomThere f to
has_room f to p is there =
    let code = code_ends (moved to.code_base to.data_base p) there in
    let room = there.guard_room.above in
    subst (λ (g : Fields). HasRoomThere g to) (sym is) (record { code = code; data_room = omega (arith, room) })
