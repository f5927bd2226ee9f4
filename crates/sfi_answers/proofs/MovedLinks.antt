-- What is linked of a sandbox that can be moved, at another place.
use Rattle.std.proofs.Common.{◌≡◌, ◌∙◌, ℕ, ◌+◌, ◌-◌, ◌*◌, ◌<◌, ◌≤◌, List, [], ◌∷◌, length, map, refl, sym, ap, subst, arith, Bool, true, false, nat_le, nat_lt, Option, Some, None}
use Rattle.std.specs.Prelude.{if◌then◌else◌, slice_get}
use Rattle.std.proofs.lemmas.Bool.{and_parts, and_from, leb-true, ltb-true, le-leb, lt-ltb}
use Rattle.std.proofs.lemmas.Option.{same_Some, get_or_from_slice_get, slice_get_within}
use Rattle.sfi_formats.specs.declared.place.Place.{Place}
use Rattle.sfi_formats.specs.Places.{place_of}
use Rattle.sfi_image.specs.declared.part.Gate.{Gate}
use Rattle.sfi_image.specs.declared.fields.Fields.{Fields}
use Rattle.sfi_image.specs.Spelling.{Part, AreApart, fields_of, code_span, data_span, code_region, guarded_region}
use Rattle.sfi_source.specs.declared.item.SourceGate.{SourceGate}
use Rattle.sfi_places.specs.Moving.{moved, moved_gate, moved_address, holds, address_there}
use Rattle.sfi_rewrite.specs.Placement.{Placement}
use Rattle.sfi_rewrite.specs.Placed.{IsPlacedThere}
use Rattle.sfi_rewrite.specs.declared.placed.PlacedName.{PlacedName}
use Rattle.sfi_rewrite.specs.declared.placed.PlacedName.TheVariants as name
use Rattle.sfi_link.specs.Code.{stub_size, bases_of, address_of, of_name}
use Rattle.sfi_link.specs.Linked.{gates_from, IsLinked}
use Rattle.sfi_link.proofs.Facts.{movable_code_is_placeless}
use Rattle.sfi_answers.specs.Laws.{MovedIsLinked, NamesGoAlong}

gates_there : (from to at : ℕ) (gs : List SourceGate) → from ≤ at → map (moved_gate from to) (gates_from at gs) ≡ gates_from (to + (at - from)) gs
gates_there from to at [] low = refl
gates_there from to at (g ∷ gs) low =
    let next : to + (at + stub_size - from) ≡ to + (at - from) + stub_size = omega (arith, low) in
    ap (λ (l : List Gate). record { address = to + (at - from); service = g.service } ∷ l)
    (gates_there from to (at + stub_size) gs (omega (arith, low)) ∙ ap (λ (a : ℕ). gates_from a gs) next)

pub moved_is_linked : MovedIsLinked
moved_is_linked given others number p q moves linked lies =
    let there = place_of others p.format number in
    let here = place_of given p.format number in
    let base : q.code_base ≡ here.code_base = ap (λ (x : Part). x.code_base) linked.is in
    let from : q.start ≡ here.code_base + stub_size * length p.gates = ap (λ (x : Part). x.start) linked.is in
    let format : q.format ≡ p.format = ap (λ (x : Part). x.format) linked.is in
    let size : q.data_size ≡ p.data_size = ap (λ (x : Part). x.data_size) linked.is in
    let init : q.init ≡ p.bytes = ap (λ (x : Part). x.init) linked.is in
    let start : there.code_base + (q.start - q.code_base) ≡ there.code_base + stub_size * length p.gates = omega (arith, base, from) in
    let none : there.code_base + (here.code_base - here.code_base) ≡ there.code_base = omega arith in
    let gates : map (moved_gate q.code_base there.code_base) q.gates ≡ gates_from there.code_base p.gates =
    ap (λ (x : Part). map (moved_gate x.code_base there.code_base) x.gates) linked.is
    ∙ gates_there here.code_base there.code_base here.code_base p.gates (omega arith)
    ∙ ap (λ (a : ℕ). gates_from a p.gates) none in
    record {
      code = movable_code_is_placeless given others number p q.code moves linked.code;
      lies = lies;
      is = λ k. record (moved there.code_base there.data_base q) { format = format k; data_size = size k; start = start k; gates = gates k; init = init k };
    }

-- ---- the addresses of names

module _ (f : Fields) (to : Place) (at : ℕ) where
  in_code : f.code_base ≤ at → at < f.code_base + f.code_size → address_there f to at ≡ to.code_base + (at - f.code_base)
  in_code low high =
      ap (λ (b : Bool). if b then moved_address f.code_base to.code_base at else (if holds (data_span f) at then moved_address f.data_base to.data_base at else at))
      (and_from (nat_le f.code_base at) (nat_lt at (f.code_base + f.code_size)) (le-leb f.code_base at low) (lt-ltb at (f.code_base + f.code_size) high))

  outside : (b : Bool) → holds (code_span f) at ≡ b → (f.code_base ≤ at → at < f.code_base + f.code_size → ⊥) → b ≡ false
  outside true is out =
      let both = and_parts (nat_le f.code_base at) (nat_lt at (f.code_base + f.code_size)) is in
      absurd (out (leb-true f.code_base at both.0) (ltb-true at (f.code_base + f.code_size) both.1))
  outside false is out = refl

  in_data : (f.code_base ≤ at → at < f.code_base + f.code_size → ⊥) → f.data_base ≤ at → at < f.data_base + f.data_size → address_there f to at ≡ to.data_base + (at - f.data_base)
  in_data out low high =
      ap (λ (b : Bool). if b then moved_address f.code_base to.code_base at else (if holds (data_span f) at then moved_address f.data_base to.data_base at else at)) (outside (holds (code_span f) at) refl out)
      ∙ ap (λ (b : Bool). if b then moved_address f.data_base to.data_base at else at)
      (and_from (nat_le f.data_base at) (nat_lt at (f.data_base + f.data_size)) (le-leb f.data_base at low) (lt-ltb at (f.data_base + f.data_size) high))

module _ (given others : List Place) (number : ℕ) (p : Placement) (q : Part) (linked : IsLinked given number p q) (apart : AreApart (code_region q) (guarded_region q)) (room : length p.bytes < p.data_size) where
  abbrev here : Place
  here = place_of given p.format number

  abbrev there : Place
  there = place_of others p.format number

  code_is : q.code_base ≡ here.code_base
  code_is = ap (λ (x : Part). x.code_base) linked.is

  data_is : q.data_base ≡ here.data_base
  data_is = ap (λ (x : Part). x.data_base) linked.is

  size_is : q.data_size ≡ p.data_size
  size_is = ap (λ (x : Part). x.data_size) linked.is

  code_goes : (offset at : ℕ) → offset < length q.code → here.code_base + offset ≡ at → Some (there.code_base + offset) ≡ Some (address_there (fields_of q) there at)
  code_goes offset at inside is =
      let same : there.code_base + offset ≡ there.code_base + (at - q.code_base) = omega (arith, is, code_is) in
      ap Some (same ∙ sym (in_code (fields_of q) there at (omega (arith, is, code_is)) (omega (arith, is, code_is, inside))))

  data_goes : (offset at : ℕ) → offset < p.data_size → here.data_base + offset ≡ at → Some (there.data_base + offset) ≡ Some (address_there (fields_of q) there at)
  data_goes offset at inside is =
      let same : there.data_base + offset ≡ there.data_base + (at - q.data_base) = omega (arith, is, data_is) in
      ap Some (same ∙ sym (in_data (fields_of q) there at
      (λ low high. apart at (low, high) (omega (arith, is, data_is), omega (arith, is, data_is, size_is, inside)))
      (omega (arith, is, data_is)) (omega (arith, is, data_is, size_is, inside))))

  one_goes : (n : PlacedName) (at : ℕ) → IsPlacedThere p n → address_of (bases_of given number p) n ≡ Some at → address_of (bases_of others number p) n ≡ Some (address_there (fields_of q) there at)
  one_goes (name.Gate k) at h is = code_goes (stub_size * k) at (omega (arith, h, linked.code.size.has_room.room)) (same_Some _ _ is)
  one_goes (name.Code place) at h is =
      let both : stub_size * length p.gates + place < length q.code = omega (arith, h.1, linked.code.size.has_room.room) in
      let from : here.code_base + (stub_size * length p.gates + place) ≡ at = omega (arith, same_Some _ _ is) in
      let to : there.code_base + stub_size * length p.gates + place ≡ there.code_base + (stub_size * length p.gates + place) = omega arith in
      ap Some to ∙ code_goes (stub_size * length p.gates + place) at both from
  one_goes (name.Data offset) at h is = data_goes offset at (omega (arith, h, room)) (same_Some _ _ is)
  one_goes name.Unknown at h is = absurd cc

  some_goes : (o : Option PlacedName) (at : ℕ) → ((n : PlacedName) → o ≡ Some n → IsPlacedThere p n) → of_name (address_of (bases_of given number p)) o ≡ Some at
      → of_name (address_of (bases_of others number p)) o ≡ Some (address_there (fields_of q) there at)
  some_goes None at h is = absurd cc
  some_goes (Some n) at h is = one_goes n at (h n refl) is

pub names_go_along : NamesGoAlong
names_go_along given others number p q place at placed linked apart room is =
    some_goes given others number p q linked apart room (slice_get p.names place) at
    (λ n e. subst (IsPlacedThere p) (get_or_from_slice_get p.names place n n e) (placed.names place n (slice_get_within p.names place n e))) is
