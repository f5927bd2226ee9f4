-- What is made of a placed sandbox: a right layout, its map, and what begins at a label.
use Rattle.sfi_link.proofs.Prelude.{◌≡◌, ℕ, zero, suc, ◌+◌, ◌*◌, ◌%◌, ◌^◌, ◌<◌, ◌≤◌, ◌==◌, List, [], ◌∷◌, length, get_or, true, refl, sym, ap, ◌∙◌, subst, arith, inl, inr, length-append, All, AllPairs, eq-eqb, eqb-true, or_right, or_cases, All-nil, All-cons, All-head, All-tail, Format, Span, Part, format_of, BundleSlot, Wide, PlacedName, slot_size, size_of, Placement, IsPlacedPart, IsPlaced, Place, Bases, bases_of, stub_size, IsSlot, AreSlots, place_of, IsRightPlace, needed, HasRoom, gates_from, part_with, IsLinkedCode, IsLinked, AreLinkedFrom, AreLinked, Option, Some, None, slice_get, All-append, code_region, IsPlacedThere, Sandbox, kind_of, entry_of, entries_of, entries_in, map_from}
use Rattle.sfi_source.specs.declared.item.SourceGate.{SourceGate}
use Rattle.sfi_image.specs.Parts.{is_gate_of, IsRightPart, IsRightLayout, AreOf, IsBundleStart}
use Rattle.sfi_formats.specs.Limits.{service_most}
use Rattle.std.proofs.lemmas.List.Kept.{AllPairs-cons}
use Rattle.std.proofs.lemmas.Option.{slice_get-get_or}
use Rattle.sfi_rewrite.specs.Placed as placements
use Rattle.sfi_image.proofs.Regions.{whole_bundles}
use Rattle.sfi_formats.proofs.Facts.{limits_have_room}
use Rattle.sfi_rewrite.proofs.Sizes.{size_of-cons}
use Rattle.sfi_formats.specs.Formats.{unit}
use Rattle.sfi_formats.specs.declared.format.Format.TheVariants.{Sfi1, Sfi2, Sfiw, Sfis}
use Rattle.sfi_image.specs.Spelling.{Holds}
use Rattle.sfi_rewrite.specs.declared.placed.PlacedName.TheVariants.{Gate, Code, Data, Unknown}
use Rattle.sfi_link.specs.declared.names.NameKind.{NameKind}
use Rattle.sfi_link.specs.declared.names.NameKind.TheVariants as kind
use Rattle.sfi_link.specs.Code.{address_of}
use Rattle.sfi_link.specs.Names.{BeginsUnit}

-- ==== What is made of a placed sandbox has a right layout.

-- ---- code regions

-- a code region's size is a multiple of 16
pub sixteens : (f : Format) (bytes size : ℕ) → HasRoom f bytes size → (count : ℕ) × (size ≡ 16 * count)
sixteens f bytes size h =
    let whole = whole_bundles f 0 size (omega arith) (record { power = h.power; multiple = 0; size_is = h.size_is; base_is = omega arith; at_least = h.at_least; at_most = omega (arith, h.at_most, (limits_have_room f).1) }) in
    (whole.0, whole.2)

-- ---- sizes

slot_length : (at : Bases) (names : List PlacedName) (here : ℕ) (s : BundleSlot) (bytes : List ℕ) → IsSlot at names here s bytes → length bytes ≡ slot_size s
slot_length at names here (Wide i) bytes x = ap length x.spelled.1
slot_length at names here _ bytes x = ap length x.spelled.1

pub slots_length : (at : Bases) (names : List PlacedName) (here : ℕ) (slots : List BundleSlot) (bytes : List ℕ) → AreSlots at names here slots bytes → length bytes ≡ size_of slots
slots_length at names here [] bytes e = ap length e
slots_length at names here (s ∷ slots) bytes (front, rest, one, others, e) =
    let a = slot_length at names here s front one in
    let b = slots_length at names (here + slot_size s) slots rest others in
    let c = size_of-cons s slots in
    let d = ap length e ∙ length-append front rest in
    omega arith

-- ---- gates

pub gates_above : (address : ℕ) (gs : List SourceGate) → All (λ g. address ≤ g.address) (gates_from address gs)
gates_above address [] = All-nil (λ g. address ≤ g.address)
gates_above address (g ∷ gs) =
    All-cons (λ g. address ≤ g.address) _ (gates_from (address + stub_size) gs) (omega arith) (λ k d lt. let h = gates_above (address + stub_size) gs k d lt in omega arith)

starts_right : (region : Span) (address : ℕ) (gs : List SourceGate) → address % 16 ≡ 0 → region.base ≤ address → address + 16 * length gs ≤ region.base + region.size
    → All (λ g. IsBundleStart region g.address) (gates_from address gs)
starts_right region address [] even low high = All-nil (λ g. IsBundleStart region g.address)
starts_right region address (g ∷ gs) even low high =
    All-cons (λ g. IsBundleStart region g.address) _ (gates_from (address + stub_size) gs) (record { held = (low, omega arith); aligned = even })
    (starts_right region (address + stub_size) gs (omega arith) (omega arith) (omega arith))

services_right : (address : ℕ) (gs : List SourceGate) → All (λ g. g.service ≤ service_most) gs → All (λ g. g.service ≤ service_most) (gates_from address gs)
services_right address [] all = All-nil (λ g. g.service ≤ service_most)
services_right address (g ∷ gs) all =
    All-cons (λ g. g.service ≤ service_most) _ (gates_from (address + stub_size) gs) (All-head (λ g. g.service ≤ service_most) g gs all) (services_right (address + stub_size) gs (All-tail (λ g. g.service ≤ service_most) g gs all))

ascending : (address : ℕ) (gs : List SourceGate) → AllPairs (λ g h. g.address < h.address) (gates_from address gs)
ascending address [] = λ i j d lt within. absurd (omega arith)
ascending address (g ∷ gs) =
    AllPairs-cons (λ g h. g.address < h.address) _ (gates_from (address + stub_size) gs)
    (λ k d lt. let h = gates_above (address + stub_size) gs k d lt in omega arith)
    (ascending (address + stub_size) gs)

pub length-gates_from : (address : ℕ) (gs : List SourceGate) → length (gates_from address gs) ≡ length gs
length-gates_from address [] = refl
length-gates_from address (g ∷ gs) = ap suc (length-gates_from (address + stub_size) gs)

-- the gates lie at the first bundles, and nowhere else
pub listed_at : (address : ℕ) (gs : List SourceGate) (k : ℕ) → k < length gs → is_gate_of (gates_from address gs) (address + 16 * k) ≡ true
listed_at address [] k lt = absurd (omega arith)
listed_at address (g ∷ gs) zero lt = let e : (address == address + 16 * 0) ≡ true = eq-eqb address (address + 16 * 0) (omega arith) in rw e refl
listed_at address (g ∷ gs) (suc k) lt =
    let h = listed_at (address + 16) gs k (omega arith) in
    let e : address + 16 + 16 * k ≡ address + 16 * suc k = omega arith in
    or_right (address == address + 16 * suc k) _ (ap (is_gate_of (gates_from (address + 16) gs)) (sym e) ∙ h)

pub listed_only : (address : ℕ) (gs : List SourceGate) (k : ℕ) → is_gate_of (gates_from address gs) (address + 16 * k) ≡ true → k < length gs
listed_only address [] k h = absurd cc
listed_only address (g ∷ gs) zero h = omega arith
listed_only address (g ∷ gs) (suc k) h =
    elim (or_cases (address == address + 16 * suc k) _ h) [
      | inl same ↦ absurd (let e = eqb-true address (address + 16 * suc k) same in omega arith)
      | inr later ↦
          let e : address + 16 * suc k ≡ address + 16 + 16 * k = omega arith in
          let less = listed_only (address + 16) gs k (ap (is_gate_of (gates_from (address + 16) gs)) (sym e) ∙ later) in
          omega arith
    ]

-- ---- a sandbox

services : (p : Placement) → IsPlacedPart p → All (λ g. g.service ≤ service_most) p.gates
services p placed k d lt = (placed.gates k (get_or p.gates k d) (slice_get-get_or p.gates k d lt)).service

-- code that lies there ends at 2 ^ 32 at the latest, and begins with a bundle
pub record LiesWell (base size : ℕ) : Type 0 where
  pub end : base + size ≤ 2 ^ 32
  pub even : base % 16 ≡ 0

pub well_placed : (p : Placement) (size : ℕ) (place : Place) → IsRightPlace p size place → LiesWell place.code_base size
well_placed p size place lies = let whole = whole_bundles p.format place.code_base size lies.word lies.code in record { end = whole.4; even = omega (arith, whole.3) }

-- the sandbox starts below 2 ^ 32
pub start_fits : (given : List Place) (number : ℕ) (p : Placement) (size : ℕ) → HasRoom p.format (needed p) size → IsRightPlace p size (place_of given p.format number) → (bases_of given number p).start < 2 ^ 32
start_fits given number p size room lies =
    let end = (well_placed p size (place_of given p.format number) lies).end in
    omega arith

right_with : (given : List Place) (number : ℕ) (p : Placement) (code : List ℕ) → IsPlacedPart p → IsLinkedCode given number p code → IsRightPlace p (length code) (place_of given p.format number) → IsRightPart (part_with given number p code)
right_with given number p code placed made lies =
    let base = (bases_of given number p).code in
    let well = well_placed p (length code) (place_of given p.format number) lies in
    let gates_len = length-gates_from base p.gates in
    record {
      code_base = lies.word;
      code_placed = lies.code;
      data_placed = lies.«data»;
      one_bit = lies.one_bit;
      guard_room = lies.guard_room;
      zone_room = lies.zone_room;
      start = record { held = (omega arith, omega arith); aligned = omega arith };
      gate_count = omega arith;
      init_len = omega arith;
      gates = record {
        starts = starts_right (record { base = base; size = length code }) base p.gates (omega arith) (omega arith) (omega arith);
        services = services_right base p.gates (services p placed);
        ascending = ascending base p.gates;
      };
    }

pub linked_right : (given : List Place) → (number : ℕ) (p : Placement) (q : Part) → IsPlacedPart p → IsLinked given number p q → IsRightPart q
linked_right given number p q placed linked = subst IsRightPart (sym linked.is) (right_with given number p q.code placed linked.code linked.lies)

-- ---- all of them

pub all_right : (given : List Place) → (number : ℕ) (placed : List Placement) (parts : List Part) → All IsPlacedPart placed → AreLinkedFrom given number placed parts
    → All IsRightPart parts × (length parts ≡ length placed)
all_right given number [] parts all linked = subst (λ qs. All IsRightPart qs × (length qs ≡ 0)) (sym linked) (All-nil IsRightPart, refl)
all_right given number (p ∷ placed) [] all linked = absurd linked
all_right given number (p ∷ placed) (q ∷ parts) all linked =
    let rest = all_right given (number + 1) placed parts (All-tail IsPlacedPart p placed all) linked.1 in
    (All-cons IsRightPart q parts (linked_right given number p q (All-head IsPlacedPart p placed all) linked.0) rest.0, ap suc rest.1)

-- what is linked has the format of what is placed
formats : (given : List Place) → (f : Format) (number : ℕ) (placed : List Placement) (parts : List Part) → placements.AreOf f placed → AreLinkedFrom given number placed parts → AreOf f parts
formats given f number [] parts h linked = subst (AreOf f) (sym linked) (λ k d l. absurd (omega (arith, l)))
formats given f number (p ∷ placed) [] h linked = absurd linked
formats given f number (p ∷ placed) (q ∷ parts) h linked =
    All-cons (λ r. r.format ≡ f) q parts (ap (λ (r : Part). r.format) linked.0.is ∙ All-head (λ r. r.format ≡ f) p placed h) (formats given f (number + 1) placed parts (All-tail (λ r. r.format ≡ f) p placed h) linked.1)

one_format : (given : List Place) → (number : ℕ) (placed : List Placement) (parts : List Part) → IsPlaced placed → AreLinkedFrom given number placed parts → AreOf (format_of parts) parts
one_format given number placed parts is linked = first_is parts (placements.format_of placed) (formats given (placements.format_of placed) number placed parts is.one_format linked)
  where
    first_is : (parts : List Part) (f : Format) → AreOf f parts → AreOf (format_of parts) parts
    first_is [] f h = λ k d l. absurd (omega (arith, l))
    first_is (q ∷ rest) f h = subst (λ (g : Format). AreOf g (q ∷ rest)) (sym (All-head (λ r. r.format ≡ f) q rest h)) h

pub linked_is_right : (given : List Place) (placed : List Placement) (parts : List Part) → IsPlaced placed → length placed ≤ 16 → AreLinked given placed parts → IsRightLayout parts
linked_is_right given placed parts is few linked =
    let all = all_right given 0 placed parts is.each linked.each in
    let count = all.1 in
    record { at_least_one = omega arith; at_most = omega arith; one_format = one_format given 0 placed parts is linked.each; right = record { each = all.0; apart = linked.apart.apart; clear = linked.apart.clear } }

-- ==== The map of a source, name by name.

-- the sandbox of the image that the one at a place makes
pub linked_at : (given : List Place) (number k n : ℕ) (ps : List Placement) (qs : List Part) (p : Placement) → n ≡ number + k → k < length ps → p ≡ get_or ps k p → AreLinkedFrom given number ps qs
    → (q : Part) × IsLinked given n p q
linked_at given number k n [] qs p e lt is all = absurd (omega arith)
linked_at given number k n (r ∷ ps) [] p e lt is all = absurd all
linked_at given number zero n (r ∷ ps) (q ∷ qs) p e lt is all =
    let same : number ≡ n = omega arith in
    (q, subst (λ x. IsLinked given n x q) (sym is) (subst (λ m. IsLinked given m r q) same all.0))
linked_at given number (suc k) n (r ∷ ps) (q ∷ qs) p e lt is all = linked_at given (number + 1) k n ps qs p (omega arith) (omega arith) is all.1

-- ==== At a label in the code a unit of its sandbox's code begins.

-- ---- a label

aligned : (f : Format) (base gates place : ℕ) → base % 16 ≡ 0 → place % unit f ≡ 0 → (base + 16 * gates + place) % unit f ≡ 0
aligned Sfi1 base gates place even whole = omega (arith, whole)
aligned Sfi2 base gates place even whole = omega (arith, whole)
aligned Sfiw base gates place even whole = omega (arith, whole)
aligned Sfis base gates place even whole = omega (arith, whole)

-- the address is one of the part's code, at which a unit begins
abbrev pub IsUnitOf : Part → ℕ → Type 0
IsUnitOf q at = Holds (code_region q) at × (at % unit q.format ≡ 0)

placed_label : (given : List Place) (number : ℕ) (p : Placement) (q : Part) (place : ℕ) → IsPlacedPart p → IsLinked given number p q → IsPlacedThere p (Code place)
    → IsUnitOf (part_with given number p q.code) ((bases_of given number p).start + place)
placed_label given number p q place placed linked there =
    let well = well_placed p (length q.code) (place_of given p.format number) linked.lies in
    let room = linked.code.size.has_room.room in
    let inside = there.1 in
    ((omega arith, omega (arith, room, inside)), aligned p.format (bases_of given number p).code (length p.gates) place well.even there.0)

pub label : (given : List Place) (number : ℕ) (p : Placement) (q : Part) (name : PlacedName) (a : ℕ) → IsPlacedPart p → IsLinked given number p q → IsPlacedThere p name
    → kind_of name ≡ Some kind.Code → address_of (bases_of given number p) name ≡ Some a → IsUnitOf q a
label given number p q (Code place) a placed linked there is e =
    let same : (bases_of given number p).start + place ≡ a = cc in
    subst (λ r. IsUnitOf r a) (sym linked.is) (subst (IsUnitOf (part_with given number p q.code)) same (placed_label given number p q place placed linked there))
label given number p q (Gate k) a placed linked there is e = absurd cc
label given number p q (Data offset) a placed linked there is e = absurd cc
label given number p q Unknown a placed linked there is e = absurd cc

-- ---- the entries of a sandbox, each of whose labels is such

module _ (parts : List Part) (number : ℕ) (q : Part) (there : slice_get parts number ≡ Some q) where
  of_entry : (text : Option (List ℕ)) (k : Option NameKind) (a : Option ℕ) → ((x : ℕ) → k ≡ Some kind.Code → a ≡ Some x → IsUnitOf q x) → All (BeginsUnit parts) (entry_of number text k a)
  of_entry (Some text) (Some k) (Some a) unit_at =
      All-cons (BeginsUnit parts) _ [] (λ is. let at = unit_at a (ap (λ x. Some x) is) refl in (q, there, at.0, at.1)) (All-nil (BeginsUnit parts))
  of_entry None k a unit_at = All-nil (BeginsUnit parts)
  of_entry (Some text) None a unit_at = All-nil (BeginsUnit parts)
  of_entry (Some text) (Some k) None unit_at = All-nil (BeginsUnit parts)

  of_names : (given : List Place) (p : Placement) (texts : List (List ℕ)) (k : ℕ) (names : List PlacedName) → IsPlacedPart p → IsLinked given number p q → All (IsPlacedThere p) names
      → All (BeginsUnit parts) (entries_of number (bases_of given number p) texts k names)
  of_names given p texts k [] placed linked all = All-nil (BeginsUnit parts)
  of_names given p texts k (name ∷ names) placed linked all =
      All-append (BeginsUnit parts) _ _
      (of_entry (slice_get texts k) (kind_of name) (address_of (bases_of given number p) name) (λ x is e. label given number p q name x placed linked (All-head (IsPlacedThere p) name names all) is e))
      (of_names given p texts (k + 1) names placed linked (All-tail (IsPlacedThere p) name names all))

  of_sandbox : (given : List Place) (p : Placement) (s : Option Sandbox) → IsPlacedPart p → IsLinked given number p q → All (BeginsUnit parts) (entries_in number (bases_of given number p) s p.names)
  of_sandbox given p None placed linked = All-nil (BeginsUnit parts)
  of_sandbox given p (Some s) placed linked = of_names given p _ 0 p.names placed linked placed.names

-- ---- those of all

pub labels_begin_units : (given : List Place) (number : ℕ) (source : List Sandbox) (placed : List Placement) (parts all : List Part) → All IsPlacedPart placed → AreLinkedFrom given number placed parts
    → ((k n : ℕ) (q : Part) → n ≡ number + k → slice_get parts k ≡ Some q → slice_get all n ≡ Some q) → All (BeginsUnit all) (map_from given number source placed)
labels_begin_units given number source [] parts all right linked there = All-nil (BeginsUnit all)
labels_begin_units given number source (p ∷ placed) [] all right linked there = absurd linked
labels_begin_units given number source (p ∷ placed) (q ∷ parts) all right linked there =
    All-append (BeginsUnit all) _ _
    (of_sandbox all number q (there 0 number q (omega arith) refl) given p (slice_get source number) (All-head IsPlacedPart p placed right) linked.0)
    (labels_begin_units given (number + 1) source placed parts all (All-tail IsPlacedPart p placed right) linked.1 (λ k n r at is. there (suc k) n r (omega (arith, at)) is))
