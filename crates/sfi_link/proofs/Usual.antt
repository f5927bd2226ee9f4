-- Sandboxes at their usual places never meet, so none has a fault of its place.
use Rattle.sfi_link.proofs.Prelude.{◌≡◌, ℕ, ◌+◌, ◌-◌, ◌*◌, ◌^◌, ◌<◌, ◌≤◌, Vec, Global, Result, Err, Bool, true, false, List, [], ◌∷◌, ◌++◌, length, get_or, refl, sym, ap, ◌∙◌, subst, arith, inl, inr, All, AllPairs, All-nil, All-cons, All-head, All-tail, All-append, Format, Span, Part, AreApart, AreClear, spans, with_guards, BundleSlot, Wide, Short, Jump, PlacedName, slot_size, Placement, IsPlacedPart, IsPlaced, Bases, LinkFault, Place, IsRightPlace, spans_at, ends_at, LieApart, needed, HasRoom, IsCodeSize, IsLinked, MayLie, HasSlotFault, IsSlotFault, HasPartFault, IsPartFault, IsLinkFault, Links}
use Rattle.std.specs.Prelude.{◌≢◌}
use Rattle.std.proofs.lemmas.Bool.{false≢true}
use Rattle.sfi_formats.specs.Formats.{has_single_mask}
use Rattle.sfi_formats.specs.Places.{usual}
use Rattle.sfi_formats.proofs.Facts.{limits_are_small, limits_have_room}
use Rattle.sfi_image.proofs.Tests.{pairs_of_two}
use Rattle.sfi_rewrite.specs.Placed.{AreOf, format_of}
use Rattle.sfi_link.specs.Linked.{IsLinkedImage, HaveUsualPlaces}
use Rattle.sfi_link.specs.Laws.{UsualPlacesAreFree}
use Rattle.sfi_link.specs.declared.fault.LinkFault.TheVariants as fault
use Rattle.sfi_link.proofs.Linking.{none_lies}
use Rattle.sfi_link.proofs.OneLinking.{own_spans}
use Rattle.sfi_link.proofs.SomeLinking.{size_or_none}
use Rattle.sfi_link.proofs.UsualSingle.{region_at, odd, below_apart, AreSingle, single_free, still_single}

-- ---- a sandbox at its usual place, where masks have two steps

-- where sandbox `number` lies, where masks have two steps
abbrev stepped : ℕ → Place
stepped number = record { code_base = 0x01000000 * (number + 1); data_base = 0x01000000 * (number + 1) + 0x00800000 }

usual_stepped : (f : Format) (number : ℕ) → has_single_mask f ≡ false → usual f number ≡ stepped number
usual_stepped f number is = rw is refl

stepped_right : (p : Placement) (number size : ℕ) → has_single_mask p.format ≡ false → number < 16 → IsPlacedPart p → HasRoom p.format (needed p) size → IsRightPlace p size (stepped number)
stepped_right p number size two few right room =
    let bound = (limits_are_small p.format).2 in
    let wider = limits_have_room p.format in
    let sized = right.data_size in
    let data_most = sized.at_most in
    let data_least = sized.at_least in
    record {
      word = omega arith;
      code = record {
        power = room.power;
        size_is = room.size_is;
        at_least = room.at_least;
        at_most = omega (arith, room.at_most, wider.1);
        multiple = 2 ^ (24 - room.power) * (number + 1);
        base_is = region_at size room.power 24 (number + 1) room.size_is (omega arith);
      };
      «data» = record {
        power = sized.power;
        size_is = sized.size_is;
        at_least = data_least;
        at_most = omega (arith, data_most, wider.3);
        multiple = 2 ^ (23 - sized.power) * (2 * number + 3);
        base_is = odd number ∙ region_at p.data_size sized.power 23 (2 * number + 3) sized.size_is (omega arith);
      };
      one_bit = λ one. absurd (false≢true (sym two ∙ one));
      guard_room = record { below = omega arith; above = omega arith };
      zone_room = λ one. absurd (false≢true (sym two ∙ one));
    }

-- the span ends before the addresses of the sandbox of that number
abbrev IsBelow : ℕ → Span → Type 0
IsBelow number s = s.base + s.size ≤ 0x01000000 * (number + 1)

-- where masks have two steps, there are no zones at zero
no_end : (p : Placement) (ends : List ℕ) → has_single_mask p.format ≡ false → ends ≡ [] → ends ++ ends_at p ≡ []
no_end p ends two none = let own : ends_at p ≡ [] = rw two refl in (λ i. none i ++ own i)

-- what is known of the sandboxes before that one
abbrev AreStepped : ℕ → List ℕ → List Span → Type 0
AreStepped number ends before = (ends ≡ []) × All (IsBelow number) before

-- beside those before it the sandbox has room
stepped_free : (p : Placement) (number size : ℕ) (ends : List ℕ) (before : List Span) → has_single_mask p.format ≡ false → number < 16 → IsPlacedPart p → IsCodeSize p.format (needed p) size → AreStepped number ends before → LieApart ends before
    → MayLie [] number p ends before
stepped_free p number size ends before two few right sized below lie =
    let room = sized.has_room in
    let bound = (limits_are_small p.format).2 in
    let place = usual_stepped p.format number two in
    let code : Span = record { base = 0x01000000 * (number + 1); size = size } in
    let guarded : Span = with_guards (record { base = 0x01000000 * (number + 1) + 0x00800000; size = p.data_size }) in
    let pairs = pairs_of_two before code guarded lie.apart
    (λ k d lt. below_apart (get_or before k d) code (let h = below.1 k d lt in omega arith))
    (λ k d lt. below_apart (get_or before k d) guarded (let h = below.1 k d lt in omega arith))
    (below_apart code guarded (omega arith)) in
    record {
      size = size;
      least = sized;
      right = subst (IsRightPlace p size) (sym place) (stepped_right p number size two few right room);
      apart = record {
        apart = subst (λ (x : Place). AllPairs AreApart (before ++ spans_at p size x)) (sym place) pairs;
        clear = subst (λ (es : List ℕ). AreClear es (before ++ spans_at p size (usual p.format number))) (sym (no_end p ends two below.0)) (λ k d lt. All-nil _);
      };
    }

-- and its spans end before the next one's addresses
still_stepped : (p : Placement) (number : ℕ) (q : Part) (ends : List ℕ) (before : List Span) → has_single_mask p.format ≡ false → number < 16 → IsPlacedPart p → IsLinked [] number p q → AreStepped number ends before
    → AreStepped (number + 1) (ends ++ ends_at p) (before ++ spans (q ∷ []))
still_stepped p number q ends before two few right linked below =
    let bound = (limits_are_small p.format).2 in
    let size = length q.code in
    let room = linked.code.size.has_room.at_most in
    let sized = right.data_size.at_most in
    let code : Span = record { base = 0x01000000 * (number + 1); size = size } in
    let guarded : Span = with_guards (record { base = 0x01000000 * (number + 1) + 0x00800000; size = p.data_size }) in
    let own : All (IsBelow (number + 1)) (spans_at p size (stepped number)) =
    All-cons (IsBelow (number + 1)) code (guarded ∷ []) (omega arith) (All-cons (IsBelow (number + 1)) guarded [] (omega arith) (All-nil (IsBelow (number + 1)))) in (
      no_end p ends two below.0,
      All-append (IsBelow (number + 1)) before (spans (q ∷ [])) (λ k d lt. let h = below.1 k d lt in omega arith)
          (subst (All (IsBelow (number + 1))) (sym (own_spans [] number p q linked ∙ ap (spans_at p size) (usual_stepped p.format number two))) own),
    )

-- ---- faults

no_slot_place : (at : Bases) (names : List PlacedName) (here : ℕ) (s : BundleSlot) (k : ℕ) → HasSlotFault at names here s (fault.Place k) → ⊥
no_slot_place at names here (Wide i) k h = h
no_slot_place at names here (Short form) k h = h
no_slot_place at names here (Jump i name line) k (inl h) = let e = h.1 in cc
no_slot_place at names here (Jump i name line) k (inr h) = let e = h.3 in cc
no_slot_place at names here _ k h = let e = h.1 in cc

no_slots_place : (at : Bases) (names : List PlacedName) (here : ℕ) (slots : List BundleSlot) (k : ℕ) → IsSlotFault at names here slots (fault.Place k) → ⊥
no_slots_place at names here [] k h = h
no_slots_place at names here (s ∷ slots) k (inl h) = no_slot_place at names here s k h
no_slots_place at names here (s ∷ slots) k (inr (bytes, one, later)) = no_slots_place at names (here + slot_size s) slots k later

-- What is known of the sandboxes before the one of a number, and leaves it its usual place, leaves no one of
-- fewer than so many a fault of its place.
module _ (f : Format) (most : ℕ) (Known : ℕ → List ℕ → List Span → Type 0)
    (free : (p : Placement) (number size : ℕ) (ends : List ℕ) (before : List Span) → has_single_mask p.format ≡ has_single_mask f → number < most → IsPlacedPart p → IsCodeSize p.format (needed p) size → Known number ends before → LieApart ends before → MayLie [] number p ends before)
    (still : (p : Placement) (number : ℕ) (q : Part) (ends : List ℕ) (before : List Span) → has_single_mask p.format ≡ has_single_mask f → number < most → IsPlacedPart p → IsLinked [] number p q → Known number ends before → Known (number + 1) (ends ++ ends_at p) (before ++ spans (q ∷ []))) where
  no_part_place : (p : Placement) (number : ℕ) (ends : List ℕ) (before : List Span) (k : ℕ) → p.format ≡ f → number < most → IsPlacedPart p → Known number ends before → LieApart ends before → HasPartFault [] number p ends before (fault.Place k) → ⊥
  no_part_place p number ends before k one few right known lie (inl h) = let e = h.1 in cc
  no_part_place p number ends before k one few right known lie (inr (inl h)) =
      elim (size_or_none p.format (needed p)) [
        | inl sized ↦ h.1 (free p number sized.0 ends before (ap has_single_mask one) few right sized.1 known lie)
        | inr none ↦ h.0 none
      ]
  no_part_place p number ends before k one few right known lie (inr (inr h)) = no_slots_place _ _ _ _ k h.1

  no_place : (number : ℕ) (ends : List ℕ) (before : List Span) (placed : List Placement) (k : ℕ) → number + length placed ≤ most → AreOf f placed → All IsPlacedPart placed → Known number ends before → LieApart ends before
      → IsPartFault [] number ends before placed (fault.Place k) → ⊥
  no_place number ends before [] k few of right known lie h = h
  no_place number ends before (p ∷ placed) k few of right known lie (inl h) =
      no_part_place p number ends before k (All-head (λ (x : Placement). x.format ≡ f) p placed of) (omega arith) (All-head IsPlacedPart p placed right) known lie h
  no_place number ends before (p ∷ placed) k few of right known lie (inr (q, linked, beside, later)) =
      let one = ap has_single_mask (All-head (λ (x : Placement). x.format ≡ f) p placed of) in
      no_place (number + 1) (ends ++ ends_at p) (before ++ spans (q ∷ [])) placed k (omega arith) (All-tail (λ (x : Placement). x.format ≡ f) p placed of) (All-tail IsPlacedPart p placed right)
      (still p number q ends before one (omega arith) (All-head IsPlacedPart p placed right) linked known) beside later

none_free : (placed : List Placement) (k : ℕ) (b : Bool) → has_single_mask (format_of placed) ≡ b → IsPlaced placed → HaveUsualPlaces (format_of placed) (length placed) → length placed ≤ 16 → IsPartFault [] 0 [] [] placed (fault.Place k) → ⊥
none_free placed k true one is have few h =
    no_place (format_of placed) 11 AreSingle (λ p number size ends before same. single_free p number size ends before (same ∙ one)) (λ p number q ends before same. still_single p number q ends before (same ∙ one))
    0 [] [] placed k (omega (arith, have one)) is.one_format is.each (All-nil _, All-nil _) none_lies h
none_free placed k false two is have few h =
    no_place (format_of placed) 16 AreStepped (λ p number size ends before same. stepped_free p number size ends before (same ∙ two)) (λ p number q ends before same. still_stepped p number q ends before (same ∙ two))
    0 [] [] placed k (omega (arith, few)) is.one_format is.each (refl, All-nil _) none_lies h

pub usual_places_are_free : UsualPlacesAreFree
usual_places_are_free placed k is have (inl h) = let e = h.1 in cc
usual_places_are_free placed k is have (inr (inl h)) = omega (arith, h.1)
usual_places_are_free placed k is have (inr (inr h)) = none_free placed k (has_single_mask (format_of placed)) refl is have h.0 h.2

-- ---- answers

-- what links is no fault of a place, where none is given, and there is a usual one for each
pub never_place : (given : List Place) (placed : List Placement) (r : Result (Vec ℕ Global) LinkFault) → IsPlaced placed → Links (λ bytes. IsLinkedImage given placed bytes.items) (IsLinkFault given placed) r
    → given ≡ [] → HaveUsualPlaces (format_of placed) (length placed) → (k : ℕ) → r ≢ Err (fault.Place k)
never_place given placed r is links none have k e =
    usual_places_are_free placed k is have (subst (λ g. IsLinkFault g placed (fault.Place k)) none (subst (Links (λ bytes. IsLinkedImage given placed bytes.items) (IsLinkFault given placed)) e links))
