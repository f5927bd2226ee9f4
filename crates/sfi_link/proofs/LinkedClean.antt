-- What is made of a placed sandbox breaks no rule.
use Rattle.sfi_link.proofs.Prelude.{◌≡◌, ℕ, ◌+◌, ◌-◌, ◌*◌, ◌^◌, ◌<◌, ◌≤◌, List, [], ◌∷◌, length, Option, Some, None, refl, sym, ap, ◌∙◌, subst, arith, slice_get, All, repeat, All-head, All-tail, Format, Part, BundleSlot, PlacedName, size_of, slots_of, Placement, AreWhole, IsPlacedPart, IsPlacedThere, Place, bases_of, of_name, target_at, target_of, AreSlots, needed, part_with, IsLinked, AreLinkedFrom}
use Rattle.sfi_image.specs.Parts.{IsBundleStart}
use Rattle.sfi_rewrite.specs.declared.placed.PlacedName.TheVariants.{Gate, Code}
use Rattle.std.specs.Prelude.{◌++◌, ◌%◌, Bool, true, false, MatchBool}
use Rattle.std.proofs.lemmas.Bool.{true≢false, and_from, le-leb, lt-ltb, eq-eqb}
use Rattle.sfi_formats.specs.Formats.{has_words, unit}
use Rattle.sfi_formats.specs.declared.format.Format.TheVariants.{Sfiw, Sfis}
use Rattle.sfi_rewrite.specs.Placed.{AreOfItems, AreWholeIn}
use Rattle.sfi_rules.specs.Findings.{AreFindings, AreFindingsFrom}
use Rattle.sfi_rules.proofs.Facts.{of_bundles, of_words, same_bundle_starts}
use Rattle.std.proofs.lemmas.Option.{slice_get_within, get_or_from_slice_get}
use Rattle.sfi_rules.specs.Readings.{bundle_place}
use Rattle.sfi_rules.specs.declared.owed.Owed.TheVariants as kind
use Rattle.sfi_rewrite.proofs.WordLaid.{word_unit}
use Rattle.sfi_rewrite.proofs.WordLaying.{InWords, view, as_laid, word_aligned}
use Rattle.sfi_link.proofs.WordItems.{AreWordStarts, nothing_owed, items_right}
use Rattle.sfi_link.proofs.WordRegion.{IsFilled, filled_is_clean}
use Rattle.sfi_link.proofs.CleanPlaces.{AreStarts, some_same}
use Rattle.sfi_link.proofs.Bytes.{bundle_stub}
use Rattle.sfi_link.proofs.Region.{IsClosed, closed_is_clean}
use Rattle.sfi_link.proofs.Filled.{filled}
use Rattle.sfi_link.proofs.Parts.{well_placed, sixteens, listed_at, listed_only}
use Rattle.sfi_link.proofs.OneLinking.{code_length}

-- ---- names

-- an address that a place among the names gives is that of a name there
of_place : (f : PlacedName → Option ℕ) (o : Option PlacedName) (a : ℕ) → of_name f o ≡ Some a → (n : PlacedName) × (o ≡ Some n) × (f n ≡ Some a)
of_place f None a e = cc
of_place f (Some n) a e = (n, refl, e)

-- a unit of code in bundles is a bundle, and each bundle holds whole expansions
bundle_unit : (f : Format) → has_words f ≡ false → unit f ≡ 16
bundle_unit Sfiw e = absurd (true≢false e)
bundle_unit Sfis e = absurd (true≢false e)
bundle_unit _ e = refl

whole_in : (f : Format) (count : ℕ) (bundles : List (List BundleSlot)) (w : Bool) → has_words f ≡ w → AreWholeIn f count bundles → MatchBool w (AreOfItems f count (slots_of bundles)) (All (AreWhole f count) bundles)
whole_in f count bundles w e whole = subst (λ (b : Bool). MatchBool b (AreOfItems f count (slots_of bundles)) (All (AreWhole f count) bundles)) e whole

-- the unit divides a bundle, and so an address whose offset from a bundle start it divides
after_bundle : (f : Format) (start offset to : ℕ) → to ≡ start + offset → start % 16 ≡ 0 → offset % unit f ≡ 0 → to % unit f ≡ 0
after_bundle Sfiw start offset to e whole even = omega arith
after_bundle Sfis start offset to e whole even = omega arith
after_bundle _ start offset to e whole even = omega arith

zero_even : (f : Format) → 0 % unit f ≡ 0
zero_even Sfiw = refl
zero_even Sfis = refl
zero_even _ = refl

-- an address of the code at which the sandbox may be entered
record IsStart (f : Format) (base size to : ℕ) : Type 0 where
  from : base ≤ to
  below : to < base + size
  aligned : to % unit f ≡ 0
  small : to < 2 ^ 32

-- the target of a jump to a name is one
target_starts : (given : List Place) → (number : ℕ) (p : Placement) (code : List ℕ) → IsLinked given number p (part_with given number p code) → (n : PlacedName) → IsPlacedThere p n → (to : ℕ) → target_of (bases_of given number p) n ≡ Some to
    → IsStart p.format (bases_of given number p).code (length code) to
target_starts given number p code linked (Gate k) there to e =
    let is = some_same ((bases_of given number p).code + 16 * k) to e in
    let well = well_placed p (length code) _ linked.lies in
    record { from = omega arith; below = omega arith; aligned = after_bundle p.format to 0 to (omega arith) (omega arith) (zero_even p.format); small = omega arith }
target_starts given number p code linked (Code offset) there to e =
    let is = some_same ((bases_of given number p).start + offset) to e in
    let well = well_placed p (length code) _ linked.lies in
    let within = there.1 in
    record { from = omega arith; below = omega arith; aligned = after_bundle p.format (bases_of given number p).start offset to (omega arith) (omega arith) there.0; small = omega arith }
target_starts given number p code linked _ there to e = cc

name_starts : (given : List Place) → (number : ℕ) (p : Placement) (code : List ℕ) → IsPlacedPart p → IsLinked given number p (part_with given number p code) → (place to : ℕ) → target_at (bases_of given number p) p.names place ≡ Some to
    → IsStart p.format (bases_of given number p).code (length code) to
name_starts given number p code placed linked place to e =
    let found = of_place (target_of (bases_of given number p)) (slice_get p.names place) to e in
    let within = slice_get_within p.names place found.0 found.1 in
    let there : IsPlacedThere p found.0 = subst (IsPlacedThere p) (get_or_from_slice_get p.names place found.0 found.0 found.1) (placed.names place found.0 within) in
    target_starts given number p code linked found.0 there to found.2

are_starts : (given : List Place) → (number : ℕ) (p : Placement) (code : List ℕ) → has_words p.format ≡ false → IsPlacedPart p → IsLinked given number p (part_with given number p code) → (sandbox : ℕ)
    → AreStarts (bundle_place sandbox (part_with given number p code) 0) (bases_of given number p) p.names
are_starts given number p code bundled placed linked sandbox place to e =
    let s = name_starts given number p code placed linked place to e in
    let start : IsBundleStart (record { base = (bases_of given number p).code; size = length code }) to = record { held = (s.from, s.below); aligned = ap (λ n. to % n) (sym (bundle_unit p.format bundled)) ∙ s.aligned } in
    ((same_bundle_starts (bundle_place sandbox (part_with given number p code) 0) to).1 start, s.small)

-- ---- a sandbox

closed : (given : List Place) → (number : ℕ) (p : Placement) (code : List ℕ) → has_words p.format ≡ false → IsPlacedPart p → IsLinked given number p (part_with given number p code)
    → (full : List (List BundleSlot)) × IsClosed (part_with given number p code) (bases_of given number p) p.names (length p.gates) full × ((bases_of given number p).start + 16 * length full ≤ 2 ^ 32)
closed given number p code bundled placed linked =
    let made = linked.code in
    let end = (well_placed p (length code) _ linked.lies).end in
    let counted = sixteens p.format (needed p) (length code) made.size.has_room in
    let sixteen = counted.1 in
    let long = code_length given number p code made in
    let n : ℕ = counted.0 - length p.gates in
    let whole = filled p.format (length p.names) p.bundles placed.bundles (whole_in p.format (length p.names) p.bundles false bundled placed.whole) made.fill n (omega arith) (omega arith) in
    let at = bases_of given number p in (
      whole.full,
      record {
        bundled = bundled;
        starts = are_starts given number p code bundled placed linked;
        start = refl;
        room = omega arith;
        bytes = made.bytes;
        code = made.code_is ∙ ap (λ l. repeat (length p.gates) l ++ made.bytes) (bundle_stub p.format bundled);
        slots = subst (λ l. AreSlots at p.names at.start l made.bytes) {y = slots_of whole.full} (sym whole.slots) made.slots;
        all = whole.all;
        some = omega arith;
        ends = λ k h. whole.ends k (omega arith);
        listed = λ k. (listed_only at.code p.gates k, listed_at at.code p.gates k);
      },
      omega arith,
    )

bundles_clean : (given : List Place) (number : ℕ) (p : Placement) (code : List ℕ) → has_words p.format ≡ false → IsPlacedPart p → IsLinked given number p (part_with given number p code) → AreFindings number (part_with given number p code) []
bundles_clean given number p code bundled placed linked =
    let c = closed given number p code bundled placed linked in
    of_bundles number (part_with given number p code) [] bundled (closed_is_clean number (part_with given number p code) (bases_of given number p) p.names (length p.gates) c.0 c.1 c.2)

-- ---- a sandbox of code in words

are_word_starts : (given : List Place) → (number : ℕ) (p : Placement) (code : List ℕ) → has_words p.format ≡ true → IsPlacedPart p → IsLinked given number p (part_with given number p code) → AreWordStarts (bases_of given number p).code (length code) (bases_of given number p) p.names
are_word_starts given number p code words placed linked place to e =
    let s = name_starts given number p code placed linked place to e in
    let aligned : to % 4 ≡ 0 = ap (λ n. to % n) (sym (word_unit p.format words)) ∙ s.aligned in
    (and_from _ _ (and_from _ _ (le-leb (bases_of given number p).code to s.from) (lt-ltb to ((bases_of given number p).code + length code) s.below)) (eq-eqb (to % 4) 0 aligned), s.small)

words_filled : (given : List Place) → (number : ℕ) (p : Placement) (code : List ℕ) → has_words p.format ≡ true → IsPlacedPart p → IsLinked given number p (part_with given number p code) → (of : AreOfItems p.format (length p.names) (slots_of p.bundles))
    → IsFilled (part_with given number p code) (bases_of given number p) p.names (length p.gates) of.laid.0 (slots_of p.bundles)
words_filled given number p code words placed linked of =
    let made = linked.code in
    let end = (well_placed p (length code) _ linked.lies).end in
    let counted = sixteens p.format (needed p) (length code) made.size.has_room in
    let at = bases_of given number p in
    let laid = of.laid.2 in
    let in_words : InWords of.laid.0 (slots_of p.bundles) = subst (λ v. InWords of.laid.0 v) (sym laid) (view of.laid.0) in
    let aligned : size_of (slots_of p.bundles) % 4 ≡ 0 = ap (λ v. size_of v % 4) laid ∙ word_aligned of.laid.0 in
    let long = code_length given number p code made in
    record {
      format = words;
      start = refl;
      bytes = made.bytes;
      fill = made.fill;
      code = made.code_is;
      are = made.slots;
      in_words = in_words;
      aligned = aligned;
      some = omega arith;
      bundles = counted.0;
      size = counted.1;
      right = items_right p.format at.code (length code) at p.names (are_word_starts given number p code words placed linked) (length p.names) at.start kind.Nothing of.items of.laid.0 (slots_of p.bundles) (omega arith) words of.permitted of.bodies
          (nothing_owed of.items) of.laid.1 (as_laid of.laid.0 (slots_of p.bundles) in_words);
      listed = listed_at at.code p.gates;
    }

words_clean : (given : List Place) (number : ℕ) (p : Placement) (code : List ℕ) → has_words p.format ≡ true → IsPlacedPart p → IsLinked given number p (part_with given number p code) → AreFindings number (part_with given number p code) []
words_clean given number p code has placed linked =
    let of = whole_in p.format (length p.names) p.bundles true has placed.whole in
    of_words number (part_with given number p code) [] has (filled_is_clean number (part_with given number p code) (bases_of given number p) p.names (length p.gates) of.laid.0 (slots_of p.bundles) (words_filled given number p code has placed linked of))

-- ---- either

pub linked_is_clean : (given : List Place) (number : ℕ) (p : Placement) (q : Part) → IsPlacedPart p → IsLinked given number p q → AreFindings number q []
linked_is_clean given number p q placed linked =
    subst (λ (r : Part). AreFindings number r []) (sym linked.is) (by (has_words p.format) refl (subst (IsLinked given number p) linked.is linked))
  where
    by : (w : Bool) → has_words p.format ≡ w → IsLinked given number p (part_with given number p q.code) → AreFindings number (part_with given number p q.code) []
    by true e again = words_clean given number p q.code e placed again
    by false e again = bundles_clean given number p q.code e placed again

pub all_are_clean : (given : List Place) (number : ℕ) (placed : List Placement) (parts : List Part) → All IsPlacedPart placed → AreLinkedFrom given number placed parts → AreFindingsFrom number parts []
all_are_clean given number [] parts all linked = subst (λ qs. AreFindingsFrom number qs []) (sym linked) refl
all_are_clean given number (p ∷ placed) [] all linked = absurd linked
all_are_clean given number (p ∷ placed) (q ∷ parts) all linked =
    ([], [], linked_is_clean given number p q (All-head IsPlacedPart p placed all) linked.0, all_are_clean given (number + 1) placed parts (All-tail IsPlacedPart p placed all) linked.1, refl)
