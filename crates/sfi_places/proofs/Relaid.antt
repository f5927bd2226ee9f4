-- Layouts and clean images at another place, and beside one another.
use Rattle.std.proofs.Common.{suc, List, [], ◌∷◌, ◌++◌, get_or, sym, subst, subst₂, arith, ◌≡◌, ℕ, ◌+◌, ◌*◌, ◌%◌, ◌<◌, ◌≤◌, length, map, refl, ◌∙◌}
use Rattle.std.specs.List.{All, AllPairs}
use Rattle.std.proofs.lemmas.Grind.{flat_map-append}
use Rattle.std.proofs.lemmas.List.Elements.{All-head, All-tail, All-append, All-map}
use Rattle.std.proofs.lemmas.List.Kept.{AllPairs-cons}
use Rattle.sfi_image.specs.declared.span.Span.{Span}
use Rattle.sfi_image.specs.Spelling.{Part, fields_of, AreApart, AreClear, zone_ends, zone_ends_of, spans, spans_of, IsWord, code_region}
use Rattle.sfi_image.proofs.ClearZones.{clear_of_both, clear_of_front, both_clear}
use Rattle.sfi_image.specs.Parts.{IsRightPart, IsBundleStart, IsCodeRegion}
use Rattle.sfi_safe_runs.specs.Safety.{RunsSafely}
use Rattle.sfi_safe_runs.specs.Calling.{CallsTyped}
use Rattle.sfi_safety.proofs.Safe.{all_safe, all_call}
use Rattle.sfi_places.specs.Beside.{BesideIsAsOne, BesideByPairs}
use Rattle.std.proofs.lemmas.List.{length-map}
use Rattle.sfi_formats.specs.Limits.{gates_most, service_most}
use Rattle.sfi_image.specs.declared.part.Gate.{Gate}
use Rattle.sfi_image.proofs.Facts.{whole_bundles}
use Rattle.sfi_rules.specs.declared.finding.Finding.{Finding}
use Rattle.sfi_rules.specs.Findings.{AreFindings, AreFindingsFrom}
use Rattle.sfi_safety.proofs.Places.{nothing_before}
use Rattle.sfi_places.specs.Moving.{moved_address, moved_gate, moved, MovedIsRight, Bases, moved_all, AcceptedMoves}
use Rattle.sfi_places.proofs.Placeless.{clean_is_placeless}

-- ==== Two clean images that lie apart are as one.

both : (xs ys : List Span) → AllPairs AreApart xs → AllPairs AreApart ys → All (λ (s : Span). All (λ (t : Span). AreApart s t) ys) xs → AllPairs AreApart (xs ++ ys)
both [] ys a b cross = b
both (x ∷ xs) ys a b cross =
    AllPairs-cons AreApart x (xs ++ ys)
    (All-append (AreApart x) xs ys (λ k d below. a 0 (suc k) d (omega arith) (omega (arith, below))) (All-head (λ (s : Span). All (λ (t : Span). AreApart s t) ys) x xs cross))
    (both xs ys (λ i j d less below. a (suc i) (suc j) d (omega (arith, less)) (omega (arith, below))) b (All-tail (λ (s : Span). All (λ (t : Span). AreApart s t) ys) x xs cross))

spans_of_both : (ps qs : List Part) → spans (ps ++ qs) ≡ spans ps ++ spans qs
spans_of_both ps qs = flat_map-append (λ (p : Part). spans_of (fields_of p)) ps qs

pub beside_is_as_one : BesideIsAsOne
beside_is_as_one ps qs a b cross = (
  record {
    each = All-append IsRightPart ps qs a.layout.right.each b.layout.right.each;
    apart = subst (λ (l : List Span). AllPairs AreApart l) (sym (spans_of_both ps qs)) (both (spans ps) (spans qs) a.layout.right.apart b.layout.right.apart cross.apart);
    clear = subst₂ AreClear (sym (flat_map-append (λ (p : Part). zone_ends_of (fields_of p)) ps qs)) (sym (spans_of_both ps qs))
        (both_clear (zone_ends ps ++ zone_ends qs) (spans ps) (spans qs)
        (clear_of_both (zone_ends ps) (zone_ends qs) (spans ps) a.layout.right.clear cross.other_clear)
        (clear_of_both (zone_ends ps) (zone_ends qs) (spans qs) cross.clear b.layout.right.clear));
  },
  record { each = All-append RunsSafely ps qs (all_safe ps a).each (all_safe qs b).each },
  record { each = All-append CallsTyped ps qs (all_call ps a).each (all_call qs b).each },
)

-- the spans of the second lie apart from those of one of the first
one_with_all : (p : Part) (qs : List Part) → All (λ (q : Part). All (λ (s : Span). All (AreApart s) (spans (q ∷ []))) (spans (p ∷ []))) qs → All (λ (s : Span). All (AreApart s) (spans qs)) (spans_of (fields_of p))
one_with_all p [] h = λ k d below. λ i e less. absurd (omega arith)
one_with_all p (q ∷ qs) h = λ k d below.
    All-append (AreApart (get_or (spans_of (fields_of p)) k d)) (spans_of (fields_of q)) (spans qs)
    (All-head (λ (o : Part). All (λ (s : Span). All (AreApart s) (spans (o ∷ []))) (spans (p ∷ []))) q qs h k d below)
    (one_with_all p qs (All-tail (λ (o : Part). All (λ (s : Span). All (AreApart s) (spans (o ∷ []))) (spans (p ∷ []))) q qs h) k d below)

all_with_all : (ps qs : List Part) → All (λ (p : Part). All (λ (q : Part). All (λ (s : Span). All (AreApart s) (spans (q ∷ []))) (spans (p ∷ []))) qs) ps → All (λ (s : Span). All (AreApart s) (spans qs)) (spans ps)
all_with_all [] qs h = λ k d below. absurd (omega arith)
all_with_all (p ∷ ps) qs h =
    let P : Part → Type 0 = λ (o : Part). All (λ (q : Part). All (λ (s : Span). All (AreApart s) (spans (q ∷ []))) (spans (o ∷ []))) qs in
    All-append (λ (s : Span). All (AreApart s) (spans qs)) (spans_of (fields_of p)) (spans ps)
    (one_with_all p qs (All-head P p ps h)) (all_with_all ps qs (All-tail P p ps h))

-- the spans of the second lie clear of the zones of one of the first
one_clear : (p : Part) (qs : List Part) → All (λ (q : Part). AreClear (zone_ends (p ∷ [])) (spans (q ∷ []))) qs → AreClear (zone_ends_of (fields_of p)) (spans qs)
one_clear p [] h = λ k d below. absurd (omega arith)
one_clear p (q ∷ qs) h =
    let P : Part → Type 0 = λ (o : Part). AreClear (zone_ends (p ∷ [])) (spans (o ∷ [])) in
    both_clear (zone_ends_of (fields_of p)) (spans_of (fields_of q)) (spans qs)
    (clear_of_front (zone_ends_of (fields_of p)) [] (spans (q ∷ [])) (All-head P q qs h)) (one_clear p qs (All-tail P q qs h))

all_clear : (ps qs : List Part) → All (λ (p : Part). All (λ (q : Part). AreClear (zone_ends (p ∷ [])) (spans (q ∷ []))) qs) ps → AreClear (zone_ends ps) (spans qs)
all_clear [] qs h = λ k d below. λ i e less. absurd (omega arith)
all_clear (p ∷ ps) qs h =
    let P : Part → Type 0 = λ (o : Part). All (λ (q : Part). AreClear (zone_ends (o ∷ [])) (spans (q ∷ []))) qs in
    clear_of_both (zone_ends_of (fields_of p)) (zone_ends ps) (spans qs) (one_clear p qs (All-head P p ps h)) (all_clear ps qs (All-tail P p ps h))

pub beside_by_pairs : BesideByPairs
beside_by_pairs ps qs h = record {
  apart = all_with_all ps qs (λ k d lt i e less. (h k d lt i e less).apart);
  clear = all_clear ps qs (λ k d lt i e less. (h k d lt i e less).clear);
  other_clear = all_clear qs ps (λ i e less k d lt. (h k d lt i e less).other_clear);
}

-- ==== The layout's tests at another place, and an image there.

module _ (code data_at : ℕ) (p : Part) (right : IsRightPart p) (address : IsWord code) (region : IsCodeRegion p.format code (length p.code)) where
  even : code % 16 ≡ 0
  even = let w = whole_bundles p.format code (length p.code) address region in let e : code ≡ 16 * w.1 = w.3 in omega arith

  even_here : p.code_base % 16 ≡ 0
  even_here = let w = whole_bundles p.format p.code_base (length p.code) right.code_base right.code_placed in let e : p.code_base ≡ 16 * w.1 = w.3 in omega arith

  start_moves : (a : ℕ) → IsBundleStart (code_region p) a → IsBundleStart (code_region (moved code data_at p)) (moved_address p.code_base code a)
  start_moves a start =
      let low : p.code_base ≤ a = start.held.0 in
      let high : a < p.code_base + length p.code = start.held.1 in
      let on : a % 16 ≡ 0 = start.aligned in
      let to = even in
      let from = even_here in
      record { held = (omega arith, omega arith); aligned = omega arith }

  ascending : (gs : List Gate) → All (λ (g : Gate). IsBundleStart (code_region p) g.address) gs → AllPairs (λ (g h : Gate). g.address < h.address) gs → AllPairs (λ (g h : Gate). g.address < h.address) (map (moved_gate p.code_base code) gs)
  ascending [] starts pairs = pairs
  ascending (g ∷ gs) starts pairs =
      AllPairs-cons (λ (g h : Gate). g.address < h.address) (moved_gate p.code_base code g) (map (moved_gate p.code_base code) gs)
      (All-map (λ (h : Gate). moved_address p.code_base code g.address < h.address) (moved_gate p.code_base code) gs
      (λ k d below.
      let first : p.code_base ≤ g.address = (All-head (λ (g : Gate). IsBundleStart (code_region p) g.address) g gs starts).held.0 in
      let less = pairs 0 (suc k) d (omega arith) (omega (arith, below)) in
      omega (arith, less)))
      (ascending gs (All-tail (λ (g : Gate). IsBundleStart (code_region p) g.address) g gs starts) (λ i j d less below. pairs (suc i) (suc j) d (omega (arith, less)) (omega (arith, below))))

pub moved_is_right : MovedIsRight
moved_is_right code data_at p right address region data_region one_bit room zone_room = record {
  code_base = address;
  code_placed = region;
  data_placed = data_region;
  one_bit = one_bit;
  guard_room = room;
  zone_room = zone_room;
  start = start_moves code data_at p right address region p.start right.start;
  gate_count = subst (λ (n : ℕ). n ≤ gates_most) (sym (length-map p.gates (moved_gate p.code_base code))) right.gate_count;
  init_len = right.init_len;
  gates = record {
    starts = All-map (λ (g : Gate). IsBundleStart (code_region (moved code data_at p)) g.address) (moved_gate p.code_base code) p.gates (λ k d below. start_moves code data_at p right address region _ (right.gates.starts k d below));
    services = All-map (λ (g : Gate). g.service ≤ service_most) (moved_gate p.code_base code) p.gates right.gates.services;
    ascending = ascending code data_at p right address region p.gates right.gates.starts right.gates.ascending;
  };
}

-- ---- an image

each_moves : (sandbox : ℕ) (bases : List Bases) (ps : List Part) (found : List Finding) → All IsRightPart ps → All IsRightPart (moved_all bases ps) → found ≡ [] → AreFindingsFrom sandbox ps found → AreFindingsFrom sandbox (moved_all bases ps) []
each_moves sandbox [] ps found right right' e h = subst (λ (l : List Finding). AreFindingsFrom sandbox ps l) e h
each_moves sandbox (b ∷ bs) [] found right right' e h = refl
each_moves sandbox (b ∷ bs) (p ∷ ps) found right right' e h =
    let both = nothing_before h.0 h.1 (sym h.4 ∙ e) in (
      [],
      [],
      clean_is_placeless sandbox b.code b.data_at p (All-head IsRightPart p ps right) (All-head IsRightPart (moved b.code b.data_at p) (moved_all bs ps) right') (subst (λ (l : List Finding). AreFindings sandbox p l) both.0 h.2),
      each_moves (sandbox + 1) bs ps h.1 (All-tail IsRightPart p ps right) (All-tail IsRightPart (moved b.code b.data_at p) (moved_all bs ps) right') both.1 h.3,
      refl,
    )

pub accepted_moves : AcceptedMoves
accepted_moves bytes ps bases accepted layout = record {
  image = record { bytes_are = refl; layout = layout };
  none_found = each_moves 0 bases ps [] accepted.image.layout.right.each layout.right.each refl accepted.none_found;
}
