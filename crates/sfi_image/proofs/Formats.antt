-- What holds of each format, and of a right layout in bundles in the second too.
use Rattle.sfi_image.specs.declared.part.SandboxPart.{SandboxPart}
use Rattle.sfi_formats.proofs.Formats.{length_of_magic}
use Rattle.sfi_formats.proofs.Facts.{limits_are_small}
use Rattle.sfi_formats.specs.Formats.{has_words}
use Rattle.sfi_image.specs.Numbers.{in_format, all_in_format}
use Rattle.sfi_image.proofs.Prelude.{◌≡◌, ℕ, ◌+◌, ◌^◌, ◌≤◌, false, List, [], ◌∷◌, ◌++◌, length, get_or, take, refl, ap, ◌∙◌, arith, length-append, Format, Sfi1, Sfi2, Sfiw, Sfis, magic, code_most, data_most, Part, view, views, format_of, AreOf, All-map, subst, All, AllPairs, length-map, Span, fields_of, AreApart, spans_of, spans, IsRightPart, IsRightLayout, AreClear, zone_ends, All-nil, sym}

-- ==== What holds of each format, and of parts of one.

-- no code region is larger than this
pub code_at_most : (f : Format) → code_most f ≤ 2 ^ 24
code_at_most f = (limits_are_small f).0

-- no data region is larger than this
pub data_at_most : (f : Format) → data_most f ≤ 2 ^ 30
data_at_most f = (limits_are_small f).1

-- the second format's limits are the largest of code in bundles
within_second : (f : Format) → has_words f ≡ false → (code_most f ≤ code_most Sfi2) × (data_most f ≤ data_most Sfi2)
within_second Sfi1 e = (omega arith, omega arith)
within_second Sfi2 e = (omega arith, omega arith)
within_second Sfiw e = absurd cc
within_second Sfis e = absurd cc

-- a magic is that of one format
pub one_magic : (f g : Format) → magic f ≡ magic g → f ≡ g
unfolding magic
one_magic Sfi1 Sfi1 e = refl
one_magic Sfi1 Sfi2 e = absurd (let last : 49 ≡ 50 = ap (λ (l : List ℕ). get_or l 3 0) e in omega arith)
one_magic Sfi2 Sfi1 e = absurd (let last : 50 ≡ 49 = ap (λ (l : List ℕ). get_or l 3 0) e in omega arith)
one_magic Sfi2 Sfi2 e = refl
one_magic Sfi1 Sfiw e = absurd (let last : 49 ≡ 87 = ap (λ (l : List ℕ). get_or l 3 0) e in omega arith)
one_magic Sfi2 Sfiw e = absurd (let last : 50 ≡ 87 = ap (λ (l : List ℕ). get_or l 3 0) e in omega arith)
one_magic Sfiw Sfi1 e = absurd (let last : 87 ≡ 49 = ap (λ (l : List ℕ). get_or l 3 0) e in omega arith)
one_magic Sfiw Sfi2 e = absurd (let last : 87 ≡ 50 = ap (λ (l : List ℕ). get_or l 3 0) e in omega arith)
one_magic Sfiw Sfiw e = refl
one_magic Sfi1 Sfis e = absurd (let last : 49 ≡ 83 = ap (λ (l : List ℕ). get_or l 3 0) e in omega arith)
one_magic Sfi2 Sfis e = absurd (let last : 50 ≡ 83 = ap (λ (l : List ℕ). get_or l 3 0) e in omega arith)
one_magic Sfiw Sfis e = absurd (let last : 87 ≡ 83 = ap (λ (l : List ℕ). get_or l 3 0) e in omega arith)
one_magic Sfis Sfi1 e = absurd (let last : 83 ≡ 49 = ap (λ (l : List ℕ). get_or l 3 0) e in omega arith)
one_magic Sfis Sfi2 e = absurd (let last : 83 ≡ 50 = ap (λ (l : List ℕ). get_or l 3 0) e in omega arith)
one_magic Sfis Sfiw e = absurd (let last : 83 ≡ 87 = ap (λ (l : List ℕ). get_or l 3 0) e in omega arith)
one_magic Sfis Sfis e = refl

pub length-magic : (f : Format) (r : List ℕ) → length (magic f ++ r) ≡ 4 + length r
length-magic f r = omega (arith, length-append (magic f) r, length_of_magic f)

pub take-magic : (f : Format) (r : List ℕ) → take 4 (magic f ++ r) ≡ magic f
unfolding magic
take-magic Sfi1 r = refl
take-magic Sfi2 r = refl
take-magic Sfiw r = refl
take-magic Sfis r = refl

-- ---- parts of one

-- the first one tells it
pub same_format : {format : Format} (ps : List Part) → AreOf format ps → 1 ≤ length ps → format_of ps ≡ format
same_format [] are some = absurd (omega arith)
same_format (p ∷ ps) are some = are 0 p (omega arith)

-- the parts that are seen in a format have it
pub views_have : (f : Format) (items : List SandboxPart) → AreOf f (views f items)
views_have f items = All-map (λ (p : Part). p.format ≡ f) (view f) items (λ k d below. refl)

pub views_of : (f : Format) (items : List SandboxPart) → AreOf (format_of (views f items)) (views f items)
views_of f [] = λ k d below. absurd (omega arith)
views_of f (x ∷ items) = views_have f (x ∷ items)

pub format_is : (f : Format) (items : List SandboxPart) → 1 ≤ length (views f items) → format_of (views f items) ≡ f
format_is f items = same_format (views f items) (views_have f items)

-- ==== A right layout of code in bundles is one in the second format too: its regions may be larger.

part_in_second : (p : Part) → has_words p.format ≡ false → IsRightPart p → IsRightPart (in_format Sfi2 p)
part_in_second p bundles right =
    let most = within_second p.format bundles in
    let small = right.code_placed.at_most in
    let data_small = right.data_placed.at_most in
    record {
      code_base = right.code_base;
      code_placed = record {
        power = right.code_placed.power;
        size_is = right.code_placed.size_is;
        at_least = right.code_placed.at_least;
        at_most = omega (arith, most.0);
        multiple = right.code_placed.multiple;
        base_is = right.code_placed.base_is;
      };
      data_placed = record {
        power = right.data_placed.power;
        size_is = right.data_placed.size_is;
        at_least = right.data_placed.at_least;
        at_most = omega (arith, most.1);
        multiple = right.data_placed.multiple;
        base_is = right.data_placed.base_is;
      };
      one_bit = λ one_step. absurd cc;
      guard_room = right.guard_room;
      zone_room = λ one_step. absurd cc;
      start = right.start;
      gate_count = right.gate_count;
      init_len = right.init_len;
      gates = right.gates;
    }

each_in_second : (ps : List Part) → All (λ p. has_words p.format ≡ false) ps → All IsRightPart ps → All IsRightPart (all_in_format Sfi2 ps)
each_in_second ps bundles right = All-map IsRightPart (in_format Sfi2) ps (λ k d lt. part_in_second (get_or ps k d) (bundles k d lt) (right k d lt))

have_second : (ps : List Part) → AreOf Sfi2 (all_in_format Sfi2 ps)
have_second ps = All-map (λ (p : Part). p.format ≡ Sfi2) (in_format Sfi2) ps (λ k d below. refl)

are_of_second : (ps : List Part) → AreOf (format_of (all_in_format Sfi2 ps)) (all_in_format Sfi2 ps)
are_of_second [] = λ k d below. absurd (omega arith)
are_of_second (p ∷ ps) = have_second (p ∷ ps)

-- spans know no format
same_spans : (ps : List Part) → spans ps ≡ spans (all_in_format Sfi2 ps)
same_spans [] = refl
same_spans (p ∷ ps) = ap (λ (l : List Span). spans_of (fields_of p) ++ l) (same_spans ps)

-- the second format has no zone at zero
no_zones : (ps : List Part) → zone_ends (all_in_format Sfi2 ps) ≡ []
no_zones [] = refl
no_zones (p ∷ ps) = no_zones ps

pub right_in_second : (ps : List Part) → has_words (format_of ps) ≡ false → IsRightLayout ps → IsRightLayout (all_in_format Sfi2 ps)
right_in_second ps bundles layout =
    let each : All (λ p. has_words p.format ≡ false) ps = λ k d lt. ap has_words (layout.one_format k d lt) ∙ bundles in
    let count : length (all_in_format Sfi2 ps) ≡ length ps = length-map ps (in_format Sfi2) in
    let low = layout.at_least_one in
    let high = layout.at_most in
    record {
      at_least_one = omega arith;
      at_most = omega arith;
      one_format = are_of_second ps;
      right = record {
        each = each_in_second ps each layout.right.each;
        apart = subst (λ (l : List Span). AllPairs AreApart l) (same_spans ps) layout.right.apart;
        clear = subst (λ (ends : List ℕ). AreClear ends (spans (all_in_format Sfi2 ps))) (sym (no_zones ps)) (λ k d lt. All-nil _);
      };
    }
