-- What a reader stands for, by what it reads next, a stretch of bundles too.
use Rattle.sfi_image.proofs.Prelude.{◌≡◌, ℕ, ◌+◌, ◌-◌, ◌*◌, ◌^◌, ◌<◌, ◌≤◌, List, [], ◌∷◌, length, drop, refl, sym, ap, ◌∙◌, subst, arith, All, AllPairs, length-map, All-append, All-head, All-tail, Format, Gate, Fields, Part, fields_of, AreApart, spans, spans_of, IsBounded, IsRightPart, ImagePrefix, want_of, IsLengthOf, AfterCount, InGates, InCode, InInit, Whole, LayoutReader, StandsFor, IsReader, MayTake, TakesLength, is_first, inr, suc, ◌%◌, ◌==◌, true, inl, cases_Bool, eqb-true, eq-eqb, Span, code_span, IsBundleStart, is_gate_of, IsLongestStretch, IsStretchLength, AreRest, count_below, first_or}
use Rattle.sfi_image.specs.declared.want.Stage.TheVariants as stage
use Rattle.sfi_image.specs.declared.want.Want.TheVariants as wants
use Rattle.sfi_image.proofs.Tests.{right_bounded}
use Rattle.sfi_image.proofs.Standing.{region, first_is, front_of, Region, none_before, rest_from}

-- ==== What a reader stands for, by what it reads next; and what its numbers are there.

by_fields : (r : LayoutReader) (x : ImagePrefix) → StandsFor r x → r.next ≡ stage.Fields → (format : Format) × (n : ℕ) × (ps : List Part) × StandsFor r (AfterCount format n ps)
by_fields r (AfterCount format n ps) h is = (format, n, ps, h)
by_fields r _ h is = let k = h.kept.0 in absurd cc

by_gates : (r : LayoutReader) (x : ImagePrefix) → StandsFor r x → r.next ≡ stage.Gate → (n : ℕ) × (ps : List Part) × (f : Fields) × (gs : List Gate) × StandsFor r (InGates n ps f gs)
by_gates r (InGates n ps f gs) h is = (n, ps, f, gs, h)
by_gates r _ h is = let k = h.kept.0 in absurd cc

pub by_code : (r : LayoutReader) (x : ImagePrefix) → StandsFor r x → r.next ≡ stage.Code → (n : ℕ) × (ps : List Part) × (f : Fields) × (gs : List Gate) × (code : List ℕ) × StandsFor r (InCode n ps f gs code)
by_code r (InCode n ps f gs code) h is = (n, ps, f, gs, code, h)
by_code r _ h is = let k = h.kept.0 in absurd cc

by_init : (r : LayoutReader) (x : ImagePrefix) → StandsFor r x → r.next ≡ stage.Init → (n : ℕ) × (ps : List Part) × (f : Fields) × (gs : List Gate) × (code : List ℕ) × (init : List ℕ) × StandsFor r (InInit n ps f gs code init)
by_init r (InInit n ps f gs code init) h is = (n, ps, f, gs, code, init, h)
by_init r _ h is = let k = h.kept.0 in absurd cc

-- ---- numbers

all_bounded : (ps : List Part) → All IsRightPart ps → All IsBounded (spans ps)
all_bounded [] each = λ k d h. absurd (omega arith)
all_bounded (p ∷ ps) each = All-append IsBounded (spans_of (fields_of p)) (spans ps) (right_bounded p (All-head IsRightPart p ps each)) (all_bounded ps (All-tail IsRightPart p ps each))

length_spans : (ps : List Part) → length (spans ps) ≡ 2 * length ps
length_spans [] = refl
length_spans (p ∷ ps) = omega (arith, length_spans ps)

-- before the fields of a sandbox
pub record FieldsNext (r : LayoutReader) : Type 0 where
  pub bounded : All IsBounded r.spans
  pub apart : AllPairs AreApart r.spans
  pub room : length r.spans + 2 ≤ 32
  pub more : r.begun < r.count
  pub few : r.count ≤ 16

pub fields_next : (r : LayoutReader) → IsReader r → r.next ≡ stage.Fields → FieldsNext r
fields_next r reader is =
    let x = front_of r stage.Fields reader is (λ e. absurd cc) in
    let at = by_fields r x.0 x.1 is in
    let right = at.3.right in
    let k = at.3.kept.1 in
    record {
      bounded = subst (All IsBounded) (sym k.spans) (all_bounded at.2 right.0.right.each);
      apart = subst (AllPairs AreApart) (sym k.spans) right.0.right.apart;
      room = omega (arith, ap length k.spans, length_spans at.2, right.0.at_most, right.1);
      more = omega (arith, k.begun, k.count, right.1);
      few = omega (arith, k.count, right.0.at_most);
    }

-- before a bundle
pub record CodeNext (r : LayoutReader) : Type 0 where
  pub inside : r.code_read + 16 ≤ r.fields.code_size
  pub address : r.fields.code_base + r.code_read < 2 ^ 32
  pub size : r.fields.code_size ≤ 2 ^ 24

pub code_next : (r : LayoutReader) → IsReader r → r.next ≡ stage.Code → CodeNext r
code_next r reader is =
    let x = front_of r stage.Code reader is (λ e. absurd cc) in
    let at = by_code r x.0 x.1 is in
    let f = at.2 in
    let right = at.5.right in
    let k = at.5.kept.1 in
    let reg = region at.1 f right.0.words right.0.passed in
    let even = right.2 in
    let less = right.3 in
    let size = reg.size_is in
    let size' : r.fields.code_size ≡ f.code_size = ap (λ (y : Fields). y.code_size) k.head.fields in
    let base' : r.fields.code_base ≡ f.code_base = ap (λ (y : Fields). y.code_base) k.head.fields in
    let read = k.code_read in
    record {
      inside = omega arith;
      address = omega (arith, reg.end);
      size = omega (arith, reg.code_size);
    }

-- before a gate
pub record GateNext (r : LayoutReader) : Type 0 where
  pub more : length r.gates < r.fields.gate_count
  pub few : r.fields.gate_count ≤ 64

pub gate_next : (r : LayoutReader) → IsReader r → r.next ≡ stage.Gate → GateNext r
gate_next r reader is =
    let x = front_of r stage.Gate reader is (λ e. absurd cc) in
    let at = by_gates r x.0 x.1 is in
    let right = at.4.right in
    let k = at.4.kept.1 in
    let reg = region at.1 at.2 right.0.words right.0.passed in
    let count' : r.fields.gate_count ≡ at.2.gate_count = ap (λ (y : Fields). y.gate_count) k.fields in
    record {
      more = omega (arith, ap length k.gates, length-map at.3 (λ (g : Gate). g.address), right.1);
      few = omega (arith, reg.gate_count);
    }

-- before first data bytes
pub record InitNext (r : LayoutReader) : Type 0 where
  pub less : r.init_read < r.fields.init_len
  pub few : r.fields.init_len ≤ 2 ^ 30

pub init_next : (r : LayoutReader) → IsReader r → r.next ≡ stage.Init → InitNext r
init_next r reader is =
    let x = front_of r stage.Init reader is (λ e. absurd cc) in
    let at = by_init r x.0 x.1 is in
    let right = at.6.right in
    let k = at.6.kept in
    let reg = region at.1 at.2 right.0.words right.0.passed in
    let len' : r.fields.init_len ≡ at.2.init_len = ap (λ (y : Fields). y.init_len) k.1.fields in
    record { less = omega (arith, k.2, right.3); few = omega (arith, reg.init_len) }

-- ---- what is wanted

pub wants_bundle : (r : LayoutReader) (x : ImagePrefix) → StandsFor r x → r.next ≡ stage.Code
    → wants.Bundle (record {
      sandbox = r.begun - 1;
      address = r.fields.code_base + r.code_read;
      format = r.fields.format;
      code_base = r.fields.code_base;
      code_size = r.fields.code_size;
      listed = is_first (drop r.passed r.gates) (r.fields.code_base + r.code_read);
    }) ≡ want_of x
wants_bundle r (InCode n ps f gs code) h is =
    let k = h.kept.1 in
    let begun : length ps + 1 - 1 ≡ length ps = omega arith in
    let first = first_is (f.code_base + length code) (drop r.passed r.gates) k.rest.ahead_are ∙ k.rest.same (f.code_base + length code) (omega arith) in
    rw (k.head.fields, k.head.begun, k.code_read, begun, first) refl
wants_bundle r _ h is = let k = h.kept.0 in absurd cc

takes_length : (r : LayoutReader) (x : ImagePrefix) (len : ℕ) → StandsFor r x → IsLengthOf len (want_of x) → TakesLength r.next r.fields r.code_read r.init_read len
takes_length r (InInit n ps f gs code init) len h e =
    let room : len + length init ≤ f.init_len = omega (arith, e.0, e.1) in
    rw (h.kept.0, h.kept.1.fields, h.kept.2) (e.0, room)
takes_length r (InCode n ps f gs code) len h e =
    let inside = e.inside in
    rw (h.kept.0, h.kept.1.head.fields, h.kept.1.code_read) (record { some = e.some; whole = e.whole; inside = omega arith })
takes_length r (Whole ps) len h e = absurd e
takes_length r _ len h e = rw (h.kept.0) e

-- as many bytes as come next may be taken
pub may_take : (r : LayoutReader) (x : ImagePrefix) (len : ℕ) → StandsFor r x → IsLengthOf len (want_of x) → MayTake r len
may_take r x len h e = (inr (x, h), takes_length r x len h e)

-- ==== Where a stretch of bundles ends that comes next.

-- a gate lies at a bundle start
gate_start : (region : Span) (gs : List Gate) (a : ℕ) → All (λ g. IsBundleStart region g.address) gs → is_gate_of gs a ≡ true → IsBundleStart region a
gate_start region [] a starts is = absurd cc
gate_start region (g ∷ gs) a starts is =
    elim (cases_Bool (g.address == a)) [
      | inl e ↦ subst (IsBundleStart region) (eqb-true g.address a e) (starts 0 g (omega arith))
      | inr e ↦ gate_start region gs a (λ k d h. starts (suc k) d (omega arith)) (rw (e) at is)
    ]

by_ahead : (f : Fields) (gs : List Gate) (at len : ℕ) (ahead : List ℕ) → Region f → All (λ g. IsBundleStart (code_span f) g.address) gs → f.code_base ≤ at → at < f.code_base + f.code_size → at % 16 ≡ 0
    → AreRest (at + 16) gs ahead → len ≡ first_or (f.code_base + f.code_size) ahead - at → IsLongestStretch f gs at len
by_ahead f gs at len [] reg starts low high even rest is =
    let size_is = reg.size_is in
    let base_is = reg.base_is in
    record {
      bundles = record { some = omega arith; whole = omega arith; inside = omega arith };
      unlisted = λ i some less. sym (rest.same (at + 16 * i) (omega arith));
      ends = inl (omega arith);
    }
by_ahead f gs at len (g ∷ more) reg starts low high even rest is =
    let from = rest.ahead_are.0 in
    let aligned = rest.ahead_are.1 in
    let one : is_gate_of gs g ≡ true = sym (rest.same g from) ∙ rw (eq-eqb g g refl) refl in
    let start = gate_start (code_span f) gs g starts one in
    let below = start.held.1 in
    let end : at + len ≡ g = omega arith in
    record {
      bundles = record { some = omega arith; whole = omega arith; inside = omega arith };
      unlisted = λ i some less. sym (rest.same (at + 16 * i) (omega arith)) ∙ none_before g (at + 16 * i) (g ∷ more) (omega arith) (omega arith, aligned, rest.ahead_are.2);
      ends = inr (ap (is_gate_of gs) end ∙ one);
    }

-- where the next gate after the first bundle lies
pub stretch_kept : (r : LayoutReader) (x : ImagePrefix) (len : ℕ) → StandsFor r x → r.next ≡ stage.Code
    → len ≡ first_or (r.fields.code_base + r.fields.code_size) (drop (r.passed + count_below (r.fields.code_base + r.code_read + 16) (drop r.passed r.gates)) r.gates) - (r.fields.code_base + r.code_read)
    → IsStretchLength x len
stretch_kept r (InCode n ps f gs code) len h is e =
    let k = h.kept.1 in
    let reg = region ps f h.right.0.words h.right.0.passed in
    let base_is = reg.base_is in
    let even = h.right.2 in
    let less = h.right.3 in
    let at = f.code_base + length code in
    let e' : len ≡ first_or (f.code_base + f.code_size) (drop (r.passed + count_below (at + 16) (drop r.passed r.gates)) r.gates) - at = e ∙ rw (k.head.fields, k.code_read) refl in
    let rest = rest_from at (at + 16) gs r.gates r.passed (omega arith) k.passed k.rest in
    by_ahead f gs at len _ reg h.right.0.gates.starts (omega arith) (omega arith) (omega arith) rest.1 e'
stretch_kept r _ len h is e = let k = h.kept.0 in absurd cc

-- the next gate, or the region's end, lies after the first bundle, and within the region
bounds : (r : LayoutReader) (n : ℕ) (ps : List Part) (f : Fields) (gs : List Gate) (code : List ℕ) (end : ℕ) → StandsFor r (InCode n ps f gs code)
    → end ≡ first_or (r.fields.code_base + r.fields.code_size) (drop (r.passed + count_below (r.fields.code_base + r.code_read + 16) (drop r.passed r.gates)) r.gates)
    → (r.fields.code_base + r.code_read ≤ end) × (end - (r.fields.code_base + r.code_read) < 2 ^ 32)
bounds r n ps f gs code end h e =
    let k = h.kept.1 in
    let reg = region ps f h.right.0.words h.right.0.passed in
    let limit = reg.end in
    let at = r.fields.code_base + r.code_read in
    let base' : r.fields.code_base ≡ f.code_base = ap (λ (y : Fields). y.code_base) k.head.fields in
    let read = k.code_read in
    let less = h.right.3 in
    let long : IsStretchLength (InCode n ps f gs code) (end - at) = stretch_kept r (InCode n ps f gs code) (end - at) h h.kept.0 (ap (λ (a : ℕ). a - at) e) in
    let some = long.bundles.some in
    let inside = long.bundles.inside in
    (omega arith, omega arith)

pub stretch_bounds : (r : LayoutReader) (end : ℕ) → IsReader r → r.next ≡ stage.Code
    → end ≡ first_or (r.fields.code_base + r.fields.code_size) (drop (r.passed + count_below (r.fields.code_base + r.code_read + 16) (drop r.passed r.gates)) r.gates)
    → (r.fields.code_base + r.code_read ≤ end) × (end - (r.fields.code_base + r.code_read) < 2 ^ 32)
stretch_bounds r end reader is e =
    let x = front_of r stage.Code reader is (λ e. absurd cc) in
    let at = by_code r x.0 x.1 is in
    bounds r at.0 at.1 at.2 at.3 at.4 end at.5 e
