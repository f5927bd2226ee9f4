-- What a reader stands for after each step.
use Rattle.sfi_image.proofs.Prelude.{◌≡◌, ℕ, suc, ◌+◌, ◌*◌, ◌%◌, ◌<◌, ◌≤◌, ◌==◌, false, ◌^◌, List, [], ◌∷◌, ◌++◌, length, map, drop, refl, sym, ap, ◌∙◌, subst, arith, inl, inr, None, eqb_tells, All, AllPairs, cases_Bool, ltb-true, ne_eqb, length-drop, length_push, drop-drop, Format, magic, Gate, Fields, Span, Part, number, AreFieldWords, code_span, spans, spans_of, AreGates, is_gate_of, AreOf, AreRight, IsFirstFault, field_tests, ImagePrefix, IsHead, IsOpened, IsRightPrefix, part_of, after_parts, after_init, after_code, after_gates, Follows, Empty, AfterMagic, AfterCount, LayoutReader, KeepsHead, KeepsFields, StandsFor, KeepsCode, IsReader, Leads, AreAhead, AreRest, is_one_of, stage_after_part, stage_after_init, stage_after_code, stage_after_gates, is_first, count_below}
use Rattle.std.proofs.Math.Bool.{or-false}
use Rattle.std.proofs.Math.Dec.{ltb}
use Rattle.std.proofs.lemmas.Bool.{ltb-false}
use Rattle.sfi_image.specs.declared.want.Stage.{Stage}
use Rattle.sfi_image.specs.declared.want.Stage.TheVariants as stage
use Rattle.sfi_image.proofs.Tests.{all_pass, spans_push}
use Rattle.sfi_image.proofs.Regions.{whole_bundles}
use Rattle.sfi_image.proofs.Formats.{code_at_most, data_at_most, same_format}
use Rattle.sfi_image.proofs.Following.{fields_again, finished, following_bytes}

-- one step, from where it leads
pub leads : (x : ImagePrefix) (s : List ℕ) (r : LayoutReader) (y : ImagePrefix) → IsRightPrefix x → Follows x s y → StandsFor r y → Leads x s r
leads x s r y right follows stands = record { to = y; stands = stands; follows = follows; bytes = following_bytes x s y right follows }

-- a prefix that a reader stands for, where it hasn't stopped
pub front_of : (r : LayoutReader) (w : Stage) → IsReader r → r.next ≡ w → (w ≡ stage.Nothing → ⊥) → (x : ImagePrefix) × StandsFor r x
front_of r w (inl stopped) is goes = absurd (goes (sym is ∙ stopped))
front_of r w (inr x) is goes = x

-- ---- magic and count

pub magic_leads : (old new : LayoutReader) (x : ImagePrefix) (s : List ℕ) (format : Format) → StandsFor old x → old.next ≡ stage.Magic → s ≡ magic format
    → new.next ≡ stage.Count → new.spans ≡ old.spans → new.fields.format ≡ format → Leads x s new
magic_leads old new Empty s format h is e to spans_are kind =
    leads Empty s new (AfterMagic format) tt (format, e, refl) (record { right = tt; kept = (to, spans_are ∙ h.kept.1, kind) })
magic_leads old new _ s format h is e to spans_are kind = let k = h.kept.0 in absurd cc

none_of : (format : Format) → AreOf format []
none_of format = λ k d h. absurd (omega arith)

none_right : AreRight []
none_right = record { each = λ k d h. absurd (omega arith); apart = λ i j d h e. absurd (omega arith); clear = λ k d h. absurd (omega arith) }

pub count_leads : (old : LayoutReader) (x : ImagePrefix) (s : List ℕ) (n : ℕ) → StandsFor old x → old.next ≡ stage.Count → s ≡ number n → 1 ≤ n → n ≤ 16
    → Leads x s (record old { next = stage.Fields; count = n; begun = 0 })
count_leads old (AfterMagic format) s n h is e low high =
    leads (AfterMagic format) s _ (AfterCount format n []) tt (n, e, refl) (record {
      right = (record { at_least = low; at_most = high; one_format = none_of format; right = none_right }, omega arith);
      kept = (refl, record { of = h.kept.2; count = refl; begun = refl; spans = h.kept.1 });
    })
count_leads old _ s n h is e low high = let k = h.kept.0 in absurd cc

-- ---- gates ahead

pub apart : (a b : ℕ) → a < b → a % 16 ≡ 0 → b % 16 ≡ 0 → a + 16 ≤ b
apart a b h e f = omega arith

pub none_before : (at a : ℕ) (as' : List ℕ) → a < at → AreAhead at as' → is_one_of as' a ≡ false
none_before at a [] h ahead = refl
none_before at a (g ∷ more) h ahead =
    let low = ahead.0 in
    rw (ne_eqb g a (λ e. omega arith)) (none_before (g + 16) a more (omega arith) ahead.2)

pub first_is : (at : ℕ) (as' : List ℕ) → AreAhead at as' → is_first as' at ≡ is_one_of as' at
first_is at [] ahead = refl
first_is at (g ∷ more) ahead = rw (none_before (g + 16) at more (let low = ahead.0 in omega arith) ahead.2) (sym (or-false (g == at)))

-- the addresses ahead of `end`, where those below it are dropped
below_passed : (at end : ℕ) (as' : List ℕ) → AreAhead at as' → AreAhead end (drop (count_below end as') as')
below_passed at end [] ahead = tt
below_passed at end (g ∷ more) ahead =
    elim (cases_Bool (ltb g end)) [
      | inl e ↦ rw (e) (below_passed (g + 16) end more ahead.2)
      | inr e ↦ rw (e) (ltb-false g end e, ahead.1, ahead.2)
    ]

below_same : (end a : ℕ) (as' : List ℕ) → end ≤ a → is_one_of (drop (count_below end as') as') a ≡ is_one_of as' a
below_same end a [] h = refl
below_same end a (g ∷ more) h =
    elim (cases_Bool (ltb g end)) [
      | inl e ↦ (let low = ltb-true g end e in rw (e, ne_eqb g a (λ f. omega arith)) (below_same end a more h))
      | inr e ↦ rw (e) refl
    ]

below_most : (end : ℕ) (as' : List ℕ) → count_below end as' ≤ length as'
below_most end [] = omega arith
below_most end (g ∷ more) =
    elim (cases_Bool (ltb g end)) [
      | inl e ↦ rw (e) (let most = below_most end more in omega arith)
      | inr e ↦ rw (e) (omega arith)
    ]

-- the gates from `end` on
pub rest_from : (at end : ℕ) (gs : List Gate) (as' : List ℕ) (k : ℕ) → at ≤ end → k ≤ length as' → AreRest at gs (drop k as')
    → (k + count_below end (drop k as') ≤ length as') × AreRest end gs (drop (k + count_below end (drop k as')) as')
rest_from at end gs as' k on le rest =
    let n = count_below end (drop k as') in
    let most = below_most end (drop k as') in
    let more : drop n (drop k as') ≡ drop (k + n) as' = drop-drop n k as' in (
      omega (arith, length-drop k as'),
      subst (AreRest end gs) more (record {
        ahead_are = below_passed at end (drop k as') rest.ahead_are;
        same = λ a h. below_same end a (drop k as') h ∙ rest.same a (omega arith);
      }),
    )

all_ahead : (region : Span) (at : ℕ) (gs : List Gate) → All (λ g. at ≤ g.address) gs → All (λ g. g.address % 16 ≡ 0) gs
    → AllPairs (λ g h. g.address < h.address) gs → AreAhead at (map (λ g. g.address) gs)
all_ahead region at [] low even up = tt
all_ahead region at (g ∷ gs) low even up = (
  low 0 g (omega arith),
  even 0 g (omega arith),
  all_ahead region (g.address + 16) gs (λ k d h. apart g.address _ (up 0 (suc k) d (omega arith) (omega arith)) (even 0 g (omega arith)) (even (suc k) d (omega arith)))
      (λ k d h. even (suc k) d (omega arith)) (λ i j d h e. up (suc i) (suc j) d (omega arith) (omega arith)),
)

same_addresses : (gs : List Gate) (a : ℕ) → is_one_of (map (λ g. g.address) gs) a ≡ is_gate_of gs a
same_addresses [] a = refl
same_addresses (g ∷ gs) a = rw (same_addresses gs a) refl

-- before the first bundle all gates are ahead
pub all_rest : (f : Fields) (gs : List Gate) → AreGates (code_span f) gs → AreRest (f.code_base + 0) gs (drop 0 (map (λ g. g.address) gs))
all_rest f gs are = record {
  ahead_are = all_ahead (code_span f) (f.code_base + 0) gs (λ k d h. let from = (are.starts k d h).held.0 in omega arith) (λ k d h. (are.starts k d h).aligned) are.ascending;
  same = λ a h. same_addresses gs a;
}

-- ---- the code region

pub record Region (f : Fields) : Type 0 where
  pub bundles : ℕ
  pub size_is : f.code_size ≡ 16 * bundles
  pub some : 256 ≤ f.code_size
  pub base : ℕ
  pub base_is : f.code_base ≡ 16 * base
  pub end : f.code_base + f.code_size ≤ 2 ^ 32
  pub init_len : f.init_len ≤ 2 ^ 30
  pub gate_count : f.gate_count ≤ 64
  pub code_size : f.code_size ≤ 2 ^ 24

pub region : (before : List Part) (f : Fields) → AreFieldWords f → IsFirstFault before f field_tests None → Region f
region before f words passed =
    let all = all_pass before f field_tests passed in
    let w = whole_bundles f.format f.code_base f.code_size words.code_base all.0 in
    record {
      bundles = w.0;
      size_is = w.2;
      some = all.0.at_least;
      base = w.1;
      base_is = w.3;
      end = w.4;
      init_len = omega (arith, all.1.1.1.1.1.0, all.1.0.0.at_most, data_at_most f.format);
      gate_count = all.1.1.1.1.0;
      code_size = omega (arith, all.0.at_most, code_at_most f.format);
    }

-- ---- where whole sandboxes, first data bytes, code and gates lead

pub parts_stand : (r : LayoutReader) (format : Format) (n : ℕ) (ps : List Part) → IsHead format n ps → length ps ≤ n → KeepsHead r format n ps → r.next ≡ stage_after_part (length ps) n
    → StandsFor r (after_parts format n ps)
parts_stand r format n ps h le k is =
    elim (eqb_tells (length ps) n) [
      | inl e ↦
          let of = same_format ps h.one_format (let some = h.at_least in omega (arith, e.1)) in
          rw (e.0) (record {
            right = subst (λ (g : Format). IsHead g (length ps) ps) (sym of) (subst (λ (m : ℕ). IsHead format m ps) (sym e.1) h);
            kept = (rw (e.0) at is, k.of ∙ sym of);
          })
      | inr e ↦ rw (e.0) (record { right = (h, omega (arith, e.1)); kept = (rw (e.0) at is, k) })
    ]

pub init_stand : (r : LayoutReader) (n : ℕ) (ps : List Part) (f : Fields) (gs : List Gate) (code init : List ℕ) → IsOpened n ps f gs → length gs ≡ f.gate_count
    → length code ≡ f.code_size → length init ≤ f.init_len → KeepsFields r n ps f gs → r.init_read ≡ length init
    → r.next ≡ stage_after_init (length init) f.init_len (length ps + 1) n → StandsFor r (after_init n ps f gs code init)
init_stand r n ps f gs code init opened g c le k read is =
    elim (eqb_tells (length init) f.init_len) [
      | inl e ↦
          let p = part_of f gs code init in
          let len = length_push ps p in
          let fin = finished n ps f gs code init opened g c e.1 in
          let more = opened.more in
          rw (e.0) (parts_stand r f.format n (ps ++ p ∷ []) fin (omega (arith, len, more))
          (record {
            of = ap (λ (h : Fields). h.format) k.fields;
            count = k.count;
            begun = k.begun ∙ sym len;
            spans = k.spans ∙ ap (λ (h : Fields). spans ps ++ spans_of h) (sym (fields_again f gs code init g c e.1)) ∙ sym (spans_push ps p);
          })
          (rw (len) (rw (e.0) at is)))
      | inr e ↦ rw (e.0) (record { right = (opened, g, c, omega (arith, e.1)); kept = (rw (e.0) at is, k, read) })
    ]

pub code_stand : (r : LayoutReader) (n : ℕ) (ps : List Part) (f : Fields) (gs : List Gate) (code : List ℕ) → IsOpened n ps f gs → length gs ≡ f.gate_count
    → length code % 16 ≡ 0 → length code ≤ f.code_size → KeepsCode r n ps f gs code
    → r.next ≡ stage_after_code (length code) f.code_size f.init_len (length ps + 1) n → StandsFor r (after_code n ps f gs code)
code_stand r n ps f gs code opened g even le k is =
    elim (eqb_tells (length code) f.code_size) [
      | inl e ↦ rw (e.0) (init_stand r n ps f gs code [] opened g e.1 (omega arith) k.head k.init_read (rw (e.0) at is))
      | inr e ↦ rw (e.0) (record { right = (opened, g, even, omega (arith, e.1)); kept = (rw (e.0) at is, k) })
    ]

pub gates_stand : (r : LayoutReader) (n : ℕ) (ps : List Part) (f : Fields) (gs : List Gate) → IsOpened n ps f gs → length gs ≤ f.gate_count → KeepsFields r n ps f gs
    → r.passed ≡ 0 → r.code_read ≡ 0 → r.init_read ≡ 0 → r.next ≡ stage_after_gates (length gs) f.gate_count → StandsFor r (after_gates n ps f gs)
gates_stand r n ps f gs opened le k passed code_read init_read is =
    elim (eqb_tells (length gs) f.gate_count) [
      | inl e ↦
          let reg = region ps f opened.words opened.passed in
          let some = reg.some in
          rw (e.0) (record {
            right = (opened, e.1, refl, omega arith);
            kept = (
              rw (e.0) at is,
              record {
                head = k;
                code_read = code_read;
                init_read = init_read;
                passed = omega (arith, passed);
                rest = subst (λ (as' : List ℕ). AreRest (f.code_base + 0) gs as') (ap (λ (j : ℕ). drop j (map (λ (x : Gate). x.address) gs)) (sym passed) ∙ ap (drop r.passed) (sym k.gates)) (all_rest f gs opened.gates);
              },
            );
          })
      | inr e ↦ rw (e.0) (record { right = (opened, omega (arith, e.1)); kept = (rw (e.0) at is, k, passed, code_read, init_read) })
    ]
