-- The tally of a front and of the next, with findings and bundles of one sandbox more.
use Rattle.sfi_check.proofs.Prelude.{◌≡◌, ℕ, ◌+◌, ◌/◌, ◌^◌, ◌<◌, ◌≤◌, List, [], ◌∷◌, ◌++◌, length, get_or, take, sym, ap, ◌∙◌, subst, arith, take_more, take_all, length-map, get_or-map, Format, code_most, SandboxPart, Part, view, views, IsRightLayout, bundle_count, refl, append_assoc, add-zero, All, append-nil, length-take, IsRightPart, Finding, AreFindings, AreFindingsFrom, AreImageFindings, ◌*◌, eqb, inl, inr, slice_get, cases_Bool, eqb-true, length-append, length_push, Gate, ImagePrefix, IsRightPrefix, want_of, part_of, after_parts, after_init, after_code, after_gates, Follows, HasFaultWhateverFollows, Empty, AfterMagic, AfterCount, InGates, InCode, InInit, AreFoundUpTo, Tally, owed_after, AreFindingsSoFar, AreFindingsWithin, findings_most, Tallies, Fields, LayoutFault}
use Rattle.std.proofs.lemmas.List.Sums.{sum_by-append}
use Rattle.sfi_image.proofs.Formats.{code_at_most}
use Rattle.sfi_image.specs.declared.want.Want.TheVariants as wants
use Rattle.sfi_rules.proofs.Facts.{all_found, none_found}

-- ==== The bundles of one part more.

pub one_more_counted : (f : Format) (items : List SandboxPart) (i : ℕ) (d p : SandboxPart) (bundles : ℕ) → p ≡ get_or items i d → i < length items → bundles ≡ bundle_count (take i (views f items)) → bundles + length p.code.now / 16 ≡ bundle_count (take (i + 1) (views f items))
one_more_counted f items i d p bundles is h before =
    let within : i < length (views f items) = omega (arith, length-map items (view f)) in
    let longer : take (i + 1) (views f items) ≡ take i (views f items) ++ view f p ∷ [] =
    take_more (views f items) i (view f d) within ∙ ap (λ (q : Part). take i (views f items) ++ q ∷ []) (get_or-map (view f) items i d (view f d) h ∙ ap (view f) (sym is)) in
    let joined = ap bundle_count longer ∙ sum_by-append (λ (q : Part). length q.code / 16) (take i (views f items)) (view f p ∷ []) in
    omega (arith, joined, before)

-- a part has at most as many as 2 ^ 24 bytes
pub few_more : (f : Format) (items : List SandboxPart) (i : ℕ) (d p : SandboxPart) → p ≡ get_or items i d → IsRightLayout (views f items) → i < length items → length p.code.now / 16 ≤ 2 ^ 20
few_more f items i d p is right h =
    let within : i < length (views f items) = omega (arith, length-map items (view f)) in
    let same = get_or-map (view f) items i d (view f d) h ∙ ap (view f) (sym is) in
    let most = (right.right.each i (view f d) within).code_placed.at_most in
    let code : length (view f p).code ≤ code_most f = subst (λ (q : Part). length q.code ≤ code_most q.format) same most in
    let limit = code_at_most f in
    omega arith

pub at_end : (f : Format) (items : List SandboxPart) (i bundles : ℕ) → length items ≤ i → bundles ≡ bundle_count (take i (views f items)) → bundles ≡ bundle_count (views f items)
at_end f items i bundles h e =
    let all : length (views f items) ≤ i = omega (arith, length-map items (view f)) in
    e ∙ ap bundle_count (take_all i (views f items) all)

-- there are at most 16 parts
pub few_parts : (f : Format) (items : List SandboxPart) → IsRightLayout (views f items) → length items ≤ 16
few_parts f items right = let most = right.at_most in omega (arith, most, length-map items (view f))

-- ==== The findings of one sandbox more.

pub findings_append : (n m : ℕ) (parts : List Part) (p : Part) (found last : List Finding) → AreFindingsFrom n parts found → AreFindings m p last → m ≡ n + length parts → AreFindingsFrom n (parts ++ p ∷ []) (found ++ last)
findings_append n m [] p found last h here e =
    let at : m ≡ n = e ∙ add-zero n in
    (last, [], subst (λ k. AreFindings k p last) at here, refl, ap (λ (l : List Finding). l ++ last) h ∙ sym (append-nil last))
findings_append n m (q ∷ parts) p found last h here e =
    let rest = findings_append (n + 1) m parts p h.1 last h.3 here (omega arith) in
    (h.0, h.1 ++ last, h.2, rest, ap (λ (l : List Finding). l ++ last) h.4 ∙ append_assoc h.0 h.1 last)

-- the parts in the list that the code goes over are right
pub right_at : (f : Format) (image : List Part) (items : List SandboxPart) (i : ℕ) (d : SandboxPart) → views f items ≡ image → IsRightLayout image → i < length items → IsRightPart (view f (get_or items i d))
right_at f image items i d e right h =
    let each = subst (λ (l : List Part). All IsRightPart l) (sym e) right.right.each in
    let within : i < length (views f items) = omega (arith, length-map items (view f)) in
    subst (λ (p : Part). IsRightPart p) (get_or-map (view f) items i d (view f d) h) (each i (view f d) within)

pub one_more_found : (f : Format) (image : List Part) (items : List SandboxPart) (i : ℕ) (d : SandboxPart) (found last : List Finding) → views f items ≡ image → i < length items → AreImageFindings (take i image) found → AreFindings i (view f (get_or items i d)) last → AreImageFindings (take (i + 1) image) (found ++ last)
one_more_found f image items i d found last e h before here =
    let within : i < length (views f items) = omega (arith, length-map items (view f)) in
    let longer : take (i + 1) (views f items) ≡ take i (views f items) ++ view f (get_or items i d) ∷ [] =
    take_more (views f items) i (view f d) within ∙ ap (λ (p : Part). take i (views f items) ++ p ∷ []) (get_or-map (view f) items i d (view f d) h) in
    let count : i ≡ 0 + length (take i (views f items)) = omega (arith, length-take i (views f items)) in
    let before' = subst (λ (l : List Part). AreImageFindings (take i l) found) (sym e) before in
    let more = findings_append 0 i (take i (views f items)) (view f (get_or items i d)) found last before' here count in
    subst (λ (l : List Part). AreImageFindings l (found ++ last)) (sym longer ∙ ap (take (i + 1)) e) more

pub in_the_end : (f : Format) (image : List Part) (items : List SandboxPart) (i : ℕ) (found : List Finding) → views f items ≡ image → length items ≤ i → AreImageFindings (take i image) found → AreImageFindings image found
in_the_end f image items i found e h before =
    let all : length image ≤ i = omega (arith, length-map items (view f), ap length e) in
    subst (λ (l : List Part). AreImageFindings l found) (take_all i image all) before

-- ==== The tally of a prefix and of the one that follows it.

-- ---- a tally within a sandbox's code

pub record CodeTally (holds : List Finding → Type 0) (t : Tally) (ps : List Part) (f : Fields) (gs : List Gate) (code : List ℕ) : Type 0 where
  pub found : List Finding
  pub found_holds : holds found
  pub within : AreFindingsWithin ps f gs code found t.owed
  pub count : t.count ≡ length found
  pub first : t.first ≡ slice_get found 0
  pub bundles : t.bundles ≡ bundle_count ps + length code / 16
  pub sandboxes : t.sandboxes ≡ length ps + 1
  pub few : t.count ≤ findings_most * t.bundles

count_push : (ps : List Part) (p : Part) → bundle_count (ps ++ p ∷ []) ≡ bundle_count ps + length p.code / 16
count_push ps p = let e = sum_by-append (λ (q : Part). length q.code / 16) ps (p ∷ []) in omega (arith, e)

parts_tally : {T : List Finding → Type 0} (t : Tally) (n : ℕ) (ps : List Part) (f : Fields) (gs : List Gate) (code init : List ℕ) → CodeTally T t ps f gs code → length code ≡ f.code_size
    → Tallies T t (after_parts f.format n (ps ++ part_of f gs code init ∷ []))
parts_tally t n ps f gs code init c all =
    let p = part_of f gs code init in
    let w = c.within in
    let of_part : AreFindings (length ps) p w.here =
    all_found (length ps) p w.here_are.bundles w.here (owed_after code t.owed) w.here_are.len
    (subst (λ (x : List ℕ). AreFoundUpTo (length ps) (part_of f gs x init) w.here_are.bundles w.here (owed_after code t.owed)) (append-nil code) (w.here_are.found_are [] init (ap length (append-nil code) ∙ all))) in
    let found : AreImageFindings (ps ++ p ∷ []) c.found =
    subst (λ (l : List Finding). AreImageFindings (ps ++ p ∷ []) l) (sym w.found_is) (findings_append 0 (length ps) ps p w.before w.here w.before_are of_part (omega arith)) in
    let bundles = c.bundles ∙ sym (count_push ps p) in
    let sandboxes = c.sandboxes ∙ sym (length_push ps p) in
    elim (cases_Bool (eqb (length (ps ++ p ∷ [])) n)) [
      | inl e ↦ rw (e) (record { found = c.found; found_holds = c.found_holds; found_are = found; count = c.count; first = c.first; bundles = bundles; sandboxes = sandboxes; few = c.few })
      | inr e ↦ rw (e) (record { found = c.found; found_holds = c.found_holds; found_are = found; count = c.count; first = c.first; bundles = bundles; sandboxes = sandboxes; few = c.few })
    ]

pub init_tally : {T : List Finding → Type 0} (t : Tally) (n : ℕ) (ps : List Part) (f : Fields) (gs : List Gate) (code init : List ℕ) → CodeTally T t ps f gs code → length code ≡ f.code_size
    → Tallies T t (after_init n ps f gs code init)
init_tally t n ps f gs code init c all =
    elim (cases_Bool (eqb (length init) f.init_len)) [
      | inl e ↦ rw (e) (parts_tally t n ps f gs code init c all)
      | inr e ↦ rw (e) (record { found = c.found; found_holds = c.found_holds; found_are = c.within; count = c.count; first = c.first; bundles = c.bundles; sandboxes = c.sandboxes; few = c.few })
    ]

pub code_tally : {T : List Finding → Type 0} (t : Tally) (n : ℕ) (ps : List Part) (f : Fields) (gs : List Gate) (code : List ℕ) → CodeTally T t ps f gs code → 0 < length code
    → Tallies T t (after_code n ps f gs code)
code_tally t n ps f gs code c some =
    elim (cases_Bool (eqb (length code) f.code_size)) [
      | inl e ↦ rw (e) (init_tally t n ps f gs code [] c (eqb-true (length code) f.code_size e))
      | inr e ↦ rw (e) (record {
        found = c.found;
        found_holds = c.found_holds;
        found_are = c.within;
        count = c.count;
        first = c.first;
        bundles = c.bundles;
        sandboxes = c.sandboxes ∙ elim (cases_Bool (eqb (length code) 0)) [
          | inl z ↦ absurd (omega (arith, eqb-true (length code) 0 z))
          | inr z ↦ rw (z) refl
        ];
        few = c.few;
      })
    ]

gates_tally : {T : List Finding → Type 0} (t : Tally) (n : ℕ) (ps : List Part) (f : Fields) (gs : List Gate) (found : List Finding) → T found → AreImageFindings ps found → t.count ≡ length found → t.first ≡ slice_get found 0
    → t.bundles ≡ bundle_count ps → t.sandboxes ≡ length ps → t.count ≤ findings_most * t.bundles → Tallies T t (after_gates n ps f gs)
gates_tally t n ps f gs found holds are count first bundles sandboxes few =
    elim (cases_Bool (eqb (length gs) f.gate_count)) [
      | inl e ↦ rw (e) (record {
        found = found;
        found_holds = holds;
        found_are = record {
          before = found;
          here = [];
          before_are = are;
          here_are = record { bundles = 0; len = refl; found_are = λ more init size. none_found (length ps) (part_of f gs more init) };
          found_is = sym (append-nil found);
        };
        count = count;
        first = first;
        bundles = omega (arith, bundles);
        sandboxes = sandboxes;
        few = few;
      })
      | inr e ↦ rw (e) (record { found = found; found_holds = holds; found_are = are; count = count; first = first; bundles = bundles; sandboxes = sandboxes; few = few })
    ]

-- ---- steps

pub field_tallies : {T : List Finding → Type 0} (t : Tally) (x : ImagePrefix) (s : List ℕ) (y : ImagePrefix) (len : ℕ) → wants.Field len ≡ want_of x → Follows x s y → Tallies T t x → Tallies T t y
field_tallies t Empty s y len w h k = rw (h.2) (record { found = k.found; found_holds = k.found_holds; found_are = k.found_are; count = k.count; first = k.first; bundles = k.bundles; sandboxes = k.sandboxes; few = k.few })
field_tallies t (AfterMagic kind) s y len w h k = rw (h.2) (record { found = k.found; found_holds = k.found_holds; found_are = k.found_are; count = k.count; first = k.first; bundles = k.bundles; sandboxes = k.sandboxes; few = k.few })
field_tallies t (AfterCount kind n ps) s y len w h k = rw (h.3) (gates_tally t n ps h.0 [] k.found k.found_holds k.found_are k.count k.first k.bundles k.sandboxes k.few)
field_tallies t (InGates n ps f gs) s y len w h k = rw (h.2) (gates_tally t n ps f (gs ++ h.0 ∷ []) k.found k.found_holds k.found_are k.count k.first k.bundles k.sandboxes k.few)
field_tallies t x s y len w h k = absurd cc

pub init_tallies : {T : List Finding → Type 0} (t : Tally) (x : ImagePrefix) (s : List ℕ) (y : ImagePrefix) (len : ℕ) → wants.Init len ≡ want_of x → IsRightPrefix x → Follows x s y → Tallies T t x → Tallies T t y
init_tallies t (InInit n ps f gs code init) s y len w right h k =
    rw (h) (init_tally t n ps f gs code (init ++ s) (record { found = k.found; found_holds = k.found_holds; within = k.found_are; count = k.count; first = k.first; bundles = k.bundles; sandboxes = k.sandboxes; few = k.few }) right.2)
init_tallies t x s y len w right h k = absurd cc

-- the new tally is the old one with `n` bundles of that sandbox and their findings
pub record Adds (old new : Tally) (sandbox n : ℕ) (found : List Finding) : Type 0 where
  pub sandboxes : new.sandboxes ≡ sandbox + 1
  pub bundles : new.bundles ≡ old.bundles + n
  pub count : new.count ≡ old.count + length found
  pub few : length found ≤ findings_most * n
  pub first : (before : List Finding) → old.first ≡ slice_get before 0 → new.first ≡ slice_get (before ++ found) 0

-- the tally of a prefix in code leads to that after `n` bundles more, with what was found in them
pub code_tallies : {T U : List Finding → Type 0} (old new : Tally) (m : ℕ) (ps : List Part) (f : Fields) (gs : List Gate) (code s : List ℕ) (n : ℕ) (found : List Finding)
    → 0 < n → length s ≡ 16 * n
    → ((here : List Finding) → AreFindingsSoFar (length ps) f gs code here old.owed → AreFindingsSoFar (length ps) f gs (code ++ s) (here ++ found) new.owed)
    → Adds old new (length ps) n found → ((before : List Finding) → T before → U (before ++ found)) → Tallies T old (InCode m ps f gs code)
    → Tallies U new (after_code m ps f gs (code ++ s))
code_tallies old new m ps f gs code s n found some len more adds on k =
    let within = k.found_are in
    let longer = length-append code s in
    let so_far = within.here_are.len in
    code_tally new m ps f gs (code ++ s) (record {
      found = k.found ++ found;
      found_holds = on k.found k.found_holds;
      within = record {
        before = within.before;
        here = within.here ++ found;
        before_are = within.before_are;
        here_are = more within.here within.here_are;
        found_is = ap (λ (x : List Finding). x ++ found) within.found_is ∙ append_assoc within.before within.here found;
      };
      count = omega (arith, adds.count, k.count, length-append k.found found);
      first = adds.first k.found k.first;
      bundles = omega (arith, adds.bundles, k.bundles, longer, so_far);
      sandboxes = adds.sandboxes;
      few = omega (arith, adds.count, adds.bundles, adds.few, k.few);
    }) (omega (arith, longer))

-- ---- faults

-- a fault of the bytes is one of more bytes
pub fault_onwards : (bytes s rest : List ℕ) (more : List ℕ) (k : LayoutFault) → rest ≡ s ++ more → HasFaultWhateverFollows (bytes ++ s) k → HasFaultWhateverFollows (bytes ++ rest) k
fault_onwards bytes s rest more k e h = λ tail.
    let regroup : (bytes ++ rest) ++ tail ≡ (bytes ++ s) ++ (more ++ tail) = ap (λ (x : List ℕ). (bytes ++ x) ++ tail) e ∙ simp append_assoc in
    rw (regroup) (h (more ++ tail))
