-- What passes the tests of a layout: fields, spans that lie apart, gates that follow one another.
use Rattle.sfi_image.proofs.Prelude.{◌≡◌, List, [], ◌∷◌, ◌++◌, refl, sym, subst, subst₂, inl, inr, Option, None, All, AllPairs, AllByRecursion, Fields, Span, LayoutFault, Part, fields_of, AreFieldWords, AreGateWords, AreApart, code_span, spans_of, AreGates, IsRightPart, AreRight, AreApartWith, AreClear, IsClear, zone_ends_of, zone_ends, FieldTest, Passes, IsFirstFault, field_tests, ℕ, ◌+◌, ◌-◌, ◌<◌, length, get_or, ap, ◌∙◌, arith, append_assoc, below_more, length-append, get_or_append_left, get_or_default, get_or-append_right, All-push, guarded_span, flat_map-append, append-nil, All-from_recursion, spans, IsBounded, zero, suc, ◌≤◌, map, ltb, ◌↔◌, IsTrue, slice_get, Some, flat_map, cases_lt, ltb-true, lt-ltb, length-map, length_push, get_or_push, service_most, Gate, IsBundleStart}
use Rattle.sfi_image.specs.FieldTests.FieldTest.{Code, Data, GuardRoom, Start, Gates, Init, Overlap}
use Rattle.sfi_image.proofs.Formats.{code_at_most, data_at_most}
use Rattle.std.proofs.lemmas.List.Quantifiers.{all_pairs_push}
use Rattle.std.proofs.lemmas.Option.{get_or_from_slice_get, slice_get_within, slice_get-get_or, slice_get-map}
use Rattle.std.specs.Option.{option_map}

-- ==== What fields that pass their tests are.

-- where no test fails, each is passed
pub all_pass : (before : List Part) (f : Fields) (ts : List FieldTest) → IsFirstFault before f ts None → AllByRecursion (Passes before f) ts
all_pass before f [] h = tt
all_pass before f (t ∷ ts) (inl h) = (h.0, all_pass before f ts h.1)
all_pass before f (t ∷ ts) (inr h) = let e = h.1 in absurd cc

-- and the other way round
pub none_fails : (before : List Part) (f : Fields) (ts : List FieldTest) → AllByRecursion (Passes before f) ts → IsFirstFault before f ts None
none_fails before f [] h = refl
none_fails before f (t ∷ ts) h = inl (h.0, none_fails before f ts h.1)

-- after six tests that are passed, the seventh
pub at_overlap : (before : List Part) (f : Fields) (found : Option LayoutFault) → Passes before f Code → Passes before f Data → Passes before f GuardRoom
    → Passes before f Start → Passes before f Gates → Passes before f Init → IsFirstFault before f (Overlap ∷ []) found → IsFirstFault before f field_tests found
at_overlap before f found code guarded room start gates init last = inl (code, inl (guarded, inl (room, inl (start, inl (gates, inl (init, last))))))

-- a sandbox whose fields pass and whose gates are right is right, and its spans lie apart from those before
pub right_part : (before : List Part) (p : Part) (f : Fields) → fields_of p ≡ f → AreFieldWords f → IsFirstFault before f field_tests None
    → All AreGateWords p.gates → AreGates (code_span f) p.gates → IsRightPart p × AreApartWith before f
right_part before p f is words passed gate_words gates =
    let all = all_pass before (fields_of p) field_tests (subst (λ (g : Fields). IsFirstFault before g field_tests None) (sym is) passed) in (
      record {
        code_base = (subst AreFieldWords (sym is) words).code_base;
        code_placed = all.0;
        data_placed = all.1.0.0;
        one_bit = all.1.0.1;
        guard_room = all.1.1.0.0;
        zone_room = all.1.1.0.1;
        start = all.1.1.1.0;
        gate_count = all.1.1.1.1.0;
        init_len = all.1.1.1.1.1.0;
        gates = subst (λ (g : Fields). AreGates (code_span g) p.gates) (sym is) gates;
      },
      (all_pass before f field_tests passed).1.1.1.1.1.1.0,
    )

-- the fields of a right sandbox that lies apart from those before pass
pub part_passes : (before : List Part) (p : Part) → IsRightPart p → AreApartWith before (fields_of p) → IsFirstFault before (fields_of p) field_tests None
part_passes before p right apart =
    none_fails before (fields_of p) field_tests (right.code_placed, ((right.data_placed, right.one_bit), ((right.guard_room, right.zone_room), (right.start, (right.gate_count, (right.init_len, (apart, tt)))))))

-- ==== Spans that lie apart, and those of sandboxes.

-- a span that lies apart from the first `i` spans lies apart from the next one, too
pub apart_more : (xs : List Span) (one : Span) (i : ℕ) (x : Span) → i < length xs → ((k : ℕ) (d : Span) → k < i → AreApart (get_or xs k d) one)
    → AreApart (get_or xs i x) one → (k : ℕ) (d : Span) → k < i + 1 → AreApart (get_or xs k d) one
apart_more xs one i x lt so_far here k d below =
    below_more (λ (j : ℕ). (e : Span) → AreApart (get_or xs j e) one) i (λ j h e. so_far j e h)
    (λ e. subst (λ (s : Span). AreApart s one) (get_or_default xs i x e lt) here) k below d

-- two more spans that lie apart from all and from each other
pub pairs_of_two : (xs : List Span) (c d : Span) → AllPairs AreApart xs → All (λ o. AreApart o c) xs → All (λ o. AreApart o d) xs → AreApart c d → AllPairs AreApart (xs ++ c ∷ d ∷ [])
pairs_of_two xs c d pairs to_c to_d apart =
    let one = all_pairs_push AreApart xs c pairs to_c in
    let to = All-push (λ o. AreApart o d) xs c to_d apart in
    let two = all_pairs_push AreApart (xs ++ c ∷ []) d one (λ k e lt. to k e lt) in
    subst (AllPairs AreApart) (append_assoc xs (c ∷ []) (d ∷ [])) two

-- and the other way round
pub two_of_pairs : (xs : List Span) (c d : Span) → AllPairs AreApart (xs ++ c ∷ d ∷ []) → All (λ o. AreApart o c) xs × All (λ o. AreApart o d) xs × AreApart c d
two_of_pairs xs c d pairs =
    let n = length xs in
    let long : length (xs ++ c ∷ d ∷ []) ≡ n + 2 = length-append xs (c ∷ d ∷ []) in
    let at_c : (e : Span) → get_or (xs ++ c ∷ d ∷ []) n e ≡ c = λ e. let z : n - n ≡ 0 = omega arith in get_or-append_right xs (c ∷ d ∷ []) n n e refl (omega arith) ∙ ap (λ (k : ℕ). get_or (c ∷ d ∷ []) k e) z in
    let at_d : (e : Span) → get_or (xs ++ c ∷ d ∷ []) (n + 1) e ≡ d = λ e. let z : (n + 1) - n ≡ 1 = omega arith in get_or-append_right xs (c ∷ d ∷ []) n (n + 1) e refl (omega arith) ∙ ap (λ (k : ℕ). get_or (c ∷ d ∷ []) k e) z in
    let at_k : (k : ℕ) (e : Span) → k < n → get_or (xs ++ c ∷ d ∷ []) k e ≡ get_or xs k e = λ k e lt. get_or_append_left xs (c ∷ d ∷ []) e k lt in (
      λ k e lt. rw (at_k k e lt, at_c e) at (pairs k n e lt (omega (arith, long))),
      λ k e lt. rw (at_k k e lt, at_d e) at (pairs k (n + 1) e (omega arith) (omega (arith, long))),
      rw (at_c c, at_d c) at (pairs n (n + 1) c (omega arith) (omega (arith, long))),
    )

-- the spans at the front lie apart where all do
pub front_apart : (xs ys : List Span) → AllPairs AreApart (xs ++ ys) → AllPairs AreApart xs
front_apart xs ys pairs i j d lt within =
    rw (get_or_append_left xs ys d i (omega arith), get_or_append_left xs ys d j within) at (pairs i j d lt (omega (arith, length-append xs ys)))

-- ---- the two spans of a sandbox

pub two_spans : (a b : Span) (f : Fields) → a ≡ code_span f → b ≡ guarded_span f → (a ∷ b ∷ []) ≡ spans_of f
two_spans a b f one other = ap (λ (x : Span). x ∷ b ∷ []) one ∙ ap (λ (y : Span). code_span f ∷ y ∷ []) other

-- two spans are pushed, one after the other
pub two_pushed : (old mid new two : List Span) (a b : Span) → mid ≡ old ++ a ∷ [] → new ≡ mid ++ b ∷ [] → (a ∷ b ∷ []) ≡ two → new ≡ old ++ two
two_pushed old mid new two a b first then_ are = then_ ∙ ap (λ (t : List Span). t ++ b ∷ []) first ∙ append_assoc old (a ∷ []) (b ∷ []) ∙ ap (λ (t : List Span). old ++ t) are

-- the spans of one more
pub spans_push : (ps : List Part) (p : Part) → spans (ps ++ p ∷ []) ≡ spans ps ++ spans_of (fields_of p)
spans_push ps p = flat_map-append (λ q. spans_of (fields_of q)) ps (p ∷ []) ∙ ap (λ (t : List Span). spans ps ++ t) (append-nil (spans_of (fields_of p)))

-- the ends of zones of one more
pub zone_ends_push : (ps : List Part) (p : Part) → zone_ends (ps ++ p ∷ []) ≡ zone_ends ps ++ zone_ends_of (fields_of p)
zone_ends_push ps p = flat_map-append (λ q. zone_ends_of (fields_of q)) ps (p ∷ []) ∙ ap (λ (t : List ℕ). zone_ends ps ++ t) (append-nil (zone_ends_of (fields_of p)))

-- a right sandbox that lies apart from right ones makes one more
pub one_more_right : (ps : List Part) (p : Part) → All IsRightPart ps → IsRightPart p → AreApartWith ps (fields_of p) → AreRight (ps ++ p ∷ [])
one_more_right ps p each right lies = record {
  each = All-push IsRightPart ps p each right;
  apart = subst (AllPairs AreApart) (sym (spans_push ps p)) lies.apart;
  clear = subst₂ AreClear (sym (zone_ends_push ps p)) (sym (spans_push ps p)) lies.clear;
}

-- the elements at the front have what all have
pub All-front : {X : Type 0} (P : X → Type 0) (xs ys : List X) → All P (xs ++ ys) → All P xs
All-front P xs ys all k d lt = subst P (get_or_append_left xs ys d k lt) (all k d (omega (arith, length-append xs ys)))

-- spans at the front lie clear of the zones at the front where all do
pub front_clear : (es more : List ℕ) (xs ys : List Span) → AreClear (es ++ more) (xs ++ ys) → AreClear es xs
front_clear es more xs ys clear k d lt =
    All-front (λ end. IsClear end (get_or xs k d)) es more (All-front (λ s. All (λ end. IsClear end s) (es ++ more)) xs ys clear k d lt)

-- a sandbox in the middle of right ones lies apart from those before it
pub middle_apart : (ps : List Part) (p : Part) (more : List Part) → AreRight (ps ++ p ∷ more) → AreApartWith ps (fields_of p)
middle_apart ps p more right = record {
  apart = front_apart (spans ps ++ spans_of (fields_of p)) (spans more) (subst (AllPairs AreApart) spelled right.apart);
  clear = front_clear (zone_ends ps ++ zone_ends_of (fields_of p)) (zone_ends more) (spans ps ++ spans_of (fields_of p)) (spans more) (subst₂ AreClear ended spelled right.clear);
}
  where
    spelled : spans (ps ++ p ∷ more) ≡ (spans ps ++ spans_of (fields_of p)) ++ spans more
    spelled = flat_map-append (λ q. spans_of (fields_of q)) ps (p ∷ more) ∙ sym (append_assoc (spans ps) (spans_of (fields_of p)) (spans more))

    ended : zone_ends (ps ++ p ∷ more) ≡ (zone_ends ps ++ zone_ends_of (fields_of p)) ++ zone_ends more
    ended = flat_map-append (λ q. zone_ends_of (fields_of q)) ps (p ∷ more) ∙ sym (append_assoc (zone_ends ps) (zone_ends_of (fields_of p)) (zone_ends more))

-- spans of right sandboxes hold an address and end below 2 ^ 64
pub right_bounded : (p : Part) → IsRightPart p → All IsBounded (spans_of (fields_of p))
right_bounded p right =
    let most = code_at_most p.format in
    All-from_recursion IsBounded (spans_of (fields_of p)) (
      record { some = omega (arith, right.code_placed.at_least); end = omega (arith, right.code_base, right.code_placed.at_most) },
      (record { some = omega arith; end = omega (arith, right.guard_room.above, right.data_placed.at_most, data_at_most p.format) }, tt),
    )

-- ==== Gates that follow one another.

-- where an index has none, it is past the end
pub past : {X : Type 0} (xs : List X) (i : ℕ) → None ≡ slice_get xs i → length xs ≤ i
past [] i e = omega arith
past (x ∷ xs) zero e = absurd cc
past (x ∷ xs) (suc i) e = omega (arith, past xs i e)

-- above the last of ascending gates is above all
pub above_last : (gs : List Gate) (at last : ℕ) → AllPairs (λ g h. g.address < h.address) gs → Some last ≡ slice_get (map (λ g. g.address) gs) (length gs - 1)
    → IsTrue (ltb last at) ↔ All (λ h. h.address < at) gs
above_last gs at last ascending is =
    let there = found (slice_get gs (length gs - 1)) (is ∙ slice_get-map (λ (g : Gate). g.address) gs (length gs - 1)) in
    let within = slice_get_within gs (length gs - 1) there.0 there.1 in
    let address : (d : Gate) → (get_or gs (length gs - 1) d).address ≡ last = λ d. ap (λ (g : Gate). g.address) (get_or_from_slice_get gs (length gs - 1) there.0 d there.1) ∙ there.2 in (
      λ t k d inside. let lt : last < at = ltb-true last at t in elim (cases_lt k (length gs - 1)) [
        | inl below ↦ (let less : (get_or gs k d).address < (get_or gs (length gs - 1) d).address = ascending k (length gs - 1) d below within in omega (arith, address d))
        | inr from ↦
            let k_is : length gs - 1 ≡ k = omega arith in
            let same : (get_or gs (length gs - 1) d).address ≡ (get_or gs k d).address = ap (λ (j : ℕ). (get_or gs j d).address) k_is in
            omega (arith, address d)
      ],
      λ all. let h : (get_or gs (length gs - 1) there.0).address < at = all (length gs - 1) there.0 within in lt-ltb last at (omega (arith, address there.0)),
    )
  where
    found : (o : Option Gate) → Some last ≡ option_map (λ g. g.address) o → (g : Gate) × (o ≡ Some g) × (g.address ≡ last)
    found None e = absurd cc
    found (Some g) e = (g, refl, cc)

-- where there is no last one, there is none
pub none_last : (gs : List Gate) (at : ℕ) → None ≡ slice_get (map (λ g. g.address) gs) (length gs - 1) → All (λ h. h.address < at) gs
none_last gs at e k d lt = absurd (omega (arith, past (map (λ g. g.address) gs) (length gs - 1) e, length-map gs (λ g. g.address)))

-- one at the end is the last
pub last_push : (gs : List Gate) (g : Gate) → Some g.address ≡ slice_get (map (λ h. h.address) (gs ++ g ∷ [])) (length (gs ++ g ∷ []) - 1)
last_push gs g =
    let n : length (gs ++ g ∷ []) - 1 ≡ length gs = omega (arith, length_push gs g) in
    let there : slice_get (gs ++ g ∷ []) (length gs) ≡ Some g = slice_get-get_or (gs ++ g ∷ []) (length gs) g (omega (arith, length_push gs g)) ∙ ap (λ (x : Gate). Some x) (get_or_push gs g g (length gs) refl) in
    sym (slice_get-map (λ (h : Gate). h.address) (gs ++ g ∷ []) (length (gs ++ g ∷ []) - 1) ∙ rw (n, there) refl)

-- a gate that passes its tests may come next
pub next_gate : (region : Span) (gs : List Gate) (g : Gate) → AreGates region gs → IsBundleStart region g.address → g.service ≤ service_most
    → All (λ h. h.address < g.address) gs → AreGates region (gs ++ g ∷ [])
next_gate region gs g are start service above = record {
  starts = All-push (λ h. IsBundleStart region h.address) gs g are.starts start;
  services = All-push (λ h. h.service ≤ service_most) gs g are.services service;
  ascending = all_pairs_push (λ h i. h.address < i.address) gs g are.ascending above;
}

-- the gates at the front of right ones are right
pub front_gates : (region : Span) (xs ys : List Gate) → AreGates region (xs ++ ys) → AreGates region xs
front_gates region xs ys are =
    let at : (k : ℕ) (d : Gate) → k < length xs → get_or (xs ++ ys) k d ≡ get_or xs k d = λ k d lt. get_or_append_left xs ys d k lt in
    record {
      starts = λ k d lt. rw (at k d lt) at (are.starts k d (omega (arith, length-append xs ys)));
      services = λ k d lt. rw (at k d lt) at (are.services k d (omega (arith, length-append xs ys)));
      ascending = λ i j d lt within. rw (at i d (omega arith), at j d within) at (are.ascending i j d lt (omega (arith, length-append xs ys)));
    }

-- a gate that may come next is above those before it
pub next_above : (region : Span) (gs : List Gate) (g : Gate) → AreGates region (gs ++ g ∷ []) → All (λ h. h.address < g.address) gs
next_above region gs g are k d lt =
    let here : get_or (gs ++ g ∷ []) (length gs) d ≡ g = get_or_push gs g d (length gs) refl in
    rw (get_or_append_left gs (g ∷ []) d k lt, here) at (are.ascending k (length gs) d lt (omega (arith, length_push gs g)))

-- ---- in bytes

-- one in the middle of a list of spellings
pub flat_split : {X : Type 0} (h : X → List ℕ) (xs : List X) (y : X) (ys : List X) (rest : List ℕ) → flat_map h (xs ++ y ∷ ys) ++ rest ≡ flat_map h xs ++ (h y ++ (flat_map h ys ++ rest))
flat_split h xs y ys rest =
    ap (λ l. l ++ rest) (flat_map-append h xs (y ∷ ys)) ∙ append_assoc (flat_map h xs) (h y ++ flat_map h ys) rest ∙ ap (λ l. flat_map h xs ++ l) (append_assoc (h y) (flat_map h ys) rest)
