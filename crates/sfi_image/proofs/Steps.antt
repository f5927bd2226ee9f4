-- Where each step leads, which faults it meets, and where bytes end.
use Rattle.std.proofs.Math.Seq.{take-append_seam}
use Rattle.sfi_image.specs.declared.fault.LayoutFault.TheVariants as faults
use Rattle.sfi_image.specs.declared.want.Stage.TheVariants as stage
use Rattle.sfi_image.proofs.Standing.{leads, gates_stand, code_stand, init_stand, rest_from, region}
use Rattle.sfi_image.proofs.Prelude.{◌≡◌, ◌↔◌, IsTrue, Bool, true, false, Option, slice_get, ℕ, ◌+◌, ◌-◌, ◌<◌, ◌≤◌, ◌⊎◌, List, [], ◌∷◌, ◌++◌, length, map, take, drop, refl, sym, ap, ◌∙◌, subst, arith, append_assoc, inl, inr, None, Some, All, flat_map, length-append, length_push, append-nil, map_push, length-map, All-push, Format, magic, Gate, Fields, Span, LayoutFault, Part, number, fields, gate, part, IsWord, AreFieldWords, AreGateWords, code_span, spans, spans_of, AreGates, AreOf, IsFirstFault, field_tests, IsFault, IsPartFault, IsGateShort, IsGateWrong, AreContentsShort, ImagePrefix, AreBundlesWithin, prefix_bytes, head, IsHead, IsOpened, IsRightPrefix, after_init, after_code, after_gates, HasFaultWhateverFollows, Empty, AfterMagic, AfterCount, InGates, InCode, InInit, LayoutReader, StandsFor, Leads, stage_after_init, stage_after_code, stage_after_gates, count_below, format_of, spelling, CutShort, Trails, WholeIsImage, Whole}

-- ==== Where each step leads, and which faults it meets.

none_gates : (region : Span) → AreGates region []
none_gates region = record { starts = λ k d h. absurd (omega arith); services = λ k d h. absurd (omega arith); ascending = λ i j d h e. absurd (omega arith) }

none_words : All AreGateWords []
none_words = λ k d h. absurd (omega arith)

-- what is said of these fields after the sandboxes that the reader's spans are of
abbrev pub AfterSpans : LayoutReader → Fields → Option LayoutFault → Type 0
AfterSpans r f found = (ps : List Part) → AreOf f.format ps → r.spans ≡ spans ps → IsFirstFault ps f field_tests found

pub fields_lead : (old new : LayoutReader) (format : Format) (n : ℕ) (ps : List Part) (s : List ℕ) (f : Fields) → StandsFor old (AfterCount format n ps) → s ≡ fields f → AreFieldWords f
    → f.format ≡ old.fields.format → IsFirstFault ps f field_tests None → new.count ≡ old.count → new.begun ≡ old.begun + 1 → new.spans ≡ old.spans ++ spans_of f → new.fields ≡ f → new.gates ≡ []
    → new.passed ≡ 0 → new.code_read ≡ 0 → new.init_read ≡ 0 → new.next ≡ stage_after_gates 0 f.gate_count → Leads (AfterCount format n ps) s new
fields_lead old new format n ps s f' h e words kind passed count begun spans_are fields_are gates p c i to =
    let k = h.kept.1 in
    let of : f'.format ≡ format = kind ∙ k.of in
    let opened : IsOpened n ps f' [] = record {
      before = subst (λ (g : Format). IsHead g n ps) (sym of) h.right.0;
      more = h.right.1;
      words = words;
      passed = passed;
      gate_words = none_words;
      gates = none_gates (code_span f');
    } in
    leads (AfterCount format n ps) s new (after_gates n ps f' []) h.right (f', of, e, refl) (gates_stand new n ps f' [] opened (omega arith) (record {
      count = count ∙ k.count;
      begun = begun ∙ ap (λ (j : ℕ). j + 1) k.begun;
      spans = spans_are ∙ ap (λ (b : List Span). b ++ spans_of f') k.spans;
      fields = fields_are;
      gates = gates;
    }) p c i to)

pub fields_leads : (old new : LayoutReader) (x : ImagePrefix) (s : List ℕ) (f : Fields) → StandsFor old x → old.next ≡ stage.Fields → s ≡ fields f → AreFieldWords f
    → f.format ≡ old.fields.format → AfterSpans old f None → new.count ≡ old.count → new.begun ≡ old.begun + 1 → new.spans ≡ old.spans ++ spans_of f → new.fields ≡ f → new.gates ≡ []
    → new.passed ≡ 0 → new.code_read ≡ 0 → new.init_read ≡ 0 → new.next ≡ stage_after_gates 0 f.gate_count → Leads x s new
fields_leads old new (AfterCount format n ps) s f' h is e words kind passed count begun spans_are fields_are gates p c i to =
    fields_lead old new format n ps s f' h e words kind (passed ps (subst (λ (g : Format). AreOf g ps) (sym (kind ∙ h.kept.1.of)) h.right.0.one_format) h.kept.1.spans)
    count begun spans_are fields_are gates p c i to
fields_leads old new _ s f' h is e words kind passed count begun spans_are fields_are gates p c i to = let k = h.kept.0 in absurd cc

-- the reader takes another gate, which may come next
pub gate_on : (old new : LayoutReader) (n : ℕ) (ps : List Part) (f : Fields) (gs : List Gate) (s : List ℕ) (g : Gate) → StandsFor old (InGates n ps f gs) → s ≡ gate g → AreGateWords g
    → AreGates (code_span f) (gs ++ g ∷ [])
    → new.count ≡ old.count → new.begun ≡ old.begun → new.spans ≡ old.spans → new.fields ≡ old.fields → new.gates ≡ old.gates ++ g.address ∷ []
    → new.passed ≡ old.passed → new.code_read ≡ old.code_read → new.init_read ≡ old.init_read → new.next ≡ stage_after_gates (length new.gates) old.fields.gate_count → Leads (InGates n ps f gs) s new
gate_on old new n ps f gs s g h e words right count begun spans_are fields_are gates p c i to =
    let k = h.kept.1 in
    let was = h.right.0 in
    let opened : IsOpened n ps f (gs ++ g ∷ []) = record {
      before = was.before;
      more = was.more;
      words = was.words;
      passed = was.passed;
      gate_words = All-push AreGateWords gs g was.gate_words words;
      gates = right;
    } in
    let len = length_push gs g in
    let lt = h.right.1 in
    let addresses : new.gates ≡ map (λ (y : Gate). y.address) (gs ++ g ∷ []) = gates ∙ ap (λ (as' : List ℕ). as' ++ g.address ∷ []) k.gates ∙ sym (map_push (λ (y : Gate). y.address) gs g) in
    let same_len : length new.gates ≡ length (gs ++ g ∷ []) = ap length addresses ∙ length-map (gs ++ g ∷ []) (λ (y : Gate). y.address) in
    leads (InGates n ps f gs) s new (after_gates n ps f (gs ++ g ∷ [])) h.right (g, e, refl) (gates_stand new n ps f (gs ++ g ∷ []) opened (omega (arith, len, lt)) (record {
      count = count ∙ k.count;
      begun = begun ∙ k.begun;
      spans = spans_are ∙ k.spans;
      fields = fields_are ∙ k.fields;
      gates = addresses;
    }) (p ∙ h.kept.2) (c ∙ h.kept.3) (i ∙ h.kept.4) (to ∙ ap (λ (j : ℕ). stage_after_gates j old.fields.gate_count) same_len ∙ ap (λ (y : Fields). stage_after_gates (length (gs ++ g ∷ [])) y.gate_count) k.fields))

-- which gate may come next, as its test tells it by the last address
abbrev NextIsTold : Fields → Gate → Option ℕ → Bool → Type 0
NextIsTold f g last r = (gs : List Gate) → last ≡ slice_get (map (λ h. h.address) gs) (length gs - 1) → AreGates (code_span f) gs → IsTrue r ↔ AreGates (code_span f) (gs ++ g ∷ [])

told : (old : LayoutReader) (n : ℕ) (ps : List Part) (f : Fields) (gs : List Gate) (g : Gate) (last : Option ℕ) (r : Bool) → StandsFor old (InGates n ps f gs)
    → last ≡ slice_get old.gates (length old.gates - 1) → NextIsTold old.fields g last r → IsTrue r ↔ AreGates (code_span f) (gs ++ g ∷ [])
told old n ps f gs g last r h is tells =
    let k = h.kept.1 in
    let len : length old.gates ≡ length gs = ap length k.gates ∙ length-map gs (λ (y : Gate). y.address) in
    let at : last ≡ slice_get (map (λ (y : Gate). y.address) gs) (length gs - 1) = is ∙ rw (len, k.gates) refl in
    subst (λ (y : Fields). NextIsTold y g last r) k.fields tells gs at h.right.0.gates

pub gate_leads : (old new : LayoutReader) (x : ImagePrefix) (s : List ℕ) (g : Gate) (last : Option ℕ) → StandsFor old x → old.next ≡ stage.Gate → s ≡ gate g → AreGateWords g
    → last ≡ slice_get old.gates (length old.gates - 1) → NextIsTold old.fields g last true
    → new.count ≡ old.count → new.begun ≡ old.begun → new.spans ≡ old.spans → new.fields ≡ old.fields → new.gates ≡ old.gates ++ g.address ∷ []
    → new.passed ≡ old.passed → new.code_read ≡ old.code_read → new.init_read ≡ old.init_read → new.next ≡ stage_after_gates (length new.gates) old.fields.gate_count → Leads x s new
gate_leads old new (InGates n ps f gs) s g last h is e words at tells = gate_on old new n ps f gs s g h e words ((told old n ps f gs g last true h at tells).0 refl)
gate_leads old new _ s g last h is e words at tells = let k = h.kept.0 in absurd cc

pub code_leads : (old new : LayoutReader) (x : ImagePrefix) (s : List ℕ) → StandsFor old x → old.next ≡ stage.Code → AreBundlesWithin (old.fields.code_size - old.code_read) (length s)
    → new.count ≡ old.count → new.begun ≡ old.begun → new.spans ≡ old.spans → new.fields ≡ old.fields → new.gates ≡ old.gates
    → new.passed ≡ old.passed + count_below (old.fields.code_base + (old.code_read + length s)) (drop old.passed old.gates)
    → new.code_read ≡ old.code_read + length s → new.init_read ≡ old.init_read
    → new.next ≡ stage_after_code (old.code_read + length s) old.fields.code_size old.fields.init_len old.begun old.count → Leads x s new
code_leads old new (InCode n ps f gs code) s h is len count begun spans_are fields_are gates p c i to =
    let k = h.kept.1 in
    let opened = h.right.0 in
    let even = h.right.2 in
    let lt = h.right.3 in
    let whole = len.whole in
    let room : length s ≤ f.code_size - length code = rw (k.head.fields, k.code_read) at len.inside in
    let more : length (code ++ s) ≡ length code + length s = length-append code s in
    let end : old.fields.code_base + (old.code_read + length s) ≡ f.code_base + length (code ++ s) = rw (k.head.fields, k.code_read, ← more) refl in
    let after = rest_from (f.code_base + length code) (f.code_base + length (code ++ s)) gs old.gates old.passed (omega arith) k.passed k.rest in
    let passed_is : new.passed ≡ old.passed + count_below (f.code_base + length (code ++ s)) (drop old.passed old.gates) =
    p ∙ ap (λ (a : ℕ). old.passed + count_below a (drop old.passed old.gates)) end in
    let read : new.code_read ≡ length (code ++ s) = c ∙ ap (λ (j : ℕ). j + length s) k.code_read ∙ sym more in
    let where_to : new.next ≡ stage_after_code (length (code ++ s)) f.code_size f.init_len (length ps + 1) n =
    to ∙ rw (k.head.fields, k.head.begun, k.head.count, k.code_read, ← more) refl in
    leads (InCode n ps f gs code) s new (after_code n ps f gs (code ++ s)) h.right refl (code_stand new n ps f gs (code ++ s) opened h.right.1 (omega arith) (omega arith) (record {
      head = record {
        count = count ∙ k.head.count;
        begun = begun ∙ k.head.begun;
        spans = spans_are ∙ k.head.spans;
        fields = fields_are ∙ k.head.fields;
        gates = gates ∙ k.head.gates;
      };
      code_read = read;
      init_read = i ∙ k.init_read;
      passed = rw (passed_is, gates) after.0;
      rest = rw (passed_is, gates) after.1;
    }) where_to)
code_leads old new _ s h is len count begun spans_are fields_are gates p c i to = let k = h.kept.0 in absurd cc

pub init_leads : (old new : LayoutReader) (x : ImagePrefix) (s : List ℕ) → StandsFor old x → old.next ≡ stage.Init → 1 ≤ length s → length s + old.init_read ≤ old.fields.init_len
    → new.count ≡ old.count → new.begun ≡ old.begun → new.spans ≡ old.spans → new.fields ≡ old.fields → new.gates ≡ old.gates
    → new.init_read ≡ old.init_read + length s
    → new.next ≡ stage_after_init (old.init_read + length s) old.fields.init_len old.begun old.count → Leads x s new
init_leads old new (InInit n ps f gs code init) s h is some room count begun spans_are fields_are gates i to =
    let k = h.kept.1 in
    let read = h.kept.2 in
    let more : length (init ++ s) ≡ length init + length s = length-append init s in
    let room' : length s + length init ≤ f.init_len = rw (read, k.fields) at room in
    let where_to : new.next ≡ stage_after_init (length (init ++ s)) f.init_len (length ps + 1) n =
    to ∙ rw (k.fields, k.begun, k.count, read, ← more) refl in
    leads (InInit n ps f gs code init) s new (after_init n ps f gs code (init ++ s)) h.right refl (init_stand new n ps f gs code (init ++ s) h.right.0 h.right.1 h.right.2 (omega (arith, more)) (record {
      count = count ∙ k.count;
      begun = begun ∙ k.begun;
      spans = spans_are ∙ k.spans;
      fields = fields_are ∙ k.fields;
      gates = gates ∙ k.gates;
    }) (i ∙ ap (λ (j : ℕ). j + length s) read ∙ sym more) where_to)
init_leads old new _ s h is some room count begun spans_are fields_are gates i to = let k = h.kept.0 in absurd cc

-- ---- faults

pub head_fault : (format : Format) (n : ℕ) (ps : List Part) (rest : List ℕ) (k : LayoutFault) → IsHead format n ps → length ps < n → IsPartFault format ps rest k
    → IsFault (head format n ps ++ rest) k
head_fault format n ps rest k h lt wrong =
    inr (inr (
      format,
      number n ++ (flat_map part ps ++ rest),
      simp append_assoc,
      inr (n, flat_map part ps ++ rest, refl, (let most = h.at_most in omega arith), inr (h.at_least, h.at_most, (ps, rest, refl, h.right, h.one_format, inl (lt, wrong)))),
    ))

-- what is wrong after right fields and gates
pub body_fault : (n : ℕ) (ps : List Part) (f : Fields) (gs : List Gate) (rest : List ℕ) (k : LayoutFault) → IsOpened n ps f gs
    → IsGateShort f gs rest k ⊎ (IsGateWrong f gs rest k ⊎ AreContentsShort f gs rest k) → IsFault (head f.format n ps ++ (fields f ++ (flat_map gate gs ++ rest))) k
body_fault n ps f gs rest k opened wrong =
    head_fault f.format n ps (fields f ++ (flat_map gate gs ++ rest)) k opened.before opened.more
    (inr (f, flat_map gate gs ++ rest, refl, opened.words, refl, inr (opened.passed, (gs, rest, refl, opened.gate_words, opened.gates, wrong))))

pub magic_fault : (old : LayoutReader) (x : ImagePrefix) (s : List ℕ) → StandsFor old x → old.next ≡ stage.Magic → length s ≡ 4 → ((format : Format) → s ≡ magic format → ⊥) → HasFaultWhateverFollows (prefix_bytes x ++ s) faults.Magic
magic_fault old Empty s h is len wrong =
    λ more. let first : take 4 (s ++ more) ≡ s = ap (λ (j : ℕ). take j (s ++ more)) (sym len) ∙ take-append_seam s more in
    inr (inl (omega (arith, length-append s more), λ format e. wrong format (sym first ∙ e), refl))
magic_fault old _ s h is len wrong = let k = h.kept.0 in absurd cc

pub count_fault : (old : LayoutReader) (x : ImagePrefix) (s : List ℕ) (m : ℕ) → StandsFor old x → old.next ≡ stage.Count → s ≡ number m → IsWord m → (1 ≤ m → m ≤ 16 → ⊥) → HasFaultWhateverFollows (prefix_bytes x ++ s) faults.Count
count_fault old (AfterMagic format) s m h is e word wrong =
    λ more. inr (inr (format, s ++ more, append_assoc (magic format) s more, inr (m, more, ap (λ (t : List ℕ). t ++ more) e, word, inl (λ r. wrong r.0 r.1, refl))))
count_fault old _ s m h is e word wrong = let k = h.kept.0 in absurd cc

pub fields_wrong : (old : LayoutReader) (format : Format) (n : ℕ) (ps : List Part) (s : List ℕ) (f : Fields) (k : LayoutFault) → StandsFor old (AfterCount format n ps) → s ≡ fields f → AreFieldWords f
    → f.format ≡ old.fields.format → IsFirstFault ps f field_tests (Some k) → HasFaultWhateverFollows (prefix_bytes (AfterCount format n ps) ++ s) k
fields_wrong old format n ps s f' k' h e words kind wrong =
    λ more. rw (append_assoc (head format n ps) s more) (head_fault format n ps (s ++ more) k' h.right.0 h.right.1
    (inr (f', more, ap (λ (t : List ℕ). t ++ more) e, words, kind ∙ h.kept.1.of, inl wrong)))

pub fields_fault : (old : LayoutReader) (x : ImagePrefix) (s : List ℕ) (f : Fields) (k : LayoutFault) → StandsFor old x → old.next ≡ stage.Fields → s ≡ fields f → AreFieldWords f
    → f.format ≡ old.fields.format → AfterSpans old f (Some k) → HasFaultWhateverFollows (prefix_bytes x ++ s) k
fields_fault old (AfterCount format n ps) s f' k' h is e words kind wrong =
    fields_wrong old format n ps s f' k' h e words kind (wrong ps (subst (λ (g : Format). AreOf g ps) (sym (kind ∙ h.kept.1.of)) h.right.0.one_format) h.kept.1.spans)
fields_fault old _ s f' k' h is e words kind wrong = let k = h.kept.0 in absurd cc

-- a gate that may not come next
pub gate_wrong : (n : ℕ) (ps : List Part) (f : Fields) (gs : List Gate) (s more : List ℕ) (g : Gate) → IsRightPrefix (InGates n ps f gs) → s ≡ gate g ++ more → AreGateWords g
    → (AreGates (code_span f) (gs ++ g ∷ []) → ⊥) → IsFault (prefix_bytes (InGates n ps f gs) ++ s) faults.Gates
gate_wrong n ps f gs s more g right e words none =
    let regroup : (head f.format n ps ++ (fields f ++ flat_map gate gs)) ++ s ≡ head f.format n ps ++ (fields f ++ (flat_map gate gs ++ s)) = simp append_assoc in
    rw (regroup) (body_fault n ps f gs s faults.Gates right.0 (inr (inl (right.1, g, more, e, words, none, refl))))

pub gate_fault : (old : LayoutReader) (x : ImagePrefix) (s : List ℕ) (g : Gate) (last : Option ℕ) → StandsFor old x → old.next ≡ stage.Gate → s ≡ gate g → AreGateWords g
    → last ≡ slice_get old.gates (length old.gates - 1) → NextIsTold old.fields g last false → HasFaultWhateverFollows (prefix_bytes x ++ s) faults.Gates
gate_fault old (InGates n ps f gs) s g last h is e words at tells =
    λ more. rw (append_assoc (prefix_bytes (InGates n ps f gs)) s more) (gate_wrong n ps f gs (s ++ more) more g h.right (ap (λ (t : List ℕ). t ++ more) e) words (λ are. let no = (told old n ps f gs g last false h at tells).1 are in absurd cc))
gate_fault old _ s g last h is e words at tells = let k = h.kept.0 in absurd cc

-- bytes that are all spelled
pub no_rest : (bytes front rest : List ℕ) → bytes ≡ front ++ rest → length rest ≡ 0 → bytes ≡ front
no_rest bytes front [] e len = e ∙ append-nil front
no_rest bytes front (b ∷ rest) e len = absurd (omega arith)

-- ==== Where bytes end after a prefix.

-- the code is cut short
pub code_short : (n : ℕ) (ps : List Part) (f : Fields) (gs : List Gate) (code rest : List ℕ) → IsRightPrefix (InCode n ps f gs code) → length code + length rest < f.code_size
    → IsFault (prefix_bytes (InCode n ps f gs code) ++ rest) faults.Short
code_short n ps f gs code rest right less =
    let regroup : (head f.format n ps ++ (fields f ++ (flat_map gate gs ++ code))) ++ rest ≡ head f.format n ps ++ (fields f ++ (flat_map gate gs ++ (code ++ rest))) = simp append_assoc in
    rw (regroup) (body_fault n ps f gs (code ++ rest) faults.Short right.0 (inr (inr (right.1, omega (arith, length-append code rest), refl))))

pub cut_short : CutShort
cut_short Empty rest right less = inl (less, refl)
cut_short (AfterMagic format) rest right less = inr (inr (format, rest, refl, inl (less, refl)))
cut_short (AfterCount format n ps) rest right less = head_fault format n ps rest faults.Short right.0 right.1 (inl (less, refl))
cut_short (InGates n ps f gs) rest right less =
    let regroup : (head f.format n ps ++ (fields f ++ flat_map gate gs)) ++ rest ≡ head f.format n ps ++ (fields f ++ (flat_map gate gs ++ rest)) = simp append_assoc in
    rw (regroup) (body_fault n ps f gs rest faults.Short right.0 (inl (right.1, less, refl)))
cut_short (InCode n ps f gs code) rest right less =
    let reg = region ps f right.0.words right.0.passed in
    let size = reg.size_is in
    let even = right.2 in
    let inside = right.3 in
    code_short n ps f gs code rest right (omega arith)
cut_short (InInit n ps f gs code init) rest right less =
    let all = right.2 in
    let inside = right.3 in
    let regroup : (head f.format n ps ++ (fields f ++ (flat_map gate gs ++ (code ++ init)))) ++ rest ≡ head f.format n ps ++ (fields f ++ (flat_map gate gs ++ (code ++ (init ++ rest)))) = simp append_assoc in
    rw (regroup) (body_fault n ps f gs (code ++ (init ++ rest)) faults.Short right.0 (inr (inr (right.1, omega (arith, length-append code (init ++ rest), length-append init rest), refl))))
cut_short (Whole ps) rest right less = absurd less

pub trails : Trails
trails ps rest right some =
    inr (inr (
      format_of ps,
      number (length ps) ++ (flat_map part ps ++ rest),
      simp append_assoc,
      inr (length ps, flat_map part ps ++ rest, refl, (let most = right.at_most in omega arith), inr (right.at_least, right.at_most, (ps, rest, refl, right.right, right.one_format, inr (refl, some, refl)))),
    ))

pub whole_is_image : WholeIsImage
unfolding spelling
whole_is_image ps right = record { bytes_are = refl; layout = record { at_least_one = right.at_least; at_most = right.at_most; one_format = right.one_format; right = right.right } }
