-- What is read of bytes, and what a finding in it is worth.
use Rattle.sfi_c.proofs.Prelude.{◌≡◌, ◌∙◌, ℕ, ◌+◌, ◌*◌, ◌<◌, List, [], ◌∷◌, ◌++◌, length, refl, sym, ap, subst, arith, inr, length-append, take, Part, Finding}
use Rattle.std.proofs.Common.{◌≤◌, ◌⊎◌, ◌%◌, zero, suc, inl, append_assoc, true, false, Some, None, Option}
use Rattle.std.specs.Prelude.{is_some}
use Rattle.std.proofs.lemmas.List.{length-take, append-nil}
use Rattle.std.specs.List.{All, flat_map}
use Rattle.sfi_formats.specs.declared.format.Format.{Format}
unfoldable use Rattle.sfi_formats.specs.Formats.{magic}
use Rattle.sfi_formats.proofs.Formats.{length_of_magic}
use Rattle.sfi_image.specs.declared.fault.LayoutFault.{LayoutFault}
use Rattle.sfi_image.specs.declared.fault.LayoutFault.TheVariants.{Short}
use Rattle.sfi_image.specs.declared.fields.Fields.{Fields}
use Rattle.sfi_image.specs.declared.part.Gate.{Gate}
use Rattle.sfi_image.specs.declared.want.Want.TheVariants as wants
use Rattle.sfi_image.specs.Spelling.{fields_of, format_of, number, fields, gate, part, spelling}
use Rattle.sfi_image.specs.Parts.{IsRightPart, AreOf}
use Rattle.sfi_image.specs.Faults.{IsFault}
use Rattle.sfi_image.specs.Prefixes.{ImagePrefix, prefix_bytes, want_of, IsLess, IsRightPrefix, HasFaultWhateverFollows, part_of}
use Rattle.sfi_image.specs.Prefixes.ImagePrefix.{Empty, AfterMagic, AfterCount, InGates, InCode, InInit, Whole}
use Rattle.sfi_image.proofs.Standing.{region}
use Rattle.sfi_image.proofs.Regions.{right_words}
use Rattle.sfi_image.proofs.Fronts.{same_front, same_number, same_gate, same_fields, same_part, same_list, fronts, part_split}
use Rattle.sfi_image.proofs.Formats.{one_magic, length-magic}
use Rattle.sfi_image.proofs.Facts.{one_fault, never_both, cut_short, whole_is_image}
use Rattle.sfi_rules.specs.declared.owed.Owed.{Owed}
use Rattle.sfi_rules.specs.declared.owed.Owed.TheVariants as owed
use Rattle.sfi_rules.specs.Findings.{AreFindings, AreImageFindings}
use Rattle.sfi_rules.proofs.Facts.{one_image_list}
use Rattle.sfi_safety.proofs.Places.{nothing_before}
use Rattle.sfi_safety.specs.Clean.{IsAccepted}
use Rattle.sfi_check.specs.Feeds.{AreFrontFindings, AreFindingsSoFar, AreFindingsWithin, IsFed}
use Rattle.sfi_image.specs.declared.layout_reader.LayoutReader.{LayoutReader}
use Rattle.sfi_image.specs.declared.want.Stage.TheVariants as stage
use Rattle.sfi_image.specs.Keeping.{StandsFor}
use Rattle.sfi_check.specs.declared.feed.Feed.{Feed}
use Rattle.sfi_check.proofs.Feeding.{fed_held, fed_fault, no_fault as no_fault_met}
use Rattle.sfi_c.specs.Streams.{HaveFrontFindings, AreRefusedAlready}
use Rattle.sfi_image.proofs.Seeking.{length-gates, length-number}
use Rattle.sfi_c.proofs.Bounds.{never_short}
use Rattle.sfi_c.proofs.FrontFindings.{none_so_far, none_of_part, first_clean, Reads, IsPartial, HasNoCode, HasCode, IsAllThereIs, no_part, no_code, begins, same_code}

-- ---- a prefix by what lies after its whole sandboxes

-- code of one more, and the findings up to its end
record HasCodeFindings (format : Format) (ps : List Part) (tail : List ℕ) (found : List Finding) : Type 0 where
  fields : Fields
  gates : List Gate
  code : List ℕ
  rest : List ℕ
  kept : Owed
  has : HasCode format fields gates code rest tail
  there : IsAllThereIs fields code rest
  whole : length code % 16 ≡ 0
  within : AreFindingsWithin ps fields gates code found kept

record IsView (format : Format) (bytes : List ℕ) (found : List Finding) : Type 0 where
  parts : List Part
  tail : List ℕ
  reads : Reads format parts tail bytes
  partial : IsPartial format tail
  findings : (AreImageFindings parts found × HasNoCode format tail) ⊎ HasCodeFindings format parts tail found

-- it is shorter than a count and finds nothing, or has such a view
abbrev HasView : List ℕ → List Finding → Type 0
HasView bytes found = ((length bytes < 8) × (found ≡ [])) ⊎ ((format : Format) × IsView format bytes found)

-- before the first sandbox's end, or after one
between : (format : Format) (n : ℕ) (ps : List Part) (held bytes : List ℕ) (found : List Finding) → n ≤ 16 → AreOf format ps → All IsRightPart ps
    → bytes ≡ (magic format ++ (number n ++ flat_map part ps)) ++ held → length held < 28 → AreImageFindings ps found → IsView format bytes found
between format n ps held bytes found few of right e short are = record {
  parts = ps;
  tail = held;
  reads = record { count = n; few = few; of = of; right = right; bytes_are = e ∙ simp append_assoc };
  partial = inl short;
  findings = inl (are, inl short);
}

view : (x : ImagePrefix) (held bytes : List ℕ) (found : List Finding) (owed : Owed) → IsRightPrefix x → bytes ≡ prefix_bytes x ++ held → IsLess (length held) (want_of x) ⊎ ((want_of x ≡ wants.End) × (held ≡ []))
    → AreFrontFindings x found owed → HasView bytes found
view Empty held bytes found owed right e (inl less) are = inl (omega (arith, less, ap length e), are)
view (AfterMagic format) held bytes found owed right e (inl less) are = inl (omega (arith, less, ap length e, length-magic format held), are)
view (AfterCount format n ps) held bytes found owed right e (inl less) are = inr (format, between format n ps held bytes found right.0.at_most right.0.one_format right.0.right.each e less are)
view (InGates n ps f gs) held bytes found owed right e (inl less) are =
    let o = right.0 in
    let rest = flat_map gate gs ++ held in
    let long : length rest ≡ 8 * length gs + length held = omega (arith, length-append (flat_map gate gs) held, length-gates gs) in
    let more = right.1 in
    inr (
      f.format,
      record {
        parts = ps;
        tail = fields f ++ rest;
        reads = record { count = n; few = o.before.at_most; of = o.before.one_format; right = o.before.right.each; bytes_are = e ∙ simp append_assoc };
        partial = inr (f, rest, o.words, refl, refl, omega (arith, long, more, less));
        findings = inl (are, inr (f, rest, o.words, refl, refl, omega (arith, long, more, less)));
      },
    )
view (InCode n ps f gs code) held bytes found owed right e (inl less) are =
    let o = right.0 in
    let rest = flat_map gate gs ++ (code ++ held) in
    let size = (region ps f o.words o.passed).size_is in
    let even = right.2 in
    let more = right.3 in
    let inside : length code + length held < f.code_size = omega (arith, size, even, more, less) in
    let long : length rest ≡ 8 * length gs + (length code + length held) = omega (arith, length-append (flat_map gate gs) (code ++ held), length-gates gs, length-append code held) in
    inr (
      f.format,
      record {
        parts = ps;
        tail = fields f ++ rest;
        reads = record { count = n; few = o.before.at_most; of = o.before.one_format; right = o.before.right.each; bytes_are = e ∙ simp append_assoc };
        partial = inr (f, rest, o.words, refl, refl, omega (arith, long, inside, right.1));
        findings = inr (record {
          fields = f;
          gates = gs;
          code = code;
          rest = held;
          kept = owed;
          has = record { words = o.words; kind = refl; gate_words = o.gate_words; all_gates = right.1; inside = omega (arith, more); tail_is = refl };
          there = inr (less, inside);
          whole = even;
          within = are;
        });
      },
    )
view (InInit n ps f gs code init) held bytes found owed right e (inl less) are =
    let o = right.0 in
    let rest = flat_map gate gs ++ (code ++ (init ++ held)) in
    let size = (region ps f o.words o.passed).size_is in
    let all = right.2 in
    let more = right.3 in
    let long : length rest ≡ 8 * length gs + (length code + (length init + length held)) = omega (arith, length-append (flat_map gate gs) (code ++ (init ++ held)), length-gates gs, length-append code (init ++ held), length-append init held) in
    inr (
      f.format,
      record {
        parts = ps;
        tail = fields f ++ rest;
        reads = record { count = n; few = o.before.at_most; of = o.before.one_format; right = o.before.right.each; bytes_are = e ∙ simp append_assoc };
        partial = inr (f, rest, o.words, refl, refl, omega (arith, long, right.1, all, more, less));
        findings = inr (record {
          fields = f;
          gates = gs;
          code = code;
          rest = init ++ held;
          kept = owed;
          has = record { words = o.words; kind = refl; gate_words = o.gate_words; all_gates = right.1; inside = omega (arith, all); tail_is = refl };
          there = inl all;
          whole = omega (arith, size, all);
          within = are;
        });
      },
    )
view (Whole ps) held bytes found owed right e (inl less) are = absurd less
view (Whole ps) held bytes found owed right e (inr end) are =
    inr (format_of ps, between (format_of ps) (length ps) ps held bytes found right.at_most right.one_format right.right.each e (omega (arith, ap length end.1)) are)
view x held bytes found owed right e (inr end) are = let no = end.0 in absurd cc

viewed : (bytes : List ℕ) (found : List Finding) → HaveFrontFindings bytes found → HasView bytes found
viewed bytes found h = view h.at h.read.held bytes found h.owed h.read.right h.read.bytes_are h.read.rests h.found_are

-- ---- a view with none, and one of fewer bytes

abbrev Fits : Format → Part → Type 0
Fits format p = (p.format ≡ format) × IsRightPart p

same : (format : Format) (p q : Part) (r s : List ℕ) → Fits format p → Fits format q → part p ++ r ≡ part q ++ s → (p ≡ q) × (r ≡ s)
same format p q r s a b e = same_part p q r s (right_words p a.1) (right_words q b.1) (a.0 ∙ sym b.0) e

fit : (format : Format) (ps : List Part) → AreOf format ps → All IsRightPart ps → All (Fits format) ps
fit format ps of right = λ k d below. (of k d below, right k d below)

-- what lies after the magic and the count
peeled : (f g : Format) (n m : ℕ) (r s : List ℕ) → n ≤ 16 → m ≤ 16 → magic f ++ (number n ++ r) ≡ magic g ++ (number m ++ s) → (f ≡ g) × (r ≡ s)
peeled f g n m r s few less e =
    let first = same_front (magic f) (magic g) (number n ++ r) (number m ++ s) (length_of_magic f ∙ sym (length_of_magic g)) e in
    (one_magic f g first.0, (same_number n m r s (omega (arith, few)) (omega (arith, less)) first.1).1)

clean_parts : (format : Format) (bytes : List ℕ) (y : IsView format bytes []) → AreImageFindings y.parts []
clean_parts format bytes y = elim y.findings [
  | inl a ↦ a.0
  | inr b ↦ subst (λ (l : List Finding). AreImageFindings y.parts l) (nothing_before b.within.before b.within.here (sym b.within.found_is)).0 b.within.before_are
]

-- none where both parts of a list are none
no_more : (xs ys found : List Finding) → found ≡ xs ++ ys → xs ≡ [] → ys ≡ [] → found ≡ []
no_more xs ys found e a b = e ∙ rw (a, b) refl

module _ (format : Format) (bytes more longer : List ℕ) (found : List Finding) (x : IsView format bytes found) (y : IsView format longer []) where
  -- the sandboxes before are the same
  same_parts : x.parts ≡ y.parts → x.tail ++ more ≡ y.tail → found ≡ []
  same_parts ps tails =
      let clean = subst (λ (l : List Part). AreImageFindings l []) (sym ps) (clean_parts format longer y) in
      elim x.findings [
        | inl a ↦ one_image_list x.parts found [] a.0 clean
        | inr a ↦ elim y.findings [
          | inl b ↦ absurd (no_code format a.fields a.gates a.code a.rest x.tail more y.tail a.has b.1 tails)
          | inr b ↦
              (let on = same_code format a.fields b.fields a.gates b.gates a.code a.rest x.tail more b.code b.rest y.tail a.has b.has b.there a.whole b.whole tails in
              let none = nothing_before b.within.before b.within.here (sym b.within.found_is) in
              let here = subst (λ (l : List Finding). AreFindingsSoFar (length y.parts) b.fields b.gates b.code l b.kept) none.1 b.within.here_are in
              let count = subst (λ (l : List Part). AreFindingsSoFar (length l) b.fields b.gates b.code [] b.kept) (sym ps) here in
              let of_f = subst (λ (f : Fields). AreFindingsSoFar (length x.parts) f b.gates b.code [] b.kept) (sym on.0) count in
              let of_gs = subst (λ (gs : List Gate). AreFindingsSoFar (length x.parts) a.fields gs b.code [] b.kept) (sym on.1) of_f in
              let of_code = subst (λ (l : List ℕ). AreFindingsSoFar (length x.parts) a.fields a.gates l [] b.kept) on.3 of_gs in
              let inside : length (a.code ++ on.2) ≤ a.fields.code_size = omega (arith, b.has.inside, ap length on.3, ap (λ (f : Fields). f.code_size) on.0) in
              no_more a.within.before a.within.here found a.within.found_is (one_image_list x.parts a.within.before [] a.within.before_are clean)
              (none_so_far (length x.parts) a.fields a.gates a.code on.2 a.within.here a.kept b.kept a.within.here_are of_code inside))
        ]
      ]

  -- the second has one more
  goes_on : (p : Part) (qs : List Part) (after : List ℕ) → Fits format p → y.parts ≡ x.parts ++ p ∷ qs → x.tail ++ more ≡ part p ++ after → found ≡ []
  goes_on p qs after fits ps tails =
      let clean = first_clean 0 x.parts (p ∷ qs) (subst (λ (l : List Part). AreImageFindings l []) ps (clean_parts format longer y)) in
      elim x.findings [
        | inl a ↦ one_image_list x.parts found [] a.0 clean.0
        | inr a ↦
            (let f = a.fields in
            let rest = flat_map gate p.gates ++ (p.code ++ (p.init ++ after)) in
            let split : fields f ++ (flat_map gate a.gates ++ (a.code ++ (a.rest ++ more))) ≡ fields (fields_of p) ++ rest =
            sym (ap (λ (l : List ℕ). l ++ more) a.has.tail_is ∙ append_assoc (fields f) (flat_map gate a.gates ++ (a.code ++ a.rest)) more
            ∙ ap (λ (l : List ℕ). fields f ++ l) (append_assoc (flat_map gate a.gates) (a.code ++ a.rest) more ∙ ap (λ (l : List ℕ). flat_map gate a.gates ++ l) (append_assoc a.code a.rest more)))
            ∙ tails ∙ part_split p after in
            let words = right_words p fits.1 in
            let head = same_fields f (fields_of p) _ _ a.has.words words.fields (a.has.kind ∙ sym fits.0) split in
            let size : f.code_size ≡ length p.code = ap (λ (g : Fields). g.code_size) head.0 in
            let gates = same_list gate _ same_gate a.gates p.gates (a.code ++ (a.rest ++ more)) (p.code ++ (p.init ++ after)) a.has.gate_words words.gates (a.has.all_gates ∙ ap (λ (g : Fields). g.gate_count) head.0) head.1 in
            let on = begins a.code p.code (a.rest ++ more) (p.init ++ after) (omega (arith, size, a.has.inside)) gates.1 in
            let is : p ≡ part_of f a.gates (a.code ++ on.0) p.init = λ k.
            let g = sym head.0 k in
            record { format = g.format; code_base = g.code_base; data_base = g.data_base; data_size = g.data_size; start = g.start; gates = sym gates.0 k; code = on.1 k; init = p.init } in
            let none = nothing_before clean.1.0 clean.1.1 (sym clean.1.4) in
            let at : 0 + length x.parts ≡ length x.parts = omega arith in
            let of_p = subst (λ (n : ℕ). AreFindings n p []) at (subst (λ (l : List Finding). AreFindings (0 + length x.parts) p l) none.0 clean.1.2) in
            no_more a.within.before a.within.here found a.within.found_is (one_image_list x.parts a.within.before [] a.within.before_are clean.0)
            (none_of_part (length x.parts) f a.gates a.code on.0 p.init a.within.here a.kept a.within.here_are (sym (ap length on.1) ∙ sym size)
            (subst (λ (q : Part). AreFindings (length x.parts) q []) is of_p)))
      ]

  none_in : longer ≡ bytes ++ more → found ≡ []
  none_in e =
      let r = x.reads in
      let s = y.reads in
      let split : magic format ++ (number r.count ++ (flat_map part x.parts ++ (x.tail ++ more))) ≡ longer = sym (e ∙ ap (λ (l : List ℕ). l ++ more) r.bytes_are ∙ simp append_assoc) in
      let after = (peeled format format r.count s.count _ _ r.few s.few (split ∙ s.bytes_are)).1 in
      elim (fronts part (Fits format) (same format) x.parts y.parts (x.tail ++ more) y.tail (fit format x.parts r.of r.right) (fit format y.parts s.of s.right) after) [
        | inl both ↦ same_parts both.0 both.1
        | inr (inl on) ↦ absurd (no_part format on.0 y.tail on.2 on.3.0 on.3.1 y.partial on.5)
        | inr (inr on) ↦ goes_on on.0 on.1 on.2 on.3 on.4 on.5
      ]

-- bytes with a view have a magic and a count
view_long : (format : Format) (bytes : List ℕ) (found : List Finding) → IsView format bytes found → 8 ≤ length bytes
view_long format bytes found x =
    let r = x.reads in
    omega (arith, ap length r.bytes_are, length-magic format (number r.count ++ (flat_map part x.parts ++ x.tail)), length-append (number r.count) (flat_map part x.parts ++ x.tail), length-number r.count)

view_format : (f g : Format) (bytes more : List ℕ) (found others : List Finding) → IsView f bytes found → IsView g (bytes ++ more) others → f ≡ g
view_format f g bytes more found others x y =
    let r = x.reads in
    let s = y.reads in
    let split : magic f ++ (number r.count ++ ((flat_map part x.parts ++ x.tail) ++ more)) ≡ bytes ++ more = sym (ap (λ (l : List ℕ). l ++ more) r.bytes_are ∙ simp append_assoc) in
    (peeled f g r.count s.count _ _ r.few s.few (split ∙ s.bytes_are)).0

-- where bytes are read without a finding, their prefix was, too
pub none_before : (bytes more : List ℕ) (found : List Finding) → HaveFrontFindings bytes found → HaveFrontFindings (bytes ++ more) [] → found ≡ []
none_before bytes more found h g = by (viewed bytes found h) (viewed (bytes ++ more) [] g)
  where
    by : HasView bytes found → HasView (bytes ++ more) [] → found ≡ []
    by (inl early) y = early.1
    by (inr x) (inl early) = absurd (omega (arith, early.0, view_long x.0 bytes found x.1, length-append bytes more))
    by (inr x) (inr y) =
        let kind = view_format x.0 y.0 bytes more found [] x.1 y.1 in
        none_in y.0 bytes more (bytes ++ more) found (subst (λ (f : Format). IsView f bytes found) kind x.1) y.1 refl

-- ---- bytes that are refused already

-- an accepted image is read whole, without a finding
accepted_front : (bytes : List ℕ) (ps : List Part) → IsAccepted bytes ps → HaveFrontFindings bytes []
unfolding spelling
accepted_front bytes ps ok = record {
  at = Whole ps;
  read = record {
    right = record { at_least = ok.image.layout.at_least_one; at_most = ok.image.layout.at_most; one_format = ok.image.layout.one_format; right = ok.image.layout.right };
    held = [];
    bytes_are = ok.image.bytes_are ∙ sym (append-nil (prefix_bytes (Whole ps)));
    rests = inr (refl, refl);
  };
  owed = owed.Nothing;
  found_are = ok.none_found;
}

pub never_accepted : (bytes more : List ℕ) (ps : List Part) → AreRefusedAlready bytes → IsAccepted (bytes ++ more) ps → ⊥
never_accepted bytes more ps (inl fault) ok = never_both (bytes ++ more) ps fault.0 ok.image (fault.1 more)
never_accepted bytes more ps (inr found) ok = found.1 (none_before bytes more found.0 found.2 (accepted_front (bytes ++ more) ps ok))

-- what is read without a finding and a fault
no_fault : (bytes : List ℕ) (x : ImagePrefix) (held : List ℕ) (k : LayoutFault) → IsRightPrefix x → bytes ≡ prefix_bytes x ++ held → IsLess (length held) (want_of x) ⊎ ((want_of x ≡ wants.End) × (held ≡ [])) → HasFaultWhateverFollows bytes k → ⊥
no_fault bytes x held k right e (inl less) fault =
    let here = subst (λ (l : List ℕ). IsFault l k) (append-nil bytes) (fault []) in
    let short = subst (λ (l : List ℕ). IsFault l Short) (sym e) (cut_short x held right less) in
    never_short bytes (subst (λ (j : LayoutFault). HasFaultWhateverFollows bytes j) (one_fault bytes k Short here short) fault)
no_fault bytes (Whole ps) held k right e (inr end) fault =
    let whole : bytes ≡ prefix_bytes (Whole ps) = e ∙ ap (λ (l : List ℕ). prefix_bytes (Whole ps) ++ l) end.1 ∙ append-nil (prefix_bytes (Whole ps)) in
    never_both (prefix_bytes (Whole ps)) ps k (whole_is_image ps right) (subst (λ (l : List ℕ). IsFault l k) (append-nil bytes ∙ whole) (fault []))
no_fault bytes x held k right e (inr end) fault = let no = end.0 in absurd cc

pub not_refused : (bytes : List ℕ) → HaveFrontFindings bytes [] → AreRefusedAlready bytes → ⊥
not_refused bytes h (inl fault) = no_fault bytes h.at h.read.held fault.0 h.read.right h.read.bytes_are h.read.rests fault.1
not_refused bytes h (inr found) = found.1 (none_before bytes [] found.0 found.2 (subst (λ (l : List ℕ). HaveFrontFindings l []) (sym (append-nil bytes)) h))

-- ---- by what a feed keeps

at_end : (r : LayoutReader) (x : ImagePrefix) → StandsFor r x → r.next ≡ stage.End → want_of x ≡ wants.End
at_end r (Whole ps) stands e = refl
at_end r x stands e = let is = stands.kept.0 in absurd cc

-- with no fault met, what is read of the bytes has as many findings as are counted
pub read_front : (f : Feed) (bytes : List ℕ) → is_some f.fault ≡ false → IsFed f bytes → (found : List Finding) × HaveFrontFindings bytes found × (f.tally.count ≡ length found)
read_front f bytes none fed =
    let h = fed_held f bytes (no_fault_met f.fault none) fed in
    let x = h.at in
    let held = take f.count f.held in (
      x.tallies.found,
      record {
        at = x.at;
        read = record {
          right = x.stands.right;
          held = held;
          bytes_are = h.bytes_are ∙ ap (λ (l : List ℕ). l ++ held) x.bytes_are;
          rests = elim h.rests [
            | inl cut ↦
                (let long : f.count ≡ length held = omega (arith, length-take f.count f.held, h.long, cut.few) in
                inl (subst (λ (n : ℕ). IsLess n (want_of x.at)) long (cut.less x.at x.stands)))
            | inr end ↦ inr (at_end f.reader x.at x.stands end.0, ap (λ (n : ℕ). take n f.held) end.1)
          ];
        };
        owed = f.tally.owed;
        found_are = x.tallies.found_are;
      },
      x.tallies.count,
    )

pub refused_by_fault : (f : Feed) (bytes : List ℕ) → is_some f.fault ≡ true → IsFed f bytes → AreRefusedAlready bytes
refused_by_fault f bytes some fed = by f.fault refl some
  where
    by : (o : Option LayoutFault) → f.fault ≡ o → is_some o ≡ true → AreRefusedAlready bytes
    by None e s = absurd cc
    by (Some k) e s = inl (k, (fed_fault f bytes k e fed).0)

pub refused_by_count : (f : Feed) (bytes : List ℕ) → is_some f.fault ≡ false → IsFed f bytes → 0 < f.tally.count → AreRefusedAlready bytes
refused_by_count f bytes none fed some =
    let r = read_front f bytes none fed in
    inr (r.0, (λ e. omega (arith, some, r.2, ap length e)), r.1)

pub counted : (f : Feed) (bytes : List ℕ) → is_some f.fault ≡ false → IsFed f bytes → AreRefusedAlready bytes → 0 < f.tally.count
counted f bytes none fed refused = by f.tally.count refl
  where
    empty : (found : List Finding) → length found ≡ 0 → found ≡ []
    empty [] e = refl
    empty (x ∷ found) e = absurd (omega arith)

    by : (n : ℕ) → f.tally.count ≡ n → 0 < f.tally.count
    by zero e =
        let r = read_front f bytes none fed in
        absurd (not_refused bytes (subst (λ (l : List Finding). HaveFrontFindings bytes l) (empty r.0 (sym r.2 ∙ e)) r.1) refused)
    by (suc n) e = omega (arith, e)
