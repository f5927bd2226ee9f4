-- Bytes have an image or a fault: a reader goes from prefix to prefix, to the image's end or to a fault.
use Rattle.sfi_image.proofs.Prelude.{◌≡◌, ℕ, ◌+◌, ◌<◌, List, [], ◌∷◌, ◌++◌, length, take, drop, refl, sym, ap, subst, ◌∙◌, arith, append_assoc, zero, suc, inl, inr, ◌⊎◌, Some, None, Option, cases_lt, append-nil, take-append-drop, length-take, length-drop, Format, Sfi1, Sfi2, Sfiw, Sfis, magic, LayoutFault, Magic, Count, Short, Trailing, Part, number, fields, gate, AreFieldWords, code_span, spans_of, IsFirstFault, field_tests, IsImage, IsFault, ImagePrefix, prefix_bytes, HasFaultWhateverFollows, Empty, AfterMagic, AfterCount, InGates, InCode, InInit, Whole, LayoutReader, StandsFor, Leads, count_below, stage_after_gates, stage_after_code, stage_after_init}
use Rattle.sfi_image.specs.Laws.{SomeReading}
use Rattle.sfi_image.specs.declared.fault.LayoutFault.TheVariants.{Gates}
use Rattle.sfi_image.specs.declared.want.Stage.TheVariants as stage
use Rattle.sfi_image.proofs.Fronts.{IsBytes, Spelled, IsBytes-from_all, IsBytes-drop, number_front, gate_front, fields_front}
use Rattle.sfi_image.proofs.Deciding.{decided_le, decided_both, decided_same, decided_gates, some_first_fault}
use Rattle.sfi_image.proofs.Standing.{magic_leads, count_leads}
use Rattle.sfi_image.proofs.Steps.{fields_lead, gate_on, code_leads, init_leads, magic_fault, count_fault, fields_wrong, gate_wrong, cut_short, trails, whole_is_image}
use Rattle.sfi_image.proofs.Places.{code_next, init_next}

-- the bytes are an image or have a fault
abbrev IsRead : List ℕ → Type 0
IsRead bytes = ((ps : List Part) × IsImage bytes ps) ⊎ ((k : LayoutFault) × IsFault bytes k)

-- so are a prefix that a reader stands for and fewer than n bytes after it
abbrev AreRead : ℕ → Type 0
AreRead n = (r : LayoutReader) (x : ImagePrefix) (rest : List ℕ) → StandsFor r x → IsBytes rest → length rest < n → IsRead (prefix_bytes x ++ rest)

-- bytes that lead on
on : (n : ℕ) → AreRead n → (x : ImagePrefix) (s more rest : List ℕ) (r : LayoutReader) → Leads x s r → rest ≡ s ++ more → length more < length rest → IsBytes more → length rest < suc n → IsRead (prefix_bytes x ++ rest)
on n further x s more rest r l is less small lt =
    subst IsRead (ap (λ (t : List ℕ). t ++ more) l.bytes ∙ append_assoc (prefix_bytes x) s more ∙ ap (λ (t : List ℕ). prefix_bytes x ++ t) (sym is))
    (further r l.to more l.stands small (omega arith))

-- bytes with a fault
wrong : (x : ImagePrefix) (s more rest : List ℕ) (k : LayoutFault) → HasFaultWhateverFollows (prefix_bytes x ++ s) k → rest ≡ s ++ more → IsRead (prefix_bytes x ++ rest)
wrong x s more rest k fault is = inr (k, subst (λ (b : List ℕ). IsFault b k) (append_assoc (prefix_bytes x) s more ∙ ap (λ (t : List ℕ). prefix_bytes x ++ t) (sym is)) (fault more))

some_magic : (s : List ℕ) → ((format : Format) × (s ≡ magic format)) ⊎ ((format : Format) → s ≡ magic format → ⊥)
some_magic s =
    elim (decided_same s (magic Sfi1)) [
      | inl is ↦ inl (Sfi1, is)
      | inr one ↦ elim (decided_same s (magic Sfi2)) [
        | inl is ↦ inl (Sfi2, is)
        | inr two ↦ elim (decided_same s (magic Sfiw)) [
          | inl is ↦ inl (Sfiw, is)
          | inr three ↦ elim (decided_same s (magic Sfis)) [
            | inl is ↦ inl (Sfis, is)
            | inr four ↦ inr (none one two three four)
          ]
        ]
      ]
    ]
  where
    none : (s ≡ magic Sfi1 → ⊥) → (s ≡ magic Sfi2 → ⊥) → (s ≡ magic Sfiw → ⊥) → (s ≡ magic Sfis → ⊥) → (format : Format) → s ≡ magic format → ⊥
    none one two three four Sfi1 = one
    none one two three four Sfi2 = two
    none one two three four Sfiw = three
    none one two three four Sfis = four

-- the fields pass their tests, or fail one
after_fields : (n : ℕ) → AreRead n → (r : LayoutReader) (format : Format) (count : ℕ) (ps : List Part) (rest : List ℕ) → StandsFor r (AfterCount format count ps) → length rest < suc n
    → (f : Spelled fields AreFieldWords 28 rest) → f.item.format ≡ format → (found : Option LayoutFault) → IsFirstFault ps f.item field_tests found → IsRead (prefix_bytes (AfterCount format count ps) ++ rest)
after_fields n further r format count ps rest h lt f kind (Some k) failed =
    wrong (AfterCount format count ps) (fields f.item) f.rest rest k (fields_wrong r format count ps (fields f.item) f.item k h refl f.fits (kind ∙ sym h.kept.1.of) failed) f.bytes_are
after_fields n further r format count ps rest h lt f kind None passed =
    on n further (AfterCount format count ps) (fields f.item) f.rest rest
    (record { next = stage_after_gates 0 f.item.gate_count; count = r.count; begun = r.begun + 1; spans = r.spans ++ spans_of f.item; fields = f.item; gates = []; passed = 0; code_read = 0; init_read = 0 })
    (fields_lead r _ format count ps (fields f.item) f.item h refl f.fits (kind ∙ sym h.kept.1.of) passed refl refl refl refl refl refl refl refl refl) f.bytes_are (omega (arith, f.len)) f.small lt

step : (n : ℕ) → AreRead n → AreRead (suc n)
step n further r Empty rest h small lt =
    elim (cases_lt (length rest) 4) [
      | inl short ↦ inr (Short, cut_short Empty rest h.right short)
      | inr long ↦
          let split = sym (take-append-drop 4 rest) in
          elim (some_magic (take 4 rest)) [
            | inl is ↦
                on n further Empty (take 4 rest) (drop 4 rest) rest (record r { next = stage.Count; fields = record r.fields { format = is.0 } })
                (magic_leads r _ Empty (take 4 rest) is.0 h h.kept.0 is.1 refl refl refl) split (omega (arith, length-drop 4 rest)) (IsBytes-drop 4 rest small) lt
            | inr none ↦ wrong Empty (take 4 rest) (drop 4 rest) rest Magic (magic_fault r Empty (take 4 rest) h h.kept.0 (omega (arith, length-take 4 rest)) none) split
          ]
    ]
step n further r (AfterMagic format) rest h small lt =
    elim (cases_lt (length rest) 4) [
      | inl short ↦ inr (Short, cut_short (AfterMagic format) rest h.right short)
      | inr long ↦
          let m = number_front rest long small in
          elim (decided_both (decided_le 1 m.item) (decided_le m.item 16)) [
            | inl within ↦
                on n further (AfterMagic format) (number m.item) m.rest rest (record r { next = stage.Fields; count = m.item; begun = 0 })
                (count_leads r (AfterMagic format) (number m.item) m.item h h.kept.0 refl within.0 within.1) m.bytes_are (omega (arith, m.len)) m.small lt
            | inr out ↦ wrong (AfterMagic format) (number m.item) m.rest rest Count (count_fault r (AfterMagic format) (number m.item) m.item h h.kept.0 refl m.fits (λ low high. out (low, high))) m.bytes_are
          ]
    ]
step n further r (AfterCount format count ps) rest h small lt =
    elim (cases_lt (length rest) 28) [
      | inl short ↦ inr (Short, cut_short (AfterCount format count ps) rest h.right short)
      | inr long ↦
          let f = fields_front format rest long small in
          let found = some_first_fault ps f.0.item field_tests in
          after_fields n further r format count ps rest h lt f.0 f.1 found.0 found.1
    ]
step n further r (InGates count ps f gs) rest h small lt =
    elim (cases_lt (length rest) 8) [
      | inl short ↦ inr (Short, cut_short (InGates count ps f gs) rest h.right short)
      | inr long ↦
          let g = gate_front rest long small in
          elim (decided_gates (code_span f) (gs ++ g.item ∷ [])) [
            | inl right ↦
                let gates = r.gates ++ g.item.address ∷ [] in
                on n further (InGates count ps f gs) (gate g.item) g.rest rest (record r { next = stage_after_gates (length gates) r.fields.gate_count; gates = gates })
                (gate_on r _ count ps f gs (gate g.item) g.item h refl g.fits right refl refl refl refl refl refl refl refl refl) g.bytes_are (omega (arith, g.len)) g.small lt
            | inr bad ↦ inr (Gates, gate_wrong count ps f gs rest g.rest g.item h.right g.bytes_are g.fits bad)
          ]
    ]
step n further r (InCode count ps f gs code) rest h small lt =
    elim (cases_lt (length rest) 16) [
      | inl short ↦ inr (Short, cut_short (InCode count ps f gs code) rest h.right short)
      | inr long ↦
          let s = take 16 rest in
          let len : length s ≡ 16 = omega (arith, long, length-take 16 rest) in
          let room = (code_next r (inr (InCode count ps f gs code, h)) h.kept.0).inside in
          let read = r.code_read + length s in
          on n further (InCode count ps f gs code) s (drop 16 rest) rest
          (record r { next = stage_after_code read r.fields.code_size r.fields.init_len r.begun r.count; passed = r.passed + count_below (r.fields.code_base + read) (drop r.passed r.gates); code_read = read })
          (code_leads r _ (InCode count ps f gs code) s h h.kept.0 (record { some = omega arith; whole = omega arith; inside = omega arith }) refl refl refl refl refl refl refl refl refl)
          (sym (take-append-drop 16 rest)) (omega (arith, long, length-drop 16 rest)) (IsBytes-drop 16 rest small) lt
    ]
step n further r (InInit count ps f gs code init) rest h small lt =
    elim (cases_lt 0 (length rest)) [
      | inr none ↦ inr (Short, cut_short (InInit count ps f gs code init) rest h.right (let more = h.right.3 in omega arith))
      | inl some ↦
          let s = take 1 rest in
          let len : length s ≡ 1 = omega (arith, some, length-take 1 rest) in
          let room = (init_next r (inr (InInit count ps f gs code init, h)) h.kept.0).less in
          let read = r.init_read + length s in
          on n further (InInit count ps f gs code init) s (drop 1 rest) rest (record r { next = stage_after_init read r.fields.init_len r.begun r.count; init_read = read })
          (init_leads r _ (InInit count ps f gs code init) s h h.kept.0 (omega arith) (omega arith) refl refl refl refl refl refl refl)
          (sym (take-append-drop 1 rest)) (omega (arith, some, length-drop 1 rest)) (IsBytes-drop 1 rest small) lt
    ]
step n further r (Whole ps) [] h small lt = inl (ps, subst (λ (b : List ℕ). IsImage b ps) (sym (append-nil (prefix_bytes (Whole ps)))) (whole_is_image ps h.right))
step n further r (Whole ps) (b ∷ rest) h small lt = inr (Trailing, trails ps (b ∷ rest) h.right (omega arith))

are_read : (n : ℕ) → AreRead n
are_read zero = λ r x rest h small lt. absurd (omega arith)
are_read (suc n) = step n (are_read n)

pub some_reading : SomeReading
some_reading bytes all = are_read (suc (length bytes)) first Empty bytes (record { right = tt; kept = (refl, refl) }) (IsBytes-from_all bytes all) (omega arith)
  where
    first : LayoutReader
    first = record {
      next = stage.Magic;
      count = 0;
      begun = 0;
      spans = [];
      fields = record { format = Sfi1; code_base = 0; code_size = 0; data_base = 0; data_size = 0; start = 0; gate_count = 0; init_len = 0 };
      gates = [];
      passed = 0;
      code_read = 0;
      init_read = 0;
    }
