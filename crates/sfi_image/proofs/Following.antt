-- The bytes of prefixes that follow one another, and that what they hold is right.
use Rattle.sfi_image.proofs.Prelude.{◌≡◌, ℕ, ◌≤◌, List, [], ◌∷◌, ◌++◌, length, refl, sym, ap, ◌∙◌, subst, arith, append_assoc, inl, inr, eqb_tells, flat_map, flat_map-append, append-nil, All-push, Format, magic, Gate, Fields, Part, number, fields, fields_of, gate, part, AreApartWith, AreOf, ImagePrefix, prefix_bytes, head, IsHead, IsOpened, IsRightPrefix, part_of, after_parts, after_init, after_code, after_gates, Follows, Empty, AfterMagic, AfterCount, InGates, InCode, InInit, Whole}
use Rattle.sfi_image.proofs.Tests.{right_part, one_more_right}
use Rattle.sfi_image.proofs.Formats.{same_format}

-- ---- bytes

pub parts_bytes : (format : Format) (n : ℕ) (ps : List Part) → 1 ≤ n → AreOf format ps → prefix_bytes (after_parts format n ps) ≡ head format n ps
parts_bytes format n ps some are =
    elim (eqb_tells (length ps) n) [
      | inl h ↦ rw (h.0) (ap (λ (g : Format). head g (length ps) ps) (same_format ps are (omega (arith, h.1))) ∙ ap (λ (k : ℕ). head format k ps) h.1)
      | inr h ↦ rw (h.0) refl
    ]

-- a sandbox of these has those fields
pub fields_again : (f : Fields) (gs : List Gate) (code init : List ℕ) → length gs ≡ f.gate_count → length code ≡ f.code_size → length init ≡ f.init_len
    → fields_of (part_of f gs code init) ≡ f
fields_again f gs code init g c i = rw (g, c, i) refl

pub head_push : (format : Format) (n : ℕ) (ps : List Part) (p : Part) → head format n (ps ++ p ∷ []) ≡ head format n ps ++ part p
head_push format n ps p =
    let e : flat_map part (ps ++ p ∷ []) ≡ flat_map part ps ++ part p = flat_map-append part ps (p ∷ []) ∙ ap (λ (t : List ℕ). flat_map part ps ++ t) (append-nil (part p)) in
    rw e (simp append_assoc)

pub part_bytes : (f : Fields) (gs : List Gate) (code init : List ℕ) → length gs ≡ f.gate_count → length code ≡ f.code_size → length init ≡ f.init_len
    → part (part_of f gs code init) ≡ fields f ++ (flat_map gate gs ++ (code ++ init))
unfolding part
part_bytes f gs code init g c i = ap (λ (h : Fields). fields h ++ (flat_map gate gs ++ (code ++ init))) (fields_again f gs code init g c i)

pub init_bytes : (n : ℕ) (ps : List Part) (f : Fields) (gs : List Gate) (code init : List ℕ) → IsHead f.format n ps → length gs ≡ f.gate_count → length code ≡ f.code_size
    → prefix_bytes (after_init n ps f gs code init) ≡ head f.format n ps ++ (fields f ++ (flat_map gate gs ++ (code ++ init)))
init_bytes n ps f gs code init before g c =
    elim (eqb_tells (length init) f.init_len) [
      | inl h ↦ rw (h.0) (
          parts_bytes f.format n (ps ++ part_of f gs code init ∷ []) before.at_least (All-push (λ (q : Part). q.format ≡ f.format) ps (part_of f gs code init) before.one_format refl) ∙ head_push f.format n ps (part_of f gs code init)
          ∙ ap (λ (t : List ℕ). head f.format n ps ++ t) (part_bytes f gs code init g c h.1))
      | inr h ↦ rw (h.0) refl
    ]

pub code_bytes : (n : ℕ) (ps : List Part) (f : Fields) (gs : List Gate) (code : List ℕ) → IsHead f.format n ps → length gs ≡ f.gate_count
    → prefix_bytes (after_code n ps f gs code) ≡ head f.format n ps ++ (fields f ++ (flat_map gate gs ++ code))
code_bytes n ps f gs code before g =
    elim (eqb_tells (length code) f.code_size) [
      | inl h ↦ rw (h.0) (init_bytes n ps f gs code [] before g h.1 ∙ ap (λ (t : List ℕ). head f.format n ps ++ (fields f ++ (flat_map gate gs ++ t))) (append-nil code))
      | inr h ↦ rw (h.0) refl
    ]

pub gates_bytes : (n : ℕ) (ps : List Part) (f : Fields) (gs : List Gate) → prefix_bytes (after_gates n ps f gs) ≡ head f.format n ps ++ (fields f ++ flat_map gate gs)
gates_bytes n ps f gs =
    elim (eqb_tells (length gs) f.gate_count) [
      | inl h ↦ rw (h.0) (ap (λ (t : List ℕ). head f.format n ps ++ (fields f ++ t)) (append-nil (flat_map gate gs)))
      | inr h ↦ rw (h.0) refl
    ]

pub flat_gate : (gs : List Gate) (g : Gate) → flat_map gate (gs ++ g ∷ []) ≡ flat_map gate gs ++ gate g
flat_gate gs g = flat_map-append gate gs (g ∷ []) ∙ ap (λ (t : List ℕ). flat_map gate gs ++ t) (append-nil (gate g))

-- a prefix that follows another is that with the bytes
pub following_bytes : (x : ImagePrefix) (s : List ℕ) (y : ImagePrefix) → IsRightPrefix x → Follows x s y → prefix_bytes y ≡ prefix_bytes x ++ s
following_bytes Empty s y right h = rw (h.2) (sym h.1)
following_bytes (AfterMagic format) s y right h = rw (h.2, h.1) (ap (λ (t : List ℕ). magic format ++ t) (append-nil (number h.0)))
following_bytes (AfterCount format n ps) s y right h =
    rw (h.3, h.2, ← h.1) (gates_bytes n ps h.0 [] ∙ ap (λ (t : List ℕ). head h.0.format n ps ++ t) (append-nil (fields h.0)))
following_bytes (InGates n ps f gs) s y right h =
    rw (h.2, h.1) (gates_bytes n ps f (gs ++ h.0 ∷ []) ∙ ap (λ (t : List ℕ). head f.format n ps ++ (fields f ++ t)) (flat_gate gs h.0) ∙ simp append_assoc)
following_bytes (InCode n ps f gs code) s y right h = rw h (code_bytes n ps f gs (code ++ s) right.0.before right.1 ∙ simp append_assoc)
following_bytes (InInit n ps f gs code init) s y right h = rw h (init_bytes n ps f gs code (init ++ s) right.0.before right.1 right.2 ∙ simp append_assoc)
following_bytes (Whole ps) s y right h = absurd h

-- ---- a sandbox that is whole

pub finished : (n : ℕ) (ps : List Part) (f : Fields) (gs : List Gate) (code init : List ℕ) → IsOpened n ps f gs
    → length gs ≡ f.gate_count → length code ≡ f.code_size → length init ≡ f.init_len → IsHead f.format n (ps ++ part_of f gs code init ∷ [])
finished n ps f gs code init opened g c i =
    let p = part_of f gs code init in
    let same = fields_again f gs code init g c i in
    let both = right_part ps p f same opened.words opened.passed opened.gate_words opened.gates in
    record {
      at_least = opened.before.at_least;
      at_most = opened.before.at_most;
      one_format = All-push (λ (q : Part). q.format ≡ f.format) ps p opened.before.one_format refl;
      right = one_more_right ps p opened.before.right.each both.0 (subst (AreApartWith ps) (sym same) both.1);
    }
