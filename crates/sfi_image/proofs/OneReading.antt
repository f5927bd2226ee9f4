-- Bytes have one image or one fault.
use Rattle.sfi_image.proofs.Prelude.{◌≡◌, ℕ, ◌+◌, ◌<◌, ◌≤◌, List, [], ◌∷◌, ◌++◌, length, take, refl, sym, ap, subst, ◌∙◌, arith, append_assoc, inl, inr, ◌⊎◌, Some, None, Option, Result, Ok, Err, All, flat_map, flat_map-append, length-append, append-nil, Format, magic, Gate, Fields, LayoutFault, Count, Short, Trailing, Part, fields_of, format_of, number, gate, part, spelling, AreGateWords, AreApartWith, code_span, AreGates, IsRightPart, AreOf, AreRight, FieldTest, IsFirstFault, field_tests, IsImage, IsBodyFault, IsPartFault, ArePartsFault, IsCountFault, IsFault}
use Rattle.sfi_image.specs.declared.fault.ImageFault.{ImageFault}
use Rattle.sfi_image.specs.private.{Reads}
use Rattle.sfi_image.specs.declared.fault.LayoutFault.TheVariants.{Gates}
use Rattle.sfi_image.specs.declared.fault.ImageFault.TheVariants as errors
use Rattle.sfi_formats.proofs.Formats.{length_of_magic}
use Rattle.sfi_image.proofs.Formats.{one_magic, length-magic, take-magic}
use Rattle.sfi_image.proofs.Tests.{front_gates, middle_apart, part_passes}
use Rattle.sfi_image.proofs.Regions.{right_words}
use Rattle.sfi_image.proofs.Fronts.{same_front, same_number, same_gate, same_fields, same_part, same_list, fronts, GoesOn, length-gate, length-fields, part_split}

-- ---- the fields

-- one test at most is the first that fails
pub one_field_fault : (before : List Part) (f : Fields) (ts : List FieldTest) (j k : Option LayoutFault) → IsFirstFault before f ts j → IsFirstFault before f ts k → j ≡ k
one_field_fault before f [] j k a b = a ∙ sym b
one_field_fault before f (t ∷ ts) j k (inl a) (inl b) = one_field_fault before f ts j k a.1 b.1
one_field_fault before f (t ∷ ts) j k (inl a) (inr b) = absurd (b.0 a.0)
one_field_fault before f (t ∷ ts) j k (inr a) (inl b) = absurd (a.0 b.0)
one_field_fault before f (t ∷ ts) j k (inr a) (inr b) = a.1 ∙ sym b.1

pub same_some : (j k : LayoutFault) → Some j ≡ Some k → j ≡ k
same_some j k e = cc

pub not_some : (k : LayoutFault) → None ≡ Some k → ⊥
not_some k e = absurd cc

-- ---- the gates

-- what is wrong after these gates
abbrev AfterGates : Fields → List Gate → List ℕ → LayoutFault → Type 0
AfterGates f gs rest k =
    ((length gs < f.gate_count) × (length rest < 8) × (k ≡ Short))
    ⊎ (((length gs < f.gate_count) × (g : Gate) × (after : List ℕ) × (rest ≡ gate g ++ after) × AreGateWords g
    × (¬ AreGates (code_span f) (gs ++ g ∷ [])) × (k ≡ Gates))
    ⊎ ((length gs ≡ f.gate_count) × (length rest < f.code_size + f.init_len) × (k ≡ Short)))

after_count : (f : Fields) (gs : List Gate) (rest : List ℕ) (k : LayoutFault) → AfterGates f gs rest k → length gs ≤ f.gate_count
after_count f gs rest k (inl a) = omega (arith, a.0)
after_count f gs rest k (inr (inl a)) = omega (arith, a.0)
after_count f gs rest k (inr (inr a)) = omega (arith, a.0)

-- nothing is, where right gates go on there
gates_go_on : (f : Fields) (xs gs : List Gate) (rest : List ℕ) (k : LayoutFault) → AreGates (code_span f) xs → length xs ≤ f.gate_count
    → GoesOn gate AreGateWords same_gate xs gs rest → AfterGates f gs rest k → ⊥
gates_go_on f xs gs rest k are le on (inl a) = omega (arith, a.1, ap length on.5, length-gate on.0 on.2)
gates_go_on f xs gs rest k are le on (inr (inl a)) =
    let same = same_gate a.1 on.0 a.2 on.2 a.4 on.3 (sym a.3 ∙ on.5) in
    let long : xs ≡ (gs ++ on.0 ∷ []) ++ on.1 = on.4 ∙ sym (append_assoc gs (on.0 ∷ []) on.1) in
    let front = front_gates (code_span f) (gs ++ on.0 ∷ []) on.1 (subst (AreGates (code_span f)) long are) in
    a.5 (subst (λ (g : Gate). AreGates (code_span f) (gs ++ g ∷ [])) (sym same.0) front)
gates_go_on f xs gs rest k are le on (inr (inr a)) = omega (arith, a.0, le, ap length on.4, length-append gs (on.0 ∷ on.1))

after_gates : (f : Fields) (gs : List Gate) (rest : List ℕ) (j k : LayoutFault) → AfterGates f gs rest j → AfterGates f gs rest k → j ≡ k
after_gates f gs rest j k (inl a) (inl b) = a.2 ∙ sym b.2
after_gates f gs rest j k (inl a) (inr (inl b)) = absurd (omega (arith, a.1, ap length b.3, length-gate b.1 b.2))
after_gates f gs rest j k (inl a) (inr (inr b)) = absurd (omega (arith, a.0, b.0))
after_gates f gs rest j k (inr (inl a)) (inl b) = absurd (omega (arith, b.1, ap length a.3, length-gate a.1 a.2))
after_gates f gs rest j k (inr (inl a)) (inr (inl b)) = a.6 ∙ sym b.6
after_gates f gs rest j k (inr (inl a)) (inr (inr b)) = absurd (omega (arith, a.0, b.0))
after_gates f gs rest j k (inr (inr a)) (inl b) = absurd (omega (arith, a.0, b.0))
after_gates f gs rest j k (inr (inr a)) (inr (inl b)) = absurd (omega (arith, a.0, b.0))
after_gates f gs rest j k (inr (inr a)) (inr (inr b)) = a.2 ∙ sym b.2

one_body_fault : (f : Fields) (bytes : List ℕ) (j k : LayoutFault) → IsBodyFault f bytes j → IsBodyFault f bytes k → j ≡ k
one_body_fault f bytes j k (gs, rest, ea, wa, ra, a) (hs, more, eb, wb, rb, b) =
    elim (fronts gate AreGateWords same_gate gs hs rest more wa wb (sym ea ∙ eb)) [
      | inl both ↦ after_gates f hs more j k (subst (λ (t : List ℕ). AfterGates f hs t j) both.1 (subst (λ (g : List Gate). AfterGates f g rest j) both.0 a)) b
      | inr (inl on) ↦ absurd (gates_go_on f gs hs more k ra (after_count f gs rest j a) on b)
      | inr (inr on) ↦ absurd (gates_go_on f hs gs rest j rb (after_count f hs more k b) on a)
    ]

-- right gates with the code and the data after them have no fault
no_body_fault : (f : Fields) (gs : List Gate) (rest : List ℕ) (k : LayoutFault) → All AreGateWords gs → AreGates (code_span f) gs → length gs ≡ f.gate_count
    → f.code_size + f.init_len ≤ length rest → IsBodyFault f (flat_map gate gs ++ rest) k → ⊥
no_body_fault f gs rest k wa ra all long (hs, more, eb, wb, rb, b) =
    elim (fronts gate AreGateWords same_gate gs hs rest more wa wb eb) [
      | inl both ↦ at_end (subst (λ (t : List ℕ). AfterGates f gs t k) (sym both.1) (subst (λ (g : List Gate). AfterGates f g more k) (sym both.0) b))
      | inr (inl on) ↦ gates_go_on f gs hs more k ra (omega (arith, all)) on b
      | inr (inr on) ↦ omega (arith, all, after_count f hs more k b, ap length on.4, length-append gs (on.0 ∷ on.1))
    ]
  where
    at_end : AfterGates f gs rest k → ⊥
    at_end (inl a) = omega (arith, a.0, all)
    at_end (inr (inl a)) = omega (arith, a.0, all)
    at_end (inr (inr a)) = omega (arith, a.1, long)

-- ---- a sandbox

-- what is wrong of these fields and what follows them
abbrev AfterFields : List Part → Fields → List ℕ → LayoutFault → Type 0
AfterFields before f rest k = IsFirstFault before f field_tests (Some k) ⊎ (IsFirstFault before f field_tests None × IsBodyFault f rest k)

after_fields : (before : List Part) (f : Fields) (rest : List ℕ) (j k : LayoutFault) → AfterFields before f rest j → AfterFields before f rest k → j ≡ k
after_fields before f rest j k (inl a) (inl b) = same_some j k (one_field_fault before f field_tests (Some j) (Some k) a b)
after_fields before f rest j k (inl a) (inr b) = absurd (not_some j (one_field_fault before f field_tests None (Some j) b.0 a))
after_fields before f rest j k (inr a) (inl b) = absurd (not_some k (one_field_fault before f field_tests None (Some k) a.0 b))
after_fields before f rest j k (inr a) (inr b) = one_body_fault f rest j k a.1 b.1

one_part_fault : (format : Format) (before : List Part) (bytes : List ℕ) (j k : LayoutFault) → IsPartFault format before bytes j → IsPartFault format before bytes k → j ≡ k
one_part_fault format before bytes j k (inl a) (inl b) = a.1 ∙ sym b.1
one_part_fault format before bytes j k (inl a) (inr (g, more, eb, wb, fb, b)) = absurd (omega (arith, a.0, ap length eb, length-fields g more))
one_part_fault format before bytes j k (inr (f, rest, ea, wa, fa, a)) (inl b) = absurd (omega (arith, b.0, ap length ea, length-fields f rest))
one_part_fault format before bytes j k (inr (f, rest, ea, wa, fa, a)) (inr (g, more, eb, wb, fb, b)) =
    let same = same_fields f g rest more wa wb (fa ∙ sym fb) (sym ea ∙ eb) in
    after_fields before g more j k (subst (λ (t : List ℕ). AfterFields before g t j) same.1 (subst (λ (h : Fields). AfterFields before h rest j) same.0 a)) b

-- a right sandbox that lies apart from those before has no fault
no_part_fault : (format : Format) (before : List Part) (p : Part) (after : List ℕ) (k : LayoutFault) → p.format ≡ format → IsRightPart p → AreApartWith before (fields_of p)
    → IsPartFault format before (part p ++ after) k → ⊥
no_part_fault format before p after k kind right apart (inl b) = omega (arith, b.0, ap length (part_split p after), length-fields (fields_of p) (flat_map gate p.gates ++ (p.code ++ (p.init ++ after))))
no_part_fault format before p after k kind right apart (inr (g, more, eb, wb, fb, b)) =
    let same = same_fields (fields_of p) g (flat_map gate p.gates ++ (p.code ++ (p.init ++ after))) more (right_words p right).fields wb (kind ∙ sym fb) (sym (part_split p after) ∙ eb) in
    beyond (subst (λ (t : List ℕ). AfterFields before (fields_of p) t k) (sym same.1) (subst (λ (h : Fields). AfterFields before h more k) (sym same.0) b))
  where
    long : length p.code + length p.init ≤ length (p.code ++ (p.init ++ after))
    long = omega (arith, length-append p.code (p.init ++ after), length-append p.init after)

    beyond : AfterFields before (fields_of p) (flat_map gate p.gates ++ (p.code ++ (p.init ++ after))) k → ⊥
    beyond (inl h) = not_some k (one_field_fault before (fields_of p) field_tests None (Some k) (part_passes before p right apart) h)
    beyond (inr h) = no_body_fault (fields_of p) p.gates (p.code ++ (p.init ++ after)) k (right_words p right).gates right.gates refl long h.1

-- ---- the sandboxes

-- what is wrong after these sandboxes
abbrev AfterParts : Format → ℕ → List Part → List ℕ → LayoutFault → Type 0
AfterParts format n ps rest k =
    ((length ps < n) × IsPartFault format ps rest k)
    ⊎ ((length ps ≡ n) × (0 < length rest) × (k ≡ Trailing))

-- right, and of this format
abbrev RightOf : Format → Part → Type 0
RightOf format p = (p.format ≡ format) × IsRightPart p

are_right_of : (format : Format) (ps : List Part) → AreOf format ps → AreRight ps → All (RightOf format) ps
are_right_of format ps are right = λ k d lt. (are k d lt, right.each k d lt)

same_right : (format : Format) (p q : Part) (r s : List ℕ) → RightOf format p → RightOf format q → part p ++ r ≡ part q ++ s → (p ≡ q) × (r ≡ s)
same_right format p q r s a b e = same_part p q r s (right_words p a.1) (right_words q b.1) (a.0 ∙ sym b.0) e

after_parts_count : (format : Format) (n : ℕ) (ps : List Part) (rest : List ℕ) (k : LayoutFault) → AfterParts format n ps rest k → length ps ≤ n
after_parts_count format n ps rest k (inl a) = omega (arith, a.0)
after_parts_count format n ps rest k (inr a) = omega (arith, a.0)

parts_go_on : (format : Format) (n : ℕ) (xs ps : List Part) (rest : List ℕ) (k : LayoutFault) → AreRight xs → length xs ≤ n
    → GoesOn part (RightOf format) (same_right format) xs ps rest → AfterParts format n ps rest k → ⊥
parts_go_on format n xs ps rest k right le on (inl a) =
    let apart = middle_apart ps on.0 on.1 (subst AreRight on.4 right) in
    no_part_fault format ps on.0 on.2 k on.3.0 on.3.1 apart (subst (λ (t : List ℕ). IsPartFault format ps t k) on.5 a.1)
parts_go_on format n xs ps rest k right le on (inr a) = omega (arith, a.0, le, ap length on.4, length-append ps (on.0 ∷ on.1))

after_parts : (format : Format) (n : ℕ) (ps : List Part) (rest : List ℕ) (j k : LayoutFault) → AfterParts format n ps rest j → AfterParts format n ps rest k → j ≡ k
after_parts format n ps rest j k (inl a) (inl b) = one_part_fault format ps rest j k a.1 b.1
after_parts format n ps rest j k (inl a) (inr b) = absurd (omega (arith, a.0, b.0))
after_parts format n ps rest j k (inr a) (inl b) = absurd (omega (arith, a.0, b.0))
after_parts format n ps rest j k (inr a) (inr b) = a.2 ∙ sym b.2

one_parts_fault : (format : Format) (n : ℕ) (bytes : List ℕ) (j k : LayoutFault) → ArePartsFault format n bytes j → ArePartsFault format n bytes k → j ≡ k
one_parts_fault format n bytes j k (ps, rest, ea, ra, oa, a) (qs, more, eb, rb, ob, b) =
    elim (fronts part (RightOf format) (same_right format) ps qs rest more (are_right_of format ps oa ra) (are_right_of format qs ob rb) (sym ea ∙ eb)) [
      | inl both ↦ after_parts format n qs more j k (subst (λ (t : List ℕ). AfterParts format n qs t j) both.1 (subst (λ (p : List Part). AfterParts format n p rest j) both.0 a)) b
      | inr (inl on) ↦ absurd (parts_go_on format n ps qs more k ra (after_parts_count format n ps rest j a) on b)
      | inr (inr on) ↦ absurd (parts_go_on format n qs ps rest j rb (after_parts_count format n qs more k b) on a)
    ]

-- right sandboxes with nothing after them have no fault
no_parts_fault : (format : Format) (ps : List Part) (bytes : List ℕ) (k : LayoutFault) → AreOf format ps → AreRight ps → bytes ≡ flat_map part ps → ArePartsFault format (length ps) bytes k → ⊥
no_parts_fault format ps bytes k oa ra ea (qs, more, eb, rb, ob, b) =
    elim (fronts part (RightOf format) (same_right format) ps qs [] more (are_right_of format ps oa ra) (are_right_of format qs ob rb) (append-nil (flat_map part ps) ∙ sym ea ∙ eb)) [
      | inl both ↦ at_end (subst (λ (t : List ℕ). AfterParts format (length ps) ps t k) (sym both.1) (subst (λ (p : List Part). AfterParts format (length ps) p more k) (sym both.0) b))
      | inr (inl on) ↦ parts_go_on format (length ps) ps qs more k ra (omega arith) on b
      | inr (inr on) ↦ omega (arith, after_parts_count format (length ps) qs more k b, ap length on.4, length-append ps (on.0 ∷ on.1))
    ]
  where
    at_end : AfterParts format (length ps) ps [] k → ⊥
    at_end (inl a) = omega (arith, a.0)
    at_end (inr a) = omega (arith, a.1)

-- ---- the whole

-- what is wrong of this count and what follows it
abbrev AfterCount : Format → ℕ → List ℕ → LayoutFault → Type 0
AfterCount format n rest k = ((¬ ((1 ≤ n) × (n ≤ 16))) × (k ≡ Count)) ⊎ ((1 ≤ n) × (n ≤ 16) × ArePartsFault format n rest k)

after_number : (format : Format) (n : ℕ) (rest : List ℕ) (j k : LayoutFault) → AfterCount format n rest j → AfterCount format n rest k → j ≡ k
after_number format n rest j k (inl a) (inl b) = a.1 ∙ sym b.1
after_number format n rest j k (inl a) (inr b) = absurd (a.0 (b.0, b.1))
after_number format n rest j k (inr a) (inl b) = absurd (b.0 (a.0, a.1))
after_number format n rest j k (inr a) (inr b) = one_parts_fault format n rest j k a.2 b.2

length-numbered : (n : ℕ) (r : List ℕ) → length (number n ++ r) ≡ 4 + length r
unfolding number
length-numbered n r = omega arith

one_count_fault : (format : Format) (bytes : List ℕ) (j k : LayoutFault) → IsCountFault format bytes j → IsCountFault format bytes k → j ≡ k
one_count_fault format bytes j k (inl a) (inl b) = a.1 ∙ sym b.1
one_count_fault format bytes j k (inl a) (inr (n, rest, e, w, b)) = absurd (omega (arith, a.0, ap length e, length-numbered n rest))
one_count_fault format bytes j k (inr (n, rest, e, w, a)) (inl b) = absurd (omega (arith, b.0, ap length e, length-numbered n rest))
one_count_fault format bytes j k (inr (n, rest, ea, wa, a)) (inr (m, more, eb, wb, b)) =
    let same = same_number n m rest more wa wb (sym ea ∙ eb) in
    after_number format m more j k (subst (λ (t : List ℕ). AfterCount format m t j) same.1 (subst (λ (c : ℕ). AfterCount format c rest j) same.0 a)) b

no_count_fault : (format : Format) (ps : List Part) (bytes : List ℕ) (k : LayoutFault) → AreOf format ps → AreRight ps → 1 ≤ length ps → length ps ≤ 16 → bytes ≡ number (length ps) ++ flat_map part ps → IsCountFault format bytes k → ⊥
no_count_fault format ps bytes k are right least most e (inl a) = omega (arith, a.0, ap length e, length-numbered (length ps) (flat_map part ps))
no_count_fault format ps bytes k are right least most e (inr (m, more, eb, wb, b)) =
    let same = same_number (length ps) m (flat_map part ps) more (omega arith) wb (sym e ∙ eb) in
    beyond (subst (λ (t : List ℕ). AfterCount format (length ps) t k) (sym same.1) (subst (λ (c : ℕ). AfterCount format c more k) (sym same.0) b))
  where
    beyond : AfterCount format (length ps) (flat_map part ps) k → ⊥
    beyond (inl h) = h.0 (least, most)
    beyond (inr h) = no_parts_fault format ps (flat_map part ps) k are right refl h.2

-- bytes with two magics in front have one format, and the same bytes after it
same_magic : (f g : Format) (r s : List ℕ) → magic f ++ r ≡ magic g ++ s → (f ≡ g) × (r ≡ s)
same_magic f g r s e =
    let same = same_front (magic f) (magic g) r s (length_of_magic f ∙ sym (length_of_magic g)) e in
    (one_magic f g same.0, same.1)

pub one_fault : (bytes : List ℕ) (j k : LayoutFault) → IsFault bytes j → IsFault bytes k → j ≡ k
one_fault bytes j k (inl a) (inl b) = a.1 ∙ sym b.1
one_fault bytes j k (inl a) (inr (inl b)) = absurd (omega (arith, a.0, b.0))
one_fault bytes j k (inl a) (inr (inr b)) = absurd (omega (arith, a.0, ap length b.2, length-magic b.0 b.1))
one_fault bytes j k (inr (inl a)) (inl b) = absurd (omega (arith, a.0, b.0))
one_fault bytes j k (inr (inl a)) (inr (inl b)) = a.2 ∙ sym b.2
one_fault bytes j k (inr (inl a)) (inr (inr b)) = absurd (a.1 b.0 (ap (take 4) b.2 ∙ take-magic b.0 b.1))
one_fault bytes j k (inr (inr a)) (inl b) = absurd (omega (arith, b.0, ap length a.2, length-magic a.0 a.1))
one_fault bytes j k (inr (inr a)) (inr (inl b)) = absurd (b.1 a.0 (ap (take 4) a.2 ∙ take-magic a.0 a.1))
one_fault bytes j k (inr (inr a)) (inr (inr b)) =
    let same = same_magic a.0 b.0 a.1 b.1 (sym a.2 ∙ b.2) in
    one_count_fault b.0 b.1 j k (subst (λ (t : List ℕ). IsCountFault b.0 t j) same.1 (subst (λ (f : Format). IsCountFault f a.1 j) same.0 a.3)) b.3

pub no_fault : (bytes : List ℕ) (ps : List Part) (k : LayoutFault) → IsImage bytes ps → IsFault bytes k → ⊥
unfolding spelling
no_fault bytes ps k image (inl b) = omega (arith, b.0, ap length image.bytes_are, length-magic (format_of ps) (number (length ps) ++ flat_map part ps))
no_fault bytes ps k image (inr (inl b)) = b.1 (format_of ps) (ap (take 4) image.bytes_are ∙ take-magic (format_of ps) (number (length ps) ++ flat_map part ps))
no_fault bytes ps k image (inr (inr b)) =
    let same = same_magic (format_of ps) b.0 (number (length ps) ++ flat_map part ps) b.1 (sym image.bytes_are ∙ b.2) in
    no_count_fault b.0 ps b.1 k (subst (λ (f : Format). AreOf f ps) same.0 image.layout.one_format) image.layout.right image.layout.at_least_one image.layout.at_most (sym same.1) b.3

pub one_image : (bytes : List ℕ) (ps qs : List Part) → IsImage bytes ps → IsImage bytes qs → ps ≡ qs
unfolding spelling
one_image bytes ps qs a b =
    let beyond = same_magic (format_of ps) (format_of qs) (number (length ps) ++ flat_map part ps) (number (length qs) ++ flat_map part qs) (sym a.bytes_are ∙ b.bytes_are) in
    let count = same_number (length ps) (length qs) (flat_map part ps) (flat_map part qs) (omega (arith, a.layout.at_most)) (omega (arith, b.layout.at_most)) beyond.1 in
    let format = format_of qs in
    (same_list part (RightOf format) (same_right format) ps qs [] [] (are_right_of format ps (subst (λ (f : Format). AreOf f ps) beyond.0 a.layout.one_format) a.layout.right) (are_right_of format qs b.layout.one_format b.layout.right) count.0
    (append-nil (flat_map part ps) ∙ count.1 ∙ sym (append-nil (flat_map part qs)))).0

-- ---- what a reader answers that way

-- an image is answered, or memory ran out
pub only_image : (bytes : List ℕ) (r : Result (List Part) ImageFault) → Reads (IsImage bytes) (IsFault bytes) r → (ps : List Part) → IsImage bytes ps
    → (r ≡ Ok ps) ⊎ (r ≡ Err errors.Memory)
only_image bytes (Ok qs) h ps image = inl (ap (λ (x : List Part). Ok x) (one_image bytes qs ps h image))
only_image bytes (Err (errors.Layout k)) h ps image = absurd (no_fault bytes ps k image h)
only_image bytes (Err errors.Memory) h ps image = inr refl

-- a fault is answered, or memory ran out
pub only_fault : (bytes : List ℕ) (r : Result (List Part) ImageFault) → Reads (IsImage bytes) (IsFault bytes) r → (k : LayoutFault) → IsFault bytes k
    → (r ≡ Err (errors.Layout k)) ⊎ (r ≡ Err errors.Memory)
only_fault bytes (Ok qs) h k wrong = absurd (no_fault bytes qs k h wrong)
only_fault bytes (Err (errors.Layout j)) h k wrong = inl (ap (λ (x : LayoutFault). Err (errors.Layout x)) (one_fault bytes j k h wrong))
only_fault bytes (Err errors.Memory) h k wrong = inr refl
