-- What is spelled at the front of bytes, and that the bytes determine it.
use Rattle.byteorder.specs.Endian.{little_number}
use Rattle.std.proofs.Math.Seq.{take-append_seam}
use Rattle.std.specs.Int.{w32, to_le_bytes, from_le_bytes}
use Rattle.sfi_image.proofs.Prelude.{◌≡◌, ℕ, ◌<◌, List, length, get_or, take, arith, inl, inr, le_bytes_4, get_or-take, get_or_past, length-take, cases_lt, number, ◌+◌, [], ◌∷◌, ◌++◌, refl, sym, ap, ◌∙◌, append_assoc, ◌⊎◌, All, flat_map, from_le_bytes-to_le_bytes_4, append_cancel_left, length-append, All-head, All-tail, Gate, Fields, Part, fields_of, fields, gate, part, IsWord, AreFieldWords, AreGateWords, AreWords, ◌≤◌, drop, take-append-drop, length-drop, get_or-drop, Format}

-- ==== Numbers and their bytes.

abbrev pub IsBytes : List ℕ → Type 0
IsBytes bytes = (i : ℕ) → get_or bytes i 0 < 256

-- the bytes of the number that four bytes are
pub number_of_bytes : (bs : List ℕ) (n : ℕ) → length bs ≡ 4 → IsBytes bs → n ≡ little_number 4 bs → number n ≡ bs
unfolding number
number_of_bytes bs n len fits e = le_bytes_4 bs n len fits (omega (arith, e))

pub IsBytes-take : (n : ℕ) (bytes : List ℕ) → IsBytes bytes → IsBytes (take n bytes)
IsBytes-take n bytes h i =
    elim (cases_lt i n) [
      | inl lt ↦ rw (get_or-take n bytes i 0 lt) (h i)
      | inr le ↦ rw (get_or_past (take n bytes) i 0 (omega (arith, length-take n bytes))) (omega arith)
    ]

-- ==== What is spelled at the front of bytes is determined by them.

-- two fronts of one length are the same front
pub same_front : (xs ys : List ℕ) (r s : List ℕ) → length xs ≡ length ys → xs ++ r ≡ ys ++ s → (xs ≡ ys) × (r ≡ s)
same_front xs ys r s len e =
    let front : xs ≡ ys = sym (take-append_seam xs r) ∙ ap (take (length xs)) e ∙ ap (λ (n : ℕ). take n (ys ++ s)) len ∙ take-append_seam ys s in
    (front, append_cancel_left xs r s (e ∙ ap (λ (t : List ℕ). t ++ s) (sym front)))

pub same_number : (a b : ℕ) (r s : List ℕ) → IsWord a → IsWord b → number a ++ r ≡ number b ++ s → (a ≡ b) × (r ≡ s)
unfolding number
same_number a b r s wa wb e =
    let both = same_front (to_le_bytes w32 a) (to_le_bytes w32 b) r s refl e in
    (sym (from_le_bytes-to_le_bytes_4 a wa) ∙ ap (from_le_bytes w32) both.0 ∙ from_le_bytes-to_le_bytes_4 b wb, both.1)

-- ---- gates

pub gate_split : (g : Gate) (r : List ℕ) → gate g ++ r ≡ number g.address ++ (number g.service ++ r)
unfolding gate
gate_split g r = append_assoc (number g.address) (number g.service) r

pub same_gate : (g h : Gate) (r s : List ℕ) → AreGateWords g → AreGateWords h → gate g ++ r ≡ gate h ++ s → (g ≡ h) × (r ≡ s)
same_gate g h r s wg wh e =
    let address = same_number g.address h.address _ _ wg.address wh.address (sym (gate_split g r) ∙ e ∙ gate_split h s) in
    let service = same_number g.service h.service r s wg.service wh.service address.1 in
    let same : g ≡ h = λ k. record { address = address.0 k; service = service.0 k } in
    (same, service.1)

pub length-gate : (g : Gate) (r : List ℕ) → length (gate g ++ r) ≡ 8 + length r
unfolding gate number
length-gate g r = omega arith

-- ---- fields

pub fields_split : (f : Fields) (r : List ℕ) → fields f ++ r ≡ number f.code_base ++ (number f.code_size ++ (number f.data_base ++ (number f.data_size
    ++ (number f.start ++ (number f.gate_count ++ (number f.init_len ++ r))))))
unfolding fields
fields_split f r = simp append_assoc

pub same_fields : (f g : Fields) (r s : List ℕ) → AreFieldWords f → AreFieldWords g → f.format ≡ g.format → fields f ++ r ≡ fields g ++ s → (f ≡ g) × (r ≡ s)
same_fields f g r s wf wg kind e =
    let a = same_number f.code_base g.code_base _ _ wf.code_base wg.code_base (sym (fields_split f r) ∙ e ∙ fields_split g s) in
    let b = same_number f.code_size g.code_size _ _ wf.code_size wg.code_size a.1 in
    let c = same_number f.data_base g.data_base _ _ wf.data_base wg.data_base b.1 in
    let d = same_number f.data_size g.data_size _ _ wf.data_size wg.data_size c.1 in
    let h = same_number f.start g.start _ _ wf.start wg.start d.1 in
    let i = same_number f.gate_count g.gate_count _ _ wf.gate_count wg.gate_count h.1 in
    let j = same_number f.init_len g.init_len r s wf.init_len wg.init_len i.1 in
    let same : f ≡ g = λ k. record { format = kind k; code_base = a.0 k; code_size = b.0 k; data_base = c.0 k; data_size = d.0 k; start = h.0 k; gate_count = i.0 k; init_len = j.0 k } in
    (same, j.1)

pub length-fields : (f : Fields) (r : List ℕ) → length (fields f ++ r) ≡ 28 + length r
unfolding fields number
length-fields f r = omega arith

-- ---- lists of one kind

module _ {X : Type 0} (spell : X → List ℕ) (Fits : X → Type 0)
    (same : (x y : X) (r s : List ℕ) → Fits x → Fits y → spell x ++ r ≡ spell y ++ s → (x ≡ y) × (r ≡ s)) where
  -- xs goes on where ys ends, with s after it
  abbrev pub GoesOn : List X → List X → List ℕ → Type 0
  GoesOn xs ys s = (y : X) × (more : List X) × (after : List ℕ) × Fits y × (xs ≡ ys ++ y ∷ more) × (s ≡ spell y ++ after)

  -- two lists at the front of bytes are the same, or one goes on where the other ends
  pub fronts : (xs ys : List X) (r s : List ℕ) → All Fits xs → All Fits ys → flat_map spell xs ++ r ≡ flat_map spell ys ++ s
      → ((xs ≡ ys) × (r ≡ s)) ⊎ (GoesOn xs ys s ⊎ GoesOn ys xs r)
  fronts [] [] r s fx fy e = inl (refl, e)
  fronts [] (y ∷ ys) r s fx fy e = inr (inr (y, ys, flat_map spell ys ++ s, All-head Fits y ys fy, refl, e ∙ append_assoc (spell y) (flat_map spell ys) s))
  fronts (x ∷ xs) [] r s fx fy e = inr (inl (x, xs, flat_map spell xs ++ r, All-head Fits x xs fx, refl, sym e ∙ append_assoc (spell x) (flat_map spell xs) r))
  fronts (x ∷ xs) (y ∷ ys) r s fx fy e =
      let first = same x y (flat_map spell xs ++ r) (flat_map spell ys ++ s) (All-head Fits x xs fx) (All-head Fits y ys fy)
      (sym (append_assoc (spell x) (flat_map spell xs) r) ∙ e ∙ append_assoc (spell y) (flat_map spell ys) s) in
      elim (fronts xs ys r s (All-tail Fits x xs fx) (All-tail Fits y ys fy) first.1) [
        | inl rest ↦ inl (rw (first.0, rest.0) refl, rest.1)
        | inr (inl on) ↦ inr (inl (on.0, on.1, on.2, on.3, rw (first.0, on.4) refl, on.5))
        | inr (inr on) ↦ inr (inr (on.0, on.1, on.2, on.3, rw (first.0, on.4) refl, on.5))
      ]

  -- two lists of one length are the same
  pub same_list : (xs ys : List X) (r s : List ℕ) → All Fits xs → All Fits ys → length xs ≡ length ys → flat_map spell xs ++ r ≡ flat_map spell ys ++ s
      → (xs ≡ ys) × (r ≡ s)
  same_list xs ys r s fx fy len e =
      elim (fronts xs ys r s fx fy e) [
        | inl both ↦ both
        | inr (inl on) ↦ absurd (omega (arith, len, ap length on.4, length-append ys (on.0 ∷ on.1)))
        | inr (inr on) ↦ absurd (omega (arith, len, ap length on.4, length-append xs (on.0 ∷ on.1)))
      ]

-- ---- sandboxes

pub part_split : (p : Part) (r : List ℕ) → part p ++ r ≡ fields (fields_of p) ++ (flat_map gate p.gates ++ (p.code ++ (p.init ++ r)))
unfolding part
part_split p r = simp append_assoc

pub same_part : (p q : Part) (r s : List ℕ) → AreWords p → AreWords q → p.format ≡ q.format → part p ++ r ≡ part q ++ s → (p ≡ q) × (r ≡ s)
same_part p q r s wp wq kind e =
    let head = same_fields (fields_of p) (fields_of q) _ _ wp.fields wq.fields kind (sym (part_split p r) ∙ e ∙ part_split q s) in
    let gates = same_list gate AreGateWords same_gate p.gates q.gates _ _ wp.gates wq.gates (ap (λ (f : Fields). f.gate_count) head.0) head.1 in
    let code = same_front p.code q.code _ _ (ap (λ (f : Fields). f.code_size) head.0) gates.1 in
    let init = same_front p.init q.init r s (ap (λ (f : Fields). f.init_len) head.0) code.1 in
    let same : p ≡ q = λ k.
    let f = head.0 k in
    record { format = f.format; code_base = f.code_base; data_base = f.data_base; data_size = f.data_size; start = f.start; gates = gates.0 k; code = code.0 k; init = init.0 k } in
    (same, init.1)

-- ==== What stands at the front of bytes that are long enough.

-- an item that the first `size` of these bytes spell, and the bytes after it
pub record Spelled {X : Type 0} (spell : X → List ℕ) (Fits : X → Type 0) (size : ℕ) (bytes : List ℕ) : Type 0 where
  pub item : X
  pub rest : List ℕ
  pub bytes_are : bytes ≡ spell item ++ rest
  pub fits : Fits item
  pub len : length rest + size ≡ length bytes
  pub small : IsBytes rest

pub IsBytes-from_all : (bytes : List ℕ) → All (λ x. x < 256) bytes → IsBytes bytes
IsBytes-from_all bytes all i =
    elim (cases_lt i (length bytes)) [
      | inl lt ↦ all i 0 lt
      | inr le ↦ rw (get_or_past bytes i 0 le) (omega arith)
    ]

pub IsBytes-drop : (n : ℕ) (bytes : List ℕ) → IsBytes bytes → IsBytes (drop n bytes)
IsBytes-drop n bytes h i = rw (get_or-drop n bytes i 0) (h (n + i))

word_of_bytes : (bs : List ℕ) (n : ℕ) → IsBytes bs → n ≡ little_number 4 bs → IsWord n
word_of_bytes bs n small is = omega (arith, is, small 0, small 1, small 2, small 3)

pub number_front : (bytes : List ℕ) → 4 ≤ length bytes → IsBytes bytes → Spelled number IsWord 4 bytes
number_front bytes long small =
    let n = little_number 4 (take 4 bytes) in
    let first = IsBytes-take 4 bytes small in
    let spelled : number n ≡ take 4 bytes = number_of_bytes (take 4 bytes) n (omega (arith, length-take 4 bytes)) first refl in
    record {
      item = n;
      rest = drop 4 bytes;
      bytes_are = sym (take-append-drop 4 bytes) ∙ ap (λ (t : List ℕ). t ++ drop 4 bytes) (sym spelled);
      fits = word_of_bytes (take 4 bytes) n first refl;
      len = omega (arith, length-drop 4 bytes);
      small = IsBytes-drop 4 bytes small;
    }

-- ---- gates

gate_joined : (bytes r s : List ℕ) (g : Gate) → bytes ≡ number g.address ++ r → r ≡ number g.service ++ s → bytes ≡ gate g ++ s
gate_joined bytes r s g address service = rw (address, service, gate_split g s) refl

pub gate_front : (bytes : List ℕ) → 8 ≤ length bytes → IsBytes bytes → Spelled gate AreGateWords 8 bytes
gate_front bytes long small =
    let a = number_front bytes (omega arith) small in
    let s = number_front a.rest (omega (arith, a.len)) a.small in
    let g : Gate = record { address = a.item; service = s.item } in
    record {
      item = g;
      rest = s.rest;
      bytes_are = gate_joined bytes a.rest s.rest g a.bytes_are s.bytes_are;
      fits = record { address = a.fits; service = s.fits };
      len = omega (arith, a.len, s.len);
      small = s.small;
    }

-- ---- fields

fields_joined : (bytes r0 r1 r2 r3 r4 r5 r6 : List ℕ) (f : Fields)
    → bytes ≡ number f.code_base ++ r0 → r0 ≡ number f.code_size ++ r1 → r1 ≡ number f.data_base ++ r2 → r2 ≡ number f.data_size ++ r3
    → r3 ≡ number f.start ++ r4 → r4 ≡ number f.gate_count ++ r5 → r5 ≡ number f.init_len ++ r6 → bytes ≡ fields f ++ r6
fields_joined bytes r0 r1 r2 r3 r4 r5 r6 f e0 e1 e2 e3 e4 e5 e6 = rw (e0, e1, e2, e3, e4, e5, e6, fields_split f r6) refl

pub fields_front : (format : Format) (bytes : List ℕ) → 28 ≤ length bytes → IsBytes bytes → (front : Spelled fields AreFieldWords 28 bytes) × (front.item.format ≡ format)
fields_front format bytes long small =
    let code_base = number_front bytes (omega arith) small in
    let code_size = number_front code_base.rest (omega (arith, code_base.len)) code_base.small in
    let data_base = number_front code_size.rest (omega (arith, code_base.len, code_size.len)) code_size.small in
    let data_size = number_front data_base.rest (omega (arith, code_base.len, code_size.len, data_base.len)) data_base.small in
    let start = number_front data_size.rest (omega (arith, code_base.len, code_size.len, data_base.len, data_size.len)) data_size.small in
    let gate_count = number_front start.rest (omega (arith, code_base.len, code_size.len, data_base.len, data_size.len, start.len)) start.small in
    let init_len = number_front gate_count.rest (omega (arith, code_base.len, code_size.len, data_base.len, data_size.len, start.len, gate_count.len)) gate_count.small in
    let f : Fields = record {
      format = format;
      code_base = code_base.item;
      code_size = code_size.item;
      data_base = data_base.item;
      data_size = data_size.item;
      start = start.item;
      gate_count = gate_count.item;
      init_len = init_len.item;
    } in (
      record {
        item = f;
        rest = init_len.rest;
        bytes_are = fields_joined bytes code_base.rest code_size.rest data_base.rest data_size.rest start.rest gate_count.rest init_len.rest f code_base.bytes_are code_size.bytes_are data_base.bytes_are data_size.bytes_are start.bytes_are gate_count.bytes_are init_len.bytes_are;
        fits = record {
          code_base = code_base.fits;
          code_size = code_size.fits;
          data_base = data_base.fits;
          data_size = data_size.fits;
          start = start.fits;
          gate_count = gate_count.fits;
          init_len = init_len.fits;
        };
        len = omega (arith, code_base.len, code_size.len, data_base.len, data_size.len, start.len, gate_count.len, init_len.len);
        small = init_len.small;
      },
      refl,
    )
