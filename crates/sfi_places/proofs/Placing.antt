-- A sandbox's bytes, as its addresses are written one after another.
use Rattle.std.proofs.Common.{◌≡◌, ◌∙◌, ℕ, ◌+◌, List, ◌++◌, length, sym, ap, arith, map, append_assoc}
use Rattle.std.specs.List.{flat_map}
use Rattle.std.proofs.lemmas.List.{length-append, length-map}
use Rattle.sfi_image.specs.declared.part.Gate.{Gate}
use Rattle.sfi_image.specs.Spelling.{Part, fields_of}
unfoldable use Rattle.sfi_image.specs.Spelling.{number, fields, gate, part}
use Rattle.sfi_image.proofs.Fronts.{part_split, fields_split}
use Rattle.sfi_places.specs.Moving.{moved_address, moved_gate, moved}
use Rattle.sfi_image.specs.Keeping.{LiesAt}
use Rattle.sfi_places.specs.private.{IsReplaced}
use Rattle.sfi_image.proofs.Seeking.{length-number}

module _ (p : Part) (from data_from to data_to offset : ℕ) (before after : List ℕ) (e : offset ≡ length before) where
  -- the bytes with other addresses
  abbrev pub with : ℕ → ℕ → ℕ → List Gate → List ℕ
  with code data_at start gs =
      number code ++ (number (length p.code) ++ (number data_at ++ (number p.data_size
      ++ (number start ++ (number (length p.gates) ++ (number (length p.init) ++ (flat_map gate gs ++ (p.code ++ (p.init ++ after)))))))))

  abbrev pub there : ℕ → ℕ
  there = moved_address from to

  abbrev pub data_there : ℕ → ℕ
  data_there = moved_address data_from data_to

  spelled_so : part p ++ after ≡ with p.code_base p.data_base p.start p.gates
  spelled_so = part_split p after ∙ fields_split (fields_of p) (flat_map gate p.gates ++ (p.code ++ (p.init ++ after)))

  -- ---- what lies before each

  abbrev before_data : ℕ → List ℕ
  before_data code = before ++ (number code ++ number (length p.code))

  at_data : (code data_at start : ℕ) (gs : List Gate) → before ++ with code data_at start gs ≡ before_data code ++ (number data_at ++ (number p.data_size
      ++ (number start ++ (number (length p.gates) ++ (number (length p.init) ++ (flat_map gate gs ++ (p.code ++ (p.init ++ after))))))))
  at_data code data_at start gs = simp append_assoc

  data_far : (code : ℕ) → offset + 8 ≡ length (before_data code)
  data_far code = omega (arith, e, length-append before (number code ++ number (length p.code)), length-append (number code) (number (length p.code)), length-number code, length-number (length p.code))

  abbrev to_start : ℕ → ℕ → List ℕ
  to_start code data_at = number code ++ (number (length p.code) ++ (number data_at ++ number p.data_size))

  length-to_start : (code data_at : ℕ) → length (to_start code data_at) ≡ 16
  length-to_start code data_at = omega (
    arith,
    length-append (number code) (number (length p.code) ++ (number data_at ++ number p.data_size)),
    length-append (number (length p.code)) (number data_at ++ number p.data_size),
    length-append (number data_at) (number p.data_size),
    length-number code,
    length-number (length p.code),
    length-number data_at,
    length-number p.data_size,
  )

  at_start : (code data_at start : ℕ) (gs : List Gate) → before ++ with code data_at start gs
      ≡ (before ++ to_start code data_at) ++ (number start ++ (number (length p.gates) ++ (number (length p.init) ++ (flat_map gate gs ++ (p.code ++ (p.init ++ after))))))
  at_start code data_at start gs = simp append_assoc

  start_far : (code data_at : ℕ) → offset + 16 ≡ length (before ++ to_start code data_at)
  start_far code data_at = omega (arith, e, length-append before (to_start code data_at), length-to_start code data_at)

  abbrev to_gates : ℕ → List ℕ
  to_gates start = number start ++ (number (length p.gates) ++ number (length p.init))

  length-to_gates : (start : ℕ) → length (to_gates start) ≡ 12
  length-to_gates start = omega (
    arith,
    length-append (number start) (number (length p.gates) ++ number (length p.init)),
    length-append (number (length p.gates)) (number (length p.init)),
    length-number start,
    length-number (length p.gates),
    length-number (length p.init),
  )

  at_gates : (code data_at start : ℕ) (gs : List Gate) → before ++ with code data_at start gs
      ≡ (before ++ (to_start code data_at ++ to_gates start)) ++ (flat_map gate gs ++ (p.code ++ (p.init ++ after)))
  at_gates code data_at start gs = simp append_assoc

  gates_far : (code data_at start : ℕ) → offset + 28 ≡ length (before ++ (to_start code data_at ++ to_gates start))
  gates_far code data_at start = omega (
    arith,
    e,
    length-append before (to_start code data_at ++ to_gates start),
    length-append (to_start code data_at) (to_gates start),
    length-to_start code data_at,
    length-to_gates start,
  )

  -- ---- one after another

  module _ (bytes : List ℕ) (are : bytes ≡ before ++ (part p ++ after)) where
    pub code_lies : LiesAt bytes offset (number p.code_base)
    code_lies = record { before = before; after = _; bytes_are = are ∙ ap (λ (l : List ℕ). before ++ l) spelled_so; offset_is = e }

    pub one : (new : List ℕ) → IsReplaced bytes new offset (number p.code_base) (number (there p.code_base)) → new ≡ before ++ with (there p.code_base) p.data_base p.start p.gates
    one new step = step before _ e (are ∙ ap (λ (l : List ℕ). before ++ l) spelled_so)

  module _ (bytes : List ℕ) (are : bytes ≡ before ++ with (there p.code_base) p.data_base p.start p.gates) where
    pub data_lies : LiesAt bytes (offset + 8) (number p.data_base)
    data_lies = record { before = _; after = _; bytes_are = are ∙ at_data (there p.code_base) p.data_base p.start p.gates; offset_is = data_far (there p.code_base) }

    pub two : (new : List ℕ) → IsReplaced bytes new (offset + 8) (number p.data_base) (number (data_there p.data_base)) → new ≡ before ++ with (there p.code_base) (data_there p.data_base) p.start p.gates
    two new step = step _ _ (data_far (there p.code_base)) (are ∙ at_data (there p.code_base) p.data_base p.start p.gates) ∙ sym (at_data (there p.code_base) (data_there p.data_base) p.start p.gates)

  module _ (bytes : List ℕ) (are : bytes ≡ before ++ with (there p.code_base) (data_there p.data_base) p.start p.gates) where
    pub start_lies : LiesAt bytes (offset + 16) (number p.start)
    start_lies = record { before = _; after = _; bytes_are = are ∙ at_start (there p.code_base) (data_there p.data_base) p.start p.gates; offset_is = start_far (there p.code_base) (data_there p.data_base) }

    pub three : (new : List ℕ) → IsReplaced bytes new (offset + 16) (number p.start) (number (there p.start)) → new ≡ before ++ with (there p.code_base) (data_there p.data_base) (there p.start) p.gates
    three new step =
        step _ _ (start_far (there p.code_base) (data_there p.data_base)) (are ∙ at_start (there p.code_base) (data_there p.data_base) p.start p.gates)
        ∙ sym (at_start (there p.code_base) (data_there p.data_base) (there p.start) p.gates)

  module _ (bytes : List ℕ) (are : bytes ≡ before ++ with (there p.code_base) (data_there p.data_base) (there p.start) p.gates) where
    pub gates_lie : LiesAt bytes (offset + 28) (flat_map gate p.gates)
    gates_lie = record { before = _; after = _; bytes_are = are ∙ at_gates (there p.code_base) (data_there p.data_base) (there p.start) p.gates; offset_is = gates_far (there p.code_base) (data_there p.data_base) (there p.start) }

    pub four : (new : List ℕ) → IsReplaced bytes new (offset + 28) (flat_map gate p.gates) (flat_map gate (map (moved_gate from to) p.gates))
        → new ≡ before ++ with (there p.code_base) (data_there p.data_base) (there p.start) (map (moved_gate from to) p.gates)
    four new step =
        step _ _ (gates_far (there p.code_base) (data_there p.data_base) (there p.start)) (are ∙ at_gates (there p.code_base) (data_there p.data_base) (there p.start) p.gates)
        ∙ sym (at_gates (there p.code_base) (data_there p.data_base) (there p.start) (map (moved_gate from to) p.gates))

-- they are the sandbox there
pub placed : (p : Part) (from data_from to data_to offset : ℕ) (before after : List ℕ) (e : offset ≡ length before) → p.code_base ≡ from → p.data_base ≡ data_from
    → with p from data_from to data_to offset before after e (moved_address from to p.code_base) (moved_address data_from data_to p.data_base) (moved_address from to p.start) (map (moved_gate from to) p.gates)
    ≡ part (moved to data_to p) ++ after
placed p from data_from to data_to offset before after e code_is data_is =
    let q = moved to data_to p in
    let code : moved_address from to p.code_base ≡ to = omega (arith, code_is) in
    let data_at : moved_address data_from data_to p.data_base ≡ data_to = omega (arith, data_is) in
    let many : length p.gates ≡ length (map (moved_gate p.code_base to) p.gates) = sym (length-map p.gates (moved_gate p.code_base to)) in
    rw (code, data_at, sym code_is, many) (sym (part_split q after ∙ fields_split (fields_of q) (flat_map gate q.gates ++ (q.code ++ (q.init ++ after)))))
