-- No bytes are cut short whatever follows them: an image has a bounded length.
use Rattle.sfi_c.proofs.Prelude.{◌≡◌, ℕ, ◌+◌, ◌*◌, ◌<◌, List, [], ◌∷◌, ◌++◌, length, Some, ap, arith, length-append, Part}
use Rattle.std.proofs.Common.{◌≤◌, ◌-◌, ◌^◌, inl, inr, replicate}
use Rattle.std.proofs.lemmas.List.{length-replicate}
use Rattle.std.proofs.lemmas.List.Elements.{All-head, All-tail}
use Rattle.std.specs.List.{All, flat_map}
use Rattle.sfi_formats.specs.declared.format.Format.{Format}
use Rattle.sfi_image.specs.declared.fault.LayoutFault.TheVariants.{Short}
use Rattle.sfi_image.specs.declared.fields.Fields.{Fields}
use Rattle.sfi_image.specs.Spelling.{part, gate, number}
use Rattle.sfi_image.specs.Parts.{IsRightPart}
use Rattle.sfi_image.specs.FieldTests.{FieldTest, IsFirstFault, fault_of, field_tests}
use Rattle.sfi_image.specs.FieldTests.FieldTest.{Code, Data, GuardRoom, Start, Gates, Init, Overlap}
use Rattle.sfi_image.specs.Prefixes.{HasFaultWhateverFollows}
use Rattle.sfi_image.specs.Faults.{IsFault, IsCountFault, ArePartsFault, IsPartFault, IsBodyFault}
use Rattle.sfi_image.proofs.Standing.{region, Region}
use Rattle.sfi_image.proofs.Fronts.{length-fields}
use Rattle.sfi_image.proofs.Formats.{length-magic, code_at_most, data_at_most}
use Rattle.sfi_image.proofs.Seeking.{length-gates, length-number, length-part}

-- more bytes than one sandbox has, and than an image has
abbrev part_most : ℕ
part_most = 2 ^ 24 + 2 ^ 30 + 10000

abbrev image_most : ℕ
image_most = 17 * part_most

no_test_is_short : (t : FieldTest) → Some Short ≡ Some (fault_of t) → ⊥
no_test_is_short Code e = absurd cc
no_test_is_short Data e = absurd cc
no_test_is_short GuardRoom e = absurd cc
no_test_is_short Start e = absurd cc
no_test_is_short Gates e = absurd cc
no_test_is_short Init e = absurd cc
no_test_is_short Overlap e = absurd cc

not_short : (before : List Part) (f : Fields) (ts : List FieldTest) → IsFirstFault before f ts (Some Short) → ⊥
not_short before f [] e = absurd cc
not_short before f (t ∷ ts) (inl h) = not_short before f ts h.1
not_short before f (t ∷ ts) (inr h) = no_test_is_short t h.1

part_bound : (p : Part) → IsRightPart p → length (part p) ≤ part_most
part_bound p right =
    let code = right.code_placed.at_most in
    let init = right.init_len in
    let data_size = right.data_placed.at_most in
    let gates = right.gate_count in
    omega (arith, length-part p, code_at_most p.format, data_at_most p.format)

parts_bound : (ps : List Part) → All IsRightPart ps → length (flat_map part ps) ≤ part_most * length ps
parts_bound [] right = omega arith
parts_bound (p ∷ ps) right =
    omega (arith, length-append (part p) (flat_map part ps), part_bound p (All-head IsRightPart p ps right), parts_bound ps (All-tail IsRightPart p ps right))

body_bound : (before : List Part) (f : Fields) (bytes : List ℕ) → Region f → IsBodyFault f bytes Short → length bytes < part_most
body_bound before f bytes r (gs, rest, e, w, are, inl h) =
    let gates = r.gate_count in omega (arith, h.0, h.1, ap length e, length-append (flat_map gate gs) rest, length-gates gs)
body_bound before f bytes r (gs, rest, e, w, are, inr (inl h)) = let is = h.6 in absurd cc
body_bound before f bytes r (gs, rest, e, w, are, inr (inr h)) =
    let gates = r.gate_count in
    let code = r.code_size in
    let init = r.init_len in
    omega (arith, h.0, h.1, ap length e, length-append (flat_map gate gs) rest, length-gates gs)

part_fault_bound : (format : Format) (before : List Part) (bytes : List ℕ) → IsPartFault format before bytes Short → length bytes < part_most + 28
part_fault_bound format before bytes (inl h) = omega (arith, h.0)
part_fault_bound format before bytes (inr (f, rest, e, words, kind, inl h)) = absurd (not_short before f field_tests h)
part_fault_bound format before bytes (inr (f, rest, e, words, kind, inr h)) =
    omega (arith, body_bound before f rest (region before f words h.0) h.1, ap length e, length-fields f rest)

parts_fault_bound : (format : Format) (n : ℕ) (bytes : List ℕ) → n ≤ 16 → ArePartsFault format n bytes Short → length bytes < 17 * part_most - 100
parts_fault_bound format n bytes few (ps, rest, e, right, are, inl h) =
    omega (arith, h.0, few, part_fault_bound format ps rest h.1, parts_bound ps right.each, ap length e, length-append (flat_map part ps) rest)
parts_fault_bound format n bytes few (ps, rest, e, right, are, inr h) = let is = h.2 in absurd cc

count_bound : (format : Format) (bytes : List ℕ) → IsCountFault format bytes Short → length bytes < 17 * part_most - 96
count_bound format bytes (inl h) = omega (arith, h.0)
count_bound format bytes (inr (n, rest, e, w, inl h)) = let is = h.1 in absurd cc
count_bound format bytes (inr (n, rest, e, w, inr h)) =
    omega (arith, parts_fault_bound format n rest h.1 h.2, ap length e, length-append (number n) rest, length-number n)

short_bound : (bytes : List ℕ) → IsFault bytes Short → length bytes < image_most
short_bound bytes (inl h) = omega (arith, h.0)
short_bound bytes (inr (inl h)) = let is = h.2 in absurd cc
short_bound bytes (inr (inr h)) = omega (arith, count_bound h.0 h.1 h.3, ap length h.2, length-magic h.0 h.1)

-- no bytes have the fault Short whatever follows them: with enough bytes more they aren't cut short
long_enough : (n : ℕ) → image_most ≤ n → (bytes : List ℕ) → HasFaultWhateverFollows bytes Short → ⊥
long_enough n most bytes h = omega (arith, most, short_bound (bytes ++ replicate n 0) (h (replicate n 0)), length-append bytes (replicate n 0), length-replicate {A = ℕ} n 0)

pub never_short : (bytes : List ℕ) → HasFaultWhateverFollows bytes Short → ⊥
never_short bytes h = long_enough image_most (omega arith) bytes h
