-- Registers as lines take them: x0 and the reserved registers of the format have one value.
use Rattle.std.proofs.Common.{◌≡◌, refl, ℕ, ◌-◌, ◌<◌, ◌==◌, ◌&&◌, inl, inr, Bool, true, false, eqb-true, List, length, sym, ap, ◌∙◌, arith, if◌then◌else◌, length-set}
use Rattle.std.proofs.lemmas.Bool.{cases_Bool, false≢true}
use Rattle.std.specs.Prelude.{not, slice_index, slice_set}
use Rattle.rv_step.specs.State.{Hart, register}
use Rattle.sfi_formats.specs.Formats.{has_single_mask, unit}
use Rattle.sfi_image.specs.Parts.{data_mask_of}
use Rattle.sfi_image.specs.Spelling.{Part, data_region}
use Rattle.sfi_translate.specs.Machine.{fixed}
use Rattle.x86_step.proofs.Bytes.{set_one}
use Rattle.sfi_native.specs.Registers.{is_fixed}

-- what x27 holds
abbrev mask : Part → ℕ
mask p = data_mask_of p.format (data_region p)

-- the value of register r, where masks are single or not
abbrev value_of : Part → Bool → ℕ → ℕ → ℕ
value_of p single r v =
    if r == 27 then mask p
    else if (r == 26) && not single then p.data_base
    else if r == 25 then length p.code - unit p.format
    else if r == 24 then p.code_base
    else if r == 0 then 0
    else v

abbrev pub fixed_value : Part → ℕ → ℕ → ℕ
fixed_value p r v = value_of p (has_single_mask p.format) r v

-- x26, where it is set
abbrev based : Bool → List ℕ → ℕ → List ℕ
based single l v = if single then l else slice_set l 26 v

based_length : (single : Bool) (l : List ℕ) (v : ℕ) → length (based single l v) ≡ length l
based_length true l v = refl
based_length false l v = length-set l 26 v

and_true : (b : Bool) → b && true ≡ b
and_true true = refl
and_true false = refl

and_false : (b : Bool) → b && false ≡ false
and_false true = refl
and_false false = refl

based_at : (single : Bool) (l : List ℕ) (v r : ℕ) → 26 < length l → slice_index (based single l v) r ≡ (if (r == 26) && not single then v else slice_index l r)
based_at true l v r long = ap (λ b. if b then v else slice_index l r) (sym (and_false (r == 26)))
based_at false l v r long = set_one l 26 v r long ∙ ap (λ b. if b then v else slice_index l r) (sym (and_true (r == 26)))

pub fixed_length : (p : Part) (h : Hart) → length (fixed p h).registers ≡ length h.registers
fixed_length p h =
    length-set _ 27 (mask p) ∙ based_length (has_single_mask p.format) _ p.data_base ∙ length-set _ 25 (length p.code - unit p.format) ∙ length-set _ 24 p.code_base ∙ length-set h.registers 0 0

-- set, and read
pub fixed_at : (p : Part) (h : Hart) (r : ℕ) → length h.registers ≡ 32 → register (fixed p h) r ≡ fixed_value p r (register h r)
fixed_at p h r count =
    let single = has_single_mask p.format in
    let a = slice_set h.registers 0 0 in
    let b = slice_set a 24 p.code_base in
    let d = slice_set b 25 (length p.code - unit p.format) in
    let e = based single d p.data_base in
    let na : length a ≡ 32 = length-set h.registers 0 0 ∙ count in
    let nb : length b ≡ 32 = length-set a 24 p.code_base ∙ na in
    let nd : length d ≡ 32 = length-set b 25 (length p.code - unit p.format) ∙ nb in
    let ne : length e ≡ 32 = based_length single d p.data_base ∙ nd in
    set_one e 27 (mask p) r (omega (arith, ne))
    ∙ ap (λ x. if r == 27 then mask p else x) (based_at single d p.data_base r (omega (arith, nd))
    ∙ ap (λ x. if (r == 26) && not single then p.data_base else x) (set_one b 25 (length p.code - unit p.format) r (omega (arith, nb))
    ∙ ap (λ x. if r == 25 then length p.code - unit p.format else x) (set_one a 24 p.code_base r (omega (arith, na))
    ∙ ap (λ x. if r == 24 then p.code_base else x) (set_one h.registers 0 0 r (omega (arith, count))))))

-- a fixed register has one value whatever it was
value_same : (p : Part) (r v w : ℕ) → is_fixed p.format r ≡ true → fixed_value p r v ≡ fixed_value p r w
value_same p r v w is = grind arith

module _ (p : Part) (r : ℕ) (free : is_fixed p.format r ≡ false) where
  is_other : (k : ℕ) → is_fixed p.format k ≡ true → r == k ≡ false
  is_other k held = elim (cases_Bool (r == k)) [
    | inl same ↦ absurd (false≢true (sym free ∙ ap (is_fixed p.format) (eqb-true r k same) ∙ held))
    | inr other ↦ other
  ]

  no_base : (r == 26) && not (has_single_mask p.format) ≡ false
  no_base = elim (cases_Bool (has_single_mask p.format)) [
    | inl single ↦ rw single (and_false (r == 26))
    | inr two ↦ let other = is_other 26 (rw two refl) in rw (two, other) refl
  ]

  value_free : (v : ℕ) → fixed_value p r v ≡ v
  value_free v =
      let mask = is_other 27 refl in
      let code_mask = is_other 25 refl in
      let code_base = is_other 24 refl in
      let zero = is_other 0 refl in
      rw (mask, no_base, code_mask, code_base, zero) refl

pub fixed_same : (p : Part) (h k : Hart) (r : ℕ) → length h.registers ≡ 32 → length k.registers ≡ 32 → is_fixed p.format r ≡ true → register (fixed p h) r ≡ register (fixed p k) r
fixed_same p h k r ch ck is = fixed_at p h r ch ∙ value_same p r (register h r) (register k r) is ∙ sym (fixed_at p k r ck)

pub fixed_free : (p : Part) (h : Hart) (r : ℕ) → length h.registers ≡ 32 → is_fixed p.format r ≡ false → register (fixed p h) r ≡ register h r
fixed_free p h r count free = fixed_at p h r count ∙ value_free p r free (register h r)
