-- Jumps to an address in edx, from their first instruction to an entry or out.
use Rattle.std.proofs.Common.{◌≡◌, ℕ, ◌+◌, ◌-◌, ◌*◌, ◌/◌, ◌%◌, ◌^◌, ◌<◌, ◌≤◌, ◌==◌, ◌⊎◌, inl, inr, true, List, [], ◌∷◌, length, Option, Some, None, refl, sym, ap, ◌∙◌, subst, arith, if◌then◌else◌, nat_lt, not}
use Rattle.std.specs.Prelude.{Ok, bit_and, bit_or, slice_index}
use Rattle.std.proofs.lemmas.Nat.{and_le_l}
use Rattle.std.proofs.lemmas.Bool.{cases_Bool, and_parts, lt-ltb, le-leb, leb-true, ltb-true, eqb-true, eq-eqb, ne_eqb, eqb-false}
use Rattle.sfi_formats.specs.Formats.{unit}
use Rattle.sfi_image.specs.Parts.{IsRegion}
use Rattle.sfi_image.proofs.Facts.{masked_unit, whole_bundles}
use Rattle.sfi_image.specs.Spelling.{Part}
use Rattle.sfi_translate.specs.Lines.{Line}
use Rattle.sfi_translate.specs.Machine.{Assembly, Going, is_short, label, most}
use Rattle.sfi_translate.proofs.LinesStand.{units}
use Rattle.x86_instr.specs.declared.operand.Register.TheVariants.{Rax, Rdx, R14}
use Rattle.x86_instr.specs.declared.operand.Operand.TheVariants.{Reg, Mem}
use Rattle.x86_instr.specs.declared.instr.AluOp.TheVariants as alu
use Rattle.x86_instr.specs.declared.instr.Condition.TheVariants.{Below, NotEqual}
use Rattle.x86_instr.specs.declared.instr.Width.TheVariants.{Dword, Qword}
use Rattle.x86_instr.specs.declared.instr.Instr.TheVariants.{Alu, AluImm, Jcc, JmpTo, Mov}
use Rattle.x86_step.specs.State.{Core, IsFixed, Text, with_flags, with_register}
use Rattle.x86_step.specs.Step.{Reaches, address, difference, is_canonical, is_met, jumped, loaded, logical, low, sum}
unfoldable use Rattle.x86_step.specs.Step.{computes}
use Rattle.x86_step.specs.Running.{HasAt, spellings}
use Rattle.sfi_native.specs.declared.layout.Layout.{Layout}
use Rattle.sfi_native.specs.declared.plan.Plan.{Plan}
use Rattle.sfi_native.specs.Layout.{IsLayout, IsRelated, OthersStay, owing, slots_size}
use Rattle.sfi_native.specs.Laws.{IsLow, end_of}
use Rattle.sfi_native.specs.Code.{code_slot, enter_code, enter_size, slot, start_code, start_size, steps_code, table_entry, table_owed, table_slot}
use Rattle.sfi_native.specs.Entries.{entry_of, owed_at_entry, unit_address}
use Rattle.sfi_native.specs.Places.{exit_of}
use Rattle.sfi_native.specs.Table.{HasTable, LieInCode, is_unit_start}
use Rattle.sfi_native.proofs.Fetching.{fixed_loaded, related_kept}
use Rattle.sfi_native.proofs.Fixed.{fixed_at}
use Rattle.sfi_native.proofs.Counting.{counted_core, counted_related, counted_stay}
use Rattle.sfi_native.proofs.Kept.{Kept, kept_flags, kept_join, kept_register, kept_result, others_join, others_kept}
use Rattle.sfi_native.proofs.Memory.{load_there}
use Rattle.sfi_native.proofs.Table.{entry_below}
use Rattle.sfi_native.proofs.Runs.{branch_effect, jumps_to, low_canonical, straight_runs}

-- ==== The start of a unit.

module _ (p : Part) (code : List Line) (lie : LieInCode p code) (at : ℕ) where
  -- masks leave the starts of units alone as they are
  abbrev masked : ℕ
  masked = bit_or (bit_and at (length p.code - unit p.format)) p.code_base

  record Masks : Type 0 where
    few : masked < 2 ^ 32
    same : (masked == at) ≡ is_unit_start p at

  by_parts : (from : p.code_base ≤ masked) (below : masked < p.code_base + length p.code) (aligned : masked % unit p.format ≡ 0)
      → (p.code_base ≤ at → at < p.code_base + length p.code → at % unit p.format ≡ 0 → masked ≡ at) → Masks
  by_parts from below aligned kept = record {
    few = omega (arith, below, lie.ends);
    same = elim (cases_Bool (is_unit_start p at)) [
      | inl is ↦
          let parts = and_parts _ _ is in
          let more = and_parts _ _ parts.1 in
          eq-eqb masked at (kept (leb-true _ _ parts.0) (ltb-true _ _ more.0) (eqb-true _ _ more.1)) ∙ sym is
      | inr other ↦ elim (cases_Bool (masked == at)) [
        | inl e ↦
            let same : masked ≡ at = eqb-true masked at e in
            let starts : is_unit_start p at ≡ true = rw (le-leb p.code_base at (subst (λ a. p.code_base ≤ a) same from), lt-ltb at (p.code_base + length p.code) (subst (λ a. a < p.code_base + length p.code) same below), eq-eqb (at % unit p.format) 0 (subst (λ a. a % unit p.format ≡ 0) same aligned)) refl in
            e ∙ sym starts
        | inr e ↦ e ∙ sym other
      ]
    ];
  }

  masks_by : (u : ℕ) → u ≤ 8 → unit p.format ≡ 2 ^ u → Masks
  masks_by u short is =
      let region : IsRegion p.code_base (length p.code) 256 _ = lie.region in
      let it = masked_unit u p.code_base (length p.code) _ at short region in
      let e : bit_or (bit_and at (length p.code - 2 ^ u)) p.code_base ≡ masked = ap (λ n. bit_or (bit_and at (length p.code - n)) p.code_base) (sym is) in
      by_parts (subst (λ n. p.code_base ≤ n) e it.0) (subst (λ n. n < p.code_base + length p.code) e it.1)
      (ap (λ n. masked % n) is ∙ ap (λ n. n % 2 ^ u) (sym e) ∙ it.2)
      (λ from below aligned. sym e ∙ it.3 from below (ap (λ n. at % n) (sym is) ∙ aligned))

  masks : Masks
  masks = elim (units p.format) [
    | inl bundles ↦ masks_by 4 (omega arith) bundles
    | inr words ↦ masks_by 2 (omega arith) words
  ]

-- the number of a unit, of 16 or 4 bytes
unit_is : (u base len m n at : ℕ) → (u ≡ 16) ⊎ (u ≡ 4) → base ≡ 16 * m → len ≡ 16 * n → base ≤ at → at < base + len → at % u ≡ 0
    → (number : ℕ) × (number < len / u) × (at ≡ base + u * number) × (u * number + 4 ≤ len)
unit_is u base len m n at (inl e) base_is len_is from below aligned =
    let k = (at - base) / 16 in
    let whole : at % 16 ≡ 0 = subst (λ v. at % v ≡ 0) e aligned in (
      k,
      subst (λ v. k < len / v) (sym e) (omega (arith, base_is, len_is, from, below, whole)),
      subst (λ v. at ≡ base + v * k) (sym e) (omega (arith, base_is, from, whole)),
      subst (λ v. v * k + 4 ≤ len) (sym e) (omega (arith, base_is, len_is, from, below, whole)),
    )
unit_is u base len m n at (inr e) base_is len_is from below aligned =
    let k = (at - base) / 4 in
    let whole : at % 4 ≡ 0 = subst (λ v. at % v ≡ 0) e aligned in (
      k,
      subst (λ v. k < len / v) (sym e) (omega (arith, base_is, len_is, from, below, whole)),
      subst (λ v. at ≡ base + v * k) (sym e) (omega (arith, base_is, from, whole)),
      subst (λ v. v * k + 4 ≤ len) (sym e) (omega (arith, base_is, len_is, from, below, whole)),
    )

-- ==== To an entry.

-- few steps are owed at an entry
pub entry_few : (plan : Plan) (p : Part) (o : Option (List Line)) → owed_at_entry plan p o < 63
entry_few plan p None = omega arith
entry_few plan p (Some []) = omega arith
entry_few plan p (Some (line ∷ rest)) = omega arith

module _ (p : Part) (l : Layout) (layout : IsLayout p l) (base : ℕ) (code : List Line) (lie : LieInCode p code) (t : Text) (low_text : IsLow t) (in_reach : base + exit_of l.plan code < 2 ^ 47) where
  -- the row of an address, as the processor reads it
  module _ (d : Core) (has : HasTable p l base code d) (to : ℕ) (edx : d.registers 2 ≡ to) (starts : is_unit_start p to ≡ true) where
    abbrev entry : ℕ
    entry = entry_of l.plan code (label to code)

    abbrev owed_there : ℕ
    owed_there = owed_at_entry l.plan p (label to code)

    record Row : Type 0 where
      number : ℕ
      few : number < length p.code / unit p.format
      within : unit p.format * number + 4 ≤ length p.code
      address_is : to ≡ p.code_base + unit p.format * number
      unit_is : unit_address p number ≡ to

    row : Row
    row =
        let parts = and_parts _ _ starts in
        let more = and_parts _ _ parts.1 in
        let from : p.code_base ≤ to = leb-true _ _ parts.0 in
        let within : to < p.code_base + length p.code = ltb-true _ _ more.0 in
        let whole = whole_bundles p.format p.code_base (length p.code) (omega (arith, from, within, lie.ends)) lie.region in
        let it = unit_is (unit p.format) p.code_base (length p.code) whole.1 whole.0 to (units p.format) whole.3 whole.2 from within (eqb-true _ _ more.1) in
        record {
          number = it.0;
          few = it.1;
          within = it.3;
          address_is = it.2;
          unit_is = ap (λ a. a % 2 ^ 32) (sym it.2) ∙ omega (arith, within, lie.ends);
        }

    abbrev origin : ℕ
    origin = (has.at + (2 ^ 64 - 2 * p.code_base)) % 2 ^ 64

    -- the table's origin in rax
    abbrev based : Core
    based = with_register d 0 origin

    -- where a row's number is, so many bytes on
    place_is : (n : ℕ) → n ≤ 4 → (origin + to * 2 + n) % 2 ^ 64 ≡ has.at + 2 * (unit p.format * row.number) + n
    place_is n small = omega (arith, has.ends, row.address_is, row.within, lie.ends, small)

    read : loaded based 4 (address based table_entry) ≡ Ok entry
    read =
        let is : slice_index has.table (2 * row.number) ≡ entry =
        has.entries.entries row.number row.few ∙ ap (λ a. entry_of l.plan code (label a code)) row.unit_is in
        let at = has.at + 2 * (unit p.format * row.number) in
        let place : address based table_entry ≡ at = ap (λ r. (origin + r * 2 + 0) % 2 ^ 64) edx ∙ place_is 0 (omega arith) ∙ omega arith in
        ap (loaded based 4) place ∙ load_there based 4 at entry (omega (arith, has.ends, row.within)) (has.holds row.number row.few ∙ ap Some is)

    read_owed : loaded based 4 (address based table_owed) ≡ Ok owed_there
    read_owed =
        let is : slice_index has.table (2 * row.number + 1) ≡ owed_there =
        has.entries.owed row.number row.few ∙ ap (λ a. owed_at_entry l.plan p (label a code)) row.unit_is in
        let at = has.at + 2 * (unit p.format * row.number) + 4 in
        let place : address based table_owed ≡ at = ap (λ r. (origin + r * 2 + 4) % 2 ^ 64) edx ∙ place_is 4 (omega arith) in
        ap (loaded based 4) place ∙ load_there based 4 at owed_there (omega (arith, has.ends, row.within)) (has.holds_owed row.number row.few ∙ ap Some is)

    -- what the frame has behind its registers
    read_origin : d.registers 4 ≡ l.frame → loaded d 8 (address d table_slot) ≡ Ok origin
    read_origin frame =
        let place : address d table_slot ≡ l.frame + slots_size = ap (λ r. (r + 0 + slots_size) % 2 ^ 64) frame ∙ omega (arith, layout.frame_ends) in
        ap (loaded d 8) place ∙ load_there d 8 (l.frame + slots_size) origin (omega (arith, layout.frame_ends)) has.origin_is

    read_code : d.registers 4 ≡ l.frame → loaded d 8 (address d code_slot) ≡ Ok base
    read_code frame =
        let place : address d code_slot ≡ l.frame + (slots_size + 8) = ap (λ r. (r + 0 + (slots_size + 8)) % 2 ^ 64) frame ∙ omega (arith, layout.frame_ends) in
        ap (loaded d 8) place ∙ load_there d 8 (l.frame + (slots_size + 8)) base (omega (arith, layout.frame_ends)) has.code_is

    module _ (k : Going) (few : k.left < 2 ^ 31) (is : IsRelated p l (owing 0 k) d) where
      pub record Enters (at : ℕ) : Type 0 where
        pub after : Core
        pub reached : Reaches t 5 (record { rip = at; core = d }) (record { rip = base + entry; core = after })
        pub related : IsRelated p l (owing owed_there k) after
        pub others : OthersStay p l d after
        pub target : after.registers 2 ≡ to

      pub enters : (at : ℕ) → IsFixed t d → HasAt t at (spellings enter_code) → Enters at
      unfolding computes
      enters at fixed_text stands =
          let s = sum Dword (low Dword (d.registers 14)) owed_there in
          let less = entry_few l.plan p (label to code) in
          let counted : s.result ≡ k.left + owed_there = omega (arith, is.left, few, less) in
          let fits : k.left + owed_there < 2 ^ 32 = omega (arith, few, less) in
          let first = kept_register d 0 origin (omega arith) in
          let is_based = related_kept p l layout (owing 0 k) d based is first in
          let c0 = counted_core based s.result s.flags in
          let related = counted_related p l layout (owing 0 k) based is_based (k.left + owed_there) s.result s.flags counted fits in
          let stay = counted_stay p l layout (owing 0 k) based is_based (k.left + owed_there) s.result s.flags counted fits in
          let c1 = with_register c0 0 entry in
          let r = sum Qword (low Qword entry) base in
          let e = with_flags (with_register c1 0 r.result) r.flags in
          let kept = kept_join c0 c1 e (kept_register c0 0 entry (omega arith)) (kept_result c1 0 r.result r.flags (omega arith)) in
          let front = Mov Qword Rax (Mem table_slot) ∷ Alu alu.Add Dword R14 (Mem table_owed) ∷ Mov Dword Rax (Mem table_entry) ∷ Alu alu.Add Qword Rax (Mem code_slot) ∷ [] in
          let below : base + entry < 2 ^ 47 = omega (arith, in_reach, entry_below l.plan code (label to code)) in
          let place : low Qword r.result ≡ base + entry = omega (arith, below) in
          record {
            after = e;
            reached = jumps_to t at front (JmpTo (Reg Rax)) d e fixed_text low_text stands (straight_runs front d e refl (rw (read_origin is.frame, read_owed, read, read_code is.frame) refl)) (base + entry)
                (λ after e. rw (place, low_canonical (base + entry) below) refl);
            related = related_kept p l layout (owing owed_there k) c0 e related kept;
            others = others_join p l d based e (others_kept p l d based first) (others_join p l based c0 e stay (others_kept p l c0 e kept));
            target = edx;
          }

-- two numbers of 32 bits have no difference where they are one
no_difference : (a b : ℕ) → a < 2 ^ 32 → b < 2 ^ 32 → low Dword (a + (2 ^ 32 - b)) == 0 ≡ (a == b)
no_difference a b fa fb = elim (cases_Bool (a == b)) [
  | inl e ↦ eq-eqb _ 0 (omega (arith, fa, fb, eqb-true a b e)) ∙ sym e
  | inr e ↦ ne_eqb _ 0 (λ z. eqb-false a b e (omega (arith, fa, fb, z))) ∙ sym e
]

module _ (p : Part) (l : Layout) (layout : IsLayout p l) (code : List Line) (lie : LieInCode p code) (t : Text) (low_text : IsLow t) (k : Going) where
  module _ (d : Core) (is : IsRelated p l k d) (to : ℕ) (edx : d.registers 2 ≡ to) (fits : to < 2 ^ 32) where
    abbrev mask : ℕ
    mask = length p.code - unit p.format

    mask_loaded : (c : Core) → IsRelated p l k c → loaded c 4 (address c (slot 25)) ≡ Ok mask
    mask_loaded c held = fixed_loaded p l layout k c 25 (omega arith) refl held ∙ ap Ok (fixed_at p k.state.hart 25 held.register_count)

    base_loaded : (c : Core) → IsRelated p l k c → loaded c 4 (address c (slot 24)) ≡ Ok p.code_base
    base_loaded c held = fixed_loaded p l layout k c 24 (omega arith) refl held ∙ ap Ok (fixed_at p k.state.hart 24 held.register_count)

    pub record Starts (at distance : ℕ) : Type 0 where
      pub after : Core
      pub reached : Reaches t 5 (record { rip = at; core = d })
          (record { rip = if not (is_unit_start p to) then jumped (end_of at (start_code distance)) ((distance + enter_size) % 2 ^ 32) else end_of at (start_code distance); core = after })
      pub kept : Kept d after
      pub target : after.registers 2 ≡ to

    pub starts : (at distance : ℕ) → IsFixed t d → HasAt t at (spellings (start_code distance)) → is_canonical (jumped (end_of at (start_code distance)) ((distance + enter_size) % 2 ^ 32)) ≡ true
        → Starts at distance
    unfolding computes
    starts at distance fixed_text stands canonical =
        let c1 = with_register d 0 (low Dword (d.registers 2)) in
        let n1 = bit_and (low Dword (low Dword (d.registers 2))) mask in
        let c2 = with_flags (with_register c1 0 n1) (logical Dword n1).flags in
        let n2 = bit_or (low Dword n1) p.code_base in
        let c3 = with_flags (with_register c2 0 n2) (logical Dword n2).flags in
        let f = (difference Dword (low Dword n2) (low Dword (d.registers 2))).flags in
        let c4 = with_flags c3 f in
        let k1 = kept_register d 0 (low Dword (d.registers 2)) (omega arith) in
        let k2 = kept_join d c1 c2 k1 (kept_result c1 0 n1 (logical Dword n1).flags (omega arith)) in
        let k3 = kept_join d c2 c3 k2 (kept_result c2 0 n2 (logical Dword n2).flags (omega arith)) in
        let front = Mov Dword Rax (Reg Rdx) ∷ Alu alu.And Dword Rax (Mem (slot 25)) ∷ Alu alu.Or Dword Rax (Mem (slot 24)) ∷ Alu alu.Cmp Dword Rax (Reg Rdx) ∷ [] in
        let load_mask = mask_loaded c1 (related_kept p l layout k d c1 is k1) in
        let load_base = base_loaded c2 (related_kept p l layout k d c2 is k2) in
        let it = masks p code lie to in
        let same : low Dword (d.registers 2) ≡ to = omega (arith, edx, fits) in
        let below : bit_and to mask < 2 ^ 32 = omega (arith, and_le_l to mask, fits) in
        let first : n1 ≡ bit_and to mask = ap (λ x. bit_and x mask) (omega (arith, edx, fits)) in
        let second : n2 ≡ masked p code lie to = ap (λ x. bit_or x p.code_base) (omega (arith, first, below)) in
        let zero_is : low Dword (low Dword n2 + (2 ^ 32 - low Dword (d.registers 2))) == 0 ≡ is_unit_start p to =
        ap (λ x. low Dword (low Dword x + (2 ^ 32 - low Dword (d.registers 2))) == 0) second
        ∙ ap (λ x. low Dword (x + (2 ^ 32 - low Dword (d.registers 2))) == 0) (omega (arith, it.few))
        ∙ ap (λ x. low Dword (masked p code lie to + (2 ^ 32 - x)) == 0) same
        ∙ no_difference (masked p code lie to) to it.few fits ∙ it.same in
        let met : is_met NotEqual f ≡ Some (not (is_unit_start p to)) = ap (λ x. Some (not x)) zero_is in
        let end = end_of at (start_code distance) in
        record {
          after = c4;
          reached = jumps_to t at front (Jcc NotEqual ((distance + enter_size) % 2 ^ 32)) d c4 fixed_text low_text stands (straight_runs front d c4 refl (rw (load_mask, load_base) refl))
              (if not (is_unit_start p to) then jumped end ((distance + enter_size) % 2 ^ 32) else end)
              (λ after e. branch_effect NotEqual ((distance + enter_size) % 2 ^ 32) after end c4 (not (is_unit_start p to)) e met canonical);
          kept = kept_join d c3 c4 k3 (kept_flags c3 f);
          target = edx;
        }

-- too few steps are left, or not
module _ (t : Text) (low_text : IsLow t) (d : Core) (to : ℕ) (edx : d.registers 2 ≡ to) (left : ℕ) (same : low Dword (d.registers 14) ≡ left % 2 ^ 31) where
  pub record HasSteps (at distance : ℕ) : Type 0 where
    pub after : Core
    pub reached : Reaches t 2 (record { rip = at; core = d })
        (record { rip = if is_short Assembly left then jumped (end_of at (steps_code distance)) ((distance + (start_size + enter_size)) % 2 ^ 32) else end_of at (steps_code distance); core = after })
    pub kept : Kept d after
    pub target : after.registers 2 ≡ to

  pub has_steps : (at distance : ℕ) → IsFixed t d → HasAt t at (spellings (steps_code distance))
      → is_canonical (jumped (end_of at (steps_code distance)) ((distance + (start_size + enter_size)) % 2 ^ 32)) ≡ true → HasSteps at distance
  unfolding computes
  has_steps at distance fixed_text stands canonical =
      let out = (distance + (start_size + enter_size)) % 2 ^ 32 in
      let f = (difference Dword (low Dword (d.registers 14)) most).flags in
      let e = with_flags d f in
      let met : is_met Below f ≡ Some (is_short Assembly left) = ap (λ x. Some (nat_lt x most)) same in
      let front = AluImm alu.Cmp Dword (Reg R14) most ∷ [] in
      let end = end_of at (steps_code distance) in
      record {
        after = e;
        reached = jumps_to t at front (Jcc Below out) d e fixed_text low_text stands (straight_runs front d e refl refl)
            (if is_short Assembly left then jumped end out else end)
            (λ after is. branch_effect Below out after end e (is_short Assembly left) is met canonical);
        kept = kept_flags d f;
        target = edx;
      }
