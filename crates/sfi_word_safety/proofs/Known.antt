-- What is known of the typed registers before an instruction, and what it makes of that.
use Rattle.sfi_word_safety.proofs.Prelude.{◌≡◌, ℕ, ◌+◌, ◌<◌, ◌≤◌, ◌⊎◌, List, ◌∷◌, length, true, false, not, ◌&&◌, ◌||◌, ◌==◌, refl, sym, ap, ◌∙◌, subst, inl, inr, ⊎_elim, arith, Option, Some, None, ℤ, slice_index, bit_and, bit_or, and_parts, or_cases, eqb-true, eq-eqb, not-false, false≢true, cases_Bool, offset_by, InRange, IsImm12, destination, is_register, writes_register, Instr, Op, OpImm, Load, Store, Branch, Jal, Jalr, Ecall, Addi, And, Or, Add, Bytes, address_after, Accesses, Hart, register, effect, word, result_of, load_size, store_size, is_masking, is_placing, Part, Piece, is_jump, InData, InGuard, is_data_register_in, IsWordStart, IsNear, HasReserved, AreWordsTyped, places, masks, begins_placing, begins_masking, begins_using, begins_code, is_pointer_step, uses, is_small, may_access, breaks_access, may_write_data, breaks_data_of, breaks_data, may_write_code, breaks_code, breaks_offset, IsRightPart, has_words, ◌-◌, IsKnown, IsCodeKnown, AreKnown, Format, has_single_mask, IsNearIn, Bool, cond}
use Rattle.sfi_formats.specs.Formats.{code_most, data_most}
use Rattle.sfi_safe_runs.proofs.Accessing.{imm12_within, first_address, load_sized, store_sized, load_range, store_range, masked_code}
use Rattle.sfi_safe_runs.proofs.Beside.{one_step_placed, beside_access, beside_stepped, beside_used}
use Rattle.sfi_safe_runs.proofs.Entries.{words as word_unit, two_step_mask, one_step_mask}
use Rattle.sfi_safe_runs.proofs.Accessing as at
use Rattle.sfi_pairs.proofs.Facts.{masking_is, placing_is}
use Rattle.sfi_word_safety.proofs.Effects.{data_register, writes_it, writes_other, or_is, step_is, small_within, writes, others_stay, result_there, step_there, is_flow}
use Rattle.sfi_image.specs.Parts.{reserved_of}
use Rattle.sfi_image.specs.Spelling.{code_region, data_region}

-- where a mask has two steps, it ends by `or d, x31, x26`
places_two : (f : Format) (d : ℕ) (i : Instr) → has_single_mask f ≡ false → places f d i ≡ true → i ≡ Op Or d 31 26
places_two f d i two h = or_is d 31 26 i (rw two at h)

-- where it has one, by `and d, a, x27`, with which it begins, too
places_one : (f : Format) (d : ℕ) (i : Instr) → has_single_mask f ≡ true → places f d i ≡ true → (a : ℕ) × (i ≡ Op And d a 27)
places_one f d i one h = masking_is 27 d i (rw one at h)

masks_one : (f : Format) (d : ℕ) (i : Instr) → has_single_mask f ≡ true → masks f d i ≡ true → (a : ℕ) × (i ≡ Op And d a 27)
masks_one f d i one h = masking_is 27 d i (rw one at h)

placing_left : (f : Format) (d : ℕ) (later : List Piece) → has_single_mask f ≡ false → (has_single_mask f || begins_placing f d later) ≡ true → begins_placing f d later ≡ true
placing_left f d later two h = rw two at h

-- what isn't so in either case isn't so
neither : (one : Bool) → cond one false false ≡ false
neither true = refl
neither false = refl

step_range : (d : ℕ) (imm : ℤ) → InRange (OpImm Addi d d imm) → IsImm12 imm
unfolding InRange
step_range d imm h = h.2

-- what holds where any instruction may stand is known before any
pub typed_known : (p : Part) (registers : List ℕ) (pieces : List Piece) → AreWordsTyped p.format (code_region p) (data_region p) registers → AreKnown p registers pieces
typed_known p registers pieces typed = record {
  each_data = λ d is. inl (typed.each_data d is);
  code = inl typed.code;
  offset = typed.offset;
}

-- ---- an instruction that is of no mask, step or use

-- nothing is known of a register by what stands here
record IsPlain (i : Instr) : Type 0 where
  pub places : (f : Format) (d : ℕ) → places f d i ≡ false
  pub masks : (f : Format) (d : ℕ) → masks f d i ≡ false
  pub uses : (d : ℕ) → uses d i ≡ false
  pub placing : (b t : ℕ) → is_placing b t i ≡ false
  pub masking : (m t : ℕ) → is_masking m t i ≡ false

near_here : (p : Part) (d v : ℕ) (x : Piece) (later : List Piece) → IsPlain x.instr → IsKnown p d v (x ∷ later) → IsNearIn p.format (data_region p) 1020 v
near_here p d v x later plain (inl lies) = lies
near_here p d v x later plain (inr (inl h)) = absurd (false≢true (sym (plain.places p.format d) ∙ h))
near_here p d v x later plain (inr (inr (inl h))) = absurd (false≢true (sym (plain.masks p.format d) ∙ (and_parts (masks p.format d x.instr) (has_single_mask p.format || begins_placing p.format d later) h).0))
near_here p d v x later plain (inr (inr (inr h))) = absurd (false≢true (sym (plain.uses d) ∙ h.1))

start_here : (p : Part) (v : ℕ) (x : Piece) (later : List Piece) → IsPlain x.instr → IsCodeKnown p v (x ∷ later) → IsWordStart (code_region p) v
start_here p v x later plain (inl start) = start
start_here p v x later plain (inr h) = absurd (false≢true (sym (plain.placing 24 30) ∙ h.0))

flow_plain : (i : Instr) → is_flow i ≡ true → IsPlain i
flow_plain (Branch condition rs1 rs2 offset) h = record { places = λ f d. neither (has_single_mask f); masks = λ f d. neither (has_single_mask f); uses = λ d. refl; placing = λ b t. refl; masking = λ m t. refl }
flow_plain (Jal rd offset) h = record { places = λ f d. neither (has_single_mask f); masks = λ f d. neither (has_single_mask f); uses = λ d. refl; placing = λ b t. refl; masking = λ m t. refl }
flow_plain (Jalr rd rs1 imm) h = record { places = λ f d. neither (has_single_mask f); masks = λ f d. neither (has_single_mask f); uses = λ d. refl; placing = λ b t. refl; masking = λ m t. refl }
flow_plain _ h = absurd (false≢true h)

flow_jumps : (i : Instr) → is_flow i ≡ true → (r : ℕ) → destination i ≡ Some r → is_jump i ≡ true
flow_jumps (Branch condition rs1 rs2 offset) h r e = absurd (let none : None ≡ Some r = e in cc)
flow_jumps (Jal rd offset) h r e = refl
flow_jumps (Jalr rd rs1 imm) h r e = refl
flow_jumps _ h r e = absurd (false≢true h)

flow_no_step : (i : Instr) → is_flow i ≡ true → (d : ℕ) → is_pointer_step d i ≡ false
flow_no_step (Branch condition rs1 rs2 offset) h d = refl
flow_no_step (Jal rd offset) h d = refl
flow_no_step (Jalr rd rs1 imm) h d = refl
flow_no_step _ h d = absurd (false≢true h)

-- the code register is a word's start at a jump, and at an ecall the typed registers hold what is theirs
pub code_at_flow : (p : Part) (registers : List ℕ) (x : Piece) (later : List Piece) → is_flow x.instr ≡ true → AreKnown p registers (x ∷ later) → IsWordStart (code_region p) (slice_index registers 30)
code_at_flow p registers x later flow known = start_here p _ x later (flow_plain x.instr flow) known.code

ecall_plain : IsPlain Ecall
ecall_plain = record { places = λ f d. neither (has_single_mask f); masks = λ f d. neither (has_single_mask f); uses = λ d. refl; placing = λ b t. refl; masking = λ m t. refl }

pub typed_at_ecall : (p : Part) (registers : List ℕ) (x : Piece) (later : List Piece) → Ecall ≡ x.instr → AreKnown p registers (x ∷ later) → AreWordsTyped p.format (code_region p) (data_region p) registers
typed_at_ecall p registers x later e known =
    let plain = subst (λ (i : Instr). IsPlain i) e ecall_plain in
    record {
      each_data = λ d is. near_here p d _ x later plain (known.each_data d is);
      code = start_here p _ x later plain known.code;
      offset = known.offset;
    }

-- ---- accesses

module _ (p : Part) (words : has_words p.format ≡ true) (right : IsRightPart p) (h : Hart) (reserved : HasReserved p.format (reserved_of p) h.registers) where
  -- the base of an access lies near, or twice as far and the offset is small
  base_lies : (x : Piece) (later : List Piece) (base : ℕ) (imm : ℤ) → AreKnown p h.registers (x ∷ later) → ((d : ℕ) → places p.format d x.instr ≡ false) → ((d : ℕ) → masks p.format d x.instr ≡ false)
      → ((d : ℕ) → uses d x.instr ≡ true → is_small imm ≡ true) → may_access p.format base ≡ true
      → IsNearIn p.format (data_region p) 1020 (register h base) ⊎ (IsNearIn p.format (data_region p) (1020 + 2048) (register h base) × (is_small imm ≡ true))
  base_lies x later base imm known none none' small may =
      ⊎_elim
      (λ (is : is_data_register_in p.format base ≡ true). by (known.each_data base is))
      (λ (is : (base == 26) ≡ true). on_base (eqb-true base 26 is) (has_single_mask p.format) refl)
      (or_cases (is_data_register_in p.format base) (base == 26) may)
    where
      by : IsKnown p base (register h base) (x ∷ later) → IsNearIn p.format (data_region p) 1020 (register h base) ⊎ (IsNearIn p.format (data_region p) (1020 + 2048) (register h base) × (is_small imm ≡ true))
      by (inl lies) = inl lies
      by (inr (inl e)) = absurd (false≢true (sym (none base) ∙ e))
      by (inr (inr (inl e))) = absurd (false≢true (sym (none' base) ∙ (and_parts (masks p.format base x.instr) (has_single_mask p.format || begins_placing p.format base later) e).0))
      by (inr (inr (inr (lies, used_here)))) = inr (lies, small base used_here)

      -- x26 is a data register, or holds the data base
      on_base : base ≡ 26 → (one : Bool) → has_single_mask p.format ≡ one → IsNearIn p.format (data_region p) 1020 (register h base) ⊎ (IsNearIn p.format (data_region p) (1020 + 2048) (register h base) × (is_small imm ≡ true))
      on_base same true e = by (known.each_data base (rw (same, e) refl))
      on_base same false e =
          let at : register h base ≡ p.data_base = ap (λ (r : ℕ). register h r) same ∙ reserved.data_base e in
          let some : 256 ≤ p.data_size = right.data_placed.at_least in
          inl (inl (record { low = omega arith; high = omega arith }))

  access_near : (v : ℕ) (imm : ℤ) (n a : ℕ) → IsImm12 imm → n ≤ 4 → IsNearIn p.format (data_region p) 1020 v ⊎ (IsNearIn p.format (data_region p) (1020 + 2048) v × (is_small imm ≡ true)) → Rattle.std.specs.List.Contains (Rattle.rv_mem.specs.Bytes.addresses (offset_by v imm) n) a → InData p a ⊎ InGuard p a
  access_near v imm n a range few (inl lies) has = beside_access p right.guard_room v 1020 2048 imm n a lies (imm12_within imm range) (omega arith) few has
  access_near v imm n a range few (inr (lies, small)) has = beside_access p right.guard_room v (1020 + 2048) 1020 imm n a lies (small_within imm small) (omega arith) few has

  pub accesses_near : (i : Instr) (n : ℕ) (later : List Piece) → InRange i → breaks_access p.format i ≡ false → AreKnown p h.registers (record { instr = i; size = n } ∷ later) → (a : ℕ) → Accesses i h a → InData p a ⊎ InGuard p a
  accesses_near (Load kind rd rs1 imm) n later range free known a has =
      access_near (register h rs1) imm (load_size kind) a (load_range kind rd rs1 imm range) (load_sized kind).most
      (base_lies (record { instr = Load kind rd rs1 imm; size = n }) later rs1 imm known (λ d. neither (has_single_mask p.format)) (λ d. neither (has_single_mask p.format)) (λ d u. (and_parts (rs1 == d) (is_small imm) (and_parts ((rs1 == d) && is_small imm) (not (rd == 0)) u).0).1) (not-false _ free)) has
  accesses_near (Store width rs1 rs2 imm) n later range free known a has =
      access_near (register h rs1) imm (store_size width) a (store_range width rs1 rs2 imm range) (store_sized width).most
      (base_lies (record { instr = Store width rs1 rs2 imm; size = n }) later rs1 imm known (λ d. neither (has_single_mask p.format)) (λ d. neither (has_single_mask p.format)) (λ d u. (and_parts (rs1 == d) (is_small imm) u).1) (not-false _ free)) has
  accesses_near other n later range free known a (k, below, is) = absurd (omega arith)

  -- a use that fell into the data leaves its base near them
  uses_back : (d : ℕ) (i : Instr) → uses d i ≡ true → IsNearIn p.format (data_region p) (1020 + 2048) (register h d) → ((a : ℕ) → Accesses i h a → InData p a) → IsNear (data_region p) 1020 (register h d)
  uses_back d (Load kind rd rs1 imm) u lies inside =
      let parts = and_parts (rs1 == d) (is_small imm) (and_parts ((rs1 == d) && is_small imm) (not (rd == 0)) u).0 in
      let e = eqb-true rs1 d parts.0 in
      let inside' = inside (address_after (offset_by (register h rs1) imm) 0) (first_address _ (load_size kind) (load_sized kind).some) in
      beside_used p right.guard_room (register h d) imm lies (small_within imm parts.1) (subst (λ (r : ℕ). InData p (address_after (offset_by (register h r) imm) 0)) e inside')
  uses_back d (Store width rs1 rs2 imm) u lies inside =
      let parts = and_parts (rs1 == d) (is_small imm) u in
      let e = eqb-true rs1 d parts.0 in
      let inside' = inside (address_after (offset_by (register h rs1) imm) 0) (first_address _ (store_size width) (store_sized width).some) in
      beside_used p right.guard_room (register h d) imm lies (small_within imm parts.1) (subst (λ (r : ℕ). InData p (address_after (offset_by (register h r) imm) 0)) e inside')
  uses_back d _ u lies inside = absurd (false≢true u)

  -- ---- after the instruction

  module _ (x : Piece) (later : List Piece) (m : Bytes) (count : length h.registers ≡ 32) (range : InRange x.instr) (known : AreKnown p h.registers (x ∷ later)) where
    abbrev after : Hart
    after = (effect x.instr x.size h m).state.hart

    stays : (r : ℕ) → writes_register r x.instr ≡ false → register after r ≡ register h r
    stays r none = others_stay x.instr h after r (writes x.instr x.size h m) (writes_other r x.instr none)

    -- what an operation on the register leaves, and that it writes it
    clash : (r : ℕ) (i : Instr) → x.instr ≡ i → destination i ≡ Some r → writes_register r x.instr ≡ false → ⊥
    clash r i e dest none = writes_other r x.instr none (ap destination e ∙ dest)

    data_stays : (d : ℕ) → IsKnown p d (register h d) (x ∷ later) → writes_register d x.instr ≡ false → ((a : ℕ) → Accesses x.instr h a → InData p a) → IsKnown p d (register after d) later
    data_stays d (inl lies) none inside = inl (subst (λ (a : ℕ). IsNearIn p.format (data_region p) 1020 a) (sym (stays d none)) lies)
    data_stays d (inr (inl e)) none inside = by (has_single_mask p.format) refl
      where
        by : (one : Bool) → has_single_mask p.format ≡ one → IsKnown p d (register after d) later
        by true one = let is = places_one p.format d x.instr one e in absurd (clash d (Op And d is.0 27) is.1 refl none)
        by false two = absurd (clash d (Op Or d 31 26) (places_two p.format d x.instr two e) refl none)
    data_stays d (inr (inr (inl e))) none inside = by (has_single_mask p.format) refl
      where
        both : (masks p.format d x.instr ≡ true) × ((has_single_mask p.format || begins_placing p.format d later) ≡ true)
        both = and_parts (masks p.format d x.instr) (has_single_mask p.format || begins_placing p.format d later) e

        by : (one : Bool) → has_single_mask p.format ≡ one → IsKnown p d (register after d) later
        by true one = let is = masks_one p.format d x.instr one both.0 in absurd (clash d (Op And d is.0 27) is.1 refl none)
        by false two = inr (inl (placing_left p.format d later two both.1))
    data_stays d (inr (inr (inr (lies, used_here)))) none inside =
        inl (subst (λ (a : ℕ). IsNearIn p.format (data_region p) 1020 a) (sym (stays d none)) (inl (uses_back d x.instr used_here lies inside)))

    -- the last step of a mask leads into the data, or where it is the only one also below their size
    data_placed : (d : ℕ) → d < length h.registers → (d ≡ 0 → ⊥) → places p.format d x.instr ≡ true → IsNearIn p.format (data_region p) 1020 (register after d)
    data_placed d within some e = by (has_single_mask p.format) refl
      where
        by : (one : Bool) → has_single_mask p.format ≡ one → IsNearIn p.format (data_region p) 1020 (register after d)
        by true one =
            let is = places_one p.format d x.instr one e in
            let value : register after d ≡ bit_and (register h is.0) (register h 27) = result_there x.instr And d is.0 27 x.size h m is.1 some within in
            let mask : register h 27 ≡ p.data_base + p.data_size - 1 = reserved.data_mask ∙ one_step_mask p.format (data_region p) one in
            subst (λ (a : ℕ). IsNearIn p.format (data_region p) 1020 a) (sym (value ∙ ap (λ n. bit_and (register h is.0) n) mask)) (one_step_placed p (register h is.0) 1020 right one)
        by false two =
            let value : register after d ≡ bit_or (register h 31) (register h 26) = result_there x.instr Or d 31 26 x.size h m (places_two p.format d x.instr two e) some within in
            let value' : register after d ≡ bit_or (register h 31) p.data_base = value ∙ ap (λ n. bit_or (register h 31) n) (reserved.data_base two) in
            let lies = at.placed p.data_base p.data_size 256 (data_most p.format) (register h 31) right.data_placed (known.offset two) in
            let from : p.data_base ≤ bit_or (register h 31) p.data_base = lies.from in
            let below : bit_or (register h 31) p.data_base < p.data_base + p.data_size = lies.below in
            inl (record { low = omega arith; high = omega arith })

    step_near : (d : ℕ) (imm : ℤ) → x.instr ≡ OpImm Addi d d imm → IsKnown p d (register h d) (x ∷ later) → IsNearIn p.format (data_region p) 1020 (register h d)
    step_near d imm e known = near_here p d (register h d) (record { instr = OpImm Addi d d imm; size = x.size }) later
        (record { places = λ f d. neither (has_single_mask f); masks = λ f d. neither (has_single_mask f); uses = λ d. refl; placing = λ b t. refl; masking = λ m t. refl })
        (subst (λ (i : Instr). IsKnown p d (register h d) (record { instr = i; size = x.size } ∷ later)) e known)

    data_written : (d : ℕ) → is_data_register_in p.format d ≡ true → writes_register d x.instr ≡ true → breaks_data p.format x.instr later ≡ false → IsKnown p d (register after d) later
    data_written d is some free =
        let o = data_register p.format d is in
        let within : d < length h.registers = omega (arith, o.below, count) in
        let free' : (is_data_register_in p.format d && not (may_write_data p.format d x.instr later)) ≡ false = subst (λ (t : Option ℕ). breaks_data_of p.format t x.instr later ≡ false) (writes_it d x.instr some) free in
        let may : may_write_data p.format d x.instr later ≡ true = not-false _ (rw is at free') in
        ⊎_elim
        (λ (l : (places p.format d x.instr || (not (is_jump x.instr) && begins_masking p.format d later)) ≡ true). ⊎_elim
        (λ (e : places p.format d x.instr ≡ true). inl (data_placed d within o.some e))
        (λ (e : (not (is_jump x.instr) && begins_masking p.format d later) ≡ true). inr (inr (inl (and_parts (not (is_jump x.instr)) (begins_masking p.format d later) e).1)))
        (or_cases (places p.format d x.instr) (not (is_jump x.instr) && begins_masking p.format d later) l))
        (λ (l : (is_pointer_step d x.instr && begins_using d later) ≡ true).
        let both = and_parts (is_pointer_step d x.instr) (begins_using d later) l in
        let step = step_is d x.instr both.0 in
        let value : register after d ≡ result_of Add (register h d) (word step.0) = step_there x.instr d d x.size step.0 h m step.1 o.some within in
        inr (inr (inr (subst (λ (a : ℕ). IsNearIn p.format (data_region p) (1020 + 2048) a) (sym value) (beside_stepped p right.guard_room (register h d) step.0 (step_near d step.0 step.1 (known.each_data d is)) (imm12_within step.0 (step_range d step.0 (subst (λ (i : Instr). InRange i) step.1 range)))), both.1))))
        (or_cases (places p.format d x.instr || (not (is_jump x.instr) && begins_masking p.format d later)) (is_pointer_step d x.instr && begins_using d later) may)

    data_after : (d : ℕ) → is_data_register_in p.format d ≡ true → breaks_data p.format x.instr later ≡ false → ((a : ℕ) → Accesses x.instr h a → InData p a) → IsKnown p d (register after d) later
    data_after d is free inside =
        ⊎_elim
        (λ (some : writes_register d x.instr ≡ true). data_written d is some free)
        (λ (none : writes_register d x.instr ≡ false). data_stays d (known.each_data d is) none inside)
        (cases_Bool (writes_register d x.instr))

    -- the code register
    code_stays : IsCodeKnown p (register h 30) (x ∷ later) → writes_register 30 x.instr ≡ false → IsCodeKnown p (register after 30) later
    code_stays (inl start) none = inl (subst (λ (a : ℕ). IsWordStart (code_region p) a) (sym (stays 30 none)) start)
    code_stays (inr (e, masked)) none = absurd (clash 30 (Op Or 30 30 24) (placing_is 24 30 x.instr e) refl none)

    code_placed : IsCodeKnown p (register h 30) (x ∷ later) → IsWordStart (code_region p) (bit_or (register h 30) p.code_base)
    code_placed (inl start) =
        let again = at.placed_again p.code_base (length p.code) 256 (code_most p.format) (register h 30) right.code_placed (record { from = start.held.0; below = start.held.1 }) in
        subst (λ (a : ℕ). IsWordStart (code_region p) a) (sym again) start
    code_placed (inr (e, (y, masked))) =
        let lies = masked_code p.code_base (length p.code) (code_most p.format) 2 y (omega arith) right.code_placed in
        let mask : register h 30 ≡ bit_and y (length p.code - 4) = masked ∙ ap (λ (u : ℕ). bit_and y (length p.code - u)) (word_unit p.format words) in
        subst (λ (a : ℕ). IsWordStart (code_region p) (bit_or a p.code_base)) (sym mask) (record { held = (lies.0.from, lies.0.below); aligned = lies.1 })

    code_after : breaks_code x.instr later ≡ false → IsCodeKnown p (register after 30) later
    code_after free =
        ⊎_elim
        (λ (some : writes_register 30 x.instr ≡ true).
        let may : may_write_code x.instr later ≡ true = not-false _ (rw some at free) in
        let within : 30 < length h.registers = omega (arith, count) in
        ⊎_elim
        (λ (e : is_placing 24 30 x.instr ≡ true).
        let value : register after 30 ≡ bit_or (register h 30) (register h 24) = result_there x.instr Or 30 30 24 x.size h m (placing_is 24 30 x.instr e) (λ z. omega arith) within in
        inl (subst (λ (a : ℕ). IsWordStart (code_region p) a) (sym (value ∙ ap (λ n. bit_or (register h 30) n) reserved.code_base)) (code_placed known.code)))
        (λ (e : (is_masking 25 30 x.instr && begins_code later) ≡ true).
        let both = and_parts (is_masking 25 30 x.instr) (begins_code later) e in
        let mask = masking_is 25 30 x.instr both.0 in
        let value : register after 30 ≡ bit_and (register h mask.0) (register h 25) = result_there x.instr And 30 mask.0 25 x.size h m mask.1 (λ z. omega arith) within in
        inr (both.1, (register h mask.0, value ∙ ap (λ n. bit_and (register h mask.0) n) reserved.code_mask)))
        (or_cases (is_placing 24 30 x.instr) (is_masking 25 30 x.instr && begins_code later) may))
        (λ (none : writes_register 30 x.instr ≡ false). code_stays known.code none)
        (cases_Bool (writes_register 30 x.instr))

    -- the offset register
    offset_after : has_single_mask p.format ≡ false → breaks_offset p.format x.instr ≡ false → register after 31 < p.data_size
    offset_after two free =
        ⊎_elim
        (λ (some : writes_register 31 x.instr ≡ true).
        let may : is_masking 27 31 x.instr ≡ true = not-false _ (rw (some, two) at free) in
        let within : 31 < length h.registers = omega (arith, count) in
        let mask = masking_is 27 31 x.instr may in
        let value : register after 31 ≡ bit_and (register h mask.0) (register h 27) = result_there x.instr And 31 mask.0 27 x.size h m mask.1 (λ z. omega arith) within in
        let below = at.offset_below p.data_base p.data_size 256 (data_most p.format) (register h mask.0) right.data_placed in
        subst (λ (a : ℕ). a < p.data_size) (sym (value ∙ ap (λ n. bit_and (register h mask.0) n) (reserved.data_mask ∙ two_step_mask p.format (data_region p) two))) below)
        (λ (none : writes_register 31 x.instr ≡ false). subst (λ (a : ℕ). a < p.data_size) (sym (stays 31 none)) (known.offset two))
        (cases_Bool (writes_register 31 x.instr))

    -- what is known before what stands after it
    pub known_after : breaks_data p.format x.instr later ≡ false → breaks_code x.instr later ≡ false → breaks_offset p.format x.instr ≡ false → ((a : ℕ) → Accesses x.instr h a → InData p a) → AreKnown p after.registers later
    known_after v10 v11 v12 inside = record {
      each_data = λ d is. data_after d is v10 inside;
      code = code_after v11;
      offset = λ two. offset_after two v12;
    }

    -- a jump or branch leaves all of them as they were, and they hold what is theirs
    flow_other : (r : ℕ) → is_flow x.instr ≡ true → (destination x.instr ≡ Some r → ⊥) → register after r ≡ register h r
    flow_other r flow none = others_stay x.instr h after r (writes x.instr x.size h m) none

    pub typed_after : is_flow x.instr ≡ true → breaks_data p.format x.instr later ≡ false → breaks_code x.instr later ≡ false → breaks_offset p.format x.instr ≡ false → AreWordsTyped p.format (code_region p) (data_region p) after.registers
    typed_after flow v10 v11 v12 =
        let plain = flow_plain x.instr flow in
        record {
          each_data = λ d is.
              subst (λ (a : ℕ). IsNearIn p.format (data_region p) 1020 a)
              (sym (flow_other d flow (λ e. not_data d is e)))
              (near_here p d (register h d) x later plain (known.each_data d is));
          code = subst (λ (a : ℕ). IsWordStart (code_region p) a) (sym (flow_other 30 flow not_code)) (start_here p (register h 30) x later plain known.code);
          offset = λ two. subst (λ (a : ℕ). a < p.data_size) (sym (flow_other 31 flow (not_offset two))) (known.offset two);
        }
      where
        plain : IsPlain x.instr
        plain = flow_plain x.instr flow

        none_may : (d : ℕ) → destination x.instr ≡ Some d → may_write_data p.format d x.instr later ≡ false
        none_may d e =
            let a = plain.places p.format d in
            let b = flow_no_step x.instr flow d in
            let c = flow_jumps x.instr flow d e in
            rw (a, b, c) refl

        not_data : (d : ℕ) → is_data_register_in p.format d ≡ true → destination x.instr ≡ Some d → ⊥
        not_data d is e =
            let free : (is_data_register_in p.format d && not (may_write_data p.format d x.instr later)) ≡ false = subst (λ (t : Option ℕ). breaks_data_of p.format t x.instr later ≡ false) e v10 in
            let may : may_write_data p.format d x.instr later ≡ true = not-false _ (rw is at free) in
            false≢true (sym (none_may d e) ∙ may)

        writes_one : (r : ℕ) → destination x.instr ≡ Some r → writes_register r x.instr ≡ true
        writes_one r e = ap (is_register r) e ∙ eq-eqb r r refl

        not_code : destination x.instr ≡ Some 30 → ⊥
        not_code e =
            let some = writes_one 30 e in
            let may : may_write_code x.instr later ≡ true = not-false _ (rw some at v11) in
            let a = plain.placing 24 30 in
            let b = plain.masking 25 30 in
            false≢true (rw (a, b) at may)

        not_offset : has_single_mask p.format ≡ false → destination x.instr ≡ Some 31 → ⊥
        not_offset two e =
            let some = writes_one 31 e in
            let may : is_masking 27 31 x.instr ≡ true = not-false _ (rw (some, two) at v12) in
            false≢true (sym (plain.masking 27 31) ∙ may)
