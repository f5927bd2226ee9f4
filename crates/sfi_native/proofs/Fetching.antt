-- The sandbox's registers in free registers of the processor, and back.
use Rattle.std.proofs.Common.{◌≡◌, ℕ, ◌+◌, ◌*◌, ◌%◌, ◌^◌, ◌<◌, ◌≤◌, ◌==◌, ◌⊎◌, inl, inr, true, false, length, List, [], ◌∷◌, Option, Some, None, if◌then◌else◌, refl, sym, ap, ◌∙◌, subst, arith, nat_lt, eqb-true}
use Rattle.std.specs.Prelude.{Ok}
use Rattle.std.proofs.lemmas.Bool.{cases_Bool, cases_eq, cases_lt, false≢true, lt-ltb, or_parts}
use Rattle.std.proofs.lemmas.List.{get_or-set_same, get_or-set_other, length-set}
use Rattle.rv_step.specs.State.{Hart, register, with_pc, with_register as with_value}
use Rattle.sfi_formats.specs.declared.format.Format.{Format}
use Rattle.sfi_formats.specs.Formats.{is_reserved_in}
use Rattle.sfi_image.specs.Spelling.{Part}
use Rattle.sfi_translate.specs.Machine.{ControlPoint, Going, fixed, goes_with}
use Rattle.x86_instr.specs.declared.operand.Register.{Register}
use Rattle.x86_instr.specs.Spelling.{number}
use Rattle.x86_instr.specs.declared.instr.Instr.{Instr as Native}
use Rattle.x86_instr.specs.declared.instr.Instr.TheVariants.{Mov}
use Rattle.x86_instr.specs.declared.instr.Width.TheVariants.{Dword}
use Rattle.x86_step.specs.State.{Core, may_write, number_at, with_memory, with_register, written}
use Rattle.x86_step.specs.Step.{address, loaded, low, stored, value as operand_value}
unfoldable use Rattle.x86_step.specs.Step.{computes}
use Rattle.x86_step.specs.Running.{are_straight, exec}
use Rattle.sfi_native.specs.declared.layout.Layout.{Layout}
use Rattle.sfi_native.specs.Layout.{Holds, IsLayout, IsRelated, OthersStay, value}
use Rattle.sfi_native.specs.Code.{bring, fetch, lies_in, operand_of, read, register_or, slot, store_eax, write}
use Rattle.sfi_native.specs.Registers.{IsRightPlan, assigned, is_fixed}
use Rattle.sfi_native.proofs.Arithmetic.{low_is}
use Rattle.sfi_native.proofs.Assigned.{Free, free as free_register, holds_kept, holds_on, same_register, updated_same}
use Rattle.sfi_native.proofs.Kept.{Kept, KeptBut, Leaves, but_register, but_same, kept_register, others_same, updated_other}
use Rattle.sfi_native.proofs.Runs.{straight_runs}
use Rattle.sfi_native.proofs.Fixed.{fixed_free, fixed_length, fixed_same}
use Rattle.sfi_native.proofs.Memory.{load_there, may_write_each, number_elsewhere, number_written, store_there, written_elsewhere}

-- ==== A hart with a value in a register.

fixed_zero : (f : Format) (r : ℕ) → is_fixed f r ≡ false → r == 0 ≡ false
fixed_zero f r free = (or_parts (r == 0) (is_reserved_in f r) free).0

-- register rd has v, if it isn't fixed, and the others have what they had
pub record IsWritten (p : Part) (g : Going) (rd v : ℕ) (k : Hart) : Type 0 where
  pub count : length k.registers ≡ 32
  pub new : is_fixed p.format rd ≡ false → register (fixed p k) rd ≡ v
  pub old : (r : ℕ) → (is_fixed p.format rd ≡ true) ⊎ (r ≡ rd → ⊥) → register (fixed p k) r ≡ value p g r

module _ (p : Part) (g : Going) (count : length g.state.hart.registers ≡ 32) (pc rd v : ℕ) where
  abbrev before : Hart
  before = with_pc (fixed p g.state.hart) pc

  abbrev after : Hart
  after = fixed p (with_value before rd v)

  before_count : length before.registers ≡ 32
  before_count = fixed_length p g.state.hart ∙ count

  value_count : length (with_value before rd v).registers ≡ 32
  value_count = elim (cases_Bool (rd == 0)) [
    | inl e ↦ rw e before_count
    | inr e ↦ rw e (length-set before.registers rd v ∙ before_count)
  ]

  after_count : length after.registers ≡ 32
  after_count = fixed_length p (with_value before rd v) ∙ value_count

  free_is : (r : ℕ) → is_fixed p.format r ≡ false → register (fixed p after) r ≡ register (with_value before rd v) r
  free_is r free = fixed_free p after r after_count free ∙ fixed_free p (with_value before rd v) r value_count free

  other_is : (r : ℕ) → (r ≡ rd → ⊥) → register (with_value before rd v) r ≡ value p g r
  other_is r other = elim (cases_Bool (rd == 0)) [
    | inl e ↦ rw e refl
    | inr e ↦ rw e (get_or-set_other before.registers rd r v 0 other)
  ]

  apart_is : (r : ℕ) → is_fixed p.format r ≡ false → (is_fixed p.format rd ≡ true) ⊎ (r ≡ rd → ⊥) → r ≡ rd → ⊥
  apart_is r free (inl held) e = false≢true (sym free ∙ ap (is_fixed p.format) e ∙ held)
  apart_is r free (inr other) e = other e

  pub hart_written : rd < 32 → IsWritten p g rd v after
  hart_written small = record {
    count = after_count;
    new = λ free. free_is rd free ∙ (rw (fixed_zero p.format rd free) (get_or-set_same before.registers rd v 0 (omega (arith, small, before_count))));
    old = λ r other. elim (cases_Bool (is_fixed p.format r)) [
      | inl held ↦ fixed_same p after g.state.hart r after_count count held
      | inr free ↦ free_is r free ∙ other_is r (apart_is r free other)
    ];
  }

-- ==== The frame.

module _ (p : Part) (l : Layout) (layout : IsLayout p l) where
  -- free registers may have anything
  pub related_kept : (g : Going) (c d : Core) → IsRelated p l g c → Kept c d → IsRelated p l g d
  related_kept g c d is k = record {
    register_count = is.register_count;
    words = is.words;
    registers = λ r small. holds_kept l layout.plan_is_right c d r (value p g r) k (is.registers r small);
    frame = k.registers 4 (omega arith) ∙ is.frame;
    frame_is_written = λ j small. ap (λ w. w (l.frame + j)) k.writable ∙ is.frame_is_written j small;
    few = is.few;
    left = k.registers 14 (omega arith) ∙ is.left;
    bytes = λ j small. ap (λ m. m (l.data_start + j)) k.memory ∙ is.bytes j small;
    bytes_are_written = λ j small. ap (λ w. w (l.data_start + j)) k.writable ∙ is.bytes_are_written j small;
    origin_is = k.registers 15 (omega arith) ∙ is.origin_is;
  }

  slot_below : (r : ℕ) → r < 32 → l.frame + 4 * r + 4 ≤ 2 ^ 64
  slot_below r small = omega (arith, small, layout.frame_ends)

  slot_at : (c : Core) (r : ℕ) → r < 32 → c.registers 4 ≡ l.frame → address c (slot r) ≡ l.frame + 4 * r
  slot_at c r small frame =
      let near : nat_lt (4 * r) (2 ^ 31) ≡ true = lt-ltb (4 * r) (2 ^ 31) (omega (arith, small)) in
      let below : (l.frame + 0 + 4 * r) % 2 ^ 64 ≡ l.frame + 4 * r = omega (arith, slot_below r small) in
      rw (near, frame) below

  slot_is : (g : Going) (c : Core) (r : ℕ) → r < 32 → IsRelated p l g c → address c (slot r) ≡ l.frame + 4 * r
  slot_is g c r small is = slot_at c r small is.frame

  -- the value of an operand, where it lies
  pub operand_is : (c : Core) (r v : ℕ) → r < 32 → v < 2 ^ 32 → c.registers 4 ≡ l.frame → (o : Option Register) → Holds l c r o v → operand_value c Dword (operand_of o r) ≡ Ok v
  operand_is c r v small fits frame None has = ap (loaded c 4) (slot_at c r small frame) ∙ load_there c 4 (l.frame + 4 * r) v (slot_below r small) has
  operand_is c r v small fits frame (Some q) has = ap Ok (ap (low Dword) has ∙ low_is v fits)

  -- a register that lies there
  pub slot_loaded : (g : Going) (c : Core) (r : ℕ) → r < 32 → IsRelated p l g c → Holds l c r None (value p g r) → loaded c 4 (address c (slot r)) ≡ Ok (value p g r)
  slot_loaded g c r small is has = ap (loaded c 4) (slot_is g c r small is) ∙ load_there c 4 (l.frame + 4 * r) (value p g r) (slot_below r small) has

  -- the plan has the same fixed registers
  as_plan : (r : ℕ) → is_fixed l.plan.format r ≡ is_fixed p.format r
  as_plan r = ap (λ f. is_fixed f r) layout.format_is

  pub fixed_loaded : (g : Going) (c : Core) (r : ℕ) → r < 32 → is_fixed p.format r ≡ true → IsRelated p l g c → loaded c 4 (address c (slot r)) ≡ Ok (value p g r)
  fixed_loaded g c r small held is =
      slot_loaded g c r small is (subst (λ o. Holds l c r o (value p g r)) (layout.plan_is_right.in_frame r (as_plan r ∙ held)) (is.registers r small))

  fetched_from : (g : Going) (c : Core) (dst : Register) (r : ℕ) → r < 32 → IsRelated p l g c → (o : Option Register) → Holds l c r o (value p g r)
      → exec (Mov Dword dst (operand_of o r) ∷ []) c ≡ Ok (with_register c (number dst) (value p g r))
  unfolding computes
  fetched_from g c dst r small is None has = rw (slot_loaded g c r small is has) refl
  fetched_from g c dst r small is (Some q) has =
      ap (λ v. Ok (with_register c (number dst) v)) (ap (low Dword) has ∙ low_is (value p g r) (is.words r))

  -- a register's value in a free one
  pub fetched : (g : Going) (c : Core) (dst : Register) (r : ℕ) → r < 32 → IsRelated p l g c → exec (fetch l.plan dst r) c ≡ Ok (with_register c (number dst) (value p g r))
  fetched g c dst r small is = fetched_from g c dst r small is (assigned l.plan r) (is.registers r small)

  -- register r in the register that it lies in, or read into that free one
  pub record Reads (c : Core) (o : Option Register) (x : Register) (r v : ℕ) : Type 0 where
    pub core : Core
    pub straight : are_straight (read o x r) ≡ true
    pub runs : exec (read o x r) c ≡ Ok core
    pub result : core.registers (number (register_or o x)) ≡ v
    pub others : (k : ℕ) → (k ≡ number x → ⊥) → core.registers k ≡ c.registers k
    pub kept : Kept c core

  reads_from : (g : Going) (c : Core) (x : Register) → number x ≤ 2 → (r : ℕ) → r < 32 → IsRelated p l g c → (o : Option Register) → Holds l c r o (value p g r)
      → Reads c o x r (value p g r)
  reads_from g c x low r small is None has = record {
    core = with_register c (number x) (value p g r);
    straight = refl;
    runs = fetched_from g c x r small is None has;
    result = updated_same c.registers (number x) (value p g r);
    others = λ k other. updated_other c.registers (number x) (value p g r) k other;
    kept = kept_register c (number x) (value p g r) low;
  }
  reads_from g c x low r small is (Some q) has = record {
    core = c;
    straight = refl;
    runs = refl;
    result = has;
    others = λ k other. refl;
    kept = record { registers = λ k more. refl; memory = refl; writable = refl };
  }

  pub reads : (g : Going) (c : Core) (x : Register) → number x ≤ 2 → (r : ℕ) → r < 32 → IsRelated p l g c → Reads c (assigned l.plan r) x r (value p g r)
  reads g c x low r small is = reads_from g c x low r small is (assigned l.plan r) (is.registers r small)

  brought_from : (g : Going) (c : Core) (dst : Register) (r : ℕ) → r < 32 → IsRelated p l g c → (o : Option Register) → Holds l c r o (value p g r)
      → Leaves (number dst) (if lies_in o dst then [] else Mov Dword dst (operand_of o r) ∷ []) c (value p g r)
  brought_from g c dst r small is None has = record {
    after = with_register c (number dst) (value p g r);
    runs = straight_runs (Mov Dword dst (operand_of None r) ∷ []) c (with_register c (number dst) (value p g r)) refl (fetched_from g c dst r small is None has);
    result = updated_same c.registers (number dst) (value p g r);
    kept = but_register c (number dst) (value p g r);
  }
  brought_from g c dst r small is (Some q) has =
      let move = Mov Dword dst (operand_of (Some q) r) ∷ [] in
      let d = with_register c (number dst) (value p g r) in
      elim (cases_Bool (number q == number dst)) [
        | inl e ↦ subst (λ t. Leaves (number dst) (if t then [] else move) c (value p g r)) (sym e) (record {
          after = c;
          runs = straight_runs [] c c refl refl;
          result = ap c.registers (sym (eqb-true (number q) (number dst) e)) ∙ has;
          kept = but_same (number dst) c;
        })
        | inr e ↦ subst (λ t. Leaves (number dst) (if t then [] else move) c (value p g r)) (sym e) (record {
          after = d;
          runs = straight_runs move c d refl (fetched_from g c dst r small is (Some q) has);
          result = updated_same c.registers (number dst) (value p g r);
          kept = but_register c (number dst) (value p g r);
        })
      ]

  -- a register's value into that one, unless it lies there
  pub brought : (g : Going) (c : Core) (dst : Register) (r : ℕ) → r < 32 → IsRelated p l g c → Leaves (number dst) (bring l.plan dst r) c (value p g r)
  brought g c dst r small is = brought_from g c dst r small is (assigned l.plan r) (is.registers r small)

  -- a fixed register isn't written
  pub unwritten : (g : Going) (c : Core) (place : ControlPoint) (rd v : ℕ) (k : Hart) → IsRelated p l g c → IsWritten p g rd v k → is_fixed p.format rd ≡ true
      → IsRelated p l (record { place = place; state = record { hart = k; memory = g.state.memory }; left = g.left }) c
  unwritten g c place rd v k is w held = record {
    register_count = w.count;
    words = λ r. subst (λ x. x < 2 ^ 32) (sym (w.old r (inl held))) (is.words r);
    registers = λ r small. subst (λ x. Holds l c r (assigned l.plan r) x) (sym (w.old r (inl held))) (is.registers r small);
    frame = is.frame;
    frame_is_written = is.frame_is_written;
    few = is.few;
    left = is.left;
    bytes = is.bytes;
    bytes_are_written = is.bytes_are_written;
    origin_is = is.origin_is;
  }

  -- ---- eax into a register

  module _ (g : Going) (c : Core) (is : IsRelated p l g c) (place : ControlPoint) (rd v : ℕ) (k : Hart) (small : rd < 32) (fits : v < 2 ^ 32) (w : IsWritten p g rd v k) where
    abbrev pub turned : Going
    turned = record { place = place; state = record { hart = k; memory = g.state.memory }; left = g.left }

    abbrev at : ℕ
    at = l.frame + 4 * rd

    abbrev stored_core : Core
    stored_core = with_memory c (written c.memory 4 at v)

    word_is : (r : ℕ) → value p turned r < 2 ^ 32
    word_is r = elim (cases_Bool (is_fixed p.format rd)) [
      | inl held ↦ subst (λ x. x < 2 ^ 32) (sym (w.old r (inl held))) (is.words r)
      | inr free ↦ elim (cases_eq r rd) [
        | inl same ↦ subst (λ x. x < 2 ^ 32) (sym (ap (value p turned) same ∙ w.new free)) fits
        | inr other ↦ subst (λ x. x < 2 ^ 32) (sym (w.old r (inr other))) (is.words r)
      ]
    ]

    beside : (r : ℕ) → (r ≡ rd → ⊥) → (l.frame + 4 * r + 4 ≤ at) ⊎ (at + 4 ≤ l.frame + 4 * r)
    beside r other = elim (cases_lt r rd) [
      | inl before ↦ inl (omega (arith, before))
      | inr after ↦ inr (omega (arith, after, other))
    ]

    clear : (j : ℕ) → j < p.data_size → (l.data_start + j < at) ⊎ (at + 4 ≤ l.data_start + j)
    clear j within = elim layout.apart [
      | inl above ↦ inr (omega (arith, above, small))
      | inr below ↦ inl (omega (arith, below, within))
    ]

    -- where the value is in its place and the others are as before
    related_to : (e : Core) → is_fixed p.format rd ≡ false → Holds l e rd (assigned l.plan rd) v
        → ((r : ℕ) → r < 32 → (r ≡ rd → ⊥) → Holds l c r (assigned l.plan r) (value p g r) → Holds l e r (assigned l.plan r) (value p g r))
        → (r : ℕ) → r < 32 → Holds l e r (assigned l.plan r) (value p turned r)
    related_to e free new old r below = elim (cases_eq r rd) [
      | inl same ↦
          subst (λ x. Holds l e x (assigned l.plan x) (value p turned x)) (sym same)
          (subst (λ x. Holds l e rd (assigned l.plan rd) x) (sym (w.new free)) new)
      | inr other ↦ subst (λ x. Holds l e r (assigned l.plan r) x) (sym (w.old r (inr other))) (old r below other (is.registers r below))
    ]

    right : IsRightPlan l.plan
    right = layout.plan_is_right

    -- ---- in a register of the processor

    module _ (q : Register) (own : assigned l.plan rd ≡ Some q) (e : Core) (has : e.registers (number q) ≡ v) (kept : KeptBut (number q) c e) where
      numbered : Free (number q)
      numbered = free_register l.plan right rd q own

      not_fixed : is_fixed p.format rd ≡ false
      not_fixed = elim (cases_Bool (is_fixed p.format rd)) [
        | inl held ↦ let clash : None ≡ Some q = sym (right.in_frame rd (as_plan rd ∙ held)) ∙ own in cc
        | inr free ↦ free
      ]

      stays : (k : ℕ) → 2 < k → (k ≡ number q → ⊥) → e.registers k ≡ c.registers k
      stays = kept.registers

      pub moved : IsRelated p l turned e
      moved = record {
        register_count = w.count;
        words = word_is;
        registers = related_to e not_fixed (subst (λ o. Holds l e rd o v) (sym own) has)
            (λ r below other had. holds_on l c e r (value p g r) (assigned l.plan r) (λ x. ap (λ m. number_at m 4 (l.frame + 4 * r)) kept.memory)
            (λ k x. stays (number k) (free_register l.plan right r k x).above (λ same. other (right.apart r rd q (x ∙ ap Some (same_register k q same)) own))) had);
        frame = stays 4 (omega arith) (λ x. numbered.no_frame (sym x)) ∙ is.frame;
        frame_is_written = λ j below. ap (λ f. f (l.frame + j)) kept.writable ∙ is.frame_is_written j below;
        few = is.few;
        left = stays 14 (omega arith) (λ x. omega (arith, x, numbered.below)) ∙ is.left;
        bytes = λ j below. ap (λ m. m (l.data_start + j)) kept.memory ∙ is.bytes j below;
        bytes_are_written = λ j below. ap (λ f. f (l.data_start + j)) kept.writable ∙ is.bytes_are_written j below;
        origin_is = stays 15 (omega arith) (λ x. omega (arith, x, numbered.below)) ∙ is.origin_is;
      }

      pub moved_stay : OthersStay p l c e
      moved_stay = record {
        others = λ k more other apart. stays k more (λ x. apart (rd, q, own, sym x));
        elsewhere = λ a by_frame by_data. ap (λ m. m a) kept.memory;
        writable = kept.writable;
      }

    -- ---- eax there

    module _ (in_eax : c.registers 0 ≡ v) where
      -- the free registers stay
      abbrev pub FreeStay : Core → Type 0
      FreeStay e = (k : ℕ) → k < 3 → e.registers k ≡ c.registers k

      abbrev Wrote : List Native → Type 0
      Wrote is = (e : Core) × (exec is c ≡ Ok e) × IsRelated p l turned e × OthersStay p l c e × FreeStay e

      -- ---- in the frame

      module _ (free : is_fixed p.format rd ≡ false) (none : assigned l.plan rd ≡ None) where
        was : Holds l c rd None (value p g rd)
        was = subst (λ o. Holds l c rd o (value p g rd)) none (is.registers rd small)

        rewritten : IsRelated p l turned stored_core
        rewritten = record {
          register_count = w.count;
          words = word_is;
          registers = related_to stored_core free (subst (λ o. Holds l stored_core rd o v) (sym none) (number_written c.memory at v fits))
              (λ r below other has. holds_on l c stored_core r (value p g r) (assigned l.plan r)
              (λ e. number_elsewhere c.memory 4 at v 4 (l.frame + 4 * r) (beside r other)) (λ q e. refl) has);
          frame = is.frame;
          frame_is_written = is.frame_is_written;
          few = is.few;
          left = is.left;
          bytes = λ j within. written_elsewhere c.memory 4 at v (l.data_start + j) (clear j within) ∙ is.bytes j within;
          bytes_are_written = is.bytes_are_written;
          origin_is = is.origin_is;
        }

        can : may_write c.writable 4 at ≡ true
        can = may_write_each c.writable 4 at (λ j few.
            let e : l.frame + (4 * rd + j) ≡ at + j = omega arith in
            subst (λ a. c.writable a ≡ true) e (is.frame_is_written (4 * rd + j) (omega (arith, small, few))))

        store : stored c 4 (address c (slot rd)) (c.registers 0) ≡ Ok stored_core
        store =
            ap (λ a. stored c 4 a (c.registers 0)) (slot_is g c rd small is) ∙ ap (stored c 4 at) in_eax
            ∙ store_there c 4 at (value p g rd) v (slot_below rd small) was can

        stay : OthersStay p l c stored_core
        stay = record {
          others = λ j more other apart. refl;
          elsewhere = λ a by_frame by_data. written_elsewhere c.memory 4 at v a (elim by_frame [
            | inl below ↦ inl (omega (arith, below))
            | inr above ↦ inr (omega (arith, above, small))
          ]);
          writable = refl;
        }

        wrote_frame : Wrote (store_eax None rd ∷ [])
        unfolding computes
        wrote_frame = (stored_core, rw store refl, rewritten, stay, λ k low. refl)

      module _ (q : Register) (own : assigned l.plan rd ≡ Some q) where
        abbrev moved_core : Core
        moved_core = with_register c (number q) v

        there : moved_core.registers (number q) ≡ v
        there = updated_same c.registers (number q) v

        but : KeptBut (number q) c moved_core
        but = but_register c (number q) v

        wrote_register : Wrote (store_eax (Some q) rd ∷ [])
        unfolding computes
        wrote_register = (
          moved_core,
          ap (λ x. Ok (with_register c (number q) x)) (ap (low Dword) in_eax ∙ low_is v fits),
          moved q own moved_core there but,
          moved_stay q own moved_core there but,
          λ k low. updated_other c.registers (number q) v k (λ e. omega (arith, e, low, (free_register l.plan right rd q own).above)),
        )

      wrote_free : is_fixed p.format rd ≡ false → (o : Option Register) → assigned l.plan rd ≡ o → Wrote (store_eax o rd ∷ [])
      wrote_free free None e = wrote_frame free e
      wrote_free free (Some q) e = wrote_register q e

      pub wrote : Wrote (write l.plan rd)
      wrote = elim (cases_Bool (is_fixed p.format rd)) [
        | inl held ↦ (c, rw (as_plan rd, held) refl, unwritten g c place rd v k is w held, others_same p l c, λ k low. refl)
        | inr free ↦ subst (λ t. Wrote (if t then [] else store_eax (assigned l.plan rd) rd ∷ [])) (sym (as_plan rd ∙ free)) (wrote_free free (assigned l.plan rd) refl)
      ]

-- where the turn is doesn't matter
pub related_goes : (p : Part) (l : Layout) (g : Going) (c : Core) (place : ControlPoint) (pc : ℕ) → IsRelated p l g c → IsRelated p l (goes_with g place pc) c
related_goes p l g c place pc is = record {
  register_count = is.register_count;
  words = is.words;
  registers = is.registers;
  frame = is.frame;
  frame_is_written = is.frame_is_written;
  few = is.few;
  left = is.left;
  bytes = is.bytes;
  bytes_are_written = is.bytes_are_written;
  origin_is = is.origin_is;
}
