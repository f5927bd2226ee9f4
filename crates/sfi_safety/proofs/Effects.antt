-- What each instruction at a place without a finding does: it accesses the data and the guards, calls at a gate, and goes on to a place.
use Rattle.sfi_safety.proofs.Prelude.{has_words, IsImm12, Contains, ◌≡◌, ℕ, ◌+◌, ◌%◌, ◌^◌, ◌<◌, ◌≤◌, ◌⊎◌, inl, inr, ◌∷◌, length, Option, Some, None, Bool, true, false, cond, not, ◌==◌, refl, sym, ap, ◌∙◌, subst, ⊎_elim, arith, ◌&&◌, ℤ, pos, negsuc, is_some, slice_index, and_parts, or_cases, eqb-true, eqb-false, not-false, offset_by, Instr, Op, OpImm, Load, Store, Branch, Jal, Jalr, Lui, Auipc, Fence, Ecall, Ebreak, InRange, has_stack, is_stack, Bytes, bytes_at, address_after, addresses, loaded, stored, Next, Call, Trap, Accesses, Hart, register, with_register, with_pc, past, even_of, effect, after_load, next, unchanged, load_size, store_size, extended, is_taken, Part, code_region, IsBundleStart, IsRightPart, BundlePlace, InstrInBundle, is_empty, is_bundle_start, breaks_ecall, breaks_reserved, breaks_access, breaks_jump, breaks_target, breaks_stack, may_access, ends_region, InData, InGuard, IsGate, HasReserved, StackInData, Leaves, WritesResult, StackInDataBefore, IsAtPlace, Outcome, is_reserved, writes_stack, is_jump}
use Rattle.rv_word.specs.Outlines.{destination, is_register}
use Rattle.rv_word.specs.declared.instr.LoadKind.{LoadKind}
use Rattle.sfi_rules.specs.Readings.{follows_data_pair, follows_code_pair}
use Rattle.rv_step.specs.declared.outcome.Cause.TheVariants as cause
use Rattle.sfi_safe_runs.proofs.Accessing.{near_access, imm12_within, load_sized, store_sized, load_range, store_range, kept, count_kept, reserved_kept}
use Rattle.sfi_safety.proofs.Registers.{is_of_pair, stack_here, stack_after, jump_keeps, leaves_after}
use Rattle.sfi_image.specs.Parts.{reserved_of}

-- what is used of the place where a step begins, for the instruction there
pub record Here (sandbox : ℕ) (p : Part) (h : Hart) (i : Instr) (n : ℕ) : Type 0 where
  pub place : InstrInBundle
  pub address : place.address ≡ h.pc
  pub pc : h.pc < 2 ^ 32
  pub end : p.code_base + length p.code ≤ 2 ^ 32
  pub range : InRange i
  pub leaves : Leaves p place.earlier h.registers
  pub ecall : breaks_ecall place i ≡ false
  pub reserved : breaks_reserved i ≡ false
  pub access : breaks_access place i ≡ false
  pub jump : breaks_jump place i ≡ false
  pub target : breaks_target place i ≡ false
  pub writing : breaks_stack place i ≡ false
  pub format : has_stack place.bundle.format ≡ has_stack p.format
  pub stack : StackInDataBefore p place.earlier (record { instr = i; size = n } ∷ place.later) h.registers
  pub gate : is_empty place.earlier ≡ true → place.bundle.listed ≡ true → IsGate p h.pc
  pub is_start : (a : ℕ) → is_bundle_start place.bundle a ≡ true → IsBundleStart (code_region p) a
  pub goes : (h' : Hart) → h'.pc ≡ address_after h.pc n → ends_region i ≡ false → Leaves p (i ∷ place.earlier) h'.registers → StackInDataBefore p (i ∷ place.earlier) place.later h'.registers → IsAtPlace sandbox p h'
  pub start : (h' : Hart) → IsBundleStart (code_region p) h'.pc → StackInData p h'.registers → IsAtPlace sandbox p h'

-- the registers keep what no turn changes, and pc is at a place
pub record IsGoodHart (sandbox : ℕ) (p : Part) (h : Hart) : Type 0 where
  pub count : length h.registers ≡ 32
  pub reserved : HasReserved p.format (reserved_of p) h.registers
  pub place : IsAtPlace sandbox p h

-- pc is at the next instruction, or at a bundle's start
abbrev pub GoesTo : Part → Hart → ℕ → ℕ → Type 0
GoesTo p h n pc = (pc ≡ address_after h.pc n) ⊎ IsBundleStart (code_region p) pc

-- what a step of n bytes leads to, by its outcome
abbrev pub Leads : ℕ → Part → Hart → ℕ → Outcome → Hart → Type 0
Leads sandbox p h n Next h' = IsGoodHart sandbox p h' × GoesTo p h n h'.pc
Leads sandbox p h n Call h' = IsGate p h.pc
Leads sandbox p h n (Trap cause at) h' = Unit {0}

-- ---- accesses

-- the stack pointer lies in the data where an instruction stands that is not of its pair
lies : (sandbox : ℕ) (p : Part) (h : Hart) (i : Instr) (n : ℕ) → Here sandbox p h i n → is_of_pair i ≡ false → StackInData p h.registers
lies sandbox p h i n here other = stack_here p here.place.earlier (record { instr = i; size = n }) here.place.later h.registers other here.stack

-- the base of an access that breaks no rule lies in the data or the guards
base_lies : (sandbox : ℕ) (p : Part) (h : Hart) (i : Instr) (n : ℕ) (here : Here sandbox p h i n) → is_of_pair i ≡ false → (base : ℕ) → may_access here.place.bundle base here.place.earlier ≡ true
    → InData p (register h base)
base_lies sandbox p h i n here other base may =
    ⊎_elim
    (λ (on : is_stack here.place.bundle.format base ≡ true).
    let parts = and_parts (has_stack here.place.bundle.format) (base == 2) on in
    subst (λ (r : ℕ). InData p (register h r)) (sym (eqb-true base 2 parts.1)) (lies sandbox p h i n here other (sym here.format ∙ parts.0)))
    (λ (pair : follows_data_pair base here.place.earlier ≡ true). here.leaves.data_pair base pair)
    (or_cases (is_stack here.place.bundle.format base) (follows_data_pair base here.place.earlier) may)

-- an access on what lies in the data reaches no further than the guards
reaches : (p : Part) (v : ℕ) (imm : ℤ) (n a : ℕ) → IsRightPart p → InData p v → IsImm12 imm → n ≤ 4 → Contains (addresses (offset_by v imm) n) a → InData p a ⊎ InGuard p a
reaches p v imm n a right (from, below) range few has =
    near_access p right.guard_room v 0 2048 imm n a (record { low = omega arith; high = omega arith }) (imm12_within imm range) (omega arith) few has

pub accesses_near : (sandbox : ℕ) (p : Part) (h : Hart) (i : Instr) (n : ℕ) → IsRightPart p → Here sandbox p h i n → (a : ℕ) → Accesses i h a → InData p a ⊎ InGuard p a
accesses_near sandbox p h (Load kind rd rs1 imm) n right here a has =
    reaches p (register h rs1) imm (load_size kind) a right (base_lies sandbox p h (Load kind rd rs1 imm) n here refl rs1 (not-false _ here.access)) (load_range kind rd rs1 imm here.range) (load_sized kind).most has
accesses_near sandbox p h (Store width rs1 rs2 imm) n right here a has =
    reaches p (register h rs1) imm (store_size width) a right (base_lies sandbox p h (Store width rs1 rs2 imm) n here refl rs1 (not-false _ here.access)) (store_range width rs1 rs2 imm here.range) (store_sized width).most has
accesses_near sandbox p h other n right here a (k, below, is) = absurd (omega arith)

-- ---- each instruction

module _ (sandbox : ℕ) (p : Part) (h : Hart) (m : Bytes) (right : IsRightPart p) (bundles : has_words p.format ≡ false) (count : length h.registers ≡ 32) (reserved : HasReserved p.format (reserved_of p) h.registers) where
  good_writing : (pc rd value : ℕ) → is_reserved rd ≡ false → IsAtPlace sandbox p (with_register (with_pc h pc) rd value) → IsGoodHart sandbox p (with_register (with_pc h pc) rd value)
  good_writing pc rd value free place = record {
    count = count_kept rd value (with_pc h pc) ∙ count;
    reserved = reserved_kept p rd value (with_pc h pc) free reserved;
    place = place;
  }

  good_moving : (pc : ℕ) → IsAtPlace sandbox p (with_pc h pc) → IsGoodHart sandbox p (with_pc h pc)
  good_moving pc place = record { count = count; reserved = reserved; place = place }

  leaves_writing : (h' : Hart) (i : Instr) (n : ℕ) (here : Here sandbox p h i n) → WritesResult i h h' → Leaves p (i ∷ here.place.earlier) h'.registers
  leaves_writing h' i n here writes = leaves_after p h h' i here.place.earlier right bundles count reserved here.range writes here.leaves

  -- a write of another register keeps the stack pointer
  keeps : (b : BundlePlace) (i : Instr) (rd value : ℕ) (k : Hart) → destination i ≡ Some rd → has_stack b.format ≡ true → writes_stack b i ≡ false
      → slice_index (with_register k rd value).registers 2 ≡ slice_index k.registers 2
  keeps b i rd value k dest has none =
      let free : is_stack b.format rd ≡ false = ap (λ o. has_stack b.format && is_register 2 o) (sym dest) ∙ none in
      let other : (rd == 2) ≡ false = rw has at free in
      kept rd value 2 k (λ e. eqb-false rd 2 other (sym e))

  -- the instruction writes a register and goes on
  by_writing : (i : Instr) (n rd value : ℕ) (here : Here sandbox p h i n) → destination i ≡ Some rd → is_reserved rd ≡ false → ends_region i ≡ false → WritesResult i h (with_register (past h n) rd value) → IsGoodHart sandbox p (with_register (past h n) rd value)
  by_writing i n rd value here dest free goes writes =
      let h' = with_register (past h n) rd value in
      let leaves = leaves_writing h' i n here writes in
      let stack = stack_after p here.place i n h.registers h'.registers here.format here.writing (keeps here.place.bundle i rd value (past h n) dest) leaves here.stack in
      good_writing (address_after h.pc n) rd value free (here.goes h' refl goes leaves stack)

  -- the instruction writes no register and goes on
  by_moving : (i : Instr) (n : ℕ) (here : Here sandbox p h i n) → ends_region i ≡ false → WritesResult i h (past h n) → IsGoodHart sandbox p (past h n)
  by_moving i n here goes writes =
      let leaves = leaves_writing (past h n) i n here writes in
      let stack = stack_after p here.place i n h.registers h.registers here.format here.writing (λ has none. refl) leaves here.stack in
      good_moving (address_after h.pc n) (here.goes (past h n) refl goes leaves stack)

  by_load : (kind : LoadKind) (rd rs1 : ℕ) (imm : ℤ) (n : ℕ) → Here sandbox p h (Load kind rd rs1 imm) n → (o : Option ℕ) (at : ℕ) → Leads sandbox p h n (after_load o kind rd at n h m).outcome (after_load o kind rd at n h m).state.hart
  by_load kind rd rs1 imm n here None at = tt
  by_load kind rd rs1 imm n here (Some v) at = (by_writing (Load kind rd rs1 imm) n rd (extended kind v) here refl here.reserved refl tt, inl refl)

  by_store : (b : Bool) (w : Bytes) (at n : ℕ) → IsGoodHart sandbox p (past h n) → Leads sandbox p h n (cond b (next (past h n) w) (unchanged (Trap cause.Store at) h m)).outcome (cond b (next (past h n) w) (unchanged (Trap cause.Store at) h m)).state.hart
  by_store true w at n good = (good, inl refl)
  by_store false w at n good = tt

  by_branch : (taken : Bool) (i : Instr) (n target : ℕ) (here : Here sandbox p h i n) → is_of_pair i ≡ false → ends_region i ≡ false → WritesResult i h (past h n) → IsBundleStart (code_region p) target → Leads sandbox p h n Next (cond taken (with_pc h target) (past h n))
  by_branch true i n target here other goes writes start = (good_moving target (here.start (with_pc h target) start (lies sandbox p h i n here other)), inr start)
  by_branch false i n target here other goes writes start = (by_moving i n here goes writes, inl refl)

  -- the target that the rules allow is where the machine goes
  target_start : (i : Instr) (n : ℕ) (offset : ℤ) (here : Here sandbox p h i n) → not (is_bundle_start here.place.bundle (offset_by here.place.address offset)) ≡ false → IsBundleStart (code_region p) (offset_by h.pc offset)
  target_start i n offset here kept =
      let start = here.is_start (offset_by here.place.address offset) (not-false _ kept) in
      subst (λ (a : ℕ). IsBundleStart (code_region p) a) (ap (λ (a : ℕ). offset_by a offset) here.address) start

  -- a jump leaves the stack pointer where it lies
  jump_lies : (i : Instr) (n rd value pc : ℕ) (here : Here sandbox p h i n) → is_of_pair i ≡ false → is_jump i ≡ true → destination i ≡ Some rd → StackInData p (with_register (with_pc h pc) rd value).registers
  jump_lies i n rd value pc here other jump dest = λ has.
      subst (λ (a : ℕ). InData p a) (sym (keeps here.place.bundle i rd value (with_pc h pc) dest (here.format ∙ has) (jump_keeps here.place i jump here.writing)))
      (lies sandbox p h i n here other has)

  by_jalr : (rd rs1 n : ℕ) (imm : ℤ) → Here sandbox p h (Jalr rd rs1 imm) n → Leads sandbox p h n Next (with_register (with_pc h (even_of (offset_by (register h rs1) imm))) rd (address_after h.pc n))
  by_jalr rd rs1 n (pos k) here =
      let parts = and_parts (k == 0) (follows_code_pair rs1 here.place.earlier) (not-false _ here.jump) in
      let none : k ≡ 0 = eqb-true k 0 parts.0 in
      let start = here.leaves.code_pair rs1 parts.1 in
      let below : register h rs1 < p.code_base + length p.code = start.held.1 in
      let aligned : register h rs1 % 16 ≡ 0 = start.aligned in
      let end : p.code_base + length p.code ≤ 2 ^ 32 = here.end in
      let same : register h rs1 ≡ even_of ((register h rs1 + k) % 2 ^ 32) = omega arith in
      let pc = even_of (offset_by (register h rs1) (pos k)) in
      let h' = with_register (with_pc h pc) rd (address_after h.pc n) in
      let target = subst (λ (a : ℕ). IsBundleStart (code_region p) a) same start in
      (good_writing pc rd (address_after h.pc n) here.reserved (here.start h' target (jump_lies (Jalr rd rs1 (pos k)) n rd (address_after h.pc n) pc here refl refl refl)), inr target)
  by_jalr rd rs1 n (negsuc k) here = absurd (let e = here.jump in cc)

  by_ecall : (n : ℕ) → Here sandbox p h Ecall n → IsGate p h.pc
  by_ecall n here =
      let parts = and_parts (is_empty here.place.earlier) here.place.bundle.listed (not-false _ here.ecall) in
      here.gate parts.0 parts.1

  pub leads : (i : Instr) (n : ℕ) → Here sandbox p h i n → Leads sandbox p h n (effect i n h m).outcome (effect i n h m).state.hart
  leads (Op op rd rs1 rs2) n here = (by_writing (Op op rd rs1 rs2) n rd _ here refl here.reserved refl refl, inl refl)
  leads (OpImm op rd rs1 imm) n here = (by_writing (OpImm op rd rs1 imm) n rd _ here refl here.reserved refl tt, inl refl)
  leads (Load kind rd rs1 imm) n here = by_load kind rd rs1 imm n here (loaded m (offset_by (register h rs1) imm) (load_size kind)) (offset_by (register h rs1) imm)
  leads (Store width rs1 rs2 imm) n here =
      by_store (is_some (bytes_at m (addresses (offset_by (register h rs1) imm) (store_size width)))) (stored m (offset_by (register h rs1) imm) (store_size width) (register h rs2)) (offset_by (register h rs1) imm) n (by_moving (Store width rs1 rs2 imm) n here refl tt)
  leads (Branch condition rs1 rs2 offset) n here =
      by_branch (is_taken condition (register h rs1) (register h rs2)) (Branch condition rs1 rs2 offset) n (offset_by h.pc offset) here refl refl tt (target_start (Branch condition rs1 rs2 offset) n offset here here.target)
  leads (Jal rd offset) n here =
      let h' = with_register (with_pc h (offset_by h.pc offset)) rd (address_after h.pc n) in
      let target = target_start (Jal rd offset) n offset here here.target in
      (good_writing (offset_by h.pc offset) rd (address_after h.pc n) here.reserved (here.start h' target (jump_lies (Jal rd offset) n rd (address_after h.pc n) (offset_by h.pc offset) here refl refl refl)), inr target)
  leads (Jalr rd rs1 imm) n here = by_jalr rd rs1 n imm here
  leads (Lui rd imm) n here = (by_writing (Lui rd imm) n rd _ here refl here.reserved refl tt, inl refl)
  leads (Auipc rd imm) n here = (by_writing (Auipc rd imm) n rd _ here refl here.reserved refl tt, inl refl)
  leads (Fence imm rd rs1) n here = (by_moving (Fence imm rd rs1) n here refl tt, inl refl)
  leads Ecall n here = by_ecall n here
  leads Ebreak n here = tt
