-- What each instruction does, and what passes a test of the rules.
use Rattle.sfi_word_safety.proofs.Prelude.{◌≡◌, ◌≢◌, ℕ, ◌<◌, true, false, ◌&&◌, ◌||◌, ◌==◌, refl, sym, ap, ◌∙◌, arith, ⊎_elim, Option, Some, None, ℤ, pos, negsuc, and_parts, or_cases, eqb-true, eq-eqb, false≢true, leb-true, ltb-true, destination, is_register, writes_register, Instr, Op, OpImm, Or, Addi, is_data_register_in, is_or, is_small, is_pointer_step, ◌+◌, ◌*◌, ◌%◌, ◌^◌, ◌≤◌, ◌⊎◌, List, length, Bool, cond, not, Format, has_single_mask, is_reserved_in, subst, inl, inr, slice_index, is_some, not-false, offset_by, Load, Store, Branch, Jal, Jalr, Lui, Auipc, Fence, Ecall, Ebreak, RegOp, LoadKind, Bytes, bytes_at, address_after, addresses, loaded, Hart, register, with_register, with_pc, past, even_of, effect, after_load, next, unchanged, word, result_of, load_size, store_size, is_taken, extended, Outcome, Next, Call, Trap, Part, is_gate_of, IsGate, breaks_reserved, ends_region, IsWordStart, HasReserved, is_word_start, breaks_ecall, breaks_jump, breaks_target}
use Rattle.sfi_safe_runs.proofs.Accessing.{IsWithin, kept, count_kept, written}
use Rattle.std.specs.Prelude.{nat_le, nat_lt}
use Rattle.rv_step.specs.declared.outcome.Cause.TheVariants as cause
use Rattle.rv_step.specs.Step.{register_op}
use Rattle.sfi_safe_runs.proofs.Stepping.{gate_of}
use Rattle.sfi_image.specs.Parts.{reserved_of}
use Rattle.sfi_image.specs.Spelling.{code_region}

-- ==== What passes a test of the rules.

-- ---- signed numbers

pub small_within : (z : ℤ) → is_small z ≡ true → IsWithin 1020 z
small_within (pos n) h = leb-true n 1020 h
small_within (negsuc n) h = ltb-true n 1020 h

-- ---- registers

pub record IsOther (d : ℕ) : Type 0 where
  pub below : d < 32
  pub some : d ≢ 0

other : (d k : ℕ) → (d == k) ≡ true → k < 32 → 0 < k → IsOther d
other d k e below some = let same = eqb-true d k e in record { below = omega arith; some = λ none. omega arith }

pub data_register : (f : Format) (d : ℕ) → is_data_register_in f d ≡ true → IsOther d
data_register f d h =
    ⊎_elim
    (λ (a : ((d == 2) || (d == 3) || (d == 4) || (d == 29)) ≡ true). one_of_four a)
    (λ (a : (((d == 26) || (d == 31)) && has_single_mask f) ≡ true). ⊎_elim
    (λ (b : (d == 26) ≡ true). other d 26 b (omega arith) (omega arith))
    (λ (b : (d == 31) ≡ true). other d 31 b (omega arith) (omega arith))
    (or_cases (d == 26) (d == 31) (and_parts ((d == 26) || (d == 31)) (has_single_mask f) a).0))
    (or_cases ((d == 2) || (d == 3) || (d == 4) || (d == 29)) (((d == 26) || (d == 31)) && has_single_mask f) h)
  where
    one_of_four : ((d == 2) || (d == 3) || (d == 4) || (d == 29)) ≡ true → IsOther d
    one_of_four h =
        ⊎_elim
        (λ (a : ((d == 2) || (d == 3) || (d == 4)) ≡ true). ⊎_elim
        (λ (b : ((d == 2) || (d == 3)) ≡ true). ⊎_elim
        (λ (c : (d == 2) ≡ true). other d 2 c (omega arith) (omega arith))
        (λ (c : (d == 3) ≡ true). other d 3 c (omega arith) (omega arith))
        (or_cases (d == 2) (d == 3) b))
        (λ (b : (d == 4) ≡ true). other d 4 b (omega arith) (omega arith))
        (or_cases ((d == 2) || (d == 3)) (d == 4) a))
        (λ (a : (d == 29) ≡ true). other d 29 a (omega arith) (omega arith))
        (or_cases ((d == 2) || (d == 3) || (d == 4)) (d == 29) h)

register_is : (r : ℕ) (o : Option ℕ) → is_register r o ≡ true → o ≡ Some r
register_is r (Some d) h = ap Some (eqb-true d r h)
register_is r None h = absurd (false≢true h)

-- the instruction's destination is the register, or it isn't
pub writes_it : (r : ℕ) (i : Instr) → writes_register r i ≡ true → destination i ≡ Some r
writes_it r i h = register_is r (destination i) h

pub writes_other : (r : ℕ) (i : Instr) → writes_register r i ≡ false → destination i ≢ Some r
writes_other r i h e = false≢true (sym h ∙ ap (is_register r) e ∙ eq-eqb r r refl)

-- ---- instructions

pub or_is : (rd a b : ℕ) (i : Instr) → is_or rd a b i ≡ true → i ≡ Op Or rd a b
or_is rd a b (Op Or x y z) h =
    let outer = and_parts ((x == rd) && (y == a)) (z == b) h in
    let inner = and_parts (x == rd) (y == a) outer.0 in
    let e1 = eqb-true x rd inner.0 in
    let e2 = eqb-true y a inner.1 in
    let e3 = eqb-true z b outer.1 in
    cc
or_is rd a b _ h = absurd (false≢true h)

pub step_is : (d : ℕ) (i : Instr) → is_pointer_step d i ≡ true → (imm : ℤ) × (i ≡ OpImm Addi d d imm)
step_is d (OpImm Addi x y imm) h =
    let inner = and_parts (x == d) (y == d) h in
    let e1 = eqb-true x d inner.0 in
    let e2 = eqb-true y d inner.1 in
    (imm, cc)
step_is d _ h = absurd (false≢true h)

-- ==== What each instruction does: which register it writes, where it goes, and that only what breaks V3 or V6 leaves.

-- ---- the register that it writes

abbrev pub Writes : Instr → Hart → Hart → Type 0
Writes i h h' =
    (h'.registers ≡ h.registers)
    ⊎ ((rd : ℕ) × (value : ℕ) × (destination i ≡ Some rd) × (h'.registers ≡ (with_register h rd value).registers))

load_writes : (o : Option ℕ) (kind : LoadKind) (rd rs1 at n : ℕ) (imm : ℤ) (h : Hart) (m : Bytes) → Writes (Load kind rd rs1 imm) h (after_load o kind rd at n h m).state.hart
load_writes None kind rd rs1 at n imm h m = inl refl
load_writes (Some v) kind rd rs1 at n imm h m = inr (rd, extended kind v, refl, refl)

moved : (b : Bool) (h k k' : Hart) → k.registers ≡ h.registers → k'.registers ≡ h.registers → (cond b k k').registers ≡ h.registers
moved true h k k' e f = e
moved false h k k' e f = f

store_writes : (b : Bool) (at n : ℕ) (w : Bytes) (h : Hart) (m : Bytes) → (cond b (next (past h n) w) (unchanged (Trap cause.Store at) h m)).state.hart.registers ≡ h.registers
store_writes true at n w h m = refl
store_writes false at n w h m = refl

pub writes : (i : Instr) (n : ℕ) (h : Hart) (m : Bytes) → Writes i h (effect i n h m).state.hart
writes (Op op rd rs1 rs2) n h m = inr (rd, result_of op (register h rs1) (register h rs2), refl, refl)
writes (OpImm op rd rs1 imm) n h m = inr (rd, result_of (register_op op) (register h rs1) (word imm), refl, refl)
writes (Load kind rd rs1 imm) n h m = load_writes (loaded m (offset_by (register h rs1) imm) (load_size kind)) kind rd rs1 (offset_by (register h rs1) imm) n imm h m
writes (Store width rs1 rs2 imm) n h m = inl (store_writes (is_some (bytes_at m (addresses (offset_by (register h rs1) imm) (store_size width)))) _ n _ h m)
writes (Branch condition rs1 rs2 offset) n h m = inl (moved (is_taken condition (register h rs1) (register h rs2)) h (with_pc h (offset_by h.pc offset)) (past h n) refl refl)
writes (Jal rd offset) n h m = inr (rd, address_after h.pc n, refl, refl)
writes (Jalr rd rs1 imm) n h m = inr (rd, address_after h.pc n, refl, refl)
writes (Lui rd imm) n h m = inr (rd, (imm * 4096) % 2 ^ 32, refl, refl)
writes (Auipc rd imm) n h m = inr (rd, (h.pc + imm * 4096) % 2 ^ 32, refl, refl)
writes (Fence imm rd rs1) n h m = inl refl
writes Ecall n h m = inl refl
writes Ebreak n h m = inl refl

-- the registers that the instruction doesn't write stay, and so does their number
pub others_stay : (i : Instr) (h h' : Hart) (r : ℕ) → Writes i h h' → destination i ≢ Some r → register h' r ≡ register h r
others_stay i h h' r (inl e) ne = ap (λ (l : List ℕ). slice_index l r) e
others_stay i h h' r (inr (rd, value, at, e)) ne =
    ap (λ (l : List ℕ). slice_index l r) e ∙ kept rd value r h (λ same. ne (at ∙ ap Some (sym same)))

pub count_stays : (i : Instr) (h h' : Hart) → Writes i h h' → length h'.registers ≡ length h.registers
count_stays i h h' (inl e) = ap length e
count_stays i h h' (inr (rd, value, at, e)) = ap length e ∙ count_kept rd value h

not_reserved : (f : Format) (i : Instr) (r : ℕ) → breaks_reserved f i ≡ false → is_reserved_in f r ≡ true → destination i ≢ Some r
not_reserved f i r free is e = by (destination i) e free
  where
    by : (o : Option ℕ) → o ≡ Some r → Rattle.sfi_rules.specs.words.Rules.is_reserved_one f o ≡ false → ⊥
    by None e g = cc
    by (Some d) e g = let same : d ≡ r = cc in false≢true (sym g ∙ ap (is_reserved_in f) same ∙ is)

pub reserved_stay : (p : Part) (i : Instr) (h h' : Hart) → Writes i h h' → breaks_reserved p.format i ≡ false → HasReserved p.format (reserved_of p) h.registers → HasReserved p.format (reserved_of p) h'.registers
reserved_stay p i h h' w free has = record {
  code_base = others_stay i h h' 24 w (not_reserved p.format i 24 free refl) ∙ has.code_base;
  code_mask = others_stay i h h' 25 w (not_reserved p.format i 25 free refl) ∙ has.code_mask;
  data_base = λ two. others_stay i h h' 26 w (not_reserved p.format i 26 free (rw two refl)) ∙ has.data_base two;
  data_mask = others_stay i h h' 27 w (not_reserved p.format i 27 free refl) ∙ has.data_mask;
}

-- an operation leaves its result
pub result_there : (i : Instr) (op : RegOp) (t a b n : ℕ) (h : Hart) (m : Bytes) → i ≡ Op op t a b → t ≢ 0 → t < length h.registers
    → register (effect i n h m).state.hart t ≡ result_of op (register h a) (register h b)
result_there i op t a b n h m e ne within =
    ap (λ (j : Instr). register (effect j n h m).state.hart t) e ∙ written t (result_of op (register h a) (register h b)) (past h n) ne within

pub step_there : (i : Instr) (t a n : ℕ) (imm : ℤ) (h : Hart) (m : Bytes) → i ≡ OpImm Addi t a imm → t ≢ 0 → t < length h.registers
    → register (effect i n h m).state.hart t ≡ result_of (register_op Addi) (register h a) (word imm)
step_there i t a n imm h m e ne within =
    ap (λ (j : Instr). register (effect j n h m).state.hart t) e ∙ written t (result_of (register_op Addi) (register h a) (word imm)) (past h n) ne within

-- ---- where it goes

abbrev pub is_flow : Instr → Bool
is_flow (Branch condition rs1 rs2 offset) = true
is_flow (Jal rd offset) = true
is_flow (Jalr rd rs1 imm) = true
is_flow _ = false

-- on to what stands after it, or by a jump or branch to a word's start; a call is at a gate
abbrev pub Leads : Part → Instr → ℕ → Hart → Outcome → Hart → Type 0
Leads p i n h Next h' = ((h'.pc ≡ address_after h.pc n) × (ends_region i ≡ false)) ⊎ (IsWordStart (code_region p) h'.pc × (is_flow i ≡ true))
Leads p i n h Call h' = IsGate p h.pc
Leads p i n h (Trap cause at) h' = Unit {0}

word_start : (p : Part) (a : ℕ) → not (is_word_start p.code_base (length p.code) a) ≡ false → IsWordStart (code_region p) a
word_start p a h =
    let x = and_parts (nat_le p.code_base a && nat_lt a (p.code_base + length p.code)) (a % 4 == 0) (not-false _ h) in
    let y = and_parts (nat_le p.code_base a) (nat_lt a (p.code_base + length p.code)) x.0 in
    record { held = (leb-true p.code_base a y.0, ltb-true a (p.code_base + length p.code) y.1); aligned = eqb-true (a % 4) 0 x.1 }

load_leads : (p : Part) (o : Option ℕ) (kind : LoadKind) (rd rs1 at n : ℕ) (imm : ℤ) (h : Hart) (m : Bytes) → Leads p (Load kind rd rs1 imm) n h (after_load o kind rd at n h m).outcome (after_load o kind rd at n h m).state.hart
load_leads p None kind rd rs1 at n imm h m = tt
load_leads p (Some v) kind rd rs1 at n imm h m = inl (refl, refl)

store_leads : (p : Part) (b : Bool) (i : Instr) (at n : ℕ) (w : Bytes) (h : Hart) (m : Bytes) → ends_region i ≡ false
    → Leads p i n h (cond b (next (past h n) w) (unchanged (Trap cause.Store at) h m)).outcome (cond b (next (past h n) w) (unchanged (Trap cause.Store at) h m)).state.hart
store_leads p true i at n w h m goes = inl (refl, goes)
store_leads p false i at n w h m goes = tt

branch_leads : (p : Part) (b : Bool) (i : Instr) (target n : ℕ) (h : Hart) → ends_region i ≡ false → is_flow i ≡ true → IsWordStart (code_region p) target
    → Leads p i n h Next (cond b (with_pc h target) (past h n))
branch_leads p true i target n h goes flow start = inr (start, flow)
branch_leads p false i target n h goes flow start = inl (refl, goes)

jalr_leads : (p : Part) (rd rs1 n : ℕ) (imm : ℤ) (h : Hart) → p.code_base + length p.code ≤ 2 ^ 32 → breaks_jump (Jalr rd rs1 imm) ≡ false → IsWordStart (code_region p) (register h 30)
    → IsWordStart (code_region p) (even_of (offset_by (register h rs1) imm))
jalr_leads p rd rs1 n (pos k) h end kept start =
    let parts = and_parts (k == 0) (rs1 == 30) (not-false _ kept) in
    let none : k ≡ 0 = eqb-true k 0 parts.0 in
    let on : register h rs1 ≡ register h 30 = ap (λ (r : ℕ). register h r) (eqb-true rs1 30 parts.1) in
    let below : register h 30 < p.code_base + length p.code = start.held.1 in
    let aligned : register h 30 % 4 ≡ 0 = start.aligned in
    let same : register h 30 ≡ even_of ((register h rs1 + k) % 2 ^ 32) = omega arith in
    subst (λ (a : ℕ). IsWordStart (code_region p) a) same start
jalr_leads p rd rs1 n (negsuc k) h end kept start = absurd (let e = kept in cc)

module _ (p : Part) (h : Hart) (m : Bytes) (end : p.code_base + length p.code ≤ 2 ^ 32) where
  pub leads : (i : Instr) (n : ℕ) → breaks_ecall (is_gate_of p.gates h.pc) i ≡ false → breaks_jump i ≡ false → breaks_target p.code_base (length p.code) h.pc i ≡ false → (is_flow i ≡ true → IsWordStart (code_region p) (register h 30))
      → Leads p i n h (effect i n h m).outcome (effect i n h m).state.hart
  leads (Op op rd rs1 rs2) n ecall jump target code = inl (refl, refl)
  leads (OpImm op rd rs1 imm) n ecall jump target code = inl (refl, refl)
  leads (Load kind rd rs1 imm) n ecall jump target code = load_leads p (loaded m (offset_by (register h rs1) imm) (load_size kind)) kind rd rs1 (offset_by (register h rs1) imm) n imm h m
  leads (Store width rs1 rs2 imm) n ecall jump target code = store_leads p (is_some (bytes_at m (addresses (offset_by (register h rs1) imm) (store_size width)))) (Store width rs1 rs2 imm) _ n _ h m refl
  leads (Branch condition rs1 rs2 offset) n ecall jump target code =
      branch_leads p (is_taken condition (register h rs1) (register h rs2)) (Branch condition rs1 rs2 offset) (offset_by h.pc offset) n h refl refl (word_start p (offset_by h.pc offset) target)
  leads (Jal rd offset) n ecall jump target code = inr (word_start p (offset_by h.pc offset) target, refl)
  leads (Jalr rd rs1 imm) n ecall jump target code = inr (jalr_leads p rd rs1 n imm h end jump (code refl), refl)
  leads (Lui rd imm) n ecall jump target code = inl (refl, refl)
  leads (Auipc rd imm) n ecall jump target code = inl (refl, refl)
  leads (Fence imm rd rs1) n ecall jump target code = inl (refl, refl)
  leads Ecall n ecall jump target code = gate_of p.gates h.pc (not-false _ ecall)
  leads Ebreak n ecall jump target code = tt
