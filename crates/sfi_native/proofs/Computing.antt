-- What the instructions of a computation leave.
use Rattle.std.proofs.Common.{◌≡◌, ◌/◌, ℕ, ◌+◌, ◌-◌, ◌*◌, ◌%◌, ◌^◌, ◌<◌, ◌==◌, ◌∙◌, Bool, true, false, List, [], ◌∷◌, Some, inl, inr, if◌then◌else◌, refl, sym, ap, subst, arith, eqb-true}
use Rattle.std.specs.Prelude.{Ok, nat_lt, int_lt, bit_and, bit_or, bit_xor}
use Rattle.std.proofs.lemmas.Bool.{cases_Bool, false≢true}
use Rattle.std.specs.Int.{from_bool}
use Rattle.rv_word.specs.declared.instr.RegOp.{RegOp}
use Rattle.rv_word.specs.declared.instr.RegOp.TheVariants.{Add, Sub, Sll, Slt, Sltu, Xor, Srl, Sra, Or, And, Mul, Mulh, Mulhsu, Mulhu, Div, Divu, Rem, Remu}
use Rattle.rv_word.specs.declared.instr.ImmOp.{ImmOp}
use Rattle.rv_word.specs.declared.instr.ImmOp.TheVariants.{Addi, Slti, Sltiu, Xori, Ori, Andi, Slli, Srli, Srai}
use Rattle.rv_step.specs.Step.{register_op, result_of, signed}
use Rattle.x86_instr.specs.declared.instr.Condition.{Condition}
use Rattle.x86_instr.specs.declared.instr.Condition.TheVariants.{Below, Less}
use Rattle.x86_instr.specs.declared.instr.Width.TheVariants.{Dword, Qword}
use Rattle.x86_instr.specs.declared.instr.Instr.{Instr as Native}
use Rattle.x86_instr.specs.declared.instr.Instr.TheVariants.{Alu, AluImm, Imul, Movsxd, ShiftImm}
use Rattle.x86_instr.specs.declared.instr.AluOp.TheVariants as alu
use Rattle.x86_instr.specs.Spelling.{number}
use Rattle.x86_instr.specs.declared.operand.Register.{Register}
use Rattle.x86_instr.specs.declared.operand.Operand.{Operand}
use Rattle.x86_instr.specs.declared.instr.ShiftOp.TheVariants.{Shl, Shr, Sar}
use Rattle.x86_instr.specs.declared.operand.Operand.TheVariants.{Reg}
use Rattle.x86_instr.specs.declared.operand.Register.TheVariants.{Rax, Rcx}
use Rattle.x86_step.specs.declared.machine.Flags.{Flags}
use Rattle.x86_step.specs.State.{Core, with_flags, with_register}
use Rattle.x86_step.specs.Step.{difference, is_met, logical, low, product, sign_extended, sum, value as operand_value}
unfoldable use Rattle.x86_step.specs.Step.{computes}
use Rattle.x86_step.specs.Running.{are_straight, exec, is_straight}
use Rattle.sfi_native.specs.Code.{high_product, needs_ecx, set_if}
unfoldable use Rattle.sfi_native.specs.Code.{compute, compute_imm}
use Rattle.sfi_native.proofs.Runs.{straight_runs}
use Rattle.sfi_native.proofs.Assigned.{updated_same}
use Rattle.sfi_native.proofs.Kept.{Computed, Leaves, behind, but_flags, but_join, but_register, but_same, kept_join, kept_register, kept_result}
use Rattle.sfi_native.proofs.Divisions.{divided_signed, divided_unsigned, remainder_signed, remainder_unsigned}
use Rattle.sfi_native.proofs.Products.{mixed_high, signed_high}
use Rattle.sfi_native.proofs.Arithmetic.{difference_is, less_is, low_is, sar_is, shl_is, shr_is, unsigned_product}

-- an operation whose result is v
computed_by : (c : Core) (is : List Native) (w v : ℕ) (f : Flags) → are_straight is ≡ true → exec is c ≡ Ok (with_flags (with_register c 0 w) f) → w ≡ v → Computed is c v
computed_by c is w v f straight runs e =
    let after = with_flags (with_register c 0 w) f in
    record { after = after; runs = straight_runs is c after straight runs; result = e; kept = kept_result c 0 w f (omega arith) }

bit_is : (x : ℕ) (b : Bool) → (x - x % 2 ^ 8 + from_bool b) % 2 ^ 8 ≡ from_bool b
bit_is x true = omega arith
bit_is x false = omega arith

-- ==== In any register.

leaves_by : (d : Register) (c : Core) (is : List Native) (w v : ℕ) (f : Flags) → are_straight is ≡ true → exec is c ≡ Ok (with_flags (with_register c (number d) w) f) → w ≡ v
    → Leaves (number d) is c v
leaves_by d c is w v f straight runs e =
    let k = with_register c (number d) w in
    record {
      after = with_flags k f;
      runs = straight_runs is c (with_flags k f) straight runs;
      result = updated_same c.registers (number d) w ∙ e;
      kept = but_join (number d) c k (with_flags k f) (but_register c (number d) w) (but_flags (number d) k f);
    }

-- a comparison, and its outcome as a number
set_leaves : (d : Register) (c : Core) (compare : Native) (condition : Condition) (f : Flags) (t : Bool) → is_straight compare ≡ true → computes compare c ≡ Ok (with_flags c f)
    → is_met condition f ≡ Some t → Leaves (number d) (set_if compare condition d) c (from_bool t)
unfolding computes
set_leaves d c compare condition f t straight runs met =
    let r = number d in
    let x = c.registers r - c.registers r % 2 ^ 8 + from_bool t in
    let k = with_flags c f in
    let s = with_register k r x in
    let y = s.registers r % 2 ^ 8 in
    record {
      after = with_register s r y;
      runs = straight_runs (set_if compare condition d) c (with_register s r y) (rw straight refl) (rw (runs, met) refl);
      result = updated_same s.registers r y ∙ ap (λ n. n % 2 ^ 8) (updated_same k.registers r x) ∙ bit_is (c.registers r) t;
      kept = but_join r c s (with_register s r y) (but_join r c k s (but_flags r c f) (but_register k r x)) (but_register s r y);
    }

module _ (d : Register) (s : Operand) (c : Core) (b : ℕ) (fa : c.registers (number d) < 2 ^ 32) (fb : b < 2 ^ 32) (has : operand_value c Dword s ≡ Ok b) where
  abbrev a : ℕ
  a = c.registers (number d)

  abbrev small : ℕ
  small = low Dword a

  -- an operation on a register and an operand
  pub computed_there : (op : RegOp) → needs_ecx op ≡ false → Leaves (number d) (compute op d s) c (result_of op a b)
  unfolding compute computes
  computed_there Add plain = leaves_by d c (Alu alu.Add Dword d s ∷ []) (sum Dword small b).result _ (sum Dword small b).flags refl (rw has refl) (rw (low_is a fa) refl)
  computed_there Sub plain = leaves_by d c (Alu alu.Sub Dword d s ∷ []) (difference Dword small b).result _ (difference Dword small b).flags refl (rw has refl) (rw (low_is a fa) (difference_is a b fa fb))
  computed_there Xor plain = leaves_by d c (Alu alu.Xor Dword d s ∷ []) (bit_xor small b) _ (logical Dword (bit_xor small b)).flags refl (rw has refl) (rw (low_is a fa) refl)
  computed_there Or plain = leaves_by d c (Alu alu.Or Dword d s ∷ []) (bit_or small b) _ (logical Dword (bit_or small b)).flags refl (rw has refl) (rw (low_is a fa) refl)
  computed_there And plain = leaves_by d c (Alu alu.And Dword d s ∷ []) (bit_and small b) _ (logical Dword (bit_and small b)).flags refl (rw has refl) (rw (low_is a fa) refl)
  computed_there Mul plain = leaves_by d c (Imul Dword d s ∷ []) (product Dword small b).result _ (product Dword small b).flags refl (rw has refl) (rw (low_is a fa) refl)
  computed_there Slt plain =
      set_leaves d c (Alu alu.Cmp Dword d s) Less (difference Dword small b).flags (int_lt (signed a) (signed b)) refl (rw has refl)
      (rw (low_is a fa) (ap Some (less_is a b fa fb)))
  computed_there Sltu plain =
      set_leaves d c (Alu alu.Cmp Dword d s) Below (difference Dword small b).flags (nat_lt a b) refl (rw has refl) (rw (low_is a fa) refl)
  computed_there op plain = absurd (false≢true (sym plain))

-- on a register and a number
module _ (d : Register) (n : ℕ) (c : Core) (fa : c.registers (number d) < 2 ^ 32) (fb : n < 2 ^ 32) where
  abbrev first : ℕ
  first = c.registers (number d)

  added : Leaves (number d) (compute_imm Addi d n) c (result_of Add first n)
  unfolding compute_imm computes
  added = elim (cases_Bool (n == 0)) [
    | inl e ↦ subst (λ t. Leaves (number d) (if t then [] else AluImm alu.Add Dword (Reg d) n ∷ []) c (result_of Add first n)) (sym e) (record {
      after = c;
      runs = straight_runs [] c c refl refl;
      result = omega (arith, fa, eqb-true n 0 e);
      kept = but_same (number d) c;
    })
    | inr e ↦ subst (λ t. Leaves (number d) (if t then [] else AluImm alu.Add Dword (Reg d) n ∷ []) c (result_of Add first n)) (sym e)
        (leaves_by d c (AluImm alu.Add Dword (Reg d) n ∷ []) _ _ _ refl refl (rw (low_is first fa) refl))
  ]

  pub computed_imm : (op : ImmOp) → Leaves (number d) (compute_imm op d n) c (result_of (register_op op) first n)
  unfolding compute_imm computes
  computed_imm Addi = added
  computed_imm Xori = leaves_by d c (AluImm alu.Xor Dword (Reg d) n ∷ []) _ _ _ refl refl (rw (low_is first fa) refl)
  computed_imm Ori = leaves_by d c (AluImm alu.Or Dword (Reg d) n ∷ []) _ _ _ refl refl (rw (low_is first fa) refl)
  computed_imm Andi = leaves_by d c (AluImm alu.And Dword (Reg d) n ∷ []) _ _ _ refl refl (rw (low_is first fa) refl)
  computed_imm Slli = leaves_by d c (ShiftImm Shl Dword (Reg d) (n % 256) ∷ []) _ _ _ refl refl (rw (low_is first fa) (shl_is first n c.flags fa))
  computed_imm Srli = leaves_by d c (ShiftImm Shr Dword (Reg d) (n % 256) ∷ []) _ _ _ refl refl (rw (low_is first fa) (shr_is first n c.flags))
  computed_imm Srai = leaves_by d c (ShiftImm Sar Dword (Reg d) (n % 256) ∷ []) _ _ _ refl refl (rw (low_is first fa) (sar_is first n c.flags fa))
  computed_imm Slti =
      set_leaves d c (AluImm alu.Cmp Dword (Reg d) n) Less (difference Dword (low Dword first) n).flags (int_lt (signed first) (signed n)) refl refl
      (rw (low_is first fa) (ap Some (less_is first n fa fb)))
  computed_imm Sltiu =
      set_leaves d c (AluImm alu.Cmp Dword (Reg d) n) Below (difference Dword (low Dword first) n).flags (nat_lt first n) refl refl
      (rw (low_is first fa) refl)

-- ==== In eax.

-- the high half of the product of rax and rcx
high_computed : (c : Core) (v : ℕ) → low Qword (low Qword (low Qword (c.registers 0) * low Qword (c.registers 1))) / 2 ^ 32 ≡ v → Computed high_product c v
unfolding computes
high_computed c v is =
    let product_is = low Qword (low Qword (c.registers 0) * low Qword (c.registers 1)) in
    let f = (product Qword (low Qword (c.registers 0)) (low Qword (c.registers 1))).flags in
    let d = with_flags (with_register c 0 product_is) f in
    let rest = computed_by d (ShiftImm Shr Qword (Reg Rax) 32 ∷ []) _ _ _ refl refl is in
    behind c d (Imul Qword Rax (Reg Rcx) ∷ []) (ShiftImm Shr Qword (Reg Rax) 32 ∷ []) v (straight_runs (Imul Qword Rax (Reg Rcx) ∷ []) c d refl refl) (kept_result c 0 product_is f (omega arith)) rest

-- an operation on eax and ecx
pub computed : (op : RegOp) (c : Core) → needs_ecx op ≡ true → c.registers 0 < 2 ^ 32 → c.registers 1 < 2 ^ 32 → Computed (compute op Rax (Reg Rcx)) c (result_of op (c.registers 0) (c.registers 1))
unfolding compute computes
computed Sll c plain fa fb = computed_by c _ _ _ _ refl refl (rw (low_is (c.registers 0) fa) (shl_is (c.registers 0) (c.registers 1) c.flags fa))
computed Srl c plain fa fb = computed_by c _ _ _ _ refl refl (rw (low_is (c.registers 0) fa) (shr_is (c.registers 0) (c.registers 1) c.flags))
computed Sra c plain fa fb = computed_by c _ _ _ _ refl refl (rw (low_is (c.registers 0) fa) (sar_is (c.registers 0) (c.registers 1) c.flags fa))
computed Mulh c plain fa fb =
    let a = sign_extended (low Dword (c.registers 0)) in
    let b = sign_extended (low Dword (c.registers 1)) in
    let k = with_register c 0 a in
    let d = with_register k 1 b in
    behind c d (Movsxd Rax (Reg Rax) ∷ Movsxd Rcx (Reg Rcx) ∷ []) high_product _ (straight_runs (Movsxd Rax (Reg Rax) ∷ Movsxd Rcx (Reg Rcx) ∷ []) c d refl refl)
    (kept_join c k d (kept_register c 0 a (omega arith)) (kept_register k 1 b (omega arith))) (high_computed d _ (signed_high (c.registers 0) (c.registers 1) fa fb))
computed Mulhsu c plain fa fb =
    let a = sign_extended (low Dword (c.registers 0)) in
    let d = with_register c 0 a in
    behind c d (Movsxd Rax (Reg Rax) ∷ []) high_product _ (straight_runs (Movsxd Rax (Reg Rax) ∷ []) c d refl refl) (kept_register c 0 a (omega arith))
    (high_computed d _ (mixed_high (c.registers 0) (c.registers 1) fa fb))
computed Mulhu c plain fa fb = high_computed c _ (unsigned_product (c.registers 0) (c.registers 1) fa fb)
computed Div c plain fa fb = divided_signed c fa fb
computed Divu c plain fa fb = divided_unsigned c fa fb
computed Rem c plain fa fb = remainder_signed c fa fb
computed Remu c plain fa fb = remainder_unsigned c fa fb
computed op c plain fa fb = absurd (false≢true plain)
