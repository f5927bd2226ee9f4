-- How many bytes lines have.
use Rattle.std.proofs.Common.{◌≡◌, ℕ, ◌+◌, ◌-◌, ◌*◌, ◌%◌, ◌^◌, ◌<◌, ◌≤◌, Bool, true, false, List, [], ◌∷◌, ◌++◌, length, refl, sym, ap, ◌∙◌, subst, arith, inl, inr, if◌then◌else◌, length-append, cond, Option, Some, None, ◌/◌}
use Rattle.std.specs.Prelude.{◌==◌, nat_lt, ◌&&◌, not, get_or}
use Rattle.std.proofs.lemmas.Bool.{cond_both, eq-eqb, false≢true, lt-ltb}
use Rattle.rv_word.specs.declared.instr.RegOp.{RegOp}
use Rattle.rv_word.specs.declared.instr.RegOp.TheVariants.{Add, Sub, Sll, Slt, Sltu, Xor, Srl, Sra, Or, And, Mul, Mulh, Mulhsu, Mulhu, Div, Divu, Rem, Remu}
use Rattle.rv_word.specs.declared.instr.ImmOp.{ImmOp}
use Rattle.rv_word.specs.declared.instr.ImmOp.TheVariants.{Addi, Slti, Sltiu, Xori, Ori, Andi, Slli, Srli, Srai}
use Rattle.rv_word.specs.declared.instr.LoadKind.{LoadKind}
use Rattle.rv_word.specs.declared.instr.LoadKind.TheVariants.{Lb, Lh, Lw, Lbu, Lhu}
use Rattle.rv_word.specs.declared.instr.StoreWidth.{StoreWidth}
use Rattle.rv_word.specs.declared.instr.StoreWidth.TheVariants.{Sb, Sh, Sw}
use Rattle.rv_word.specs.declared.instr.Cond.{Cond}
use Rattle.rv_word.specs.declared.instr.Instr.{Instr}
use Rattle.rv_word.specs.declared.instr.Instr.TheVariants.{Op, OpImm, Load, Store, Branch, Jal, Jalr, Lui, Auipc, Fence, Ecall, Ebreak}
unfoldable use Rattle.rv_word.specs.Spelling.{InRange}
use Rattle.rv_word.specs.Spelling.{offset_by}
use Rattle.rv_mem.specs.Bytes.{address_after}
use Rattle.rv_step.specs.Step.{word}
use Rattle.rv_comp.specs.Fronts.{Spells}
use Rattle.rv_comp.proofs.Facts.{spelled_in_range}
use Rattle.rv_comp.specs.Table.{expansion}
use Rattle.rv_comp.specs.declared.form.Form16.{Form16}
use Rattle.rv_comp.specs.declared.form.Form16.TheVariants.{CSub}
use Rattle.sfi_translate.specs.Lines.{Does}
use Rattle.x86_instr.specs.declared.operand.Register.TheVariants.{Rax, Rcx, Rdx, R14}
use Rattle.x86_instr.specs.declared.operand.Address.{Address}
use Rattle.x86_instr.specs.declared.operand.Operand.{Operand}
use Rattle.x86_instr.specs.declared.operand.Operand.TheVariants.{Mem, Reg}
use Rattle.x86_instr.specs.declared.instr.Width.TheVariants.{Dword}
use Rattle.x86_instr.specs.declared.instr.AluOp.{AluOp}
use Rattle.x86_instr.specs.declared.instr.AluOp.TheVariants as alu
use Rattle.x86_instr.specs.declared.instr.Instr.TheVariants.{Alu, AluImm, Imul, Jcc, Jmp, MovExtended, MovImm, Setcc, ShiftImm, Mov}
use Rattle.x86_instr.specs.declared.instr.ShiftOp.{ShiftOp}
use Rattle.x86_instr.specs.declared.instr.ShiftOp.TheVariants.{Shl, Shr, Sar}
use Rattle.x86_instr.specs.declared.instr.Narrow.TheVariants.{Byte}
use Rattle.x86_instr.specs.declared.instr.Extension.TheVariants.{Zero}
use Rattle.x86_instr.specs.declared.instr.Condition.{Condition}
use Rattle.x86_instr.specs.declared.instr.Condition.TheVariants.{Below, Less}
use Rattle.x86_instr.specs.declared.instr.Instr.{Instr as Native}
unfoldable use Rattle.x86_instr.specs.Spelling.{memory, rex, spelling}
use Rattle.x86_instr.specs.Spelling.{alu_number, byte_extended, coded, coded_0f, dword_bytes, is_short, modrm, number, rex_bits, shift_number, sib}
use Rattle.x86_step.specs.Running.{spellings}
use Rattle.x86_step.proofs.Running.{spellings_append}
use Rattle.x86_instr.specs.declared.operand.Register.{Register}
use Rattle.x86_instr.specs.declared.instr.NopSize.{NopSize}
use Rattle.x86_instr.specs.declared.instr.NopSize.TheVariants as nop
use Rattle.sfi_native.specs.declared.plan.Plan.{Plan}
use Rattle.sfi_native.specs.Registers.{assigned, half_word, is_fixed, IsUnpadded, nop as nop_at, owed as owed_at}
unfoldable use Rattle.sfi_native.specs.Code.{compute, compute_imm, leave_line_size}
use Rattle.sfi_native.specs.declared.jump.Jump.{Jump}
unfoldable use Rattle.sfi_native.specs.Code.{computation}
use Rattle.sfi_native.specs.Places.{instruction_code, jump_of, nop_code, owed_behind, shared_jump, size_of}
use Rattle.sfi_native.specs.Code.{are_exchanged, beside_code, branch_jump, branch_line, is_bare, met_by, bring, combine, compare_code, is_number, keeps_beside_zero, count, count_size, ecx_code, lies_in, needs_ecx, place_beside, place_code, read, register_or, result_in, settle, data_address, end_code, end_size, fetch, has_test, head_line, imm_code, indirect_jump, indirect_jump_size, jal_line, jalr_line, leave_code, leave_line, load_code, load_from, load_line, number_code, op_code, op_imm_code, operand_of, opposite, set_if, slot, store_code, store_eax, store_line, store_to, target_code, tested_jump, write}
use Rattle.sfi_native.proofs.Lists.{tested_bytes, count_few, counted_four, few_short, indirect_size, tested_size}

-- ==== Operands.

abbrev pub bytes : List Native → ℕ
bytes is = length (spellings is)

pub both : (a b : List Native) → bytes (a ++ b) ≡ bytes a + bytes b
both a b = ap length (spellings_append a b) ∙ length-append (spellings a) (spellings b)

of_either : (t : Bool) (a b : List ℕ) (n : ℕ) → length a ≤ n → (t ≡ false → length b ≤ n) → length (if t then a else b) ≤ n
of_either true a b n first second = first
of_either false a b n first second = second refl

-- at most four bytes of displacement
memory_most : (reg : ℕ) (a : Address) → length (memory reg a) ≤ 6
unfolding memory
memory_most reg a =
    of_either ((a.displacement == 0) && not (number a.base % 8 == 5)) (modrm 0 reg 4 ∷ sib a ∷ []) (if is_short a.displacement then modrm 1 reg 4 ∷ sib a ∷ (a.displacement % 256) ∷ [] else modrm 2 reg 4 ∷ sib a ∷ dword_bytes a.displacement) 6
    (omega arith)
    (λ e. of_either (is_short a.displacement) (modrm 1 reg 4 ∷ sib a ∷ (a.displacement % 256) ∷ []) (modrm 2 reg 4 ∷ sib a ∷ dword_bytes a.displacement) 6 (omega arith) (λ f. omega arith))

slot_short : (r : ℕ) → r < 32 → is_short (4 * r) ≡ true
slot_short r below =
    let e : 4 * r % 256 ≡ 4 * r = omega (arith, below) in
    let less : nat_lt (4 * r) 128 ≡ true = lt-ltb (4 * r) 128 (omega (arith, below)) in
    ap (λ b. byte_extended b == 4 * r) e ∙ ap (λ (t : Bool). (if t then 4 * r else 4 * r + (2 ^ 32 - 256)) == 4 * r) less ∙ eq-eqb (4 * r) (4 * r) refl

-- a register of the frame has one
slot_most : (reg r : ℕ) → r < 32 → length (memory reg (slot r)) ≤ 3
unfolding memory
slot_most reg r below =
    let a = slot r in
    of_either ((4 * r == 0) && true) (modrm 0 reg 4 ∷ sib a ∷ []) (if is_short (4 * r) then modrm 1 reg 4 ∷ sib a ∷ (4 * r % 256) ∷ [] else modrm 2 reg 4 ∷ sib a ∷ dword_bytes (4 * r)) 3
    (omega arith)
    (λ e. rw (slot_short r below) (omega arith))

rex_most : (n : ℕ) → length (rex n) ≤ 1
unfolding rex
rex_most n = of_either (n == 0) [] ((64 + n) ∷ []) 1 (omega arith) (λ e. omega arith)

-- a move between registers
move_most : (n a b : ℕ) → length ((rex n ++ a ∷ b ∷ []) ++ []) ≤ 4
move_most n a b = omega (arith, rex_most n, length-append (rex n ++ a ∷ b ∷ []) [], length-append (rex n) (a ∷ b ∷ []))

-- what is before an immediate
coded_most : (opcode reg : ℕ) (o : Option Register) (r : ℕ) → r < 32 → length (coded Dword opcode reg (operand_of o r)) ≤ 5
coded_most opcode reg None r below =
    let n = rex_bits Dword reg (Mem (slot r)) in
    omega (arith, rex_most n, slot_most reg r below, length-append (rex n) (opcode ∷ memory reg (slot r)))
coded_most opcode reg (Some q) r below =
    let n = rex_bits Dword reg (Reg q) in
    omega (arith, rex_most n, length-append (rex n) (opcode ∷ modrm 3 reg (number q) ∷ []))

coded_0f_most : (opcode reg : ℕ) (o : Option Register) (r : ℕ) → r < 32 → length (coded_0f Dword opcode reg (operand_of o r)) ≤ 6
coded_0f_most opcode reg None r below =
    let n = rex_bits Dword reg (Mem (slot r)) in
    omega (arith, rex_most n, slot_most reg r below, length-append (rex n) (0x0F ∷ opcode ∷ memory reg (slot r)))
coded_0f_most opcode reg (Some q) r below =
    let n = rex_bits Dword reg (Reg q) in
    omega (arith, rex_most n, length-append (rex n) (0x0F ∷ opcode ∷ modrm 3 reg (number q) ∷ []))

mov_most : (dst : Register) (o : Option Register) (r : ℕ) → r < 32 → bytes (Mov Dword dst (operand_of o r) ∷ []) ≤ 5
unfolding spelling
mov_most dst o r below = omega (arith, coded_most 0x8B (number dst) o r below, length-append (coded Dword 0x8B (number dst) (operand_of o r)) [])

alu_most : (op : AluOp) (dst : Register) (o : Option Register) (r : ℕ) → r < 32 → bytes (Alu op Dword dst (operand_of o r) ∷ []) ≤ 5
unfolding spelling
alu_most op dst o r below =
    let opcode = alu_number op * 8 + 3 in
    omega (arith, coded_most opcode (number dst) o r below, length-append (coded Dword opcode (number dst) (operand_of o r)) [])

read_most : (o : Option Register) (free : Register) (r : ℕ) → r < 32 → bytes (read o free r) ≤ 5
read_most None free r below = mov_most free None r below
read_most (Some q) free r below = omega arith

-- eax asks for no prefix
eax_coded_most : (opcode : ℕ) (o : Option Register) (r : ℕ) → r < 32 → length (coded Dword opcode 0 (operand_of o r)) ≤ 4
unfolding rex
eax_coded_most opcode None r below = omega (arith, slot_most 0 r below)
eax_coded_most opcode (Some q) r below =
    let n = rex_bits Dword 0 (Reg q) in
    omega (arith, rex_most n, length-append (rex n) (opcode ∷ modrm 3 0 (number q) ∷ []))

-- the comparison of two registers
compared_most : (first second : Option Register) (r s : ℕ) → r < 32 → s < 32 → bytes (read first Rax r) + bytes (Alu alu.Cmp Dword (register_or first Rax) (operand_of second s) ∷ []) ≤ 8
unfolding spelling
compared_most (Some q) second r s a b = omega (arith, alu_most alu.Cmp q second s b)
compared_most None second r s a b =
    let opcode = alu_number alu.Cmp * 8 + 3 in
    omega (arith, eax_coded_most 0x8B None r a, length-append (coded Dword 0x8B 0 (operand_of None r)) [], eax_coded_most opcode second s b, length-append (coded Dword opcode 0 (operand_of second s)) [])

-- a place in the data
place_most_of : (opcode reg : ℕ) (a : Address) → length (coded Dword opcode reg (Mem a)) ≤ 8
place_most_of opcode reg a =
    let n = rex_bits Dword reg (Mem a) in
    omega (arith, rex_most n, memory_most reg a, length-append (rex n) (opcode ∷ memory reg a))

fetch_most : (plan : Plan) (dst : Register) (r : ℕ) → r < 32 → bytes (fetch plan dst r) ≤ 5
fetch_most plan dst r below = mov_most dst (assigned plan r) r below

bring_most : (plan : Plan) (dst : Register) (r : ℕ) → r < 32 → bytes (bring plan dst r) ≤ 5
bring_most plan dst r below =
    cond_both (lies_in (assigned plan r) dst) [] (fetch plan dst r) (λ (is : List Native). bytes is ≤ 5) (λ e. omega arith) (λ e. fetch_most plan dst r below)

eax_most : (o : Option Register) (r : ℕ) → r < 32 → bytes (store_eax o r ∷ []) ≤ 4
unfolding spelling rex
eax_most None r below = omega (arith, slot_most 0 r below, length-append (memory 0 (slot r)) [])
eax_most (Some q) r below = move_most _ 0x8B (modrm 3 (number q) 0)

write_most : (plan : Plan) (r : ℕ) → r < 32 → bytes (write plan r) ≤ 4
write_most plan r below = cond_both (is_fixed plan.format r) [] (store_eax (assigned plan r) r ∷ []) (λ (is : List Native). bytes is ≤ 4) (λ e. omega arith) (λ e. eax_most (assigned plan r) r below)

settle_most : (plan : Plan) (o : Option Register) (r : ℕ) → r < 32 → bytes (settle plan o r) ≤ 4
settle_most plan None r below = write_most plan r below
settle_most plan (Some q) r below = omega arith

-- ==== Computations.

set_is : (c : Condition) (d : Register) → bytes (Setcc c d ∷ MovExtended Zero Byte d (Reg d) ∷ []) ≡ 8
unfolding spelling rex
set_is c d = refl

set_most : (compare : Native) (condition : Condition) (d : Register) (n : ℕ) → bytes (compare ∷ []) ≤ n → bytes (set_if compare condition d) ≤ n + 8
set_most compare condition d n less = omega (arith, less, both (compare ∷ []) (Setcc condition d ∷ MovExtended Zero Byte d (Reg d) ∷ []), set_is condition d)

imul_most : (dst : Register) (o : Option Register) (r : ℕ) → r < 32 → bytes (Imul Dword dst (operand_of o r) ∷ []) ≤ 6
unfolding spelling
imul_most dst o r below = omega (arith, coded_0f_most 0xAF (number dst) o r below, length-append (coded_0f Dword 0xAF (number dst) (operand_of o r)) [])

ecx_most : (op : RegOp) → needs_ecx op ≡ true → (d : Register) (s : Operand) → bytes (compute op d s) ≤ 37
unfolding compute spelling rex
ecx_most Sll needs d s = omega arith
ecx_most Srl needs d s = omega arith
ecx_most Sra needs d s = omega arith
ecx_most Mulh needs d s = omega arith
ecx_most Mulhsu needs d s = omega arith
ecx_most Mulhu needs d s = omega arith
ecx_most Div needs d s = omega arith
ecx_most Divu needs d s = omega arith
ecx_most Rem needs d s = omega arith
ecx_most Remu needs d s = omega arith
ecx_most op needs d s = absurd (false≢true needs)

place_most : (op : RegOp) → needs_ecx op ≡ false → (d : Register) (o : Option Register) (r : ℕ) → r < 32 → bytes (compute op d (operand_of o r)) ≤ 14
unfolding compute
place_most Add plain d o r below = omega (arith, alu_most alu.Add d o r below)
place_most Sub plain d o r below = omega (arith, alu_most alu.Sub d o r below)
place_most Xor plain d o r below = omega (arith, alu_most alu.Xor d o r below)
place_most Or plain d o r below = omega (arith, alu_most alu.Or d o r below)
place_most And plain d o r below = omega (arith, alu_most alu.And d o r below)
place_most Slt plain d o r below = omega (arith, set_most (Alu alu.Cmp Dword d (operand_of o r)) Less d 5 (alu_most alu.Cmp d o r below))
place_most Sltu plain d o r below = omega (arith, set_most (Alu alu.Cmp Dword d (operand_of o r)) Below d 5 (alu_most alu.Cmp d o r below))
place_most Mul plain d o r below = omega (arith, imul_most d o r below)
place_most op plain d o r below = absurd (false≢true (sym plain))

-- an immediate has one byte or four
register_most : (opcode reg : ℕ) (d : Register) → length (coded Dword opcode reg (Reg d)) ≤ 3
register_most opcode reg d =
    let n = rex_bits Dword reg (Reg d) in
    omega (arith, rex_most n, length-append (rex n) (opcode ∷ modrm 3 reg (number d) ∷ []))

imm_most : (op : AluOp) (d : Register) (n : ℕ) → bytes (AluImm op Dword (Reg d) n ∷ []) ≤ 7
unfolding spelling
imm_most op d n =
    let short = coded Dword 0x83 (alu_number op) (Reg d) in
    let long = coded Dword 0x81 (alu_number op) (Reg d) in
    let four = dword_bytes n in
    omega (
      arith,
      of_either (is_short n) (short ++ (n % 256) ∷ []) (long ++ four) 7
          (omega (arith, length-append short ((n % 256) ∷ []), register_most 0x83 (alu_number op) d))
          (λ e. omega (arith, length-append long four, register_most 0x81 (alu_number op) d)),
      length-append (if is_short n then short ++ (n % 256) ∷ [] else long ++ four) [],
    )

target_imm : (op : AluOp) (n : ℕ) → length ((if is_short n then 0x83 ∷ modrm 3 (alu_number op) 2 ∷ (n % 256) ∷ [] else 0x81 ∷ modrm 3 (alu_number op) 2 ∷ dword_bytes n) ++ []) ≤ 6
target_imm op n =
    let short = 0x83 ∷ modrm 3 (alu_number op) 2 ∷ (n % 256) ∷ [] in
    let long = 0x81 ∷ modrm 3 (alu_number op) 2 ∷ dword_bytes n in
    omega (arith, of_either (is_short n) short long 6 (omega arith) (λ e. omega arith), length-append (if is_short n then short else long) [])

-- of edx
target_most : (n : ℕ) → bytes (AluImm alu.Add Dword (Reg Rdx) n ∷ []) ≤ 6
unfolding spelling rex
target_most n = target_imm alu.Add n

shift_most : (op : ShiftOp) (d : Register) (n : ℕ) → bytes (ShiftImm op Dword (Reg d) n ∷ []) ≤ 4
unfolding spelling
shift_most op d n =
    let front = coded Dword 0xC1 (shift_number op) (Reg d) in
    omega (arith, register_most 0xC1 (shift_number op) d, length-append front (n ∷ []), length-append (front ++ n ∷ []) [])

compute_imm_most : (op : ImmOp) (d : Register) (n : ℕ) → bytes (compute_imm op d n) ≤ 15
unfolding compute_imm
compute_imm_most Addi d n =
    cond_both (n == 0) [] (AluImm alu.Add Dword (Reg d) n ∷ []) (λ (is : List Native). bytes is ≤ 15) (λ e. omega arith) (λ e. omega (arith, imm_most alu.Add d n))
compute_imm_most Slti d n = omega (arith, set_most (AluImm alu.Cmp Dword (Reg d) n) Less d 7 (imm_most alu.Cmp d n))
compute_imm_most Sltiu d n = omega (arith, set_most (AluImm alu.Cmp Dword (Reg d) n) Below d 7 (imm_most alu.Cmp d n))
compute_imm_most Xori d n = omega (arith, imm_most alu.Xor d n)
compute_imm_most Ori d n = omega (arith, imm_most alu.Or d n)
compute_imm_most Andi d n = omega (arith, imm_most alu.And d n)
compute_imm_most Slli d n = omega (arith, shift_most Shl d (n % 256))
compute_imm_most Srli d n = omega (arith, shift_most Shr d (n % 256))
compute_imm_most Srai d n = omega (arith, shift_most Sar d (n % 256))

-- ==== Lines.

pub owed_few : (plan : Plan) (at : ℕ) → owed_at plan at < 63
owed_few plan at = omega arith

size_few : (owed next : ℕ) → count_size owed next ≤ 4
size_few owed next = cond_both (owed == next) 0 4 (λ (n : ℕ). n ≤ 4) (λ e. omega arith) (λ e. omega arith)

number_by : (plan : Plan) (o : Option Register) (rd n : ℕ) → rd < 32 → bytes (MovImm (result_in o) n ∷ settle plan o rd) ≤ 9
unfolding spelling rex
number_by plan None rd n below = omega (arith, both (MovImm Rax n ∷ []) (write plan rd), write_most plan rd below)
number_by plan (Some q) rd n below =
    let x = number q / 8 in
    let front = rex x ++ (0xB8 + number q % 8) ∷ [] in
    omega (arith, rex_most x, length-append (rex x) ((0xB8 + number q % 8) ∷ []), length-append front (dword_bytes n), length-append (front ++ dword_bytes n) [])

number_most : (plan : Plan) (rd n : ℕ) → rd < 32 → bytes (number_code plan rd n) ≤ 9
number_most plan rd n below = number_by plan (assigned plan rd) rd n below

ecx_code_most : (plan : Plan) (op : RegOp) (rd rs1 rs2 : ℕ) → rd < 32 → rs1 < 32 → rs2 < 32 → needs_ecx op ≡ true → bytes (ecx_code plan op rd rs1 rs2) ≤ 51
ecx_code_most plan op rd rs1 rs2 d a b needs =
    let does = compute op Rax (Reg Rcx) in
    omega (arith, both (fetch plan Rax rs1) (fetch plan Rcx rs2 ++ (does ++ write plan rd)), both (fetch plan Rcx rs2) (does ++ write plan rd), both does (write plan rd), fetch_most plan Rax rs1 a, fetch_most plan Rcx rs2 b, ecx_most op needs Rax (Reg Rcx), write_most plan rd d)

combine_most : (plan : Plan) (op : RegOp) → needs_ecx op ≡ false → (d : Register) (rs2 : ℕ) → rs2 < 32 → bytes (combine plan op d rs2) ≤ 14
combine_most plan op plain d rs2 below =
    let place = assigned plan rs2 in
    cond_both (keeps_beside_zero op && (rs2 == 0)) [] (compute op d (operand_of place rs2)) (λ (is : List Native). bytes is ≤ 14) (λ e. omega arith) (λ e. place_most op plain d place rs2 below)

place_code_most : (plan : Plan) (o : Option Register) (op : RegOp) (rd rs1 rs2 : ℕ) → rd < 32 → rs1 < 32 → rs2 < 32 → needs_ecx op ≡ false → bytes (place_code plan o op rd rs1 rs2) ≤ 23
place_code_most plan o op rd rs1 rs2 d a b plain =
    let does = combine plan op (result_in o) rs2 in
    omega (arith, both (bring plan (result_in o) rs1) (does ++ settle plan o rd), both does (settle plan o rd), bring_most plan (result_in o) rs1 a, combine_most plan op plain (result_in o) rs2 b, settle_most plan o rd d)

-- with four bytes more at most
module _ (plan : Plan) (op : RegOp) (rd rs1 rs2 : ℕ) (d : rd < 32) (a : rs1 < 32) (b : rs2 < 32) (counted : List Native) (few : bytes counted ≤ 4) where
  abbrev in_place : List Native
  in_place = if are_exchanged op rd rs1 rs2 then beside_code plan op rd rs2 rs1 else beside_code plan op rd rs1 rs2

  in_place_most : needs_ecx op ≡ false → bytes in_place ≤ 23
  in_place_most plain =
      cond_both (are_exchanged op rd rs1 rs2) (beside_code plan op rd rs2 rs1) (beside_code plan op rd rs1 rs2) (λ (is : List Native). bytes is ≤ 23)
      (λ x. place_code_most plan (place_beside plan rd rs1) op rd rs2 rs1 d b a plain) (λ x. place_code_most plan (place_beside plan rd rs2) op rd rs1 rs2 d a b plain)

  op_by : (t : Bool) → needs_ecx op ≡ t → bytes ((if t then ecx_code plan op rd rs1 rs2 else in_place) ++ counted) ≤ (if t then 55 else 46)
  op_by true e = omega (arith, both (ecx_code plan op rd rs1 rs2) counted, few, ecx_code_most plan op rd rs1 rs2 d a b e)
  op_by false e = omega (arith, both in_place counted, few, in_place_most e)

  op_most : bytes (op_code plan op rd rs1 rs2 ++ counted) ≤ (if needs_ecx op then 55 else 46)
  op_most = op_by (needs_ecx op) refl

imm_line_most : (plan : Plan) (op : ImmOp) (rd rs1 n : ℕ) → rd < 32 → rs1 < 32 → bytes (imm_code plan op rd rs1 n) ≤ 24
imm_line_most plan op rd rs1 n d a =
    let o = assigned plan rd in
    let does = compute_imm op (result_in o) n in
    omega (arith, both (bring plan (result_in o) rs1) (does ++ settle plan o rd), both does (settle plan o rd), bring_most plan (result_in o) rs1 a, compute_imm_most op (result_in o) n, settle_most plan o rd d)

op_imm_most : (plan : Plan) (op : ImmOp) (rd rs1 n : ℕ) → rd < 32 → rs1 < 32 → bytes (op_imm_code plan op rd rs1 n) ≤ 24
op_imm_most plan op rd rs1 n d a =
    cond_both (is_number op rs1) (number_code plan rd n) (imm_code plan op rd rs1 n) (λ (is : List Native). bytes is ≤ 24)
    (λ e. omega (arith, number_most plan rd n d)) (λ e. imm_line_most plan op rd rs1 n d a)

tested_most : (owed : ℕ) (j : Jump) → owed < 128 → j.label_owed < 63 → bytes (tested_jump owed j) ≤ 28
tested_most owed j a b =
    omega (
      arith,
      tested_size owed j a b,
      size_few owed j.label_owed,
      size_few j.label_owed 0,
      cond_both (has_test j) (10 + leave_line_size j.label_owed) 5 (λ (n : ℕ). n ≤ 24) (λ e. omega (arith, size_few j.label_owed 0)) (λ e. omega arith),
    )

jcc_is : (c : Condition) (n : ℕ) → bytes (Jcc c n ∷ []) ≡ 6
unfolding spelling
jcc_is c n = refl

jump_most : (bare : Bool) (cond : Cond) (owed : ℕ) (j : Jump) → owed < 128 → j.label_owed < 63 → bytes (branch_jump bare cond owed j) ≤ 34
jump_most true cond owed j a b = omega (arith, jcc_is (met_by cond) j.label)
jump_most false cond owed j a b =
    let jump = tested_jump owed j in
    omega (arith, both (Jcc (opposite cond) (bytes jump) ∷ []) jump, jcc_is (opposite cond) (bytes jump), tested_most owed j a b)

branch_most : (plan : Plan) (owed next : ℕ) (cond : Cond) (rs1 rs2 : ℕ) (j : Jump) → owed < 63 → next < 63 → j.label_owed < 63 → rs1 < 32 → rs2 < 32
    → bytes (branch_line plan owed next cond rs1 rs2 j) ≤ 46
branch_most plan owed next cond rs1 rs2 j few few_behind few_there a b =
    let jump = tested_jump next j in
    let counted = count (owed + 1) next in
    let first = assigned plan rs1 in
    let second = assigned plan rs2 in
    let compare = Alu alu.Cmp Dword (register_or first Rax) (operand_of second rs2) ∷ [] in
    omega (
      arith,
      both (compare_code plan owed next rs1 rs2) (branch_jump (is_bare next j) cond next j),
      jump_most (is_bare next j) cond next j (omega (arith, few_behind)) (omega (arith, few_there)),
      both (read first Rax rs1) (counted ++ compare),
      both counted compare,
      compared_most first second rs1 rs2 a b,
      count_few (owed + 1) next (omega (arith, few)) (omega (arith, few_behind)),
    )

jal_most : (plan : Plan) (owed rd behind : ℕ) (j : Jump) → owed < 63 → j.label_owed < 63 → rd < 32 → bytes (jal_line plan owed rd behind j) ≤ 37
jal_most plan owed rd behind j few few_there d =
    omega (arith, both (number_code plan rd behind) (tested_jump (owed + 1) j), number_most plan rd behind d, tested_most (owed + 1) j (omega (arith, few)) (omega (arith, few_there)))

jmp_is : (n : ℕ) → bytes (Jmp n ∷ []) ≡ 5
unfolding spelling
jmp_is n = refl

and_is : bytes (AluImm alu.And Dword (Reg Rdx) (2 ^ 32 - 2) ∷ []) ≡ 3
unfolding spelling rex
and_is = refl

jalr_most : (plan : Plan) (owed rd rs1 displacement behind distance : ℕ) → owed < 63 → rd < 32 → rs1 < 32 → bytes (jalr_line plan owed rd rs1 displacement behind distance) ≤ 40
jalr_most plan owed rd rs1 displacement behind distance few d a =
    let counted = count (owed + 1) 0 in
    let sum = AluImm alu.Add Dword (Reg Rdx) displacement in
    let even = AluImm alu.And Dword (Reg Rdx) (2 ^ 32 - 2) in
    omega (
      arith,
      both (target_code plan rs1 displacement ++ (number_code plan rd behind ++ counted)) (Jmp distance ∷ []),
      both (target_code plan rs1 displacement) (number_code plan rd behind ++ counted),
      both (number_code plan rd behind) counted,
      both (fetch plan Rdx rs1) (sum ∷ even ∷ []),
      both (sum ∷ []) (even ∷ []),
      fetch_most plan Rdx rs1 a,
      target_most displacement,
      and_is,
      number_most plan rd behind d,
      count_few (owed + 1) 0 (omega (arith, few)) (omega arith),
      jmp_is distance,
    )

from_most : (kind : LoadKind) (dst : Register) (a : Address) → bytes (load_from kind dst a ∷ []) ≤ 9
unfolding spelling
from_most Lb dst a = omega (arith, memory_most (number dst) a, length-append (memory (number dst) a) [])
from_most Lh dst a = omega (arith, memory_most (number dst) a, length-append (memory (number dst) a) [])
from_most Lw dst a = omega (arith, place_most_of 0x8B (number dst) a, length-append (coded Dword 0x8B (number dst) (Mem a)) [])
from_most Lbu dst a = omega (arith, memory_most (number dst) a, length-append (memory (number dst) a) [])
from_most Lhu dst a = omega (arith, memory_most (number dst) a, length-append (memory (number dst) a) [])

load_most : (plan : Plan) (owed next : ℕ) (kind : LoadKind) (rd rs1 displacement : ℕ) → owed < 63 → next < 63 → rd < 32 → rs1 < 32
    → bytes (load_line plan owed next kind rd rs1 displacement) ≤ 22
load_most plan owed next kind rd rs1 n few few_behind d a =
    let base = assigned plan rs1 in
    let place = assigned plan rd in
    let to = data_address (register_or base Rax) n in
    omega (
      arith,
      both (load_code plan kind rd rs1 n) (count (owed + 1) next),
      both (read base Rax rs1) (load_from kind (result_in place) to ∷ settle plan place rd),
      both (load_from kind (result_in place) to ∷ []) (settle plan place rd),
      read_most base Rax rs1 a,
      from_most kind (result_in place) to,
      settle_most plan place rd d,
      count_few (owed + 1) next (omega (arith, few)) (omega (arith, few_behind)),
    )

to_most : (width : StoreWidth) (a : Address) (src : Register) → bytes (store_to width a src ∷ []) ≤ 9
unfolding spelling
to_most Sb a src = omega (arith, memory_most (number src) a, length-append (memory (number src) a) [])
to_most Sh a src = omega (arith, place_most_of 0x89 (number src) a, length-append (coded Dword 0x89 (number src) (Mem a)) [])
to_most Sw a src = omega (arith, place_most_of 0x89 (number src) a, length-append (coded Dword 0x89 (number src) (Mem a)) [])

store_most : (plan : Plan) (owed next : ℕ) (width : StoreWidth) (rs1 rs2 displacement : ℕ) → owed < 63 → next < 63 → rs1 < 32 → rs2 < 32
    → bytes (store_line plan owed next width rs1 rs2 displacement) ≤ 23
store_most plan owed next width rs1 rs2 n few few_behind a b =
    let base = assigned plan rs1 in
    let stored = assigned plan rs2 in
    let to = data_address (register_or base Rax) n in
    let access = store_to width to (register_or stored Rcx) ∷ [] in
    omega (
      arith,
      both (store_code plan width rs1 rs2 n) (count (owed + 1) next),
      both (read base Rax rs1) (read stored Rcx rs2 ++ access),
      both (read stored Rcx rs2) access,
      read_most base Rax rs1 a,
      read_most stored Rcx rs2 b,
      to_most width to (register_or stored Rcx),
      count_few (owed + 1) next (omega (arith, few)) (omega (arith, few_behind)),
    )

pub head_most : (at owed distance : ℕ) → owed < 63 → bytes (head_line at owed distance) ≤ 24
head_most at owed distance few = omega (arith, tested_bytes at owed 0 distance few, size_few owed 0)

pub leave_is : (at distance : ℕ) → bytes (leave_code at distance) ≡ 10
unfolding spelling rex
leave_is at distance = refl

leave_most : (at owed distance : ℕ) → owed < 63 → bytes (leave_line at owed distance) ≤ 14
leave_most at owed distance few = omega (arith, both (count owed 0) (leave_code at distance), leave_is at distance, count_few owed 0 (omega (arith, few)) (omega arith))

pub end_is : (end owed : ℕ) → owed < 128 → bytes (end_code end owed) ≡ end_size
end_is end owed few =
    let counted = AluImm alu.Sub Dword (Reg R14) owed in
    omega (
      arith,
      both (counted ∷ leave_code end indirect_jump_size) (indirect_jump 0),
      both (counted ∷ []) (leave_code end indirect_jump_size),
      counted_four owed (few_short owed few),
      leave_is end indirect_jump_size,
      indirect_size 0,
    )

-- ==== An instruction.

-- it takes ecx as an operand
abbrev takes_ecx : Instr → Bool
takes_ecx (Op op rd rs1 rs2) = needs_ecx op
takes_ecx i = false

module _ (plan : Plan) (at n : ℕ) where
  abbrev here : ℕ
  here = owed_at plan at

  abbrev next : ℕ
  next = owed_behind plan at n

  here_few : here < 63
  here_few = owed_few plan at

  next_few : next < 63
  next_few = owed_few plan (address_after at n)

  counted : bytes (count (here + 1) next) ≤ 4
  counted = count_few (here + 1) next (omega (arith, here_few)) (omega (arith, next_few))

  with_count : (is : List Native) (most : ℕ) → bytes is ≤ most → bytes (is ++ count (here + 1) next) ≤ most + 4
  with_count is most few = omega (arith, both is (count (here + 1) next), few, counted)

  -- without padding
  abbrev own_bytes : Instr → ℕ
  own_bytes i = bytes (instruction_code plan (λ to. 0) 0 at n i)

  does_most : (i : Instr) → InRange i → own_bytes i ≤ (if takes_ecx i then 55 else 46)
  unfolding InRange computation
  does_most (Op op rd rs1 rs2) (d, a, b) = op_most plan op rd rs1 rs2 d a b (count (here + 1) next) counted
  does_most (OpImm op rd rs1 imm) (d, a, fits) = omega (arith, with_count (op_imm_code plan op rd rs1 (word imm)) 24 (op_imm_most plan op rd rs1 (word imm) d a))
  does_most (Lui rd imm) (d, fits) = omega (arith, with_count (number_code plan rd ((imm * 4096) % 2 ^ 32)) 9 (number_most plan rd ((imm * 4096) % 2 ^ 32) d))
  does_most (Auipc rd imm) (d, fits) = omega (arith, with_count (number_code plan rd ((at + imm * 4096) % 2 ^ 32)) 9 (number_most plan rd ((at + imm * 4096) % 2 ^ 32) d))
  does_most (Fence imm rd rs1) range = omega (arith, counted)
  does_most (Branch c rs1 rs2 offset) (a, b, fits) =
      let j = jump_of plan (λ to. 0) 0 at (offset_by at offset) in
      omega (arith, branch_most plan here next c rs1 rs2 j here_few next_few (owed_few plan (offset_by at offset)) a b)
  does_most (Jal rd offset) (d, fits) =
      let j = jump_of plan (λ to. 0) 0 at (offset_by at offset) in
      omega (arith, jal_most plan here rd (address_after at n) j here_few (owed_few plan (offset_by at offset)) d)
  does_most (Jalr rd rs1 imm) (d, a, fits) = omega (arith, jalr_most plan here rd rs1 (word imm) (address_after at n) (shared_jump 0) here_few d a)
  does_most (Load kind rd rs1 imm) (d, a, fits) = omega (arith, load_most plan here next kind rd rs1 (word imm) here_few next_few d a)
  does_most (Store width rs1 rs2 imm) (a, b, fits) = omega (arith, store_most plan here next width rs1 rs2 (word imm) here_few next_few a b)
  does_most Ecall range = omega (arith, leave_most at here 0 here_few)
  does_most Ebreak range = omega (arith, leave_most at here 0 here_few)

-- none of two bytes does
short_plain : (f : Form16) → takes_ecx (expansion f) ≡ false
short_plain (CSub d t) = refl
short_plain f = refl

wide_most : (t : Bool) (size : ℕ) → size ≤ (if t then 55 else 46) → size ≤ 55
wide_most true size most = most
wide_most false size most = omega (arith, most)

-- a nop has at most 9
nop_most : (o : Option NopSize) → bytes (nop_code o) ≤ 9
unfolding spelling
nop_most None = omega arith
nop_most (Some nop.One) = omega arith
nop_most (Some _) = omega arith

-- the most bytes for so many of its own: where nops stand before instructions, and where none does
abbrev pub per : Bool → ℕ → ℕ
per true n = 28 * n
per false n = 23 * n

pub per_add : (padded : Bool) (m n : ℕ) → per padded (m + n) ≡ per padded m + per padded n
per_add true m n = omega arith
per_add false m n = omega arith

-- no nop stands where the plan has none
abbrev pub MayPad : Bool → Plan → Type 0
MayPad true plan = Unit {0}
MayPad false plan = IsUnpadded plan

pub piece_most : (padded : Bool) (plan : Plan) → MayPad padded plan → (at n : ℕ) (i : Instr) (spelled : List ℕ) → Spells spelled i n → size_of plan (Does at n i) ≤ per padded n
piece_most padded plan may at n i spelled spells =
    by padded may (omega (arith, both (nop_code (nop_at plan at)) (instruction_code plan (λ to. 0) 0 at n i), own spells)) (least spells)
  where
    most : own_bytes plan at n i ≤ (if takes_ecx i then 55 else 46)
    most = does_most plan at n i (spelled_in_range spelled i n spells)

    own : Spells spelled i n → own_bytes plan at n i ≤ 23 * n
    own (inl short) =
        let plain : takes_ecx i ≡ false = ap takes_ecx (sym short.spelled.expands) ∙ short_plain short.spelled.form in
        omega (arith, subst (λ t. own_bytes plan at n i ≤ (if t then 55 else 46)) plain most, short.size)
    own (inr wide) = omega (arith, wide_most (takes_ecx i) _ most, wide.size)

    least : Spells spelled i n → 2 ≤ n
    least (inl short) = omega (arith, short.size)
    least (inr wide) = omega (arith, wide.size)

    by : (padded : Bool) → MayPad padded plan → size_of plan (Does at n i) ≤ bytes (nop_code (nop_at plan at)) + 23 * n → 2 ≤ n → size_of plan (Does at n i) ≤ per padded n
    by true may size some = omega (arith, size, some, nop_most (nop_at plan at))
    by false may size some = omega (arith, size, ap (λ items. bytes (nop_code (get_or items (half_word plan at) None))) may)
