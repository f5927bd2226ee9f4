-- How many instructions the code of lines has.
use Rattle.std.proofs.Common.{◌≡◌, ℕ, suc, ◌+◌, ◌*◌, ◌-◌, ◌%◌, ◌^◌, ◌≤◌, ◌==◌, Bool, Option, Some, None, true, false, List, [], ◌∷◌, ◌++◌, length, if◌then◌else◌, refl, arith, length-append}
use Rattle.std.proofs.lemmas.Bool.{cond_both}
use Rattle.std.specs.Prelude.{◌&&◌}
use Rattle.rv_word.specs.declared.instr.RegOp.{RegOp}
use Rattle.rv_word.specs.declared.instr.RegOp.TheVariants.{Add, Sub, Sll, Slt, Sltu, Xor, Srl, Sra, Or, And, Mul, Mulh, Mulhsu, Mulhu, Div, Divu, Rem, Remu}
use Rattle.rv_word.specs.declared.instr.ImmOp.{ImmOp}
use Rattle.rv_word.specs.declared.instr.ImmOp.TheVariants.{Addi, Slti, Sltiu, Xori, Ori, Andi, Slli, Srli, Srai}
use Rattle.rv_word.specs.declared.instr.LoadKind.{LoadKind}
use Rattle.rv_word.specs.declared.instr.StoreWidth.{StoreWidth}
use Rattle.rv_word.specs.declared.instr.Instr.{Instr}
use Rattle.rv_word.specs.declared.instr.Instr.TheVariants.{Op, OpImm, Load, Store, Branch, Jal, Jalr, Lui, Auipc, Fence, Ecall, Ebreak}
use Rattle.rv_step.specs.Step.{word}
use Rattle.x86_instr.specs.declared.operand.Register.{Register}
use Rattle.x86_instr.specs.declared.operand.Register.TheVariants.{Rax, Rcx, R14}
use Rattle.x86_instr.specs.declared.operand.Operand.{Operand}
use Rattle.x86_instr.specs.declared.operand.Operand.TheVariants.{Reg}
use Rattle.x86_instr.specs.declared.instr.Condition.{Condition}
use Rattle.x86_instr.specs.declared.instr.Instr.{Instr as Native}
use Rattle.x86_instr.specs.declared.instr.Instr.TheVariants.{Alu, AluImm, MovImm}
use Rattle.x86_instr.specs.declared.instr.AluOp.TheVariants as alu
use Rattle.x86_instr.specs.declared.instr.Width.TheVariants.{Dword}
use Rattle.sfi_native.specs.declared.plan.Plan.{Plan}
use Rattle.sfi_native.specs.declared.jump.Jump.{Jump}
use Rattle.sfi_native.specs.Registers.{assigned, is_fixed}
use Rattle.sfi_native.specs.Laws.{line_most}
unfoldable use Rattle.sfi_native.specs.Code.{computation, compute, compute_imm, leap, leave_code, leave_line, test_code}
use Rattle.sfi_native.specs.Code.{are_exchanged, beside_code, bring, combine, compare_code, computing_line, count, data_address, ecx_code, fetch, has_test, imm_code, is_number, keeps_beside_zero, lies_in, load_code, load_from, load_line, needs_ecx, number_code, op_code, op_imm_code, operand_of, place_beside, place_code, read, register_or, result_in, settle, store_code, store_eax, store_line, store_to, target_code, test_code, tested_jump, unless, write}

write_few : (plan : Plan) (r : ℕ) → length (write plan r) ≤ 1
write_few plan r = cond_both (is_fixed plan.format r) [] (store_eax (assigned plan r) r ∷ []) (λ (is : List Native). length is ≤ 1) (λ e. omega arith) (λ e. omega arith)

settle_few : (plan : Plan) (place : Option Register) (rd : ℕ) → length (settle plan place rd) ≤ 1
settle_few plan (Some q) rd = omega arith
settle_few plan None rd = write_few plan rd

read_few : (place : Option Register) (free : Register) (r : ℕ) → length (read place free r) ≤ 1
read_few (Some q) free r = omega arith
read_few None free r = omega arith

bring_few : (plan : Plan) (dst : Register) (r : ℕ) → length (bring plan dst r) ≤ 1
bring_few plan dst r = cond_both (lies_in (assigned plan r) dst) [] (fetch plan dst r) (λ (is : List Native). length is ≤ 1) (λ e. omega arith) (λ e. omega arith)

pub number_few : (plan : Plan) (rd n : ℕ) → length (number_code plan rd n) ≤ 2
number_few plan rd n =
    let place = assigned plan rd in
    omega (arith, length-append (MovImm (result_in place) n ∷ []) (settle plan place rd), settle_few plan place rd)

-- ==== Computations.

compute_few : (op : RegOp) (dst : Register) (src : Operand) → length (compute op dst src) ≤ 10
unfolding compute
compute_few Add dst src = omega arith
compute_few Sub dst src = omega arith
compute_few Sll dst src = omega arith
compute_few Slt dst src = omega arith
compute_few Sltu dst src = omega arith
compute_few Xor dst src = omega arith
compute_few Srl dst src = omega arith
compute_few Sra dst src = omega arith
compute_few Or dst src = omega arith
compute_few And dst src = omega arith
compute_few Mul dst src = omega arith
compute_few Mulh dst src = omega arith
compute_few Mulhsu dst src = omega arith
compute_few Mulhu dst src = omega arith
compute_few Div dst src = omega arith
compute_few Divu dst src = omega arith
compute_few Rem dst src = omega arith
compute_few Remu dst src = omega arith

compute_imm_few : (op : ImmOp) (dst : Register) (n : ℕ) → length (compute_imm op dst n) ≤ 3
unfolding compute_imm
compute_imm_few Addi dst n = cond_both (n == 0) [] (AluImm alu.Add Dword (Reg dst) n ∷ []) (λ (is : List Native). length is ≤ 3) (λ e. omega arith) (λ e. omega arith)
compute_imm_few Slti dst n = omega arith
compute_imm_few Sltiu dst n = omega arith
compute_imm_few Xori dst n = omega arith
compute_imm_few Ori dst n = omega arith
compute_imm_few Andi dst n = omega arith
compute_imm_few Slli dst n = omega arith
compute_imm_few Srli dst n = omega arith
compute_imm_few Srai dst n = omega arith

ecx_few : (plan : Plan) (op : RegOp) (rd rs1 rs2 : ℕ) → length (ecx_code plan op rd rs1 rs2) ≤ 13
ecx_few plan op rd rs1 rs2 =
    let ecx = Reg Rcx in
    omega (arith, length-append (fetch plan Rax rs1) (fetch plan Rcx rs2 ++ (compute op Rax ecx ++ write plan rd)), length-append (fetch plan Rcx rs2) (compute op Rax ecx ++ write plan rd), length-append (compute op Rax ecx) (write plan rd), compute_few op Rax ecx, write_few plan rd)

combine_few : (plan : Plan) (op : RegOp) (dst : Register) (rs2 : ℕ) → length (combine plan op dst rs2) ≤ 10
combine_few plan op dst rs2 =
    let src = operand_of (assigned plan rs2) rs2 in
    cond_both (keeps_beside_zero op && (rs2 == 0)) [] (compute op dst src) (λ (is : List Native). length is ≤ 10) (λ e. omega arith) (λ e. compute_few op dst src)

place_few : (plan : Plan) (place : Option Register) (op : RegOp) (rd rs1 rs2 : ℕ) → length (place_code plan place op rd rs1 rs2) ≤ 13
place_few plan place op rd rs1 rs2 =
    let dst = result_in place in
    let computes = combine plan op dst rs2 in
    omega (arith, length-append (bring plan dst rs1) (computes ++ settle plan place rd), length-append computes (settle plan place rd), bring_few plan dst rs1, combine_few plan op dst rs2, settle_few plan place rd)

beside_few : (plan : Plan) (op : RegOp) (rd rs1 rs2 : ℕ) → length (beside_code plan op rd rs1 rs2) ≤ 13
beside_few plan op rd rs1 rs2 = place_few plan (place_beside plan rd rs2) op rd rs1 rs2

op_few : (plan : Plan) (op : RegOp) (rd rs1 rs2 : ℕ) → length (op_code plan op rd rs1 rs2) ≤ 13
op_few plan op rd rs1 rs2 =
    let exchanged = are_exchanged op rd rs1 rs2 in
    let one = beside_code plan op rd rs2 rs1 in
    let other = beside_code plan op rd rs1 rs2 in
    let beside : List Native = if exchanged then one else other in
    cond_both (needs_ecx op) (ecx_code plan op rd rs1 rs2) beside (λ (is : List Native). length is ≤ 13)
    (λ e. ecx_few plan op rd rs1 rs2)
    (λ e. cond_both exchanged one other (λ (is : List Native). length is ≤ 13) (λ h. beside_few plan op rd rs2 rs1) (λ h. beside_few plan op rd rs1 rs2))

imm_few : (plan : Plan) (op : ImmOp) (rd rs1 n : ℕ) → length (imm_code plan op rd rs1 n) ≤ 5
imm_few plan op rd rs1 n =
    let place = assigned plan rd in
    let dst = result_in place in
    let computes = compute_imm op dst n in
    omega (arith, length-append (bring plan dst rs1) (computes ++ settle plan place rd), length-append computes (settle plan place rd), bring_few plan dst rs1, compute_imm_few op dst n, settle_few plan place rd)

op_imm_few : (plan : Plan) (op : ImmOp) (rd rs1 n : ℕ) → length (op_imm_code plan op rd rs1 n) ≤ 5
op_imm_few plan op rd rs1 n =
    cond_both (is_number op rs1) (number_code plan rd n) (imm_code plan op rd rs1 n) (λ (is : List Native). length is ≤ 5)
    (λ e. omega (arith, number_few plan rd n)) (λ e. imm_few plan op rd rs1 n)

pub count_few : (owed next : ℕ) → length (count owed next) ≤ 1
count_few owed next =
    let counted : List Native = AluImm alu.Sub Dword (Reg R14) ((owed + (2 ^ 32 - next)) % 2 ^ 32) ∷ [] in
    cond_both (owed == next) [] counted (λ (is : List Native). length is ≤ 1) (λ e. omega arith) (λ e. omega arith)

computation_few : (plan : Plan) (at : ℕ) (i : Instr) → length (computation plan at i) ≤ 15
unfolding computation
computation_few plan at (Op op rd rs1 rs2) = omega (arith, op_few plan op rd rs1 rs2)
computation_few plan at (OpImm op rd rs1 imm) = omega (arith, op_imm_few plan op rd rs1 (word imm))
computation_few plan at (Lui rd imm) = omega (arith, number_few plan rd ((imm * 4096) % 2 ^ 32))
computation_few plan at (Auipc rd imm) = omega (arith, number_few plan rd ((at + imm * 4096) % 2 ^ 32))
computation_few plan at (Fence imm rd rs1) = omega arith
computation_few plan at (Load kind rd rs1 imm) = omega arith
computation_few plan at (Store width rs1 rs2 imm) = omega arith
computation_few plan at (Branch cond rs1 rs2 offset) = omega arith
computation_few plan at (Jal rd offset) = omega arith
computation_few plan at (Jalr rd rs1 imm) = omega arith
computation_few plan at Ecall = omega arith
computation_few plan at Ebreak = omega arith

counted_few : (is : List Native) (owed next : ℕ) → length is ≤ 15 → length (is ++ count owed next) ≤ line_most
counted_few is owed next few = omega (arith, length-append is (count owed next), few, count_few owed next)

pub computing_few : (plan : Plan) (at owed next : ℕ) (i : Instr) → length (computing_line plan at owed next i) ≤ line_most
computing_few plan at owed next i = counted_few (computation plan at i) (owed + 1) next (computation_few plan at i)

-- ==== Accesses.

pub load_few : (plan : Plan) (owed next : ℕ) (kind : LoadKind) (rd rs1 displacement : ℕ) → length (load_line plan owed next kind rd rs1 displacement) ≤ line_most
load_few plan owed next kind rd rs1 displacement =
    let base = assigned plan rs1 in
    let place = assigned plan rd in
    let front = read base Rax rs1 in
    let back = load_from kind (result_in place) (data_address (register_or base Rax) displacement) ∷ settle plan place rd in
    let back_few : length back ≤ 2 = omega (arith, settle_few plan place rd) in
    counted_few (load_code plan kind rd rs1 displacement) (owed + 1) next (omega (arith, length-append front back, read_few base Rax rs1, back_few))

pub store_few : (plan : Plan) (owed next : ℕ) (width : StoreWidth) (rs1 rs2 displacement : ℕ) → length (store_line plan owed next width rs1 rs2 displacement) ≤ line_most
store_few plan owed next width rs1 rs2 displacement =
    let base = assigned plan rs1 in
    let stored = assigned plan rs2 in
    let back = store_to width (data_address (register_or base Rax) displacement) (register_or stored Rcx) ∷ [] in
    counted_few (store_code plan width rs1 rs2 displacement) (owed + 1) next
    (omega (arith, length-append (read base Rax rs1) (read stored Rcx rs2 ++ back), length-append (read stored Rcx rs2) back, read_few base Rax rs1, read_few stored Rcx rs2))

-- ==== Jumps.

pub compare_few : (plan : Plan) (owed next rs1 rs2 : ℕ) → length (compare_code plan owed next rs1 rs2) ≤ 3
compare_few plan owed next rs1 rs2 =
    let first = assigned plan rs1 in
    let compare = Alu alu.Cmp Dword (register_or first Rax) (operand_of (assigned plan rs2) rs2) ∷ [] in
    let counted = count (owed + 1) next in
    omega (arith, length-append (read first Rax rs1) (counted ++ compare), length-append counted compare, count_few (owed + 1) next, read_few first Rax rs1)

pub number_counted_few : (plan : Plan) (rd n owed next : ℕ) → length (number_code plan rd n ++ count owed next) ≤ 3
number_counted_few plan rd n owed next = omega (arith, length-append (number_code plan rd n) (count owed next), number_few plan rd n, count_few owed next)

-- what stands before the jump of a jalr
pub jalr_front_few : (plan : Plan) (owed rd rs1 displacement behind : ℕ) → length (target_code plan rs1 displacement ++ (number_code plan rd behind ++ count (owed + 1) 0)) ≤ 6
jalr_front_few plan owed rd rs1 displacement behind =
    let target : length (target_code plan rs1 displacement) ≡ 3 = refl in
    let back = number_code plan rd behind ++ count (owed + 1) 0 in
    omega (arith, target, length-append (target_code plan rs1 displacement) back, number_counted_few plan rd behind (owed + 1) 0)

leap_few : (tested : Bool) (j : Jump) → length (leap tested j) ≤ 5
leap_few true j =
    omega (arith, length-append (test_code j.label_owed j.label) (leave_line j.to j.label_owed j.exit), length-append (count j.label_owed 0) (leave_code j.to j.exit), count_few j.label_owed 0)
leap_few false j = omega arith

pub tested_few : (owed : ℕ) (j : Jump) → length (tested_jump owed j) ≤ 6
tested_few owed j = omega (arith, length-append (count owed j.label_owed) (leap (has_test j) j), count_few owed j.label_owed, leap_few (has_test j) j)

pub branch_few : (front : List Native) (condition : Condition) (owed : ℕ) (j : Jump) → length (front ++ unless condition (tested_jump owed j)) ≤ length front + 7
branch_few front condition owed j =
    let all : length (front ++ unless condition (tested_jump owed j)) ≡ length front + suc (length (tested_jump owed j)) = length-append front (unless condition (tested_jump owed j)) in
    omega (arith, all, tested_few owed j)
