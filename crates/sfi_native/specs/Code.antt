-- The instructions of x86-64 that a line becomes. eax, ecx and edx are free between lines.
use Rattle.std.specs.Prelude.{ℕ, ◌+◌, ◌-◌, ◌*◌, ◌/◌, ◌%◌, ◌^◌, ◌==◌, ◌||◌, ◌&&◌, nat_le, not, Bool, true, false, List, [], ◌∷◌, ◌++◌, length, Option, Some, None, if◌then◌else◌}
use Rattle.rv_word.specs.declared.instr.RegOp.{RegOp}
use Rattle.rv_word.specs.declared.instr.RegOp.TheVariants.{Add, Sub, Sll, Slt, Sltu, Xor, Srl, Sra, Or, And, Mul, Mulh, Mulhsu, Mulhu, Div, Divu, Rem, Remu}
use Rattle.rv_word.specs.declared.instr.ImmOp.{ImmOp}
use Rattle.rv_word.specs.declared.instr.ImmOp.TheVariants.{Addi, Slti, Sltiu, Xori, Ori, Andi, Slli, Srli, Srai}
use Rattle.rv_word.specs.declared.instr.LoadKind.{LoadKind}
use Rattle.rv_word.specs.declared.instr.LoadKind.TheVariants.{Lb, Lh, Lw, Lbu, Lhu}
use Rattle.rv_word.specs.declared.instr.StoreWidth.{StoreWidth}
use Rattle.rv_word.specs.declared.instr.StoreWidth.TheVariants.{Sb, Sh, Sw}
use Rattle.rv_word.specs.declared.instr.Cond.{Cond}
use Rattle.rv_word.specs.declared.instr.Cond.TheVariants.{Beq, Bne, Blt, Bge, Bltu, Bgeu}
use Rattle.rv_word.specs.declared.instr.Instr.{Instr}
use Rattle.rv_word.specs.declared.instr.Instr.TheVariants.{Op, OpImm, Lui, Auipc, Fence}
use Rattle.rv_step.specs.Step.{word}
use Rattle.sfi_translate.specs.Lines.{head_bytes}
use Rattle.sfi_translate.specs.Machine.{most}
use Rattle.x86_instr.specs.Spelling.{number}
use Rattle.x86_instr.specs.declared.operand.Register.{Register}
use Rattle.x86_instr.specs.declared.operand.Register.TheVariants.{Rax, Rcx, Rdx, Rsp, R14, R15}
use Rattle.x86_instr.specs.declared.operand.Scale.TheVariants.{One, Two}
use Rattle.x86_instr.specs.declared.operand.Address.{Address}
use Rattle.x86_instr.specs.declared.operand.Operand.{Operand}
use Rattle.x86_instr.specs.declared.operand.Operand.TheVariants.{Reg, Mem}
use Rattle.x86_instr.specs.declared.instr.Width.TheVariants.{Dword, Qword}
use Rattle.x86_instr.specs.declared.instr.Narrow.TheVariants.{Byte, Word}
use Rattle.x86_instr.specs.declared.instr.Extension.TheVariants.{Zero, Sign}
use Rattle.x86_instr.specs.declared.instr.AluOp.TheVariants as alu
use Rattle.x86_instr.specs.declared.instr.UnaryOp.TheVariants.{Neg}
use Rattle.x86_instr.specs.declared.instr.ShiftOp.TheVariants.{Shl, Shr, Sar}
use Rattle.x86_instr.specs.declared.instr.DivideOp.TheVariants as divide
use Rattle.x86_instr.specs.declared.instr.Condition.{Condition}
use Rattle.x86_instr.specs.declared.instr.Condition.TheVariants.{AboveOrEqual, Below, Equal, GreaterOrEqual, Less, NotEqual}
use Rattle.x86_instr.specs.declared.instr.Instr.{Instr as Native}
use Rattle.x86_instr.specs.declared.instr.Instr.TheVariants.{Mov, MovStore, MovStoreByte, MovStoreWord, MovImm, MovExtended, Movsxd, Alu, AluImm, Test, Unary, ShiftImm, ShiftCl, Imul, Divide, Cdq, Setcc, Jcc, Jmp, JmpTo}
use Rattle.x86_step.specs.Running.{spellings}
use Rattle.sfi_native.specs.declared.plan.Plan.{Plan}
use Rattle.sfi_native.specs.declared.jump.Jump.{Jump}
use Rattle.sfi_native.specs.Registers.{assigned, is_fixed}

-- register r in the frame
abbrev pub slot : ℕ → Address
slot r = record { base = Rsp; index = Rsp; scale = One; displacement = 4 * r }

-- register r, by the register that it lies in, if it lies in one
abbrev pub operand_of : Option Register → ℕ → Operand
operand_of (Some q) r = Reg q
operand_of None r = Mem (slot r)

-- register r into that one, always
abbrev pub fetch : Plan → Register → ℕ → List Native
fetch plan dst r = Mov Dword dst (operand_of (assigned plan r) r) ∷ []

-- eax there
abbrev pub store_eax : Option Register → ℕ → Native
store_eax (Some q) r = Mov Dword q (Reg Rax)
store_eax None r = MovStore Dword (slot r) Rax

-- moves a result from eax to register r's place
abbrev pub write : Plan → ℕ → List Native
write plan r = if is_fixed plan.format r then [] else store_eax (assigned plan r) r ∷ []

-- ==== Values where they lie.

-- the register that one of the sandbox's lies in, or else that free one
abbrev pub register_or : Option Register → Register → Register
register_or (Some q) free = q
register_or None free = free

-- register r into that free one, unless it lies in a register
abbrev pub read : Option Register → Register → ℕ → List Native
read (Some q) free r = []
read None free r = Mov Dword free (Mem (slot r)) ∷ []

-- the register that a result is computed in, where its own lies, or else eax
abbrev pub result_in : Option Register → Register
result_in place = register_or place Rax

-- moves a result from eax to rd's place, unless it was computed there
abbrev pub settle : Plan → Option Register → ℕ → List Native
settle plan (Some q) rd = []
settle plan None rd = write plan rd

-- a register of the sandbox lies in that one
abbrev pub lies_in : Option Register → Register → Bool
lies_in (Some q) dst = number q == number dst
lies_in None dst = false

-- register r into that one, unless it lies there
abbrev pub bring : Plan → Register → ℕ → List Native
bring plan dst r = if lies_in (assigned plan r) dst then [] else fetch plan dst r

-- ==== Computations: of a register and an operand, into the register; eax, ecx, edx and the flags may change.

-- 1 where the comparison meets the condition, else 0
abbrev pub set_if : Native → Condition → Register → List Native
set_if compare condition dst = compare ∷ Setcc condition dst ∷ MovExtended Zero Byte dst (Reg dst) ∷ []

-- the high 32 bits of rax times rcx
abbrev pub high_product : List Native
high_product = Imul Qword Rax (Reg Rcx) ∷ ShiftImm Shr Qword (Reg Rax) 32 ∷ []

-- Divisions: eax by ecx, the quotient into eax, the remainder into edx. A processor has none by 0, or of -2^31 by -1.

-- these instructions, unless the condition is met
abbrev pub unless : Condition → List Native → List Native
unless condition is = Jcc condition (length (spellings is)) ∷ is

abbrev pub divide_unsigned : List Native
divide_unsigned = MovImm Rdx 0 ∷ Divide divide.Div Rcx ∷ []

abbrev pub divide_signed : List Native
divide_signed = Cdq ∷ Divide divide.Idiv Rcx ∷ []

abbrev pub test_divisor : Native
test_divisor = Test Rcx Rcx

abbrev pub compare_divisor : Native
compare_divisor = AluImm alu.Cmp Dword (Reg Rcx) (2 ^ 32 - 1)

-- where the divisor is 0, the quotient is that of 2^32 - 1 by 1
abbrev pub avoid_zero : List Native
avoid_zero = test_divisor ∷ unless NotEqual (MovImm Rax (2 ^ 32 - 1) ∷ MovImm Rcx 1 ∷ [])

-- where it is -1, the quotient is that of the negated dividend by 1
abbrev pub avoid_minus_one : List Native
avoid_minus_one = compare_divisor ∷ unless NotEqual (Unary Neg (Reg Rax) ∷ MovImm Rcx 1 ∷ [])

-- and the remainder that of the dividend by 1
abbrev pub divide_by_one : List Native
divide_by_one = compare_divisor ∷ unless NotEqual (MovImm Rcx 1 ∷ [])

-- the remainder of a division into eax, which stays as it is where the divisor is 0
abbrev pub remainder : List Native → List Native
remainder division = test_divisor ∷ unless Equal (division ++ (Mov Dword Rax (Reg Rdx) ∷ []))

-- shifts by cl, high products and divisions take no operands but eax and ecx
abbrev pub needs_ecx : RegOp → Bool
needs_ecx Add = false
needs_ecx Sub = false
needs_ecx Slt = false
needs_ecx Sltu = false
needs_ecx Xor = false
needs_ecx Or = false
needs_ecx And = false
needs_ecx Mul = false
needs_ecx op = true

-- its operands may be exchanged
abbrev pub is_commutative : RegOp → Bool
is_commutative Add = true
is_commutative Xor = true
is_commutative Or = true
is_commutative And = true
is_commutative Mul = true
is_commutative op = false

-- 0 as the second operand leaves the first as it is
abbrev pub keeps_beside_zero : RegOp → Bool
keeps_beside_zero Add = true
keeps_beside_zero Xor = true
keeps_beside_zero Or = true
keeps_beside_zero op = false

unfoldable pub compute : RegOp → Register → Operand → List Native
compute Add dst src = Alu alu.Add Dword dst src ∷ []
compute Sub dst src = Alu alu.Sub Dword dst src ∷ []
compute Slt dst src = set_if (Alu alu.Cmp Dword dst src) Less dst
compute Sltu dst src = set_if (Alu alu.Cmp Dword dst src) Below dst
compute Xor dst src = Alu alu.Xor Dword dst src ∷ []
compute Or dst src = Alu alu.Or Dword dst src ∷ []
compute And dst src = Alu alu.And Dword dst src ∷ []
compute Mul dst src = Imul Dword dst src ∷ []
compute Sll dst src = ShiftCl Shl Rax ∷ []
compute Srl dst src = ShiftCl Shr Rax ∷ []
compute Sra dst src = ShiftCl Sar Rax ∷ []
compute Mulh dst src = Movsxd Rax (Reg Rax) ∷ Movsxd Rcx (Reg Rcx) ∷ high_product
compute Mulhsu dst src = Movsxd Rax (Reg Rax) ∷ high_product
compute Mulhu dst src = high_product
compute Div dst src = avoid_zero ++ (avoid_minus_one ++ divide_signed)
compute Divu dst src = avoid_zero ++ divide_unsigned
compute Rem dst src = divide_by_one ++ remainder divide_signed
compute Remu dst src = remainder divide_unsigned

-- of a register and a number of 32 bits
unfoldable pub compute_imm : ImmOp → Register → ℕ → List Native
compute_imm Addi dst n = if n == 0 then [] else AluImm alu.Add Dword (Reg dst) n ∷ []
compute_imm Slti dst n = set_if (AluImm alu.Cmp Dword (Reg dst) n) Less dst
compute_imm Sltiu dst n = set_if (AluImm alu.Cmp Dword (Reg dst) n) Below dst
compute_imm Xori dst n = AluImm alu.Xor Dword (Reg dst) n ∷ []
compute_imm Ori dst n = AluImm alu.Or Dword (Reg dst) n ∷ []
compute_imm Andi dst n = AluImm alu.And Dword (Reg dst) n ∷ []
compute_imm Slli dst n = ShiftImm Shl Dword (Reg dst) (n % 256) ∷ []
compute_imm Srli dst n = ShiftImm Shr Dword (Reg dst) (n % 256) ∷ []
compute_imm Srai dst n = ShiftImm Sar Dword (Reg dst) (n % 256) ∷ []

-- ==== Lines.

-- a line of these sets rd, if it has one, and counts or owes its step
abbrev pub does_compute : Instr → Bool
does_compute (Op op rd rs1 rs2) = true
does_compute (OpImm op rd rs1 imm) = true
does_compute (Lui rd imm) = true
does_compute (Auipc rd imm) = true
does_compute (Fence imm rd rs1) = true
does_compute i = false

-- a number into rd
abbrev pub number_code : Plan → ℕ → ℕ → List Native
number_code plan rd n = MovImm (result_in (assigned plan rd)) n ∷ settle plan (assigned plan rd) rd

-- an operation on eax and ecx
abbrev pub ecx_code : Plan → RegOp → ℕ → ℕ → ℕ → List Native
ecx_code plan op rd rs1 rs2 = fetch plan Rax rs1 ++ (fetch plan Rcx rs2 ++ (compute op Rax (Reg Rcx) ++ write plan rd))

-- where a result for rd is computed that needs rs2 up to its end: where rd lies, unless rs2 lies there, too
abbrev pub place_beside : Plan → ℕ → ℕ → Option Register
place_beside plan rd rs2 = if rd == rs2 then None else assigned plan rd

-- a register gets the operation of it and of rs2 where that lies; nothing is to do where x0 leaves it as it is
abbrev pub combine : Plan → RegOp → Register → ℕ → List Native
combine plan op dst rs2 =
    if keeps_beside_zero op && (rs2 == 0) then [] else compute op dst (operand_of (assigned plan rs2) rs2)

-- an operation where its result lies, on rs2 where that lies
abbrev pub place_code : Plan → Option Register → RegOp → ℕ → ℕ → ℕ → List Native
place_code plan place op rd rs1 rs2 =
    bring plan (result_in place) rs1 ++ (combine plan op (result_in place) rs2 ++ settle plan place rd)

abbrev pub beside_code : Plan → RegOp → ℕ → ℕ → ℕ → List Native
beside_code plan op rd rs1 rs2 = place_code plan (place_beside plan rd rs2) op rd rs1 rs2

-- the second operand comes first where it lies in the result's place, or the first is x0
abbrev pub are_exchanged : RegOp → ℕ → ℕ → ℕ → Bool
are_exchanged op rd rs1 rs2 = is_commutative op && ((rd == rs2) || (rs1 == 0))

abbrev pub op_code : Plan → RegOp → ℕ → ℕ → ℕ → List Native
op_code plan op rd rs1 rs2 =
    if needs_ecx op then ecx_code plan op rd rs1 rs2
    else if are_exchanged op rd rs1 rs2 then beside_code plan op rd rs2 rs1
    else beside_code plan op rd rs1 rs2

abbrev pub imm_code : Plan → ImmOp → ℕ → ℕ → ℕ → List Native
imm_code plan op rd rs1 n =
    let place = assigned plan rd in
    bring plan (result_in place) rs1 ++ (compute_imm op (result_in place) n ++ settle plan place rd)

-- the number itself is the result: it is added to x0
abbrev pub is_number : ImmOp → ℕ → Bool
is_number Addi rs1 = rs1 == 0
is_number op rs1 = false

abbrev pub op_imm_code : Plan → ImmOp → ℕ → ℕ → ℕ → List Native
op_imm_code plan op rd rs1 n = if is_number op rs1 then number_code plan rd n else imm_code plan op rd rs1 n

-- what the instruction at that address computes
unfoldable pub computation : Plan → ℕ → Instr → List Native
computation plan at (Op op rd rs1 rs2) = op_code plan op rd rs1 rs2
computation plan at (OpImm op rd rs1 imm) = op_imm_code plan op rd rs1 (word imm)
computation plan at (Lui rd imm) = number_code plan rd ((imm * 4096) % 2 ^ 32)
computation plan at (Auipc rd imm) = number_code plan rd ((at + imm * 4096) % 2 ^ 32)
computation plan at i = []

-- r14 has the steps left plus those that are owed: done, and not yet subtracted. From owing `owed` to owing `next`:
abbrev pub count : ℕ → ℕ → List Native
count owed next = if owed == next then [] else AluImm alu.Sub Dword (Reg R14) ((owed + (2 ^ 32 - next)) % 2 ^ 32) ∷ []

-- its bytes, where fewer than 128 are owed
abbrev pub count_size : ℕ → ℕ → ℕ
count_size owed next = if owed == next then 0 else 4

-- the line of an instruction that computes; so many steps are owed before it and behind it
abbrev pub computing_line : Plan → ℕ → ℕ → ℕ → Instr → List Native
computing_line plan at owed next i = computation plan at i ++ count (owed + 1) next

-- ==== Slow steps: edx has the address of the line.

-- out over the distance
abbrev pub leave_code : ℕ → ℕ → List Native
leave_code at distance = MovImm Rdx at ∷ Jmp distance ∷ []

-- its bytes
abbrev pub leave_size : ℕ
leave_size = 10

-- The line of an ecall or an ebreak. Where code goes out it owes nothing.
abbrev pub leave_line : ℕ → ℕ → ℕ → List Native
leave_line at owed distance = count owed 0 ++ leave_code at distance

-- its bytes
abbrev pub leave_line_size : ℕ → ℕ
leave_line_size owed = count_size owed 0 + leave_size

-- ==== Tests of the steps left. Distances are from their end; so many steps are owed before them and at their label, and none where they
-- go out.

-- over the way out and that distance, where enough steps are left
abbrev pub test_code : ℕ → ℕ → List Native
test_code owed label = AluImm alu.Cmp Dword (Reg R14) (most + owed) ∷ Jcc AboveOrEqual ((label + leave_line_size owed) % 2 ^ 32) ∷ []

-- to the label, where enough steps are left, or else out over the exit's distance, with that address in edx
abbrev pub tested : ℕ → ℕ → ℕ → ℕ → List Native
tested at owed label exit = test_code owed label ++ leave_line at owed exit

-- the line of a head, whose label is its end
abbrev pub head_line : ℕ → ℕ → ℕ → List Native
head_line at owed distance = tested at owed 0 distance

-- ==== Jumps. Distances are from the line's end.

-- it goes backwards, or past a head
abbrev pub has_test : Jump → Bool
has_test j = nat_le j.to j.from || not ((j.from / head_bytes) == (j.to / head_bytes))

-- to the label, with a test or without one, where as many are owed as at the label
abbrev pub leap : Bool → Jump → List Native
leap true j = tested j.to j.label_owed j.label j.exit
leap false j = Jmp j.label ∷ []

-- a jump, with its test; so many steps are owed before it, its own among them
abbrev pub tested_jump : ℕ → Jump → List Native
tested_jump owed j = count owed j.label_owed ++ leap (has_test j) j

-- where the branch isn't taken
abbrev pub opposite : Cond → Condition
opposite Beq = NotEqual
opposite Bne = Equal
opposite Blt = GreaterOrEqual
opposite Bge = Less
opposite Bltu = AboveOrEqual
opposite Bgeu = Below

-- where it is
abbrev pub met_by : Cond → Condition
met_by Beq = Equal
met_by Bne = NotEqual
met_by Blt = Less
met_by Bge = GreaterOrEqual
met_by Bltu = Below
met_by Bgeu = AboveOrEqual

-- one instruction is enough for a jump without a test, where as many are owed before it as at its label
abbrev pub is_bare : ℕ → Jump → Bool
is_bare owed j = not (has_test j) && (owed == j.label_owed)

-- the jump of a branch, behind its comparison
abbrev pub branch_jump : Bool → Cond → ℕ → Jump → List Native
branch_jump true cond owed j = Jcc (met_by cond) j.label ∷ []
branch_jump false cond owed j = unless (opposite cond) (tested_jump owed j)

-- steps are counted before flags are set
abbrev pub compare_code : Plan → ℕ → ℕ → ℕ → ℕ → List Native
compare_code plan owed next rs1 rs2 =
    let first = assigned plan rs1 in
    read first Rax rs1 ++ (count (owed + 1) next ++ (Alu alu.Cmp Dword (register_or first Rax) (operand_of (assigned plan rs2) rs2) ∷ []))

-- the line of a branch; so many steps are owed before it, and behind it where it isn't taken
abbrev pub branch_line : Plan → ℕ → ℕ → Cond → ℕ → ℕ → Jump → List Native
branch_line plan owed next cond rs1 rs2 j = compare_code plan owed next rs1 rs2 ++ branch_jump (is_bare next j) cond next j

-- the line of a jal, behind which the address `behind` comes
abbrev pub jal_line : Plan → ℕ → ℕ → ℕ → Jump → List Native
jal_line plan owed rd behind j = number_code plan rd behind ++ tested_jump (owed + 1) j

-- the target of a jalr into edx
abbrev pub target_code : Plan → ℕ → ℕ → List Native
target_code plan rs1 displacement =
    fetch plan Rdx rs1 ++ (AluImm alu.Add Dword (Reg Rdx) displacement ∷ AluImm alu.And Dword (Reg Rdx) (2 ^ 32 - 2) ∷ [])

-- ==== Jumps to an address in edx.

-- what the frame has behind its registers: the origin of the table
abbrev pub table_slot : Address
table_slot = record { base = Rsp; index = Rsp; scale = One; displacement = 128 }

-- and the code's address
abbrev pub code_slot : Address
code_slot = record { base = Rsp; index = Rsp; scale = One; displacement = 136 }

-- where the table, whose origin is in rax, has the entry of the unit at that address
abbrev pub table_entry : Address
table_entry = record { base = Rax; index = Rdx; scale = Two; displacement = 0 }

-- and how many steps are owed there
abbrev pub table_owed : Address
table_owed = record { base = Rax; index = Rdx; scale = Two; displacement = 4 }

-- to that entry
abbrev pub enter_code : List Native
enter_code =
    Mov Qword Rax (Mem table_slot) ∷ Alu alu.Add Dword R14 (Mem table_owed) ∷ Mov Dword Rax (Mem table_entry)
    ∷ Alu alu.Add Qword Rax (Mem code_slot) ∷ JmpTo (Reg Rax) ∷ []

-- its bytes
abbrev pub enter_size : ℕ
enter_size = 26

-- Out over the distance from the line's end, where no unit of the sandbox's code starts at that address: its mask (x25) and
-- base (x24) make another address of it.
abbrev pub start_code : ℕ → List Native
start_code distance =
    Mov Dword Rax (Reg Rdx) ∷ Alu alu.And Dword Rax (Mem (slot 25)) ∷ Alu alu.Or Dword Rax (Mem (slot 24))
    ∷ Alu alu.Cmp Dword Rax (Reg Rdx) ∷ Jcc NotEqual ((distance + enter_size) % 2 ^ 32) ∷ []

-- its bytes
abbrev pub start_size : ℕ
start_size = 18

-- out, where too few steps are left
abbrev pub steps_code : ℕ → List Native
steps_code distance = AluImm alu.Cmp Dword (Reg R14) most ∷ Jcc Below ((distance + (start_size + enter_size)) % 2 ^ 32) ∷ []

-- to the entry, unless it goes out
abbrev pub indirect_jump : ℕ → List Native
indirect_jump distance = steps_code distance ++ (start_code distance ++ enter_code)

-- its bytes
abbrev pub indirect_jump_size : ℕ
indirect_jump_size = 54

-- the line of a jalr, behind which the address `behind` comes: to the indirect jump that all such lines share
abbrev pub jalr_line : Plan → ℕ → ℕ → ℕ → ℕ → ℕ → ℕ → List Native
jalr_line plan owed rd rs1 displacement behind distance =
    (target_code plan rs1 displacement ++ (number_code plan rd behind ++ count (owed + 1) 0)) ++ (Jmp distance ∷ [])

-- Behind the last line, at the end of the sandbox's code: out, over that indirect jump, behind which the way out is. What is
-- owed is subtracted even where it is 0, so that the size is always the same.
abbrev pub end_code : ℕ → ℕ → List Native
end_code at owed = (AluImm alu.Sub Dword (Reg R14) owed ∷ leave_code at indirect_jump_size) ++ indirect_jump 0

-- its bytes
abbrev pub end_size : ℕ
end_size = 4 + leave_size + indirect_jump_size

-- ==== Accesses: rs1 lies in a register or is read into eax, rs2 likewise into ecx; r15 has the origin of the data.

-- the place that a register and a displacement say
abbrev pub data_address : Register → ℕ → Address
data_address index displacement = record { base = R15; index = index; scale = One; displacement = displacement }

abbrev pub load_from : LoadKind → Register → Address → Native
load_from Lb dst a = MovExtended Sign Byte dst (Mem a)
load_from Lh dst a = MovExtended Sign Word dst (Mem a)
load_from Lw dst a = Mov Dword dst (Mem a)
load_from Lbu dst a = MovExtended Zero Byte dst (Mem a)
load_from Lhu dst a = MovExtended Zero Word dst (Mem a)

abbrev pub load_code : Plan → LoadKind → ℕ → ℕ → ℕ → List Native
load_code plan kind rd rs1 displacement =
    let base = assigned plan rs1 in
    let place = assigned plan rd in
    read base Rax rs1 ++ (load_from kind (result_in place) (data_address (register_or base Rax) displacement) ∷ settle plan place rd)

-- The line of a load. Where the access faults, its own step isn't owed yet.
abbrev pub load_line : Plan → ℕ → ℕ → LoadKind → ℕ → ℕ → ℕ → List Native
load_line plan owed next kind rd rs1 displacement = load_code plan kind rd rs1 displacement ++ count (owed + 1) next

abbrev pub store_to : StoreWidth → Address → Register → Native
store_to Sb a src = MovStoreByte a src
store_to Sh a src = MovStoreWord a src
store_to Sw a src = MovStore Dword a src

-- a store
abbrev pub store_code : Plan → StoreWidth → ℕ → ℕ → ℕ → List Native
store_code plan width rs1 rs2 displacement =
    let base = assigned plan rs1 in
    let stored = assigned plan rs2 in
    read base Rax rs1
    ++ (read stored Rcx rs2 ++ (store_to width (data_address (register_or base Rax) displacement) (register_or stored Rcx) ∷ []))

-- the line of a store
abbrev pub store_line : Plan → ℕ → ℕ → StoreWidth → ℕ → ℕ → ℕ → List Native
store_line plan owed next width rs1 rs2 displacement = store_code plan width rs1 rs2 displacement ++ count (owed + 1) next
