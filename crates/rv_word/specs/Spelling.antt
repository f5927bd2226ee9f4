-- The word that spells an instruction, from the bits of its numbers on, and how long an instruction
-- is.
use Rattle.std.specs.Prelude.{◌≡◌, ℕ, ◌+◌, ◌-◌, ◌/◌, ◌%◌, ◌^◌, ℤ, pos, negsuc, neg_ℤ, ◌+ℤ◌, ◌≤ℤ◌, ◌*◌, Bool, true, false, ◌<◌, MatchBool, if◌then◌else◌, ◌==◌}
use Rattle.rv_word.specs.declared.instr.RegOp.{RegOp}
use Rattle.rv_word.specs.declared.instr.RegOp.TheVariants.{Add, Sub, Sll, Slt, Sltu, Xor, Srl, Sra, Or, And, Mul, Mulh, Mulhsu, Mulhu, Div, Divu, Rem, Remu}
use Rattle.rv_word.specs.declared.instr.ImmOp.{ImmOp}
use Rattle.rv_word.specs.declared.instr.ImmOp.TheVariants.{Addi, Slti, Sltiu, Xori, Ori, Andi, Slli, Srli, Srai}
use Rattle.rv_word.specs.declared.instr.LoadKind.{LoadKind}
use Rattle.rv_word.specs.declared.instr.LoadKind.TheVariants.{Lb, Lh, Lw, Lbu, Lhu}
use Rattle.rv_word.specs.declared.instr.StoreWidth.{StoreWidth}
use Rattle.rv_word.specs.declared.instr.StoreWidth.TheVariants.{Sb, Sh, Sw}
use Rattle.rv_word.specs.declared.instr.Cond.{Cond}
use Rattle.rv_word.specs.declared.instr.Cond.TheVariants.{Beq, Bne, Blt, Bge, Bltu, Bgeu}
use Rattle.rv_word.specs.declared.instr.Instr.{Instr}
use Rattle.rv_word.specs.declared.instr.Instr.TheVariants.{Op, OpImm, Load, Store, Branch, Jal, Jalr, Lui, Auipc, Fence, Ecall, Ebreak}
use Rattle.rv_word.specs.declared.length.Length.{Length}
use Rattle.rv_word.specs.declared.length.Length.TheVariants.{Short, Wide, Longer}

-- ==== Numbers as bits hold them.

-- n[high:low], the number that these bits of n make
abbrev pub bits : ℕ → ℕ → ℕ → ℕ
bits n high low = n / 2 ^ low % 2 ^ (high + 1 - low)

-- z modulo 2 ^ k, which is what k bits hold of it: two's complement
abbrev pub modulo : ℕ → ℤ → ℕ
modulo k (pos n) = n % 2 ^ k
modulo k (negsuc n) = 2 ^ k - 1 - n % 2 ^ k

-- a number and a signed one, modulo 2 ^ 32: the address at that offset from another
abbrev pub offset_by : ℕ → ℤ → ℕ
offset_by a z = modulo 32 (pos a +ℤ z)

-- bit 0 of z is 0
abbrev pub IsEven : ℤ → Type 0
IsEven z = modulo 1 z ≡ 0

-- z is one of low to high
abbrev pub IsBetween : ℤ → ℤ → ℤ → Type 0
IsBetween low high z = (low ≤ℤ z) × (z ≤ℤ high)

-- -n
abbrev pub minus : ℕ → ℤ
minus n = neg_ℤ (pos n)

-- ==== The formats of a 32-bit instruction: a word is the sum of its fields, each times the power
-- of two of its lowest bit. RISC-V Unprivileged ISA, chapter "RV32I Base Integer Instruction Set",
-- "Base Instruction Formats" and "Immediate Encoding Variants".

-- R: funct7 in bits 31:25, rs2 in 24:20, rs1 in 19:15, funct3 in 14:12, rd in 11:7, opcode in 6:0
abbrev pub r_format : ℕ → ℕ → ℕ → ℕ → ℕ → ℕ → ℕ
r_format funct7 rs2 rs1 funct3 rd opcode =
    funct7 * 2 ^ 25 + rs2 * 2 ^ 20 + rs1 * 2 ^ 15 + funct3 * 2 ^ 12 + rd * 2 ^ 7 + opcode

-- I: imm[11:0] in bits 31:20
abbrev pub i_format : ℕ → ℕ → ℕ → ℕ → ℕ → ℕ
i_format imm rs1 funct3 rd opcode =
    imm * 2 ^ 20 + rs1 * 2 ^ 15 + funct3 * 2 ^ 12 + rd * 2 ^ 7 + opcode

-- S: imm[11:5] in bits 31:25, imm[4:0] in 11:7
abbrev pub s_format : ℕ → ℕ → ℕ → ℕ → ℕ → ℕ
s_format imm rs2 rs1 funct3 opcode =
    bits imm 11 5 * 2 ^ 25 + rs2 * 2 ^ 20 + rs1 * 2 ^ 15 + funct3 * 2 ^ 12
    + bits imm 4 0 * 2 ^ 7 + opcode

-- B: imm[12] in bit 31, imm[10:5] in 30:25, imm[4:1] in 11:8, imm[11] in 7; imm[0] is always 0
abbrev pub b_format : ℕ → ℕ → ℕ → ℕ → ℕ → ℕ
b_format imm rs2 rs1 funct3 opcode =
    bits imm 12 12 * 2 ^ 31 + bits imm 10 5 * 2 ^ 25 + rs2 * 2 ^ 20 + rs1 * 2 ^ 15 + funct3 * 2 ^ 12
    + bits imm 4 1 * 2 ^ 8 + bits imm 11 11 * 2 ^ 7 + opcode

-- U: bits 31:12 of the immediate in bits 31:12; here imm is the number that these bits make
abbrev pub u_format : ℕ → ℕ → ℕ → ℕ
u_format imm rd opcode = imm * 2 ^ 12 + rd * 2 ^ 7 + opcode

-- J: imm[20] in bit 31, imm[10:1] in 30:21, imm[11] in 20, imm[19:12] in 19:12; imm[0] is always 0
abbrev pub j_format : ℕ → ℕ → ℕ → ℕ
j_format imm rd opcode =
    bits imm 20 20 * 2 ^ 31 + bits imm 10 1 * 2 ^ 21 + bits imm 11 11 * 2 ^ 20
    + bits imm 19 12 * 2 ^ 12 + rd * 2 ^ 7 + opcode

-- ==== funct3 and funct7, the fields by which the instructions of one opcode differ. RISC-V
-- Unprivileged ISA, chapter "RV32/64G Instruction Set Listings", tables "RV32I Base Instruction
-- Set" and "RV32M Standard Extension".

-- funct3 of a computation on two registers
abbrev pub op_funct3 : RegOp → ℕ
op_funct3 Add = 0b000
op_funct3 Sub = 0b000
op_funct3 Sll = 0b001
op_funct3 Slt = 0b010
op_funct3 Sltu = 0b011
op_funct3 Xor = 0b100
op_funct3 Srl = 0b101
op_funct3 Sra = 0b101
op_funct3 Or = 0b110
op_funct3 And = 0b111
op_funct3 Mul = 0b000
op_funct3 Mulh = 0b001
op_funct3 Mulhsu = 0b010
op_funct3 Mulhu = 0b011
op_funct3 Div = 0b100
op_funct3 Divu = 0b101
op_funct3 Rem = 0b110
op_funct3 Remu = 0b111

-- funct7 of a computation on two registers: 0000001 is extension M's
abbrev pub op_funct7 : RegOp → ℕ
op_funct7 Add = 0b0000000
op_funct7 Sub = 0b0100000
op_funct7 Sll = 0b0000000
op_funct7 Slt = 0b0000000
op_funct7 Sltu = 0b0000000
op_funct7 Xor = 0b0000000
op_funct7 Srl = 0b0000000
op_funct7 Sra = 0b0100000
op_funct7 Or = 0b0000000
op_funct7 And = 0b0000000
op_funct7 Mul = 0b0000001
op_funct7 Mulh = 0b0000001
op_funct7 Mulhsu = 0b0000001
op_funct7 Mulhu = 0b0000001
op_funct7 Div = 0b0000001
op_funct7 Divu = 0b0000001
op_funct7 Rem = 0b0000001
op_funct7 Remu = 0b0000001

-- funct3 of a computation on an immediate
abbrev pub imm_funct3 : ImmOp → ℕ
imm_funct3 Addi = 0b000
imm_funct3 Slti = 0b010
imm_funct3 Sltiu = 0b011
imm_funct3 Xori = 0b100
imm_funct3 Ori = 0b110
imm_funct3 Andi = 0b111
imm_funct3 Slli = 0b001
imm_funct3 Srli = 0b101
imm_funct3 Srai = 0b101

-- funct3 of a load
abbrev pub load_funct3 : LoadKind → ℕ
load_funct3 Lb = 0b000
load_funct3 Lh = 0b001
load_funct3 Lw = 0b010
load_funct3 Lbu = 0b100
load_funct3 Lhu = 0b101

-- funct3 of a store
abbrev pub store_funct3 : StoreWidth → ℕ
store_funct3 Sb = 0b000
store_funct3 Sh = 0b001
store_funct3 Sw = 0b010

-- funct3 of a branch
abbrev pub cond_funct3 : Cond → ℕ
cond_funct3 Beq = 0b000
cond_funct3 Bne = 0b001
cond_funct3 Blt = 0b100
cond_funct3 Bge = 0b101
cond_funct3 Bltu = 0b110
cond_funct3 Bgeu = 0b111

-- the operation is a shift, whose amount stands in the place of rs2, beside a funct7
abbrev pub is_shift : ImmOp → Bool
is_shift Slli = true
is_shift Srli = true
is_shift Srai = true
is_shift Addi = false
is_shift Slti = false
is_shift Sltiu = false
is_shift Xori = false
is_shift Ori = false
is_shift Andi = false

-- funct7 of a shift by an immediate
abbrev pub shift_funct7 : ImmOp → ℕ
shift_funct7 Srai = 0b0100000
shift_funct7 op = 0b0000000

-- ==== The word that spells an instruction. RISC-V Unprivileged ISA, chapters "RV32I Base Integer
-- Instruction Set", "'M' Extension for Integer Multiplication and Division" and "RV32/64G
-- Instruction Set Listings".

-- the word of these fields
unfoldable pub spelling : Instr → ℕ
spelling (Op op rd rs1 rs2) = r_format (op_funct7 op) rs2 rs1 (op_funct3 op) rd 0b0110011
spelling (OpImm op rd rs1 imm) =
    if is_shift op then r_format (shift_funct7 op) (modulo 5 imm) rs1 (imm_funct3 op) rd 0b0010011
    else i_format (modulo 12 imm) rs1 (imm_funct3 op) rd 0b0010011
spelling (Load kind rd rs1 imm) = i_format (modulo 12 imm) rs1 (load_funct3 kind) rd 0b0000011
spelling (Store width rs1 rs2 imm) = s_format (modulo 12 imm) rs2 rs1 (store_funct3 width) 0b0100011
spelling (Branch cond rs1 rs2 offset) =
    b_format (modulo 13 offset) rs2 rs1 (cond_funct3 cond) 0b1100011
spelling (Jal rd offset) = j_format (modulo 21 offset) rd 0b1101111
spelling (Jalr rd rs1 imm) = i_format (modulo 12 imm) rs1 0b000 rd 0b1100111
spelling (Lui rd imm) = u_format imm rd 0b0110111
spelling (Auipc rd imm) = u_format imm rd 0b0010111
spelling (Fence imm rd rs1) = i_format imm rs1 0b000 rd 0b0001111
spelling Ecall = 0x00000073
spelling Ebreak = 0x00100073

-- the number of a register, x0 to x31
abbrev pub IsReg : ℕ → Type 0
IsReg n = n < 32

-- what 12 bits hold of signed numbers
abbrev pub IsImm12 : ℤ → Type 0
IsImm12 imm = IsBetween (minus 2048) (pos 2047) imm

-- the immediate of that operation: a shift's amount is one of 0 to 31
abbrev pub IsImmOf : ImmOp → ℤ → Type 0
IsImmOf op imm = MatchBool (is_shift op) (IsBetween (pos 0) (pos 31) imm) (IsImm12 imm)

-- a branch's offset, in bytes
abbrev pub IsBranchOffset : ℤ → Type 0
IsBranchOffset offset = IsBetween (minus 4096) (pos 4094) offset × IsEven offset

-- a jal's offset, in bytes
abbrev pub IsJumpOffset : ℤ → Type 0
IsJumpOffset offset = IsBetween (minus 1048576) (pos 1048574) offset × IsEven offset

-- each field is one that its bits can hold
unfoldable pub InRange : Instr → Type 0
InRange (Op op rd rs1 rs2) = IsReg rd × IsReg rs1 × IsReg rs2
InRange (OpImm op rd rs1 imm) = IsReg rd × IsReg rs1 × IsImmOf op imm
InRange (Load kind rd rs1 imm) = IsReg rd × IsReg rs1 × IsImm12 imm
InRange (Store width rs1 rs2 imm) = IsReg rs1 × IsReg rs2 × IsImm12 imm
InRange (Branch cond rs1 rs2 offset) = IsReg rs1 × IsReg rs2 × IsBranchOffset offset
InRange (Jal rd offset) = IsReg rd × IsJumpOffset offset
InRange (Jalr rd rs1 imm) = IsReg rd × IsReg rs1 × IsImm12 imm
InRange (Lui rd imm) = IsReg rd × (imm < 2 ^ 20)
InRange (Auipc rd imm) = IsReg rd × (imm < 2 ^ 20)
InRange (Fence imm rd rs1) = (imm < 2 ^ 12) × IsReg rd × IsReg rs1
InRange Ecall = Unit {0}
InRange Ebreak = Unit {0}

-- the word spells the instruction
abbrev pub IsWordOf : ℕ → Instr → Type 0
IsWordOf word i = InRange i × (word ≡ spelling i)

-- ==== How long an instruction is. RISC-V Unprivileged ISA, chapter "Introduction", "Base
-- Instruction-Length Encoding".

-- the length that an instruction's first 16 bits tell
abbrev pub length_of : ℕ → Length
length_of first =
    if bits first 1 0 == 0b11 then (if bits first 4 2 == 0b111 then Longer else Wide) else Short
