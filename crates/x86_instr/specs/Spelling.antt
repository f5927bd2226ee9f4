-- The bytes that spell an instruction. Intel 64 and IA-32 Architectures Software Developer's Manual, volume 2,
-- "Instruction Format": prefixes, REX, opcode, ModRM, SIB, displacement, immediate, in this order.
use Rattle.std.specs.Prelude.{ℕ, ◌+◌, ◌-◌, ◌*◌, ◌/◌, ◌%◌, ◌^◌, ◌==◌, nat_lt, ◌&&◌, not, Bool, List, [], ◌∷◌, ◌++◌, if◌then◌else◌}
use Rattle.x86_instr.specs.declared.operand.Register.{Register}
use Rattle.x86_instr.specs.declared.operand.Register.TheVariants.{Rax, Rcx, Rdx, Rbx, Rsp, Rbp, Rsi, Rdi, R8, R9, R10, R11, R12, R13, R14, R15}
use Rattle.x86_instr.specs.declared.operand.Scale.{Scale}
use Rattle.x86_instr.specs.declared.operand.Scale.TheVariants as scale
use Rattle.x86_instr.specs.declared.operand.Address.{Address}
use Rattle.x86_instr.specs.declared.operand.Operand.{Operand}
use Rattle.x86_instr.specs.declared.operand.Operand.TheVariants.{Reg, Mem}
use Rattle.x86_instr.specs.declared.instr.Width.{Width}
use Rattle.x86_instr.specs.declared.instr.Width.TheVariants.{Dword, Qword}
use Rattle.x86_instr.specs.declared.instr.Narrow.{Narrow}
use Rattle.x86_instr.specs.declared.instr.Narrow.TheVariants.{Byte, Word}
use Rattle.x86_instr.specs.declared.instr.Extension.{Extension}
use Rattle.x86_instr.specs.declared.instr.Extension.TheVariants.{Zero, Sign}
use Rattle.x86_instr.specs.declared.instr.AluOp.{AluOp}
use Rattle.x86_instr.specs.declared.instr.AluOp.TheVariants.{Add, Or, And, Sub, Xor, Cmp}
use Rattle.x86_instr.specs.declared.instr.UnaryOp.{UnaryOp}
use Rattle.x86_instr.specs.declared.instr.UnaryOp.TheVariants.{Neg}
use Rattle.x86_instr.specs.declared.instr.ShiftOp.{ShiftOp}
use Rattle.x86_instr.specs.declared.instr.ShiftOp.TheVariants.{Shl, Shr, Sar}
use Rattle.x86_instr.specs.declared.instr.DivideOp.{DivideOp}
use Rattle.x86_instr.specs.declared.instr.DivideOp.TheVariants.{Div, Idiv}
use Rattle.x86_instr.specs.declared.instr.Condition.{Condition}
use Rattle.x86_instr.specs.declared.instr.Condition.TheVariants.{Below, AboveOrEqual, Equal, NotEqual, BelowOrEqual, Above, Less, GreaterOrEqual, LessOrEqual, Greater}
use Rattle.x86_instr.specs.declared.instr.NopSize.{NopSize}
use Rattle.x86_instr.specs.declared.instr.NopSize.TheVariants as nop
use Rattle.x86_instr.specs.declared.instr.Instr.{Instr}
use Rattle.x86_instr.specs.declared.instr.Instr.TheVariants.{Mov, MovStore, MovStoreByte, MovStoreWord, MovImm, MovExtended, Movsxd, Alu, AluImm, Test, Unary, ShiftImm, ShiftCl, Imul, Divide, Cdq, Setcc, Jcc, Jmp, JmpTo, Nop}

-- ==== Numbers, the lowest byte first (volume 1, "Bit and Byte Order").

abbrev pub dword_bytes : ℕ → List ℕ
dword_bytes n = (n % 256) ∷ (n / 256 % 256) ∷ (n / 65536 % 256) ∷ (n / 16777216) ∷ []

-- a byte with its sign, in 32 bits
abbrev pub byte_extended : ℕ → ℕ
byte_extended b = if nat_lt b 128 then b else b + (2 ^ 32 - 256)

-- a byte holds the number: it is its low byte with the sign
abbrev pub is_short : ℕ → Bool
is_short n = byte_extended (n % 256) == n

-- ==== Fields.

-- a register: bit 3 is in REX, bits 2:0 in ModRM, SIB or the opcode (volume 2, "Register Codes Associated With +rb, +rw,
-- +rd, +ro")
abbrev pub number : Register → ℕ
number Rax = 0
number Rcx = 1
number Rdx = 2
number Rbx = 3
number Rsp = 4
number Rbp = 5
number Rsi = 6
number Rdi = 7
number R8 = 8
number R9 = 9
number R10 = 10
number R11 = 11
number R12 = 12
number R13 = 13
number R14 = 14
number R15 = 15

-- SIB.scale ("32-Bit Addressing Forms with the SIB Byte")
abbrev pub scale_number : Scale → ℕ
scale_number scale.One = 0
scale_number scale.Two = 1
scale_number scale.Four = 2
scale_number scale.Eight = 3

-- the number of an operation in opcodes 00 to 3F, and in ModRM.reg of opcodes 81 and 83
abbrev pub alu_number : AluOp → ℕ
alu_number Add = 0
alu_number Or = 1
alu_number And = 4
alu_number Sub = 5
alu_number Xor = 6
alu_number Cmp = 7

-- ModRM.reg of opcode F7
abbrev pub unary_number : UnaryOp → ℕ
unary_number Neg = 3

abbrev pub divide_number : DivideOp → ℕ
divide_number Div = 6
divide_number Idiv = 7

-- ModRM.reg of opcodes C1 and D3
abbrev pub shift_number : ShiftOp → ℕ
shift_number Shl = 4
shift_number Shr = 5
shift_number Sar = 7

-- the low four bits of the opcodes of jcc and setcc (volume 1, "EFLAGS Condition Codes")
abbrev pub condition_number : Condition → ℕ
condition_number Below = 2
condition_number AboveOrEqual = 3
condition_number Equal = 4
condition_number NotEqual = 5
condition_number BelowOrEqual = 6
condition_number Above = 7
condition_number Less = 12
condition_number GreaterOrEqual = 13
condition_number LessOrEqual = 14
condition_number Greater = 15

-- the second byte of movzx and movsx
abbrev pub extension_opcode : Extension → Narrow → ℕ
extension_opcode Zero Byte = 0xB6
extension_opcode Zero Word = 0xB7
extension_opcode Sign Byte = 0xBE
extension_opcode Sign Word = 0xBF

-- ==== ModRM, SIB and displacement ("ModR/M and SIB Bytes", "Addressing-Mode Encoding of ModR/M and SIB Bytes").

-- mod in bits 7:6, reg in 5:3, r/m in 2:0
abbrev pub modrm : ℕ → ℕ → ℕ → ℕ
modrm mode reg rm = mode * 64 + reg % 8 * 8 + rm % 8

-- scale in bits 7:6, index in 5:3, base in 2:0
abbrev pub sib : Address → ℕ
sib a = scale_number a.scale * 64 + number a.index % 8 * 8 + number a.base % 8

-- r/m is 100, so that SIB follows; mod says how many bytes of displacement follow that. With mod 00 the base 101 would
-- mean none.
unfoldable pub memory : ℕ → Address → List ℕ
memory reg a =
    if (a.displacement == 0) && not (number a.base % 8 == 5) then modrm 0 reg 4 ∷ sib a ∷ []
    else if is_short a.displacement then modrm 1 reg 4 ∷ sib a ∷ (a.displacement % 256) ∷ []
    else modrm 2 reg 4 ∷ sib a ∷ dword_bytes a.displacement

-- with mod 11 r/m is a register
abbrev pub operands : ℕ → Operand → List ℕ
operands reg (Reg r) = modrm 3 reg (number r) ∷ []
operands reg (Mem a) = memory reg a

-- ==== Prefixes: REX is 0100WRXB ("More on REX Prefix Fields").

abbrev pub rex_w : Width → ℕ
rex_w Dword = 0
rex_w Qword = 1

abbrev pub rex_xb : Operand → ℕ
rex_xb (Reg r) = number r / 8
rex_xb (Mem a) = number a.index / 8 * 2 + number a.base / 8

-- W, R, X and B
abbrev pub rex_bits : Width → ℕ → Operand → ℕ
rex_bits w reg m = rex_w w * 8 + reg / 8 * 4 + rex_xb m

-- left out where no bit is 1
unfoldable pub rex : ℕ → List ℕ
rex bits = if bits == 0 then [] else (64 + bits) ∷ []

-- ==== Formats: what is before an immediate, from an opcode, ModRM.reg and the operand of ModRM.r/m.

abbrev pub coded : Width → ℕ → ℕ → Operand → List ℕ
coded w opcode reg m = rex (rex_bits w reg m) ++ opcode ∷ operands reg m

-- an opcode of two bytes
abbrev pub coded_0f : Width → ℕ → ℕ → Operand → List ℕ
coded_0f w opcode reg m = rex (rex_bits w reg m) ++ 0x0F ∷ opcode ∷ operands reg m

-- REX always, with which registers 4 to 7 of 8 bits are the low bytes of rsp to rdi (the same table)
abbrev pub coded_byte : ℕ → ℕ → Operand → List ℕ
coded_byte opcode reg m = (64 + rex_bits Dword reg m) ∷ opcode ∷ operands reg m

abbrev pub coded_byte_0f : ℕ → ℕ → Operand → List ℕ
coded_byte_0f opcode reg m = (64 + rex_bits Dword reg m) ∷ 0x0F ∷ opcode ∷ operands reg m

-- an opcode whose low three bits are a register's
abbrev pub coded_register : ℕ → Register → List ℕ
coded_register opcode r = rex (number r / 8) ++ (opcode + number r % 8) ∷ []

-- the manual's page of NOP: its one byte, and the recommended sequences of two to nine
abbrev pub nop_bytes : NopSize → List ℕ
nop_bytes nop.One = 0x90 ∷ []
nop_bytes nop.Two = 0x66 ∷ 0x90 ∷ []
nop_bytes nop.Three = 0x0F ∷ 0x1F ∷ 0x00 ∷ []
nop_bytes nop.Four = 0x0F ∷ 0x1F ∷ 0x40 ∷ 0 ∷ []
nop_bytes nop.Five = 0x0F ∷ 0x1F ∷ 0x44 ∷ 0 ∷ 0 ∷ []
nop_bytes nop.Six = 0x66 ∷ 0x0F ∷ 0x1F ∷ 0x44 ∷ 0 ∷ 0 ∷ []
nop_bytes nop.Seven = 0x0F ∷ 0x1F ∷ 0x80 ∷ 0 ∷ 0 ∷ 0 ∷ 0 ∷ []
nop_bytes nop.Eight = 0x0F ∷ 0x1F ∷ 0x84 ∷ 0 ∷ 0 ∷ 0 ∷ 0 ∷ 0 ∷ []
nop_bytes nop.Nine = 0x66 ∷ 0x0F ∷ 0x1F ∷ 0x84 ∷ 0 ∷ 0 ∷ 0 ∷ 0 ∷ 0 ∷ []

-- ==== Instructions, each by its page in volume 2, "Instruction Set Reference".

unfoldable pub spelling : Instr → List ℕ
spelling (Mov w dst src) = coded w 0x8B (number dst) src
spelling (MovStore w dst src) = coded w 0x89 (number src) (Mem dst)
spelling (MovStoreByte dst src) = coded_byte 0x88 (number src) (Mem dst)
spelling (MovStoreWord dst src) = 0x66 ∷ coded Dword 0x89 (number src) (Mem dst)
spelling (MovImm dst imm) = coded_register 0xB8 dst ++ dword_bytes imm
spelling (MovExtended e from dst src) = coded_byte_0f (extension_opcode e from) (number dst) src
spelling (Movsxd dst src) = coded Qword 0x63 (number dst) src
spelling (Alu op w dst src) = coded w (alu_number op * 8 + 3) (number dst) src
spelling (AluImm op w dst imm) =
    if is_short imm then coded w 0x83 (alu_number op) dst ++ (imm % 256) ∷ []
    else coded w 0x81 (alu_number op) dst ++ dword_bytes imm
spelling (Test a b) = coded Dword 0x85 (number b) (Reg a)
spelling (Unary op dst) = coded Dword 0xF7 (unary_number op) dst
spelling (ShiftImm op w dst amount) = coded w 0xC1 (shift_number op) dst ++ amount ∷ []
spelling (ShiftCl op dst) = coded Dword 0xD3 (shift_number op) (Reg dst)
spelling (Imul w dst src) = coded_0f w 0xAF (number dst) src
spelling (Divide op src) = coded Dword 0xF7 (divide_number op) (Reg src)
spelling Cdq = 0x99 ∷ []
spelling (Setcc c dst) = coded_byte_0f (0x90 + condition_number c) 0 (Reg dst)
spelling (Jcc c distance) = 0x0F ∷ (0x80 + condition_number c) ∷ dword_bytes distance
spelling (Jmp distance) = 0xE9 ∷ dword_bytes distance
spelling (JmpTo target) = coded Dword 0xFF 4 target
spelling (Nop size) = nop_bytes size
