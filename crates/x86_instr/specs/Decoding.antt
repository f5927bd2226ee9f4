-- What bytes say as an instruction: the forms of specs/Spelling and no others, also where a displacement or an immediate has
-- more bytes than it needs, a nop has another SIB or displacement, or a REX stands that isn't needed before mov or an instruction
-- with ModRM. Before others, as cdq and jmp, a REX makes none of these forms. The manual's volume 2, "Instruction Format", and the pages of the instructions.
use Rattle.std.specs.Prelude.{ℕ, zero, suc, ◌+◌, ◌*◌, ◌/◌, ◌%◌, ◌==◌, nat_lt, ◌&&◌, List, [], ◌∷◌, Option, Some, None, if◌then◌else◌}
use Rattle.x86_instr.specs.declared.operand.Register.{Register}
use Rattle.x86_instr.specs.declared.operand.Register.TheVariants.{Rax, Rcx, Rdx, Rbx, Rsp, Rbp, Rsi, Rdi, R8, R9, R10, R11, R12, R13, R14, R15}
use Rattle.x86_instr.specs.declared.operand.Scale.{Scale}
use Rattle.x86_instr.specs.declared.operand.Scale.TheVariants as scale
use Rattle.x86_instr.specs.declared.operand.Address.{Address}
use Rattle.x86_instr.specs.declared.operand.Operand.{Operand}
use Rattle.x86_instr.specs.declared.operand.Operand.TheVariants.{Reg, Mem}
use Rattle.x86_instr.specs.declared.instr.Width.{Width}
use Rattle.x86_instr.specs.declared.instr.Width.TheVariants.{Dword, Qword}
use Rattle.x86_instr.specs.declared.instr.Narrow.TheVariants.{Byte, Word}
use Rattle.x86_instr.specs.declared.instr.Extension.TheVariants.{Zero, Sign}
use Rattle.x86_instr.specs.declared.instr.AluOp.{AluOp}
use Rattle.x86_instr.specs.declared.instr.AluOp.TheVariants.{Add, Or, And, Sub, Xor, Cmp}
use Rattle.x86_instr.specs.declared.instr.UnaryOp.TheVariants.{Neg}
use Rattle.x86_instr.specs.declared.instr.ShiftOp.{ShiftOp}
use Rattle.x86_instr.specs.declared.instr.ShiftOp.TheVariants.{Shl, Shr, Sar}
use Rattle.x86_instr.specs.declared.instr.DivideOp.TheVariants.{Div, Idiv}
use Rattle.x86_instr.specs.declared.instr.Condition.{Condition}
use Rattle.x86_instr.specs.declared.instr.Condition.TheVariants.{Below, AboveOrEqual, Equal, NotEqual, BelowOrEqual, Above, Less, GreaterOrEqual, LessOrEqual, Greater}
use Rattle.x86_instr.specs.declared.instr.NopSize.TheVariants as nop
use Rattle.x86_instr.specs.declared.instr.Instr.{Instr}
use Rattle.x86_instr.specs.declared.instr.Instr.TheVariants.{Mov, MovStore, MovStoreByte, MovStoreWord, MovImm, MovExtended, Movsxd, Alu, AluImm, Test, Unary, ShiftImm, ShiftCl, Imul, Divide, Cdq, Setcc, Jcc, Jmp, JmpTo, Nop}
use Rattle.x86_instr.specs.Spelling.{byte_extended, number}

-- an instruction, and the bytes after it
pub record Decoded : Type 0 where
  pub instr : Instr
  pub rest : List ℕ

abbrev pub read : Instr → List ℕ → Option Decoded
read i rest = Some (record { instr = i; rest = rest })

-- of what may be none
infixl 10 ◌>>=◌
abbrev pub ◌>>=◌ : {A B : Type 0} → Option A → (A → Option B) → Option B
None >>= make = None
(Some x) >>= make = make x

-- ==== Fields.

-- the register of a number below 16
abbrev pub numbered : ℕ → Register
numbered n =
    if n == 0 then Rax
    else if n == 1 then Rcx
    else if n == 2 then Rdx
    else if n == 3 then Rbx
    else if n == 4 then Rsp
    else if n == 5 then Rbp
    else if n == 6 then Rsi
    else if n == 7 then Rdi
    else if n == 8 then R8
    else if n == 9 then R9
    else if n == 10 then R10
    else if n == 11 then R11
    else if n == 12 then R12
    else if n == 13 then R13
    else if n == 14 then R14
    else R15

abbrev pub scale_at : ℕ → Scale
scale_at n = if n == 0 then scale.One else if n == 1 then scale.Two else if n == 2 then scale.Four else scale.Eight

abbrev pub width_at : ℕ → Width
width_at w = if w == 0 then Dword else Qword

abbrev pub alu_at : ℕ → Option AluOp
alu_at n =
    if n == 0 then Some Add
    else if n == 1 then Some Or
    else if n == 4 then Some And
    else if n == 5 then Some Sub
    else if n == 6 then Some Xor
    else if n == 7 then Some Cmp
    else None

abbrev pub shift_at : ℕ → Option ShiftOp
shift_at n =
    if n == 4 then Some Shl
    else if n == 5 then Some Shr
    else if n == 7 then Some Sar
    else None

abbrev pub condition_at : ℕ → Option Condition
condition_at n =
    if n == 2 then Some Below
    else if n == 3 then Some AboveOrEqual
    else if n == 4 then Some Equal
    else if n == 5 then Some NotEqual
    else if n == 6 then Some BelowOrEqual
    else if n == 7 then Some Above
    else if n == 12 then Some Less
    else if n == 13 then Some GreaterOrEqual
    else if n == 14 then Some LessOrEqual
    else if n == 15 then Some Greater
    else None

-- ==== Numbers at the front of bytes, and what they make.

abbrev pub with_byte : List ℕ → (ℕ → List ℕ → Option Decoded) → Option Decoded
with_byte (a ∷ bs) make = make a bs
with_byte [] make = None

abbrev pub with_dword : List ℕ → (ℕ → List ℕ → Option Decoded) → Option Decoded
with_dword (a ∷ b ∷ c ∷ d ∷ bs) make = make (a + b * 256 + c * 65536 + d * 16777216) bs
with_dword _ make = None

-- after n bytes whatever they are
abbrev pub after_skipped : ℕ → List ℕ → (List ℕ → Option Decoded) → Option Decoded
after_skipped zero bs make = make bs
after_skipped (suc n) (b ∷ bs) make = after_skipped n bs make
after_skipped (suc n) [] make = None

-- ==== ModRM, SIB and displacement, with the bits W, R, X and B of REX.

-- what an instruction with ModRM is made of: its width, ModRM.reg, the operand of ModRM.r/m, and the bytes after these
abbrev pub Maker : Type 0
Maker = Width → ℕ → Operand → List ℕ → Option Decoded

abbrev pub at_address : Maker → Width → ℕ → Register → Register → Scale → ℕ → List ℕ → Option Decoded
at_address make w reg base index scale d rest =
    make w reg (Mem (record { base = base; index = index; scale = scale; displacement = d })) rest

-- mod 00, 01 or 10
abbrev pub displaced : Maker → ℕ → Width → ℕ → Register → Register → Scale → List ℕ → Option Decoded
displaced make mode w reg base index scale bs =
    if mode == 0 then (if number base % 8 == 5 then None else at_address make w reg base index scale 0 bs)
    else if mode == 1 then with_byte bs (λ d rest. at_address make w reg base index scale (byte_extended d) rest)
    else with_dword bs (λ d rest. at_address make w reg base index scale d rest)

abbrev pub after_modrm : Maker → ℕ → ℕ → List ℕ → Option Decoded
after_modrm make bits m bs =
    let w = width_at (bits / 8) in
    let reg = bits / 4 % 2 * 8 + m / 8 % 8 in
    if m / 64 == 3 then make w reg (Reg (numbered (bits % 2 * 8 + m % 8))) bs
    else if m % 8 == 4
    then with_byte bs (λ s rest. displaced make (m / 64) w reg (numbered (bits % 2 * 8 + s % 8)) (numbered (bits / 2 % 2 * 8 + s / 8 % 8)) (scale_at (s / 64)) rest)
    else None

abbrev pub with_modrm : Maker → ℕ → List ℕ → Option Decoded
with_modrm make bits bs = with_byte bs (after_modrm make bits)

abbrev pub on_memory : Operand → (Address → Option Decoded) → Option Decoded
on_memory (Mem a) make = make a
on_memory (Reg r) make = None

abbrev pub on_register : Operand → (Register → Option Decoded) → Option Decoded
on_register (Reg r) make = make r
on_register (Mem a) make = None

-- ==== Opcodes.

-- of one byte, with operands of 32 bits alone
abbrev pub dword_form : ℕ → ℕ → Operand → List ℕ → Option Decoded
dword_form o reg m bs =
    if o == 0x85 then on_register m (λ r. read (Test r (numbered reg)) bs)
    else if o == 0xD3 then on_register m (λ r. shift_at reg >>= λ op. read (ShiftCl op r) bs)
    else if o == 0xF7
    then (
    if reg == 3 then read (Unary Neg m) bs
    else if reg == 6 then on_register m (λ r. read (Divide Div r) bs)
    else if reg == 7 then on_register m (λ r. read (Divide Idiv r) bs)
    else None)
    else if o == 0xFF then (if reg == 4 then read (JmpTo m) bs else None)
    else None

abbrev pub by_width : Width → ℕ → ℕ → Operand → List ℕ → Option Decoded
by_width Dword o reg m bs = dword_form o reg m bs
by_width Qword o reg m bs = if o == 0x63 then read (Movsxd (numbered reg) m) bs else None

-- of one byte, with operands of either width
abbrev pub one_byte : ℕ → Width → ℕ → Operand → List ℕ → Option Decoded
one_byte o w reg m bs =
    if o == 0x8B then read (Mov w (numbered reg) m) bs
    else if o == 0x89 then on_memory m (λ a. read (MovStore w a (numbered reg)) bs)
    else if o == 0x81 then with_dword bs (λ n rest. alu_at reg >>= λ op. read (AluImm op w m n) rest)
    else if o == 0x83 then with_byte bs (λ n rest. alu_at reg >>= λ op. read (AluImm op w m (byte_extended n)) rest)
    else if o == 0xC1 then with_byte bs (λ n rest. shift_at reg >>= λ op. read (ShiftImm op w m n) rest)
    else if (o % 8 == 3) && nat_lt o 64 then (alu_at (o / 8) >>= λ op. read (Alu op w (numbered reg) m) bs)
    else by_width w o reg m bs

-- an opcode, with what may follow a REX prefix or stand without one
abbrev pub form : ℕ → ℕ → List ℕ → Option Decoded
form bits o bs =
    if (o / 8 == 23) && nat_lt bits 8 then with_dword bs (λ n rest. read (MovImm (numbered (bits % 2 * 8 + o % 8)) n) rest)
    else with_modrm (one_byte o) bits bs

-- after 0F, with REX
abbrev pub dword_0f : ℕ → ℕ → Operand → List ℕ → Option Decoded
dword_0f o reg m bs =
    if o == 0xB6 then read (MovExtended Zero Byte (numbered reg) m) bs
    else if o == 0xB7 then read (MovExtended Zero Word (numbered reg) m) bs
    else if o == 0xBE then read (MovExtended Sign Byte (numbered reg) m) bs
    else if o == 0xBF then read (MovExtended Sign Word (numbered reg) m) bs
    else if (o / 16 == 9) && (reg == 0) then on_register m (λ r. condition_at (o % 16) >>= λ c. read (Setcc c r) bs)
    else None

abbrev pub by_width_0f : Width → ℕ → ℕ → Operand → List ℕ → Option Decoded
by_width_0f Dword o reg m bs = dword_0f o reg m bs
by_width_0f Qword o reg m bs = None

abbrev pub form_0f : ℕ → Width → ℕ → Operand → List ℕ → Option Decoded
form_0f o w reg m bs = if o == 0xAF then read (Imul w (numbered reg) m) bs else by_width_0f w o reg m bs

-- mov of 8 bits, with REX
abbrev pub store_byte : Width → ℕ → Operand → List ℕ → Option Decoded
store_byte w reg m bs = on_memory m (λ a. read (MovStoreByte a (numbered reg)) bs)

abbrev pub after_rex : ℕ → ℕ → List ℕ → Option Decoded
after_rex bits o bs =
    if o == 0x0F then with_byte bs (λ o rest. with_modrm (form_0f o) bits rest)
    else if o == 0x88 then with_modrm store_byte bits bs
    else form bits o bs

-- nops of several bytes, after 0F 1F
abbrev pub long_nop : ℕ → List ℕ → Option Decoded
long_nop m bs =
    if m == 0x00 then read (Nop nop.Three) bs
    else if m == 0x40 then after_skipped 1 bs (read (Nop nop.Four))
    else if m == 0x44 then after_skipped 2 bs (read (Nop nop.Five))
    else if m == 0x80 then after_skipped 4 bs (read (Nop nop.Seven))
    else if m == 0x84 then after_skipped 5 bs (read (Nop nop.Eight))
    else None

-- after 0F, without REX
abbrev pub plain_0f : ℕ → List ℕ → Option Decoded
plain_0f o bs =
    if o / 16 == 8 then with_dword bs (λ n rest. condition_at (o % 16) >>= λ c. read (Jcc c n) rest)
    else if o == 0x1F then with_byte bs long_nop
    else if o == 0xAF then with_modrm (form_0f 0xAF) 0 bs
    else None

abbrev pub plain : ℕ → List ℕ → Option Decoded
plain o bs =
    if o == 0x0F then with_byte bs plain_0f
    else if o == 0x90 then read (Nop nop.One) bs
    else if o == 0x99 then read Cdq bs
    else if o == 0xE9 then with_dword bs (λ n rest. read (Jmp n) rest)
    else form 0 o bs

-- after the prefix 66: stores of 16 bits, and nops
abbrev pub word_form : ℕ → Width → ℕ → Operand → List ℕ → Option Decoded
word_form o Dword reg m bs = if o == 0x89 then on_memory m (λ a. read (MovStoreWord a (numbered reg)) bs) else None
word_form o Qword reg m bs = None

abbrev pub word_nop : ℕ → List ℕ → Option Decoded
word_nop m bs =
    if m == 0x44 then after_skipped 2 bs (read (Nop nop.Six))
    else if m == 0x84 then after_skipped 5 bs (read (Nop nop.Nine))
    else None

abbrev pub after_66 : ℕ → List ℕ → Option Decoded
after_66 o bs =
    if o == 0x90 then read (Nop nop.Two) bs
    else if o == 0x0F then with_byte bs (λ o rest. if o == 0x1F then with_byte rest word_nop else None)
    else if o / 16 == 4 then with_byte bs (λ p rest. with_modrm (word_form p) (o % 16) rest)
    else with_modrm (word_form o) 0 bs

-- the instruction at the front of bytes
abbrev pub decode : List ℕ → Option Decoded
decode [] = None
decode (o ∷ bs) =
    if o == 0x66 then with_byte bs after_66
    else if o / 16 == 4 then with_byte bs (after_rex (o % 16))
    else plain o bs
