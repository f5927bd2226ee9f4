-- What spells an instruction decodes to it.
use Rattle.std.proofs.Common.{◌≡◌, ℕ, ◌+◌, ◌*◌, ◌/◌, ◌%◌, ◌<◌, ◌==◌, ◌&&◌, Bool, true, false, List, [], ◌∷◌, ◌++◌, Some, refl, sym, ap, ◌∙◌, arith, eqb-true, inl, inr, subst, append_assoc}
use Rattle.std.specs.Prelude.{not}
use Rattle.std.proofs.lemmas.Bool.{ne_eqb, cases_Bool, and_parts, false≢true}
use Rattle.x86_instr.specs.declared.operand.Register.{Register}
use Rattle.x86_instr.specs.declared.operand.Register.TheVariants.{Rax}
use Rattle.x86_instr.specs.declared.operand.Scale.{Scale}
use Rattle.x86_instr.specs.declared.operand.Scale.TheVariants as scale
use Rattle.x86_instr.specs.declared.operand.Address.{Address}
use Rattle.x86_instr.specs.declared.operand.Operand.{Operand}
use Rattle.x86_instr.specs.declared.operand.Operand.TheVariants.{Reg, Mem}
use Rattle.x86_instr.specs.declared.instr.Width.{Width}
use Rattle.x86_instr.specs.declared.instr.Width.TheVariants.{Dword, Qword}
use Rattle.x86_instr.specs.declared.instr.Narrow.{Narrow}
use Rattle.x86_instr.specs.declared.instr.Narrow.TheVariants.{Byte, Word}
use Rattle.x86_instr.specs.declared.instr.Extension.{Extension}
use Rattle.x86_instr.specs.declared.instr.Extension.TheVariants.{Zero, Sign}
use Rattle.x86_instr.specs.declared.instr.AluOp.{AluOp}
use Rattle.x86_instr.specs.declared.instr.AluOp.TheVariants.{Add}
use Rattle.x86_instr.specs.declared.instr.UnaryOp.{UnaryOp}
use Rattle.x86_instr.specs.declared.instr.UnaryOp.TheVariants.{Neg}
use Rattle.x86_instr.specs.declared.instr.ShiftOp.{ShiftOp}
use Rattle.x86_instr.specs.declared.instr.ShiftOp.TheVariants.{Shl}
use Rattle.x86_instr.specs.declared.instr.DivideOp.{DivideOp}
use Rattle.x86_instr.specs.declared.instr.DivideOp.TheVariants.{Div, Idiv}
use Rattle.x86_instr.specs.declared.instr.Condition.{Condition}
use Rattle.x86_instr.specs.declared.instr.Condition.TheVariants.{Below}
use Rattle.x86_instr.specs.declared.instr.NopSize.{NopSize}
use Rattle.x86_instr.specs.declared.instr.NopSize.TheVariants as nop
use Rattle.x86_instr.specs.declared.instr.Instr.TheVariants.{Mov, MovStore, MovStoreByte, MovStoreWord, MovImm, MovExtended, Movsxd, Alu, AluImm, Test, Unary, ShiftImm, ShiftCl, Imul, Divide, Cdq, Setcc, Jcc, Jmp, JmpTo, Nop}
use Rattle.x86_instr.specs.Spelling.{dword_bytes, byte_extended, is_short, number, scale_number, alu_number, unary_number, divide_number, shift_number, condition_number, extension_opcode, modrm, sib, operands, rex_w, rex_xb, rex_bits, coded, coded_0f, coded_byte_0f, coded_register, nop_bytes}
unfoldable use Rattle.x86_instr.specs.Spelling.{memory, rex, spelling}
use Rattle.x86_instr.specs.Decoding.{read, numbered, scale_at, width_at, alu_at, shift_at, Maker, at_address, displaced, with_modrm, one_byte, form_0f, store_byte, after_rex, plain, word_form, decode}
use Rattle.x86_instr.specs.Laws.{SpellingDecodes}

not_true : (b : Bool) → not b ≡ true → b ≡ false
not_true true e = absurd (false≢true e)
not_true false e = refl

-- ==== Numbers and their fields.

-- a register's number has four bits, and says the register
number_small : (r : Register) → number r < 16
number_small Rax = omega arith
number_small _ = omega arith

numbered_is : (r : Register) → numbered (number r) ≡ r
numbered_is Rax = refl
numbered_is _ = refl

scale_small : (s : Scale) → scale_number s < 4
scale_small scale.One = omega arith
scale_small _ = omega arith

scale_is : (s : Scale) → scale_at (scale_number s) ≡ s
scale_is scale.One = refl
scale_is _ = refl

width_small : (w : Width) → rex_w w < 2
width_small Dword = omega arith
width_small Qword = omega arith

width_is : (w : Width) → width_at (rex_w w) ≡ w
width_is Dword = refl
width_is Qword = refl

alu_digit : (op : AluOp) → (alu_number op < 16) × (alu_at (alu_number op) ≡ Some op)
alu_digit Add = (omega arith, refl)
alu_digit _ = (omega arith, refl)

shift_digit : (op : ShiftOp) → (shift_number op < 16) × (shift_at (shift_number op) ≡ Some op)
shift_digit Shl = (omega arith, refl)
shift_digit _ = (omega arith, refl)

dword_again : (n : ℕ) → n % 256 + n / 256 % 256 * 256 + n / 65536 % 256 * 65536 + n / 16777216 * 16777216 ≡ n
dword_again n = omega arith

-- W, R, X and B out of their sum
w_of : (w r xb : ℕ) → r < 16 → xb < 4 → (w * 8 + r / 8 * 4 + xb) / 8 ≡ w
w_of w r xb fr fx = omega (arith, fr, fx)

r_of : (w r xb mode rm : ℕ) → r < 16 → xb < 4 → (w * 8 + r / 8 * 4 + xb) / 4 % 2 * 8 + modrm mode r rm / 8 % 8 ≡ r
r_of w r xb mode rm fr fx = omega (arith, fr, fx)

x_of : (w r i b s : ℕ) → i < 16 → b < 16 → (w * 8 + r / 8 * 4 + (i / 8 * 2 + b / 8)) / 2 % 2 * 8 + (s * 64 + i % 8 * 8 + b % 8) / 8 % 8 ≡ i
x_of w r i b s fi fb = omega (arith, fi, fb)

b_of : (w r i b s : ℕ) → i < 16 → b < 16 → (w * 8 + r / 8 * 4 + (i / 8 * 2 + b / 8)) % 2 * 8 + (s * 64 + i % 8 * 8 + b % 8) % 8 ≡ b
b_of w r i b s fi fb = omega (arith, fi, fb)

rm_of : (w r b mode : ℕ) → b < 16 → (w * 8 + r / 8 * 4 + b / 8) % 2 * 8 + modrm mode r b % 8 ≡ b
rm_of w r b mode fb = omega (arith, fb)

xb_small : (m : Operand) → rex_xb m < 4
xb_small (Reg r) = omega (arith, number_small r)
xb_small (Mem a) = omega (arith, number_small a.index, number_small a.base)

bits_small : (w : Width) (reg : ℕ) (m : Operand) → reg < 16 → rex_bits w reg m < 16
bits_small w reg m fr = omega (arith, width_small w, fr, xb_small m)

-- ==== ModRM, SIB and displacement.

address_read : (make : Maker) (w : Width) (reg : ℕ) (a : Address) (mode : ℕ) (bs : List ℕ) → mode < 3 → reg < 16 →
    with_modrm make (rex_bits w reg (Mem a)) (modrm mode reg 4 ∷ sib a ∷ bs) ≡ displaced make mode w reg a.base a.index a.scale bs
address_read make w reg a mode bs fm fr =
    let fi = number_small a.index in
    let fb = number_small a.base in
    let e1 : rex_bits w reg (Mem a) / 8 ≡ rex_w w = w_of (rex_w w) reg (rex_xb (Mem a)) fr (xb_small (Mem a)) in
    let e2 : rex_bits w reg (Mem a) / 4 % 2 * 8 + modrm mode reg 4 / 8 % 8 ≡ reg = r_of (rex_w w) reg (rex_xb (Mem a)) mode 4 fr (xb_small (Mem a)) in
    let e3 : modrm mode reg 4 / 64 ≡ mode = omega arith in
    let e4 : modrm mode reg 4 % 8 ≡ 4 = omega arith in
    let e5 : mode == 3 ≡ false = ne_eqb mode 3 (λ e. omega (arith, e, fm)) in
    let e6 : rex_bits w reg (Mem a) / 2 % 2 * 8 + sib a / 8 % 8 ≡ number a.index = x_of (rex_w w) reg (number a.index) (number a.base) (scale_number a.scale) fi fb in
    let e7 : rex_bits w reg (Mem a) % 2 * 8 + sib a % 8 ≡ number a.base = b_of (rex_w w) reg (number a.index) (number a.base) (scale_number a.scale) fi fb in
    let e8 : sib a / 64 ≡ scale_number a.scale = omega arith in
    rw (e1, e2, e3, e4, e5, e6, e7, e8, width_is w, numbered_is a.index, numbered_is a.base, scale_is a.scale) refl

memory_read : (make : Maker) (w : Width) (reg : ℕ) (a : Address) (rest : List ℕ) → reg < 16 →
    with_modrm make (rex_bits w reg (Mem a)) (memory reg a ++ rest) ≡ make w reg (Mem a) rest
unfolding memory
memory_read make w reg a rest fr = elim (cases_Bool ((a.displacement == 0) && not (number a.base % 8 == 5))) [
  | inl none ↦
      let parts = and_parts (a.displacement == 0) (not (number a.base % 8 == 5)) none in
      let zero_is : a.displacement ≡ 0 = eqb-true a.displacement 0 parts.0 in
      let base_is : number a.base % 8 == 5 ≡ false = not_true (number a.base % 8 == 5) parts.1 in
      rw none (address_read make w reg a 0 rest (omega arith) fr
      ∙ rw base_is (ap (λ d. at_address make w reg a.base a.index a.scale d rest) (sym zero_is)))
  | inr some ↦ rw some (elim (cases_Bool (is_short a.displacement)) [
    | inl short ↦ rw short (address_read make w reg a 1 (a.displacement % 256 ∷ rest) (omega arith) fr
        ∙ ap (λ d. at_address make w reg a.base a.index a.scale d rest) (eqb-true (byte_extended (a.displacement % 256)) a.displacement short))
    | inr long ↦ rw long (address_read make w reg a 2 (dword_bytes a.displacement ++ rest) (omega arith) fr
        ∙ ap (λ d. at_address make w reg a.base a.index a.scale d rest) (dword_again a.displacement))
  ])
]

operands_read : (make : Maker) (w : Width) (reg : ℕ) (m : Operand) (rest : List ℕ) → reg < 16 →
    with_modrm make (rex_bits w reg m) (operands reg m ++ rest) ≡ make w reg m rest
operands_read make w reg (Reg r) rest fr =
    let fb = number_small r in
    let e1 : rex_bits w reg (Reg r) / 8 ≡ rex_w w = w_of (rex_w w) reg (rex_xb (Reg r)) fr (xb_small (Reg r)) in
    let e2 : rex_bits w reg (Reg r) / 4 % 2 * 8 + modrm 3 reg (number r) / 8 % 8 ≡ reg = r_of (rex_w w) reg (rex_xb (Reg r)) 3 (number r) fr (xb_small (Reg r)) in
    let e3 : modrm 3 reg (number r) / 64 ≡ 3 = omega arith in
    let e4 : rex_bits w reg (Reg r) % 2 * 8 + modrm 3 reg (number r) % 8 ≡ number r = rm_of (rex_w w) reg (number r) 3 fb in
    rw (e1, e2, e3, e4, width_is w, numbered_is r) refl
operands_read make w reg (Mem a) rest fr = memory_read make w reg a rest fr

-- ==== Prefixes and opcodes.

-- with a REX prefix
rex_read : (bits o : ℕ) (bs : List ℕ) → bits < 16 → decode ((64 + bits) ∷ o ∷ bs) ≡ after_rex bits o bs
rex_read bits o bs f =
    let e1 : (64 + bits) / 16 ≡ 4 = omega (arith, f) in
    let e2 : (64 + bits) % 16 ≡ bits = omega (arith, f) in
    let e3 : (64 + bits) == 0x66 ≡ false = ne_eqb (64 + bits) 0x66 (λ e. omega (arith, e, f)) in
    rw (e1, e2, e3) refl

-- an opcode that says the same without REX as with one of zeros
record IsOpcode (o : ℕ) : Type 0 where
  not_66 : o == 0x66 ≡ false
  not_rex : o / 16 == 4 ≡ false
  plain_is : (bs : List ℕ) → plain o bs ≡ after_rex 0 o bs

front : (bits o : ℕ) (bs : List ℕ) → bits < 16 → IsOpcode o → decode (rex bits ++ (o ∷ bs)) ≡ after_rex bits o bs
unfolding rex
front bits o bs f is = elim (cases_Bool (bits == 0)) [
  | inl none ↦
      let e : bits ≡ 0 = eqb-true bits 0 none in
      rw none (subst (λ n. decode (o ∷ bs) ≡ after_rex n o bs) (sym e) (rw (is.not_66, is.not_rex) (is.plain_is bs)))
  | inr some ↦ rw some (rex_read bits o bs f)
]

-- an opcode of one byte with operands, of 8 bits in no form
record HasOperands (o : ℕ) : Type 0 where
  opcode : IsOpcode o
  one_byte_is : (bits : ℕ) (bs : List ℕ) → after_rex bits o bs ≡ with_modrm (one_byte o) bits bs

coded_read : (w : Width) (o reg : ℕ) (m : Operand) (rest : List ℕ) → reg < 16 → HasOperands o →
    decode (coded w o reg m ++ rest) ≡ one_byte o w reg m rest
coded_read w o reg m rest fr is =
    ap decode (append_assoc (rex (rex_bits w reg m)) (o ∷ operands reg m) rest)
    ∙ front (rex_bits w reg m) o (operands reg m ++ rest) (bits_small w reg m fr) is.opcode
    ∙ is.one_byte_is (rex_bits w reg m) (operands reg m ++ rest)
    ∙ operands_read (one_byte o) w reg m rest fr

-- the same with an immediate behind
coded_read_with : (w : Width) (o reg : ℕ) (m : Operand) (imm rest : List ℕ) → reg < 16 → HasOperands o →
    decode ((coded w o reg m ++ imm) ++ rest) ≡ one_byte o w reg m (imm ++ rest)
coded_read_with w o reg m imm rest fr is = ap decode (append_assoc (coded w o reg m) imm rest) ∙ coded_read w o reg m (imm ++ rest) fr is

front_0f : (bits : ℕ) (bs : List ℕ) → bits < 16 → decode (rex bits ++ 0x0F ∷ 0xAF ∷ bs) ≡ with_modrm (form_0f 0xAF) bits bs
unfolding rex
front_0f bits bs f = elim (cases_Bool (bits == 0)) [
  | inl none ↦ rw none (ap (λ n. with_modrm (form_0f 0xAF) n bs) (sym (eqb-true bits 0 none)))
  | inr some ↦ rw some (rex_read bits 0x0F (0xAF ∷ bs) f)
]

coded_0f_read : (w : Width) (reg : ℕ) (m : Operand) (rest : List ℕ) → reg < 16 →
    decode (coded_0f w 0xAF reg m ++ rest) ≡ form_0f 0xAF w reg m rest
coded_0f_read w reg m rest fr =
    ap decode (append_assoc (rex (rex_bits w reg m)) (0x0F ∷ 0xAF ∷ operands reg m) rest)
    ∙ front_0f (rex_bits w reg m) (operands reg m ++ rest) (bits_small w reg m fr)
    ∙ operands_read (form_0f 0xAF) w reg m rest fr

coded_byte_0f_read : (o reg : ℕ) (m : Operand) (rest : List ℕ) → reg < 16 →
    decode (coded_byte_0f o reg m ++ rest) ≡ form_0f o Dword reg m rest
coded_byte_0f_read o reg m rest fr =
    rex_read (rex_bits Dword reg m) 0x0F (o ∷ (operands reg m ++ rest)) (bits_small Dword reg m fr)
    ∙ operands_read (form_0f o) Dword reg m rest fr

-- an opcode with a register in its low bits
register_read : (o : ℕ) (r : Register) (rest : List ℕ) → IsOpcode (o + number r % 8) →
    decode (coded_register o r ++ rest) ≡ after_rex (number r / 8) (o + number r % 8) rest
register_read o r rest is =
    ap decode (append_assoc (rex (number r / 8)) ((o + number r % 8) ∷ []) rest)
    ∙ front (number r / 8) (o + number r % 8) rest (omega (arith, number_small r)) is

-- ==== Each opcode.

op_8B : HasOperands 0x8B
op_8B = record { opcode = record { not_66 = refl; not_rex = refl; plain_is = λ bs. refl }; one_byte_is = λ bits bs. refl }

op_89 : HasOperands 0x89
op_89 = record { opcode = record { not_66 = refl; not_rex = refl; plain_is = λ bs. refl }; one_byte_is = λ bits bs. refl }

op_81 : HasOperands 0x81
op_81 = record { opcode = record { not_66 = refl; not_rex = refl; plain_is = λ bs. refl }; one_byte_is = λ bits bs. refl }

op_83 : HasOperands 0x83
op_83 = record { opcode = record { not_66 = refl; not_rex = refl; plain_is = λ bs. refl }; one_byte_is = λ bits bs. refl }

op_C1 : HasOperands 0xC1
op_C1 = record { opcode = record { not_66 = refl; not_rex = refl; plain_is = λ bs. refl }; one_byte_is = λ bits bs. refl }

op_63 : HasOperands 0x63
op_63 = record { opcode = record { not_66 = refl; not_rex = refl; plain_is = λ bs. refl }; one_byte_is = λ bits bs. refl }

op_85 : HasOperands 0x85
op_85 = record { opcode = record { not_66 = refl; not_rex = refl; plain_is = λ bs. refl }; one_byte_is = λ bits bs. refl }

op_D3 : HasOperands 0xD3
op_D3 = record { opcode = record { not_66 = refl; not_rex = refl; plain_is = λ bs. refl }; one_byte_is = λ bits bs. refl }

op_F7 : HasOperands 0xF7
op_F7 = record { opcode = record { not_66 = refl; not_rex = refl; plain_is = λ bs. refl }; one_byte_is = λ bits bs. refl }

op_FF : HasOperands 0xFF
op_FF = record { opcode = record { not_66 = refl; not_rex = refl; plain_is = λ bs. refl }; one_byte_is = λ bits bs. refl }

alu_load : (op : AluOp) → HasOperands (alu_number op * 8 + 3)
alu_load Add = record { opcode = record { not_66 = refl; not_rex = refl; plain_is = λ bs. refl }; one_byte_is = λ bits bs. refl }
alu_load _ = record { opcode = record { not_66 = refl; not_rex = refl; plain_is = λ bs. refl }; one_byte_is = λ bits bs. refl }

-- what they say
alu_load_is : (op : AluOp) (w : Width) (dst : Register) (m : Operand) (rest : List ℕ) → one_byte (alu_number op * 8 + 3) w (number dst) m rest ≡ read (Alu op w dst m) rest
alu_load_is Add w dst m rest = rw (numbered_is dst) refl
alu_load_is _ w dst m rest = rw (numbered_is dst) refl

unary_read : (op : UnaryOp) (m : Operand) (rest : List ℕ) → decode (coded Dword 0xF7 (unary_number op) m ++ rest) ≡ read (Unary op m) rest
unary_read Neg m rest = coded_read Dword 0xF7 3 m rest (omega arith) op_F7

divide_read : (op : DivideOp) (r : Register) (rest : List ℕ) → decode (coded Dword 0xF7 (divide_number op) (Reg r) ++ rest) ≡ read (Divide op r) rest
divide_read Div r rest = coded_read Dword 0xF7 6 (Reg r) rest (omega arith) op_F7
divide_read Idiv r rest = coded_read Dword 0xF7 7 (Reg r) rest (omega arith) op_F7

extended_is : (e : Extension) (from : Narrow) (dst : Register) (m : Operand) (rest : List ℕ) → form_0f (extension_opcode e from) Dword (number dst) m rest ≡ read (MovExtended e from dst m) rest
extended_is Zero Byte dst m rest = rw (numbered_is dst) refl
extended_is Zero Word dst m rest = rw (numbered_is dst) refl
extended_is Sign Byte dst m rest = rw (numbered_is dst) refl
extended_is Sign Word dst m rest = rw (numbered_is dst) refl

set_is : (c : Condition) (dst : Register) (rest : List ℕ) → form_0f (0x90 + condition_number c) Dword 0 (Reg dst) rest ≡ read (Setcc c dst) rest
set_is Below dst rest = refl
set_is _ dst rest = refl

jump_is : (c : Condition) (d : ℕ) (rest : List ℕ) → decode (0x0F ∷ (0x80 + condition_number c) ∷ (dword_bytes d ++ rest)) ≡ read (Jcc c d) rest
jump_is Below d rest = rw (dword_again d) refl
jump_is _ d rest = rw (dword_again d) refl

nop_is : (n : NopSize) (rest : List ℕ) → decode (nop_bytes n ++ rest) ≡ read (Nop n) rest
nop_is nop.One rest = refl
nop_is _ rest = refl

-- opcodes with a register
low_opcode : (r : Register) → IsOpcode (0xB8 + number r % 8)
low_opcode Rax = record { not_66 = refl; not_rex = refl; plain_is = λ bs. refl }
low_opcode _ = record { not_66 = refl; not_rex = refl; plain_is = λ bs. refl }

mov_imm_is : (r : Register) (n : ℕ) (rest : List ℕ) → after_rex (number r / 8) (0xB8 + number r % 8) (dword_bytes n ++ rest) ≡ read (MovImm r n) rest
mov_imm_is Rax n rest = rw (dword_again n) refl
mov_imm_is _ n rest = rw (dword_again n) refl

-- ==== Stores of 16 bits.

record IsWordOpcode (o : ℕ) : Type 0 where
  not_90 : o == 0x90 ≡ false
  not_0f : o == 0x0F ≡ false
  not_rex : o / 16 == 4 ≡ false

word_front : (bits o : ℕ) (bs : List ℕ) → bits < 16 → IsWordOpcode o → decode (0x66 ∷ (rex bits ++ o ∷ bs)) ≡ with_modrm (word_form o) bits bs
unfolding rex
word_front bits o bs f is = elim (cases_Bool (bits == 0)) [
  | inl none ↦
      rw none (rw (is.not_90, is.not_0f, is.not_rex) (ap (λ n. with_modrm (word_form o) n bs) (sym (eqb-true bits 0 none))))
  | inr some ↦
      let e1 : (64 + bits) / 16 ≡ 4 = omega (arith, f) in
      let e2 : (64 + bits) % 16 ≡ bits = omega (arith, f) in
      let e3 : (64 + bits) == 0x90 ≡ false = ne_eqb (64 + bits) 0x90 (λ e. omega (arith, e, f)) in
      let e4 : (64 + bits) == 0x0F ≡ false = ne_eqb (64 + bits) 0x0F (λ e. omega (arith, e, f)) in
      rw some (rw (e3, e4, e1, e2) refl)
]

word_read : (o reg : ℕ) (m : Operand) (rest : List ℕ) → reg < 16 → IsWordOpcode o → decode (0x66 ∷ (coded Dword o reg m ++ rest)) ≡ word_form o Dword reg m rest
word_read o reg m rest fr is =
    ap (λ bs. decode (0x66 ∷ bs)) (append_assoc (rex (rex_bits Dword reg m)) (o ∷ operands reg m) rest)
    ∙ word_front (rex_bits Dword reg m) o (operands reg m ++ rest) (bits_small Dword reg m fr) is
    ∙ operands_read (word_form o) Dword reg m rest fr

-- ==== Each instruction.

alu_imm_read : (op : AluOp) (w : Width) (m : Operand) (n : ℕ) (rest : List ℕ) → decode (spelling (AluImm op w m n) ++ rest) ≡ read (AluImm op w m n) rest
unfolding spelling
alu_imm_read op w m n rest = elim (cases_Bool (is_short n)) [
  | inl short ↦ rw short (coded_read_with w 0x83 (alu_number op) m ((n % 256) ∷ []) rest (alu_digit op).0 op_83
      ∙ rw (alu_digit op).1 (ap (λ k. read (AluImm op w m k) rest) (eqb-true (byte_extended (n % 256)) n short)))
  | inr long ↦ rw long (coded_read_with w 0x81 (alu_number op) m (dword_bytes n) rest (alu_digit op).0 op_81
      ∙ rw ((alu_digit op).1, dword_again n) refl)
]

pub spelling_decodes : SpellingDecodes
unfolding spelling
spelling_decodes (Mov w dst src) rest = coded_read w 0x8B (number dst) src rest (number_small dst) op_8B ∙ rw (numbered_is dst) refl
spelling_decodes (MovStore w dst src) rest = coded_read w 0x89 (number src) (Mem dst) rest (number_small src) op_89 ∙ rw (numbered_is src) refl
spelling_decodes (MovStoreByte dst src) rest =
    rex_read (rex_bits Dword (number src) (Mem dst)) 0x88 (operands (number src) (Mem dst) ++ rest) (bits_small Dword (number src) (Mem dst) (number_small src))
    ∙ operands_read store_byte Dword (number src) (Mem dst) rest (number_small src) ∙ rw (numbered_is src) refl
spelling_decodes (MovStoreWord dst src) rest = word_read 0x89 (number src) (Mem dst) rest (number_small src) (record { not_90 = refl; not_0f = refl; not_rex = refl }) ∙ rw (numbered_is src) refl
spelling_decodes (MovImm dst imm) rest =
    ap decode (append_assoc (coded_register 0xB8 dst) (dword_bytes imm) rest)
    ∙ register_read 0xB8 dst (dword_bytes imm ++ rest) (low_opcode dst) ∙ mov_imm_is dst imm rest
spelling_decodes (MovExtended e from dst src) rest = coded_byte_0f_read (extension_opcode e from) (number dst) src rest (number_small dst) ∙ extended_is e from dst src rest
spelling_decodes (Movsxd dst src) rest = coded_read Qword 0x63 (number dst) src rest (number_small dst) op_63 ∙ rw (numbered_is dst) refl
spelling_decodes (Alu op w dst src) rest = coded_read w (alu_number op * 8 + 3) (number dst) src rest (number_small dst) (alu_load op) ∙ alu_load_is op w dst src rest
spelling_decodes (AluImm op w dst imm) rest = alu_imm_read op w dst imm rest
spelling_decodes (Test a b) rest = coded_read Dword 0x85 (number b) (Reg a) rest (number_small b) op_85 ∙ rw (numbered_is b) refl
spelling_decodes (Unary op dst) rest = unary_read op dst rest
spelling_decodes (ShiftImm op w dst amount) rest = coded_read_with w 0xC1 (shift_number op) dst (amount ∷ []) rest (shift_digit op).0 op_C1 ∙ rw (shift_digit op).1 refl
spelling_decodes (ShiftCl op dst) rest = coded_read Dword 0xD3 (shift_number op) (Reg dst) rest (shift_digit op).0 op_D3 ∙ rw (shift_digit op).1 refl
spelling_decodes (Imul w dst src) rest = coded_0f_read w (number dst) src rest (number_small dst) ∙ rw (numbered_is dst) refl
spelling_decodes (Divide op src) rest = divide_read op src rest
spelling_decodes Cdq rest = refl
spelling_decodes (Setcc c dst) rest = coded_byte_0f_read (0x90 + condition_number c) 0 (Reg dst) rest (omega arith) ∙ set_is c dst rest
spelling_decodes (Jcc c d) rest = jump_is c d rest
spelling_decodes (Jmp d) rest = rw (dword_again d) refl
spelling_decodes (JmpTo target) rest = coded_read Dword 0xFF 4 target rest (omega arith) op_FF
spelling_decodes (Nop n) rest = nop_is n rest
