-- The 16-bit instructions: rows of bits, and the table of the forms.
use Rattle.std.specs.Prelude.{ℕ, suc, zero, ◌+◌, ◌-◌, ◌*◌, ℤ, List, [], ◌∷◌, ◌/◌, ◌%◌, ◌^◌, pos, negsuc, Bool, true, false, not, ◌&&◌, ◌==◌, nat_lt, nat_le, ◌++◌}
use Rattle.std.specs.Int.{w32, bit_at, cast_unsigned}
use Rattle.rv_word.specs.declared.instr.Instr.{Instr}
use Rattle.rv_word.specs.declared.instr.Instr.TheVariants.{Op, OpImm, Load, Store, Branch, Jal, Jalr, Lui, Ebreak}
use Rattle.rv_word.specs.declared.instr.RegOp.TheVariants.{Add, Sub, Xor, Or, And}
use Rattle.rv_word.specs.declared.instr.ImmOp.TheVariants.{Addi, Andi, Slli, Srli, Srai}
use Rattle.rv_word.specs.declared.instr.LoadKind.TheVariants.{Lw}
use Rattle.rv_word.specs.declared.instr.StoreWidth.TheVariants.{Sw}
use Rattle.rv_word.specs.declared.instr.Cond.TheVariants.{Beq, Bne}
use Rattle.rv_comp.specs.declared.form.Form16.{Form16}
use Rattle.rv_comp.specs.declared.form.Form16.TheVariants.{CAddi4spn, CLw, CSw, CAddi, CJal, CLi, CAddi16sp, CLui, CSrli, CSrai, CAndi, CSub, CXor, COr, CAnd, CJ, CBeqz, CBnez, CSlli, CLwsp, CJr, CJalr, CMv, CAdd, CEbreak, CSwsp}

-- ==== Rows of bits: a halfword written as the manual draws it, from bit 15 down.

-- a field of a form
pub data Field : Type 0 where
  rd : Field
  rs1 : Field
  rs2 : Field
  imm : Field

-- a bit of a row: fixed, or bit k of a field
pub data Bit : Type 0 where
  is : ℕ → Bit
  bit_of : Field → ℕ → Bit

-- the n low bits of a number, the highest first
abbrev pub fixed : ℕ → ℕ → List Bit
fixed zero b = []
fixed (suc n) b = is (bit_at b n) ∷ fixed n b

-- n bits of a field, from bit low + n - 1 down to bit low
abbrev pub piece : Field → ℕ → ℕ → List Bit
piece f zero low = []
piece f (suc n) low = bit_of f (low + n) ∷ piece f n low

-- bits high down to low of a field
infix 70 ◌⟦◌∶◌⟧
abbrev pub ◌⟦◌∶◌⟧ : Field → ℕ → ℕ → List Bit
f ⟦ high ∶ low ⟧ = piece f (high + 1 - low) low

-- the values of the fields; those that a form hasn't are 0
pub record Fields : Type 0 where
  pub rd : ℕ
  pub rs1 : ℕ
  pub rs2 : ℕ
  pub imm : ℤ

-- the number whose bits a row takes; a negative immediate's is its two's complement
abbrev pub field_value : Fields → Field → ℕ
field_value v rd = v.rd
field_value v rs1 = v.rs1
field_value v rs2 = v.rs2
field_value v imm = cast_unsigned w32 v.imm

-- a bit of a row, for these values
abbrev pub bit_value : Fields → Bit → ℕ
bit_value v (is b) = b
bit_value v (bit_of f k) = bit_at (field_value v f) k

-- the number of a list of bits, the highest first, after the bits of n
abbrev pub number_after : ℕ → Fields → List Bit → ℕ
number_after n v [] = n
number_after n v (b ∷ bs) = number_after (2 * n + bit_value v b) v bs

-- ==== The table of the 16-bit forms: each form's row of bits, what the row asks of its fields, and
-- the form's expansion. RISC-V Unprivileged ISA, chapter '"C" Extension for Compressed
-- Instructions', instruction listings, for RV32 without floating point. Reserved and custom points
-- are forbidden. A HINT stands for its expansion, and C.NOP is C.ADDI of x0 and 0. The order of the
-- rows is this project's own.

-- ---- rows

-- the offset of C.JAL and C.J
abbrev jump : List Bit
jump =
    imm ⟦ 11 ∶ 11 ⟧ ++ imm ⟦ 4 ∶ 4 ⟧ ++ imm ⟦ 9 ∶ 8 ⟧ ++ imm ⟦ 10 ∶ 10 ⟧
    ++ imm ⟦ 6 ∶ 6 ⟧ ++ imm ⟦ 7 ∶ 7 ⟧ ++ imm ⟦ 3 ∶ 1 ⟧ ++ imm ⟦ 5 ∶ 5 ⟧

-- The 16 bits of each form, from bit 15 down. Where a row has bits 2 to 0 of a register alone,
-- bit 3 is 1, since the register is x8 to x15.
abbrev pub row : Form16 → List Bit
row (CAddi4spn _ _) =
    fixed 3 0b000 ++ imm ⟦ 5 ∶ 4 ⟧ ++ imm ⟦ 9 ∶ 6 ⟧ ++ imm ⟦ 2 ∶ 2 ⟧ ++ imm ⟦ 3 ∶ 3 ⟧
    ++ rd ⟦ 2 ∶ 0 ⟧ ++ fixed 2 0b00
row (CLw _ _ _) =
    fixed 3 0b010 ++ imm ⟦ 5 ∶ 3 ⟧ ++ rs1 ⟦ 2 ∶ 0 ⟧ ++ imm ⟦ 2 ∶ 2 ⟧ ++ imm ⟦ 6 ∶ 6 ⟧
    ++ rd ⟦ 2 ∶ 0 ⟧ ++ fixed 2 0b00
row (CSw _ _ _) =
    fixed 3 0b110 ++ imm ⟦ 5 ∶ 3 ⟧ ++ rs1 ⟦ 2 ∶ 0 ⟧ ++ imm ⟦ 2 ∶ 2 ⟧ ++ imm ⟦ 6 ∶ 6 ⟧
    ++ rs2 ⟦ 2 ∶ 0 ⟧ ++ fixed 2 0b00
row (CAddi _ _) = fixed 3 0b000 ++ imm ⟦ 5 ∶ 5 ⟧ ++ rd ⟦ 4 ∶ 0 ⟧ ++ imm ⟦ 4 ∶ 0 ⟧ ++ fixed 2 0b01
row (CJal _) = fixed 3 0b001 ++ jump ++ fixed 2 0b01
row (CLi _ _) = fixed 3 0b010 ++ imm ⟦ 5 ∶ 5 ⟧ ++ rd ⟦ 4 ∶ 0 ⟧ ++ imm ⟦ 4 ∶ 0 ⟧ ++ fixed 2 0b01
row (CAddi16sp _) =
    fixed 3 0b011 ++ imm ⟦ 9 ∶ 9 ⟧ ++ fixed 5 0b00010 ++ imm ⟦ 4 ∶ 4 ⟧ ++ imm ⟦ 6 ∶ 6 ⟧
    ++ imm ⟦ 8 ∶ 7 ⟧ ++ imm ⟦ 5 ∶ 5 ⟧ ++ fixed 2 0b01
row (CLui _ _) = fixed 3 0b011 ++ imm ⟦ 17 ∶ 17 ⟧ ++ rd ⟦ 4 ∶ 0 ⟧ ++ imm ⟦ 16 ∶ 12 ⟧ ++ fixed 2 0b01
row (CSrli _ _) =
    fixed 3 0b100 ++ fixed 1 0b0 ++ fixed 2 0b00 ++ rd ⟦ 2 ∶ 0 ⟧ ++ imm ⟦ 4 ∶ 0 ⟧ ++ fixed 2 0b01
row (CSrai _ _) =
    fixed 3 0b100 ++ fixed 1 0b0 ++ fixed 2 0b01 ++ rd ⟦ 2 ∶ 0 ⟧ ++ imm ⟦ 4 ∶ 0 ⟧ ++ fixed 2 0b01
row (CAndi _ _) =
    fixed 3 0b100 ++ imm ⟦ 5 ∶ 5 ⟧ ++ fixed 2 0b10 ++ rd ⟦ 2 ∶ 0 ⟧ ++ imm ⟦ 4 ∶ 0 ⟧ ++ fixed 2 0b01
row (CSub _ _) =
    fixed 3 0b100 ++ fixed 3 0b011 ++ rd ⟦ 2 ∶ 0 ⟧ ++ fixed 2 0b00 ++ rs2 ⟦ 2 ∶ 0 ⟧ ++ fixed 2 0b01
row (CXor _ _) =
    fixed 3 0b100 ++ fixed 3 0b011 ++ rd ⟦ 2 ∶ 0 ⟧ ++ fixed 2 0b01 ++ rs2 ⟦ 2 ∶ 0 ⟧ ++ fixed 2 0b01
row (COr _ _) =
    fixed 3 0b100 ++ fixed 3 0b011 ++ rd ⟦ 2 ∶ 0 ⟧ ++ fixed 2 0b10 ++ rs2 ⟦ 2 ∶ 0 ⟧ ++ fixed 2 0b01
row (CAnd _ _) =
    fixed 3 0b100 ++ fixed 3 0b011 ++ rd ⟦ 2 ∶ 0 ⟧ ++ fixed 2 0b11 ++ rs2 ⟦ 2 ∶ 0 ⟧ ++ fixed 2 0b01
row (CJ _) = fixed 3 0b101 ++ jump ++ fixed 2 0b01
row (CBeqz _ _) =
    fixed 3 0b110 ++ imm ⟦ 8 ∶ 8 ⟧ ++ imm ⟦ 4 ∶ 3 ⟧ ++ rs1 ⟦ 2 ∶ 0 ⟧ ++ imm ⟦ 7 ∶ 6 ⟧
    ++ imm ⟦ 2 ∶ 1 ⟧ ++ imm ⟦ 5 ∶ 5 ⟧ ++ fixed 2 0b01
row (CBnez _ _) =
    fixed 3 0b111 ++ imm ⟦ 8 ∶ 8 ⟧ ++ imm ⟦ 4 ∶ 3 ⟧ ++ rs1 ⟦ 2 ∶ 0 ⟧ ++ imm ⟦ 7 ∶ 6 ⟧
    ++ imm ⟦ 2 ∶ 1 ⟧ ++ imm ⟦ 5 ∶ 5 ⟧ ++ fixed 2 0b01
row (CSlli _ _) = fixed 3 0b000 ++ fixed 1 0b0 ++ rd ⟦ 4 ∶ 0 ⟧ ++ imm ⟦ 4 ∶ 0 ⟧ ++ fixed 2 0b10
row (CLwsp _ _) =
    fixed 3 0b010 ++ imm ⟦ 5 ∶ 5 ⟧ ++ rd ⟦ 4 ∶ 0 ⟧ ++ imm ⟦ 4 ∶ 2 ⟧ ++ imm ⟦ 7 ∶ 6 ⟧ ++ fixed 2 0b10
row (CJr _) = fixed 3 0b100 ++ fixed 1 0b0 ++ rs1 ⟦ 4 ∶ 0 ⟧ ++ fixed 5 0b00000 ++ fixed 2 0b10
row (CJalr _) = fixed 3 0b100 ++ fixed 1 0b1 ++ rs1 ⟦ 4 ∶ 0 ⟧ ++ fixed 5 0b00000 ++ fixed 2 0b10
row (CMv _ _) = fixed 3 0b100 ++ fixed 1 0b0 ++ rd ⟦ 4 ∶ 0 ⟧ ++ rs2 ⟦ 4 ∶ 0 ⟧ ++ fixed 2 0b10
row (CAdd _ _) = fixed 3 0b100 ++ fixed 1 0b1 ++ rd ⟦ 4 ∶ 0 ⟧ ++ rs2 ⟦ 4 ∶ 0 ⟧ ++ fixed 2 0b10
row CEbreak = fixed 16 0b1001000000000010
row (CSwsp _ _) = fixed 3 0b110 ++ imm ⟦ 5 ∶ 2 ⟧ ++ imm ⟦ 7 ∶ 6 ⟧ ++ rs2 ⟦ 4 ∶ 0 ⟧ ++ fixed 2 0b10

-- ---- conditions

-- one of x0 to x31
abbrev pub is_reg : ℕ → Bool
is_reg r = nat_lt r 32

-- one of x8 to x15
abbrev pub is_short_reg : ℕ → Bool
is_short_reg r = nat_le 8 r && nat_lt r 16

-- it is not 0; negsuc n is minus (n + 1)
abbrev pub is_not_zero : ℤ → Bool
is_not_zero (pos n) = nat_lt 0 n
is_not_zero (negsuc n) = true

-- a multiple of m from 0 to 2 ^ n - 1
abbrev pub is_unsigned : ℕ → ℕ → ℤ → Bool
is_unsigned n m (pos k) = nat_lt k (2 ^ n) && k % m == 0
is_unsigned n m (negsuc k) = false

-- a multiple of m from -2 ^ (n - 1) to 2 ^ (n - 1) - 1
abbrev pub is_signed : ℕ → ℕ → ℤ → Bool
is_signed n m (pos k) = nat_lt k (2 ^ (n - 1)) && k % m == 0
is_signed n m (negsuc k) = nat_lt k (2 ^ (n - 1)) && suc k % m == 0

-- what the row asks of its fields
abbrev pub allowed : Form16 → Bool
allowed (CAddi4spn d i) = is_short_reg d && is_unsigned 10 4 i && is_not_zero i
allowed (CLw d s i) = is_short_reg s && is_short_reg d && is_unsigned 7 4 i
allowed (CSw s t i) = is_short_reg s && is_short_reg t && is_unsigned 7 4 i
allowed (CAddi d i) = is_reg d && is_signed 6 1 i
allowed (CJal i) = is_signed 12 2 i
allowed (CLi d i) = is_reg d && is_signed 6 1 i
allowed (CAddi16sp i) = is_signed 10 16 i && is_not_zero i
allowed (CLui d i) = is_reg d && not (d == 2) && is_signed 18 4096 i && is_not_zero i
allowed (CSrli d i) = is_short_reg d && is_unsigned 5 1 i
allowed (CSrai d i) = is_short_reg d && is_unsigned 5 1 i
allowed (CAndi d i) = is_short_reg d && is_signed 6 1 i
allowed (CSub d t) = is_short_reg d && is_short_reg t
allowed (CXor d t) = is_short_reg d && is_short_reg t
allowed (COr d t) = is_short_reg d && is_short_reg t
allowed (CAnd d t) = is_short_reg d && is_short_reg t
allowed (CJ i) = is_signed 12 2 i
allowed (CBeqz s i) = is_short_reg s && is_signed 9 2 i
allowed (CBnez s i) = is_short_reg s && is_signed 9 2 i
allowed (CSlli d i) = is_reg d && is_unsigned 5 1 i
allowed (CLwsp d i) = is_reg d && nat_lt 0 d && is_unsigned 8 4 i
allowed (CJr s) = is_reg s && nat_lt 0 s
allowed (CJalr s) = is_reg s && nat_lt 0 s
allowed (CMv d t) = is_reg d && is_reg t && nat_lt 0 t
allowed (CAdd d t) = is_reg d && is_reg t && nat_lt 0 t
allowed CEbreak = true
allowed (CSwsp t i) = is_reg t && is_unsigned 8 4 i

-- ---- a form's fields and its instruction

-- a form without fields
abbrev pub no_fields : Fields
no_fields = record { rd = 0; rs1 = 0; rs2 = 0; imm = pos 0 }

-- the values of a form's fields
abbrev pub fields_of : Form16 → Fields
fields_of (CAddi4spn d i) = record no_fields { rd = d; imm = i }
fields_of (CLw d s i) = record no_fields { rd = d; rs1 = s; imm = i }
fields_of (CSw s t i) = record no_fields { rs1 = s; rs2 = t; imm = i }
fields_of (CAddi d i) = record no_fields { rd = d; imm = i }
fields_of (CJal i) = record no_fields { imm = i }
fields_of (CLi d i) = record no_fields { rd = d; imm = i }
fields_of (CAddi16sp i) = record no_fields { imm = i }
fields_of (CLui d i) = record no_fields { rd = d; imm = i }
fields_of (CSrli d i) = record no_fields { rd = d; imm = i }
fields_of (CSrai d i) = record no_fields { rd = d; imm = i }
fields_of (CAndi d i) = record no_fields { rd = d; imm = i }
fields_of (CSub d t) = record no_fields { rd = d; rs2 = t }
fields_of (CXor d t) = record no_fields { rd = d; rs2 = t }
fields_of (COr d t) = record no_fields { rd = d; rs2 = t }
fields_of (CAnd d t) = record no_fields { rd = d; rs2 = t }
fields_of (CJ i) = record no_fields { imm = i }
fields_of (CBeqz s i) = record no_fields { rs1 = s; imm = i }
fields_of (CBnez s i) = record no_fields { rs1 = s; imm = i }
fields_of (CSlli d i) = record no_fields { rd = d; imm = i }
fields_of (CLwsp d i) = record no_fields { rd = d; imm = i }
fields_of (CJr s) = record no_fields { rs1 = s }
fields_of (CJalr s) = record no_fields { rs1 = s }
fields_of (CMv d t) = record no_fields { rd = d; rs2 = t }
fields_of (CAdd d t) = record no_fields { rd = d; rs2 = t }
fields_of CEbreak = no_fields
fields_of (CSwsp t i) = record no_fields { rs2 = t; imm = i }

-- the instruction that a form stands for
abbrev pub expansion : Form16 → Instr
expansion (CAddi4spn d i) = OpImm Addi d 2 i
expansion (CLw d s i) = Load Lw d s i
expansion (CSw s t i) = Store Sw s t i
expansion (CAddi d i) = OpImm Addi d d i
expansion (CJal i) = Jal 1 i
expansion (CLi d i) = OpImm Addi d 0 i
expansion (CAddi16sp i) = OpImm Addi 2 2 i
-- lui's number is bits 31 to 12 of the immediate
expansion (CLui d i) = Lui d (cast_unsigned w32 i / 2 ^ 12)
expansion (CSrli d i) = OpImm Srli d d i
expansion (CSrai d i) = OpImm Srai d d i
expansion (CAndi d i) = OpImm Andi d d i
expansion (CSub d t) = Op Sub d d t
expansion (CXor d t) = Op Xor d d t
expansion (COr d t) = Op Or d d t
expansion (CAnd d t) = Op And d d t
expansion (CJ i) = Jal 0 i
expansion (CBeqz s i) = Branch Beq s 0 i
expansion (CBnez s i) = Branch Bne s 0 i
expansion (CSlli d i) = OpImm Slli d d i
expansion (CLwsp d i) = Load Lw d 2 i
expansion (CJr s) = Jalr 0 s (pos 0)
expansion (CJalr s) = Jalr 1 s (pos 0)
expansion (CMv d t) = Op Add d 0 t
expansion (CAdd d t) = Op Add d d t
expansion CEbreak = Ebreak
expansion (CSwsp t i) = Store Sw 2 t i

-- the row's place in the order in which the first form of an instruction is sought
abbrev pub place : Form16 → ℕ
place (CAddi4spn _ _) = 0
place (CLw _ _ _) = 1
place (CSw _ _ _) = 2
place (CAddi _ _) = 3
place (CJal _) = 4
place (CLi _ _) = 5
place (CAddi16sp _) = 6
place (CLui _ _) = 7
place (CSrli _ _) = 8
place (CSrai _ _) = 9
place (CAndi _ _) = 10
place (CSub _ _) = 11
place (CXor _ _) = 12
place (COr _ _) = 13
place (CAnd _ _) = 14
place (CJ _) = 15
place (CBeqz _ _) = 16
place (CBnez _ _) = 17
place (CSlli _ _) = 18
place (CLwsp _ _) = 19
place (CJr _) = 20
place (CJalr _) = 21
place (CMv _ _) = 22
place (CAdd _ _) = 23
place CEbreak = 24
place (CSwsp _ _) = 25
