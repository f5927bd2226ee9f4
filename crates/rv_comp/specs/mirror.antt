-- The code over again, on numbers. No definition: private contracts and proofs alone cite it, and
-- of its outlines a law says that they are right.
use Rattle.std.specs.Prelude.{ℕ, ◌*◌, ◌%◌, ◌^◌, bit_or, ◌+◌, ◌-◌, ℤ, pos, ◌-ℤ◌, ◌*ℤ◌, ◌==◌, nat_lt, if◌then◌else◌, Option, Some, None, Bool, true, IsTrue, ◌<◌, List, slice_index_or, zero, ◌&&◌}
use Rattle.rv_word.specs.Spelling.{bits}
use Rattle.rv_comp.specs.declared.form.Form16.{Form16}
use Rattle.rv_comp.specs.declared.form.Form16.TheVariants.{CAddi4spn, CLw, CSw, CAddi, CJal, CLi, CAddi16sp, CLui, CSrli, CSrai, CAndi, CSub, CXor, COr, CAnd, CJ, CBeqz, CBnez, CSlli, CLwsp, CJr, CJalr, CMv, CAdd, CEbreak, CSwsp}
use Rattle.rv_comp.specs.Table as table
use Rattle.rv_comp.specs.declared.encode.FormFields.{FormFields}
use Rattle.rv_comp.specs.declared.encode.rows.Bit.{Bit}
use Rattle.rv_comp.specs.declared.encode.rows.Bit.TheVariants.{Zero, One, Rd, Rs1, Rs2, Imm}
use Rattle.std.specs.Int.{w32, cast_signed}
use Rattle.rv_word.specs.declared.instr.Instr.{Instr}
use Rattle.rv_word.specs.declared.instr.Instr.TheVariants.{Op, OpImm, Load, Store, Branch, Jal, Jalr, Lui, Ebreak}
use Rattle.rv_word.specs.declared.instr.RegOp.TheVariants.{Add, Sub, Xor, Or, And}
use Rattle.rv_word.specs.declared.instr.ImmOp.TheVariants.{Addi, Andi, Slli, Srli, Srai}
use Rattle.rv_word.specs.declared.instr.LoadKind.TheVariants.{Lw}
use Rattle.rv_word.specs.declared.instr.StoreWidth.TheVariants.{Sw}
use Rattle.rv_word.specs.declared.instr.Cond.TheVariants.{Beq, Bne}
use Rattle.rv_comp.specs.Table.{allowed}
use Rattle.rv_word.specs.declared.outline.Outline.{Outline}
use Rattle.rv_word.specs.declared.outline.Outline.TheVariants.{Computes, Loads, Stores, Branches, Jumps, JumpsTo, Stops}

-- ==== What the code computes, step by step: numbers of 16 bits moved and joined.

-- a << k
abbrev pub up : ℕ → ℕ → ℕ
up a k = a * 2 ^ k % 2 ^ 16

-- a | b
infixl 30 ◌∣◌
abbrev pub ◌∣◌ : ℕ → ℕ → ℕ
a ∣ b = bit_or a b

-- ==== What the code computes, step by step: a form from the fields of a halfword.

-- n bits as a signed number
unfoldable pub extended : ℕ → ℕ → ℤ
extended n b = if nat_lt b (2 ^ (n - 1)) then pos b else pos b -ℤ pos (2 ^ n)

unfoldable pub word_offset : ℕ → ℕ
word_offset h = up (bits h 12 10) 3 ∣ up (bits h 6 6) 2 ∣ up (bits h 5 5) 6

unfoldable pub six : ℕ → ℕ
six h = up (bits h 12 12) 5 ∣ bits h 6 2

unfoldable pub jump_offset : ℕ → ℕ
jump_offset h = up (bits h 12 12) 11 ∣ up (bits h 11 11) 4 ∣ up (bits h 10 9) 8 ∣ up (bits h 8 8) 10
    ∣ up (bits h 7 7) 6 ∣ up (bits h 6 6) 7 ∣ up (bits h 5 3) 1 ∣ up (bits h 2 2) 5

unfoldable pub branch_offset : ℕ → ℕ
branch_offset h = up (bits h 12 12) 8 ∣ up (bits h 11 10) 3 ∣ up (bits h 6 5) 6
    ∣ up (bits h 4 3) 1 ∣ up (bits h 2 2) 5

unfoldable pub stack_step : ℕ → ℕ
stack_step h = up (bits h 12 12) 9 ∣ up (bits h 6 6) 4 ∣ up (bits h 5 5) 6
    ∣ up (bits h 4 3) 7 ∣ up (bits h 2 2) 5

unfoldable pub stack_address : ℕ → ℕ
stack_address h = up (bits h 12 11) 4 ∣ up (bits h 10 7) 6 ∣ up (bits h 6 6) 2 ∣ up (bits h 5 5) 3

unfoldable pub load_offset : ℕ → ℕ
load_offset h = up (bits h 12 12) 5 ∣ up (bits h 6 4) 2 ∣ up (bits h 3 2) 6

unfoldable pub store_offset : ℕ → ℕ
store_offset h = up (bits h 12 9) 2 ∣ up (bits h 8 7) 6

abbrev pub short : ℕ → ℕ → ℕ
short h k = 8 + bits h (k + 2) k

abbrev pub long : ℕ → ℕ → ℕ
long h k = bits h (k + 4) k

unfoldable pub quadrant0 : ℕ → Option Form16
quadrant0 h =
    if bits h 15 13 == 0 then
    (if stack_address h == 0 then None else Some (CAddi4spn (short h 2) (pos (stack_address h))))
    else if bits h 15 13 == 2 then Some (CLw (short h 2) (short h 7) (pos (word_offset h)))
    else if bits h 15 13 == 6 then Some (CSw (short h 7) (short h 2) (pos (word_offset h)))
    else None

unfoldable pub arithmetic : ℕ → Option Form16
arithmetic h =
    if bits h 11 10 == 0 then
    (if bits h 12 12 == 0 then Some (CSrli (short h 7) (pos (bits h 6 2))) else None)
    else if bits h 11 10 == 1 then
    (if bits h 12 12 == 0 then Some (CSrai (short h 7) (pos (bits h 6 2))) else None)
    else if bits h 11 10 == 2 then Some (CAndi (short h 7) (extended 6 (six h)))
    else if bits h 12 12 == 0 then
    (if bits h 6 5 == 0 then Some (CSub (short h 7) (short h 2))
    else if bits h 6 5 == 1 then Some (CXor (short h 7) (short h 2))
    else if bits h 6 5 == 2 then Some (COr (short h 7) (short h 2))
    else Some (CAnd (short h 7) (short h 2)))
    else None

unfoldable pub upper : ℕ → Option Form16
upper h = if long h 7 == 2 then
    (if stack_step h == 0 then None else Some (CAddi16sp (extended 10 (stack_step h))))
    else if six h == 0 then None
    else Some (CLui (long h 7) (extended 6 (six h) *ℤ pos 4096))

unfoldable pub quadrant1 : ℕ → Option Form16
quadrant1 h =
    if bits h 15 13 == 0 then Some (CAddi (long h 7) (extended 6 (six h)))
    else if bits h 15 13 == 1 then Some (CJal (extended 12 (jump_offset h)))
    else if bits h 15 13 == 2 then Some (CLi (long h 7) (extended 6 (six h)))
    else if bits h 15 13 == 3 then upper h
    else if bits h 15 13 == 4 then arithmetic h
    else if bits h 15 13 == 5 then Some (CJ (extended 12 (jump_offset h)))
    else if bits h 15 13 == 6 then Some (CBeqz (short h 7) (extended 9 (branch_offset h)))
    else Some (CBnez (short h 7) (extended 9 (branch_offset h)))

unfoldable pub jump_or_move : ℕ → Option Form16
jump_or_move h =
    if bits h 12 12 == 0 then
    (if long h 2 == 0 then (if long h 7 == 0 then None else Some (CJr (long h 7)))
    else Some (CMv (long h 7) (long h 2)))
    else if long h 2 == 0 then (if long h 7 == 0 then Some CEbreak else Some (CJalr (long h 7)))
    else Some (CAdd (long h 7) (long h 2))

unfoldable pub quadrant2 : ℕ → Option Form16
quadrant2 h =
    if bits h 15 13 == 0 then
    (if bits h 12 12 == 0 then Some (CSlli (long h 7) (pos (long h 2))) else None)
    else if bits h 15 13 == 2 then
    (if long h 7 == 0 then None else Some (CLwsp (long h 7) (pos (load_offset h))))
    else if bits h 15 13 == 4 then jump_or_move h
    else if bits h 15 13 == 6 then Some (CSwsp (long h 2) (pos (store_offset h)))
    else None

unfoldable pub decoded : ℕ → Option Form16
decoded h =
    if bits h 1 0 == 0 then quadrant0 h
    else if bits h 1 0 == 1 then quadrant1 h
    else if bits h 1 0 == 2 then quadrant2 h
    else None

-- ==== The rows as the code has them.

-- the bit of the table
abbrev pub row_bit : Bit → table.Bit
row_bit Zero = table.is 0
row_bit One = table.is 1
row_bit (Rd k) = table.bit_of table.rd k
row_bit (Rs1 k) = table.bit_of table.rs1 k
row_bit (Rs2 k) = table.bit_of table.rs2 k
row_bit (Imm k) = table.bit_of table.imm k

-- the fields of the table
abbrev pub row_fields : FormFields → table.Fields
row_fields v = record { rd = v.rd; rs1 = v.rs1; rs2 = v.rs2; imm = v.imm }

-- a bit that 32 bits have
abbrev pub is_low : Bit → Bool
is_low (Rd k) = nat_lt k 32
is_low (Rs1 k) = nat_lt k 32
is_low (Rs2 k) = nat_lt k 32
is_low (Imm k) = nat_lt k 32
is_low _ = true

-- each of these 16 bits is one that 32 bits have
abbrev pub AreLow : List Bit → Type 0
AreLow bits = (k : ℕ) (other : Bit) → k < 16 → IsTrue (is_low (slice_index_or bits k other))

-- the number of a row, for these values
unfoldable pub row_number : table.Fields → List table.Bit → ℕ
row_number v bits = table.number_after 0 v bits

-- ==== What the code computes, step by step: the first form of an instruction.

-- f where the test holds and f's row allows it
abbrev pub taken : Bool → Form16 → Option Form16 → Option Form16
taken b f rest = if b && allowed f then Some f else rest

-- the immediate of C.LUI for a 20-bit number
unfoldable pub upper_value : ℕ → ℤ
upper_value n = cast_signed w32 (n * 2 ^ 12)

unfoldable pub first_addi : ℕ → ℕ → ℤ → Option Form16
first_addi d s i = taken (s == 2) (CAddi4spn d i) (taken (d == s) (CAddi d i)
    (taken (s == 0) (CLi d i) (taken (d == 2 && s == 2) (CAddi16sp i) None)))

unfoldable pub first_form : Instr → Option Form16
first_form (OpImm Addi d s i) = first_addi d s i
first_form (OpImm Andi d s i) = taken (d == s) (CAndi d i) None
first_form (OpImm Slli d s i) = taken (d == s) (CSlli d i) None
first_form (OpImm Srli d s i) = taken (d == s) (CSrli d i) None
first_form (OpImm Srai d s i) = taken (d == s) (CSrai d i) None
first_form (Op Add d s t) = taken (s == 0) (CMv d t) (taken (d == s) (CAdd d t) None)
first_form (Op Sub d s t) = taken (d == s) (CSub d t) None
first_form (Op Xor d s t) = taken (d == s) (CXor d t) None
first_form (Op Or d s t) = taken (d == s) (COr d t) None
first_form (Op And d s t) = taken (d == s) (CAnd d t) None
first_form (Load Lw d s i) = taken true (CLw d s i) (taken (s == 2) (CLwsp d i) None)
first_form (Store Sw s t i) = taken true (CSw s t i) (taken (s == 2) (CSwsp t i) None)
first_form (Jal d i) = taken (d == 1) (CJal i) (taken (d == 0) (CJ i) None)
first_form (Jalr d s (pos zero)) = taken (d == 0) (CJr s) (taken (d == 1) (CJalr s) None)
first_form (Branch Beq s t i) = taken (t == 0) (CBeqz s i) None
first_form (Branch Bne s t i) = taken (t == 0) (CBnez s i) None
first_form (Lui d n) = taken (nat_lt n (2 ^ 20)) (CLui d (upper_value n)) None
first_form Ebreak = Some CEbreak
first_form _ = None

-- ==== What the code computes, step by step: what the form of a halfword does, from the halfword's
-- fields.

-- bits 15:13, and after them bits 1:0
unfoldable pub row_of : ℕ → ℕ
row_of h = 4 * bits h 15 13 + bits h 1 0

unfoldable pub jump : ℕ → Outline
jump h =
    if bits h 6 2 == 0 then JumpsTo (bits h 12 12) (long h 7) (pos 0)
    else Computes (long h 7)

unfoldable pub jump_or_stop : ℕ → Option Outline
jump_or_stop h =
    if bits h 11 2 == 0 then (if bits h 12 12 == 0 then None else Some Stops)
    else Some (jump h)

unfoldable pub outlined : ℕ → Option Outline
outlined h =
    if row_of h == 0b00000 then (if bits h 12 5 == 0 then None else Some (Computes (short h 2)))
    else if row_of h == 0b01000 then Some (Loads (short h 2) (short h 7))
    else if row_of h == 0b11000 then Some (Stores (short h 7))
    else if row_of h == 0b00001 then Some (Computes (long h 7))
    else if row_of h == 0b00101 then Some (Jumps 1 (extended 12 (jump_offset h)))
    else if row_of h == 0b01001 then Some (Computes (long h 7))
    else if row_of h == 0b01101 then
    (if bits h 6 2 == 0 then (if bits h 12 12 == 0 then None else Some (Computes (long h 7)))
    else Some (Computes (long h 7)))
    else if row_of h == 0b10001 then
    (if bits h 12 12 == 0 then Some (Computes (short h 7))
    else if bits h 11 10 == 2 then Some (Computes (short h 7)) else None)
    else if row_of h == 0b10101 then Some (Jumps 0 (extended 12 (jump_offset h)))
    else if row_of h == 0b11001 then Some (Branches (extended 9 (branch_offset h)))
    else if row_of h == 0b11101 then Some (Branches (extended 9 (branch_offset h)))
    else if row_of h == 0b00010 then
    (if bits h 12 12 == 0 then Some (Computes (long h 7)) else None)
    else if row_of h == 0b01010 then (if long h 7 == 0 then None else Some (Loads (long h 7) 2))
    else if row_of h == 0b10010 then jump_or_stop h
    else if row_of h == 0b11010 then Some (Stores 2)
    else None
