-- Words cut at the borders of the R format: the one that spells an instruction, and those that
-- spell none.
use Rattle.rv_word.specs.Spelling.{r_format}
use Rattle.rv_word.specs.declared.instr.Cond.{Cond}
use Rattle.rv_word.specs.declared.instr.Cond.TheVariants.{Beq, Bne, Blt, Bge, Bltu, Bgeu}
use Rattle.rv_word.specs.declared.instr.LoadKind.TheVariants.{Lb, Lh, Lw, Lbu, Lhu}
use Rattle.rv_word.specs.declared.instr.RegOp.TheVariants.{Add}
use Rattle.rv_word.specs.declared.instr.StoreWidth.TheVariants.{Sb, Sh, Sw}
use Rattle.rv_word.proofs.Prelude.{◌≡◌, ℕ, ◌+◌, ◌*◌, ◌<◌, ◌/◌, ◌%◌, ℤ, pos, negsuc, arith, refl, sym, ap, ◌∙◌, WordFields, RegOp, ImmOp, Slli, Srli, Srai, LoadKind, StoreWidth, Instr, Op, OpImm, Load, Store, Branch, Jal, Jalr, Lui, Auipc, Fence, Ecall, Ebreak, modulo, bits, op_funct3, op_funct7, imm_funct3, load_funct3, store_funct3, cond_funct3, spelling, InRange, IsWordOf, word_of, Fits, ◌≢◌, true, false, Option, Some, None, IfNone, is_shift, shift_funct7, SpellsNone}

-- ==== The word that spells an instruction, cut at the borders of the R format.

-- the parts of a word are determined by it
same_parts : (a7 a2 a1 a3 ad ao b7 b2 b1 b3 bd bo : ℕ) →
    a2 < 32 → a1 < 32 → a3 < 8 → ad < 32 → ao < 128 →
    b2 < 32 → b1 < 32 → b3 < 8 → bd < 32 → bo < 128 →
    r_format a7 a2 a1 a3 ad ao ≡ r_format b7 b2 b1 b3 bd bo →
    (a7 ≡ b7) × (a2 ≡ b2) × (a1 ≡ b1) × (a3 ≡ b3) × (ad ≡ bd) × (ao ≡ bo)
same_parts a7 a2 a1 a3 ad ao b7 b2 b1 b3 bd bo p2 p1 p3 pd po q2 q1 q3 qd qo e =
    (omega arith, omega arith, omega arith, omega arith, omega arith, omega arith)

abbrev pub parts : ℕ → ℕ → ℕ → ℕ → ℕ → ℕ → WordFields
parts opcode rd funct3 rs1 rs2 funct7 =
    record { opcode = opcode; rd = rd; funct3 = funct3; rs1 = rs1; rs2 = rs2; funct7 = funct7 }

one_cut : (p q : WordFields) → Fits p → Fits q → word_of p ≡ word_of q → p ≡ q
one_cut p q fp fq e =
    let s : (p.funct7 ≡ q.funct7) × (p.rs2 ≡ q.rs2) × (p.rs1 ≡ q.rs1) × (p.funct3 ≡ q.funct3) × (p.rd ≡ q.rd) × (p.opcode ≡ q.opcode) =
    same_parts p.funct7 p.rs2 p.rs1 p.funct3 p.rd p.opcode q.funct7 q.rs2 q.rs1 q.funct3 q.rd q.opcode
    fp.rs2 fp.rs1 fp.funct3 fp.rd fp.opcode fq.rs2 fq.rs1 fq.funct3 fq.rd fq.opcode e in
    let same : parts p.opcode p.rd p.funct3 p.rs1 p.rs2 p.funct7 ≡ parts q.opcode q.rd q.funct3 q.rs1 q.rs2 q.funct7 = cc in
    same

modulo12 : (z : ℤ) → modulo 12 z < 4096
modulo12 (pos n) = omega arith
modulo12 (negsuc n) = omega arith

modulo5 : (z : ℤ) → modulo 5 z < 32
modulo5 (pos n) = omega arith
modulo5 (negsuc n) = omega arith

cond_small : (c : Cond) → cond_funct3 c < 8
cond_small c = elim c as (λ c. cond_funct3 c < 8)
    [ Beq ↦ omega arith | Bne ↦ omega arith | Blt ↦ omega arith | Bge ↦ omega arith | Bltu ↦ omega arith | Bgeu ↦ omega arith ]

load_small : (k : LoadKind) → load_funct3 k < 8
load_small k = elim k as (λ k. load_funct3 k < 8)
    [ Lb ↦ omega arith | Lh ↦ omega arith | Lw ↦ omega arith | Lbu ↦ omega arith | Lhu ↦ omega arith ]

store_small : (w : StoreWidth) → store_funct3 w < 8
store_small w = elim w as (λ w. store_funct3 w < 8) [ Sb ↦ omega arith | Sh ↦ omega arith | Sw ↦ omega arith ]

op_small : (op : RegOp) → (op_funct7 op < 128) × (op_funct3 op < 8)
op_small Add = (omega arith, omega arith)
op_small _ = (omega arith, omega arith)

-- the parts of the word that spells an instruction
unfoldable pub imm_cut : ImmOp → ℤ → ℕ → ℕ → WordFields
imm_cut Slli z rs1 rd = parts 19 rd 1 rs1 (modulo 5 z) 0
imm_cut Srli z rs1 rd = parts 19 rd 5 rs1 (modulo 5 z) 0
imm_cut Srai z rs1 rd = parts 19 rd 5 rs1 (modulo 5 z) 32
imm_cut op z rs1 rd = parts 19 rd (imm_funct3 op) rs1 (modulo 12 z % 32) (modulo 12 z / 32)

unfoldable pub cut : Instr → WordFields
cut (Op op rd rs1 rs2) = parts 51 rd (op_funct3 op) rs1 rs2 (op_funct7 op)
cut (OpImm op rd rs1 z) = imm_cut op z rs1 rd
cut (Load kind rd rs1 z) = parts 3 rd (load_funct3 kind) rs1 (modulo 12 z % 32) (modulo 12 z / 32)
cut (Store width rs1 rs2 z) = parts 35 (modulo 12 z % 32) (store_funct3 width) rs1 rs2 (modulo 12 z / 32)
cut (Branch cond rs1 rs2 z) =
    let n = modulo 13 z in
    parts 99 (bits n 4 1 * 2 + bits n 11 11) (cond_funct3 cond) rs1 rs2 (bits n 12 12 * 64 + bits n 10 5)
cut (Jal rd z) =
    let n = modulo 21 z in
    parts 111 rd (bits n 19 12 % 8) (bits n 19 12 / 8) (bits n 10 1 % 16 * 2 + bits n 11 11) (bits n 20 20 * 64 + bits n 10 1 / 16)
cut (Jalr rd rs1 z) = parts 103 rd 0 rs1 (modulo 12 z % 32) (modulo 12 z / 32)
cut (Lui rd imm) = parts 55 rd (imm % 8) (imm / 8 % 32) (imm / 256 % 32) (imm / 8192)
cut (Auipc rd imm) = parts 23 rd (imm % 8) (imm / 8 % 32) (imm / 256 % 32) (imm / 8192)
cut (Fence imm rd rs1) = parts 15 rd 0 rs1 (imm % 32) (imm / 32)
cut Ecall = parts 115 0 0 0 0 0
cut Ebreak = parts 115 0 0 0 1 0

imm_cut_fits : (op : ImmOp) (z : ℤ) (rs1 rd : ℕ) → rs1 < 32 → rd < 32 → Fits (imm_cut op z rs1 rd)
unfolding imm_cut
imm_cut_fits Slli z rs1 rd a d = record { opcode = omega arith; rd = d; funct3 = omega arith; rs1 = a; rs2 = modulo5 z; funct7 = omega arith }
imm_cut_fits Srli z rs1 rd a d = record { opcode = omega arith; rd = d; funct3 = omega arith; rs1 = a; rs2 = modulo5 z; funct7 = omega arith }
imm_cut_fits Srai z rs1 rd a d = record { opcode = omega arith; rd = d; funct3 = omega arith; rs1 = a; rs2 = modulo5 z; funct7 = omega arith }
imm_cut_fits _ z rs1 rd a d =
    let small : modulo 12 z < 4096 = modulo12 z in
    record { opcode = omega arith; rd = d; funct3 = omega arith; rs1 = a; rs2 = omega arith; funct7 = omega arith }

pub cut_fits : (i : Instr) → InRange i → Fits (cut i)
unfolding cut InRange
cut_fits (Op op rd rs1 rs2) r = record { opcode = omega arith; rd = r.0; funct3 = (op_small op).1; rs1 = r.1; rs2 = r.2; funct7 = (op_small op).0 }
cut_fits (OpImm op rd rs1 z) r = imm_cut_fits op z rs1 rd r.1 r.0
cut_fits (Load kind rd rs1 z) r =
    let small : modulo 12 z < 4096 = modulo12 z in
    record { opcode = omega arith; rd = r.0; funct3 = load_small kind; rs1 = r.1; rs2 = omega arith; funct7 = omega arith }
cut_fits (Store width rs1 rs2 z) r =
    let small : modulo 12 z < 4096 = modulo12 z in
    record { opcode = omega arith; rd = omega arith; funct3 = store_small width; rs1 = r.0; rs2 = r.1; funct7 = omega arith }
cut_fits (Branch cond rs1 rs2 z) r = record { opcode = omega arith; rd = omega arith; funct3 = cond_small cond; rs1 = r.0; rs2 = r.1; funct7 = omega arith }
cut_fits (Jal rd z) r = record { opcode = omega arith; rd = r.0; funct3 = omega arith; rs1 = omega arith; rs2 = omega arith; funct7 = omega arith }
cut_fits (Jalr rd rs1 z) r =
    let small : modulo 12 z < 4096 = modulo12 z in
    record { opcode = omega arith; rd = r.0; funct3 = omega arith; rs1 = r.1; rs2 = omega arith; funct7 = omega arith }
cut_fits (Lui rd imm) r = record { opcode = omega arith; rd = r.0; funct3 = omega arith; rs1 = omega arith; rs2 = omega arith; funct7 = omega (arith, r.1) }
cut_fits (Auipc rd imm) r = record { opcode = omega arith; rd = r.0; funct3 = omega arith; rs1 = omega arith; rs2 = omega arith; funct7 = omega (arith, r.1) }
cut_fits (Fence imm rd rs1) r = record { opcode = omega arith; rd = r.1; funct3 = omega arith; rs1 = r.2; rs2 = omega arith; funct7 = omega (arith, r.0) }
cut_fits Ecall r = record { opcode = omega arith; rd = omega arith; funct3 = omega arith; rs1 = omega arith; rs2 = omega arith; funct7 = omega arith }
cut_fits Ebreak r = record { opcode = omega arith; rd = omega arith; funct3 = omega arith; rs1 = omega arith; rs2 = omega arith; funct7 = omega arith }

imm_cut_sum : (op : ImmOp) (rd rs1 : ℕ) (z : ℤ) → word_of (imm_cut op z rs1 rd) ≡ spelling (OpImm op rd rs1 z)
unfolding imm_cut spelling
imm_cut_sum Slli rd rs1 z = refl
imm_cut_sum Srli rd rs1 z = refl
imm_cut_sum Srai rd rs1 z = refl
imm_cut_sum _ rd rs1 z = let small : modulo 12 z < 4096 = modulo12 z in omega arith

pub cut_sum : (i : Instr) → word_of (cut i) ≡ spelling i
unfolding cut spelling
cut_sum (Op op rd rs1 rs2) = refl
cut_sum (OpImm op rd rs1 z) = imm_cut_sum op rd rs1 z
cut_sum (Load kind rd rs1 z) = let small : modulo 12 z < 4096 = modulo12 z in omega arith
cut_sum (Store width rs1 rs2 z) = let small : modulo 12 z < 4096 = modulo12 z in omega arith
cut_sum (Branch cond rs1 rs2 z) = omega arith
cut_sum (Jal rd z) = omega arith
cut_sum (Jalr rd rs1 z) = let small : modulo 12 z < 4096 = modulo12 z in omega arith
cut_sum (Lui rd imm) = omega arith
cut_sum (Auipc rd imm) = omega arith
cut_sum (Fence imm rd rs1) = omega arith
cut_sum Ecall = refl
cut_sum Ebreak = refl

-- a word that spells i, cut, has the parts of i
pub cut_is : (p : WordFields) → Fits p → (i : Instr) → IsWordOf (word_of p) i → p ≡ cut i
cut_is p fits i w = one_cut p (cut i) fits (cut_fits i w.0) (w.1 ∙ sym (cut_sum i))

imm_opcode : (op : ImmOp) (z : ℤ) (rs1 rd : ℕ) → (imm_cut op z rs1 rd).opcode ≡ 19
unfolding imm_cut
imm_opcode Slli z rs1 rd = refl
imm_opcode _ z rs1 rd = refl

-- bits 6:0 of each spelling
unfoldable pub opcode_of : Instr → ℕ
opcode_of (Op op rd rs1 rs2) = 51
opcode_of (OpImm op rd rs1 z) = 19
opcode_of (Load kind rd rs1 z) = 3
opcode_of (Store width rs1 rs2 z) = 35
opcode_of (Branch cond rs1 rs2 z) = 99
opcode_of (Jal rd z) = 111
opcode_of (Jalr rd rs1 z) = 103
opcode_of (Lui rd imm) = 55
opcode_of (Auipc rd imm) = 23
opcode_of (Fence imm rd rs1) = 15
opcode_of Ecall = 115
opcode_of Ebreak = 115

pub cut_opcode : (i : Instr) → (cut i).opcode ≡ opcode_of i
unfolding cut opcode_of
cut_opcode (OpImm op rd rs1 z) = imm_opcode op z rs1 rd
cut_opcode i = refl

pub opcode_is : (p : WordFields) → Fits p → (i : Instr) → IsWordOf (word_of p) i → p.opcode ≡ opcode_of i
opcode_is p fits i w = ap (λ (q : WordFields). q.opcode) (cut_is p fits i w) ∙ cut_opcode i

-- ==== Words that spell no instruction.

-- the fields of two equal cuts are equal
funct3_is : (p q : WordFields) → p ≡ q → q.funct3 ≡ p.funct3
funct3_is p q same = sym (ap (λ (r : WordFields). r.funct3) same)

funct7_is : (p q : WordFields) → p ≡ q → q.funct7 ≡ p.funct7
funct7_is p q same = sym (ap (λ (r : WordFields). r.funct7) same)

pub no_load : (p : WordFields) → Fits p → p.opcode ≡ 0b0000011 → ((k : LoadKind) → load_funct3 k ≢ p.funct3) → SpellsNone (word_of p)
unfolding cut opcode_of
no_load p fits o none (Load k rd rs1 z) w = none k (funct3_is p _ (cut_is p fits (Load k rd rs1 z) w))
no_load p fits o none i w = omega (arith, opcode_is p fits i w)

pub no_store : (p : WordFields) → Fits p → p.opcode ≡ 0b0100011 → ((k : StoreWidth) → store_funct3 k ≢ p.funct3) → SpellsNone (word_of p)
unfolding cut opcode_of
no_store p fits o none (Store k rs1 rs2 z) w = none k (funct3_is p _ (cut_is p fits (Store k rs1 rs2 z) w))
no_store p fits o none i w = omega (arith, opcode_is p fits i w)

pub no_branch : (p : WordFields) → Fits p → p.opcode ≡ 0b1100011 → ((c : Cond) → cond_funct3 c ≢ p.funct3) → SpellsNone (word_of p)
unfolding cut opcode_of
no_branch p fits o none (Branch c rs1 rs2 z) w = none c (funct3_is p _ (cut_is p fits (Branch c rs1 rs2 z) w))
no_branch p fits o none i w = omega (arith, opcode_is p fits i w)

pub no_op : (p : WordFields) → Fits p → p.opcode ≡ 0b0110011 → ((op : RegOp) → op_funct7 op ≡ p.funct7 → op_funct3 op ≢ p.funct3) →
    SpellsNone (word_of p)
unfolding cut opcode_of
no_op p fits o none (Op op rd rs1 rs2) w =
    let same : p ≡ parts 51 rd (op_funct3 op) rs1 rs2 (op_funct7 op) = cut_is p fits (Op op rd rs1 rs2) w in
    none op (funct7_is p _ same) (funct3_is p _ same)
no_op p fits o none i w = omega (arith, opcode_is p fits i w)

no_imm_op : (p : WordFields) (op : ImmOp) (rd rs1 : ℕ) (z : ℤ) → p ≡ imm_cut op z rs1 rd →
    ((op : ImmOp) → is_shift op ≡ false → imm_funct3 op ≢ p.funct3) →
    ((op : ImmOp) → is_shift op ≡ true → shift_funct7 op ≡ p.funct7 → imm_funct3 op ≢ p.funct3) → ⊥
unfolding imm_cut
no_imm_op p Slli rd rs1 z same none no_shift = no_shift Slli refl (funct7_is p _ same) (funct3_is p _ same)
no_imm_op p Srli rd rs1 z same none no_shift = no_shift Srli refl (funct7_is p _ same) (funct3_is p _ same)
no_imm_op p Srai rd rs1 z same none no_shift = no_shift Srai refl (funct7_is p _ same) (funct3_is p _ same)
no_imm_op p op rd rs1 z same none no_shift = none op refl (funct3_is p _ same)

pub no_imm : (p : WordFields) → Fits p → p.opcode ≡ 0b0010011 →
    ((op : ImmOp) → is_shift op ≡ false → imm_funct3 op ≢ p.funct3) →
    ((op : ImmOp) → is_shift op ≡ true → shift_funct7 op ≡ p.funct7 → imm_funct3 op ≢ p.funct3) → SpellsNone (word_of p)
unfolding cut opcode_of
no_imm p fits o none no_shift (OpImm op rd rs1 z) w = no_imm_op p op rd rs1 z (cut_is p fits (OpImm op rd rs1 z) w) none no_shift
no_imm p fits o none no_shift i w = omega (arith, opcode_is p fits i w)

pub no_opcode : (p : WordFields) → Fits p → p.opcode ≢ 51 → p.opcode ≢ 19 → p.opcode ≢ 3 → p.opcode ≢ 35 → p.opcode ≢ 99 →
    p.opcode ≢ 111 → p.opcode ≢ 103 → p.opcode ≢ 55 → p.opcode ≢ 23 → p.opcode ≢ 15 → p.opcode ≢ 115 → SpellsNone (word_of p)
unfolding opcode_of
no_opcode p fits a b c d f g h j k l m i w =
    let o : p.opcode ≡ opcode_of i = opcode_is p fits i w in
    elim i as (λ i. p.opcode ≡ opcode_of i → ⊥) [
      | Op op rd rs1 rs2 ↦ a
      | OpImm op rd rs1 z ↦ b
      | Load kind rd rs1 z ↦ c
      | Store width rs1 rs2 z ↦ d
      | Branch cond rs1 rs2 z ↦ f
      | Jal rd z ↦ g
      | Jalr rd rs1 z ↦ h
      | Lui rd imm ↦ j
      | Auipc rd imm ↦ k
      | Fence imm rd rs1 ↦ l
      | Ecall ↦ m
      | Ebreak ↦ m
    ] o

-- at an exit that has no instruction, the word spells none
pub if_none : {A : Type 0} (o : Option A) (P : Type 0) → P → IfNone o P
if_none None P h = h
if_none (Some x) P h = tt
