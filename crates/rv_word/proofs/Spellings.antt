-- What a spelling tells: one instruction, of 32 bits.
use Rattle.rv_word.specs.Spelling.{length_of}
use Rattle.rv_word.specs.declared.length.Length.TheVariants.{Wide}
use Rattle.rv_word.proofs.Cut.{cut, cut_fits, cut_sum, opcode_of, cut_opcode, parts, imm_cut, cut_is}
use Rattle.rv_word.specs.declared.instr.Cond.{Cond}
use Rattle.rv_word.specs.declared.instr.Cond.TheVariants.{Beq, Bne, Blt, Bge, Bltu, Bgeu}
use Rattle.rv_word.specs.declared.instr.LoadKind.TheVariants.{Lb, Lh, Lw, Lbu, Lhu}
use Rattle.rv_word.specs.declared.instr.RegOp.TheVariants.{Add, Sub, Sll, Slt, Sltu, Xor, Srl, Sra, Or, And, Mul, Mulh, Mulhsu, Mulhu, Div, Divu, Rem, Remu}
use Rattle.rv_word.specs.declared.instr.StoreWidth.TheVariants.{Sb, Sh, Sw}
use Rattle.std.specs.List.{find}
use Rattle.std.specs.Option.{option_map}
use Rattle.rv_word.proofs.Prelude.{◌≡◌, ℕ, ◌^◌, ◌<◌, ◌/◌, ◌%◌, arith, refl, sym, subst, ◌∙◌, ◌≢◌, WordFields, Instr, Op, OpImm, Load, Store, Branch, Jal, Jalr, Lui, Auipc, Fence, Ecall, Ebreak, bits, word_of, Fits, ne_eqb, eq-eqb, SpellingsAreWide, ◌+◌, ◌-◌, ◌*◌, ℤ, pos, negsuc, ap, Option, Some, None, nat_lt, List, [], ◌∷◌, ◌==◌, ◌&&◌, if◌then◌else◌, RegOp, ImmOp, Addi, Slti, Sltiu, Xori, Ori, Andi, Slli, Srli, Srai, LoadKind, StoreWidth, modulo, minus, IsBetween, IsEven, op_funct3, op_funct7, imm_funct3, load_funct3, store_funct3, cond_funct3, spelling, InRange, IsImm12, IsImmOf, OneSpelling}

-- ==== A word that spells an instruction tells 32 bits.

wide_opcode : (i : Instr) → (opcode_of i % 4 ≡ 3) × (opcode_of i / 4 % 8 ≢ 7)
unfolding opcode_of
wide_opcode i = elim i as (λ i. (opcode_of i % 4 ≡ 3) × (opcode_of i / 4 % 8 ≢ 7)) [
  | Op op rd rs1 rs2 ↦ (refl, omega arith)
  | OpImm op rd rs1 z ↦ (refl, omega arith)
  | Load kind rd rs1 z ↦ (refl, omega arith)
  | Store width rs1 rs2 z ↦ (refl, omega arith)
  | Branch cond rs1 rs2 z ↦ (refl, omega arith)
  | Jal rd z ↦ (refl, omega arith)
  | Jalr rd rs1 z ↦ (refl, omega arith)
  | Lui rd imm ↦ (refl, omega arith)
  | Auipc rd imm ↦ (refl, omega arith)
  | Fence imm rd rs1 ↦ (refl, omega arith)
  | Ecall ↦ (refl, omega arith)
  | Ebreak ↦ (refl, omega arith)
]

wide_length : (first : ℕ) → bits first 1 0 ≡ 3 → bits first 4 2 ≢ 7 → length_of first ≡ Wide
wide_length first low high = rw (eq-eqb (bits first 1 0) 3 low) (rw (ne_eqb (bits first 4 2) 7 high) refl)

wide_sum : (p : WordFields) → Fits p → p.opcode % 4 ≡ 3 → p.opcode / 4 % 8 ≢ 7 →
    (word_of p < 2 ^ 32) × (length_of (word_of p % 2 ^ 16) ≡ Wide)
wide_sum p fits low high = (omega arith, wide_length (word_of p % 2 ^ 16) (omega arith) (λ e. omega arith))

pub are_wide : SpellingsAreWide
are_wide word i w =
    let P : ℕ → Type 0 = λ n. (n < 2 ^ 32) × (length_of (n % 2 ^ 16) ≡ Wide) in
    subst P (cut_sum i ∙ sym w.1)
    (wide_sum (cut i) (cut_fits i w.0) (rw (cut_opcode i) (wide_opcode i).0) (rw (cut_opcode i) (wide_opcode i).1))

-- ==== No two instructions have one spelling: read is the way back from the parts.

-- the number whose two's complement is n, where half is the least n that stands for a negative number
abbrev signed : ℕ → ℕ → ℤ
signed half n = if nat_lt n half then pos n else negsuc (2 * half - 1 - n)

abbrev conds : List Cond
conds = Beq ∷ Bne ∷ Blt ∷ Bge ∷ Bltu ∷ Bgeu ∷ []

abbrev cond_at : ℕ → Option Cond
cond_at funct3 = find (λ c. cond_funct3 c == funct3) conds

abbrev loads : List LoadKind
loads = Lb ∷ Lh ∷ Lw ∷ Lbu ∷ Lhu ∷ []

abbrev load_at : ℕ → Option LoadKind
load_at funct3 = find (λ k. load_funct3 k == funct3) loads

abbrev stores : List StoreWidth
stores = Sb ∷ Sh ∷ Sw ∷ []

abbrev store_at : ℕ → Option StoreWidth
store_at funct3 = find (λ w. store_funct3 w == funct3) stores

abbrev ops : List RegOp
ops = Add ∷ Sub ∷ Sll ∷ Slt ∷ Sltu ∷ Xor ∷ Srl ∷ Sra ∷ Or ∷ And ∷ Mul ∷ Mulh ∷ Mulhsu ∷ Mulhu ∷ Div ∷ Divu ∷ Rem ∷ Remu ∷ []

abbrev pub op_at : ℕ → ℕ → Option RegOp
op_at funct7 funct3 = find (λ op. (op_funct7 op == funct7) && (op_funct3 op == funct3)) ops

abbrev imm_ops : List ImmOp
imm_ops = Addi ∷ Slti ∷ Sltiu ∷ Xori ∷ Ori ∷ Andi ∷ []

abbrev pub imm_op_at : ℕ → Option ImmOp
imm_op_at funct3 = find (λ op. imm_funct3 op == funct3) imm_ops

abbrev pub shift_at : ℕ → ℕ → Option ImmOp
shift_at funct7 funct3 =
    if (funct7 == 0) && (funct3 == 1) then Some Slli
    else if (funct7 == 0) && (funct3 == 5) then Some Srli
    else if (funct7 == 32) && (funct3 == 5) then Some Srai
    else None

abbrev i_imm : WordFields → ℤ
i_imm p = signed 2048 (p.funct7 * 32 + p.rs2)

abbrev s_imm : WordFields → ℤ
s_imm p = signed 2048 (p.funct7 * 32 + p.rd)

abbrev b_offset : WordFields → ℤ
b_offset p = signed 4096 (p.funct7 / 64 * 4096 + p.rd % 2 * 2048 + p.funct7 % 64 * 32 + p.rd / 2 * 2)

abbrev upper : WordFields → ℕ
upper p = p.funct7 * 8192 + p.rs2 * 256 + p.rs1 * 8 + p.funct3

abbrev j_offset : WordFields → ℤ
j_offset p = signed 1048576 (p.funct7 / 64 * 1048576 + p.rs1 * 32768 + p.funct3 * 4096 + p.rs2 % 2 * 2048
    + p.funct7 % 64 * 32 + p.rs2 / 2 * 2)

abbrev imm_at : WordFields → Option Instr
imm_at p =
    if (p.funct3 == 1) then option_map (λ op. OpImm op p.rd p.rs1 (pos p.rs2)) (shift_at p.funct7 p.funct3)
    else if (p.funct3 == 5) then option_map (λ op. OpImm op p.rd p.rs1 (pos p.rs2)) (shift_at p.funct7 p.funct3)
    else option_map (λ op. OpImm op p.rd p.rs1 (i_imm p)) (imm_op_at p.funct3)

abbrev system_at : WordFields → Option Instr
system_at p =
    if (word_of p == 0x00000073) then Some Ecall
    else if (word_of p == 0x00100073) then Some Ebreak
    else None

pub read : WordFields → Option Instr
read p =
    if (p.opcode == 0b0110111) then Some (Lui p.rd (upper p))
    else if (p.opcode == 0b0010111) then Some (Auipc p.rd (upper p))
    else if (p.opcode == 0b1101111) then Some (Jal p.rd (j_offset p))
    else if (p.opcode == 0b1100111) then (if (p.funct3 == 0) then Some (Jalr p.rd p.rs1 (i_imm p)) else None)
    else if (p.opcode == 0b1100011) then option_map (λ c. Branch c p.rs1 p.rs2 (b_offset p)) (cond_at p.funct3)
    else if (p.opcode == 0b0000011) then option_map (λ k. Load k p.rd p.rs1 (i_imm p)) (load_at p.funct3)
    else if (p.opcode == 0b0100011) then option_map (λ w. Store w p.rs1 p.rs2 (s_imm p)) (store_at p.funct3)
    else if (p.opcode == 0b0010011) then imm_at p
    else if (p.opcode == 0b0110011) then option_map (λ op. Op op p.rd p.rs1 p.rs2) (op_at p.funct7 p.funct3)
    else if (p.opcode == 0b0001111) then (if (p.funct3 == 0) then Some (Fence (p.funct7 * 32 + p.rs2) p.rd p.rs1) else None)
    else if (p.opcode == 0b1110011) then system_at p
    else None

-- the signed number of its two's complement
imm12_again : (z : ℤ) → IsImm12 z → signed 2048 (modulo 12 z / 32 * 32 + modulo 12 z % 32) ≡ z
imm12_again (pos n) r = grind arith
imm12_again (negsuc n) r = grind arith

cond_again : (c : Cond) → cond_at (cond_funct3 c) ≡ Some c
cond_again Beq = refl
cond_again _ = refl

load_again : (k : LoadKind) → load_at (load_funct3 k) ≡ Some k
load_again Lb = refl
load_again _ = refl

store_again : (w : StoreWidth) → store_at (store_funct3 w) ≡ Some w
store_again Sb = refl
store_again _ = refl

op_again : (op : RegOp) → op_at (op_funct7 op) (op_funct3 op) ≡ Some op
op_again Add = refl
op_again _ = refl

b_offset_again : (z : ℤ) → IsBetween (minus 4096) (pos 4094) z → IsEven z →
    b_offset (parts 0 (bits (modulo 13 z) 4 1 * 2 + bits (modulo 13 z) 11 11) 0 0 0
    (bits (modulo 13 z) 12 12 * 64 + bits (modulo 13 z) 10 5)) ≡ z
b_offset_again (pos n) r even = grind arith
b_offset_again (negsuc n) r even = grind arith

j_offset_again : (z : ℤ) → IsBetween (minus 1048576) (pos 1048574) z → IsEven z →
    let n = modulo 21 z in
    j_offset (parts 0 0 (bits n 19 12 % 8) (bits n 19 12 / 8) (bits n 10 1 % 16 * 2 + bits n 11 11)
    (bits n 20 20 * 64 + bits n 10 1 / 16)) ≡ z
j_offset_again (pos n) r even = grind arith
j_offset_again (negsuc n) r even = grind arith

amount_again : (z : ℤ) → IsBetween (pos 0) (pos 31) z → pos (modulo 5 z) ≡ z
amount_again (pos n) r = grind arith
amount_again (negsuc n) r = grind arith

imm_cut_read : (op : ImmOp) (rd rs1 : ℕ) (z : ℤ) → IsImmOf op z → read (imm_cut op z rs1 rd) ≡ Some (OpImm op rd rs1 z)
unfolding imm_cut read
imm_cut_read Slli rd rs1 z r = rw (amount_again z r) refl
imm_cut_read Srli rd rs1 z r = rw (amount_again z r) refl
imm_cut_read Srai rd rs1 z r = rw (amount_again z r) refl
imm_cut_read _ rd rs1 z r = rw (imm12_again z r) refl

pub cut_read : (i : Instr) → InRange i → read (cut i) ≡ Some i
unfolding cut read InRange
cut_read (Op op rd rs1 rs2) r = rw (op_again op) refl
cut_read (OpImm op rd rs1 z) r = imm_cut_read op rd rs1 z r.2
cut_read (Load kind rd rs1 z) r = rw (load_again kind, imm12_again z r.2) refl
cut_read (Store width rs1 rs2 z) r = rw (store_again width, imm12_again z r.2) refl
cut_read (Branch cond rs1 rs2 z) r = rw (cond_again cond, b_offset_again z r.2.0 r.2.1) refl
cut_read (Jal rd z) r = rw (j_offset_again z r.1.0 r.1.1) refl
cut_read (Jalr rd rs1 z) r = rw (imm12_again z r.2) refl
cut_read (Lui rd imm) r = let e : imm / 8192 * 8192 + imm / 256 % 32 * 256 + imm / 8 % 32 * 8 + imm % 8 ≡ imm = omega arith in rw e refl
cut_read (Auipc rd imm) r = let e : imm / 8192 * 8192 + imm / 256 % 32 * 256 + imm / 8 % 32 * 8 + imm % 8 ≡ imm = omega arith in rw e refl
cut_read (Fence imm rd rs1) r = let e : imm / 32 * 32 + imm % 32 ≡ imm = omega arith in rw e refl
cut_read Ecall r = refl
cut_read Ebreak r = refl

-- no two instructions in range have one spelling
same_spelling : (i j : Instr) → InRange i → InRange j → spelling i ≡ spelling j → i ≡ j
same_spelling i j r s e =
    let same : cut i ≡ cut j = cut_is (cut i) (cut_fits i r) j (s, cut_sum i ∙ e) in
    let read_both : Some i ≡ Some j = sym (cut_read i r) ∙ ap read same ∙ cut_read j s in
    cc

-- a word spells one instruction at most
pub one_spelling : OneSpelling
one_spelling word i j p q = same_spelling i j p.0 q.0 (sym p.1 ∙ q.1)
