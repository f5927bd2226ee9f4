-- The tables of what computes, seen right at each opcode, funct3 and funct7.
use Rattle.rv_word.proofs.Prelude.{◌≡◌, ℕ, ◌+◌, ◌-◌, ◌*◌, ◌/◌, ◌%◌, ◌<◌, ◌^◌, Bool, true, false, ◌&&◌, ◌==◌, ℤ, pos, negsuc, refl, sym, ap, ◌∙◌, subst, inl, inr, arith, eqb-true, eq-eqb, Option, Some, None, bit_and, slice_index, not, if◌then◌else◌, agree_below, agree_below_at, and_parts, cases_lt, WordFields, RegOp, ImmOp, Addi, Instr, Op, OpImm, Lui, Auipc, modulo, bits, op_funct3, op_funct7, imm_funct3, is_shift, shift_funct7, spelling, InRange, IsWordOf, IsImm12, word_of, Fits}
use Rattle.rv_word.specs.Outlines.{outline, IsWordThat}
use Rattle.rv_word.specs.declared.computing.TheConstants.{COMPUTING, CLASSES}
use Rattle.rv_word.specs.declared.instr.RegOp.TheVariants.{Add}
use Rattle.rv_word.specs.declared.outline.Outline.TheVariants.{Computes}
use Rattle.std.proofs.lemmas.Int.{ints}
use Rattle.std.proofs.lemmas.Nat.{and_mask}
use Rattle.std.specs.Bool.{OnTrue}
use Rattle.rv_word.proofs.Cut.{cut, imm_cut, cut_is}
use Rattle.rv_word.proofs.Spellings.{op_at, imm_op_at, shift_at}

-- ---- what computes, by opcode / 4, funct3 and funct7

abbrev op_fits : ℕ → ℕ → Option RegOp → Bool
op_fits funct7 funct3 None = false
op_fits funct7 funct3 (Some op) = (op_funct7 op == funct7) && (op_funct3 op == funct3)

abbrev shift_fits : ℕ → ℕ → Option ImmOp → Bool
shift_fits funct7 funct3 None = false
shift_fits funct7 funct3 (Some op) = is_shift op && ((shift_funct7 op == funct7) && (imm_funct3 op == funct3))

abbrev imm_fits : ℕ → Option ImmOp → Bool
imm_fits funct3 None = false
imm_fits funct3 (Some op) = not (is_shift op) && (imm_funct3 op == funct3)

abbrev imm_computes : ℕ → ℕ → Bool
imm_computes funct3 funct7 =
    if funct3 == 1 then shift_fits funct7 funct3 (shift_at funct7 funct3)
    else if funct3 == 5 then shift_fits funct7 funct3 (shift_at funct7 funct3)
    else imm_fits funct3 (imm_op_at funct3)

unfoldable computes : ℕ → ℕ → ℕ → Bool
computes row funct3 funct7 =
    if row == 13 then true
    else if row == 5 then true
    else if row == 12 then op_fits funct7 funct3 (op_at funct7 funct3)
    else if row == 4 then imm_computes funct3 funct7
    else false

-- ---- the tables, by computation

unfoldable row_tells : ℕ → ℕ → Bool
row_tells place mask =
    agree_below (λ funct7. not (bit_and mask (slice_index CLASSES funct7) == 0)) (λ funct7. computes (place / 8) (place % 8) funct7) 128

unfoldable tables : Unit {0}
unfolding row_tells computes
tables = tt

all_rows : agree_below (λ place. row_tells place (slice_index COMPUTING place)) (λ place. true) 256 ≡ true
unfolding tables
all_rows = refl

table_at : (row funct3 funct7 : ℕ) → row < 32 → funct3 < 8 → funct7 < 128
    → not (bit_and (slice_index COMPUTING (row * 8 + funct3)) (slice_index CLASSES funct7) == 0) ≡ computes row funct3 funct7
unfolding row_tells
table_at row funct3 funct7 row_fits funct3_fits funct7_fits =
    let place = row * 8 + funct3 in
    let mask = slice_index COMPUTING place in
    let high : place / 8 ≡ row = omega arith in
    let low : place % 8 ≡ funct3 = omega arith in
    let told = agree_below_at (λ f. not (bit_and mask (slice_index CLASSES f) == 0)) (λ f. computes (place / 8) (place % 8) f) 128 funct7
    (agree_below_at (λ p. row_tells p (slice_index COMPUTING p)) (λ p. true) 256 place all_rows (omega arith)) funct7_fits in
    told ∙ ap (λ r. computes r (place % 8) funct7) high ∙ ap (λ f. computes row f funct7) low

-- ---- the instruction of what computes

pub imm12_of : (n : ℕ) → n < 4096 → (z : ℤ) × IsImm12 z × (modulo 12 z ≡ n)
imm12_of n lt = elim (cases_lt n 2048) [
  | inl less ↦ (pos n, (omega (arith, ints), omega (arith, ints)), omega arith)
  | inr more ↦ (negsuc (4095 - n), (omega (arith, ints), omega (arith, ints)), omega arith)
]

of_op : (p : WordFields) → Fits p → p.opcode ≡ 51 → (o : Option RegOp) → op_fits p.funct7 p.funct3 o ≡ true → IsWordThat (word_of p) (Computes p.rd)
unfolding spelling InRange
of_op p fits opcode None h = absurd cc
of_op p fits opcode (Some op) h =
    let both = and_parts (op_funct7 op == p.funct7) (op_funct3 op == p.funct3) h in
    let high = eqb-true (op_funct7 op) p.funct7 both.0 in
    let low = eqb-true (op_funct3 op) p.funct3 both.1 in
    record { instr = Op op p.rd p.rs1 p.rs2; spelled = ((fits.rd, fits.rs1, fits.rs2), rw (high, low, opcode) refl); does = refl }

not_true : (b : Bool) → not b ≡ true → b ≡ false
not_true true e = cc
not_true false e = refl

of_shift : (p : WordFields) → Fits p → p.opcode ≡ 19 → (o : Option ImmOp) → shift_fits p.funct7 p.funct3 o ≡ true → IsWordThat (word_of p) (Computes p.rd)
unfolding spelling InRange
of_shift p fits opcode None h = absurd cc
of_shift p fits opcode (Some op) h =
    let first = and_parts (is_shift op) ((shift_funct7 op == p.funct7) && (imm_funct3 op == p.funct3)) h in
    let both = and_parts (shift_funct7 op == p.funct7) (imm_funct3 op == p.funct3) first.1 in
    let high = eqb-true (shift_funct7 op) p.funct7 both.0 in
    let low = eqb-true (imm_funct3 op) p.funct3 both.1 in
    let amount : p.rs2 % 32 ≡ p.rs2 = omega (arith, fits.rs2) in
    record {
      instr = OpImm op p.rd p.rs1 (pos p.rs2);
      spelled = ((fits.rd, fits.rs1, rw first.0 (omega (arith, ints), omega (arith, ints, fits.rs2))), rw (first.0, high, low, opcode, amount) refl);
      does = refl;
    }

of_imm : (p : WordFields) → Fits p → p.opcode ≡ 19 → (o : Option ImmOp) → imm_fits p.funct3 o ≡ true → IsWordThat (word_of p) (Computes p.rd)
unfolding spelling InRange
of_imm p fits opcode None h = absurd cc
of_imm p fits opcode (Some op) h =
    let both = and_parts (not (is_shift op)) (imm_funct3 op == p.funct3) h in
    let no_shift = not_true (is_shift op) both.0 in
    let low = eqb-true (imm_funct3 op) p.funct3 both.1 in
    let imm = imm12_of (p.funct7 * 32 + p.rs2) (omega (arith, fits.rs2, fits.funct7)) in
    let sum : word_of p ≡ (p.funct7 * 32 + p.rs2) * 2 ^ 20 + p.rs1 * 2 ^ 15 + p.funct3 * 2 ^ 12 + p.rd * 2 ^ 7 + p.opcode = omega arith in
    record {
      instr = OpImm op p.rd p.rs1 imm.0;
      spelled = ((fits.rd, fits.rs1, rw no_shift imm.1), sum ∙ rw (no_shift, low, opcode, imm.2) refl);
      does = refl;
    }

upper : WordFields → ℕ
upper p = p.funct7 * 8192 + p.rs2 * 256 + p.rs1 * 8 + p.funct3

of_lui : (p : WordFields) → Fits p → p.opcode ≡ 55 → IsWordThat (word_of p) (Computes p.rd)
unfolding spelling InRange upper
of_lui p fits opcode = record {
  instr = Lui p.rd (upper p);
  spelled = ((fits.rd, omega (arith, fits.funct7, fits.rs2, fits.rs1, fits.funct3)), omega (arith, opcode));
  does = refl;
}

of_auipc : (p : WordFields) → Fits p → p.opcode ≡ 23 → IsWordThat (word_of p) (Computes p.rd)
unfolding spelling InRange upper
of_auipc p fits opcode = record {
  instr = Auipc p.rd (upper p);
  spelled = ((fits.rd, omega (arith, fits.funct7, fits.rs2, fits.rs1, fits.funct3)), omega (arith, opcode));
  does = refl;
}

of_op_imm : (p : WordFields) → Fits p → p.opcode ≡ 19 → (one five : Bool)
    → (if one then shift_fits p.funct7 p.funct3 (shift_at p.funct7 p.funct3)
    else if five then shift_fits p.funct7 p.funct3 (shift_at p.funct7 p.funct3)
    else imm_fits p.funct3 (imm_op_at p.funct3)) ≡ true
    → IsWordThat (word_of p) (Computes p.rd)
of_op_imm p fits opcode true five h = of_shift p fits opcode (shift_at p.funct7 p.funct3) h
of_op_imm p fits opcode false true h = of_shift p fits opcode (shift_at p.funct7 p.funct3) h
of_op_imm p fits opcode false false h = of_imm p fits opcode (imm_op_at p.funct3) h

of_row : (p : WordFields) → Fits p → p.opcode % 4 ≡ 3 → (lui auipc op imm : Bool)
    → (p.opcode / 4 == 13) ≡ lui → (p.opcode / 4 == 5) ≡ auipc → (p.opcode / 4 == 12) ≡ op → (p.opcode / 4 == 4) ≡ imm
    → (if lui then true else if auipc then true else if op then op_fits p.funct7 p.funct3 (op_at p.funct7 p.funct3)
    else if imm then imm_computes p.funct3 p.funct7 else false) ≡ true
    → IsWordThat (word_of p) (Computes p.rd)
of_row p fits low true auipc op imm a b c d h = of_lui p fits (let row = eqb-true (p.opcode / 4) 13 a in omega arith)
of_row p fits low false true op imm a b c d h = of_auipc p fits (let row = eqb-true (p.opcode / 4) 5 b in omega arith)
of_row p fits low false false true imm a b c d h = of_op p fits (let row = eqb-true (p.opcode / 4) 12 c in omega arith) (op_at p.funct7 p.funct3) h
of_row p fits low false false false true a b c d h = of_op_imm p fits (let row = eqb-true (p.opcode / 4) 4 d in omega arith) (p.funct3 == 1) (p.funct3 == 5) h
of_row p fits low false false false false a b c d h = absurd cc

of_parts : (p : WordFields) → Fits p → p.opcode % 4 ≡ 3 → computes (p.opcode / 4) p.funct3 p.funct7 ≡ true → IsWordThat (word_of p) (Computes p.rd)
unfolding computes
of_parts p fits low h = of_row p fits low _ _ _ _ refl refl refl refl h

-- ---- each instruction that computes

op_computes : (op : RegOp) → op_fits (op_funct7 op) (op_funct3 op) (op_at (op_funct7 op) (op_funct3 op)) ≡ true
op_computes Add = refl
op_computes _ = refl

-- the parts are those of an instruction that computes
abbrev DoParts : WordFields → Type 0
DoParts p = (p.opcode % 4 ≡ 3) × (computes (p.opcode / 4) p.funct3 p.funct7 ≡ true)

imm_parts : (op : ImmOp) (z : ℤ) (rs1 rd : ℕ) → DoParts (imm_cut op z rs1 rd)
unfolding computes imm_cut
imm_parts Addi z rs1 rd = (refl, refl)
imm_parts _ z rs1 rd = (refl, refl)

cut_parts : (i : Instr) (rd : ℕ) → outline i ≡ Computes rd → DoParts (cut i)
unfolding computes cut
cut_parts (Op op r rs1 rs2) rd e = (refl, op_computes op)
cut_parts (OpImm op r rs1 z) rd e = imm_parts op z rs1 r
cut_parts (Lui r imm) rd e = (refl, refl)
cut_parts (Auipc r imm) rd e = (refl, refl)
cut_parts _ rd e = absurd cc

-- ---- what the code tells

-- the two tables' answer
abbrev told : WordFields → Bool
told p = not (bit_and (slice_index COMPUTING (p.opcode / 4 * 8 + p.funct3)) (slice_index CLASSES p.funct7) == 0)

told_is : (p : WordFields) → Fits p → told p ≡ computes (p.opcode / 4) p.funct3 p.funct7
told_is p fits = table_at (p.opcode / 4) p.funct3 p.funct7 (omega (arith, fits.opcode)) fits.funct3 fits.funct7

low_two : (n : ℕ) → bit_and n 3 ≡ n % 4
low_two n = and_mask n 2

rd_of : (p : WordFields) → Fits p → bits (word_of p) 11 7 ≡ p.rd
rd_of p fits = omega (arith, fits.opcode, fits.rd, fits.funct3, fits.rs1, fits.rs2, fits.funct7)

pub found : (word : ℕ) (p : WordFields) → word ≡ word_of p → Fits p → bit_and p.opcode 3 ≡ 3 → (b : Bool) → b ≡ told p → OnTrue b (IsWordThat word (Computes (bits word 11 7)))
found word p e fits three false is = tt
found word p e fits three true is =
    let done = of_parts p fits (sym (low_two p.opcode) ∙ three) (sym (is ∙ told_is p fits)) in
    subst (λ (w : ℕ). IsWordThat w (Computes (bits w 11 7))) (sym e) (subst (λ (r : ℕ). IsWordThat (word_of p) (Computes r)) (sym (rd_of p fits)) done)

cuts : (word : ℕ) (p : WordFields) → word ≡ word_of p → Fits p → (rd : ℕ) → IsWordThat word (Computes rd) → DoParts p
cuts word p e fits rd that =
    let spelled : IsWordOf (word_of p) that.instr = subst (λ (w : ℕ). IsWordOf w that.instr) e that.spelled in
    subst (λ (q : WordFields). DoParts q) (sym (cut_is p fits that.instr spelled)) (cut_parts that.instr rd that.does)

pub only_low : (word : ℕ) (p : WordFields) → word ≡ word_of p → Fits p → (rd : ℕ) → IsWordThat word (Computes rd) → (bit_and p.opcode 3 == 3) ≡ true
only_low word p e fits rd that = eq-eqb (bit_and p.opcode 3) 3 (low_two p.opcode ∙ (cuts word p e fits rd that).0)

pub only : (word : ℕ) (p : WordFields) → word ≡ word_of p → Fits p → (rd : ℕ) → IsWordThat word (Computes rd) → told p ≡ true
only word p e fits rd that = told_is p fits ∙ (cuts word p e fits rd that).1
