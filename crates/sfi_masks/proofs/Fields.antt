-- The words that compute and those that access memory, by opcode, funct3 and funct7.
use Rattle.std.proofs.Common.{List, [], ◌∷◌, ◌≡◌, ℕ, ◌+◌, ◌-◌, ◌*◌, ◌%◌, ◌^◌, ◌<◌, Bool, true, false, cond, ◌&&◌, ◌==◌, ℤ, pos, negsuc, refl, sym, ◌∙◌, subst, inl, inr, arith, eqb-true, Some}
use Rattle.std.specs.Prelude.{not}
use Rattle.std.specs.List.{find}
use Rattle.std.specs.Option.{is_some}
use Rattle.std.proofs.lemmas.Bool.{and_parts, cases_lt}
use Rattle.std.proofs.lemmas.Int.{ints}
use Rattle.rv_word.specs.declared.access.Access.{Access}
use Rattle.rv_word.specs.declared.instr.RegOp.{RegOp}
use Rattle.rv_word.specs.declared.instr.RegOp.TheVariants.{Add, Sub, Sll, Slt, Sltu, Xor, Srl, Sra, Or, And, Mul, Mulh, Mulhsu, Mulhu, Div, Divu, Rem, Remu}
use Rattle.rv_word.specs.declared.instr.ImmOp.{ImmOp}
use Rattle.rv_word.specs.declared.instr.ImmOp.TheVariants.{Addi, Slti, Sltiu, Xori, Ori, Andi, Slli, Srli, Srai}
use Rattle.rv_word.specs.declared.instr.LoadKind.{LoadKind}
use Rattle.rv_word.specs.declared.instr.LoadKind.TheVariants.{Lb, Lh, Lw, Lbu, Lhu}
use Rattle.rv_word.specs.declared.instr.StoreWidth.{StoreWidth}
use Rattle.rv_word.specs.declared.instr.StoreWidth.TheVariants.{Sb, Sh, Sw}
use Rattle.rv_word.specs.declared.instr.Instr.TheVariants.{Op, OpImm, Load, Store, Lui, Auipc}
use Rattle.rv_word.specs.declared.outline.Outline.TheVariants.{Computes}
use Rattle.rv_word.specs.Outlines.{IsAccessOf, IsWordThat}
use Rattle.rv_word.specs.Spelling.{r_format, op_funct3, op_funct7, imm_funct3, is_shift, shift_funct7, load_funct3, store_funct3, modulo, bits, spelling, InRange, IsImm12}

abbrev ops : List RegOp
ops = Add ∷ Sub ∷ Sll ∷ Slt ∷ Sltu ∷ Xor ∷ Srl ∷ Sra ∷ Or ∷ And ∷ Mul ∷ Mulh ∷ Mulhsu ∷ Mulhu ∷ Div ∷ Divu ∷ Rem ∷ Remu ∷ []

abbrev op_fits : ℕ → ℕ → RegOp → Bool
op_fits funct3 funct7 op = (op_funct3 op == funct3) && (op_funct7 op == funct7)

abbrev imm_ops : List ImmOp
imm_ops = Addi ∷ Slti ∷ Sltiu ∷ Xori ∷ Ori ∷ Andi ∷ []

abbrev shifts : List ImmOp
shifts = Slli ∷ Srli ∷ Srai ∷ []

abbrev imm_fits : ℕ → ImmOp → Bool
imm_fits funct3 op = (imm_funct3 op == funct3) && not (is_shift op)

abbrev shift_fits : ℕ → ℕ → ImmOp → Bool
shift_fits funct3 funct7 op = (imm_funct3 op == funct3) && ((shift_funct7 op == funct7) && is_shift op)

abbrev imm_computes : ℕ → ℕ → Bool
imm_computes funct3 funct7 = elim (is_some (find (imm_fits funct3) imm_ops)) [ true ↦ true | false ↦ is_some (find (shift_fits funct3 funct7) shifts) ]

-- a word with these computes into the register that its bits 11:7 name
unfoldable pub computes : ℕ → ℕ → ℕ → Bool
computes opcode funct3 funct7 = elim (opcode == 55) [
  | true ↦ true
  | false ↦ elim (opcode == 23) [
    | true ↦ true
    | false ↦ elim (opcode == 51) [
      | true ↦ is_some (find (op_fits funct3 funct7) ops)
      | false ↦ elim (opcode == 19) [ true ↦ imm_computes funct3 funct7 | false ↦ false ]
    ]
  ]
]

abbrev load_fits : ℕ → LoadKind → Bool
load_fits funct3 kind = load_funct3 kind == funct3

abbrev store_fits : ℕ → StoreWidth → Bool
store_fits funct3 width = store_funct3 width == funct3

-- a word with these loads or stores
unfoldable pub accesses : ℕ → ℕ → Bool
accesses opcode funct3 = elim (opcode == 35) [
  | true ↦ is_some (find (store_fits funct3) (Sb ∷ Sh ∷ Sw ∷ []))
  | false ↦ elim (opcode == 3) [ true ↦ is_some (find (load_fits funct3) (Lb ∷ Lh ∷ Lw ∷ Lbu ∷ Lhu ∷ [])) | false ↦ false ]
]

-- ---- what is found fits

found : {X : Type 0} (p : X → Bool) (xs : List X) → is_some (find p xs) ≡ true → (x : X) × (p x ≡ true)
found p [] e = absurd cc
found {X = X} p (x ∷ xs) e = by (p x) refl e (λ rest. found p xs rest)
  where
    by : (b : Bool) → p x ≡ b → is_some (cond b (Some x) (find p xs)) ≡ true → (is_some (find p xs) ≡ true → (y : X) × (p y ≡ true)) → (y : X) × (p y ≡ true)
    by true is e later = (x, is)
    by false is e later = later e

not_true : (b : Bool) → not b ≡ true → b ≡ false
not_true true e = cc
not_true false e = refl

imm12_of : (n : ℕ) → n < 4096 → (z : ℤ) × IsImm12 z × (modulo 12 z ≡ n)
imm12_of n lt = elim (cases_lt n 2048) [
  | inl less ↦ (pos n, (omega (arith, ints), omega (arith, ints)), omega arith)
  | inr more ↦ (negsuc (4095 - n), (omega (arith, ints), omega (arith, ints)), omega arith)
]

-- ---- the instruction of a word with these fields

module _ (funct7 rs2 rs1 funct3 rd : ℕ) (funct7_fits : funct7 < 128) (rs2_fits : rs2 < 32) (rs1_fits : rs1 < 32) (funct3_fits : funct3 < 8) (rd_fits : rd < 32) where
  abbrev word : ℕ → ℕ
  word opcode = r_format funct7 rs2 rs1 funct3 rd opcode

  of_op : is_some (find (op_fits funct3 funct7) ops) ≡ true → IsWordThat (word 51) (Computes rd)
  unfolding spelling InRange
  of_op h =
      let f = found (op_fits funct3 funct7) ops h in
      let both = and_parts (op_funct3 f.0 == funct3) (op_funct7 f.0 == funct7) f.1 in
      let low = eqb-true (op_funct3 f.0) funct3 both.0 in
      let high = eqb-true (op_funct7 f.0) funct7 both.1 in
      record { instr = Op f.0 rd rs1 rs2; spelled = ((rd_fits, rs1_fits, rs2_fits), rw (high, low) refl); does = refl }

  of_shift : is_some (find (shift_fits funct3 funct7) shifts) ≡ true → IsWordThat (word 19) (Computes rd)
  unfolding spelling InRange
  of_shift h =
      let f = found (shift_fits funct3 funct7) shifts h in
      let first = and_parts (imm_funct3 f.0 == funct3) ((shift_funct7 f.0 == funct7) && is_shift f.0) f.1 in
      let both = and_parts (shift_funct7 f.0 == funct7) (is_shift f.0) first.1 in
      let low = eqb-true (imm_funct3 f.0) funct3 first.0 in
      let high = eqb-true (shift_funct7 f.0) funct7 both.0 in
      let amount : rs2 % 32 ≡ rs2 = omega arith in
      record {
        instr = OpImm f.0 rd rs1 (pos rs2);
        spelled = ((rd_fits, rs1_fits, rw both.1 (omega (arith, ints), omega (arith, ints))), rw (both.1, high, low, amount) refl);
        does = refl;
      }

  of_imm : is_some (find (imm_fits funct3) imm_ops) ≡ true → IsWordThat (word 19) (Computes rd)
  unfolding spelling InRange
  of_imm h =
      let f = found (imm_fits funct3) imm_ops h in
      let both = and_parts (imm_funct3 f.0 == funct3) (not (is_shift f.0)) f.1 in
      let no_shift = not_true (is_shift f.0) both.1 in
      let low = eqb-true (imm_funct3 f.0) funct3 both.0 in
      let imm = imm12_of (funct7 * 32 + rs2) (omega arith) in
      let sum : word 19 ≡ (funct7 * 32 + rs2) * 2 ^ 20 + rs1 * 2 ^ 15 + funct3 * 2 ^ 12 + rd * 2 ^ 7 + 19 = omega arith in
      record {
        instr = OpImm f.0 rd rs1 imm.0;
        spelled = ((rd_fits, rs1_fits, rw no_shift imm.1), sum ∙ rw (no_shift, low, imm.2) refl);
        does = refl;
      }

  upper : ℕ
  upper = funct7 * 8192 + rs2 * 256 + rs1 * 8 + funct3

  of_lui : IsWordThat (word 55) (Computes rd)
  unfolding spelling InRange upper
  of_lui = record { instr = Lui rd upper; spelled = ((rd_fits, omega arith), omega arith); does = refl }

  of_auipc : IsWordThat (word 23) (Computes rd)
  unfolding spelling InRange upper
  of_auipc = record { instr = Auipc rd upper; spelled = ((rd_fits, omega arith), omega arith); does = refl }

  of_op_imm : imm_computes funct3 funct7 ≡ true → IsWordThat (word 19) (Computes rd)
  of_op_imm h = by (is_some (find (imm_fits funct3) imm_ops)) refl h
    where
      by : (b : Bool) → is_some (find (imm_fits funct3) imm_ops) ≡ b → (elim b [ true ↦ true | false ↦ is_some (find (shift_fits funct3 funct7) shifts) ]) ≡ true → IsWordThat (word 19) (Computes rd)
      by true is h = of_imm is
      by false is h = of_shift h

  pub that_computes : (opcode : ℕ) → computes opcode funct3 funct7 ≡ true → IsWordThat (word opcode) (Computes rd)
  unfolding computes
  that_computes opcode h = by (opcode == 55) (opcode == 23) (opcode == 51) (opcode == 19) refl refl refl refl h
    where
      at : (n : ℕ) → (opcode == n) ≡ true → IsWordThat (word n) (Computes rd) → IsWordThat (word opcode) (Computes rd)
      at n e is = subst (λ k. IsWordThat (word k) (Computes rd)) (sym (eqb-true opcode n e)) is

      by : (a b c d : Bool) → (opcode == 55) ≡ a → (opcode == 23) ≡ b → (opcode == 51) ≡ c → (opcode == 19) ≡ d
          → (elim a [ true ↦ true | false ↦ elim b [ true ↦ true | false ↦ elim c [ true ↦ is_some (find (op_fits funct3 funct7) ops) | false ↦ elim d [ true ↦ imm_computes funct3 funct7 | false ↦ false ] ] ] ]) ≡ true
          → IsWordThat (word opcode) (Computes rd)
      by true b c d p q r s h = at 55 p of_lui
      by false true c d p q r s h = at 23 q of_auipc
      by false false true d p q r s h = at 51 r (of_op h)
      by false false false true p q r s h = at 19 s (of_op_imm h)
      by false false false false p q r s h = absurd cc

  abbrev told : ℕ → Access
  told written = record { written = written; base = rs1 }

  of_load : is_some (find (load_fits funct3) (Lb ∷ Lh ∷ Lw ∷ Lbu ∷ Lhu ∷ [])) ≡ true → IsAccessOf (word 3) (told rd)
  unfolding spelling InRange
  of_load h =
      let f = found (load_fits funct3) (Lb ∷ Lh ∷ Lw ∷ Lbu ∷ Lhu ∷ []) h in
      let low = eqb-true (load_funct3 f.0) funct3 f.1 in
      let imm = imm12_of (funct7 * 32 + rs2) (omega arith) in
      let sum : word 3 ≡ (funct7 * 32 + rs2) * 2 ^ 20 + rs1 * 2 ^ 15 + funct3 * 2 ^ 12 + rd * 2 ^ 7 + 3 = omega arith in
      record { instr = Load f.0 rd rs1 imm.0; spelled = ((rd_fits, rs1_fits, imm.1), sum ∙ rw (low, imm.2) refl); accesses = refl }

  of_store : is_some (find (store_fits funct3) (Sb ∷ Sh ∷ Sw ∷ [])) ≡ true → IsAccessOf (word 35) (told 0)
  unfolding spelling InRange
  of_store h =
      let f = found (store_fits funct3) (Sb ∷ Sh ∷ Sw ∷ []) h in
      let width = eqb-true (store_funct3 f.0) funct3 f.1 in
      let imm = imm12_of (funct7 * 32 + rd) (omega arith) in
      let high : bits (funct7 * 32 + rd) 11 5 ≡ funct7 = omega arith in
      let low : bits (funct7 * 32 + rd) 4 0 ≡ rd = omega arith in
      record { instr = Store f.0 rs1 rs2 imm.0; spelled = ((rs1_fits, rs2_fits, imm.1), rw (width, imm.2, high, low) refl); accesses = refl }

  pub that_accesses : (opcode : ℕ) → accesses opcode funct3 ≡ true → IsAccessOf (word opcode) (told (cond (opcode == 35) 0 rd))
  unfolding accesses
  that_accesses opcode h = by (opcode == 35) (opcode == 3) refl refl h
    where
      at : (n written : ℕ) → (opcode == n) ≡ true → IsAccessOf (word n) (told written) → IsAccessOf (word opcode) (told written)
      at n written e is = subst (λ k. IsAccessOf (word k) (told written)) (sym (eqb-true opcode n e)) is

      by : (a b : Bool) → (opcode == 35) ≡ a → (opcode == 3) ≡ b
          → (elim a [ true ↦ is_some (find (store_fits funct3) (Sb ∷ Sh ∷ Sw ∷ [])) | false ↦ elim b [ true ↦ is_some (find (load_fits funct3) (Lb ∷ Lh ∷ Lw ∷ Lbu ∷ Lhu ∷ [])) | false ↦ false ] ]) ≡ true
          → IsAccessOf (word opcode) (told (cond a 0 rd))
      by true b p q h = at 35 0 p (of_store h)
      by false true p q h = at 3 rd q (of_load h)
      by false false p q h = absurd cc

-- ---- what computes with a funct7 that is none of 0, 1 and 32 does so with each

op_funct7_not_2 : (op : RegOp) → op_funct7 op ≡ 2 → ⊥
op_funct7_not_2 Add e = omega arith
op_funct7_not_2 _ e = omega arith

shift_funct7_not_2 : (op : ImmOp) → shift_funct7 op ≡ 2 → ⊥
shift_funct7_not_2 Srai e = omega arith
shift_funct7_not_2 _ e = omega arith

no_op : (funct3 : ℕ) → is_some (find (op_fits funct3 2) ops) ≡ true → ⊥
no_op funct3 h =
    let f = found (op_fits funct3 2) ops h in
    op_funct7_not_2 f.0 (eqb-true (op_funct7 f.0) 2 (and_parts (op_funct3 f.0 == funct3) (op_funct7 f.0 == 2) f.1).1)

no_shift : (funct3 : ℕ) → is_some (find (shift_fits funct3 2) shifts) ≡ true → ⊥
no_shift funct3 h =
    let f = found (shift_fits funct3 2) shifts h in
    let rest = (and_parts (imm_funct3 f.0 == funct3) ((shift_funct7 f.0 == 2) && is_shift f.0) f.1).1 in
    shift_funct7_not_2 f.0 (eqb-true (shift_funct7 f.0) 2 (and_parts (shift_funct7 f.0 == 2) (is_shift f.0) rest).0)

pub with_each_funct7 : (opcode funct3 funct7 : ℕ) → computes opcode funct3 2 ≡ true → computes opcode funct3 funct7 ≡ true
unfolding computes
with_each_funct7 opcode funct3 funct7 h = by (opcode == 55) (opcode == 23) (opcode == 51) (opcode == 19) h
  where
    imm : (b : Bool) → (elim b [ true ↦ true | false ↦ is_some (find (shift_fits funct3 2) shifts) ]) ≡ true
        → (elim b [ true ↦ true | false ↦ is_some (find (shift_fits funct3 funct7) shifts) ]) ≡ true
    imm true h = refl
    imm false h = absurd (no_shift funct3 h)

    by : (a b c d : Bool)
        → (elim a [ true ↦ true | false ↦ elim b [ true ↦ true | false ↦ elim c [ true ↦ is_some (find (op_fits funct3 2) ops) | false ↦ elim d [ true ↦ imm_computes funct3 2 | false ↦ false ] ] ] ]) ≡ true
        → (elim a [ true ↦ true | false ↦ elim b [ true ↦ true | false ↦ elim c [ true ↦ is_some (find (op_fits funct3 funct7) ops) | false ↦ elim d [ true ↦ imm_computes funct3 funct7 | false ↦ false ] ] ] ]) ≡ true
    by true b c d h = refl
    by false true c d h = refl
    by false false true d h = absurd (no_op funct3 h)
    by false false false true h = imm (is_some (find (imm_fits funct3) imm_ops)) h
    by false false false false h = absurd cc
