-- Whether a number spells an instruction, decided: the one that its parts read as, or none.
use Rattle.rv_word.proofs.Prelude.{◌≡◌, ℕ, ◌/◌, ◌%◌, ◌^◌, ◌<◌, ◌⊎◌, inl, inr, ℤ, pos, negsuc, Bool, true, false, Option, Some, None, arith, refl, ap, subst, ◌∙◌, ◌≤ℤ◌, MatchBool, cases_lt, cases_eq, WordFields, ImmOp, Instr, Op, OpImm, Load, Store, Branch, Jal, Jalr, Lui, Auipc, Fence, Ecall, Ebreak, modulo, minus, IsBetween, IsEven, is_shift, spelling, InRange, IsWordOf, IsImm12, IsImmOf, IsBranchOffset, IsJumpOffset, WordIsDecided, word_of, Fits, SpellsNone}
use Rattle.std.proofs.lemmas.Int.{ints}
use Rattle.rv_word.proofs.Cut.{parts, cut_is}
use Rattle.rv_word.proofs.Spellings.{read, cut_read, are_wide}

-- `A` holds, or it doesn't
abbrev Decided : Type 0 → Type 0
Decided A = A ⊎ (A → ⊥)

-- ---- parts of a statement

two : {A B : Type 0} → Decided A → Decided B → Decided (A × B)
two (inl a) (inl b) = inl (a, b)
two (inl a) (inr never) = inr (λ p. never p.1)
two (inr never) b = inr (λ p. never p.0)

three : {A B C : Type 0} → Decided A → Decided B → Decided C → Decided (A × B × C)
three (inl a) (inl b) (inl c) = inl (a, b, c)
three (inl a) (inl b) (inr never) = inr (λ p. never p.2)
three (inl a) (inr never) c = inr (λ p. never p.1)
three (inr never) b c = inr (λ p. never p.0)

of_test : {A B : Type 0} (t : Bool) → Decided A → Decided B → Decided (MatchBool t A B)
of_test true a b = a
of_test false a b = b

-- ---- fields in range

below : (n m : ℕ) → Decided (n < m)
below n m = elim (cases_lt n m) [ inl less ↦ inl less | inr more ↦ inr (λ less. omega arith) ]

at_most : (a b : ℤ) → Decided (a ≤ℤ b)
at_most (pos a) (pos b) = elim (cases_lt b a) [ inl more ↦ inr (λ h. omega (arith, ints)) | inr less ↦ inl (omega (arith, ints)) ]
at_most (pos a) (negsuc b) = inr (λ h. omega (arith, ints))
at_most (negsuc a) (pos b) = inl (omega (arith, ints))
at_most (negsuc a) (negsuc b) = elim (cases_lt a b) [ inl more ↦ inr (λ h. omega (arith, ints)) | inr less ↦ inl (omega (arith, ints)) ]

between : (low high z : ℤ) → Decided (IsBetween low high z)
between low high z = two (at_most low z) (at_most z high)

even : (z : ℤ) → Decided (IsEven z)
even z = cases_eq (modulo 1 z) 0

reg : (n : ℕ) → Decided (n < 32)
reg n = below n 32

imm12 : (z : ℤ) → Decided (IsImm12 z)
imm12 z = between (minus 2048) (pos 2047) z

imm_of : (op : ImmOp) (z : ℤ) → Decided (IsImmOf op z)
imm_of op z = of_test (is_shift op) (between (pos 0) (pos 31) z) (imm12 z)

branch : (z : ℤ) → Decided (IsBranchOffset z)
branch z = two (between (minus 4096) (pos 4094) z) (even z)

jump : (z : ℤ) → Decided (IsJumpOffset z)
jump z = two (between (minus 1048576) (pos 1048574) z) (even z)

in_range : (i : Instr) → Decided (InRange i)
unfolding InRange
in_range (Op op rd rs1 rs2) = three (reg rd) (reg rs1) (reg rs2)
in_range (OpImm op rd rs1 imm) = three (reg rd) (reg rs1) (imm_of op imm)
in_range (Load kind rd rs1 imm) = three (reg rd) (reg rs1) (imm12 imm)
in_range (Store width rs1 rs2 imm) = three (reg rs1) (reg rs2) (imm12 imm)
in_range (Branch cond rs1 rs2 offset) = three (reg rs1) (reg rs2) (branch offset)
in_range (Jal rd offset) = two (reg rd) (jump offset)
in_range (Jalr rd rs1 imm) = three (reg rd) (reg rs1) (imm12 imm)
in_range (Lui rd imm) = two (reg rd) (below imm (2 ^ 20))
in_range (Auipc rd imm) = two (reg rd) (below imm (2 ^ 20))
in_range (Fence imm rd rs1) = three (below imm (2 ^ 12)) (reg rd) (reg rs1)
in_range Ecall = inl tt
in_range Ebreak = inl tt

is_word_of : (word : ℕ) (i : Instr) → Decided (IsWordOf word i)
is_word_of word i = two (in_range i) (cases_eq word (spelling i))

-- ---- the instruction that the parts read as

-- what a word spells, its parts read as
read_is : (p : WordFields) → Fits p → (i : Instr) → IsWordOf (word_of p) i → read p ≡ Some i
read_is p fits i w = ap read (cut_is p fits i w) ∙ cut_read i w.0

none_some : (o : Option Instr) (i : Instr) → o ≡ None → o ≡ Some i → ⊥
none_some o i a b = cc

one_some : (o : Option Instr) (i j : Instr) → o ≡ Some i → o ≡ Some j → j ≡ i
one_some o i j a b = cc

read_decides : (p : WordFields) → Fits p → (o : Option Instr) → read p ≡ o → ((i : Instr) × IsWordOf (word_of p) i) ⊎ SpellsNone (word_of p)
read_decides p fits None e = inr (λ j w. none_some (read p) j e (read_is p fits j w))
read_decides p fits (Some i) e = elim (is_word_of (word_of p) i) [
  | inl w ↦ inl (i, w)
  | inr never ↦ inr (λ j w. never (subst (IsWordOf (word_of p)) (one_some (read p) i j e (read_is p fits j w)) w))
]

-- ---- every number

-- the parts of a number below 2 ^ 32
parts_of : ℕ → WordFields
parts_of word = parts (word % 128) (word / 128 % 32) (word / 4096 % 8) (word / 32768 % 32) (word / 1048576 % 32) (word / 33554432)

parts_fit : (word : ℕ) → word < 2 ^ 32 → Fits (parts_of word)
unfolding parts_of
parts_fit word small =
    record { opcode = omega arith; rd = omega arith; funct3 = omega arith; rs1 = omega arith; rs2 = omega arith; funct7 = omega arith }

parts_sum : (word : ℕ) → word_of (parts_of word) ≡ word
unfolding parts_of
parts_sum word = omega arith

pub decided : WordIsDecided
decided word = elim (cases_lt word (2 ^ 32)) [
  | inl small ↦
      subst (λ (w : ℕ). ((i : Instr) × IsWordOf w i) ⊎ SpellsNone w) (parts_sum word)
      (read_decides (parts_of word) (parts_fit word small) (read (parts_of word)) refl)
  | inr large ↦ inr (λ i w. let wide = (are_wide word i w).0 in omega arith)
]
