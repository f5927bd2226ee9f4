-- The words of a data pair, and of a step, of code in words, by their bits.
use Rattle.sfi_scan.proofs.Prelude.{◌≡◌, ◌≢◌, ℕ, ◌+◌, ◌*◌, ◌/◌, ◌%◌, ◌^◌, ◌<◌, Bool, true, false, not, inr, sym, ap, ap₂, ◌∙◌, arith, bit_and, nat_eq, nat_le, OnTrue, eqb-true, and_mask, and_block, Op, OpImm, Load, Store, And, Or, spelling, InRange, IsWordOf, Instr, refl, ◌-◌, ◌&&◌, ◌==◌, ℤ, pos, negsuc, inl, Some, eq-eqb, cases_lt, and_from, access, IsAccessOf, Access, is_data_register, uses}
use Rattle.std.proofs.lemmas.Bool.{false≢true, leb-true, le-leb, lt-ltb, not-false}
use Rattle.std.proofs.lemmas.Int.{ints}
use Rattle.rv_word.specs.Spelling.{i_format, s_format, load_funct3, store_funct3, modulo, IsImm12}
use Rattle.rv_word.specs.declared.instr.LoadKind.{LoadKind}
use Rattle.rv_word.specs.declared.instr.LoadKind.TheVariants.{Lb, Lh, Lw, Lbu, Lhu}
use Rattle.rv_word.specs.declared.instr.StoreWidth.{StoreWidth}
use Rattle.rv_word.specs.declared.instr.StoreWidth.TheVariants.{Sb, Sh, Sw}
use Rattle.rv_word.specs.declared.instr.ImmOp.TheVariants.{Addi}
use Rattle.sfi_scan.specs.private.Words.{IsMasking, IsPlacing, IsPair, IsStepOf, IsOffset, is_dropped, IsUseOf, IsUsedStep}
use Rattle.sfi_formats.specs.Formats.{has_single_mask, is_data_register_in}
use Rattle.sfi_formats.specs.declared.format.Format.{Format}
use Rattle.sfi_pairs.specs.Pairs.{is_small}
use Rattle.sfi_scan.proofs.TableEntries.{any_of, kept, without_any, masking_word}

pub masking_told : (word : ℕ) → word < 2 ^ 32 → (r : Bool) → r ≡ nat_eq (bit_and word kept) 28344243 → OnTrue r (IsMasking word)
unfolding spelling
masking_told word fits false e = tt
masking_told word fits true e = (any_of word, masking_word word 31 fits (omega arith) (eqb-true _ _ (sym e)))

-- ---- a word without its bits 11:7

without_rd : (n : ℕ) → n < 2 ^ 32 → bit_and n 4294963327 ≡ n / 2 ^ 12 * 2 ^ 12 + n % 2 ^ 7
without_rd n h =
    let high = n / 2 ^ 12 in
    let low = n % 2 ^ 12 in
    let split : n ≡ high * 2 ^ 12 + low = omega arith in
    let first : bit_and high 1048575 ≡ high = and_mask high 20 ∙ omega (arith, h) in
    let second : bit_and low 127 ≡ n % 2 ^ 7 = and_mask low 7 ∙ omega arith in
    ap (λ m. bit_and m 4294963327) split ∙ and_block 12 high 1048575 low 127 (omega arith) (omega arith) ∙ ap₂ (λ a b. a * 2 ^ 12 + b) first second

placing_word : (word d : ℕ) → word < 2 ^ 32 → bit_and word 4294963327 ≡ 28303411 → d ≡ word / 2 ^ 7 % 32 → IsWordOf word (Op Or d 31 26)
unfolding spelling InRange
placing_word word d fits e is =
    let parts = sym (without_rd word fits) ∙ e in
    ((omega (arith, is), omega arith, omega arith), omega (arith, is, parts))

pub placing_told : (word d : ℕ) → word < 2 ^ 32 → bit_and word 4294963327 ≡ 28303411 → d ≡ bit_and (word / 128) 31 → (r : Bool) → r ≡ is_data_register d → OnTrue r (IsPlacing word)
placing_told word d fits e is false data_is = tt
placing_told word d fits e is true data_is = (d, sym data_is, placing_word word d fits e (is ∙ and_mask (word / 128) 5))

-- ---- pairs

code_masking_word : (word : ℕ) → word < 2 ^ 32 → bit_and word kept ≡ 26246963 → IsWordOf word (Op And 30 (any_of word) 25)
unfolding spelling InRange
code_masking_word word h e = let is = sym (without_any word h) ∙ e in ((omega arith, omega arith, omega arith), omega (arith, is))

code_placing_word : (word : ℕ) → word ≡ 26177331 → IsWordOf word (Op Or 30 30 24)
unfolding spelling InRange
code_placing_word word e = ((omega arith, omega arith, omega arith), omega (arith, e))

pub data_pair : (f : Format) (first second : ℕ) (r : Bool) → has_single_mask f ≡ false → IsMasking first → OnTrue r (IsPlacing second) → OnTrue r (IsPair f first second)
data_pair f first second false two m h = tt
data_pair f first second true two m h = inl (two, m, h)

pub code_pair : (f : Format) (first second : ℕ) → first < 2 ^ 32 → bit_and first kept ≡ 26246963 → (r : Bool) → r ≡ nat_eq second 26177331 → OnTrue r (IsPair f first second)
code_pair f first second fits e false is = tt
code_pair f first second fits e true is = inr ((any_of first, code_masking_word first fits e), code_placing_word second (eqb-true _ _ (sym is)))

pub used_step : (f : Format) (word next d : ℕ) → is_data_register_in f d ≡ true → IsStepOf d word → (r : Bool) → OnTrue r (IsUseOf d next) → OnTrue r (IsUsedStep f word next)
used_step f word next d h s false u = tt
used_step f word next d h s true u = record { register = d; is_data = h; step = s; used = u }

imm12_of : (n : ℕ) → n < 4096 → (z : ℤ) × IsImm12 z × (modulo 12 z ≡ n)
imm12_of n lt = elim (cases_lt n 2048) [
  | inl less ↦ (pos n, (omega (arith, ints), omega (arith, ints)), omega arith)
  | inr more ↦ (negsuc (4095 - n), (omega (arith, ints), omega (arith, ints)), omega arith)
]

step_word : (word d : ℕ) → word < 2 ^ 32 → d < 32 → word % 2 ^ 20 ≡ d * 32896 + 19 → IsStepOf d word
unfolding spelling InRange
step_word word d fits lt is =
    let imm = imm12_of (word / 2 ^ 20) (omega (arith, fits)) in
    let sum : word ≡ word / 2 ^ 20 * 2 ^ 20 + d * 2 ^ 15 + 0 * 2 ^ 12 + d * 2 ^ 7 + 19 = omega (arith, is) in
    (OpImm Addi d d imm.0, ((lt, lt, imm.1), sum ∙ ap (λ n. n * 2 ^ 20 + d * 2 ^ 15 + 0 * 2 ^ 12 + d * 2 ^ 7 + 19) (sym imm.2)), ap₂ (λ p q. p && q) (eq-eqb d d refl) (eq-eqb d d refl))

pub step_told : (word d : ℕ) → word < 2 ^ 32 → d < 32 → (r : Bool) → r ≡ nat_eq (bit_and word 1048575) (d * 32896 + 19) → OnTrue r (IsStepOf d word)
step_told word d fits lt false e = tt
step_told word d fits lt true e = step_word word d fits lt (sym (and_mask word 20) ∙ eqb-true _ _ (sym e))

-- ---- the offset of a load or store, by its bits

modulo_small : (z : ℤ) → modulo 12 z < 4096
modulo_small (pos n) = omega arith
modulo_small (negsuc n) = omega arith

load_small : (kind : LoadKind) → load_funct3 kind < 8
load_small Lb = omega arith
load_small Lh = omega arith
load_small Lw = omega arith
load_small Lbu = omega arith
load_small Lhu = omega arith

store_small : (width : StoreWidth) → store_funct3 width < 8
store_small Sb = omega arith
store_small Sh = omega arith
store_small Sw = omega arith

load_fields : (imm rs1 funct3 rd word : ℕ) → rs1 < 32 → funct3 < 8 → rd < 32 → word ≡ i_format imm rs1 funct3 rd 3 → (word / 1048576 ≡ imm) × (word / 32 % 2 ≡ 0)
load_fields imm rs1 funct3 rd word a b c e = (omega (arith, a, b, c, e), omega (arith, e))

store_fields : (imm rs2 rs1 funct3 word : ℕ) → imm < 4096 → rs2 < 32 → rs1 < 32 → funct3 < 8 → word ≡ s_format imm rs2 rs1 funct3 35 → (word / 33554432 * 32 + word / 128 % 32 ≡ imm) × (word / 32 % 2 ≡ 1)
store_fields imm rs2 rs1 funct3 word m a b c e = (omega (arith, m, a, b, c, e), omega (arith, e))

pub load_offset : (word : ℕ) → bit_and (word / 32) 1 ≡ 0 → (i : Instr) → IsWordOf word i → IsOffset i (word / 1048576)
unfolding spelling InRange
load_offset word bit (Load kind rd rs1 imm) is = sym (load_fields (modulo 12 imm) rs1 (load_funct3 kind) rd word is.0.1 (load_small kind) is.0.0 is.1).0
load_offset word bit (Store width rs1 rs2 imm) is =
    absurd (let one = (store_fields (modulo 12 imm) rs2 rs1 (store_funct3 width) word (modulo_small imm) is.0.1 is.0.0 (store_small width) is.1).1 in let low = sym (and_mask (word / 32) 1) ∙ bit in omega (arith, one, low))
load_offset word bit i is = tt

pub store_offset : (word : ℕ) → bit_and (word / 32) 1 ≢ 0 → (i : Instr) → IsWordOf word i → IsOffset i (word / 33554432 * 32 + bit_and (word / 128) 31)
unfolding spelling InRange
store_offset word bit (Load kind rd rs1 imm) is =
    absurd (bit (and_mask (word / 32) 1 ∙ (load_fields (modulo 12 imm) rs1 (load_funct3 kind) rd word is.0.1 (load_small kind) is.0.0 is.1).1))
store_offset word bit (Store width rs1 rs2 imm) is =
    sym (store_fields (modulo 12 imm) rs2 rs1 (store_funct3 width) word (modulo_small imm) is.0.1 is.0.0 (store_small width) is.1).0 ∙ ap (λ n. word / 33554432 * 32 + n) (sym (and_mask (word / 128) 5))
store_offset word bit i is = tt

-- ---- what a load writes

load_kept : (imm rs1 funct3 rd word : ℕ) → word ≡ i_format imm rs1 funct3 rd 3 → rd ≡ 0 → bit_and word 4000 ≡ 0
load_kept imm rs1 funct3 rd word e none =
    let high = word / 2 ^ 12 in
    let split : word ≡ high * 2 ^ 12 + 3 = omega (arith, e, none) in
    let first : bit_and high 0 ≡ 0 = and_mask high 0 ∙ omega arith in
    ap (λ m. bit_and m 4000) split ∙ and_block 12 high 0 3 4000 (omega arith) (omega arith) ∙ ap (λ a. a * 2 ^ 12 + 0) first

pub dropped_told : (word : ℕ) (i : Instr) → IsWordOf word i → nat_eq (bit_and word 4000) 0 ≡ false → is_dropped i ≡ false
unfolding spelling InRange
dropped_told word (Load kind rd rs1 imm) is some = by (rd == 0) refl
  where
    by : (z : Bool) → (rd == 0) ≡ z → z ≡ false
    by false e = refl
    by true e = absurd (false≢true (sym some ∙ eq-eqb _ _ (load_kept (modulo 12 imm) rs1 (load_funct3 kind) rd word is.1 (eqb-true rd 0 e))))
dropped_told word i is some = refl

-- ---- the use of a step

near_small : (n : ℕ) (imm : ℤ) → IsImm12 imm → modulo 12 imm ≡ n → nat_le (bit_and (n + 1020) 4095) 2040 ≡ true → is_small imm ≡ true
near_small n (pos k) range e h =
    let le = leb-true _ _ h in let same = and_mask (n + 1020) 12 in let high = range.1 in
    le-leb k 1020 (omega (arith, ints, e, le, same, high))
near_small n (negsuc k) range e h =
    let le = leb-true _ _ h in let same = and_mask (n + 1020) 12 in let low = range.0 in
    lt-ltb k 1020 (omega (arith, ints, e, le, same, low))

uses_at : (d n : ℕ) (i : Instr) (a : Access) → InRange i → access i ≡ Some a → a.base ≡ d → is_dropped i ≡ false → IsOffset i n → nat_le (bit_and (n + 1020) 4095) 2040 ≡ true → uses d i ≡ true
unfolding InRange
uses_at d n (Load kind rd rs1 imm) a range e base kept offset h =
    let b : a.base ≡ rs1 = cc in
    and_from ((rs1 == d) && is_small imm) (not (rd == 0)) (and_from (rs1 == d) (is_small imm) (eq-eqb rs1 d (sym b ∙ base)) (near_small n imm range.2 offset h)) (ap not kept)
uses_at d n (Store width rs1 rs2 imm) a range e base kept offset h =
    let b : a.base ≡ rs1 = cc in
    and_from (rs1 == d) (is_small imm) (eq-eqb rs1 d (sym b ∙ base)) (near_small n imm range.2 offset h)
uses_at d n i a range e base kept offset h = absurd cc

pub same_base : (a b : ℕ) → false ≡ not (a == b) → a ≡ b
same_base a b e = eqb-true a b (not-false (a == b) (sym e))

pub use_told : (d word n : ℕ) (a : Access) → IsAccessOf word a → a.base ≡ d → ((i : Instr) → IsWordOf word i → is_dropped i ≡ false) → ((i : Instr) → IsWordOf word i → IsOffset i n) → (r : Bool) → r ≡ nat_le (bit_and (n + 1020) 4095) 2040 → OnTrue r (IsUseOf d word)
use_told d word n a is base kept offset false e = tt
use_told d word n a is base kept offset true e = (is.instr, is.spelled, uses_at d n is.instr a is.spelled.0 is.accesses base (kept is.instr is.spelled) (offset is.instr is.spelled) (sym e))
