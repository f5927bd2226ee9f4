-- What an instruction does, by its outline: what was decoded, and what loads and stores.
use Rattle.rv_word.specs.Outlines.{outline, IsWordThat, access, IsAccessOf}
use Rattle.rv_word.specs.declared.outline.Outline.{Outline}
use Rattle.std.specs.Option.{option_map}
use Rattle.rv_word.specs.declared.access.Access.{Access}
use Rattle.rv_word.specs.declared.instr.LoadKind.TheVariants.{Lb, Lh, Lw, Lbu, Lhu}
use Rattle.rv_word.specs.declared.instr.StoreWidth.TheVariants.{Sb, Sh, Sw}
use Rattle.rv_word.proofs.Cut.{cut, cut_is}
use Rattle.rv_word.proofs.Spellings.{one_spelling}
use Rattle.rv_word.proofs.Tables.{imm12_of}
use Rattle.rv_word.proofs.Prelude.{◌≡◌, ℕ, Option, Some, None, IfSome, IfNone, subst, refl, sym, ap, ◌∙◌, Instr, SpellsNone, IsWordOf, ◌+◌, ◌*◌, ◌^◌, ◌<◌, Bool, true, false, ◌&&◌, ◌==◌, inl, inr, arith, eqb-true, ◌||◌, not, nat_lt, if◌then◌else◌, and_parts, cases_eq, ltb-true, WordFields, LoadKind, StoreWidth, Load, Store, bits, load_funct3, store_funct3, spelling, InRange, word_of, Fits, is_access}

-- ==== What was decoded, as its outline.

mapped_found : (word : ℕ) (o : Option Instr) → IfSome o (IsWordOf word) → IfSome (option_map outline o) (IsWordThat word)
mapped_found word (Some i) is = record { instr = i; spelled = is; does = refl }
mapped_found word None is = tt

mapped_none : (word : ℕ) (o : Option Instr) → IfNone o (SpellsNone word) → IfNone (option_map outline o) (SpellsNone word)
mapped_none word (Some i) is = tt
mapped_none word None is = is

pub outline_found : (word : ℕ) (o : Option Instr) (p : Option Outline) → p ≡ option_map outline o → IfSome o (IsWordOf word) → IfSome p (IsWordThat word)
outline_found word o p e is = subst (λ (q : Option Outline). IfSome q (IsWordThat word)) (sym e) (mapped_found word o is)

pub outline_none : (word : ℕ) (o : Option Instr) (p : Option Outline) → p ≡ option_map outline o → IfNone o (SpellsNone word) → IfNone p (SpellsNone word)
outline_none word o p e is = subst (λ (q : Option Outline). IfNone q (SpellsNone word)) (sym e) (mapped_none word o is)

-- the word of i has the outline of i
only_mapped : (word : ℕ) (p : Option Outline) (i : Instr) → ((j : Instr) → IsWordOf word j → j ≡ i) → IfSome p (IsWordThat word) → IfNone p (SpellsNone word) → IsWordOf word i → p ≡ Some (outline i)
only_mapped word (Some o) i one outline_found outline_none is = ap Some (sym outline_found.does ∙ ap outline (one outline_found.instr outline_found.spelled))
only_mapped word None i one outline_found outline_none is = absurd (outline_none i is)

pub only : (word : ℕ) (p : Option Outline) (i : Instr) → ((j : Instr) → IsWordOf word j → j ≡ i) → IfSome p (IsWordThat word) → IfNone p (SpellsNone word) → IsWordOf word i → p ≡ Some (outline i)
only word p i one f n is = only_mapped word p i one f n is

-- ==== What was told to load or store does, and nothing else.

-- ---- the load or store of a funct3

load_of : (n : ℕ) → n < 6 → (n ≡ 3 → ⊥) → (k : LoadKind) × (load_funct3 k ≡ n)
load_of n small other = elim (cases_eq n 0) [
  | inl e ↦ (Lb, sym e)
  | inr a ↦ elim (cases_eq n 1) [
    | inl e ↦ (Lh, sym e)
    | inr b ↦ elim (cases_eq n 2) [
      | inl e ↦ (Lw, sym e)
      | inr c ↦ elim (cases_eq n 4) [
        | inl e ↦ (Lbu, sym e)
        | inr d ↦ (Lhu, omega arith)
      ]
    ]
  ]
]

store_of : (n : ℕ) → n < 3 → (w : StoreWidth) × (store_funct3 w ≡ n)
store_of n small = elim (cases_eq n 0) [
  | inl e ↦ (Sb, sym e)
  | inr a ↦ elim (cases_eq n 1) [ inl e ↦ (Sh, sym e) | inr b ↦ (Sw, omega arith) ]
]

-- ---- of the parts

of_load : (p : WordFields) → Fits p → p.opcode ≡ 3 → p.funct3 < 6 → (p.funct3 ≡ 3 → ⊥) → IsAccessOf (word_of p) (record { written = p.rd; base = p.rs1 })
unfolding spelling InRange
of_load p fits opcode small other =
    let kind = load_of p.funct3 small other in
    let imm = imm12_of (p.funct7 * 32 + p.rs2) (omega (arith, fits.rs2, fits.funct7)) in
    let sum : word_of p ≡ (p.funct7 * 32 + p.rs2) * 2 ^ 20 + p.rs1 * 2 ^ 15 + p.funct3 * 2 ^ 12 + p.rd * 2 ^ 7 + p.opcode = omega arith in
    record {
      instr = Load kind.0 p.rd p.rs1 imm.0;
      spelled = ((fits.rd, fits.rs1, imm.1), sum ∙ rw (kind.1, opcode, imm.2) refl);
      accesses = refl;
    }

of_store : (p : WordFields) → Fits p → p.opcode ≡ 35 → p.funct3 < 3 → IsAccessOf (word_of p) (record { written = 0; base = p.rs1 })
unfolding spelling InRange
of_store p fits opcode small =
    let width = store_of p.funct3 small in
    let imm = imm12_of (p.funct7 * 32 + p.rd) (omega (arith, fits.rd, fits.funct7)) in
    let high : bits (p.funct7 * 32 + p.rd) 11 5 ≡ p.funct7 = omega (arith, fits.rd, fits.funct7) in
    let low : bits (p.funct7 * 32 + p.rd) 4 0 ≡ p.rd = omega (arith, fits.rd) in
    record {
      instr = Store width.0 p.rs1 p.rs2 imm.0;
      spelled = ((fits.rs1, fits.rs2, imm.1), rw (width.1, opcode, imm.2, high, low) refl);
      accesses = refl;
    }

not_three : (n : ℕ) → not (n == 3) ≡ true → n ≡ 3 → ⊥
not_three n h e = grind arith

first_of : (a b : Bool) → b ≡ false → (a || b) ≡ true → a ≡ true
first_of true b e h = refl
first_of false b e h = absurd cc

of_parts : (p : WordFields) → Fits p → (stores : Bool) → (p.opcode == 35) ≡ stores
    → (((p.opcode == 3) || (p.opcode == 35)) && (nat_lt p.funct3 (if stores then 3 else 6) && not (p.funct3 == 3))) ≡ true
    → IsAccessOf (word_of p) (record { written = if stores then 0 else p.rd; base = p.rs1 })
of_parts p fits true is h =
    let both = and_parts ((p.opcode == 3) || (p.opcode == 35)) (nat_lt p.funct3 3 && not (p.funct3 == 3)) h in
    let fit = and_parts (nat_lt p.funct3 3) (not (p.funct3 == 3)) both.1 in
    of_store p fits (eqb-true p.opcode 35 is) (ltb-true p.funct3 3 fit.0)
of_parts p fits false is h =
    let both = and_parts ((p.opcode == 3) || (p.opcode == 35)) (nat_lt p.funct3 6 && not (p.funct3 == 3)) h in
    let fit = and_parts (nat_lt p.funct3 6) (not (p.funct3 == 3)) both.1 in
    of_load p fits (eqb-true p.opcode 3 (first_of (p.opcode == 3) (p.opcode == 35) is both.0)) (ltb-true p.funct3 6 fit.0) (not_three p.funct3 fit.1)

-- ---- the answer

pub access_found : (p : WordFields) → Fits p → is_access p.opcode p.funct3 ≡ true → (written base : ℕ) → written ≡ (if p.opcode == 0b0100011 then 0 else p.rd) → base ≡ p.rs1
    → IsAccessOf (word_of p) (record { written = written; base = base })
access_found p fits is written base w b = rw (w, b) (of_parts p fits _ refl is)

of_instr : (word : ℕ) (a : Access) (i : Instr) → IsAccessOf word a → IsWordOf word i → Some a ≡ access i
of_instr word a i that is = sym that.accesses ∙ ap access (one_spelling word that.instr i that.spelled is)

pub one : (p : WordFields) → Fits p → is_access p.opcode p.funct3 ≡ true → (written base : ℕ) → written ≡ (if p.opcode == 0b0100011 then 0 else p.rd) → base ≡ p.rs1
    → (i : Instr) → IsWordOf (word_of p) i → Some (record { written = written; base = base }) ≡ access i
one p fits is written base w b i spelled = of_instr (word_of p) _ i (access_found p fits is written base w b) spelled

load_is : (k : LoadKind) → is_access 3 (load_funct3 k) ≡ true
load_is Lb = refl
load_is _ = refl

store_is : (w : StoreWidth) → is_access 35 (store_funct3 w) ≡ true
store_is Sb = refl
store_is _ = refl

no_access : (i : Instr) → is_access (cut i).opcode (cut i).funct3 ≡ false → None ≡ access i
unfolding cut
no_access (Load kind rd rs1 imm) h = absurd (let is = load_is kind in cc)
no_access (Store width rs1 rs2 imm) h = absurd (let is = store_is width in cc)
no_access _ h = refl

pub access_none : (p : WordFields) → Fits p → is_access p.opcode p.funct3 ≡ false → (i : Instr) → IsWordOf (word_of p) i → None ≡ access i
access_none p fits other i is = no_access i (subst (λ (q : WordFields). is_access q.opcode q.funct3 ≡ false) (cut_is p fits i is) other)
