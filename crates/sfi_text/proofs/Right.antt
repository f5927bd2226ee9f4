-- What a line states is in range.
use Rattle.sfi_text.proofs.Prelude.{rules, ◌≡◌, ℕ, ◌^◌, ◌<◌, ◌≤◌, Bool, true, false, cond, List, [], ◌∷◌, length, inl, inr, refl, sym, ap, ◌∙◌, subst, arith, ℤ, pos, negsuc, unsigned_abs, ◌==◌, All, flat_map, ints, Instr, IsImm12, Mnemonic, OperandPart, Nop, Li, DataWidth, Keyword, IsDataSize, IsStraight, name_of, operand_parts, IsNumberOf, OperandValues, HasForm, AllSuit, mnemonic_of, operands_of, Spells, fits_addi, add_lower, constant, data_bytes, directive_form, directive_states, pseudo_form, pseudo_states, branch_form, branch_states, jal_form, jal_states, position_of_keyword, IsRow, After, Stated, within, plain, IsRightStatement, position_of_stated}
use Rattle.sfi_source.specs.Source.{upper, lower}
use Rattle.sfi_text.specs.declared.keyword.DataWidth.TheVariants.{Word, Half, Byte}
use Rattle.sfi_text.specs.declared.keyword.Directive.{Directive}
use Rattle.sfi_text.specs.declared.keyword.Pseudo.{Pseudo}
use Rattle.sfi_text.specs.declared.statement.Position.{Position}
use Rattle.rv_word.specs.declared.instr.Cond.{Cond}
use Rattle.rv_word.specs.declared.instr.ImmOp.TheVariants.{Addi}
use Rattle.std.proofs.lemmas.List.Elements.{All-nil, All-cons, All-append, All-replicate, All-from_recursion}
use Rattle.sfi_formats.specs.Limits.{service_most}
use Rattle.rv_word.specs.declared.instr.Instr.TheVariants as instr
use Rattle.rv_word.specs.Spelling.{InRange}
use Rattle.sfi_text.specs.declared.mnemonic.Mnemonic.TheVariants as mnemonic
use Rattle.sfi_text.specs.declared.keyword.Directive.TheVariants as directive
use Rattle.sfi_text.specs.declared.keyword.Keyword.TheVariants as keyword
use Rattle.sfi_text.specs.declared.form.NumberKind.TheVariants as kind
use Rattle.sfi_text.proofs.NameTables.{name_unique}
use Rattle.sfi_text.proofs.Forms.{stands_suits, fits_in_range, full_fence_in_range}
use Rattle.sfi_text.proofs.Numbers.{upper_below, lower_imm}

-- operands that tokens give fit their form
form_fits : (o : OperandValues) (form : List OperandPart) (tokens : List (List ℕ)) → HasForm o form tokens → AllSuit o form
form_fits o [] tokens h = tt
form_fits o (part ∷ form) [] h = absurd h
form_fits o (part ∷ form) (t ∷ tokens) h = (stands_suits o part t h.0, form_fits o form tokens h.1)

-- one instruction, and two
abbrev AreRight : List Instr → Type 0
AreRight instrs = (1 ≤ length instrs) × All (λ i. InRange i × IsStraight i) instrs

one_right : (i : Instr) → InRange i → IsStraight i → AreRight (i ∷ [])
one_right i h s = (omega arith, All-cons (λ x. InRange x × IsStraight x) i [] (h, s) (All-nil (λ x. InRange x × IsStraight x)))

two_right : (i j : Instr) → InRange i → IsStraight i → InRange j → IsStraight j → AreRight (i ∷ j ∷ [])
two_right i j h s k t = (omega arith, All-cons (λ x. InRange x × IsStraight x) i (j ∷ []) (h, s) (one_right j k t).1)

add_in_range : (rd rs1 : ℕ) (imm : ℤ) → rd < 32 → rs1 < 32 → IsImm12 imm → InRange (instr.OpImm Addi rd rs1 imm)
unfolding InRange
add_in_range rd rs1 imm d s h = (d, s, h)

jump_in_range : (rd rs1 : ℕ) → rd < 32 → rs1 < 32 → InRange (instr.Jalr rd rs1 (pos 0))
unfolding InRange
jump_in_range rd rs1 d s = (d, s, (omega (arith, ints), omega (arith, ints)))

lui_in_range : (rd imm : ℕ) → rd < 32 → imm < 2 ^ 20 → InRange (instr.Lui rd imm)
unfolding InRange
lui_in_range rd imm d h = (d, h)

branch_in_range : (cond : Cond) (rs1 rs2 : ℕ) → rs1 < 32 → rs2 < 32 → InRange (instr.Branch cond rs1 rs2 (pos 0))
unfolding InRange
branch_in_range cond rs1 rs2 s t = (s, t, ((omega (arith, ints), omega (arith, ints)), refl))

jal_in_range : (rd : ℕ) → rd < 32 → InRange (instr.Jal rd (pos 0))
unfolding InRange
jal_in_range rd d = (d, ((omega (arith, ints), omega (arith, ints)), refl))

zero_imm : IsImm12 (pos 0)
zero_imm = (omega (arith, ints), omega (arith, ints))

small_imm : (z : ℤ) → fits_addi z ≡ true → IsImm12 z
small_imm z h = (grind (arith, ints), grind (arith, ints))

constant_right : (rd : ℕ) (z : ℤ) → rd < 32 → AreRight (constant rd z)
constant_right rd z d =
    elim (fits_addi z) as (λ b. fits_addi z ≡ b → AreRight (cond b (instr.OpImm Addi rd 0 z ∷ []) (instr.Lui rd (upper z) ∷ add_lower rd z))) [
      | true ↦ λ e. one_right _ (add_in_range rd 0 z d (omega arith) (small_imm z e)) tt
      | false ↦ λ e. elim (unsigned_abs (lower z) == 0) as (λ b. AreRight (instr.Lui rd (upper z) ∷ cond b [] (instr.OpImm Addi rd rd (lower z) ∷ []))) [
        | true ↦ one_right _ (lui_in_range rd (upper z) d (upper_below z)) tt
        | false ↦ two_right _ _ (lui_in_range rd (upper z) d (upper_below z)) tt (add_in_range rd rd (lower z) d d (lower_imm z)) tt
      ]
    ] refl

-- a number's bytes are bytes
abbrev IsByte : ℕ → Type 0
IsByte b = b < 256

bytes_right : (width : DataWidth) (z : ℤ) → All IsByte (data_bytes width z)
bytes_right Word z = All-from_recursion IsByte (data_bytes Word z) (omega arith, (omega arith, (omega arith, (omega arith, tt))))
bytes_right Half z = All-from_recursion IsByte (data_bytes Half z) (omega arith, (omega arith, tt))
bytes_right Byte (pos n) = All-from_recursion IsByte (data_bytes Byte (pos n)) (omega arith, tt)
bytes_right Byte (negsuc n) = All-from_recursion IsByte (data_bytes Byte (negsuc n)) (omega arith, tt)

list_right : (width : DataWidth) (numbers : List ℤ) → All IsByte (flat_map (data_bytes width) numbers)
list_right width [] = All-nil IsByte
list_right width (z ∷ numbers) = All-append IsByte (data_bytes width z) (flat_map (data_bytes width) numbers) (bytes_right width z) (list_right width numbers)

natural_size : (z : ℤ) → IsNumberOf kind.DataSize z → IsDataSize (unsigned_abs z)
natural_size z (size, is, h) = subst (λ (x : ℤ). IsDataSize (unsigned_abs x)) (sym is) h

natural_service : (z : ℤ) → IsNumberOf kind.Service z → unsigned_abs z ≤ service_most
natural_service (pos n) h = omega (arith, ints)
natural_service (negsuc n) h = omega (arith, ints)

directive_right : (d : Directive) (o : OperandValues) → AllSuit o (directive_form d) → IsRightStatement (directive_states d o)
directive_right directive.Format o h = tt
directive_right directive.Sandbox o h = natural_size o.number h.0
directive_right directive.Gate o h = (h.0, natural_service o.number h.1.0)
directive_right directive.Option o h = tt
directive_right directive.Export o h = h.0
directive_right directive.Movable o h = tt
directive_right directive.Import o h = (h.0, natural_service o.number h.1.0)
directive_right directive.Data o h = tt
directive_right directive.Zero o h = All-replicate IsByte (unsigned_abs o.number) 0 (omega arith)

ruleset made_right = (one_right, add_in_range, jump_in_range, jal_in_range, branch_in_range, zero_imm)

pseudo_right : (p : Pseudo) (o : OperandValues) → AllSuit o (pseudo_form p) → IsRightStatement (pseudo_states p o)
pseudo_right Li o h = constant_right o.rd o.number h.0
pseudo_right _ o h = search (rules, made_right)

branch_right : (cond : Cond) (o : OperandValues) → AllSuit o branch_form → IsRightStatement (branch_states cond o)
branch_right cond o h = (branch_in_range cond o.rs1 o.rs2 h.0 h.1.1.0, refl, h.1.1.1.1.0)

jal_right : (o : OperandValues) → AllSuit o jal_form → IsRightStatement (jal_states o)
jal_right o h = (jal_in_range o.rd h.0, refl, h.1.1.0)

row_right : (form : List OperandPart) (states : OperandValues → Stated) → ((o : OperandValues) → AllSuit o form → IsRightStatement (states o)) → (tokens : List (List ℕ)) (s : Stated) → IsRow form states tokens s → IsRightStatement s
row_right form states right tokens s (o, has, e) = subst IsRightStatement (sym e) (right o (form_fits o form tokens has))

-- an instruction by itself
abbrev is_target : Mnemonic → Bool
is_target (mnemonic.Branch cond) = true
is_target mnemonic.Jal = true
is_target _ = false

straight : (i : Instr) → is_target (mnemonic_of i) ≡ false → IsStraight i
straight (instr.Branch cond rs1 rs2 offset) h = cc
straight (instr.Jal rd offset) h = cc
straight _ h = tt

spells_in_range : (i : Instr) (name : List ℕ) (tokens : List (List ℕ)) → Spells i (name ∷ tokens) → InRange i
spells_in_range i name tokens (named, inl form) = fits_in_range i (form_fits (operands_of i) (operand_parts (mnemonic_of i)) tokens form)
spells_in_range i name tokens (named, inr (fence, none)) = subst InRange (sym fence) full_fence_in_range

plain_right : (name : Mnemonic) → is_target name ≡ false → (tokens : List (List ℕ)) (s : Stated) → ((i : Instr) × Spells i (name_of name ∷ tokens) × (s ≡ within (plain (i ∷ [])))) → IsRightStatement s
plain_right name h tokens s (i, spells, e) =
    let same : mnemonic_of i ≡ name = name_unique (mnemonic_of i) name (sym spells.0) in
    subst IsRightStatement (sym e) (one_right i (spells_in_range i (name_of name) tokens spells) (straight i (ap is_target same ∙ h)))

-- what stands after a keyword states what is in range
pub after_right : (k : Keyword) (tokens : List (List ℕ)) (s : Stated) → After k tokens s → IsRightStatement s
after_right (keyword.Instr (mnemonic.Branch cond)) ts s h = row_right branch_form (branch_states cond) (branch_right cond) ts s h
after_right (keyword.Instr mnemonic.Jal) ts s h = row_right jal_form jal_states jal_right ts s h
after_right (keyword.Instr name) ts s h = plain_right name refl ts s h
after_right (keyword.Pseudo name) ts s h = row_right (pseudo_form name) (pseudo_states name) (pseudo_right name) ts s h
after_right (keyword.Directive name) ts s h = row_right (directive_form name) (directive_states name) (directive_right name) ts s h
after_right (keyword.Numbers width) ts s (numbers, are, e) = subst IsRightStatement (sym e) (list_right width numbers)

-- a statement may stand where its keyword may
row_position : (place : Position) (form : List OperandPart) (states : OperandValues → Stated) → ((o : OperandValues) → place ≡ position_of_stated (states o)) → (tokens : List (List ℕ)) (s : Stated) → IsRow form states tokens s → place ≡ position_of_stated s
row_position place form states same tokens s (o, has, e) = same o ∙ ap position_of_stated (sym e)

directive_place : (d : Directive) (o : OperandValues) → position_of_keyword (keyword.Directive d) ≡ position_of_stated (directive_states d o)
directive_place directive.Format o = refl
directive_place _ o = refl

pseudo_place : (p : Pseudo) (o : OperandValues) → position_of_keyword (keyword.Pseudo p) ≡ position_of_stated (pseudo_states p o)
pseudo_place Nop o = refl
pseudo_place _ o = refl

pub after_place : (k : Keyword) (tokens : List (List ℕ)) (s : Stated) → After k tokens s → position_of_keyword k ≡ position_of_stated s
after_place (keyword.Instr (mnemonic.Branch cond)) ts s (o, has, e) = ap position_of_stated (sym e)
after_place (keyword.Instr mnemonic.Jal) ts s (o, has, e) = ap position_of_stated (sym e)
after_place (keyword.Instr name) ts s (i, has, e) = ap position_of_stated (sym e)
after_place (keyword.Pseudo name) ts s h = row_position _ (pseudo_form name) (pseudo_states name) (pseudo_place name) ts s h
after_place (keyword.Directive name) ts s h = row_position _ (directive_form name) (directive_states name) (directive_place name) ts s h
after_place (keyword.Numbers width) ts s (numbers, are, e) = ap position_of_stated (sym e)
