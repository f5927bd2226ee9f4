-- The first look at a bundle: what breaks no rule.
use Rattle.sfi_scan.proofs.Prelude.{◌≡◌, ℕ, ◌==◌, Bool, true, false, List, [], ◌∷◌, Option, Some, None, ℤ, pos, negsuc, of_z, to_z, SFits, refl, sym, ap, ◌∙◌, ◌⊎◌, subst, inl, inr, arith, ◌&&◌, ◌||◌, not, and_parts, and_right, or_parts, OnTrue, Instr, Op, OpImm, Load, Store, Branch, Jal, Jalr, Lui, Auipc, Fence, Ecall, Ebreak, And, Or, outline, spelling, IsWordOf, has_stack, is_stack, BundlePlace, is_reserved, follows_pair, follows_code_pair, Piece, InstrInBundle, is_last_bundle, is_bundle_start, may_access, lowest, all_rules, IsWordOr0, AreBefore, is_protected, is_clean, is_zero, near, Outline, Computes, Loads, Words, not-true, or_left, w32, eq-eqb}
use Rattle.rv_word.specs.Spelling.{offset_by}
use Rattle.sfi_rules.specs.Readings.{begins_pair, ends_pair, precedes_pair, is_jump}
use Rattle.std.proofs.lemmas.Bool.{or_right}
use Rattle.std.proofs.lemmas.Int.{to_z-of_z}
use Rattle.rv_word.proofs.Facts.{one_spelling}

-- ---- pairs

-- the word of an operation on registers is not 0
op_word : (t a m : ℕ) → (spelling (Op And t a m) ≡ 0 → ⊥) × (spelling (Op Or t a m) ≡ 0 → ⊥)
unfolding spelling
op_word t a m = (λ e. omega arith, λ e. omega arith)

-- an instruction beside a word is that of the word
beside_is : (word : ℕ) (i : Instr) (o : Option Instr) → IsWordOf word i → (spelling i ≡ 0 → ⊥) → IsWordOr0 word o → o ≡ Some i
beside_is word i None is some near = absurd (some (sym is.1 ∙ near))
beside_is word i (Some j) is some (inl none) = absurd (some (sym is.1 ∙ none))
beside_is word i (Some j) is some (inr other) = ap Some (one_spelling word j i other is)

pub masking_before : (word a : ℕ) (o : Option Instr) → IsWordOf word (Op And 2 a 27) → IsWordOr0 word o → o ≡ Some (Op And 2 a 27)
masking_before word a o is near = beside_is word (Op And 2 a 27) o is (op_word 2 a 27).0 near

-- the two nearest are the two that are known
two_near : (earlier : List Instr) (i j : Instr) → (near earlier).first ≡ Some i → (near earlier).second ≡ Some j → (rest : List Instr) × (earlier ≡ j ∷ i ∷ rest)
two_near [] i j e f = cc
two_near (b ∷ []) i j e f = cc
two_near (b ∷ a ∷ rest) i j e f = (rest, (let x : a ≡ i = cc in let y : b ≡ j = cc in rw (x, y) refl))

both_pair : (m b t a : ℕ) (rest : List Instr) → (t == 0) ≡ false → is_reserved t ≡ false → follows_pair m b t (Op Or t t b ∷ Op And t a m ∷ rest) ≡ true
both_pair m b t a rest zero reserved = rw (eq-eqb t t refl, eq-eqb m m refl, eq-eqb b b refl, zero, reserved) refl

pub pair_is : (words : Words) (m b t a : ℕ) (earlier : List Instr) → IsWordOf words.first (Op And t a m) → IsWordOf words.second (Op Or t t b)
    → (t == 0) ≡ false → is_reserved t ≡ false → AreBefore words (near earlier) → follows_pair m b t earlier ≡ true
pair_is words m b t a earlier first second zero reserved are =
    let masking = beside_is words.first (Op And t a m) (near earlier).first first (op_word t a m).0 are.first in
    let placing = beside_is words.second (Op Or t t b) (near earlier).second second (op_word t t b).1 are.second in
    let whole = two_near earlier (Op And t a m) (Op Or t t b) masking placing in
    ap (follows_pair m b t) whole.1 ∙ both_pair m b t a whole.0 zero reserved

pub pair_told : (words : Words) (m b t a : ℕ) → IsWordOf words.first (Op And t a m) → IsWordOf words.second (Op Or t t b)
    → (counts : Bool) → counts ≡ (not (t == 0) && not (is_reserved t)) → (earlier : List Instr) → AreBefore words (near earlier) → OnTrue counts (follows_pair m b t earlier ≡ true)
pair_told words m b t a first second false e earlier are = tt
pair_told words m b t a first second true e earlier are =
    let both = and_parts (not (t == 0)) (not (is_reserved t)) (sym e) in
    pair_is words m b t a earlier first second (not-true (t == 0) both.0) (not-true (is_reserved t) both.1) are

-- ---- rules

-- a number whose 32 bits are 0 is 0
pub zero_of : (z : ℤ) → of_z w32 z ≡ 0 → SFits w32 z → is_zero z ≡ true
zero_of z e fits = ap is_zero (sym (to_z-of_z w32 z fits) ∙ ap (to_z w32) e)

pub jump_told : (b : BundlePlace) (earlier : List Instr) (rd base : ℕ) (z : ℤ) → is_zero z ≡ true → is_protected b rd ≡ false
    → (p : Bool) → OnTrue p (follows_pair 25 24 base earlier ≡ true) → OnTrue p ((not (is_protected b rd) && (is_zero z && follows_code_pair base earlier)) ≡ true)
jump_told b earlier rd base z g f false h = tt
jump_told b earlier rd base z g f true h = rw (g, f, h) refl

-- what is not protected is not reserved, nor the stack pointer
free : (b : BundlePlace) (r : ℕ) → not (is_protected b r) ≡ true → (is_reserved r ≡ false) × (is_stack b.format r ≡ false)
free b r h = or_parts (is_reserved r) (is_stack b.format r) (not-true (is_protected b r) h)

-- an instruction that is clean there breaks no rule, where the bundle is not the region's last
clean_one : (b : BundlePlace) (at : ℕ) (earlier : List Instr) (i : Instr) (later : List Piece) (whole : Bool) → is_last_bundle b ≡ false → is_clean b at earlier (outline i) ≡ true
    → lowest (record { bundle = b; address = at; earlier = earlier; instr = i; later = later; whole = whole }) all_rules ≡ []
clean_one b at earlier (Op op rd rs1 rs2) later whole last clean = let f = free b rd clean in rw (f.0, f.1, last) refl
clean_one b at earlier (OpImm op rd rs1 imm) later whole last clean = let f = free b rd clean in rw (f.0, f.1, last) refl
clean_one b at earlier (Load kind rd rs1 imm) later whole last clean =
    let both = and_parts (not (is_protected b rd)) (may_access b rs1 earlier) clean in
    let f = free b rd both.0 in
    rw (f.0, f.1, both.1, last) refl
clean_one b at earlier (Store width rs1 rs2 imm) later whole last clean = rw (clean, last, and_right (has_stack b.format) false refl) refl
clean_one b at earlier (Branch cond rs1 rs2 offset) later whole last clean = rw (clean, last, and_right (has_stack b.format) false refl) refl
clean_one b at earlier (Jal rd offset) later whole last clean =
    let both = and_parts (not (is_protected b rd)) (is_bundle_start b (offset_by at offset)) clean in
    let f = free b rd both.0 in
    rw (f.0, f.1, both.1, last) refl
clean_one b at earlier (Jalr rd rs1 (pos n)) later whole last clean =
    let both = and_parts (not (is_protected b rd)) ((n == 0) && follows_code_pair rs1 earlier) clean in
    let f = free b rd both.0 in
    rw (f.0, f.1, both.1, last) refl
clean_one b at earlier (Jalr rd rs1 (negsuc n)) later whole last clean = absurd (let both = and_parts (not (is_protected b rd)) false clean in cc)
clean_one b at earlier (Lui rd imm) later whole last clean = let f = free b rd clean in rw (f.0, f.1, last) refl
clean_one b at earlier (Auipc rd imm) later whole last clean = let f = free b rd clean in rw (f.0, f.1, last) refl
clean_one b at earlier (Fence imm rd rs1) later whole last clean = rw (last, and_right (has_stack b.format) false refl) refl
clean_one b at earlier Ecall later whole last clean = absurd cc
clean_one b at earlier Ebreak later whole last clean = rw (last, and_right (has_stack b.format) false refl) refl

pub clean_is : (x : InstrInBundle) → is_last_bundle x.bundle ≡ false → is_clean x.bundle x.address x.earlier (outline x.instr) ≡ true → lowest x all_rules ≡ []
clean_is x last clean = clean_one x.bundle x.address x.earlier x.instr x.later x.whole last clean

-- ---- the stack pointer written, and put back

-- an instruction with this outline computes into the stack pointer, or loads into it from near it
abbrev pub IsWrite : Outline → Type 0
IsWrite o = (o ≡ Computes 2) ⊎ (o ≡ Loads 2 2)

pub kind_of : (j i : Instr) → j ≡ i → IsWrite (outline i) → IsWrite (outline j)
kind_of j i e kind = subst (λ (k : Instr). IsWrite (outline k)) (sym e) kind

-- what writes it, and stands where it may
write_one : (b : BundlePlace) (at : ℕ) (earlier : List Instr) (i : Instr) (later : List Piece) (whole : Bool) → is_last_bundle b ≡ false → has_stack b.format ≡ true → IsWrite (outline i)
    → (begins_pair i later || ends_pair earlier i || (not (is_jump i) && precedes_pair later)) ≡ true
    → lowest (record { bundle = b; address = at; earlier = earlier; instr = i; later = later; whole = whole }) all_rules ≡ []
write_one b at earlier (Op op rd rs1 rs2) later whole last has (inl e) may = let two : rd ≡ 2 = cc in rw (may, last, has, two) refl
write_one b at earlier (OpImm op rd rs1 imm) later whole last has (inl e) may = let two : rd ≡ 2 = cc in rw (may, last, has, two) refl
write_one b at earlier (Lui rd imm) later whole last has (inl e) may = let two : rd ≡ 2 = cc in rw (may, last, has, two) refl
write_one b at earlier (Auipc rd imm) later whole last has (inl e) may = let two : rd ≡ 2 = cc in rw (may, last, has, two) refl
write_one b at earlier (Load kind rd rs1 imm) later whole last has (inr e) may = let two : rd ≡ 2 = cc in let base : rs1 ≡ 2 = cc in rw (may, last, has, two, base) refl
write_one b at earlier i later whole last has (inl e) may = absurd cc
write_one b at earlier i later whole last has (inr e) may = absurd cc

-- no jump does
not_jump : (i : Instr) → IsWrite (outline i) → not (is_jump i) ≡ true
not_jump (Jal rd offset) (inl e) = absurd cc
not_jump (Jal rd offset) (inr e) = absurd cc
not_jump (Jalr rd rs1 imm) (inl e) = absurd cc
not_jump (Jalr rd rs1 imm) (inr e) = absurd cc
not_jump _ kind = refl

pub write_quiet : (x : InstrInBundle) → is_last_bundle x.bundle ≡ false → has_stack x.bundle.format ≡ true → IsWrite (outline x.instr) → precedes_pair x.later ≡ true → lowest x all_rules ≡ []
write_quiet x last has kind pair =
    write_one x.bundle x.address x.earlier x.instr x.later x.whole last has kind
    (or_right (begins_pair x.instr x.later || ends_pair x.earlier x.instr) (not (is_jump x.instr) && precedes_pair x.later) (rw (not_jump x.instr kind, pair) refl))

pub masking_quiet : (x : InstrInBundle) (a : ℕ) → is_last_bundle x.bundle ≡ false → has_stack x.bundle.format ≡ true → x.instr ≡ Op And 2 a 27 → begins_pair (Op And 2 a 27) x.later ≡ true → lowest x all_rules ≡ []
masking_quiet x a last has e pair =
    write_one x.bundle x.address x.earlier x.instr x.later x.whole last has (inl (ap outline e))
    (or_left _ (not (is_jump x.instr) && precedes_pair x.later) (or_left _ (ends_pair x.earlier x.instr) (ap (λ (i : Instr). begins_pair i x.later) e ∙ pair)))

pub placing_quiet : (x : InstrInBundle) (a : ℕ) → is_last_bundle x.bundle ≡ false → has_stack x.bundle.format ≡ true → x.instr ≡ Op Or 2 2 26 → (near x.earlier).second ≡ Some (Op And 2 a 27) → lowest x all_rules ≡ []
placing_quiet x a last has e before =
    write_one x.bundle x.address x.earlier x.instr x.later x.whole last has (inl (ap outline e))
    (or_left _ (not (is_jump x.instr) && precedes_pair x.later) (or_right (begins_pair x.instr x.later) _ (ap (ends_pair x.earlier) e ∙ ends x.earlier before)))
  where
    ends : (earlier : List Instr) → (near earlier).second ≡ Some (Op And 2 a 27) → ends_pair earlier (Op Or 2 2 26) ≡ true
    ends [] h = absurd cc
    ends (y ∷ []) h = let same : y ≡ Op And 2 a 27 = cc in rw same refl
    ends (y ∷ z ∷ rest) h = let same : y ≡ Op And 2 a 27 = cc in rw same refl
