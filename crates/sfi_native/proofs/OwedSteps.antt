-- How many steps are owed where a line leads.
use Rattle.std.proofs.Common.{◌≡◌, ℕ, ◌+◌, ◌/◌, ◌%◌, ◌^◌, ◌<◌, ◌&&◌, Bool, true, false, List, [], ◌∷◌, length, Option, Some, None, refl, sym, ap, ◌∙◌, subst, arith, if◌then◌else◌, not, get_or, ◌==◌, inl, inr}
use Rattle.std.proofs.lemmas.Bool.{cases_Bool, eqb-true, false≢true}
use Rattle.rv_word.specs.declared.instr.Instr.{Instr}
use Rattle.rv_word.specs.declared.instr.Instr.TheVariants.{Op, OpImm, Load, Store, Branch, Jal, Jalr, Lui, Auipc, Fence, Ecall, Ebreak}
use Rattle.sfi_image.specs.Spelling.{Part}
use Rattle.sfi_translate.specs.Lines.{Line, Function, End, Entry, Head, Does}
use Rattle.sfi_translate.specs.Machine.{Assembly, Before, ControlPoint, Going, Lost, Slow, before_or, is_short, label, line_step}
use Rattle.sfi_native.specs.declared.plan.Plan.{Plan}
use Rattle.sfi_native.specs.Entries.{owed_at_entry}
use Rattle.sfi_native.specs.Following.{FollowFrom, address_of, next_address}
use Rattle.sfi_native.specs.Laws.{IsCovered}
use Rattle.sfi_native.specs.Places.{AreLast, end_address, owed_before, owed_there}
use Rattle.sfi_native.specs.Registers.{owed}
use Rattle.sfi_native.specs.Table.{LieInCode}
use Rattle.sfi_native.proofs.Following.{rest_follows}
use Rattle.sfi_native.proofs.Arriving.{is_jump_line, same_lines}

pub owed_few : (plan : Plan) (at : ℕ) → owed plan at < 63
owed_few plan at = omega arith

before_few : (plan : Plan) (p : Part) (rest : List Line) → owed_before plan p rest < 63
before_few plan p [] = owed_few plan (end_address p)
before_few plan p (line ∷ rest) = owed_few plan (address_of line)

pub there_few : (plan : Plan) (p : Part) (place : ControlPoint) → owed_there plan p place < 63
there_few plan p (Before rest) = before_few plan p rest
there_few plan p place = omega arith

-- addresses have 32 bits
pub owed_mod : (plan : Plan) (at : ℕ) → owed plan (at % 2 ^ 32) ≡ owed plan at
owed_mod plan at = ap (λ n. get_or plan.owed.items (n / 2) 0 % 63) (omega arith)

-- ==== Behind a line.

pub next_owed : (plan : Plan) (p : Part) (code rest : List Line) (line : Line) → LieInCode p code → AreLast code (line ∷ rest) → owed_before plan p rest ≡ owed plan (next_address line)
next_owed plan p code rest line lie last =
    let end = p.code_base + length p.code in
    let it = rest_follows end last.front (line ∷ rest) p.code_base (subst (λ lines. FollowFrom end p.code_base lines) last.is lie.follow) in
    by rest it.1.1
  where
    by : (rest : List Line) → FollowFrom (p.code_base + length p.code) (next_address line) rest → owed_before plan p rest ≡ owed plan (next_address line)
    by [] follow = owed_mod plan (p.code_base + length p.code) ∙ ap (owed plan) (sym follow)
    by (x ∷ more) follow = ap (owed plan) follow.0

-- ==== At a label.

label_owed : (plan : Plan) (p : Part) (to : ℕ) (code rest : List Line) → label to code ≡ Some rest → owed_before plan p rest ≡ owed plan to
label_owed plan p to [] rest e = absurd (cc)
label_owed plan p to (Function sandbox at ∷ lines) rest e = label_owed plan p to lines rest e
label_owed plan p to (End at ∷ lines) rest e = label_owed plan p to lines rest e
label_owed plan p to (Entry at ∷ lines) rest e = label_owed plan p to lines rest e
label_owed plan p to (Head at ∷ lines) rest e = label_owed plan p to lines rest e
label_owed plan p to (Does at n i ∷ lines) rest e = elim (cases_Bool (at == to)) [
  | inl same ↦
      let first : Some (Does at n i ∷ lines) ≡ Some rest = ap (λ t. if t then Some (Does at n i ∷ lines) else label to lines) (sym same) ∙ e in
      sym (ap (owed_before plan p) (found (Does at n i ∷ lines) rest first)) ∙ ap (owed plan) (eqb-true at to same)
  | inr other ↦ label_owed plan p to lines rest (ap (λ t. if t then Some (Does at n i ∷ lines) else label to lines) (sym other) ∙ e)
]
  where
    found : (x y : List Line) → Some x ≡ Some y → x ≡ y
    found x y e = cc

-- after a jump
pub jump_owes : (plan : Plan) (p : Part) (code : List Line) (to : ℕ) (tested short : Bool) (o : Option (List Line)) → label to code ≡ o
    → IsCovered (if tested then (if short then Slow else before_or Lost o) else before_or Lost o)
    → (if tested && short then 0 else owed plan to) ≡ owed_there plan p (if tested then (if short then Slow else before_or Lost o) else before_or Lost o)
jump_owes plan p code to true true o is covered = refl
jump_owes plan p code to true false (Some rest) is covered = sym (label_owed plan p to code rest is)
jump_owes plan p code to false short (Some rest) is covered = sym (label_owed plan p to code rest is)
jump_owes plan p code to true false None is covered = absurd covered
jump_owes plan p code to false short None is covered = absurd covered

-- after a branch
pub branch_owes : (plan : Plan) (p : Part) (code : List Line) (taken : Bool) (to left : ℕ) (tested : Bool) (rest : List Line) (next : ℕ) → next ≡ owed_before plan p rest
    → IsCovered (if taken then (if tested then (if is_short Assembly left then Slow else before_or Lost (label to code)) else before_or Lost (label to code)) else Before rest)
    → (if taken then (if tested && is_short Assembly left then 0 else owed plan to) else next)
    ≡ owed_there plan p (if taken then (if tested then (if is_short Assembly left then Slow else before_or Lost (label to code)) else before_or Lost (label to code)) else Before rest)
branch_owes plan p code true to left tested rest next is covered = jump_owes plan p code to tested (is_short Assembly left) (label to code) refl covered
branch_owes plan p code false to left tested rest next is covered = is

-- after a jump to an address in edx
pub enter_owes : (plan : Plan) (p : Part) (short whole start : Bool) (o : Option (List Line))
    → (start ≡ true → whole ≡ true) → (whole ≡ true → start ≡ false → (rest : List Line) → o ≡ Some rest → ⊥)
    → (if short then 0 else if start then owed_at_entry plan p o else 0)
    ≡ owed_there plan p (if short then Slow else (if not whole then Slow else before_or Slow o))
enter_owes plan p true whole start o starts within = refl
enter_owes plan p false true true (Some rest) starts within = refl
enter_owes plan p false true true None starts within = refl
enter_owes plan p false true false (Some rest) starts within = absurd (within refl refl rest refl)
enter_owes plan p false true false None starts within = refl
enter_owes plan p false false true o starts within = absurd (false≢true (starts refl))
enter_owes plan p false false false o starts within = refl

-- ==== A line that isn't a jump leads to the next one.

either : (done : Bool) (one other : Going) (rest to : List Line) → one.place ≡ Before rest → other.place ≡ Slow → (if done then one else other).place ≡ Before to → to ≡ rest
either true one other rest to a b e = same_lines rest to (sym a ∙ e)
either false one other rest to a b e = let clash : Slow ≡ Before to = sym b ∙ e in absurd (cc)

pub by_line : (p : Part) (code rest : List Line) (at n : ℕ) (i : Instr) → is_jump_line i ≡ false → (g : Going) (to : List Line) → (line_step Assembly p code (Does at n i ∷ rest) g).place ≡ Before to → to ≡ rest
by_line p code rest at n (Load kind rd rs1 imm) none g to e = either _ _ _ rest to refl refl e
by_line p code rest at n (Store width rs1 rs2 imm) none g to e = either _ _ _ rest to refl refl e
by_line p code rest at n (Op op rd rs1 rs2) none g to e = same_lines rest to e
by_line p code rest at n (OpImm op rd rs1 imm) none g to e = same_lines rest to e
by_line p code rest at n (Lui rd imm) none g to e = same_lines rest to e
by_line p code rest at n (Auipc rd imm) none g to e = same_lines rest to e
by_line p code rest at n (Fence imm rd rs1) none g to e = same_lines rest to e
by_line p code rest at n (Branch cond rs1 rs2 offset) none g to e = absurd (false≢true (sym none))
by_line p code rest at n (Jal rd offset) none g to e = absurd (false≢true (sym none))
by_line p code rest at n (Jalr rd rs1 imm) none g to e = absurd (false≢true (sym none))
by_line p code rest at n Ecall none g to e = absurd (cc)
by_line p code rest at n Ebreak none g to e = absurd (cc)
