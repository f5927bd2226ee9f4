-- Where lines stand, and where jumps to their labels lead.
use Rattle.std.proofs.Common.{◌≡◌, ℕ, ◌+◌, ◌%◌, ◌^◌, ◌<◌, ◌≤◌, Bool, true, false, List, [], ◌∷◌, ◌++◌, length, Option, Some, None, refl, sym, ap, ◌∙◌, subst, arith, inl, inr, if◌then◌else◌, length-append, nat_lt}
use Rattle.std.specs.Prelude.{◌==◌}
use Rattle.std.proofs.lemmas.Bool.{cases_lt, le-ltb, lt-ltb}
use Rattle.rv_word.specs.declared.instr.Instr.TheVariants.{Branch, Jal, Jalr, Ecall, Ebreak}
use Rattle.rv_word.specs.declared.instr.Cond.{Cond}
use Rattle.rv_word.specs.Spelling.{offset_by}
use Rattle.rv_mem.specs.Bytes.{address_after}
use Rattle.rv_step.specs.Step.{word}
use Rattle.sfi_translate.specs.Lines.{Line, Function, End, Entry, Head, Does}
use Rattle.sfi_translate.specs.Machine.{label, most}
use Rattle.x86_instr.specs.declared.instr.Instr.{Instr as Native}
use Rattle.x86_instr.specs.declared.instr.Instr.TheVariants.{AluImm, Jcc, Jmp}
use Rattle.x86_instr.specs.declared.instr.AluOp.TheVariants as alu
use Rattle.x86_instr.specs.declared.instr.Condition.TheVariants.{AboveOrEqual}
use Rattle.x86_instr.specs.declared.instr.Width.TheVariants.{Dword}
use Rattle.x86_instr.specs.declared.operand.Operand.TheVariants.{Reg}
use Rattle.x86_instr.specs.declared.operand.Register.TheVariants.{R14}
use Rattle.x86_instr.specs.declared.instr.Condition.{Condition}
unfoldable use Rattle.x86_instr.specs.Spelling.{rex, spelling}
use Rattle.x86_step.specs.State.{Text}
use Rattle.x86_step.specs.Step.{is_canonical, jumped}
use Rattle.x86_step.specs.Running.{HasAt, spellings}
use Rattle.x86_step.proofs.Running.{has_back, has_front, spellings_append}
use Rattle.sfi_native.specs.declared.plan.Plan.{Plan}
use Rattle.sfi_native.specs.declared.jump.Jump.{Jump}
use Rattle.sfi_native.proofs.Runs.{low_canonical}
use Rattle.sfi_native.specs.Registers.{owed as owed_at}
use Rattle.sfi_native.specs.Code.{leave_line_size, tested, branch_jump, compare_code, is_bare, count, has_test, leave_code, leave_size, number_code, opposite, target_code, test_code, tested_jump, unless, leap, leave_line}
use Rattle.sfi_native.specs.Places.{AreLast, bare_code, code_of, distance, distance_out, distances, exit_of, jump_of, line_code, owed_behind, padding, placed, shared_jump, size_of, size_of_all, start, start_or_end}

-- ==== Sizes.

jmp_same : (m n : ℕ) → length (spellings (Jmp m ∷ [])) ≡ length (spellings (Jmp n ∷ []))
unfolding spelling
jmp_same m n = refl

behind_size : (front a b : List Native) → length (spellings a) ≡ length (spellings b) → length (spellings (front ++ a)) ≡ length (spellings (front ++ b))
behind_size front a b same =
    omega (arith, same, ap length (spellings_append front a), ap length (spellings_append front b), length-append (spellings front) (spellings a), length-append (spellings front) (spellings b))

parts_size : (a b c d : List Native) → length (spellings a) ≡ length (spellings b) → length (spellings c) ≡ length (spellings d) → length (spellings (a ++ c)) ≡ length (spellings (b ++ d))
parts_size a b c d first second =
    omega (arith, first, second, ap length (spellings_append a c), ap length (spellings_append b d), length-append (spellings a) (spellings c), length-append (spellings b) (spellings d))

leave_same : (at m n : ℕ) → length (spellings (leave_code at m)) ≡ length (spellings (leave_code at n))
unfolding spelling rex
leave_same at m n = refl

test_same : (owed m n : ℕ) → length (spellings (AluImm alu.Cmp Dword (Reg R14) owed ∷ Jcc AboveOrEqual m ∷ [])) ≡ length (spellings (AluImm alu.Cmp Dword (Reg R14) owed ∷ Jcc AboveOrEqual n ∷ []))
unfolding spelling rex
test_same owed m n = behind_size (AluImm alu.Cmp Dword (Reg R14) owed ∷ []) (Jcc AboveOrEqual m ∷ []) (Jcc AboveOrEqual n ∷ []) refl

-- distances don't matter
tested_same : (at owed label exit other out : ℕ) → length (spellings (tested at owed label exit)) ≡ length (spellings (tested at owed other out))
tested_same at owed label exit other out =
    parts_size (test_code owed label) (test_code owed other) (leave_line at owed exit) (leave_line at owed out)
    (test_same (most + owed) ((label + leave_line_size owed) % 2 ^ 32) ((other + leave_line_size owed) % 2 ^ 32)) (behind_size (count owed 0) (leave_code at exit) (leave_code at out) (leave_same at exit out))

leap_same : (tested : Bool) (from to owed label exit other out : ℕ) → length (spellings (leap tested (record { from = from; to = to; label = label; exit = exit; label_owed = owed }))) ≡ length (spellings (leap tested (record { from = from; to = to; label = other; exit = out; label_owed = owed })))
leap_same true from to owed label exit other out = tested_same to owed label exit other out
leap_same false from to owed label exit other out = jmp_same label other

jump_same : (owed : ℕ) (plan : Plan) (d : ℕ → ℕ) (out at to : ℕ) → length (spellings (tested_jump owed (jump_of plan d out at to))) ≡ length (spellings (tested_jump owed (jump_of plan (λ to. 0) 0 at to)))
jump_same owed plan d out at to =
    let j = jump_of plan d out at to in
    let k = jump_of plan (λ to. 0) 0 at to in
    behind_size (count owed (owed_at plan to)) (leap (has_test j) j) (leap (has_test k) k) (leap_same (has_test j) at to (owed_at plan to) (d to) out 0 0)

unless_same : (condition : Condition) (a b : List Native) → length (spellings a) ≡ length (spellings b) → length (spellings (unless condition a)) ≡ length (spellings (unless condition b))
unfolding spelling
unless_same condition a b same = omega (arith, same, length-append (spelling (Jcc condition (length (spellings a)))) (spellings a), length-append (spelling (Jcc condition (length (spellings b)))) (spellings b))

branch_same : (bare : Bool) (cond : Cond) (owed : ℕ) (j k : Jump) → length (spellings (tested_jump owed j)) ≡ length (spellings (tested_jump owed k))
    → length (spellings (branch_jump bare cond owed j)) ≡ length (spellings (branch_jump bare cond owed k))
unfolding spelling
branch_same true cond owed j k same = refl
branch_same false cond owed j k same = unless_same (opposite cond) (tested_jump owed j) (tested_jump owed k) same

bare_size : (plan : Plan) (d : ℕ → ℕ) (out : ℕ) (line : Line) → length (spellings (bare_code plan d out line)) ≡ length (spellings (bare_code plan (λ to. 0) 0 line))
unfolding spelling
bare_size plan d out (Does at n (Branch cond rs1 rs2 offset)) =
    let to = offset_by at offset in
    let j = jump_of plan d out at to in
    let k = jump_of plan (λ to. 0) 0 at to in
    let next = owed_behind plan at n in
    behind_size (compare_code plan (owed_at plan at) next rs1 rs2) (branch_jump (is_bare next j) cond next j) (branch_jump (is_bare next k) cond next k)
    (branch_same (is_bare next j) cond next j k (jump_same next plan d out at to))
bare_size plan d out (Does at n (Jal rd offset)) =
    let to = offset_by at offset in
    let j = jump_of plan d out at to in
    let k = jump_of plan (λ to. 0) 0 at to in
    let counted = owed_at plan at + 1 in
    behind_size (number_code plan rd (address_after at n)) (tested_jump counted j) (tested_jump counted k) (jump_same counted plan d out at to)
bare_size plan d out (Does at n (Jalr rd rs1 imm)) =
    behind_size (target_code plan rs1 (word imm) ++ (number_code plan rd (address_after at n) ++ count (owed_at plan at + 1) 0)) (Jmp (shared_jump out) ∷ []) (Jmp (shared_jump 0) ∷ []) (jmp_same (shared_jump out) (shared_jump 0))
bare_size plan d out (Does at n Ecall) = behind_size (count (owed_at plan at) 0) (leave_code at out) (leave_code at 0) (leave_same at out 0)
bare_size plan d out (Does at n Ebreak) = behind_size (count (owed_at plan at) 0) (leave_code at out) (leave_code at 0) (leave_same at out 0)
bare_size plan d out (Does at n i) = refl
bare_size plan d out (Head at) = tested_same at (owed_at plan at) 0 out 0 0
bare_size plan d out line = refl

pub line_size : (plan : Plan) (d : ℕ → ℕ) (out : ℕ) (line : Line) → length (spellings (line_code plan d out line)) ≡ size_of plan line
line_size plan d out line = behind_size (padding plan line) (bare_code plan d out line) (bare_code plan (λ to. 0) 0 line) (bare_size plan d out line)

pub sizes_append : (plan : Plan) (front rest : List Line) → size_of_all plan (front ++ rest) ≡ size_of_all plan front + size_of_all plan rest
sizes_append plan [] rest = omega arith
sizes_append plan (line ∷ front) rest = omega (arith, sizes_append plan front rest)

pub last_below : (plan : Plan) (code rest : List Line) → AreLast code rest → size_of_all plan rest ≤ size_of_all plan code
last_below plan code rest last = omega (arith, ap (size_of_all plan) last.is, sizes_append plan last.front rest)

pub code_size : (plan : Plan) (code lines : List Line) → length (spellings (code_of plan code lines)) ≡ size_of_all plan lines
code_size plan code [] = refl
code_size plan code (line ∷ rest) =
    let own = placed plan code rest line in
    omega (arith, ap length (spellings_append own (code_of plan code rest)), length-append (spellings own) (spellings (code_of plan code rest)), line_size plan (distances plan code rest) (distance_out plan code rest) line, code_size plan code rest)

-- ==== Where bytes stand.

module _ (plan : Plan) (t : Text) (code : List Line) where
  stands_from : (at : ℕ) (front rest : List Line) → HasAt t at (spellings (code_of plan code (front ++ rest))) → HasAt t (at + size_of_all plan front) (spellings (code_of plan code rest))
  stands_from at [] rest has =
      let z : at ≡ at + 0 = omega arith in
      subst (λ a. HasAt t a (spellings (code_of plan code rest))) z has
  stands_from at (line ∷ front) rest has =
      let own = placed plan code (front ++ rest) line in
      let parts = subst (λ bytes. HasAt t at bytes) (spellings_append own (code_of plan code (front ++ rest))) has in
      let back = stands_from (at + length (spellings own)) front rest (has_back t at (spellings own) _ parts) in
      let e : at + length (spellings own) + size_of_all plan front ≡ at + size_of_all plan (line ∷ front) = omega (arith, line_size plan (distances plan code (front ++ rest)) (distance_out plan code (front ++ rest)) line) in
      subst (λ a. HasAt t a (spellings (code_of plan code rest))) e back

  module _ (base : ℕ) (has : HasAt t base (spellings (code_of plan code code))) (line : Line) (rest : List Line) (last : AreLast code (line ∷ rest)) where
    front_is : start plan code (line ∷ rest) ≡ size_of_all plan last.front
    front_is = omega (arith, ap (size_of_all plan) last.is, sizes_append plan last.front (line ∷ rest))

    -- a line's bytes
    pub line_stands : HasAt t (base + start plan code (line ∷ rest)) (spellings (placed plan code rest line))
    line_stands =
        let own = placed plan code rest line in
        let whole = subst (λ lines. HasAt t base (spellings (code_of plan code lines))) last.is has in
        let here = stands_from base last.front (line ∷ rest) whole in
        let parts = subst (λ bytes. HasAt t (base + size_of_all plan last.front) bytes) (spellings_append own (code_of plan code rest)) here in
        subst (λ n. HasAt t (base + n) (spellings own)) (sym front_is) (has_front t (base + size_of_all plan last.front) (spellings own) _ parts)

    -- end where the next begin
    pub line_ends : base + start plan code (line ∷ rest) + length (spellings (placed plan code rest line)) ≡ base + start plan code rest
    line_ends = omega (arith, line_size plan (distances plan code rest) (distance_out plan code rest) line, last_below plan code (line ∷ rest) last)

-- ==== Labels.

pub one_more : (line : Line) (lines rest : List Line) → AreLast lines rest → AreLast (line ∷ lines) rest
one_more line lines rest last = record { front = line ∷ last.front; is = ap (λ x. line ∷ x) last.is }

found : (t : Bool) (line : Line) (lines rest : List Line) (o : Option (List Line)) → (o ≡ Some rest → AreLast lines rest)
    → (if t then Some (line ∷ lines) else o) ≡ Some rest → AreLast (line ∷ lines) rest
found true line lines rest o later e = record { front = []; is = cc }
found false line lines rest o later e = one_more line lines rest (later e)

pub label_last : (to : ℕ) (code rest : List Line) → label to code ≡ Some rest → AreLast code rest
label_last to [] rest e = absurd (cc)
label_last to (Does at n i ∷ lines) rest e = found (at == to) (Does at n i) lines rest (label to lines) (label_last to lines rest) e
label_last to (Function sandbox at ∷ lines) rest e = one_more _ lines rest (label_last to lines rest e)
label_last to (End at ∷ lines) rest e = one_more _ lines rest (label_last to lines rest e)
label_last to (Entry at ∷ lines) rest e = one_more _ lines rest (label_last to lines rest e)
label_last to (Head at ∷ lines) rest e = one_more _ lines rest (label_last to lines rest e)

-- a jump over a distance leads to its place
pub far : (base from to : ℕ) → from < 2 ^ 31 → to < 2 ^ 31 → base + to < 2 ^ 64 → jumped (base + from) (distance from to) ≡ base + to
far base from to ff ft below = elim (cases_lt to from) [
  | inl back ↦
      let e : nat_lt (distance from to) (2 ^ 31) ≡ false = le-ltb (distance from to) (2 ^ 31) (omega (arith, back, ff, ft)) in
      rw e (omega (arith, back, ff, ft, below))
  | inr on ↦
      let e : nat_lt (distance from to) (2 ^ 31) ≡ true = lt-ltb (distance from to) (2 ^ 31) (omega (arith, on, ff, ft)) in
      rw e (omega (arith, on, ff, ft, below))
]

pub place_below : (plan : Plan) (code : List Line) (o : Option (List Line)) → start_or_end plan code o ≤ size_of_all plan code
place_below plan code None = omega arith
place_below plan code (Some rest) = omega arith

-- a jump to a label
pub label_reached : (plan : Plan) (base : ℕ) (code rest : List Line) (to : ℕ) → size_of_all plan code < 2 ^ 31 → base + size_of_all plan code < 2 ^ 47
    → jumped (base + start plan code rest) (distances plan code rest to) ≡ base + start_or_end plan code (label to code)
label_reached plan base code rest to few low =
    let below = place_below plan code (label to code) in
    far base (start plan code rest) (start_or_end plan code (label to code)) (omega (arith, few)) (omega (arith, few, below)) (omega (arith, low, below))

pub label_canonical : (plan : Plan) (base : ℕ) (code rest : List Line) (to : ℕ) → size_of_all plan code < 2 ^ 31 → base + size_of_all plan code < 2 ^ 47
    → is_canonical (jumped (base + start plan code rest) (distances plan code rest to)) ≡ true
label_canonical plan base code rest to few low =
    let place = base + start_or_end plan code (label to code) in
    ap is_canonical (label_reached plan base code rest to few low) ∙ low_canonical place (omega (arith, low, place_below plan code (label to code)))

-- the same out
pub exit_reached : (plan : Plan) (base : ℕ) (code rest : List Line) → exit_of plan code < 2 ^ 31 → base + exit_of plan code < 2 ^ 47
    → jumped (base + start plan code rest) (distance_out plan code rest) ≡ base + exit_of plan code
exit_reached plan base code rest few low = far base (start plan code rest) (exit_of plan code) (omega (arith, few)) few (omega (arith, low))

-- the same to the indirect jump before it
pub shared_reached : (plan : Plan) (base : ℕ) (code rest : List Line) → exit_of plan code < 2 ^ 31 → base + exit_of plan code < 2 ^ 47
    → jumped (base + start plan code rest) (shared_jump (distance_out plan code rest)) ≡ base + size_of_all plan code + (4 + leave_size)
shared_reached plan base code rest few low =
    let to = size_of_all plan code + (4 + leave_size) in
    let from = start plan code rest in
    let same : shared_jump (distance_out plan code rest) ≡ distance from to = omega (arith, few) in
    ap (jumped (base + from)) same ∙ (far base from to (omega (arith, few)) (omega (arith, few)) (omega (arith, low)) ∙ omega arith)
