-- Where a step of a line leads, and where the processor then is.
use Rattle.std.proofs.Common.{append_assoc, ◌++◌, ◌&&◌, None, ◌≡◌, ℕ, ◌+◌, Bool, true, false, List, [], ◌∷◌, Option, Some, refl, sym, ◌∙◌, if◌then◌else◌, not}
use Rattle.std.proofs.lemmas.Bool.{false≢true}
use Rattle.rv_word.specs.declared.instr.Instr.{Instr}
use Rattle.rv_word.specs.declared.instr.Instr.TheVariants.{Op, OpImm, Load, Store, Branch, Jal, Jalr, Lui, Auipc, Fence, Ecall, Ebreak}
use Rattle.sfi_image.specs.Spelling.{Part}
use Rattle.sfi_translate.specs.Lines.{Line, Does}
use Rattle.sfi_translate.specs.Machine.{Assembly, Before, Going, Loop, Lost, Slow, before_or, label, line_step}
use Rattle.x86_step.specs.State.{Machine}
use Rattle.x86_step.specs.Step.{jumped}
use Rattle.sfi_native.specs.declared.plan.Plan.{Plan}
use Rattle.sfi_native.specs.Entries.{entry_of}
use Rattle.sfi_native.specs.Laws.{IsCovered}
use Rattle.sfi_native.specs.Places.{AreLast, IsAtPlace, exit_of, start, start_or_end}

pub same_lines : (rest to : List Line) → Before rest ≡ Before to → to ≡ rest
same_lines rest to e = cc

-- where a processor is after a jump
pub jump_at : (plan : Plan) (base : ℕ) (code : List Line) (pc : ℕ) (m : Machine) (end exit label : ℕ) (tested short : Bool) (o : Option (List Line)) (to : ℕ)
    → ((rest : List Line) → o ≡ Some rest → AreLast code rest)
    → jumped end label ≡ base + start_or_end plan code o → jumped end exit ≡ base + exit_of plan code
    → m.rip ≡ jumped end (if tested && short then exit else label) → (tested && short ≡ true → m.core.registers 2 ≡ to) → to ≡ pc
    → IsCovered (if tested then (if short then Slow else before_or Lost o) else before_or Lost o)
    → IsAtPlace plan base code (if tested then (if short then Slow else before_or Lost o) else before_or Lost o) pc m
jump_at plan base code pc m end exit label true true o to last near out rip edx pc_is covered = (rip ∙ out, edx refl ∙ pc_is)
jump_at plan base code pc m end exit label true false (Some rest) to last near out rip edx pc_is covered = (rip ∙ near, last rest refl)
jump_at plan base code pc m end exit label false short (Some rest) to last near out rip edx pc_is covered = (rip ∙ near, last rest refl)
jump_at plan base code pc m end exit label true false None to last near out rip edx pc_is covered = absurd covered
jump_at plan base code pc m end exit label false short None to last near out rip edx pc_is covered = absurd covered

-- where it is after a jump to an address in edx
pub entered_at : (plan : Plan) (base : ℕ) (code : List Line) (to : ℕ) (m : Machine) (end exit : ℕ) (short whole start : Bool) (o : Option (List Line))
    → ((rest : List Line) → o ≡ Some rest → AreLast code rest) → jumped end exit ≡ base + exit_of plan code
    → m.rip ≡ (if short then jumped end exit else if start then base + entry_of plan code o else jumped end exit) → m.core.registers 2 ≡ to
    → (start ≡ true → whole ≡ true) → (whole ≡ true → start ≡ false → (rest : List Line) → o ≡ Some rest → ⊥)
    → IsAtPlace plan base code (if short then Slow else (if not whole then Slow else before_or Slow o)) to m
entered_at plan base code to m end exit true whole start o last out rip edx starts within = (rip ∙ out, edx)
entered_at plan base code to m end exit false true true (Some rest) last out rip edx starts within = (rip, last rest refl)
entered_at plan base code to m end exit false true true None last out rip edx starts within = (rip, edx)
entered_at plan base code to m end exit false true false (Some rest) last out rip edx starts within = absurd (within refl refl rest refl)
entered_at plan base code to m end exit false true false None last out rip edx starts within = (rip ∙ out, edx)
entered_at plan base code to m end exit false false true o last out rip edx starts within = absurd (false≢true (starts refl))
entered_at plan base code to m end exit false false false o last out rip edx starts within = (rip ∙ out, edx)

pub of_done : (done : Bool) (one other : Going) (to : List Line) → done ≡ true → (if done then one else other).place ≡ Before to → one.place ≡ Before to
of_done true one other to is e = e
of_done false one other to is e = absurd (false≢true is)

-- what isn't done leads to a slow step
pub not_before : (done : Bool) (one other : Going) (to : List Line) → done ≡ false → other.place ≡ Slow → (if done then one else other).place ≡ Before to → ⊥
not_before true one other to is slow e = false≢true (sym is)
not_before false one other to is slow e = let clash : Slow ≡ Before to = sym slow ∙ e in cc

-- what is done leads to lines
pub not_slow : (done : Bool) (one other : Going) (rest : List Line) → done ≡ true → one.place ≡ Before rest → (if done then one else other).place ≡ Slow → ⊥
not_slow true one other rest is before e = let clash : Before rest ≡ Slow = sym before ∙ e in cc
not_slow false one other rest is before e = absurd (false≢true is)

abbrev pub is_jump_line : Instr → Bool
is_jump_line (Branch cond rs1 rs2 offset) = true
is_jump_line (Jal rd offset) = true
is_jump_line (Jalr rd rs1 imm) = true
is_jump_line i = false

pub slow_result : (done : Bool) (one other : Going) → done ≡ false → (if done then one else other) ≡ other
slow_result true one other is = absurd (false≢true (sym is))
slow_result false one other is = refl

-- no line but a jump leads to the loop
neither : (done : Bool) (one other : Going) (rest : List Line) → one.place ≡ Before rest → other.place ≡ Slow → (if done then one else other).place ≡ Loop → ⊥
neither true one other rest a b e = let clash : Before rest ≡ Loop = sym a ∙ e in cc
neither false one other rest a b e = let clash : Slow ≡ Loop = sym b ∙ e in cc

pub no_loop : (p : Part) (code rest : List Line) (g : Going) (address n : ℕ) (i : Instr) → is_jump_line i ≡ false
    → (line_step Assembly p code (Does address n i ∷ rest) g).place ≡ Loop → ⊥
no_loop p code rest g address n (Load kind rd rs1 imm) none e = neither _ _ _ rest refl refl e
no_loop p code rest g address n (Store width rs1 rs2 imm) none e = neither _ _ _ rest refl refl e
no_loop p code rest g address n (Jalr rd rs1 imm) none e = absurd (false≢true (sym none))
no_loop p code rest g address n (Branch cond rs1 rs2 offset) none e = absurd (false≢true (sym none))
no_loop p code rest g address n (Jal rd offset) none e = absurd (false≢true (sym none))
no_loop p code rest g address n Ecall none e = absurd (cc)
no_loop p code rest g address n Ebreak none e = absurd (cc)
no_loop p code rest g address n (Op op rd rs1 rs2) none e = absurd (cc)
no_loop p code rest g address n (OpImm op rd rs1 imm) none e = absurd (cc)
no_loop p code rest g address n (Lui rd imm) none e = absurd (cc)
no_loop p code rest g address n (Auipc rd imm) none e = absurd (cc)
no_loop p code rest g address n (Fence imm rd rs1) none e = absurd (cc)

-- the lines behind
pub tail_last : (code rest : List Line) (line : Line) → AreLast code (line ∷ rest) → AreLast code rest
tail_last code rest line last = record { front = last.front ++ (line ∷ []); is = last.is ∙ sym (append_assoc last.front (line ∷ []) rest) }
