-- No step changes what may be written, so that fixed code stays fixed.
use Rattle.std.proofs.Common.{zero, suc, ◌≡◌, ℕ, ◌+◌, ◌-◌, Bool, true, false, Option, Some, None, length, drop, refl, ap, ◌∙◌, subst, if◌then◌else◌}
use Rattle.std.specs.Prelude.{Result, Ok, Err, IfOk, nat_le}
use Rattle.x86_instr.specs.declared.operand.Operand.{Operand}
use Rattle.x86_instr.specs.declared.operand.Operand.TheVariants.{Reg, Mem}
use Rattle.x86_instr.specs.declared.instr.Width.{Width}
use Rattle.x86_instr.specs.declared.instr.Width.TheVariants.{Dword}
use Rattle.x86_instr.specs.declared.instr.AluOp.{AluOp}
use Rattle.x86_instr.specs.declared.instr.AluOp.TheVariants.{Add, Or, And, Sub, Xor, Cmp}
use Rattle.x86_instr.specs.declared.instr.Instr.{Instr}
use Rattle.x86_instr.specs.declared.instr.Instr.TheVariants.{Mov, MovStore, MovStoreByte, MovStoreWord, MovImm, MovExtended, Movsxd, Alu, AluImm, Test, Unary, ShiftImm, ShiftCl, Imul, Divide, Cdq, Setcc, Jcc, Jmp, JmpTo, Nop}
use Rattle.x86_instr.specs.Decoding.{Decoded, decode}
use Rattle.x86_step.specs.declared.machine.Flags.{Flags}
use Rattle.x86_step.specs.declared.machine.Computed.{Computed}
use Rattle.x86_step.specs.declared.machine.Stop.{Stop}
use Rattle.x86_step.specs.declared.machine.Stop.TheVariants.{Fault, NoInstruction}
use Rattle.x86_step.specs.Laws.{FixedStays}
use Rattle.x86_step.specs.State.{Core, Machine, Text, may_write, with_flags, with_memory, written}
use Rattle.x86_step.specs.Step.{◌>>=◌, Steps, stay, go, resume, address, alu_finished, bytes_of, computes, divided, done, finished, goes_to, is_met, known, loaded, low, narrow_value, product, put, register, resumed, step, stepped, stored, value}

abbrev pub Keeps : Core → Result Core Stop → Type 0
Keeps c r = IfOk r (λ d. d.writable ≡ c.writable)

after_keeps : {A : Type 0} (c : Core) (r : Result A Stop) (f : A → Result Core Stop) → ((x : A) → Keeps c (f x)) → Keeps c (r >>= f)
after_keeps c (Ok x) f keeps = keeps x
after_keeps c (Err e) f keeps = tt

memory_keeps : (c : Core) (b : Bool) (m : ℕ → Option ℕ) → Keeps c (if b then Ok (with_memory c m) else Err Fault)
memory_keeps c true m = refl
memory_keeps c false m = tt

stored_keeps : (c : Core) (n at v : ℕ) → Keeps c (stored c n at v)
stored_keeps c n at v = after_keeps c (loaded c n at) _ (λ old. memory_keeps c (may_write c.writable n at) (written c.memory n at v))

put_keeps : (c : Core) (w : Width) (o : Operand) (v : ℕ) → Keeps c (put c w o v)
put_keeps c w (Reg r) v = refl
put_keeps c w (Mem a) v = stored_keeps c (bytes_of w) (address c a) v

flags_keep : (c : Core) (r : Result Core Stop) (f : Flags) → Keeps c r → Keeps c (r >>= λ d. Ok (with_flags d f))
flags_keep c (Ok d) f keeps = keeps
flags_keep c (Err e) f keeps = tt

finished_keeps : (c : Core) (w : Width) (o : Operand) (r : Computed) → Keeps c (finished c w o r)
finished_keeps c w o r = flags_keep c (put c w o r.result) r.flags (put_keeps c w o r.result)

alu_keeps : (op : AluOp) (c : Core) (w : Width) (o : Operand) (r : Computed) → Keeps c (alu_finished op c w o r)
alu_keeps Add c w o r = finished_keeps c w o r
alu_keeps Or c w o r = finished_keeps c w o r
alu_keeps And c w o r = finished_keeps c w o r
alu_keeps Sub c w o r = finished_keeps c w o r
alu_keeps Xor c w o r = finished_keeps c w o r
alu_keeps Cmp c w o r = refl

divided_keeps : (c : Core) (p : Option (ℕ × ℕ)) → Keeps c (divided c p)
divided_keeps c None = tt
divided_keeps c (Some p) = refl

computes_keeps : (i : Instr) (c : Core) → Keeps c (computes i c)
unfolding computes
computes_keeps (Mov w dst src) c = after_keeps c (value c w src) _ (λ v. refl)
computes_keeps (MovStore w dst src) c = stored_keeps c _ _ _
computes_keeps (MovStoreByte dst src) c = stored_keeps c _ _ _
computes_keeps (MovStoreWord dst src) c = stored_keeps c _ _ _
computes_keeps (MovImm dst imm) c = refl
computes_keeps (MovExtended e from dst src) c = after_keeps c (narrow_value c from src) _ (λ v. refl)
computes_keeps (Movsxd dst src) c = after_keeps c (value c Dword src) _ (λ v. refl)
computes_keeps (Alu op w dst src) c = after_keeps c (value c w src) _ (λ b. alu_keeps op c w (Reg dst) _)
computes_keeps (AluImm op w dst imm) c = after_keeps c (value c w dst) _ (λ a. alu_keeps op c w dst _)
computes_keeps (Test a b) c = refl
computes_keeps (Unary op dst) c = after_keeps c (value c Dword dst) _ (λ a. finished_keeps c Dword dst _)
computes_keeps (ShiftImm op w dst amount) c = after_keeps c (value c w dst) _ (λ a. finished_keeps c w dst _)
computes_keeps (ShiftCl op dst) c = refl
computes_keeps (Imul w dst src) c = after_keeps c (value c w src) _ (λ b. finished_keeps c w (Reg dst) (product w (low w (register c dst)) b))
computes_keeps (Divide op src) c = divided_keeps c _
computes_keeps Cdq c = refl
computes_keeps (Setcc condition dst) c = after_keeps c (known (is_met condition c.flags)) _ (λ b. refl)
computes_keeps (Jcc condition distance) c = refl
computes_keeps (Jmp distance) c = refl
computes_keeps (JmpTo target) c = refl
computes_keeps (Nop size) c = refl

abbrev pub Leads : Core → Result Machine Stop → Type 0
Leads c r = IfOk r (λ n. n.core.writable ≡ c.writable)

goes_keeps : (c : Core) (to : Result ℕ Stop) (r : Result Core Stop) → Keeps c r
    → Leads c (to >>= λ t. r >>= λ d. Ok (record { rip = t; core = d }))
goes_keeps c (Ok t) (Ok d) keeps = keeps
goes_keeps c (Ok t) (Err e) keeps = tt
goes_keeps c (Err e) r keeps = tt

done_keeps : (d : Option Decoded) (n : ℕ) (m : Machine) → Leads m.core (done d n m)
done_keeps None n m = tt
done_keeps (Some d) n m = goes_keeps m.core (goes_to d.instr (m.rip + (n - length d.rest)) m.core) (computes d.instr m.core) (computes_keeps d.instr m.core)

at_text : (b : Bool) (c : Core) (r : Result Machine Stop) → Leads c r → Leads c (if b then r else Err NoInstruction)
at_text true c r leads = leads
at_text false c r leads = tt

pub step_keeps : (t : Text) (m : Machine) → Leads m.core (step t m)
unfolding step
step_keeps t m =
    let bytes = drop (m.rip - t.base) t.bytes in
    at_text (nat_le t.base m.rip) m.core (stepped bytes m) (done_keeps (decode bytes) (length bytes) m)

steps_keep : (t : Text) (steps : ℕ) (m k : Machine) → Steps t steps m k → k.core.writable ≡ m.core.writable
steps_keep t zero m k (stay n) = refl
steps_keep t (suc steps) m k (go _ a b z one more) = steps_keep t steps b z more ∙ subst (Leads a.core) one (step_keeps t a)
steps_keep t (suc steps) m k (resume _ a z f faults has lies more) = steps_keep t steps (resumed f a.core) z more

pub fixed_stays : FixedStays
fixed_stays t most m k reached = record {
  ends = reached.fixed.ends;
  apart = λ a low high. ap (λ w. w a) (steps_keep t reached.count m k reached.steps) ∙ reached.fixed.apart a low high;
}
