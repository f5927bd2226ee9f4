-- An instruction reads and writes at no other addresses than those of its access.
use Rattle.std.proofs.Common.{◌≡◌, ℕ, zero, suc, ◌+◌, ◌-◌, ◌/◌, ◌%◌, ◌^◌, ◌<◌, ◌≤◌, ◌&&◌, Bool, true, false, Option, Some, None, inl, inr, refl, sym, ap, ◌∙◌, subst, arith, if◌then◌else◌}
use Rattle.std.specs.Prelude.{Result, Ok, Err, nat_le, nat_lt}
use Rattle.std.proofs.lemmas.Bool.{and_parts, cases_Bool, leb-true, ltb-true}
use Rattle.x86_instr.specs.declared.operand.Operand.{Operand}
use Rattle.x86_instr.specs.declared.operand.Operand.TheVariants.{Reg, Mem}
use Rattle.x86_instr.specs.declared.instr.Narrow.{Narrow}
use Rattle.x86_instr.specs.declared.instr.Narrow.TheVariants.{Byte, Word}
use Rattle.x86_instr.specs.declared.instr.Width.{Width}
use Rattle.x86_instr.specs.declared.instr.Width.TheVariants.{Dword, Qword}
use Rattle.x86_instr.specs.declared.instr.AluOp.{AluOp}
use Rattle.x86_instr.specs.declared.instr.AluOp.TheVariants.{Add, Or, And, Sub, Xor, Cmp}
use Rattle.x86_instr.specs.declared.instr.Instr.{Instr}
use Rattle.x86_instr.specs.declared.instr.Instr.TheVariants.{Mov, MovStore, MovStoreByte, MovStoreWord, MovImm, MovExtended, Movsxd, Alu, AluImm, Test, Unary, ShiftImm, ShiftCl, Imul, Divide, Cdq, Setcc, Jcc, Jmp, JmpTo, Nop}
use Rattle.x86_step.specs.declared.machine.Flags.{Flags}
use Rattle.x86_step.specs.declared.machine.Computed.{Computed}
use Rattle.x86_step.specs.declared.machine.Stop.{Stop}
use Rattle.x86_step.specs.declared.machine.Stop.TheVariants.{Fault}
use Rattle.x86_step.specs.Accesses.{AccessesAreAll, Agree, ComeToTheSame}
use Rattle.x86_step.specs.State.{Core, may_write, joined, number_at, with_flags, with_memory, with_register, written}
unfoldable use Rattle.x86_step.specs.Step.{accessed, computes}
use Rattle.x86_step.specs.Step.{◌>>=◌, LiesIn, address, alu_finished, bytes_of, divided, effect, finished, found, goes_to, is_met, known, landed, loaded, narrow_bytes, narrow_value, operand_access, put, stored, value}

-- ==== Numbers.

number_same : (m k : ℕ → Option ℕ) (n at : ℕ) → ((a : ℕ) → at ≤ a → a < at + n → k a ≡ m a) → number_at k n at ≡ number_at m n at
number_same m k zero at same = refl
number_same m k (suc n) at same =
    ap (λ b. joined b (number_at k n (at + 1))) (same at (omega arith) (omega arith))
    ∙ ap (joined (m at)) (number_same m k n (at + 1) (λ a low high. same a (omega (arith, low)) (omega (arith, high))))

module _ (there : ℕ → Type 0) (memory : ℕ → Option ℕ) where
  -- ==== What is read.

  loaded_same : (c : Core) (n at : ℕ) → LiesIn there (Some (record { at = at; size = n })) → Agree there c.memory memory → loaded (with_memory c memory) n at ≡ loaded c n at
  loaded_same c n at lies agree =
      ap (λ v. if nat_le (at + n) (2 ^ 64) then found v else Err Fault) (number_same c.memory memory n at (λ a low high. agree a (lies a low high)))

  value_same : (c : Core) (w : Width) (o : Operand) → LiesIn there (operand_access c (bytes_of w) o) → Agree there c.memory memory → value (with_memory c memory) w o ≡ value c w o
  value_same c w (Reg r) lies agree = refl
  value_same c w (Mem a) lies agree = loaded_same c (bytes_of w) (address c a) lies agree

  narrow_same : (c : Core) (n : Narrow) (o : Operand) → LiesIn there (operand_access c (narrow_bytes n) o) → Agree there c.memory memory → narrow_value (with_memory c memory) n o ≡ narrow_value c n o
  narrow_same c Byte (Reg r) lies agree = refl
  narrow_same c Word (Reg r) lies agree = refl
  narrow_same c Byte (Mem a) lies agree = loaded_same c 1 (address c a) lies agree
  narrow_same c Word (Mem a) lies agree = loaded_same c 2 (address c a) lies agree

  -- ==== What comes of it.

  record Alike (first : ℕ → Option ℕ) (c d : Core) : Type 0 where
    registers : d.registers ≡ c.registers
    flags : d.flags ≡ c.flags
    agree : Agree there c.memory d.memory
    first_stays : (a : ℕ) → (there a → ⊥) → c.memory a ≡ first a
    second_stays : (a : ℕ) → (there a → ⊥) → d.memory a ≡ memory a

  abbrev Both : (ℕ → Option ℕ) → Result Core Stop → Result Core Stop → Type 0
  Both first (Ok c) (Ok d) = Alike first c d
  Both first (Err s) (Err e) = e ≡ s
  Both first _ _ = ⊥

  -- where memory isn't written
  unwritten : (c : Core) → Agree there c.memory memory → Alike c.memory c (with_memory c memory)
  unwritten c agree = record { registers = refl; flags = refl; agree = agree; first_stays = λ a no. refl; second_stays = λ a no. refl }

  after_same : {A : Type 0} (first : ℕ → Option ℕ) (r q : Result A Stop) (f g : A → Result Core Stop) → q ≡ r → ((x : A) → Both first (f x) (g x)) → Both first (r >>= f) (q >>= g)
  after_same first (Ok x) q f g is both = subst (λ q. Both first (f x) (q >>= g)) (sym is) (both x)
  after_same first (Err s) q f g is both = subst (λ q. Both first (Err s) (q >>= g)) (sym is) refl

  stays_by : (m : ℕ → Option ℕ) (n at v a : ℕ) → LiesIn there (Some (record { at = at; size = n })) → (there a → ⊥) → written m n at v a ≡ m a
  stays_by m n at v a lies outside = elim (cases_Bool (nat_le at a && nat_lt a (at + n))) [
    | inl e ↦ let parts = and_parts _ _ e in absurd (outside (lies a (leb-true at a parts.0) (ltb-true a (at + n) parts.1)))
    | inr e ↦ rw e refl
  ]

  written_alike : (c : Core) (n at v : ℕ) (may : Bool) → LiesIn there (Some (record { at = at; size = n })) → Agree there c.memory memory
      → Both c.memory (if may then Ok (with_memory c (written c.memory n at v)) else Err Fault) (if may then Ok (with_memory c (written memory n at v)) else Err Fault)
  written_alike c n at v false lies agree = refl
  written_alike c n at v true lies agree = record {
    registers = refl;
    flags = refl;
    agree = λ a is. ap (λ b. if nat_le at a && nat_lt a (at + n) then Some (v / 256 ^ (a - at) % 256) else b) (agree a is);
    first_stays = λ a no. stays_by c.memory n at v a lies no;
    second_stays = λ a no. stays_by memory n at v a lies no;
  }

  stored_same : (c : Core) (n at v : ℕ) → LiesIn there (Some (record { at = at; size = n })) → Agree there c.memory memory → Both c.memory (stored c n at v) (stored (with_memory c memory) n at v)
  stored_same c n at v lies agree = after_same c.memory (loaded c n at) (loaded (with_memory c memory) n at) _ _ (loaded_same c n at lies agree) (λ old. written_alike c n at v (may_write c.writable n at) lies agree)

  put_same : (c : Core) (w : Width) (o : Operand) (v : ℕ) → LiesIn there (operand_access c (bytes_of w) o) → Agree there c.memory memory → Both c.memory (put c w o v) (put (with_memory c memory) w o v)
  put_same c w (Reg r) v lies agree = unwritten (with_register c _ v) agree
  put_same c w (Mem a) v lies agree = stored_same c (bytes_of w) (address c a) v lies agree

  flags_same : (first : ℕ → Option ℕ) (r q : Result Core Stop) (f : Flags) → Both first r q → Both first (r >>= λ d. Ok (with_flags d f)) (q >>= λ d. Ok (with_flags d f))
  flags_same first (Ok c) (Ok d) f both = record { registers = both.registers; flags = refl; agree = both.agree; first_stays = both.first_stays; second_stays = both.second_stays }
  flags_same first (Err s) (Err e) f both = both
  flags_same first (Ok c) (Err e) f both = absurd both
  flags_same first (Err s) (Ok d) f both = absurd both

  finished_same : (c : Core) (w : Width) (o : Operand) (r : Computed) → LiesIn there (operand_access c (bytes_of w) o) → Agree there c.memory memory → Both c.memory (finished c w o r) (finished (with_memory c memory) w o r)
  finished_same c w o r lies agree = flags_same c.memory (put c w o r.result) (put (with_memory c memory) w o r.result) r.flags (put_same c w o r.result lies agree)

  alu_same : (op : AluOp) (c : Core) (w : Width) (o : Operand) (r : Computed) → LiesIn there (operand_access c (bytes_of w) o) → Agree there c.memory memory → Both c.memory (alu_finished op c w o r) (alu_finished op (with_memory c memory) w o r)
  alu_same Add c w o r lies agree = finished_same c w o r lies agree
  alu_same Or c w o r lies agree = finished_same c w o r lies agree
  alu_same And c w o r lies agree = finished_same c w o r lies agree
  alu_same Sub c w o r lies agree = finished_same c w o r lies agree
  alu_same Xor c w o r lies agree = finished_same c w o r lies agree
  alu_same Cmp c w o r lies agree = unwritten (with_flags c r.flags) agree

  divided_same : (c : Core) (p : Option (ℕ × ℕ)) → Agree there c.memory memory → Both c.memory (divided c p) (divided (with_memory c memory) p)
  divided_same c None agree = refl
  divided_same c (Some p) agree = unwritten _ agree

  computes_same : (i : Instr) (c : Core) → LiesIn there (accessed i c) → Agree there c.memory memory → Both c.memory (computes i c) (computes i (with_memory c memory))
  unfolding accessed computes
  computes_same (Mov w dst src) c lies agree = after_same c.memory (value c w src) _ _ _ (value_same c w src lies agree) (λ v. unwritten (with_register c _ v) agree)
  computes_same (MovStore w dst src) c lies agree = stored_same c _ _ _ lies agree
  computes_same (MovStoreByte dst src) c lies agree = stored_same c _ _ _ lies agree
  computes_same (MovStoreWord dst src) c lies agree = stored_same c _ _ _ lies agree
  computes_same (MovImm dst imm) c lies agree = unwritten (with_register c _ imm) agree
  computes_same (MovExtended e from dst src) c lies agree = after_same c.memory (narrow_value c from src) _ _ _ (narrow_same c from src lies agree) (λ v. unwritten (with_register c _ _) agree)
  computes_same (Movsxd dst src) c lies agree = after_same c.memory (value c Dword src) _ _ _ (value_same c Dword src lies agree) (λ v. unwritten (with_register c _ _) agree)
  computes_same (Alu op w dst src) c lies agree = after_same c.memory (value c w src) _ _ _ (value_same c w src lies agree) (λ b. alu_same op c w (Reg dst) _ tt agree)
  computes_same (AluImm op w dst imm) c lies agree = after_same c.memory (value c w dst) _ _ _ (value_same c w dst lies agree) (λ a. alu_same op c w dst _ lies agree)
  computes_same (Test a b) c lies agree = unwritten (with_flags c _) agree
  computes_same (Unary op dst) c lies agree = after_same c.memory (value c Dword dst) _ _ _ (value_same c Dword dst lies agree) (λ a. finished_same c Dword dst _ lies agree)
  computes_same (ShiftImm op w dst amount) c lies agree = after_same c.memory (value c w dst) _ _ _ (value_same c w dst lies agree) (λ a. finished_same c w dst _ lies agree)
  computes_same (ShiftCl op dst) c lies agree = finished_same c Dword (Reg dst) _ tt agree
  computes_same (Imul w dst src) c lies agree = after_same c.memory (value c w src) _ _ _ (value_same c w src lies agree) (λ b. finished_same c w (Reg dst) _ tt agree)
  computes_same (Divide op src) c lies agree = divided_same c _ agree
  computes_same Cdq c lies agree = unwritten (with_register c 2 _) agree
  computes_same (Setcc condition dst) c lies agree = after_same c.memory (known (is_met condition c.flags)) _ _ _ refl (λ b. unwritten (with_register c _ _) agree)
  computes_same (Jcc condition distance) c lies agree = unwritten c agree
  computes_same (Jmp distance) c lies agree = unwritten c agree
  computes_same (JmpTo target) c lies agree = unwritten c agree
  computes_same (Nop size) c lies agree = unwritten c agree

  -- ==== Where it goes.

  goes_same : (i : Instr) (after : ℕ) (c : Core) → LiesIn there (accessed i c) → Agree there c.memory memory → goes_to i after (with_memory c memory) ≡ goes_to i after c
  unfolding accessed
  goes_same (JmpTo target) after c lies agree = ap (λ r. r >>= landed) (value_same c Qword target lies agree)
  goes_same i after c lies agree = refl

  joined_same : (c : Core) (to : Result ℕ Stop) (r q : Result Core Stop) → Both c.memory r q
      → ComeToTheSame there c (with_memory c memory) (to >>= λ t. r >>= λ d. Ok (record { rip = t; core = d })) (to >>= λ t. q >>= λ d. Ok (record { rip = t; core = d }))
  joined_same c (Err s) r q both = refl
  joined_same c (Ok t) (Ok d) (Ok e) both = record {
    rip = refl;
    registers = both.registers;
    flags = both.flags;
    memory = both.agree;
    first_stays = both.first_stays;
    second_stays = both.second_stays;
  }
  joined_same c (Ok t) (Err s) (Err e) both = both
  joined_same c (Ok t) (Ok d) (Err e) both = absurd both
  joined_same c (Ok t) (Err s) (Ok e) both = absurd both

pub accesses_are_all : AccessesAreAll
accesses_are_all there i after c memory lies agree =
    subst (λ to. ComeToTheSame there c (with_memory c memory) (effect i after c) (to >>= λ t. computes i (with_memory c memory) >>= λ d. Ok (record { rip = t; core = d }))) (sym (goes_same there memory i after c lies agree))
    (joined_same there memory c (goes_to i after c) (computes i c) (computes i (with_memory c memory)) (computes_same there memory i c lies agree))
