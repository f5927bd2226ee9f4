-- An instruction that is done has all bytes of its access.
use Rattle.std.proofs.Common.{◌≡◌, ℕ, zero, suc, ◌+◌, ◌-◌, ◌^◌, ◌<◌, Bool, true, false, Option, Some, None, inl, inr, refl, sym, ap, ◌∙◌, arith, if◌then◌else◌}
use Rattle.std.specs.Prelude.{Result, Ok, Err, IfOk, nat_le}
use Rattle.std.proofs.lemmas.Bool.{cases_Bool}
use Rattle.x86_instr.specs.declared.operand.Operand.{Operand}
use Rattle.x86_instr.specs.declared.operand.Operand.TheVariants.{Reg, Mem}
use Rattle.x86_instr.specs.declared.instr.Narrow.{Narrow}
use Rattle.x86_instr.specs.declared.instr.Narrow.TheVariants.{Byte, Word}
use Rattle.x86_instr.specs.declared.instr.Width.{Width}
use Rattle.x86_instr.specs.declared.instr.Width.TheVariants.{Dword, Qword}
use Rattle.x86_instr.specs.declared.instr.Instr.{Instr}
use Rattle.x86_instr.specs.declared.instr.Instr.TheVariants.{Mov, MovStore, MovStoreByte, MovStoreWord, MovExtended, Movsxd, Alu, AluImm, Unary, ShiftImm, Imul, JmpTo}
use Rattle.x86_step.specs.declared.machine.Stop.{Stop}
use Rattle.x86_step.specs.declared.machine.Stop.TheVariants.{Fault}
use Rattle.x86_step.specs.State.{Core, joined, number_at}
unfoldable use Rattle.x86_step.specs.Step.{accessed, computes}
use Rattle.x86_step.specs.Step.{◌>>=◌, LiesIn, address, bytes_of, effect, found, goes_to, loaded, narrow_bytes, narrow_value, operand_access, stored, value}

-- ==== Bytes that aren't there.

joined_none : (o : Option ℕ) → joined o None ≡ None
joined_none None = refl
joined_none (Some b) = refl

-- no number has a byte that is missing
pub number_missing : (m : ℕ → Option ℕ) (n k at : ℕ) → k < n → m (at + k) ≡ None → number_at m n at ≡ None
number_missing m zero k at small none = absurd (omega (arith, small))
number_missing m (suc n) zero at small none =
    let z : at + 0 ≡ at = omega arith in
    let here : m at ≡ None = ap m (sym z) ∙ none in
    rw here refl
number_missing m (suc n) (suc k) at small none =
    let next : at + suc k ≡ at + 1 + k = omega arith in
    let rest : number_at m n (at + 1) ≡ None = number_missing m n k (at + 1) (omega (arith, small)) (ap m (sym next) ∙ none) in
    rw rest (joined_none (m at))

pub load_missing : (c : Core) (n at : ℕ) → number_at c.memory n at ≡ None → loaded c n at ≡ Err Fault
load_missing c n at none = elim (cases_Bool (nat_le (at + n) (2 ^ 64))) [
  | inl e ↦ rw (e, none) refl
  | inr e ↦ rw e refl
]

-- ==== Bytes that are there.

-- memory has a byte there
abbrev pub Has : Core → ℕ → Type 0
Has c a = c.memory a ≡ None → ⊥

-- where something is done, that holds
abbrev Shows : {A : Type 0} → Result A Stop → Type 0 → Type 0
Shows r P = IfOk r (λ x. P)

anyway : {A : Type 0} (P : Type 0) (r : Result A Stop) → P → Shows r P
anyway P (Ok x) holds = holds
anyway P (Err e) holds = tt

first : {A B : Type 0} (P : Type 0) (r : Result A Stop) (f : A → Result B Stop) → Shows r P → Shows (r >>= f) P
first P (Ok x) f shows = anyway P (f x) shows
first P (Err e) f shows = tt

second : {A B : Type 0} (P : Type 0) (r : Result A Stop) (f : A → Result B Stop) → ((x : A) → Shows (f x) P) → Shows (r >>= f) P
second P (Ok x) f shows = shows x
second P (Err e) f shows = tt

number_has : (c : Core) (n at : ℕ) (fits : Bool) (o : Option ℕ) → number_at c.memory n at ≡ o
    → Shows (if fits then found o else Err Fault) (LiesIn (Has c) (Some (record { at = at; size = n })))
number_has c n at true (Some v) is = λ a low high none.
    let place : at + (a - at) ≡ a = omega (arith, low) in
    let missing : number_at c.memory n at ≡ None = number_missing c.memory n (a - at) at (omega (arith, low, high)) (ap c.memory place ∙ none) in
    let clash : Some v ≡ None = sym is ∙ missing in
    cc
number_has c n at true None is = tt
number_has c n at false o is = tt

loaded_has : (c : Core) (n at : ℕ) → Shows (loaded c n at) (LiesIn (Has c) (Some (record { at = at; size = n })))
loaded_has c n at = number_has c n at (nat_le (at + n) (2 ^ 64)) (number_at c.memory n at) refl

stored_has : (c : Core) (n at v : ℕ) → Shows (stored c n at v) (LiesIn (Has c) (Some (record { at = at; size = n })))
stored_has c n at v = first _ (loaded c n at) _ (loaded_has c n at)

value_has : (c : Core) (w : Width) (o : Operand) → Shows (value c w o) (LiesIn (Has c) (operand_access c (bytes_of w) o))
value_has c w (Reg r) = tt
value_has c w (Mem a) = loaded_has c (bytes_of w) (address c a)

narrow_has : (c : Core) (n : Narrow) (o : Operand) → Shows (narrow_value c n o) (LiesIn (Has c) (operand_access c (narrow_bytes n) o))
narrow_has c Byte (Reg r) = tt
narrow_has c Word (Reg r) = tt
narrow_has c Byte (Mem a) = loaded_has c 1 (address c a)
narrow_has c Word (Mem a) = loaded_has c 2 (address c a)

-- ==== Instructions.

abbrev Computes : Instr → Core → Type 0
Computes i c = Shows (computes i c) (LiesIn (Has c) (accessed i c))

-- what computes goes on behind itself
computed : (i : Instr) (after : ℕ) (c : Core) → Computes i c → Shows (effect i after c) (LiesIn (Has c) (accessed i c))
computed i after c shows = second _ (goes_to i after c) _ (λ to. first _ (computes i c) _ shows)

pub done_has_all : (i : Instr) (after : ℕ) (c : Core) → IfOk (effect i after c) (λ n. LiesIn (Has c) (accessed i c))
unfolding accessed computes
done_has_all (Mov w dst src) after c = computed (Mov w dst src) after c (first _ (value c w src) _ (value_has c w src))
done_has_all (MovStore w dst src) after c = computed (MovStore w dst src) after c (stored_has c _ _ _)
done_has_all (MovStoreByte dst src) after c = computed (MovStoreByte dst src) after c (stored_has c _ _ _)
done_has_all (MovStoreWord dst src) after c = computed (MovStoreWord dst src) after c (stored_has c _ _ _)
done_has_all (MovExtended e from dst src) after c = computed (MovExtended e from dst src) after c (first _ (narrow_value c from src) _ (narrow_has c from src))
done_has_all (Movsxd dst src) after c = computed (Movsxd dst src) after c (first _ (value c Dword src) _ (value_has c Dword src))
done_has_all (Alu op w dst src) after c = computed (Alu op w dst src) after c (first _ (value c w src) _ (value_has c w src))
done_has_all (AluImm op w dst imm) after c = computed (AluImm op w dst imm) after c (first _ (value c w dst) _ (value_has c w dst))
done_has_all (Unary op dst) after c = computed (Unary op dst) after c (first _ (value c Dword dst) _ (value_has c Dword dst))
done_has_all (ShiftImm op w dst amount) after c = computed (ShiftImm op w dst amount) after c (first _ (value c w dst) _ (value_has c w dst))
done_has_all (Imul w dst src) after c = computed (Imul w dst src) after c (first _ (value c w src) _ (value_has c w src))
done_has_all (JmpTo target) after c = first _ (goes_to (JmpTo target) after c) _ (first _ (value c Qword target) _ (value_has c Qword target))
done_has_all i after c = anyway _ (effect i after c) tt
