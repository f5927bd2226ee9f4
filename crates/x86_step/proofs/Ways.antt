-- A way out of a text in memory that has bytes at some addresses alone is one in each memory that has these, and accesses no others.
use Rattle.std.proofs.Common.{zero, suc, ◌≡◌, ℕ, ◌+◌, ◌-◌, Bool, true, false, List, [], ◌∷◌, Option, Some, None, inl, inr, ⊎_elim, length, drop, refl, sym, ap, ◌∙◌, subst, arith, if◌then◌else◌}
use Rattle.std.specs.Prelude.{Result, Ok, Err, IfOk, nat_le}
use Rattle.std.proofs.lemmas.Bool.{le-leb}
use Rattle.x86_instr.specs.declared.operand.Operand.{Operand}
use Rattle.x86_instr.specs.declared.operand.Operand.TheVariants.{Reg, Mem}
use Rattle.x86_instr.specs.declared.instr.Instr.{Instr}
use Rattle.x86_instr.specs.declared.instr.Instr.TheVariants.{Mov, MovExtended, Movsxd, Alu, AluImm, Unary, ShiftImm, Imul, JmpTo}
use Rattle.x86_instr.specs.Decoding.{Decoded, decode}
use Rattle.x86_step.specs.declared.machine.Stop.{Stop}
use Rattle.x86_step.specs.declared.machine.Stop.TheVariants.{Fault, NoInstruction}
use Rattle.x86_step.specs.Accesses.{Agree, ComeToTheSame, HasNoOthers, WaysOutAccessNoOthers}
use Rattle.x86_step.specs.State.{Core, Fixup, IsIn, Machine, Span, Text, with_memory}
use Rattle.x86_step.specs.Step.{IsHandled, LiesIn, Steps, stay, go, resume, access_of, bytes_of, done, narrow_bytes, operand_access, resumed}
unfoldable use Rattle.x86_step.specs.Step.{accessed, next_access, step}
use Rattle.x86_step.proofs.Accesses.{accesses_are_all}
use Rattle.x86_step.proofs.Fixed.{step_keeps}
use Rattle.x86_step.proofs.Missing.{Has, done_has_all}

-- ==== The end of a text.

drop_all : (bytes : List ℕ) → drop (length bytes) bytes ≡ []
drop_all [] = refl
drop_all (b ∷ bytes) = drop_all bytes

-- no instruction is there
pub stops : (t : Text) (m : Machine) → m.rip ≡ t.base + length t.bytes → step t m ≡ Err NoInstruction
unfolding step
stops t m at =
    let low : nat_le t.base m.rip ≡ true = le-leb t.base m.rip (omega (arith, at)) in
    let all : drop (m.rip - t.base) t.bytes ≡ [] = ap (λ n. drop n t.bytes) (omega (arith, at)) ∙ drop_all t.bytes in
    rw (low, all) refl

none_next : (t : Text) (m : Machine) → m.rip ≡ t.base + length t.bytes → next_access t m ≡ None
unfolding next_access
none_next t m at =
    let low : nat_le t.base m.rip ≡ true = le-leb t.base m.rip (omega (arith, at)) in
    let all : drop (m.rip - t.base) t.bytes ≡ [] = ap (λ n. drop n t.bytes) (omega (arith, at)) ∙ drop_all t.bytes in
    rw (low, all) refl

-- ==== One step.

-- with other memory
abbrev other : Machine → (ℕ → Option ℕ) → Machine
other m memory = record { rip = m.rip; core = with_memory m.core memory }

read_has : (there : Bool) (d : Option Decoded) (n : ℕ) (m : Machine)
    → IfOk (if there then done d n m else Err NoInstruction) (λ k. LiesIn (Has m.core) (if there then access_of d m.core else None))
read_has true None n m = tt
read_has true (Some d) n m = done_has_all d.instr (m.rip + (n - length d.rest)) m.core
read_has false d n m = tt

step_has : (t : Text) (m : Machine) → IfOk (step t m) (λ k. LiesIn (Has m.core) (next_access t m))
unfolding step next_access
step_has t m =
    let bytes = drop (m.rip - t.base) t.bytes in
    read_has (nat_le t.base m.rip) (decode bytes) (length bytes) m

operand_same : (c : Core) (memory : ℕ → Option ℕ) (n : ℕ) (o : Operand) → operand_access (with_memory c memory) n o ≡ operand_access c n o
operand_same c memory n (Reg r) = refl
operand_same c memory n (Mem a) = refl

accessed_same : (c : Core) (memory : ℕ → Option ℕ) (i : Instr) → accessed i (with_memory c memory) ≡ accessed i c
unfolding accessed
accessed_same c memory (Mov w dst src) = operand_same c memory (bytes_of w) src
accessed_same c memory (MovExtended e from dst src) = operand_same c memory (narrow_bytes from) src
accessed_same c memory (Movsxd dst src) = operand_same c memory 4 src
accessed_same c memory (Alu op w dst src) = operand_same c memory (bytes_of w) src
accessed_same c memory (AluImm op w dst imm) = operand_same c memory (bytes_of w) dst
accessed_same c memory (Unary op dst) = operand_same c memory 4 dst
accessed_same c memory (ShiftImm op w dst amount) = operand_same c memory (bytes_of w) dst
accessed_same c memory (Imul w dst src) = operand_same c memory (bytes_of w) src
accessed_same c memory (JmpTo target) = operand_same c memory 8 target
accessed_same c memory i = refl

read_same : (there : Bool) (d : Option Decoded) (c : Core) (memory : ℕ → Option ℕ)
    → (if there then access_of d (with_memory c memory) else None) ≡ (if there then access_of d c else None)
read_same true None c memory = refl
read_same true (Some d) c memory = accessed_same c memory d.instr
read_same false d c memory = refl

-- the access doesn't depend on memory
next_same : (t : Text) (m : Machine) (memory : ℕ → Option ℕ) → next_access t (other m memory) ≡ next_access t m
unfolding next_access
next_same t m memory = read_same (nat_le t.base m.rip) (decode (drop (m.rip - t.base) t.bytes)) m.core memory

module _ (there : ℕ → Type 0) where
  abbrev Same : Machine → (ℕ → Option ℕ) → Result Machine Stop → Result Machine Stop → Type 0
  Same m memory r q = ComeToTheSame there m.core (with_memory m.core memory) r q

  both_read : (reads : Bool) (d : Option Decoded) (n : ℕ) (m : Machine) (memory : ℕ → Option ℕ)
      → LiesIn there (if reads then access_of d m.core else None) → Agree there m.core.memory memory
      → Same m memory (if reads then done d n m else Err NoInstruction) (if reads then done d n (other m memory) else Err NoInstruction)
  both_read true None n m memory lies agree = refl
  both_read true (Some d) n m memory lies agree = accesses_are_all there d.instr (m.rip + (n - length d.rest)) m.core memory lies agree
  both_read false d n m memory lies agree = refl

  step_same : (t : Text) (m : Machine) (memory : ℕ → Option ℕ) → LiesIn there (next_access t m) → Agree there m.core.memory memory → Same m memory (step t m) (step t (other m memory))
  unfolding step next_access
  step_same t m memory lies agree =
      let bytes = drop (m.rip - t.base) t.bytes in
      both_read (nat_le t.base m.rip) (decode bytes) (length bytes) m memory lies agree

  lies_there : (c : Core) → HasNoOthers there c.memory → (access : Option Span) → LiesIn (Has c) access → LiesIn there access
  lies_there c only None has = tt
  lies_there c only (Some access) has =
      λ a low high. ⊎_elim (λ (is : there a). is) (λ (none : c.memory a ≡ None). absurd (has a low high none)) (only a)

-- a byte that isn't there isn't written
stays_missing : (t : Text) (m n : Machine) (a : ℕ) → step t m ≡ Ok n → m.core.memory a ≡ None → n.core.memory a ≡ None
stays_missing t m n a does none =
    let has = subst (λ r. IfOk r (λ k. LiesIn (Has m.core) (next_access t m))) does (step_has t m) in
    let same = step_same (Has m.core) t m m.core.memory has (λ b there. refl) in
    let own = subst (λ r. ComeToTheSame (Has m.core) m.core m.core r r) does same in
    own.first_stays a (λ is. is none) ∙ none

machine_is : (n o : Machine) → o.rip ≡ n.rip → o.core.registers ≡ n.core.registers → o.core.flags ≡ n.core.flags → o.core.writable ≡ n.core.writable → o ≡ other n o.core.memory
machine_is n o rip registers flags writable =
    ap (λ r. record { rip = r; core = o.core }) rip
    ∙ ap (λ r. record { rip = n.rip; core = record { registers = r; flags = o.core.flags; memory = o.core.memory; writable = o.core.writable } }) registers
    ∙ ap (λ f. record { rip = n.rip; core = record { registers = n.core.registers; flags = f; memory = o.core.memory; writable = o.core.writable } }) flags
    ∙ ap (λ w. record { rip = n.rip; core = record { registers = n.core.registers; flags = n.core.flags; memory = o.core.memory; writable = w } }) writable

-- ==== The way.

module _ (there : ℕ → Type 0) (t : Text) (handles : (a : ℕ) → IsIn t.handled a → there a) where
  -- the second has the bytes of the first, which has no others
  record Extends (m d : Machine) : Type 0 where
    is : d ≡ other m d.core.memory
    only : HasNoOthers there m.core.memory
    agree : Agree there m.core.memory d.core.memory

  done_lies : (m n : Machine) → HasNoOthers there m.core.memory → step t m ≡ Ok n → LiesIn there (next_access t m)
  done_lies m n only does = lies_there there m.core only (next_access t m) (subst (λ r. IfOk r (λ k. LiesIn (Has m.core) (next_access t m))) does (step_has t m))

  handled_lies : (access : Option Span) → IsHandled t.handled access → LiesIn there access
  handled_lies None lies = absurd lies
  handled_lies (Some access) lies = λ a low high. handles a (lies a low high)

  there_too : (m d : Machine) → Extends m d → LiesIn there (next_access t m) → LiesIn there (next_access t d)
  there_too m d both lies =
      subst (λ k. LiesIn there (next_access t k)) (sym both.is) (subst (λ access. LiesIn there access) (sym (next_same t m d.core.memory)) lies)

  both_step : (m d : Machine) → Extends m d → LiesIn there (next_access t m) → Same there m d.core.memory (step t m) (step t d)
  both_step m d both lies = subst (λ k. Same there m d.core.memory (step t m) (step t k)) (sym both.is) (step_same there t m d.core.memory lies both.agree)

  rip_is : (m d : Machine) → Extends m d → d.rip ≡ m.rip
  rip_is m d both = ap (λ k. k.rip) both.is

  goes_on : (m d n o : Machine) → Extends m d → step t m ≡ Ok n → step t d ≡ Ok o → Extends n o
  goes_on m d n o both does too =
      let lies = done_lies m n both.only does in
      let same = subst (λ q. Same there m d.core.memory (Ok n) q) too (subst (λ r. Same there m d.core.memory r (step t d)) does (both_step m d both lies)) in
      let first = subst (λ r. IfOk r (λ k. k.core.writable ≡ m.core.writable)) does (step_keeps t m) in
      let later = subst (λ r. IfOk r (λ k. k.core.writable ≡ d.core.writable)) too (step_keeps t d) in
      record {
        is = machine_is n o same.rip same.registers same.flags (later ∙ ap (λ k. k.core.writable) both.is ∙ sym first);
        only = λ a. ⊎_elim (λ (is : there a). inl is) (λ (none : m.core.memory a ≡ None). inr (stays_missing t m n a does none)) (both.only a);
        agree = same.memory;
      }

  resumes : (m d : Machine) (f : Fixup) → Extends m d → Extends (resumed f m.core) (resumed f d.core)
  resumes m d f both = record { is = ap (λ k. resumed f k.core) both.is; only = both.only; agree = both.agree }

  one_fault : (m d o : Machine) → Extends m d → LiesIn there (next_access t m) → step t m ≡ Err Fault → step t d ≡ Ok o → ⊥
  one_fault m d o both lies faults does =
      subst (λ q. Same there m d.core.memory (Err Fault) q) does (subst (λ r. Same there m d.core.memory r (step t d)) faults (both_step m d both lies))

  one_done : (m d n : Machine) → Extends m d → step t m ≡ Ok n → step t d ≡ Err Fault → ⊥
  one_done m d n both does faults =
      subst (λ q. Same there m d.core.memory (Ok n) q) faults (subst (λ r. Same there m d.core.memory r (step t d)) does (both_step m d both (done_lies m n both.only does)))

  same_fixup : (m d : Machine) (f h : Fixup) → Extends m d → t.fixups m.rip ≡ Some f → t.fixups d.rip ≡ Some h → h ≡ f
  same_fixup m d f h both one two = let e : Some h ≡ Some f = sym two ∙ ap t.fixups (rip_is m d both) ∙ one in cc

  no_step : (d : Machine) (r : Result Machine Stop) → d.rip ≡ t.base + length t.bytes → step t d ≡ r → r ≡ Err NoInstruction
  no_step d r at is = sym is ∙ stops t d at

  way : (a b : ℕ) (m d out k : Machine) → Extends m d → Steps t a m out → Steps t b d k → out.rip ≡ t.base + length t.bytes → LiesIn there (next_access t k)
  way zero zero m d out k both (stay _) (stay _) at =
      subst (λ access. LiesIn there access) (sym (none_next t d (rip_is m d both ∙ at))) tt
  way zero (suc b) m d out k both (stay _) (go _ _ o _ does more) at =
      let clash : Ok o ≡ Err NoInstruction = no_step d (Ok o) (rip_is m d both ∙ at) does in cc
  way zero (suc b) m d out k both (stay _) (resume _ _ _ f faults has lies more) at =
      let clash : Err Fault ≡ Err NoInstruction = no_step d (Err Fault) (rip_is m d both ∙ at) faults in cc
  way (suc a) zero m d out k both (go _ _ n _ does more) (stay _) at = there_too m d both (done_lies m n both.only does)
  way (suc a) zero m d out k both (resume _ _ _ f faults has lies more) (stay _) at = there_too m d both (handled_lies (next_access t m) lies)
  way (suc a) (suc b) m d out k both (go _ _ n _ does more) (go _ _ o _ too others) at = way a b n o out k (goes_on m d n o both does too) more others at
  way (suc a) (suc b) m d out k both (go _ _ n _ does more) (resume _ _ _ f faults has lies others) at = absurd (one_done m d n both does faults)
  way (suc a) (suc b) m d out k both (resume _ _ _ f faults has lies more) (go _ _ o _ does others) at =
      absurd (one_fault m d o both (handled_lies (next_access t m) lies) faults does)
  way (suc a) (suc b) m d out k both (resume _ _ _ f faults has lies more) (resume _ _ _ h too is lie others) at =
      way a b (resumed f m.core) (resumed f d.core) out k (resumes m d f both) more (subst (λ x. Steps t b (resumed x d.core) k) (same_fixup m d f h both has is) others) at

pub ways_out_access_no_others : WaysOutAccessNoOthers
ways_out_access_no_others there t most m out memory comes_out at only handles agree most_there k reached =
    way there t handles comes_out.count reached.count m (other m memory) out k (record { is = refl; only = only; agree = agree }) comes_out.steps reached.steps at
