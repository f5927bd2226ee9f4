-- What a step comes to, and what it leaves of memory and registers.
use Rattle.rv_step.proofs.Prelude.{◌≡◌, ◌≢◌, ℕ, ◌-◌, ◌%◌, ◌^◌, ◌<◌, ◌⊎◌, inl, inr, Bool, true, false, cond, List, Option, Some, None, is_some, IsSome, refl, sym, ap, subst, ◌∙◌, arith, Contains, option_map, Instr, Op, OpImm, Load, Store, Branch, Jal, Jalr, Lui, Auipc, Fence, Ecall, Ebreak, LoadKind, offset_by, Front, Read, Short, Bad, Bytes, byte_at, bytes_at, addresses, number_of, loaded, stored, Next, Trap, OneStep, SomeStep, StepIsEffect, StepKeepsState, StoppedStays, OtherBytesStay, AccessedIsThere, Hart, State, IsHart, IsState, register, past, Stepped, next, unchanged, after_load, effect, bytes_at_pc, IsAtPc, after_front, register_op, load_size, store_size, ◌==◌, set, get_or, OtherRegistersStay, with_register, with_pc, is_taken}
use Rattle.rv_step.specs.Step.{Accesses}
use Rattle.rv_word.specs.Spelling.{InRange}
use Rattle.rv_word.specs.declared.instr.StoreWidth.{StoreWidth}
use Rattle.rv_step.specs.declared.outcome.Cause.TheVariants as cause
use Rattle.rv_step.proofs.States.{pc_is, after_is, register_is, moved_is, stored_is, loaded_fits, word_fits, offset_even, result_fits, extended_fits, branch_is_even, jump_is_even}
use Rattle.rv_comp.proofs.Facts.{one_front, some_front, spelled_in_range, two_lengths}
use Rattle.rv_mem.proofs.Facts.{addresses_are_these, others_stay, read_is_held}
use Rattle.rv_step.proofs.Standing.{at_pc_front}
use Rattle.rv_word.specs.Outlines.{unless_x0, written}
use Rattle.std.proofs.lemmas.List.{get_or-set_other}

-- ==== What a step comes to.

-- ---- one step

same_front : (s : State) (f g : Front) → IsAtPc s f → IsAtPc s g → f ≡ g
same_front s f g a b = one_front (bytes_at_pc s) f g ((at_pc_front s f).0 a) ((at_pc_front s g).0 b)

pub step_one : OneStep
step_one s r q a b =
    a.result ∙ ap (λ (f : Front). after_front f s.hart s.memory) (same_front s a.front b.front a.at_pc b.at_pc) ∙ sym b.result

pub effect_of : StepIsEffect
effect_of s i n r st step =
    step.result ∙ ap (λ (f : Front). after_front f s.hart s.memory) (same_front s step.front (Read i n) step.at_pc st)

pub step_some : SomeStep
step_some s =
    let here = some_front (bytes_at_pc s) in
    (after_front here.0 s.hart s.memory, record { front = here.0; at_pc = (at_pc_front s here.0).1 here.1; result = refl })

-- ---- a step that isn't done

load_stays : (o : Option ℕ) (kind : LoadKind) (rd at n : ℕ) (h : Hart) (m : Bytes) → (after_load o kind rd at n h m).outcome ≢ Next → (after_load o kind rd at n h m).state ≡ record { hart = h; memory = m }
load_stays None kind rd at n h m stopped = refl
load_stays (Some v) kind rd at n h m stopped = absurd (stopped refl)

store_stays : (b : Bool) (at : ℕ) (k : Hart) (w : Bytes) (h : Hart) (m : Bytes) → (cond b (next k w) (unchanged (Trap cause.Store at) h m)).outcome ≢ Next → (cond b (next k w) (unchanged (Trap cause.Store at) h m)).state ≡ record { hart = h; memory = m }
store_stays true at k w h m stopped = absurd (stopped refl)
store_stays false at k w h m stopped = refl

effect_stays : (i : Instr) (n : ℕ) (h : Hart) (m : Bytes) → (effect i n h m).outcome ≢ Next → (effect i n h m).state ≡ record { hart = h; memory = m }
effect_stays (Load kind rd rs1 imm) n h m stopped = load_stays (loaded m (offset_by (register h rs1) imm) (load_size kind)) kind rd _ n h m stopped
effect_stays (Store width rs1 rs2 imm) n h m stopped = store_stays (is_some (bytes_at m (addresses (offset_by (register h rs1) imm) (store_size width)))) _ _ _ h m stopped
effect_stays Ecall n h m stopped = refl
effect_stays Ebreak n h m stopped = refl
effect_stays _ n h m stopped = absurd (stopped refl)

front_stays : (f : Front) (h : Hart) (m : Bytes) → (after_front f h m).outcome ≢ Next → (after_front f h m).state ≡ record { hart = h; memory = m }
front_stays (Read i n) h m stopped = effect_stays i n h m stopped
front_stays Short h m stopped = refl
front_stays Bad h m stopped = refl

pub stays : StoppedStays
stays s r step stopped =
    ap (λ (x : Stepped). x.state) step.result
    ∙ front_stays step.front s.hart s.memory (λ done. stopped (ap (λ (x : Stepped). x.outcome) step.result ∙ done))

-- ---- what a step leaves of the memory

load_keeps : (o : Option ℕ) (kind : LoadKind) (rd at n : ℕ) (h : Hart) (m : Bytes) → (after_load o kind rd at n h m).state.memory ≡ m
load_keeps None kind rd at n h m = refl
load_keeps (Some v) kind rd at n h m = refl

store_keeps : (b : Bool) (at size v : ℕ) (k h : Hart) (m : Bytes) (q : ℕ) → (Contains (addresses at size) q → ⊥) → byte_at (cond b (next k (stored m at size v)) (unchanged (Trap cause.Store at) h m)).state.memory q ≡ byte_at m q
store_keeps true at size v k h m q apart = others_stay m (addresses at size) _ q apart
store_keeps false at size v k h m q apart = refl

effect_keeps : (i : Instr) (n : ℕ) (h : Hart) (m : Bytes) (q : ℕ) → (Accesses i h q → ⊥) → byte_at (effect i n h m).state.memory q ≡ byte_at m q
effect_keeps (Load kind rd rs1 imm) n h m q apart = ap (λ (w : Bytes). byte_at w q) (load_keeps (loaded m (offset_by (register h rs1) imm) (load_size kind)) kind rd _ n h m)
effect_keeps (Store width rs1 rs2 imm) n h m q apart = store_keeps (is_some (bytes_at m (addresses (offset_by (register h rs1) imm) (store_size width)))) _ (store_size width) _ _ h m q apart
effect_keeps _ n h m q apart = refl

pub other_bytes : OtherBytesStay
other_bytes s i n r q st step apart =
    ap (λ (x : Stepped). byte_at x.state.memory q) (effect_of s i n r st step) ∙ effect_keeps i n s.hart s.memory q apart

-- ---- what a step that is done found

load_found : (o : Option (List ℕ)) (kind : LoadKind) (rd at n : ℕ) (h : Hart) (m : Bytes) → (after_load (option_map number_of o) kind rd at n h m).outcome ≡ Next → IsSome o
load_found None kind rd at n h m done = absurd (cc)
load_found (Some bs) kind rd at n h m done = refl

store_found : (b : Bool) (at : ℕ) (k : Hart) (w : Bytes) (h : Hart) (m : Bytes) → (cond b (next k w) (unchanged (Trap cause.Store at) h m)).outcome ≡ Next → b ≡ true
store_found true at k w h m done = refl
store_found false at k w h m done = absurd (cc)

found : (m : Bytes) (at n : ℕ) (o : Option (List ℕ)) (q : ℕ) → bytes_at m (addresses at n) ≡ o → IsSome o → Contains (addresses at n) q → IsSome (byte_at m q)
found m at n None q e some has = absurd (cc)
found m at n (Some bs) q e some has =
    let one = (addresses_are_these at n q).0 has in
    ap (λ (a : ℕ). is_some (byte_at m a)) one.2 ∙ ap is_some (((read_is_held m at n bs).0 e).each one.0 one.1)

effect_found : (i : Instr) (n : ℕ) (h : Hart) (m : Bytes) (q : ℕ) → (effect i n h m).outcome ≡ Next → Accesses i h q → IsSome (byte_at m q)
effect_found (Load kind rd rs1 imm) n h m q done has =
    found m (offset_by (register h rs1) imm) (load_size kind) (bytes_at m (addresses (offset_by (register h rs1) imm) (load_size kind))) q refl (load_found _ kind rd _ n h m done) has
effect_found (Store width rs1 rs2 imm) n h m q done has =
    found m (offset_by (register h rs1) imm) (store_size width) (bytes_at m (addresses (offset_by (register h rs1) imm) (store_size width))) q refl (store_found _ _ _ _ h m done) has
effect_found (Op op rd rs1 rs2) n h m q done (k, below, is) = absurd (omega arith)
effect_found _ n h m q done (k, below, is) = absurd (omega arith)

pub all_found : AccessedIsThere
all_found s i n r q st step done has =
    effect_found i n s.hart s.memory q (ap (λ (x : Stepped). x.outcome) (sym (effect_of s i n r st step)) ∙ done) has

-- ---- a step keeps what holds of states

size_even : (n : ℕ) → (n ≡ 2) ⊎ (n ≡ 4) → n % 2 ≡ 0
size_even n (inl e) = omega arith
size_even n (inr e) = omega arith

load_state : (o : Option ℕ) (kind : LoadKind) (rd at n : ℕ) (s : State) → IsState s → n % 2 ≡ 0 → ((v : ℕ) → o ≡ Some v → v < 256 ^ load_size kind) → IsState (after_load o kind rd at n s.hart s.memory).state
load_state None kind rd at n s is even fits = is
load_state (Some v) kind rd at n s is even fits = record {
  hart = register_is _ rd _ (after_is s.hart n is.hart even) (extended_fits kind v (fits v refl));
  memory = is.memory;
}

store_state : (b : Bool) (width : StoreWidth) (at v n : ℕ) (s : State) → IsState s → n % 2 ≡ 0 → IsState (cond b (next (past s.hart n) (stored s.memory at (store_size width) v)) (unchanged (Trap cause.Store at) s.hart s.memory)).state
store_state true width at v n s is even = record { hart = after_is s.hart n is.hart even; memory = stored_is s.memory at v width is.memory }
store_state false width at v n s is even = is

either : (b : Bool) (h k : Hart) → IsHart h → IsHart k → IsHart (cond b h k)
either true h k f g = f
either false h k f g = g

cleared_even : (n : ℕ) → (n - n % 2) % 2 ≡ 0
cleared_even n = omega arith

cleared_fits : (n : ℕ) → n < 2 ^ 32 → n - n % 2 < 2 ^ 32
cleared_fits n h = omega arith

effect_state : (i : Instr) (n : ℕ) (s : State) → IsState s → InRange i → n % 2 ≡ 0 → IsState (effect i n s.hart s.memory).state
effect_state (Op op rd rs1 rs2) n s is range even = record {
  hart = register_is _ rd _ (after_is s.hart n is.hart even) (result_fits op _ _ (is.hart.words rs1) (is.hart.words rs2));
  memory = is.memory;
}
effect_state (OpImm op rd rs1 imm) n s is range even = record {
  hart = register_is _ rd _ (after_is s.hart n is.hart even) (result_fits (register_op op) _ _ (is.hart.words rs1) (word_fits imm));
  memory = is.memory;
}
effect_state (Load kind rd rs1 imm) n s is range even = load_state _ kind rd _ n s is even (λ v. loaded_fits s.memory _ v kind is.memory)
effect_state (Store width rs1 rs2 imm) n s is range even = store_state _ width _ _ n s is even
effect_state (Branch cond rs1 rs2 offset) n s is range even = record {
  hart = either _ _ _ (pc_is s.hart _ is.hart (offset_even s.hart.pc offset is.hart.even (branch_is_even _ cond rs1 rs2 offset range refl)) (word_fits _)) (after_is s.hart n is.hart even);
  memory = is.memory;
}
effect_state (Jal rd offset) n s is range even = record {
  hart = moved_is s.hart rd _ _ is.hart (omega arith) (offset_even s.hart.pc offset is.hart.even (jump_is_even _ rd offset range refl)) (word_fits _);
  memory = is.memory;
}
effect_state (Jalr rd rs1 imm) n s is range even = record {
  hart = moved_is s.hart rd _ _ is.hart (omega arith) (cleared_even (offset_by (register s.hart rs1) imm)) (cleared_fits (offset_by (register s.hart rs1) imm) (word_fits _));
  memory = is.memory;
}
effect_state (Lui rd imm) n s is range even = record { hart = register_is _ rd _ (after_is s.hart n is.hart even) (omega arith); memory = is.memory }
effect_state (Auipc rd imm) n s is range even = record { hart = register_is _ rd _ (after_is s.hart n is.hart even) (omega arith); memory = is.memory }
effect_state (Fence imm rd rs1) n s is range even = record { hart = after_is s.hart n is.hart even; memory = is.memory }
effect_state Ecall n s is range even = is
effect_state Ebreak n s is range even = is

front_state : (s : State) (f : Front) → IsState s → IsAtPc s f → IsState (after_front f s.hart s.memory).state
front_state s (Read i n) is st = effect_state i n s is (spelled_in_range st.bytes i n st.spelled) (size_even n (two_lengths st.bytes i n st.spelled))
front_state s Short is st = is
front_state s Bad is st = is

pub keeps_state : StepKeepsState
keeps_state s r is step =
    subst (λ (x : Stepped). IsState x.state) (sym step.result) (front_state s step.front is step.at_pc)

-- ==== What a step leaves of the registers.

chosen : (b : Bool) (l : List ℕ) (rd v x : ℕ) → cond b None (Some rd) ≢ Some x → get_or (cond b l (set l rd v)) x 0 ≡ get_or l x 0
chosen true l rd v x other = refl
chosen false l rd v x other = get_or-set_other l rd x v 0 (λ e. other (ap Some (sym e)))

wrote : (h : Hart) (rd v x : ℕ) → unless_x0 (Some rd) ≢ Some x → register (with_register h rd v) x ≡ register h x
wrote h rd v x other = chosen (rd == 0) h.registers rd v x other

load_keeps_register : (o : Option ℕ) (kind : LoadKind) (rd at n : ℕ) (h : Hart) (m : Bytes) (x : ℕ) → unless_x0 (Some rd) ≢ Some x → register (after_load o kind rd at n h m).state.hart x ≡ register h x
load_keeps_register None kind rd at n h m x other = refl
load_keeps_register (Some v) kind rd at n h m x other = wrote h rd _ x other

store_keeps_register : (b : Bool) (at n : ℕ) (h : Hart) (w m : Bytes) (x : ℕ) → register (cond b (next (past h n) w) (unchanged (Trap cause.Store at) h m)).state.hart x ≡ register h x
store_keeps_register true at n h w m x = refl
store_keeps_register false at n h w m x = refl

branch_keeps_register : (b : Bool) (pc n : ℕ) (h : Hart) (x : ℕ) → register (cond b (with_pc h pc) (past h n)) x ≡ register h x
branch_keeps_register true pc n h x = refl
branch_keeps_register false pc n h x = refl

effect_keeps_register : (i : Instr) (n : ℕ) (h : Hart) (m : Bytes) (x : ℕ) → written i ≢ Some x → register (effect i n h m).state.hart x ≡ register h x
effect_keeps_register (Op op rd rs1 rs2) n h m x other = wrote h rd _ x other
effect_keeps_register (OpImm op rd rs1 imm) n h m x other = wrote h rd _ x other
effect_keeps_register (Load kind rd rs1 imm) n h m x other = load_keeps_register (loaded m (offset_by (register h rs1) imm) (load_size kind)) kind rd _ n h m x other
effect_keeps_register (Store width rs1 rs2 imm) n h m x other = store_keeps_register (is_some (bytes_at m (addresses (offset_by (register h rs1) imm) (store_size width)))) _ n h _ m x
effect_keeps_register (Branch condition rs1 rs2 offset) n h m x other = branch_keeps_register (is_taken condition (register h rs1) (register h rs2)) _ n h x
effect_keeps_register (Jal rd offset) n h m x other = wrote h rd _ x other
effect_keeps_register (Jalr rd rs1 imm) n h m x other = wrote h rd _ x other
effect_keeps_register (Lui rd imm) n h m x other = wrote h rd _ x other
effect_keeps_register (Auipc rd imm) n h m x other = wrote h rd _ x other
effect_keeps_register _ n h m x other = refl

pub other_registers : OtherRegistersStay
other_registers s i n r x st step other =
    ap (λ (q : Stepped). register q.state.hart x) (effect_of s i n r st step) ∙ effect_keeps_register i n s.hart s.memory x other
