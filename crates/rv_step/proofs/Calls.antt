-- Which step calls, and that no step takes a byte away.
use Rattle.rv_step.proofs.Prelude.{◌≡◌, ℕ, ◌==◌, Bool, true, false, cond, List, [], ◌∷◌, Option, Some, None, IsSome, is_some, refl, sym, ap, subst, ◌∙◌, Instr, Load, Store, Ecall, LoadKind, offset_by, Front, Read, Short, Bad, Bytes, byte_at, bytes_at, addresses, with_bytes, loaded, stored, Call, Trap, NoByteGoes, CallsAreEcalls, Hart, State, register, Stepped, Stands, next, unchanged, after_load, effect, IsAtPc, after_front, load_size, store_size}
use Rattle.std.specs.FinMap.{insert}
use Rattle.rv_step.specs.declared.outcome.Cause.TheVariants as cause
use Rattle.rv_step.proofs.States.{byte_at-insert}

-- ---- no byte goes

cond_some : (t : Bool) (b : ℕ) (o : Option ℕ) → IsSome o → IsSome (cond t (Some b) o)
cond_some true b o h = refl
cond_some false b o h = h

written_some : (m : Bytes) (at bs : List ℕ) (q : ℕ) → IsSome (byte_at m q) → IsSome (byte_at (with_bytes m at bs) q)
written_some m [] bs q h = h
written_some m (a ∷ more) [] q h = h
written_some m (a ∷ more) (b ∷ bs) q h =
    written_some (insert m a b) more bs q (subst (λ (o : Option ℕ). IsSome o) (sym (byte_at-insert m a b q)) (cond_some (q == a) b (byte_at m q) h))

load_some : (o : Option ℕ) (kind : LoadKind) (rd at n : ℕ) (h : Hart) (m : Bytes) (q : ℕ) → IsSome (byte_at m q) → IsSome (byte_at (after_load o kind rd at n h m).state.memory q)
load_some None kind rd at n h m q e = e
load_some (Some v) kind rd at n h m q e = e

store_some : (b : Bool) (at size v : ℕ) (k h : Hart) (m : Bytes) (q : ℕ) → IsSome (byte_at m q) → IsSome (byte_at (cond b (next k (stored m at size v)) (unchanged (Trap cause.Store at) h m)).state.memory q)
store_some true at size v k h m q e = written_some m (addresses at size) _ q e
store_some false at size v k h m q e = e

effect_some : (i : Instr) (n : ℕ) (h : Hart) (m : Bytes) (q : ℕ) → IsSome (byte_at m q) → IsSome (byte_at (effect i n h m).state.memory q)
effect_some (Load kind rd rs1 imm) n h m q e = load_some (loaded m (offset_by (register h rs1) imm) (load_size kind)) kind rd _ n h m q e
effect_some (Store width rs1 rs2 imm) n h m q e = store_some (is_some (bytes_at m (addresses (offset_by (register h rs1) imm) (store_size width)))) _ (store_size width) _ _ h m q e
effect_some _ n h m q e = e

front_some : (f : Front) (h : Hart) (m : Bytes) (q : ℕ) → IsSome (byte_at m q) → IsSome (byte_at (after_front f h m).state.memory q)
front_some (Read i n) h m q e = effect_some i n h m q e
front_some Short h m q e = e
front_some Bad h m q e = e

pub none_goes : NoByteGoes
none_goes s r q step e = subst (λ (x : Stepped). IsSome (byte_at x.state.memory q)) (sym step.result) (front_some step.front s.hart s.memory q e)

-- ---- a call is an ecall's

load_calls : (o : Option ℕ) (kind : LoadKind) (rd at n : ℕ) (h : Hart) (m : Bytes) → (after_load o kind rd at n h m).outcome ≡ Call → ⊥
load_calls None kind rd at n h m e = cc
load_calls (Some v) kind rd at n h m e = cc

store_calls : (b : Bool) (at : ℕ) (k : Hart) (w : Bytes) (h : Hart) (m : Bytes) → (cond b (next k w) (unchanged (Trap cause.Store at) h m)).outcome ≡ Call → ⊥
store_calls true at k w h m e = cc
store_calls false at k w h m e = cc

effect_calls : (i : Instr) (n : ℕ) (h : Hart) (m : Bytes) → (effect i n h m).outcome ≡ Call → i ≡ Ecall
effect_calls (Load kind rd rs1 imm) n h m e = absurd (load_calls (loaded m (offset_by (register h rs1) imm) (load_size kind)) kind rd _ n h m e)
effect_calls (Store width rs1 rs2 imm) n h m e = absurd (store_calls (is_some (bytes_at m (addresses (offset_by (register h rs1) imm) (store_size width)))) _ _ _ h m e)
effect_calls Ecall n h m e = refl
effect_calls _ n h m e = absurd (cc)

front_calls : (s : State) (f : Front) → IsAtPc s f → (after_front f s.hart s.memory).outcome ≡ Call → (n : ℕ) × Stands s Ecall n
front_calls s (Read i n) at e = (n, subst (λ (j : Instr). Stands s j n) (effect_calls i n s.hart s.memory e) at)
front_calls s Short at e = absurd (cc)
front_calls s Bad at e = absurd (cc)

pub ecall_at : CallsAreEcalls
ecall_at s r step e = front_calls s step.front step.at_pc (ap (λ (x : Stepped). x.outcome) (sym step.result) ∙ e)
