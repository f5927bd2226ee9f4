-- What a step keeps, and what stands where the machine reads.
use Rattle.sfi_safe_runs.proofs.Prelude.{◌≡◌, ◌≢◌, ℕ, suc, ◌+◌, ◌<◌, ◌≤◌, ◌⊎◌, List, [], ◌∷◌, length, map, Option, Some, None, Bool, true, false, cond, ◌==◌, refl, sym, ap, ◌∙◌, subst, inl, inr, ⊎_elim, arith, add-zero, slice_index, slice_get, is_some, IsSome, range_with_len, or_cases, eqb-true, false≢true, offset_by, Instr, Load, Store, LoadKind, Bytes, byte_at, bytes_at, addresses, loaded, Next, Call, Trap, Outcome, Accesses, Hart, State, register, Stepped, Stands, IsStep, effect, after_load, next, unchanged, load_size, store_size, Gate, Part, Holds, AreApart, code_region, guarded_region, IsRightPart, is_gate_of, InData, InGuard, IsGate, HasCode, HasEmptyGuards, IsTrap, address_after, IsSafeState}
use Rattle.sfi_formats.specs.declared.format.Format.{Format}
use Rattle.sfi_formats.specs.declared.format.Format.TheVariants.{Sfi1, Sfi2, Sfiw, Sfis}
use Rattle.sfi_formats.specs.Formats.{has_words, has_single_mask}
use Rattle.rv_step.specs.declared.outcome.Cause.TheVariants as cause
use Rattle.rv_step.proofs.Facts.{one_instruction, step_is_effect, other_bytes_stay, accessed_is_there, stopped_stays}
use Rattle.std.specs.Prelude.{take, drop}
use Rattle.std.proofs.lemmas.List.{get_or-take, get_or-drop}
use Rattle.rv_comp.specs.Fronts.{Spells}
use Rattle.rv_comp.proofs.Facts.{spelled_length, spelled_some}
use Rattle.sfi_image.proofs.Facts.{code_ends}
use Rattle.sfi_safe_runs.specs.Runs.{InCode, StaysOutside, Zones, Empty, Padded, HasGuards}
use Rattle.sfi_safe_runs.specs.Safety.{TrapsIn, IsSafeStepAs, writable_region}
use Rattle.sfi_safe_runs.specs.Calling.{KeepsAllAs}
use Rattle.sfi_image.specs.Spelling.{data_region, InZoneAtZero}

-- ==== What a step keeps, if its accesses fall into the data and the guards.

-- ---- bytes

-- bytes that stand one after another are read as a list
pub read_all : (m : Bytes) (f : ℕ → ℕ) (a : ℕ) (bytes : List ℕ) → ((k : ℕ) → k < length bytes → byte_at m (f (a + k)) ≡ Some (slice_index bytes k)) → bytes_at m (map f (range_with_len a (length bytes))) ≡ Some bytes
read_all m f a [] each = refl
read_all m f a (b ∷ bytes) each =
    let first : byte_at m (f a) ≡ Some b = ap (λ (n : ℕ). byte_at m (f n)) (sym (add-zero a)) ∙ each 0 (omega arith) in
    let others = read_all m f (a + 1) bytes (λ k h. let e : a + 1 + k ≡ a + suc k = omega arith in ap (λ (n : ℕ). byte_at m (f n)) e ∙ each (suc k) (omega arith)) in
    rw (first, others) refl

-- a gate of the list at the address
pub gate_of : (gates : List Gate) (a : ℕ) → is_gate_of gates a ≡ true → (k : ℕ) × (g : Gate) × (slice_get gates k ≡ Some g) × (g.address ≡ a)
gate_of [] a h = absurd (false≢true h)
gate_of (g ∷ gates) a h =
    ⊎_elim
    (λ (e : (g.address == a) ≡ true). (0, g, refl, eqb-true g.address a e))
    (λ (e : is_gate_of gates a ≡ true). let x = gate_of gates a e in (suc x.0, x.1, x.2, x.3))
    (or_cases (g.address == a) (is_gate_of gates a) h)

-- the guard zones may hold bytes where there is no zone at zero
abbrev pub MayBePadded : Zones → Part → Type 0
MayBePadded Empty p = Unit {0}
MayBePadded Padded p = has_single_mask p.format ≡ false

-- code in bundles has none
pub two_steps_in_bundles : (f : Format) → has_words f ≡ false → has_single_mask f ≡ false
two_steps_in_bundles Sfi1 bundles = refl
two_steps_in_bundles Sfi2 bundles = refl
two_steps_in_bundles Sfiw bundles = absurd (false≢true (sym bundles))
two_steps_in_bundles Sfis bundles = absurd (false≢true (sym bundles))

pub bundles_may_be : (z : Zones) (p : Part) → has_words p.format ≡ false → MayBePadded z p
bundles_may_be Empty p bundles = tt
bundles_may_be Padded p bundles = two_steps_in_bundles p.format bundles

-- where there is no zone at zero, the data and the guard zones are one span
pub guarded : (p : Part) (a : ℕ) → has_single_mask p.format ≡ false → IsRightPart p → InData p a ⊎ InGuard p a → Holds (guarded_region p) a
guarded p a two_steps right (inl (from, below)) = let room : 4096 ≤ p.data_base = right.guard_room.below in (omega arith, omega arith)
guarded p a two_steps right (inr (inl (inl (from, below)))) = let room : 4096 ≤ p.data_base = right.guard_room.below in (omega arith, omega arith)
guarded p a two_steps right (inr (inl (inr (from, below)))) = let room : 4096 ≤ p.data_base = right.guard_room.below in (omega arith, omega arith)
guarded p a two_steps right (inr (inr zone)) = absurd (false≢true (sym two_steps ∙ zone.0))

-- what lies in the zone at zero lies in neither region
zone_apart : (p : Part) (a : ℕ) → IsRightPart p → has_single_mask p.format ≡ true → InZoneAtZero p.data_size a → (Holds (code_region p) a → ⊥) × (Holds (data_region p) a → ⊥)
zone_apart p a right one_step (inl low) =
    let clear = right.zone_room one_step in
    let code = clear.code_above in
    let inside = clear.data_above in
    (λ held. omega (arith, held.0), λ held. omega (arith, held.0))
zone_apart p a right one_step (inr (high, word)) =
    let code = (right.zone_room one_step).code_below in
    let room = right.guard_room.above in
    (λ held. omega (arith, held.1), λ held. omega (arith, held.1))

-- the data and the guards are no code
pub not_code : (p : Part) (a : ℕ) → IsRightPart p → AreApart (code_region p) (guarded_region p) → InData p a ⊎ InGuard p a → Holds (code_region p) a → ⊥
not_code p a right apart (inl (from, below)) held = let room : 4096 ≤ p.data_base = right.guard_room.below in apart a held (omega arith, omega arith)
not_code p a right apart (inr (inl (inl (from, below)))) held = let room : 4096 ≤ p.data_base = right.guard_room.below in apart a held (omega arith, omega arith)
not_code p a right apart (inr (inl (inr (from, below)))) held = let room : 4096 ≤ p.data_base = right.guard_room.below in apart a held (omega arith, omega arith)
not_code p a right apart (inr (inr zone)) held = (zone_apart p a right zone.0 zone.1).0 held

-- and the guards are no data
pub guard_not_data : (p : Part) (a : ℕ) → IsRightPart p → InGuard p a → InData p a → ⊥
guard_not_data p a right (inl (inl (from, below))) held = let room : 4096 ≤ p.data_base = right.guard_room.below in omega (arith, held.0)
guard_not_data p a right (inl (inr (from, below))) held = omega (arith, held.1)
guard_not_data p a right (inr zone) held = (zone_apart p a right zone.0 zone.1).1 held

none_there : (o : Option ℕ) → IsSome o → o ≡ None → ⊥
none_there None some e = cc
none_there (Some b) some e = cc

-- ---- what accesses anything does not call

load_no_call : (o : Option ℕ) (kind : LoadKind) (rd at n : ℕ) (h : Hart) (m : Bytes) → (after_load o kind rd at n h m).outcome ≡ Call → ⊥
load_no_call None kind rd at n h m e = cc
load_no_call (Some v) kind rd at n h m e = cc

store_no_call : (b : Bool) (at : ℕ) (k : Hart) (w : Bytes) (h : Hart) (m : Bytes) → (cond b (next k w) (unchanged (Trap cause.Store at) h m)).outcome ≡ Call → ⊥
store_no_call true at k w h m e = cc
store_no_call false at k w h m e = cc

-- what accesses anything does not call
pub no_call : (i : Instr) (n : ℕ) (h : Hart) (m : Bytes) (a : ℕ) → Accesses i h a → (effect i n h m).outcome ≡ Call → ⊥
no_call (Load kind rd rs1 imm) n h m a has e = load_no_call (loaded m (offset_by (register h rs1) imm) (load_size kind)) kind rd _ n h m e
no_call (Store width rs1 rs2 imm) n h m a has e = store_no_call (is_some (bytes_at m (addresses (offset_by (register h rs1) imm) (store_size width)))) _ _ _ h m e
no_call other n h m a (k, below, is) e = omega arith

-- ---- the step

-- a step that traps wherever it leaves the data changes no byte outside them
pub data_alone : (p : Part) (s : State) (i : Instr) (n : ℕ) (r : Stepped) → Stands s i n → IsStep s r → ((a : ℕ) → Accesses i s.hart a → InData p a ⊎ InGuard p a) → ((a : ℕ) → Accesses i s.hart a → InGuard p a → IsTrap r.outcome) → StaysOutside (data_region p) s.memory r.state.memory
data_alone p s i n r stands step near traps a out = by_outcome r.outcome refl
  where
    stopped : r.outcome ≢ Next → byte_at r.state.memory a ≡ byte_at s.memory a
    stopped not_done = ap (λ (t : State). byte_at t.memory a) (stopped_stays s r step not_done)

    by_outcome : (o : Outcome) → r.outcome ≡ o → byte_at r.state.memory a ≡ byte_at s.memory a
    by_outcome Next e = other_bytes_stay s i n r a stands step (λ has. ⊎_elim out (λ (guard : InGuard p a). subst (λ (o : Outcome). IsTrap o) e (traps a has guard)) (near a has))
    by_outcome Call e = stopped (λ done. let clash : Next ≡ Call = sym done ∙ e in cc)
    by_outcome (Trap cause at) e = stopped (λ done. let clash : Next ≡ Trap cause at = sym done ∙ e in cc)

-- an instruction stands at pc, and all its accesses fall into the data and the guards
module _ (p : Part) (right : IsRightPart p) (apart : AreApart (code_region p) (guarded_region p)) (zones : Zones) (s : State) (kept : KeepsAllAs zones p s) (i : Instr) (n : ℕ) (stands : Stands s i n)
    (near : (a : ℕ) → Accesses i s.hart a → InData p a ⊎ InGuard p a) where
  pub only : (j : Instr) (k : ℕ) → Stands s j k → (j ≡ i) × (k ≡ n)
  only j k there = one_instruction s j i k n there stands

  module _ (r : Stepped) (step : IsStep s r) where
    -- a step has the effect of that instruction
    pub step_is : r ≡ effect i n s.hart s.memory
    step_is = step_is_effect s i n r stands step

    pub code_stays : HasCode p r.state.memory
    code_stays k below =
        other_bytes_stay s i n r (p.code_base + k) stands step
        (λ has. not_code p (p.code_base + k) right apart (near (p.code_base + k) has) (omega arith, omega (arith, below)))
        ∙ kept.code k below

    -- ---- where the guard zones are empty

    -- what a step that is done found is in no guard, so it is in the data
    not_in_guard : HasEmptyGuards p s.memory → r.outcome ≡ Next → (a : ℕ) → Accesses i s.hart a → InGuard p a → ⊥
    not_in_guard empty done a has guard = none_there (byte_at s.memory a) (accessed_is_there s i n r a stands step done has) (empty a guard)

    pub in_data : HasEmptyGuards p s.memory → r.outcome ≡ Next → (a : ℕ) → Accesses i s.hart a → InData p a
    in_data empty done a has = ⊎_elim (λ inside. inside) (λ guard. absurd (not_in_guard empty done a has guard)) (near a has)

    traps : HasEmptyGuards p s.memory → (a : ℕ) → Accesses i s.hart a → InGuard p a → (o : Outcome) → r.outcome ≡ o → IsTrap o
    traps empty a has guard Next e = absurd (not_in_guard empty e a has guard)
    traps empty a has guard Call e = absurd (no_call i n s.hart s.memory a has (ap (λ (x : Stepped). x.outcome) (sym step_is) ∙ e))
    traps empty a has guard (Trap cause at) e = tt

    -- ---- whatever they hold

    guards_after : (z : Zones) → HasGuards z p s.memory → r.outcome ≡ Next → HasGuards z p r.state.memory
    guards_after Empty empty done = λ a guard.
        other_bytes_stay s i n r a stands step (λ has. not_in_guard empty done a has guard)
        ∙ empty a guard
    guards_after Padded any done = tt

    pub guards_stay : r.outcome ≡ Next → HasGuards zones p r.state.memory
    guards_stay done = guards_after zones kept.guards done

    trapped : (z : Zones) → HasGuards z p s.memory → TrapsIn z p s r
    trapped Empty empty = λ j k there a has guard. traps empty a (subst (λ (x : Instr). Accesses x s.hart a) (only j k there).0 has) guard r.outcome refl
    trapped Padded any = tt

    stays : (z : Zones) → MayBePadded z p → HasGuards z p s.memory → StaysOutside (writable_region z p) s.memory r.state.memory
    stays Empty may empty = data_alone p s i n r stands step near (λ a has guard. traps empty a has guard r.outcome refl)
    stays Padded two_steps any = λ a out. other_bytes_stay s i n r a stands step (λ has. out (guarded p a two_steps right (near a has)))

    -- the step is safe, if it calls at a gate alone
    pub step_safe : MayBePadded zones p → (r.outcome ≡ Call → IsGate p s.hart.pc) → IsSafeStepAs zones p s r
    step_safe may called = record {
      within = λ j k there a has. near a (subst (λ (x : Instr). Accesses x s.hart a) (only j k there).0 has);
      trapped = trapped zones kept.guards;
      stays = stays zones may kept.guards;
      called = called;
    }

-- ==== An instruction of the code stands where the machine reads it, so that state is safe.

-- pc is at `offset` of the code, and the `n` bytes from there on lie in the code
module _ (p : Part) (right : IsRightPart p) (h : Hart) (offset n : ℕ) (pc : h.pc ≡ p.code_base + offset) (within : offset + n ≤ length p.code) where
  address_is : (k : ℕ) → k < n → address_after h.pc k ≡ p.code_base + (offset + k)
  address_is k below = let end = code_ends p right in omega arith

  pub pc_within : 0 < n → InCode p h.pc
  pc_within some = (omega arith, omega arith)

  byte_within : (k : ℕ) → k < n → InCode p (address_after h.pc k)
  byte_within k below = let e = address_is k below in (omega arith, omega arith)

  abbrev bytes_there : List ℕ
  bytes_there = take n (drop offset p.code)

  there : (m : Bytes) → HasCode p m → (k : ℕ) → k < n → byte_at m (address_after h.pc k) ≡ Some (slice_index bytes_there k)
  there m code k below =
      ap (byte_at m) (address_is k below) ∙ code (offset + k) (omega arith)
      ∙ ap Some (sym (get_or-take n (drop offset p.code) k 0 below ∙ get_or-drop offset p.code k 0))

  read_there : (m : Bytes) → HasCode p m → length bytes_there ≡ n → bytes_at m (addresses h.pc n) ≡ Some bytes_there
  read_there m code len =
      subst (λ (j : ℕ). bytes_at m (addresses h.pc j) ≡ Some bytes_there) len
      (read_all m (address_after h.pc) 0 bytes_there (λ k below.
      let e : k ≡ 0 + k = omega arith in
      subst (λ (j : ℕ). byte_at m (address_after h.pc j) ≡ Some (slice_index bytes_there k)) e (there m code k (subst (λ (j : ℕ). k < j) len below))))

  pub stands_there : (m : Bytes) (i : Instr) → HasCode p m → Spells (take n (drop offset p.code)) i n → Stands (record { hart = h; memory = m }) i n
  stands_there m i code spelled = record { bytes = bytes_there; there = read_there m code (spelled_length bytes_there i n spelled); spelled = spelled }

  pub state_safe : (m : Bytes) (i : Instr) → HasCode p m → Spells (take n (drop offset p.code)) i n → IsSafeState p (record { hart = h; memory = m })
  state_safe m i code spelled =
      let stands = stands_there m i code spelled in
      record {
        code = code;
        present = record { instr = i; size = n; stands = stands };
        pc = pc_within (spelled_some bytes_there i n spelled);
        instruction = λ j size there k below. byte_within k (subst (λ (l : ℕ). k < l) (one_instruction (record { hart = h; memory = m }) j i size n there stands).1 below);
      }
