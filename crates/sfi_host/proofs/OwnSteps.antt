-- A step in the one memory is one in the sandbox's own, and leaves those of others.
use Rattle.sfi_host.proofs.Prelude.{◌≡◌, ◌≢◌, ℕ, ◌⊎◌, inl, inr, ⊎_elim, Bool, true, false, cond, None, refl, sym, ap, ◌∙◌, subst, or_left, or_right, or_cases, Bytes, byte_at, Outcome, State, Stepped, Stands, IsStep, Holds, InCode, InData, InGuard, Steps, IsSafeState, IsSafeStep, IsTrap, Ready, is_in, Bounds, is_own, own, state_of, Machine, IsMachine, Seat, slot_of, state_in, IsSafeSeat, StaysOutside, zero, suc, List, [], ◌∷◌, map, set, Some, is_some, slice_get, arith, IsMemory, Part, KeepsBytes, bounds_of, Slot, slots_of, LiesOutside, IsSafeWorld}
use Rattle.rv_step.specs.Step.{Accesses}
use Rattle.rv_step.specs.Laws.{AgreeHere, IsSameStep}
use Rattle.rv_step.specs.declared.outcome.Outcome.TheVariants.{Next, Trap, Call}
use Rattle.sfi_host.specs.Worlds.{own_step, stepped_seat, IsOwnStep}
use Rattle.sfi_safe_runs.specs.Runs.{after_step}
use Rattle.rv_step.proofs.Facts.{agreeing_stands_too, agreeing_steps_are_same, other_bytes_stay, stopped_stays, step_keeps_state, no_byte_goes, calls_are_ecalls}
use Rattle.sfi_safe_runs.proofs.Facts.{safe_turns, goes_on_safely}
use Rattle.sfi_decoded.proofs.Lists.{set_found}
use Rattle.sfi_host.proofs.SafeSeats as keep
use Rattle.sfi_host.proofs.Stops.{trap_itself}
use Rattle.sfi_host.proofs.RegionBytes.{get_kept, same_bytes, is_in-true, is_in-Holds}
use Rattle.sfi_host.specs.Laws.{NeighboursAreChanges}

-- ==== A step in the one memory, and the same step in the sandbox's own.

-- ---- a sandbox's own bytes

pub own_code : (b : Bounds) (a : ℕ) → Holds b.code a → is_own b a ≡ true
own_code b a h = or_left (is_in b.code a) (is_in b.data a) (is_in-Holds b.code a h)

pub own_data : (b : Bounds) (a : ℕ) → Holds b.data a → is_own b a ≡ true
own_data b a h = or_right (is_in b.code a) (is_in b.data a) (is_in-Holds b.data a h)

pub own_is : (b : Bounds) (a : ℕ) → is_own b a ≡ true → Holds b.code a ⊎ Holds b.data a
own_is b a e = ⊎_elim (λ (c : is_in b.code a ≡ true). inl (is_in-true b.code a c)) (λ (d : is_in b.data a ≡ true). inr (is_in-true b.data a d)) (or_cases (is_in b.code a) (is_in b.data a) e)

pub own_there : (b : Bounds) (m : Bytes) (a : ℕ) → is_own b a ≡ true → byte_at (own b m) a ≡ byte_at m a
own_there b m a e = get_kept m (is_own b) a ∙ ap (λ t. cond t (byte_at m a) None) e

pub own_missing : (b : Bounds) (m : Bytes) (a : ℕ) → is_own b a ≡ false → byte_at (own b m) a ≡ None
own_missing b m a e = get_kept m (is_own b) a ∙ ap (λ t. cond t (byte_at m a) None) e

-- maps that agree at each own address, of which the first has no other, are one
pub same_own : (b : Bounds) (w m : Bytes) → ((a : ℕ) → is_own b a ≡ true → byte_at w a ≡ byte_at m a) → ((a : ℕ) → is_own b a ≡ false → byte_at w a ≡ None) → w ≡ own b m
same_own b w m there missing = same_bytes w (own b m) (λ a.
    elim (is_own b a) as (λ t. is_own b a ≡ t → byte_at w a ≡ byte_at (own b m) a) [
      | true ↦ λ t. there a t ∙ sym (own_there b m a t)
      | false ↦ λ t. missing a t ∙ sym (own_missing b m a t)
    ] refl)

-- ---- outcomes

pub true_false : (b : Bool) → b ≡ true → b ≡ false → ⊥
true_false b t f = cc

is_trap_not : (o : Outcome) → o ≡ Next → IsTrap o → ⊥
is_trap_not (Trap cause at) e t = cc
is_trap_not o e t = t

module _ (m : Bytes) (s : Seat) (r : Stepped) (seat : IsSafeSeat m s) (ready : s.status ≡ Ready) (step : IsStep (state_in m s) r) where
  both : IsSafeState seat.part (state_in m s) × IsSafeStep seat.part (state_in m s) r
  both = safe_turns seat.part (state_in m s) (Steps r) (seat.safe ready).safe step

  in_data : (a : ℕ) → InData seat.part a → Holds s.bounds.data a
  in_data a h = subst (λ (b : Bounds). Holds b.data a) (sym seat.bounds) h

  in_code : (a : ℕ) → InCode seat.part a → Holds s.bounds.code a
  in_code a h = subst (λ (b : Bounds). Holds b.code a) (sym seat.bounds) h

  guard_not_own : (a : ℕ) → InGuard seat.part a → is_own s.bounds a ≡ false
  guard_not_own a guard = elim (is_own s.bounds a) as (λ t. is_own s.bounds a ≡ t → t ≡ false) [
    | true ↦ λ t. absurd (⊎_elim (keep.guard_not_code m s seat seat.part seat.bounds a guard) (keep.guard_not_data m s seat seat.part seat.bounds a guard) (own_is s.bounds a t))
    | false ↦ λ t. refl
  ] refl

  -- ---- the instruction at pc, in both memories

  found : (a : ℕ) → InData seat.part a ⊎ InGuard seat.part a → byte_at (own s.bounds m) a ≡ byte_at m a
  found a (inl inside) = own_there s.bounds m a (own_data s.bounds a (in_data a inside))
  found a (inr guard) = own_missing s.bounds m a (guard_not_own a guard) ∙ sym (seat.guards a guard)

  agrees : AgreeHere (state_in m s) (state_of (slot_of m s)) both.0.present.instr both.0.present.size
  agrees =
      let here = both.0.present in
      record {
        stands = here.stands;
        hart = refl;
        instruction = λ k below. own_there s.bounds m _ (own_code s.bounds _ (in_code _ (both.0.instruction here.instr here.size here.stands k below)));
        access = λ a accesses. found a (both.1.within here.instr here.size here.stands a accesses);
      }

  -- a step that is done accesses data alone
  data_alone : r.outcome ≡ Next → (a : ℕ) → Accesses both.0.present.instr s.hart a → Holds s.bounds.data a
  data_alone done a accesses =
      let here = both.0.present in
      ⊎_elim
      (λ (inside : InData seat.part a). in_data a inside)
      (λ (guard : InGuard seat.part a). absurd (is_trap_not r.outcome done (both.1.trapped here.instr here.size here.stands a accesses guard)))
      (both.1.within here.instr here.size here.stands a accesses)

  -- ---- by the outcome

  by_outcome : {A : Type 0} → (r.outcome ≡ Next → A) → (r.outcome ≢ Next → A) → A
  by_outcome {A} done stopped = elim r.outcome as (λ o. r.outcome ≡ o → A) [
    | Next ↦ λ e. done e
    | Call ↦ λ e. stopped (λ f. cc)
    | Trap cause at ↦ λ e. stopped (λ f. cc)
  ] refl

  stays_outside : StaysOutside s.bounds.data m r.state.memory
  stays_outside = subst (λ (b : Bounds). StaysOutside b.data m r.state.memory) (sym seat.bounds) both.1.stays

  safe_next : r.outcome ≡ Next → (steps : ℕ) → IsSafeSeat r.state.memory (stepped_seat s r steps)
  safe_next done steps =
      keep.again m s seat r.state.memory (stepped_seat s r steps) refl (step_keeps_state (state_in m s) r seat.state step)
      (keep.own_kept m s seat seat.part seat.bounds r.state.memory stays_outside) (λ a inside. no_byte_goes (state_in m s) r a step (seat.has_data a inside))
      (λ e. goes_on_safely seat.part (state_in m s) r.state (Steps r) (seat.safe ready) step (ap (λ (o : Outcome). after_step o r.state) done)) tt

  -- ---- alone

  module _ (machine : Machine) (is : IsMachine machine) where
    same : IsSameStep (state_in m s) (state_of (slot_of m s)) r (machine (state_of (slot_of m s)))
    same = agreeing_steps_are_same (state_in m s) (state_of (slot_of m s)) both.0.present.instr both.0.present.size r (machine (state_of (slot_of m s))) agrees step (is.steps (state_of (slot_of m s)))

    nothing_else : (a : ℕ) → is_own s.bounds a ≡ false → byte_at (machine (state_of (slot_of m s))).state.memory a ≡ None
    nothing_else a out =
        let here = both.0.present in
        let stands : Stands (state_of (slot_of m s)) here.instr here.size = agreeing_stands_too (state_in m s) (state_of (slot_of m s)) here.instr here.size agrees in
        by_outcome
        (λ done. other_bytes_stay (state_of (slot_of m s)) here.instr here.size (machine (state_of (slot_of m s))) a stands (is.steps (state_of (slot_of m s)))
        (λ accesses. true_false (is_own s.bounds a) (own_data s.bounds a (data_alone done a accesses)) out) ∙ own_missing s.bounds m a out)
        (λ stopped. ap (λ (x : State). byte_at x.memory a) (stopped_stays (state_of (slot_of m s)) (machine (state_of (slot_of m s))) (is.steps (state_of (slot_of m s))) (λ e. stopped (sym same.outcome ∙ e)))
        ∙ own_missing s.bounds m a out)

    alone : machine (state_of (slot_of m s)) ≡ own_step s.bounds r
    alone =
        let bytes = same_own s.bounds (machine (state_of (slot_of m s))).state.memory r.state.memory (λ a e. same.bytes a (own_there s.bounds m a e)) nothing_else in
        λ k. record { outcome = same.outcome k; state = record { hart = same.hart k; memory = bytes k } }

  pub steps_own : IsOwnStep m s r
  steps_own = record {
    alone = alone;
    others = stays_outside;
    safe = safe_next;
    stopped = stopped_stays (state_in m s) r step;
    called = calls_are_ecalls (state_in m s) r step;
    trapped = trap_itself m s seat ready r both.1 step;
  }

-- ==== What the turn of one sandbox leaves of the others.

-- ---- one of the others

module _ (m n : Bytes) (b : Bounds) (left : StaysOutside b.data m n) (t : Seat) (seat : IsSafeSeat m t) (outside : LiesOutside b t.bounds) where
  data_same : (a : ℕ) → Holds t.bounds.data a → byte_at n a ≡ byte_at m a
  data_same a h = left a (λ k. outside.data a k h)

  code_same : (a : ℕ) → Holds t.bounds.code a → byte_at n a ≡ byte_at m a
  code_same a h = left a (λ k. outside.code a k h)

  -- its code and its guards are kept
  pub others_kept : (p : Part) → t.bounds ≡ bounds_of p → KeepsBytes p m n
  others_kept p is = record {
    code = λ a inside. code_same a (keep.code_in m t seat p is a inside);
    guards = λ a guard empty. left a (λ k. outside.zones a k (keep.guard_zones m t seat p is a guard)) ∙ empty;
  }

  -- the other sandbox is safe as before
  pub other_safe : IsMemory n → IsSafeSeat n t
  other_safe memory = keep.changed m t seat n memory (others_kept seat.part seat.bounds)
      (λ a h. ap is_some (data_same a h) ∙ seat.has_data a h)

  -- and its slot is the same
  pub other_same : slot_of n t ≡ slot_of m t
  other_same =
      ap (λ (x : Bytes). let y : Slot = record { bounds = t.bounds; hart = t.hart; status = t.status; steps = t.steps; bytes = x } in y)
      (same_own t.bounds (own t.bounds n) m
      (λ a e. own_there t.bounds n a e ∙ ⊎_elim (code_same a) (data_same a) (own_is t.bounds a e))
      (λ a e. own_missing t.bounds n a e))

-- ---- all of them

set_slots : (m n : Bytes) (seats : List Seat) (i : ℕ) (s : Seat) → ((j : ℕ) (t : Seat) → j ≢ i → slice_get seats j ≡ Some t → slot_of n t ≡ slot_of m t)
    → map (slot_of n) (set seats i s) ≡ set (map (slot_of m) seats) i (slot_of n s)
set_slots m n [] i s same = refl
set_slots m n (t ∷ seats) zero s same = ap (λ (l : List Slot). slot_of n s ∷ l) (each seats (λ j u e. same (suc j) u (λ z. omega arith) e))
  where
    each : (all : List Seat) → ((j : ℕ) (u : Seat) → slice_get all j ≡ Some u → slot_of n u ≡ slot_of m u) → map (slot_of n) all ≡ map (slot_of m) all
    each [] h = refl
    each (u ∷ all) h = λ k. h 0 u refl k ∷ each all (λ j v e. h (suc j) v e) k
set_slots m n (t ∷ seats) (suc i) s same =
    λ k. same 0 t (λ z. omega arith) refl k ∷ set_slots m n seats i s (λ j u ne e. same (suc j) u (λ z. ne (omega arith)) e) k

module _ (m n : Bytes) (seats : List Seat) (i : ℕ) (s new : Seat) (world : IsSafeWorld (record { bytes = m; seats = seats })) (at : slice_get seats i ≡ Some s) (left : StaysOutside s.bounds.data m n) where
  pub slots_are : slots_of (record { bytes = n; seats = set seats i new }) ≡ set (slots_of (record { bytes = m; seats = seats })) i (slot_of n new)
  slots_are = set_slots m n seats i new (λ j t ne e. other_same m n s.bounds left t (world.each j t e) (world.others i j s t (λ z. ne (sym z)) at e))

  module _ (safe : IsSafeSeat n new) (bounds : new.bounds ≡ s.bounds) where
    -- the seat before, with the same bounds
    old_at : (j : ℕ) (t : Seat) → slice_get (set seats i new) j ≡ Some t → (u : Seat) × (slice_get seats j ≡ Some u) × (t.bounds ≡ u.bounds)
    old_at j t e = ⊎_elim
        (λ (x : (j ≡ i) × (t ≡ new)). (s, ap (slice_get seats) x.0 ∙ at, ap (λ (y : Seat). y.bounds) x.1 ∙ bounds))
        (λ (y : (j ≢ i) × (slice_get seats j ≡ Some t)). (t, y.1, refl))
        (set_found seats i s new at j t e)

    pub world_safe : IsSafeWorld (record { bytes = n; seats = set seats i new })
    world_safe = record {
      each = λ j t e. ⊎_elim
          (λ (x : (j ≡ i) × (t ≡ new)). subst (λ (y : Seat). IsSafeSeat n y) (sym x.1) safe)
          (λ (y : (j ≢ i) × (slice_get seats j ≡ Some t)). other_safe m n s.bounds left t (world.each j t y.1) (world.others i j s t (λ z. y.0 (sym z)) at y.1) safe.state.memory)
          (set_found seats i s new at j t e);
      others = λ j k t u ne e f.
          let a = old_at j t e in
          let b = old_at k u f in
          subst (λ (x : Bounds). LiesOutside x u.bounds) (sym a.2) (subst (λ (x : Bounds). LiesOutside a.0.bounds x) (sym b.2) (world.others j k a.0 b.0 ne a.1 b.1));
    }

-- ---- the law

pub neighbours_are : NeighboursAreChanges
neighbours_are w i j s t new p world ne at there stays is =
    record { pc = refl; registers = refl; bytes = others_kept w.bytes new s.bounds stays t (world.each j t there) (world.others i j s t ne at there) p is }
