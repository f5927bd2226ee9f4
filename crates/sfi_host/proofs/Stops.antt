-- What stops a safe sandbox is its own instruction, an ecall among them.
use Rattle.std.proofs.lemmas.Bool.{eq-eqb}
use Rattle.std.specs.Int.{w32, from_le_bytes}
use Rattle.rv_comp.proofs.Facts.{ecall_is_wide}
use Rattle.rv_mem.proofs.Facts.{read_is_held}
unfoldable use Rattle.rv_word.specs.Spelling.{spelling, InRange}
use Rattle.rv_comp.specs.declared.front.Front.TheVariants.{Read}
use Rattle.rv_step.specs.Step.{accessed, Accesses, load_size, store_size}
use Rattle.rv_step.specs.declared.outcome.Cause.{Cause}
use Rattle.rv_step.specs.declared.outcome.Outcome.TheVariants.{Trap, Call}
use Rattle.rv_word.specs.Spelling.{offset_by}
use Rattle.rv_word.specs.declared.instr.Instr.{Instr}
use Rattle.rv_word.specs.declared.instr.LoadKind.{LoadKind}
use Rattle.rv_word.specs.declared.instr.StoreWidth.{StoreWidth}
use Rattle.sfi_host.specs.Worlds.{IsAt, IsAtGate, TouchesGuard, StoppedItself}
use Rattle.rv_step.specs.declared.outcome.Cause.TheVariants as cause
use Rattle.rv_step.proofs.Facts.{step_is_effect}
use Rattle.sfi_decoded.proofs.Decoding.{stands_still}
use Rattle.sfi_host.proofs.Prelude.{◌≡◌, ◌↔◌, ◌==◌, IsTrue, false, eqb-true, same_Some, ℕ, List, [], ◌∷◌, length, Option, Some, None, inl, inr, refl, sym, ap, ◌∙◌, subst, arith, bytes_at, addresses, number_of, loaded, State, Ecall, Stands, zero, suc, ◌<◌, cond, is_some, IsSome, slice_get, ℤ, Contains, option_map, slice_get_within, get_or_from_slice_get, Load, Store, Ebreak, Bytes, byte_at, address_after, in_front, Hart, register, Stepped, IsStep, next, unchanged, after_load, effect, Holds, InZones, InData, InGuard, IsGate, Steps, IsSafeState, IsSafeStep, Status, Ready, Exited, Trapped, Bounds, Seat, Sandboxes, slots_of, status_at, state_in, IsSafeSeat, IsSafeWorld, HaveStoppedThemselves}

-- ==== An ecall stands at pc where the four bytes there make its word.

-- four bytes make one number
same_number : (bs : List ℕ) → length bs ≡ 4 → from_le_bytes w32 bs ≡ number_of bs
same_number [] e = absurd (omega arith)
same_number (a ∷ []) e = absurd (omega arith)
same_number (a ∷ b ∷ []) e = absurd (omega arith)
same_number (a ∷ b ∷ c ∷ []) e = absurd (omega arith)
same_number (a ∷ b ∷ c ∷ d ∷ []) e = omega arith
same_number (a ∷ b ∷ c ∷ d ∷ x ∷ bs) e = absurd (omega arith)

pub word_stands : (s : State) → loaded s.memory s.hart.pc 4 ≡ Some 0x73 → Stands s Ecall 4
unfolding spelling InRange
word_stands s e = by (bytes_at s.memory (addresses s.hart.pc 4)) refl e
  where
    by : (o : Option (List ℕ)) → bytes_at s.memory (addresses s.hart.pc 4) ≡ o → option_map number_of o ≡ Some 0x73 → Stands s Ecall 4
    by None is f = absurd (cc)
    by (Some bs) is f =
        let many : length bs ≡ 4 = ((read_is_held s.memory s.hart.pc 4 bs).0 is).count in
        let value : number_of bs ≡ 0x73 = cc in
        record { bytes = bs; there = is; spelled = inr (record { size = refl; all = many; spelled = (tt, same_number bs many ∙ value) }) }

pub stands_word : (s : State) (n : ℕ) → Stands s Ecall n → loaded s.memory s.hart.pc 4 ≡ Some 0x73
unfolding spelling
stands_word s n stands =
    let wide : n ≡ 4 = ecall_is_wide stands.bytes n stands.spelled in
    elim stands.spelled [
      | inl short ↦ let two = short.size in absurd (omega (arith, wide, two))
      | inr word ↦
          ap (option_map number_of) (subst (λ (k : ℕ). bytes_at s.memory (addresses s.hart.pc k) ≡ Some stands.bytes) wide stands.there)
          ∙ ap Some (sym (same_number stands.bytes word.all) ∙ word.spelled.1)
    ]

-- so the word decides it
pub ecall_word : (s : State) → (loaded s.memory s.hart.pc 4 ≡ Some 0x73) ↔ ((n : ℕ) × Stands s Ecall n)
ecall_word s = (λ e. (4, word_stands s e), λ h. stands_word s h.0 h.1)

-- what is loaded there tells
module _ (s : State) (o : Option ℕ) (is : o ≡ loaded s.memory s.hart.pc 4) where
  pub is_word : (word : ℕ) → o ≡ Some word → IsTrue (word == 0x73) ↔ ((n : ℕ) × Stands s Ecall n)
  is_word word e = (
    λ t. (ecall_word s).0 (sym is ∙ e ∙ ap Some (eqb-true word 0x73 t)),
    λ h. eq-eqb word 0x73 (same_Some word 0x73 (sym e ∙ is ∙ (ecall_word s).1 h)),
  )

  pub no_word : ((word : ℕ) → o ≡ Some word → ⊥) → IsTrue false ↔ ((n : ℕ) × Stands s Ecall n)
  no_word none = (λ t. absurd (cc), λ h. absurd (none 0x73 (is ∙ (ecall_word s).1 h)))

-- ==== What stops a safe sandbox is its own instruction, and it stays at that.

-- ---- where the code stays, the instruction does

module _ (b : Bounds) (m n : Bytes) (same : (a : ℕ) → Holds b.code a → byte_at n a ≡ byte_at m a) where
  -- at the same pc
  pub at_still : (h k : Hart) (i : Instr) → k.pc ≡ h.pc → IsAt b (record { hart = h; memory = m }) i → IsAt b (record { hart = k; memory = n }) i
  at_still h k i pc is = record {
    size = is.size;
    stands = stands_still b.code m n same h k i is.size pc is.stands is.within;
    within = λ j below. subst (λ (p : ℕ). Holds b.code (address_after p j)) (sym pc) (is.within j below);
  }

  pub at_gate_still : (h k : Hart) → k.pc ≡ h.pc → IsAtGate b (record { hart = h; memory = m }) → IsAtGate b (record { hart = k; memory = n })
  at_gate_still h k pc is = record {
    is_at = at_still h k Ecall pc is.is_at;
    gate = is.gate;
    among = is.among;
    address = is.address ∙ sym pc;
  }

  touches_still : (h : Hart) (i : Instr) (at : ℕ) → TouchesGuard b (record { hart = h; memory = m }) i at → TouchesGuard b (record { hart = h; memory = n }) i at
  touches_still h i at t = record {
    is_at = at_still h h i refl t.is_at;
    count = t.count;
    accesses = t.accesses;
    within = t.within;
    address = t.address;
    among = t.among;
    guard = t.guard;
  }

  pub stopped_still : (h : Hart) (status : Status) → StoppedItself b (record { hart = h; memory = m }) status → StoppedItself b (record { hart = h; memory = n }) status
  stopped_still h (Exited code) x = at_gate_still h h refl x
  stopped_still h (Trapped cause.Break at) x = (at_still h h Ebreak refl x.0, x.1)
  stopped_still h (Trapped cause.Load at) (kind, rd, rs1, imm, x) = (kind, rd, rs1, imm, touches_still h (Load kind rd rs1 imm) at x)
  stopped_still h (Trapped cause.Store at) (width, rs1, rs2, imm, x) = (width, rs1, rs2, imm, touches_still h (Store width rs1 rs2 imm) at x)
  stopped_still h status x = x

-- ---- a byte that is missing

abbrev HasMissing : Bytes → List ℕ → Type 0
HasMissing m at = (a : ℕ) × Contains at a × (byte_at m a ≡ None)

missing_first : (m : Bytes) (x : ℕ) (xs : List ℕ) (o : Option ℕ) (p : Option (List ℕ)) → byte_at m x ≡ o → (p ≡ None → HasMissing m xs) → in_front o p ≡ None → HasMissing m (x ∷ xs)
missing_first m x xs None p f later e = (x, (0, omega arith, refl), f)
missing_first m x xs (Some b) None f later e = let rest = later refl in (rest.0, (suc rest.1.0, omega (arith, rest.1.1), rest.1.2), rest.2)
missing_first m x xs (Some b) (Some bs) f later e = absurd (cc)

missing_in : (m : Bytes) (at : List ℕ) → bytes_at m at ≡ None → HasMissing m at
missing_in m [] e = absurd (cc)
missing_in m (x ∷ xs) e = missing_first m x xs (byte_at m x) (bytes_at m xs) refl (missing_in m xs) e

none_there : (o : Option ℕ) → o ≡ None → IsSome o → ⊥
none_there None e some = cc
none_there (Some b) e some = cc

-- ---- a safe sandbox that is ready

module _ (m : Bytes) (s : Seat) (seat : IsSafeSeat m s) (ready : s.status ≡ Ready) where
  here : IsSafeState seat.part (state_in m s)
  here = (seat.safe ready).safe.safe [] tt

  -- each instruction at its pc lies in its code
  pub at_pc : (i : Instr) (size : ℕ) → Stands (state_in m s) i size → IsAt s.bounds (state_in m s) i
  at_pc i size stands = record {
    size = size;
    stands = stands;
    within = λ k below. subst (λ (b : Bounds). Holds b.code (address_after s.hart.pc k)) (sym seat.bounds) (here.instruction i size stands k below);
  }

  -- an ecall at its pc is at one of its gates: its step is a call
  pub at_gate : (size : ℕ) → Stands (state_in m s) Ecall size → IsAtGate s.bounds (state_in m s)
  at_gate size stands =
      let call : Stepped = record { outcome = Call; state = state_in m s } in
      let step : IsStep (state_in m s) call = record { front = Read Ecall size; at_pc = stands; result = refl } in
      let listed : IsGate seat.part s.hart.pc = ((seat.safe ready).safe.safe (Steps call ∷ []) (step, tt)).1.called refl in
      record {
        is_at = at_pc Ecall size stands;
        gate = listed.1;
        among = subst (λ (b : Bounds). Contains b.gates listed.1) (sym seat.bounds)
            (listed.0, slice_get_within seat.part.gates listed.0 listed.1 listed.2, get_or_from_slice_get seat.part.gates listed.0 listed.1 listed.1 listed.2);
        address = listed.3;
      }

  module _ (r : Stepped) (safe : IsSafeStep seat.part (state_in m s) r) where
    data_of : (a : ℕ) → InData seat.part a → Holds s.bounds.data a
    data_of a h = subst (λ (b : Bounds). Holds b.data a) (sym seat.bounds) h

    guards_of : (a : ℕ) → InGuard seat.part a → InZones s.bounds.format s.bounds.data a
    guards_of a h = subst (λ (b : Bounds). InZones b.format b.data a) (sym seat.bounds) h

    -- an access at which a byte is missing
    touches : (i : Instr) (size : ℕ) → Stands (state_in m s) i size → (at count : ℕ) → accessed i s.hart ≡ addresses at count → bytes_at m (addresses at count) ≡ None
        → TouchesGuard s.bounds (state_in m s) i at
    touches i size stands at count are none =
        let x = missing_in m (addresses at count) none in
        let accesses : (a : ℕ) → Contains (addresses at count) a → Accesses i s.hart a = λ a c. subst (λ (l : List ℕ). Contains l a) (sym are) c in
        record {
          is_at = at_pc i size stands;
          count = count;
          accesses = are;
          within = λ a c. elim (safe.within i size stands a (accesses a c)) [ inl d ↦ inl (data_of a d) | inr g ↦ inr (guards_of a g) ];
          address = x.0;
          among = x.1;
          guard = elim (safe.within i size stands x.0 (accesses x.0 x.1)) [
            | inl d ↦ absurd (none_there (byte_at m x.0) x.2 (seat.has_data x.0 (data_of x.0 d)))
            | inr g ↦ guards_of x.0 g
          ];
        }

    abbrev Stops : Cause → ℕ → Type 0
    Stops c at = StoppedItself s.bounds (state_in m s) (Trapped c at)

    by_load : (kind : LoadKind) (rd rs1 : ℕ) (imm : ℤ) (n : ℕ) → Stands (state_in m s) (Load kind rd rs1 imm) n → (c : Cause) (at : ℕ) (o : Option (List ℕ))
        → bytes_at m (addresses (offset_by (register s.hart rs1) imm) (load_size kind)) ≡ o
        → (after_load (option_map number_of o) kind rd (offset_by (register s.hart rs1) imm) n s.hart m).outcome ≡ Trap c at → Stops c at
    by_load kind rd rs1 imm n stands c at None none e =
        let from = offset_by (register s.hart rs1) imm in
        let x : cause.Load ≡ c = cc in
        let y : from ≡ at = cc in
        let touch = subst (λ (a : ℕ). TouchesGuard s.bounds (state_in m s) (Load kind rd rs1 imm) a) y (touches (Load kind rd rs1 imm) n stands from (load_size kind) refl none) in
        subst (λ (q : Cause). Stops q at) x (kind, rd, rs1, imm, touch)
    by_load kind rd rs1 imm n stands c at (Some bs) some e = absurd (cc)

    by_store : (width : StoreWidth) (rs1 rs2 : ℕ) (imm : ℤ) (n : ℕ) (k : Hart) (w : Bytes) → Stands (state_in m s) (Store width rs1 rs2 imm) n → (c : Cause) (at : ℕ) (o : Option (List ℕ))
        → bytes_at m (addresses (offset_by (register s.hart rs1) imm) (store_size width)) ≡ o
        → (cond (is_some o) (next k w) (unchanged (Trap cause.Store (offset_by (register s.hart rs1) imm)) s.hart m)).outcome ≡ Trap c at → Stops c at
    by_store width rs1 rs2 imm n k w stands c at None none e =
        let from = offset_by (register s.hart rs1) imm in
        let x : cause.Store ≡ c = cc in
        let y : from ≡ at = cc in
        let touch = subst (λ (a : ℕ). TouchesGuard s.bounds (state_in m s) (Store width rs1 rs2 imm) a) y (touches (Store width rs1 rs2 imm) n stands from (store_size width) refl none) in
        subst (λ (q : Cause). Stops q at) x (width, rs1, rs2, imm, touch)
    by_store width rs1 rs2 imm n k w stands c at (Some bs) some e = absurd (cc)

    by_instr : (i : Instr) (n : ℕ) → Stands (state_in m s) i n → (c : Cause) (at : ℕ) → (effect i n s.hart m).outcome ≡ Trap c at → Stops c at
    by_instr (Load kind rd rs1 imm) n stands c at e = by_load kind rd rs1 imm n stands c at (bytes_at m (addresses (offset_by (register s.hart rs1) imm) (load_size kind))) refl e
    by_instr (Store width rs1 rs2 imm) n stands c at e =
        by_store width rs1 rs2 imm n _ _ stands c at (bytes_at m (addresses (offset_by (register s.hart rs1) imm) (store_size width))) refl e
    by_instr Ebreak n stands c at e =
        let x : cause.Break ≡ c = cc in
        let y : s.hart.pc ≡ at = cc in
        subst (λ (q : Cause). Stops q at) x (at_pc Ebreak n stands, sym y)
    by_instr i n stands c at e = absurd (cc)

    pub trap_itself : IsStep (state_in m s) r → (c : Cause) (at : ℕ) → r.outcome ≡ Trap c at → StoppedItself s.bounds (state_in m s) (Trapped c at)
    trap_itself step c at e =
        let present = here.present in
        by_instr present.instr present.size present.stands c at
        (ap (λ (x : Stepped). x.outcome) (sym (step_is_effect (state_in m s) present.instr present.size r present.stands step)) ∙ e)

-- ---- a safe world

seat_there : (m : Bytes) (seats : List Seat) (i : ℕ) (status : Status) → status_at (slots_of (record { bytes = m; seats = seats })) i ≡ Some status
    → (s : Seat) × (slice_get seats i ≡ Some s) × (s.status ≡ status)
seat_there m [] i status e = absurd (cc)
seat_there m (x ∷ xs) zero status e = (x, refl, (let f : Some x.status ≡ Some status = e in cc))
seat_there m (x ∷ xs) (suc i) status e = seat_there m xs i status e

pub have_stopped : (w : Sandboxes) → IsSafeWorld w → HaveStoppedThemselves w
have_stopped w world i status e =
    let x = seat_there w.bytes w.seats i status e in
    record {
      seat = x.0;
      there = x.1;
      status_is = x.2;
      itself = subst (λ (q : Status). StoppedItself x.0.bounds (state_in w.bytes x.0) q) x.2 (world.each i x.0 x.1).stopped;
    }
