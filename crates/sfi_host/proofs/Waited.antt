-- Sandboxes that wait at a call are at one of their gates.
use Rattle.std.specs.Prelude.{IfSome}
use Rattle.std.proofs.lemmas.List.Elements.{All-contains}
use Rattle.sfi_host.proofs.Prelude.{◌≡◌, ℕ, zero, suc, ◌<◌, ◌≤◌, ◌==◌, length, Bool, true, false, cond, List, [], ◌∷◌, Option, Some, None, refl, sym, ap, ◌∙◌, subst, arith, eqb-true, eqb-false, Contains, Bytes, State, Stepped, Stands, Ecall, Slot, Bounds, Seat, Sandboxes, slot_of, slots_of, state_in, IsSafeSeat, IsSafeWorld, Ready, Call, service_at, gate_at, state_of, slice_get, slice_get_within, same_Some, Sandbox, seat_of, request_by, ◌↔◌, IsSome, call_by, bytes_in, own, Machine, IsMachine, world_of}
use Rattle.rv_step.specs.declared.outcome.Outcome.TheVariants.{Call as Calls}
use Rattle.sfi_formats.specs.Limits.{gates_most, service_most}
use Rattle.sfi_image.specs.declared.part.Gate.{Gate}
use Rattle.sfi_host.specs.declared.guest.Request.{Request}
use Rattle.sfi_host.specs.Worlds.{IsAtGate}
use Rattle.sfi_host.specs.Waiting.{Waits, AsksAtGate, IsAtCall}
use Rattle.sfi_host.proofs.Facts.{some_machine}
use Rattle.sfi_host.proofs.OwnSteps.{steps_own}
use Rattle.sfi_host.proofs.WorldBytes.{get_map, seat_at, slot_is}
use Rattle.sfi_host.proofs.Stops.{at_gate}
use Rattle.sfi_host.proofs.Worlds.{map_get}
use Rattle.rv_step.proofs.Facts.{step_is_effect, calls_are_ecalls}

-- ==== A sandbox that waits is at one of its gates.

-- ---- the gate whose service is asked

record IsFound (gs : List Gate) (at : ℕ) : Type 0 where
  gate : Gate
  among : Contains gs gate
  address : gate.address ≡ at
  service : service_at gs at ≡ gate.service
  place : slice_get gs (gate_at gs at) ≡ Some gate

later : {A : Type 0} (x : A) (xs : List A) (y : A) → Contains (x ∷ xs) y → (x ≡ y → ⊥) → Contains xs y
later x xs y (zero, below, is) other = absurd (other is)
later x xs y (suc k, below, is) other = (k, omega (arith, below), is)

gate_found : (gs : List Gate) (at : ℕ) (g : Gate) → Contains gs g → g.address ≡ at → IsFound gs at
gate_found [] at g c e = let below = c.1 in absurd (omega (arith, below))
gate_found (x ∷ gs) at g c e = elim (x.address == at) as (λ t. (x.address == at) ≡ t → IsFound (x ∷ gs) at) [
  | true ↦ λ t. record {
    gate = x;
    among = (0, omega arith, refl);
    address = eqb-true x.address at t;
    service = ap (λ (b : Bool). cond b x.service (service_at gs at)) t;
    place = ap (λ (b : Bool). slice_get (x ∷ gs) (cond b 0 (suc (gate_at gs at)))) t;
  }
  | false ↦ λ t.
      let rest = gate_found gs at g (later x gs g c (λ same. eqb-false x.address at t (ap (λ (y : Gate). y.address) same ∙ e))) e in
      let below = rest.among.1 in
      record {
        gate = rest.gate;
        among = (suc rest.among.0, omega (arith, below), rest.among.2);
        address = rest.address;
        service = ap (λ (b : Bool). cond b x.service (service_at gs at)) t ∙ rest.service;
        place = ap (λ (b : Bool). slice_get (x ∷ gs) (cond b 0 (suc (gate_at gs at)))) t ∙ rest.place;
      }
] refl

-- ---- a sandbox of a safe world

-- one that calls is at a gate
module _ (m : Bytes) (s : Seat) (seat : IsSafeSeat m s) (ready : s.status ≡ Ready) (calls : (some_machine.0 (state_of (slot_of m s))).outcome ≡ Calls) where
  gate_state : State
  gate_state = state_in m s

  asked_at : (n : ℕ) × Stands (state_in m s) Ecall n
  asked_at =
      let own = steps_own m s (some_machine.0 (state_in m s)) seat ready (some_machine.1.steps (state_in m s)) in
      own.called (sym (ap (λ (r : Stepped). r.outcome) (own.alone some_machine.0 some_machine.1)) ∙ calls)

  listed : IsAtGate s.bounds (state_in m s)
  listed = at_gate m s seat ready asked_at.0 asked_at.1

  found_gate : IsFound s.bounds.gates s.hart.pc
  found_gate = gate_found s.bounds.gates s.hart.pc listed.gate listed.among listed.address

  few : found_gate.gate.service ≤ service_most
  few = All-contains (λ (g : Gate). g.service ≤ service_most) seat.part.gates found_gate.gate seat.right.gates.services (subst (λ (b : Bounds). Contains b.gates found_gate.gate) seat.bounds found_gate.among)

  -- the sandbox lists 64 at most
  near : gate_at s.bounds.gates s.hart.pc < gates_most
  near =
      let within = slice_get_within s.bounds.gates (gate_at s.bounds.gates s.hart.pc) found_gate.gate found_gate.place in
      let same : length s.bounds.gates ≡ length seat.part.gates = ap (λ (b : Bounds). length b.gates) seat.bounds in
      omega (arith, within, same, seat.right.gate_count)

waits_at_gate : (w : Sandboxes) (i : ℕ) (r : Request) → IsSafeWorld w → Waits (slots_of w) i r → ((x : Slot) → slice_get (slots_of w) i ≡ Some x → r.gate ≡ gate_at x.bounds.gates x.hart.pc) → AsksAtGate (slots_of w) i r
waits_at_gate w i r safe waits place =
    let found = map_get (slot_of w.bytes) w.seats i waits.at.slot waits.at.there in
    let s = found.0 in
    let seat : IsSafeSeat w.bytes s = safe.each i s found.1 in
    let ready : s.status ≡ Ready = sym (ap (λ (x : Slot). x.status) found.2) ∙ waits.at.ready in
    let calls = subst (λ (x : Slot). (some_machine.0 (state_of x)).outcome ≡ Calls) found.2 (waits.at.calls some_machine.0 some_machine.1) in
    let gate = found_gate w.bytes s seat ready calls in
    let service : r.service ≡ gate.gate.service =
    subst (λ (x : Slot). r.service ≡ service_at x.bounds.gates x.hart.pc) found.2 (ap (λ (c : Call). c.service) waits.asks) ∙ gate.service in
    let there = get_map (slot_of w.bytes) w.seats i s found.1 in
    let at : r.gate ≡ gate_at s.bounds.gates s.hart.pc = place (slot_of w.bytes s) there in
    record {
      slot = slot_of w.bytes s;
      there = there;
      gate = gate.gate;
      among = ap (slice_get s.bounds.gates) at ∙ gate.place;
      few = subst (λ (n : ℕ). n < gates_most) (sym at) (near w.bytes s seat ready calls);
      address = gate.address;
      service = service;
      most = subst (λ (n : ℕ). n ≤ service_most) (sym service) (few w.bytes s seat ready calls);
    }

-- what a sandbox of a world asks, if it waits
pub if_at_gate : (w : Sandboxes) (m : Bytes) (i : ℕ) (s : Sandbox) (o : Option Request) → slice_get (slots_of w) i ≡ Some (slot_of m (seat_of s)) → IsSafeWorld w → IfSome o (λ r. r ≡ request_by i s)
    → IfSome o (λ r. Waits (slots_of w) i r) → IfSome o (λ r. AsksAtGate (slots_of w) i r)
if_at_gate w m i s None there safe asks h = tt
if_at_gate w m i s (Some r) there safe asks h = waits_at_gate w i r safe h (λ x e.
    let same : slot_of m (seat_of s) ≡ x = same_Some (slot_of m (seat_of s)) x (sym there ∙ e) in
    ap (λ (q : Request). q.gate) asks ∙ ap (λ (y : Slot). gate_at y.bounds.gates y.hart.pc) same)

-- ==== Sandboxes that wait at a call.

-- ---- who waits

module _ (m : Bytes) (s : Sandbox) (safe : IsSafeSeat m (seat_of s)) (ready : s.status ≡ Ready) (machine : Machine) (is : IsMachine machine) where
  abbrev waiting_state : State
  waiting_state = state_in m (seat_of s)

  -- a ready sandbox does in its own memory what it does in the one memory
  outcome_is : (machine (record { hart = s.cpu; memory = own (seat_of s).bounds m })).outcome ≡ (machine waiting_state).outcome
  outcome_is = ap (λ (r : Stepped). r.outcome) ((steps_own m (seat_of s) (machine waiting_state) safe ready (is.steps waiting_state)).alone machine is)

  -- at an ecall it calls
  pub calls_at : (n : ℕ) → Stands waiting_state Ecall n → (machine (record { hart = s.cpu; memory = own (seat_of s).bounds m })).outcome ≡ Calls
  calls_at n stands = outcome_is ∙ ap (λ (r : Stepped). r.outcome) (step_is_effect waiting_state Ecall n (machine waiting_state) stands (is.steps waiting_state))

  -- one that calls is at an ecall
  pub at_ecall : (machine (record { hart = s.cpu; memory = own (seat_of s).bounds m })).outcome ≡ Calls → (n : ℕ) × Stands waiting_state Ecall n
  at_ecall calls = calls_are_ecalls waiting_state (machine waiting_state) (is.steps waiting_state) (sym outcome_is ∙ calls)

module _ (w : Sandboxes) (m : Bytes) (all : List Sandbox) (is : world_of m all ≡ w) (i : ℕ) (s : Sandbox) (at : slice_get all i ≡ Some s) (world : IsSafeWorld (world_of m all)) where
  pub safe : IsSafeSeat m (seat_of s)
  safe = world.each i (seat_of s) (seat_at all i s at)

  pub waits_at : (r : Request) → r ≡ request_by i s → s.status ≡ Ready → ((n : ℕ) × Stands (state_in m (seat_of s)) Ecall n) → Waits (slots_of w) i r
  waits_at r e ready stands = record {
    at = record {
      slot = slot_of m (seat_of s);
      there = slot_is w m all is i s at;
      ready = ready;
      calls = λ machine means. calls_at m s safe ready machine means stands.0 stands.1;
    };
    asks = ap (λ (q : Request). call_by q (bytes_in (seat_of s).bounds.data (own (seat_of s).bounds m))) e;
  }

  module _ (o : Option Request) (asks : IfSome o (λ r. r ≡ request_by i s)) (ready : IsSome o → s.status ≡ Ready) (stands : IsSome o → (n : ℕ) × Stands (state_in m (seat_of s)) Ecall n) where
    pub if_waits : IfSome o (λ r. Waits (slots_of w) i r)
    if_waits = elim o as (λ p. o ≡ p → IfSome p (λ r. Waits (slots_of w) i r)) [
      | None ↦ λ e. tt
      | Some r ↦ λ e. waits_at r (subst (λ p. IfSome p (λ r. r ≡ request_by i s)) e asks) (ready (subst IsSome (sym e) refl)) (stands (subst IsSome (sym e) refl))
    ] refl

    -- it is told so exactly where it stands at a call
    pub is_told : (o ≡ None → s.status ≡ Ready → (n : ℕ) → Stands (state_in m (seat_of s)) Ecall n → ⊥) → (IsSome o ↔ IsAtCall (slots_of w) i)
    is_told silent = (
      λ some. (waits_at (request_by i s) refl (ready some) (stands some)).at,
      λ (h : IsAtCall (slots_of w) i).
          let same : h.slot ≡ slot_of m (seat_of s) = same_Some h.slot (slot_of m (seat_of s)) (sym h.there ∙ slot_is w m all is i s at) in
          let on : s.status ≡ Ready = sym (ap (λ (x : Slot). x.status) same) ∙ h.ready in
          elim o as (λ p. o ≡ p → IsSome p) [
            | None ↦ λ e.
                let x = at_ecall m s safe on some_machine.0 some_machine.1 (subst (λ (x : Slot). (some_machine.0 (record { hart = x.hart; memory = x.bytes })).outcome ≡ Calls) same (h.calls some_machine.0 some_machine.1)) in
                absurd (silent e on x.0 x.1)
            | Some r ↦ λ e. refl
          ] refl,
    )
