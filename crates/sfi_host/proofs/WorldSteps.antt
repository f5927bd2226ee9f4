-- World steps of the sandboxes of a safe world are a run to each of them.
use Rattle.sfi_host.proofs.Prelude.{◌≡◌, inl, inr, ℕ, ◌+◌, ◌<◌, List, [], ◌∷◌, length, Option, Some, None, slice_get, sym, ap, ◌∙◌, subst, ◌≢◌, ◌==◌, cond, true, false, ◌++◌, set, refl, Bytes, byte_at, State, Part, Holds, InZones, InCode, InData, InGuard, IsGate, HasCode, Steps, Replies, Changes, KeepsBytes, IsTurn, IsRun, IsSafeState, IsSafeTurn, IsSafeRun, Bounds, bounds_of, Slot, eqb-true, eqb-false, same_Some, after_turns, Status, Ready, Reply, Machine, Seat, Sandboxes, slot_of, slots_of, state_in, IsSafeWorld, StaysSafe}
use Rattle.sfi_host.specs.WorldSteps.{StepsAlone, WorldStep, after_world_step, AreWorldSteps, own_turn, own_turns, turns_to, IsRunBetween, AreRuns, AreSafeRuns}
use Rattle.sfi_image.specs.declared.part.Gate.{Gate}
use Rattle.sfi_safe_runs.specs.Runs.{Turn, after_turn}
use Rattle.sfi_host.proofs.SafeSeats as keep
use Rattle.sfi_decoded.proofs.Lists.{get_set_same, get_set_other}
use Rattle.sfi_host.proofs.OwnSteps.{other_same, slots_are, world_safe, neighbours_are}
use Rattle.sfi_host.proofs.WorldBytes.{outside_more, same_bounds}

-- ---- a run that is safe for a part is safe for another one that lies there with the same code

module _ (q p : Part) (same : bounds_of q ≡ bounds_of p) (m : Bytes) (there : HasCode q m) (code : HasCode p m) where
  in_code : (a : ℕ) → InCode q a → InCode p a
  in_code a h = subst (λ (b : Bounds). Holds b.code a) same h

  in_data : (a : ℕ) → InData q a → InData p a
  in_data a h = subst (λ (b : Bounds). Holds b.data a) same h

  in_guard : (a : ℕ) → InGuard q a → InGuard p a
  in_guard a h = subst (λ (b : Bounds). InZones b.format b.data a) same h

  guard_in : (a : ℕ) → InGuard p a → InGuard q a
  guard_in a h = subst (λ (b : Bounds). InZones b.format b.data a) (sym same) h

  is_gate : (a : ℕ) → IsGate q a → IsGate p a
  is_gate a h = subst (λ (b : Bounds). (k : ℕ) × (g : Gate) × (slice_get b.gates k ≡ Some g) × (g.address ≡ a)) same h

  -- the code bytes of both are those of one memory
  has_code : (w : Bytes) → HasCode q w → HasCode p w
  has_code w h k below =
      let low : k < length q.code = subst (λ (b : Bounds). k < b.code.size) (sym same) below in
      let base : q.code_base ≡ p.code_base = ap (λ (b : Bounds). b.code.base) same in
      ap (λ (b : ℕ). byte_at w (b + k)) (sym base) ∙ h k low ∙ sym (there k low) ∙ ap (λ (b : ℕ). byte_at m (b + k)) base ∙ code k below

  safe_state : (s : State) → IsSafeState q s → IsSafeState p s
  safe_state s h = record {
    code = has_code s.memory h.code;
    present = h.present;
    pc = in_code s.hart.pc h.pc;
    instruction = λ i n stands k below. in_code _ (h.instruction i n stands k below);
  }

  safe_turn : (s : State) (turn : Turn) → IsSafeTurn q s turn → IsSafeTurn p s turn
  safe_turn s (Steps r) h = record {
    within = λ i n stands a accesses. elim (h.within i n stands a accesses) [ inl d ↦ inl (in_data a d) | inr g ↦ inr (in_guard a g) ];
    trapped = λ i n stands a accesses inside. h.trapped i n stands a accesses (guard_in a inside);
    stays = λ a out. h.stays a (λ held. out (in_data a held));
    called = λ e. is_gate s.hart.pc (h.called e);
  }
  safe_turn s (Replies after) h = is_gate s.hart.pc h
  safe_turn s (Changes after) h = tt

  pub safe_run : (o : Option State) (turns : List Turn) → IsSafeRun q o turns → IsSafeRun p o turns
  safe_run None turns h = tt
  safe_run (Some s) [] h = safe_state s h
  safe_run (Some s) (turn ∷ turns) h = (safe_state s h.0, safe_turn s turn h.1, safe_run (after_turn turn) turns h.2)

-- ---- what is known of a world step

-- the turn that it is
abbrev pub turn_of : Machine → Bytes → Seat → List Reply → Bytes → Seat → Turn
turn_of machine m s replies n t = own_turn (machine (state_in m s)) (state_in n t) replies t.status

-- a ready sandbox that is safe took it, and is safe as before
pub record Taken (machine : Machine) (i : ℕ) (m : Bytes) (s : Seat) (replies : List Reply) (n : Bytes) (t : Seat) : Type 0 where
  pub alone : StepsAlone machine i (slot_of m s) replies (slot_of n t)
  pub step : replies ≡ [] → state_in n t ≡ (machine (state_in m s)).state
  pub stays : StaysSafe m s n t
  pub is_turn : (p : Part) → s.bounds ≡ bounds_of p → IsTurn p (state_in m s) (turn_of machine m s replies n t)
  pub leads : t.status ≡ Ready → after_turn (turn_of machine m s replies n t) ≡ Some (state_in n t)

pub record IsTaken (machine : Machine) (w : Sandboxes) (v : WorldStep) : Type 0 where
  pub seat : Seat
  pub there : slice_get w.seats v.number ≡ Some seat
  pub ready : seat.status ≡ Ready
  pub taken : Taken machine v.number w.bytes seat v.replies v.bytes v.seat

abbrev pub AreTaken : Machine → Sandboxes → List WorldStep → Sandboxes → Type 0
AreTaken machine w [] n = n ≡ w
AreTaken machine w (v ∷ moves) n = IsTaken machine w v × AreTaken machine (after_world_step w v) moves n

pub taken_follow : (machine : Machine) (first second : List WorldStep) (w n o : Sandboxes) → AreTaken machine w first n → AreTaken machine n second o → AreTaken machine w (first ++ second) o
taken_follow machine [] second w n o e are = subst (λ (x : Sandboxes). AreTaken machine x second o) e are
taken_follow machine (v ∷ first) second w n o lead are = (lead.0, taken_follow machine first second (after_world_step w v) n o lead.1 are)

both_keep : (p : Part) (m n w : Bytes) → KeepsBytes p m n → KeepsBytes p n w → KeepsBytes p m w
both_keep p m n w f g = record {
  code = λ a inside. g.code a inside ∙ f.code a inside;
  guards = λ a guard empty. g.guards a guard (f.guards a guard empty);
}

-- what holds of its turns where it goes on after one, and where that is the last
by_status : (P : List Turn → Type 0) (turn : Turn) (later : List Turn) (status : Status) → (status ≡ Ready → P (turn ∷ later)) → (status ≢ Ready → P (turn ∷ [])) → P (own_turns status turn later)
by_status P turn later Ready on last = on refl
by_status P turn later status on last = last (λ e. cc)

-- ---- one world step, and what comes then

module _ (machine : Machine) where
  module _ (w : Sandboxes) (v : WorldStep) (world : IsSafeWorld w) (one : IsTaken machine w v) where
    pub safe_after : IsSafeWorld (after_world_step w v)
    safe_after = world_safe w.bytes v.bytes w.seats v.number one.seat v.seat world one.there one.taken.stays.others one.taken.stays.safe one.taken.stays.bounds

    pub slots_after : slots_of (after_world_step w v) ≡ set (slots_of w) v.number (slot_of v.bytes v.seat)
    slots_after = slots_are w.bytes v.bytes w.seats v.number one.seat v.seat world one.there one.taken.stays.others

    module _ (n : Sandboxes) (moves : List WorldStep) (rest : AreRuns machine (after_world_step w v) n moves) (i : ℕ) (p : Part) where
      abbrev own_later : List Turn
      own_later = own_turns v.seat.status (turn_of machine w.bytes one.seat v.replies v.bytes v.seat) (turns_to machine i v.bytes v.seat moves)

      -- its own world step
      own_move : v.number ≡ i → one.seat.bounds ≡ bounds_of p → IsRunBetween p w n i one.seat own_later
      own_move at is =
          let turn = turn_of machine w.bytes one.seat v.replies v.bytes v.seat in
          let more = turns_to machine i v.bytes v.seat moves in
          let from = Some (state_in w.bytes one.seat) in
          let there = ap (slice_get (set w.seats v.number v.seat)) (sym at) ∙ get_set_same w.seats v.number one.seat v.seat one.there in
          let later = rest.each i v.seat p there (one.taken.stays.bounds ∙ is) in
          record {
            run = by_status (λ (l : List Turn). IsRun p from l) turn more v.seat.status
                (λ e. (one.taken.is_turn p is, subst (λ (o : Option State). IsRun p o more) (sym (one.taken.leads e)) later.run))
                (λ e. (one.taken.is_turn p is, tt));
            kept = both_keep p w.bytes v.bytes n.bytes (keep.own_kept w.bytes one.seat (world.each v.number one.seat one.there) p is v.bytes one.taken.stays.others) later.kept;
            seat = later.seat;
            there = later.there;
            bounds = later.bounds ∙ one.taken.stays.bounds;
            leads = λ ready. by_status (λ (l : List Turn). after_turns from l ≡ Some (state_in n.bytes later.seat)) turn more v.seat.status
                (λ e. ap (λ (o : Option State). after_turns o more) (one.taken.leads e) ∙ later.leads ready)
                (λ e. absurd (e (ap (λ (x : Slot). x.status) (sym (later.stays e)) ∙ ready)));
            stays = λ stopped. absurd (stopped one.ready);
          }

      -- a world step of another
      other_move : (s : Seat) → v.number ≢ i → slice_get w.seats i ≡ Some s → s.bounds ≡ bounds_of p → IsRunBetween p w n i s (Changes (state_in v.bytes s) ∷ turns_to machine i v.bytes s moves)
      other_move s ne at is =
          let later = rest.each i s p (get_set_other w.seats v.number i v.seat (λ z. ne (sym z)) ∙ at) is in
          let change = neighbours_are w v.number i one.seat s v.bytes p world ne one.there at one.taken.stays.others is in
          record {
            run = (change, later.run);
            kept = both_keep p w.bytes v.bytes n.bytes change.bytes later.kept;
            seat = later.seat;
            there = later.there;
            bounds = later.bounds;
            leads = later.leads;
            stays = λ stopped. later.stays stopped ∙ other_same w.bytes v.bytes one.seat.bounds one.taken.stays.others s (world.each i s at) (world.others v.number i one.seat s ne one.there at);
          }

      any_move : (s : Seat) → slice_get w.seats i ≡ Some s → s.bounds ≡ bounds_of p → IsRunBetween p w n i s (turns_to machine i w.bytes s (v ∷ moves))
      any_move s at is =
          let mine = own_turns v.seat.status (turn_of machine w.bytes s v.replies v.bytes v.seat) (turns_to machine i v.bytes v.seat moves) in
          let other = Changes (state_in v.bytes s) ∷ turns_to machine i v.bytes s moves in
          elim (v.number == i) as (λ b. (v.number == i) ≡ b → IsRunBetween p w n i s (cond b mine other)) [
            | true ↦ λ b.
                let e = eqb-true v.number i b in
                let same : one.seat ≡ s = same_Some one.seat s (sym one.there ∙ ap (slice_get w.seats) e ∙ at) in
                subst (λ (x : Seat). x.bounds ≡ bounds_of p → IsRunBetween p w n i x (own_turns v.seat.status (turn_of machine w.bytes x v.replies v.bytes v.seat) (turns_to machine i v.bytes v.seat moves))) same (own_move e) is
            | false ↦ λ b. other_move s (eqb-false v.number i b) at is
          ] refl

  -- ---- all of them

  pub are_world_steps : (moves : List WorldStep) (w n : Sandboxes) → IsSafeWorld w → AreTaken machine w moves n → AreWorldSteps machine w moves n
  are_world_steps [] w n world are = are
  are_world_steps (v ∷ moves) w n world are =
      let one = are.0 in
      let safe = safe_after w v world one in (
        record {
          seat = one.seat;
          there = one.there;
          ready = one.ready;
          alone = one.taken.alone;
          step = one.taken.step;
          others = one.taken.stays.others;
        },
        safe,
        are_world_steps moves (after_world_step w v) n safe are.1,
      )

  pub are_runs : (moves : List WorldStep) (w n : Sandboxes) → IsSafeWorld w → AreTaken machine w moves n → AreRuns machine w n moves
  are_runs [] w n world are = subst (λ (x : Sandboxes). AreRuns machine w x []) (sym are) (record {
    safe_world = world;
    outside = λ a out. refl;
    each = λ i s p at is. record {
      run = tt;
      kept = record { code = λ a inside. refl; guards = λ a guard empty. empty };
      seat = s;
      there = at;
      bounds = refl;
      leads = λ ready. refl;
      stays = λ stopped. refl;
    };
  })
  are_runs (v ∷ moves) w n world are =
      let one = are.0 in
      let rest = are_runs moves (after_world_step w v) n (safe_after w v world one) are.1 in
      record {
        safe_world = rest.safe_world;
        outside = outside_more w (after_world_step w v) n.bytes (same_bounds w.seats v.number one.seat v.seat one.there one.taken.stays.bounds) (λ a out. one.taken.stays.others a (out v.number one.seat one.there)) rest.outside;
        each = λ i s p. any_move w v world one n moves rest i p s;
      }

  pub safe_runs : (moves : List WorldStep) (w n : Sandboxes) → IsSafeWorld w → AreRuns machine w n moves → AreSafeRuns machine w moves
  safe_runs moves w n world runs i s p at is ready code =
      let here = world.each i s at in
      let turns = turns_to machine i w.bytes s moves in
      safe_run here.part p (sym here.bounds ∙ is) w.bytes here.code code (Some (state_in w.bytes s)) turns ((here.safe ready).safe.safe turns (runs.each i s here.part at here.bounds).run)
