-- What each turn of a joint run keeps to.
use Rattle.std.proofs.Math.Nat.{min-le_left}
use Rattle.sfi_host.proofs.Prelude.{◌≡◌, ◌≢◌, ℕ, zero, suc, ◌+◌, ◌^◌, ◌-◌, ◌≤◌, ⊎_elim, List, [], ◌∷◌, Option, Some, None, set, slice_get, refl, sym, ap, ◌∙◌, subst, arith, cases_eq, option_map, Outcome, State, Status, Ready, Stopped, Slot, state_of, one_more, Turn, Way, Exit, Answer, Host, Machine, Moved, moved, moved_if, slot_after_step, after_answer, call_of, status_after, StepResult, Continue, RunEnds, and_more, turned, Joined, joined, and_plan, turn_and, status_at, map, map-set}
use Rattle.rv_step.specs.declared.outcome.Outcome.TheVariants as outcome
use Rattle.sfi_host.specs.Waiting.{TurnStepsAreBounded, WaitsThroughTurns, PlansStopNone, silent}
use Rattle.sfi_decoded.proofs.Lists.{get_set_same, get_set_other, set_itself}
use Rattle.sfi_host.proofs.Plans.{joined_cons, joined_nil}
use Rattle.sfi_host.proofs.SlotSteps.{calls_by}
use Rattle.sfi_host.proofs.WorldBytes.{get_map}

-- ---- steps

-- at most k steps more are counted; what is stopped was so, what had stopped is what it was, and it
-- lies where it lay
record Goes (k : ℕ) (old new : Slot) : Type 0 where
  bounds : new.bounds ≡ old.bounds
  steps : new.steps ≤ old.steps + k
  stopped : new.status ≡ Stopped → old.status ≡ Stopped
  same : old.status ≢ Ready → new ≡ old

stays : (k : ℕ) (slot : Slot) → Goes k slot slot
stays k slot = record { bounds = refl; steps = omega arith; stopped = λ e. e; same = λ n. refl }

goes_on : (k : ℕ) (old mid new : Slot) → Goes 1 old mid → Goes k mid new → Goes (suc k) old new
goes_on k old mid new first second =
    let one = first.steps in
    let more = second.steps in
    record {
      bounds = second.bounds ∙ first.bounds;
      steps = omega (arith, one, more);
      stopped = λ e. first.stopped (second.stopped e);
      same = λ n. let e = first.same n in second.same (subst (λ (x : Slot). x.status ≢ Ready) (sym e) n) ∙ e;
    }

goes_less : (k : ℕ) (old new : Slot) → Goes 1 old new → Goes (suc k) old new
goes_less k old new first = let one = first.steps in record { bounds = first.bounds; steps = omega (arith, one); stopped = first.stopped; same = first.same }

-- one that is ready, and isn't stopped from outside
steps_by : (old new : Slot) → new.bounds ≡ old.bounds → old.status ≡ Ready → new.steps ≤ old.steps + 1 → new.status ≢ Stopped → Goes 1 old new
steps_by old new bounds ready steps other = record { bounds = bounds; steps = steps; stopped = λ e. absurd (other e); same = λ n. absurd (n ready) }

counted : (n : ℕ) → one_more n ≤ n + 1
counted n = min-le_left (n + 1) (2 ^ 64 - 1)

not_stopped : (w : Way) → status_after w ≢ Stopped
not_stopped (Exit n) e = cc
not_stopped w e = cc

ready_not : (slot : Slot) → slot.status ≡ Ready → slot.status ≢ Stopped
ready_not slot ready e = let z : Ready ≡ Stopped = sym ready ∙ e in cc

module _ {S : Type 0} (machine : Machine) (host : Host S) (i : ℕ) where
  by_answer : (slot : Slot) (s : S) (o : Option (Answer S)) → slot.status ≡ Ready → Goes 1 slot (after_answer slot s o).slot
  by_answer slot s None ready = stays 1 slot
  by_answer slot s (Some a) ready = steps_by slot _ refl ready (counted slot.steps) (not_stopped a.reply.way)

  by_outcome : (slot : Slot) (s : S) (o : Outcome) (state : State) → slot.status ≡ Ready → Goes 1 slot (slot_after_step host i slot s o state).slot
  by_outcome slot s outcome.Next state ready = steps_by slot _ refl ready (counted slot.steps) (ready_not slot ready)
  by_outcome slot s (outcome.Trap cause at) state ready = steps_by slot _ refl ready (omega arith) (λ e. cc)
  by_outcome slot s outcome.Call state ready = by_answer slot s (host s (call_of i slot)) ready

  by_status : (slot : Slot) (s : S) (status : Status) → slot.status ≡ status → Goes 1 slot (moved_if machine host i slot s status).slot
  by_status slot s Ready e = let r = machine (state_of slot) in by_outcome slot s r.outcome r.state e
  by_status slot s status e = stays 1 slot

  step_goes : (slot : Slot) (s : S) → Goes 1 slot (moved machine host i slot s).slot
  unfolding moved
  step_goes slot s = by_status slot s slot.status refl

  and_goes : (next : StepResult) (m : Moved S) (k : ℕ) (slot : Slot) (rest : Slot → S → Moved S) → Goes 1 slot m.slot → ((x : Slot) (y : S) → Goes k x (rest x y).slot) → Goes (suc k) slot (and_more next m rest).slot
  and_goes Continue m k slot rest first more = goes_on k slot m.slot (rest m.slot m.host).slot first (more m.slot m.host)
  and_goes next m k slot rest first more = goes_less k slot m.slot first

  turn_goes : (k : ℕ) (slot : Slot) (s : S) → Goes k slot (turned machine host i k slot s).slot
  unfolding turned
  turn_goes zero slot s = stays 0 slot
  turn_goes (suc k) slot s = let m = moved machine host i slot s in and_goes m.next m k slot (turned machine host i k) (step_goes slot s) (turn_goes k)

  -- a turn leaves it where it lay
  pub turn_lies : (k : ℕ) (slot : Slot) (s : S) → (turned machine host i k slot s).slot.bounds ≡ slot.bounds
  turn_lies k slot s = (turn_goes k slot s).bounds

-- ---- a turn

module _ {S : Type 0} (machine : Machine) (host : Host S) (t : Turn) (slots : List Slot) (s : S) where
  one_set : (next : StepResult) (m : Moved S) → (and_plan next t.sandbox m slots (joined machine host [])).slots ≡ set slots t.sandbox m.slot
  one_set RunEnds m = refl
  one_set next m = ap (λ (j : Joined S). j.slots) (joined_nil machine host (set slots t.sandbox m.slot) m.host)

  -- its sandbox is what the turn makes of it, and the others stay
  pub turn_set : (old : Slot) → slice_get slots t.sandbox ≡ Some old → (joined machine host (t ∷ []) slots s).slots ≡ set slots t.sandbox (turned machine host t.sandbox t.steps old s).slot
  turn_set old at =
      let m = turned machine host t.sandbox t.steps old s in
      ap (λ (j : Joined S). j.slots) (joined_cons machine host t [] slots s (Some old) at) ∙ one_set m.next m

  -- of no sandbox
  pub turn_none : slice_get slots t.sandbox ≡ None → (joined machine host (t ∷ []) slots s).slots ≡ slots
  turn_none none = ap (λ (j : Joined S). j.slots) (joined_cons machine host t [] slots s None none) ∙ ap (λ (j : Joined S). j.slots) (joined_nil machine host slots s)

  -- where each lies
  pub turn_bounds : map (λ (x : Slot). x.bounds) (joined machine host (t ∷ []) slots s).slots ≡ map (λ (x : Slot). x.bounds) slots
  turn_bounds = elim (slice_get slots t.sandbox) as (λ o. slice_get slots t.sandbox ≡ o → map (λ (x : Slot). x.bounds) (joined machine host (t ∷ []) slots s).slots ≡ map (λ (x : Slot). x.bounds) slots) [
    | None ↦ λ e. ap (map (λ (x : Slot). x.bounds)) (turn_none e)
    | Some old ↦ λ e.
        ap (map (λ (x : Slot). x.bounds)) (turn_set old e) ∙ map-set (λ (x : Slot). x.bounds) slots t.sandbox _
        ∙ ap (set (map (λ (x : Slot). x.bounds) slots) t.sandbox) (turn_goes machine host t.sandbox t.steps old s).bounds
        ∙ set_itself (map (λ (x : Slot). x.bounds) slots) t.sandbox old.bounds (get_map (λ (x : Slot). x.bounds) slots t.sandbox old e)
  ] refl

pub turn_steps_are_bounded : {S : Type 0} → TurnStepsAreBounded S
turn_steps_are_bounded machine host t slots s old at =
    let new = (turned machine host t.sandbox t.steps old s).slot in
    let goes = turn_goes machine host t.sandbox t.steps old s in (
      new,
      ap (λ (l : List Slot). slice_get l t.sandbox) (turn_set machine host t slots s old at) ∙ get_set_same slots t.sandbox old new at,
      goes.steps,
      goes.same,
    )

-- one that waits does no step
waits_still : (machine : Machine) (i k : ℕ) (slot : Slot) → slot.status ≡ Ready → (machine (state_of slot)).outcome ≡ outcome.Call → (turned machine silent i k slot tt).slot ≡ slot
unfolding turned
waits_still machine i zero slot ready calls = refl
waits_still machine i (suc k) slot ready calls =
    ap (λ (m : Moved (Unit {0})). (and_more m.next m (turned machine silent i k)).slot) (calls_by machine silent i slot tt ready calls)

pub waits_through_turns : WaitsThroughTurns
waits_through_turns machine is t slots at =
    turn_set machine silent t slots tt at.slot at.there
    ∙ ap (set slots t.sandbox) (waits_still machine t.sandbox t.steps at.slot at.ready (at.calls machine is))
    ∙ set_itself slots t.sandbox at.slot at.there

-- ---- a plan

-- one slot is set, and what is stopped so was so
set_stopped : (slots : List Slot) (j : ℕ) (old new : Slot) (i : ℕ) → slice_get slots j ≡ Some old → (new.status ≡ Stopped → old.status ≡ Stopped) → status_at (set slots j new) i ≡ Some Stopped → status_at slots i ≡ Some Stopped
set_stopped slots j old new i at was e = ⊎_elim
    (λ (h : i ≡ j).
    let now : status_at (set slots j new) i ≡ Some new.status = ap (status_at (set slots j new)) h ∙ ap (option_map (λ (x : Slot). x.status)) (get_set_same slots j old new at) in
    let stopped : new.status ≡ Stopped = (let z : Some new.status ≡ Some Stopped = sym now ∙ e in cc) in
    ap (status_at slots) h ∙ ap (option_map (λ (x : Slot). x.status)) at ∙ ap Some (was stopped))
    (λ (h : i ≢ j). sym (ap (option_map (λ (x : Slot). x.status)) (get_set_other slots j i new h)) ∙ e)
    (cases_eq i j)

module _ {S : Type 0} (machine : Machine) (host : Host S) (i : ℕ) where
  abbrev StopsNone : List Slot → List Slot → Type 0
  StopsNone old new = status_at new i ≡ Some Stopped → status_at old i ≡ Some Stopped

  after_moved : (next : StepResult) (t : Turn) (m : Moved S) (slots : List Slot) (rest : List Slot → S → Joined S) → ((l : List Slot) (x : S) → StopsNone l (rest l x).slots) → StopsNone slots (set slots t.sandbox m.slot)
      → StopsNone slots (and_plan next t.sandbox m slots rest).slots
  after_moved RunEnds t m slots rest later here e = here e
  after_moved next t m slots rest later here e = here (later (set slots t.sandbox m.slot) m.host e)

  after_found : (t : Turn) (slots : List Slot) (s : S) (o : Option Slot) (rest : List Slot → S → Joined S) → slice_get slots t.sandbox ≡ o → ((l : List Slot) (x : S) → StopsNone l (rest l x).slots)
      → StopsNone slots (turn_and machine host t slots s o rest).slots
  after_found t slots s None rest at later e = later slots s e
  after_found t slots s (Some old) rest at later e =
      let m = turned machine host t.sandbox t.steps old s in
      after_moved m.next t m slots rest later (set_stopped slots t.sandbox old m.slot i at (turn_goes machine host t.sandbox t.steps old s).stopped) e

  none_stopped : (plan : List Turn) (slots : List Slot) (s : S) → StopsNone slots (joined machine host plan slots s).slots
  unfolding joined
  none_stopped [] slots s e = e
  none_stopped (t ∷ plan) slots s e = after_found t slots s (slice_get slots t.sandbox) (joined machine host plan) refl (none_stopped plan) e

pub plans_stop_none : {S : Type 0} → PlansStopNone S
plans_stop_none machine host plan slots s i = none_stopped machine host i plan slots s
