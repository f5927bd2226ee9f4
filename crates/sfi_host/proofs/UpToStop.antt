-- Turns that end at one of some addresses, too.
use Rattle.sfi_host.proofs.Prelude.{◌≡◌, ◌≢◌, ◌<◌, ◌≤◌, ◌↔◌, ◌⊎◌, inl, inr, ⊎_elim, ℕ, zero, suc, ◌+◌, ◌-◌, ◌==◌, ◌||◌, Bool, true, false, IsTrue, Contains, List, [], ◌∷◌, Some, None, slice_get, set, same_Some, refl, sym, ap, ◌∙◌, subst, arith, cases_lt, eqb-true, Status, Ready, Exited, Trapped, Stopped, Outcome, Slot, state_of, slot_of, Seat, Bytes, StaysSafe, Machine, IsMachine, Moved, still, moved, moved_if, slot_after_step, and_more, turned, StepResult, Continue, TurnEnds, RunEnds, Turn, joined, turn_and, and_plan, Sandboxes, slots_of}
use Rattle.rv_step.specs.declared.outcome.Outcome.TheVariants as outcome
use Rattle.std.specs.List.{list_any}
use Rattle.sfi_host.specs.Waiting.{StandsAt, IsUpToStop, turn_of, after_turn, silent}
use Rattle.sfi_host.specs.declared.turn.Pause.{Pause}
use Rattle.sfi_host.specs.declared.turn.Pause.TheVariants.{Over, Call as PausedAt}
use Rattle.sfi_host.specs.private.Turns.{IsCallOf, IsQuietTurn, IsQuietToCall, after_steps, IsTurnUntil}
use Rattle.sfi_decoded.proofs.Lists.{get_set_same}
use Rattle.sfi_host.proofs.Quiet.{first_is, none, turn_over, turn_called, stays_quiet, no_sandbox}
use Rattle.sfi_host.proofs.SafeSeats.{stays_on}

-- ---- whether an address is among some

one_of : (x : ℕ) (xs : List ℕ) (y : ℕ) (t : Bool) → (x == y) ≡ t → (IsTrue (list_any (λ z. z == y) xs) ↔ Contains xs y) → (IsTrue (t || list_any (λ z. z == y) xs) ↔ Contains (x ∷ xs) y)
one_of x xs y true e rest = (λ h. (0, omega arith, eqb-true x y e), λ h. refl)
one_of x xs y false e rest = (
  λ h. let c = rest.0 h in let below = c.1 in (suc c.0, omega (arith, below), c.2),
  λ c. rest.1 (later c),
)
  where
    later : Contains (x ∷ xs) y → Contains xs y
    later (zero, below, is) = let z : (x == y) ≡ true = grind arith in absurd (cc)
    later (suc k, below, is) = (k, omega (arith, below), is)

pub among : (xs : List ℕ) (y : ℕ) → (IsTrue (list_any (λ z. z == y) xs) ↔ Contains xs y)
among [] y = (λ h. absurd (cc), λ c. let below = c.1 in absurd (omega (arith, below)))
among (x ∷ xs) y = one_of x xs y (x == y) refl (among xs y)

-- ---- one number of steps after another

module _ (machine : Machine) (number : ℕ) where
  -- further steps do nothing
  abbrev IsStuck : Slot → Type 0
  IsStuck slot = (n : ℕ) → after_steps machine number n slot ≡ slot

  pub stuck_off : (slot : Slot) → slot.status ≢ Ready → IsStuck slot
  stuck_off slot off n = ap (λ (m : Moved (Unit {0})). m.slot) (turn_over machine number n slot slot (stays_quiet machine n slot slot.status off refl))

  pub stuck_call : (slot : Slot) → IsCallOf machine slot → IsStuck slot
  stuck_call slot at zero = ap (λ (m : Moved (Unit {0})). m.slot) (none machine number slot)
  stuck_call slot at (suc n) =
      ap (λ (m : Moved (Unit {0})). m.slot) (turn_called machine number (suc n) (suc n) slot slot (record { count = 0; some = omega arith; all = omega arith; quiet = refl; call = at }))

  -- what a step comes to: where the turn doesn't go on after it, further steps do nothing
  record Viewed (slot : Slot) : Type 0 where
    new : Slot
    next : StepResult
    is : moved machine silent number slot tt ≡ still new tt next
    stuck : next ≢ Continue → IsStuck new

  by_outcome : (slot : Slot) → slot.status ≡ Ready → (o : Outcome) → (machine (state_of slot)).outcome ≡ o → Viewed slot
  unfolding moved
  by_outcome slot on outcome.Next e = record {
    new = _;
    next = Continue;
    is = ap (moved_if machine silent number slot tt) on ∙ ap (λ (o : Outcome). slot_after_step silent number slot tt o (machine (state_of slot)).state) e;
    stuck = λ f. absurd (f refl);
  }
  by_outcome slot on (outcome.Trap cause at) e = record {
    new = _;
    next = TurnEnds;
    is = ap (moved_if machine silent number slot tt) on ∙ ap (λ (o : Outcome). slot_after_step silent number slot tt o (machine (state_of slot)).state) e;
    stuck = λ f. stuck_off _ (λ r. cc);
  }
  by_outcome slot on outcome.Call e = record {
    new = slot;
    next = RunEnds;
    is = ap (moved_if machine silent number slot tt) on ∙ ap (λ (o : Outcome). slot_after_step silent number slot tt o (machine (state_of slot)).state) e;
    stuck = λ f. stuck_call slot (record { ready = on; calls = e });
  }

  off : (slot : Slot) (status : Status) → slot.status ≡ status → status ≢ Ready → moved_if machine silent number slot tt status ≡ still slot tt TurnEnds → Viewed slot
  unfolding moved
  off slot status e n is = record {
    new = slot;
    next = TurnEnds;
    is = ap (moved_if machine silent number slot tt) e ∙ is;
    stuck = λ f. stuck_off slot (λ r. n (sym e ∙ r));
  }

  by_status : (slot : Slot) (status : Status) → slot.status ≡ status → Viewed slot
  by_status slot Ready e = by_outcome slot e (machine (state_of slot)).outcome refl
  by_status slot (Exited n) e = off slot (Exited n) e (λ r. cc) refl
  by_status slot (Trapped cause at) e = off slot (Trapped cause at) e (λ r. cc) refl
  by_status slot Stopped e = off slot Stopped e (λ r. cc) refl

  more : (j n : ℕ) (new : Slot) (next : StepResult) → (next ≢ Continue → IsStuck new) → after_steps machine number (j + n) new ≡ after_steps machine number n (after_steps machine number j new)
      → (and_more next (still new tt next) (turned machine silent number (j + n))).slot ≡ after_steps machine number n (and_more next (still new tt next) (turned machine silent number j)).slot
  more j n new Continue stuck rest = rest
  more j n new TurnEnds stuck rest = sym (stuck (λ f. cc) n)
  more j n new RunEnds stuck rest = sym (stuck (λ f. cc) n)

  pub steps_then : (j n : ℕ) (slot : Slot) → after_steps machine number (j + n) slot ≡ after_steps machine number n (after_steps machine number j slot)
  steps_then zero n slot =
      let e : 0 + n ≡ n = omega arith in
      ap (λ (k : ℕ). after_steps machine number k slot) e ∙ ap (after_steps machine number n) (sym (ap (λ (m : Moved (Unit {0})). m.slot) (none machine number slot)))
  steps_then (suc j) n slot =
      let v = by_status slot slot.status refl in
      let e : suc j + n ≡ suc (j + n) = omega arith in
      ap (λ (k : ℕ). after_steps machine number k slot) e
      ∙ ap (λ (m : Moved (Unit {0})). m.slot) (first_is machine number (j + n) slot v.new v.next v.is)
      ∙ more j n v.new v.next v.stuck (steps_then j n v.new)
      ∙ ap (after_steps machine number n) (sym (ap (λ (m : Moved (Unit {0})). m.slot) (first_is machine number j slot v.new v.next v.is)))

  -- a turn of one step that pauses so
  pub one_step : (old new : Slot) (pause : Pause) → (pause ≡ Over → IsQuietTurn machine 1 old new) → ((left : ℕ) → pause ≡ PausedAt left → IsQuietToCall machine 1 old left new) → after_steps machine number 1 old ≡ new
  one_step old new Over over call = ap (λ (m : Moved (Unit {0})). m.slot) (turn_over machine number 1 old new (over refl))
  one_step old new (PausedAt left) over call = ap (λ (m : Moved (Unit {0})). m.slot) (turn_called machine number 1 left old new (call left refl))

-- ---- the loop

-- `done` steps are done, and after none of them the sandbox stood at a stop
pub record InUntil (stops : List ℕ) (m : Bytes) (s : Seat) (done : ℕ) (n : Bytes) (t : Seat) : Type 0 where
  pub stays : StaysSafe m s n t
  pub ran : (machine : Machine) → IsMachine machine → (number : ℕ) → slot_of n t ≡ after_steps machine number done (slot_of m s)
  pub first : (machine : Machine) → IsMachine machine → (number k : ℕ) → 0 < k → k ≤ done → Contains stops (after_steps machine number k (slot_of m s)).hart.pc → ⊥

pub none_done : (stops : List ℕ) (m : Bytes) (s : Seat) → StaysSafe m s m s → InUntil stops m s 0 m s
none_done stops m s stays = record {
  stays = stays;
  ran = λ machine is number. sym (ap (λ (m : Moved (Unit {0})). m.slot) (none machine number (slot_of m s)));
  first = λ machine is number k some few c. absurd (omega (arith, some, few));
}

module _ (stops : List ℕ) (m : Bytes) (s : Seat) (done : ℕ) (n : Bytes) (t : Seat) (so_far : InUntil stops m s done n t) (o : Bytes) (u : Seat) (stays : StaysSafe n t o u) (pause : Pause)
    (over : pause ≡ Over → (machine : Machine) → IsMachine machine → IsQuietTurn machine 1 (slot_of n t) (slot_of o u))
    (call : (left : ℕ) → pause ≡ PausedAt left → (machine : Machine) → IsMachine machine → IsQuietToCall machine 1 (slot_of n t) left (slot_of o u)) where
  pub stays_so : StaysSafe m s o u
  stays_so = stays_on m n o s t u so_far.stays stays

  ran : (machine : Machine) → IsMachine machine → (number : ℕ) → slot_of o u ≡ after_steps machine number (done + 1) (slot_of m s)
  ran machine is number =
      sym (steps_then machine number done 1 (slot_of m s)
      ∙ ap (after_steps machine number 1) (sym (so_far.ran machine is number))
      ∙ one_step machine number (slot_of n t) (slot_of o u) pause (λ e. over e machine is) (λ left e. call left e machine is))

  -- the sandbox stands at a stop before all steps are done
  pub at_stop : (steps : ℕ) → done < steps → Contains stops u.hart.pc → IsTurnUntil stops steps (slot_of m s) (slot_of o u)
  at_stop steps below c = record {
    count = done + 1;
    most = omega (arith, below);
    ran = ran;
    first = λ machine is number k some less. so_far.first machine is number k some (omega (arith, less));
    ends = λ less. (omega arith, c);
  }

  module _ (other : Contains stops u.hart.pc → ⊥) where
    none_yet : (machine : Machine) → IsMachine machine → (number k : ℕ) → 0 < k → k ≤ done + 1 → Contains stops (after_steps machine number k (slot_of m s)).hart.pc → ⊥
    none_yet machine is number k some few c = elim (cases_lt k (done + 1)) [
      | inl less ↦ so_far.first machine is number k some (omega (arith, less)) c
      | inr all ↦
          let e : k ≡ done + 1 = omega (arith, few, all) in
          other (subst (λ (x : Slot). Contains stops x.hart.pc) (sym (ran machine is number)) (subst (λ (x : ℕ). Contains stops (after_steps machine number x (slot_of m s)).hart.pc) e c))
    ]

    -- one step more is done
    pub further : InUntil stops m s (done + 1) o u
    further = record { stays = stays_so; ran = ran; first = none_yet }

    -- further steps do nothing
    module _ (steps : ℕ) (below : done < steps) (stuck : ((left : ℕ) × (pause ≡ PausedAt left)) ⊎ (u.status ≢ Ready)) where
      is_stuck : (machine : Machine) → IsMachine machine → (number k : ℕ) → after_steps machine number k (slot_of o u) ≡ slot_of o u
      is_stuck machine is number k = ⊎_elim
          (λ (x : (left : ℕ) × (pause ≡ PausedAt left)). stuck_call machine number (slot_of o u) (call x.0 x.1 machine is).call k)
          (λ (off : u.status ≢ Ready). stuck_off machine number (slot_of o u) off k) stuck

      after : (machine : Machine) → IsMachine machine → (number k : ℕ) → done + 1 ≤ k → after_steps machine number k (slot_of m s) ≡ slot_of o u
      after machine is number k more =
          let e : k ≡ done + 1 + (k - (done + 1)) = omega (arith, more) in
          ap (λ (x : ℕ). after_steps machine number x (slot_of m s)) e
          ∙ steps_then machine number (done + 1) (k - (done + 1)) (slot_of m s)
          ∙ ap (after_steps machine number (k - (done + 1))) (sym (ran machine is number))
          ∙ is_stuck machine is number (k - (done + 1))

      pub at_end : IsTurnUntil stops steps (slot_of m s) (slot_of o u)
      at_end = record {
        count = steps;
        most = omega arith;
        ran = λ machine is number. sym (after machine is number steps (omega (arith, below)));
        first = λ machine is number k some less c. elim (cases_lt k (done + 1)) [
          | inl few ↦ so_far.first machine is number k some (omega (arith, few)) c
          | inr more ↦ other (subst (λ (x : Slot). Contains stops x.hart.pc) (after machine is number k more) c)
        ];
        ends = λ less. absurd (omega (arith, less));
      }

-- all steps are done
pub all_done : (stops : List ℕ) (m : Bytes) (s : Seat) (done : ℕ) (n : Bytes) (t : Seat) (steps : ℕ) → done ≡ steps → InUntil stops m s done n t → IsTurnUntil stops steps (slot_of m s) (slot_of n t)
all_done stops m s done n t steps e so_far = record {
  count = done;
  most = omega (arith, e);
  ran = so_far.ran;
  first = λ machine is number k some less. so_far.first machine is number k some (omega (arith, less));
  ends = λ less. absurd (omega (arith, less, e));
}

-- ---- a world

module _ (machine : Machine) (i steps : ℕ) (slots : List Slot) (slot : Slot) (there : slice_get slots i ≡ Some slot) where
  pub after_turn_is : after_turn machine i steps slots ≡ set slots i (after_steps machine i steps slot)
  unfolding joined
  after_turn_is = ap (λ (o : _). (turn_and machine silent (turn_of i steps) slots tt o (joined machine silent [])).slots) there ∙ by (turned machine silent i steps slot tt)
    where
      by_next : (m : Moved (Unit {0})) (next : StepResult) → (and_plan next i m slots (joined machine silent [])).slots ≡ set slots i m.slot
      by_next m Continue = refl
      by_next m TurnEnds = refl
      by_next m RunEnds = refl

      by : (m : Moved (Unit {0})) → (and_plan m.next i m slots (joined machine silent [])).slots ≡ set slots i m.slot
      by m = by_next m m.next

  pub stands_then : (stops : List ℕ) → StandsAt (after_turn machine i steps slots) i stops → Contains stops (after_steps machine i steps slot).hart.pc
  stands_then stops at =
      let here : slice_get (after_turn machine i steps slots) i ≡ Some (after_steps machine i steps slot) = ap (λ (l : List Slot). slice_get l i) after_turn_is ∙ get_set_same slots i slot _ there in
      let same : at.slot ≡ after_steps machine i steps slot = same_Some at.slot _ (sym at.there ∙ here) in
      subst (λ (x : Slot). Contains stops x.hart.pc) same at.among

-- what the loop's turn is to its world
pub up_to_stop : (stops : List ℕ) (turn : Turn) (w n : Sandboxes) (old new : Slot) → slice_get (slots_of w) turn.sandbox ≡ Some old → slots_of n ≡ set (slots_of w) turn.sandbox new
    → (t : IsTurnUntil stops turn.steps old new) → IsUpToStop stops turn w n t.count
up_to_stop stops turn w n old new there slots t = record {
  most = t.most;
  ran = λ machine is. slots ∙ ap (set (slots_of w) turn.sandbox) (t.ran machine is turn.sandbox) ∙ sym (after_turn_is machine turn.sandbox t.count (slots_of w) old there);
  first = λ machine is k some less at. t.first machine is turn.sandbox k some less (stands_then machine turn.sandbox k (slots_of w) old there stops at);
  ends = λ less.
      let e = t.ends less in
      (e.0, record { slot = new; there = ap (λ (l : List Slot). slice_get l turn.sandbox) slots ∙ get_set_same (slots_of w) turn.sandbox old new there; among = e.1 });
}

-- where there is no such sandbox nothing happens
pub no_sandbox_there : (stops : List ℕ) (turn : Turn) (w : Sandboxes) → slice_get (slots_of w) turn.sandbox ≡ None → IsUpToStop stops turn w w turn.steps
no_sandbox_there stops turn w e = record {
  most = omega arith;
  ran = λ machine is. no_sandbox machine (turn_of turn.sandbox turn.steps) (slots_of w) e;
  first = λ machine is k some less at.
      let same = no_sandbox machine (turn_of turn.sandbox k) (slots_of w) e in
      let z : Some at.slot ≡ None = sym at.there ∙ ap (λ (l : List Slot). slice_get l turn.sandbox) (sym same) ∙ e in
      absurd (cc);
  ends = λ less. absurd (omega (arith, less));
}
