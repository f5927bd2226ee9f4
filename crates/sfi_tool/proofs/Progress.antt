-- How many steps of its budget a sandbox has left: fewer after each turn and each reply.
use Rattle.sfi_tool.proofs.Prelude.{◌≡◌, ◌∙◌, ℕ, List, refl, sym, ap, subst, arith, slice_get, inl}
use Rattle.std.proofs.Common.{◌≢◌, ◌⊎◌, ⊎_elim, inr, suc, zero, ◌+◌, ◌-◌, ◌^◌, ◌≤◌, ◌<◌, ◌∷◌, [], Option, Some, None}
use Rattle.std.proofs.Math.Nat.{le-min, min-eq_left}
use Rattle.std.proofs.lemmas.Bool.{cases_eq}
use Rattle.rv_step.specs.State.{State}
use Rattle.rv_step.specs.Step.{Stepped}
use Rattle.rv_step.specs.declared.outcome.Outcome.{Outcome}
use Rattle.rv_step.specs.declared.outcome.Outcome.TheVariants as outcome
use Rattle.sfi_host.proofs.Facts.{one_machine, some_machine}
use Rattle.sfi_decoded.proofs.Lists.{get_set_same}
use Rattle.sfi_host.specs.Hosts.{Way, Replied, Yield, Exit}
use Rattle.sfi_host.specs.Joint.{Machine, IsMachine, Moved, and_more, joined, moved, moved_if, replied, slot_after_step, status_after, turn_and, turned}
use Rattle.sfi_host.specs.Slots.{Slot, one_more, state_of}
use Rattle.sfi_host.specs.Waiting.{IsAtCall, silent, to_call}
use Rattle.sfi_host.specs.declared.status.Status.{Status}
use Rattle.sfi_host.specs.declared.status.Status.TheVariants.{Ready, Exited, Trapped, Stopped}
use Rattle.sfi_host.specs.declared.turn.StepResult.{StepResult}
use Rattle.sfi_host.specs.declared.turn.StepResult.TheVariants.{Continue, TurnEnds, RunEnds}
use Rattle.sfi_host.specs.declared.turn.Turn.{Turn}
use Rattle.sfi_tool.specs.private.{HasLess, IsReplyTo, left_by, left_of}
use Rattle.sfi_tool.proofs.Budgets.{at_most, plan_slots, same_slots}

-- ---- a step

-- one that is counted
one_less : (budget n : ℕ) → budget ≤ 2 ^ 64 - 1 → budget - n ≢ 0 → budget - one_more n < budget - n
one_less budget n most some =
    let fits : n + 1 ≤ 2 ^ 64 - 1 = omega (arith, most, some) in
    let e : one_more n ≡ n + 1 = min-eq_left fits in
    omega (arith, e, some)

no_more : (budget n : ℕ) → budget ≤ 2 ^ 64 - 1 → budget - one_more n ≤ budget - n
no_more budget n most = ⊎_elim
    (λ (none : budget - n ≡ 0).
    let above : budget ≤ n + 1 = omega (arith, none) in
    let all : budget ≤ one_more n = le-min above most in
    omega (arith, all))
    (λ (some : budget - n ≢ 0). let less = one_less budget n most some in omega (arith, less))
    (cases_eq (budget - n) 0)

abbrev left : ℕ → Slot → ℕ
left budget slot = left_by budget slot.status slot.steps

-- only a sandbox that is ready has any left
is_ready : (budget : ℕ) (slot : Slot) (status : Status) → slot.status ≡ status → left budget slot ≢ 0 → slot.status ≡ Ready
is_ready budget slot Ready e some = e
is_ready budget slot (Exited n) e some = absurd (some (ap (λ (s : Status). left_by budget s slot.steps) e))
is_ready budget slot (Trapped cause at) e some = absurd (some (ap (λ (s : Status). left_by budget s slot.steps) e))
is_ready budget slot Stopped e some = absurd (some (ap (λ (s : Status). left_by budget s slot.steps) e))

nothing_below : (n : ℕ) → 0 ≤ n
nothing_below n = omega arith

same_most : (n : ℕ) → n ≤ n
same_most n = omega arith

below : (a b c : ℕ) → a ≤ b → b < c → a < c
below a b c first last = omega (arith, first, last)

above_none : (n : ℕ) → n ≢ 0 → 0 < n
above_none n some = omega (arith, some)

-- what a step or a turn up to a call leaves: no more, and less, unless the sandbox stands at a call
record Leaves (machine : Machine) (budget : ℕ) (slot : Slot) (m : Moved (Unit {0})) : Type 0 where
  no_more : left budget m.slot ≤ left budget slot
  less : left budget slot ≢ 0 → (left budget m.slot < left budget slot) ⊎ ((m.slot ≡ slot) × (m.next ≡ RunEnds) × ((machine (state_of slot)).outcome ≡ outcome.Call))

module _ (machine : Machine) (budget : ℕ) (most : budget ≤ 2 ^ 64 - 1) (i : ℕ) where
  by_outcome : (slot : Slot) (o : Outcome) (state : State) → slot.status ≡ Ready → (machine (state_of slot)).outcome ≡ o → Leaves machine budget slot (slot_after_step silent i slot tt o state)
  by_outcome slot outcome.Next state ready is = record {
    no_more = subst (λ (s : Status). left_by budget s (one_more slot.steps) ≤ left_by budget s slot.steps) (sym ready) (no_more budget slot.steps most);
    less = λ some. inl (subst (λ (s : Status). left_by budget s (one_more slot.steps) < left_by budget s slot.steps) (sym ready)
        (one_less budget slot.steps most (subst (λ (s : Status). left_by budget s slot.steps ≢ 0) ready some)));
  }
  by_outcome slot (outcome.Trap cause at) state ready is = record { no_more = nothing_below (left budget slot); less = λ some. inl (above_none (left budget slot) some) }
  by_outcome slot outcome.Call state ready is = record { no_more = same_most (left budget slot); less = λ some. inr (refl, refl, is) }

  by_status : (slot : Slot) (status : Status) → slot.status ≡ status → Leaves machine budget slot (moved_if machine silent i slot tt status)
  by_status slot Ready e = let r = machine (state_of slot) in by_outcome slot r.outcome r.state e refl
  by_status slot (Exited n) e = record { no_more = same_most (left budget slot); less = λ some. absurd (some (ap (λ (s : Status). left_by budget s slot.steps) e)) }
  by_status slot (Trapped cause at) e = record { no_more = same_most (left budget slot); less = λ some. absurd (some (ap (λ (s : Status). left_by budget s slot.steps) e)) }
  by_status slot Stopped e = record { no_more = same_most (left budget slot); less = λ some. absurd (some (ap (λ (s : Status). left_by budget s slot.steps) e)) }

  step_leaves : (slot : Slot) → Leaves machine budget slot (moved machine silent i slot tt)
  unfolding moved
  step_leaves slot = by_status slot slot.status refl

  -- ---- a turn

  and_leaves : (next : StepResult) (slot : Slot) (m : Moved (Unit {0})) (rest : Slot → Unit {0} → Moved (Unit {0})) → m.next ≡ next → Leaves machine budget slot m
      → ((x : Slot) → left budget (rest x tt).slot ≤ left budget x) → Leaves machine budget slot (and_more next m rest)
  and_leaves Continue slot m rest is first last = record {
    no_more = at_most (left budget (rest m.slot tt).slot) (left budget m.slot) (left budget slot) (last m.slot) first.no_more;
    less = λ some. ⊎_elim (λ less. inl (below (left budget (rest m.slot tt).slot) (left budget m.slot) (left budget slot) (last m.slot) less)) (λ stands. absurd (continues (sym is ∙ stands.1))) (first.less some);
  }
    where
      continues : Continue ≡ RunEnds → ⊥
      continues e = absurd (cc)
  and_leaves TurnEnds slot m rest is first last = first
  and_leaves RunEnds slot m rest is first last = first

  turn_no_more : (k : ℕ) (slot : Slot) → left budget (turned machine silent i k slot tt).slot ≤ left budget slot
  unfolding turned
  turn_no_more zero slot = same_most (left budget slot)
  turn_no_more (suc k) slot =
      let m = moved machine silent i slot tt in
      (and_leaves m.next slot m (turned machine silent i k) refl (step_leaves slot) (turn_no_more k)).no_more

  -- of a step or more
  turn_leaves : (k : ℕ) (slot : Slot) → k ≢ 0 → Leaves machine budget slot (turned machine silent i k slot tt)
  unfolding turned
  turn_leaves zero slot some = absurd (some refl)
  turn_leaves (suc k) slot some =
      let m = moved machine silent i slot tt in
      and_leaves m.next slot m (turned machine silent i k) refl (step_leaves slot) (turn_no_more k)

-- ---- among others

module _ (machine : Machine) (budget : ℕ) (most : budget ≤ 2 ^ 64 - 1) (t : Turn) (old : List Slot) where
  found_slots : (slot : Slot) → slice_get old t.sandbox ≡ Some slot
      → slice_get (turn_and machine silent t old tt (Some slot) (joined machine silent [])).slots t.sandbox ≡ Some (turned machine silent t.sandbox t.steps slot tt).slot
  found_slots slot e =
      let m = turned machine silent t.sandbox t.steps slot tt in
      ap (λ (slots : List Slot). slice_get slots t.sandbox) (plan_slots machine t old m.next m) ∙ get_set_same old t.sandbox slot m.slot e

  no_more_found : (o : Option Slot) → slice_get old t.sandbox ≡ o → left_of budget (slice_get (turn_and machine silent t old tt o (joined machine silent [])).slots t.sandbox) ≤ left_of budget o
  no_more_found None e = subst (λ (n : ℕ). n ≤ 0) (sym (ap (λ (slots : List Slot). left_of budget (slice_get slots t.sandbox)) (same_slots machine t old) ∙ ap (left_of budget) e)) (same_most 0)
  no_more_found (Some slot) e =
      subst (λ (o : Option Slot). left_of budget o ≤ left budget slot) (sym (found_slots slot e)) (turn_no_more machine budget most t.sandbox t.steps slot)

  turn_no_more_of : left_of budget (slice_get (to_call machine (t ∷ []) old).slots t.sandbox) ≤ left_of budget (slice_get old t.sandbox)
  unfolding joined
  turn_no_more_of = no_more_found (slice_get old t.sandbox) refl

  less_found : IsMachine machine → t.steps ≢ 0 → (o : Option Slot) → slice_get old t.sandbox ≡ o → left_of budget o ≢ 0
      → let new = (turn_and machine silent t old tt o (joined machine silent [])).slots in
      (left_of budget (slice_get new t.sandbox) < left_of budget o) ⊎ IsAtCall new t.sandbox
  less_found is steps None e some = absurd (some refl)
  less_found is steps (Some slot) e some =
      let m = turned machine silent t.sandbox t.steps slot tt in
      ⊎_elim
      (λ less. inl (subst (λ (o : Option Slot). left_of budget o < left budget slot) (sym (found_slots slot e)) less))
      (λ stands. inr (record {
        slot = slot;
        there = found_slots slot e ∙ ap (λ (s : Slot). Some s) stands.0;
        ready = is_ready budget slot slot.status refl some;
        calls = λ other too. ap (λ (r : Stepped). r.outcome) (one_machine other machine too is (state_of slot)) ∙ stands.2;
      }))
      ((turn_leaves machine budget most t.sandbox t.steps slot steps).less some)

  turn_less : IsMachine machine → t.steps ≢ 0 → left_of budget (slice_get old t.sandbox) ≢ 0
      → (left_of budget (slice_get (to_call machine (t ∷ []) old).slots t.sandbox) < left_of budget (slice_get old t.sandbox)) ⊎ IsAtCall (to_call machine (t ∷ []) old).slots t.sandbox
  unfolding joined
  turn_less is steps some = less_found is steps (slice_get old t.sandbox) refl some

-- after a turn up to a call
pub run_no_more : (budget : ℕ) (t : Turn) (old new : List Slot) → budget ≤ 2 ^ 64 - 1 → ((machine : Machine) → IsMachine machine → new ≡ (to_call machine (t ∷ []) old).slots)
    → left_of budget (slice_get new t.sandbox) ≤ left_of budget (slice_get old t.sandbox)
run_no_more budget t old new most ran =
    let m = some_machine in
    subst (λ (s : List Slot). left_of budget (slice_get s t.sandbox) ≤ left_of budget (slice_get old t.sandbox)) (sym (ran m.0 m.1)) (turn_no_more_of m.0 budget most t old)

-- and after one that ends otherwise
pub run_less : (budget : ℕ) (t : Turn) (old new : List Slot) → budget ≤ 2 ^ 64 - 1 → ((machine : Machine) → IsMachine machine → new ≡ (to_call machine (t ∷ []) old).slots)
    → (left_of budget (slice_get old t.sandbox) ≢ 0 → t.steps ≢ 0) → (¬ IsAtCall new t.sandbox) → HasLess budget t.sandbox old new
run_less budget t old new most ran steps none some =
    let m = some_machine in
    ⊎_elim
    (λ less. subst (λ (s : List Slot). left_of budget (slice_get s t.sandbox) < left_of budget (slice_get old t.sandbox)) (sym (ran m.0 m.1)) less)
    (λ stands. absurd (none (subst (λ (s : List Slot). IsAtCall s t.sandbox) (sym (ran m.0 m.1)) stands)))
    (turn_less m.0 budget most t old m.1 (steps some) some)

-- where none is left
pub none_less : (budget i : ℕ) (old new : List Slot) → left_of budget (slice_get new i) ≡ 0 → HasLess budget i old new
none_less budget i old new none some = subst (λ (n : ℕ). n < left_of budget (slice_get old i)) (sym none) (above_none (left_of budget (slice_get old i)) some)

-- ---- a reply

reply_less : (budget : ℕ) (status : Status) (steps : ℕ) (w : Way) → budget ≤ 2 ^ 64 - 1 → left_by budget status steps ≢ 0 → left_by budget (status_after w) (one_more steps) < left_by budget status steps
reply_less budget Ready steps Replied most some = one_less budget steps most some
reply_less budget Ready steps Yield most some = one_less budget steps most some
reply_less budget Ready steps (Exit n) most some = above_none (budget - steps) some
reply_less budget (Exited n) steps w most some = absurd (some refl)
reply_less budget (Trapped cause at) steps w most some = absurd (some refl)
reply_less budget Stopped steps w most some = absurd (some refl)

-- after a turn up to a call that is answered
pub reply_leaves_less : (budget i : ℕ) (old mid new : List Slot) → budget ≤ 2 ^ 64 - 1 → left_of budget (slice_get mid i) ≤ left_of budget (slice_get old i)
    → left_of budget (slice_get mid i) ≢ 0 → IsReplyTo i mid new → HasLess budget i old new
reply_leaves_less budget i old mid new most first some r _ =
    let here : left_by budget r.slot.status r.slot.steps ≢ 0 = subst (λ (o : Option Slot). left_of budget o ≢ 0) r.there some in
    let at : slice_get new i ≡ Some (replied r.slot r.reply) = ap (λ (s : List Slot). slice_get s i) r.slots ∙ get_set_same mid i r.slot (replied r.slot r.reply) r.there in
    let less = reply_less budget r.slot.status r.slot.steps r.reply.way most here in
    let now : left_of budget (slice_get new i) < left_of budget (slice_get mid i) =
    subst (λ (o : Option Slot). left_of budget o < left_of budget (slice_get mid i)) (sym at)
    (subst (λ (o : Option Slot). left_of budget (Some (replied r.slot r.reply)) < left_of budget o) (sym r.there) less) in
    omega (arith, now, first)

-- ---- turn after turn

-- before any
pub no_turn_left : (budget : ℕ) (o : Option Slot) → left_of budget o + 0 ≤ budget
no_turn_left budget None = omega arith
no_turn_left budget (Some slot) = by slot.status
  where
    by : (status : Status) → left_by budget status slot.steps + 0 ≤ budget
    by Ready = omega arith
    by (Exited n) = omega arith
    by (Trapped cause at) = omega arith
    by Stopped = omega arith
