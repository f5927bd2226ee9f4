-- How many steps of its budget a sandbox takes.
use Rattle.sfi_tool.proofs.Prelude.{◌≡◌, ◌∙◌, ℕ, List, refl, sym, ap, subst, arith, slice_get}
use Rattle.std.proofs.Common.{◌≢◌, ⊎_elim, suc, zero, ◌+◌, ◌-◌, ◌^◌, ◌≤◌, [], ◌∷◌, Option, Some, None, map}
use Rattle.std.specs.Prelude.{slice_set}
use Rattle.std.proofs.Math.Nat.{min-le_left}
use Rattle.std.proofs.lemmas.Bool.{cases_eq}
use Rattle.std.proofs.lemmas.Option.{same_Some}
use Rattle.rv_mem.specs.Bytes.{Bytes}
use Rattle.rv_step.specs.State.{State}
use Rattle.rv_step.specs.declared.outcome.Outcome.{Outcome}
use Rattle.rv_step.specs.declared.outcome.Outcome.TheVariants as outcome
use Rattle.sfi_image.specs.Spelling.{Part}
use Rattle.sfi_host.proofs.Facts.{some_machine}
use Rattle.sfi_decoded.proofs.Lists.{get_set_same, get_set_other}
use Rattle.sfi_host.specs.Hosts.{Answer, Host, Way, Replied, Yield, Exit}
use Rattle.sfi_host.specs.Joint.{Machine, IsMachine, Moved, after_answer, and_more, and_plan, call_of, joined, moved, moved_if, replied, slot_after_step, status_after, turn_and, turned}
use Rattle.sfi_host.specs.Loading.{first_seat}
use Rattle.sfi_host.specs.Slots.{Slot, one_more, state_of}
use Rattle.sfi_host.specs.Waiting.{silent, to_call}
use Rattle.sfi_host.specs.Worlds.{slot_of}
use Rattle.sfi_host.specs.declared.status.Status.{Status}
use Rattle.sfi_host.specs.declared.status.Status.TheVariants.{Ready, Exited, Trapped, Stopped}
use Rattle.sfi_host.specs.declared.turn.StepResult.{StepResult}
use Rattle.sfi_host.specs.declared.turn.StepResult.TheVariants.{Continue, TurnEnds, RunEnds}
use Rattle.sfi_host.specs.declared.turn.Turn.{Turn}
use Rattle.sfi_tool.specs.Executing.{taken, taken_by}
use Rattle.sfi_tool.specs.private.{AreWithin, IsReplyTo, left_by, left_of}

-- ---- one step

counted : (n : ℕ) → one_more n ≤ n + 1
counted n = min-le_left (n + 1) (2 ^ 64 - 1)

-- from a sandbox that is ready
more : (slot : Slot) (n : ℕ) → slot.status ≡ Ready → n ≤ slot.steps + 1 → n ≤ taken slot + 1
more slot n ready h = subst (λ (x : Status). n ≤ taken_by x slot.steps + 1) (sym ready) h

way_takes : (w : Way) (n : ℕ) → taken_by (status_after w) n ≡ n
way_takes Replied n = refl
way_takes Yield n = refl
way_takes (Exit k) n = refl

fewer : (n k : ℕ) → n ≤ n + k
fewer n k = omega arith

all_of : (n : ℕ) → n ≤ n
all_of n = omega arith

both_fewer : (a b c k : ℕ) → b ≤ c + 1 → a ≤ b + k → a ≤ c + suc k
both_fewer a b c k first last = omega (arith, first, last)

one_fewer : (b c k : ℕ) → b ≤ c + 1 → b ≤ c + suc k
one_fewer b c k first = omega (arith, first)

module _ {S : Type 0} (machine : Machine) (host : Host S) (i : ℕ) where
  by_answer : (slot : Slot) (s : S) (o : Option (Answer S)) → slot.status ≡ Ready → taken (after_answer slot s o).slot ≤ taken slot + 1
  by_answer slot s None ready = fewer (taken slot) 1
  by_answer slot s (Some a) ready =
      more slot (taken_by (status_after a.reply.way) (one_more slot.steps)) ready
      (subst (λ (n : ℕ). n ≤ slot.steps + 1) (sym (way_takes a.reply.way (one_more slot.steps))) (counted slot.steps))

  by_outcome : (slot : Slot) (s : S) (o : Outcome) (state : State) → slot.status ≡ Ready → taken (slot_after_step host i slot s o state).slot ≤ taken slot + 1
  by_outcome slot s outcome.Next state ready =
      more slot (taken_by slot.status (one_more slot.steps)) ready (subst (λ (x : Status). taken_by x (one_more slot.steps) ≤ slot.steps + 1) (sym ready) (counted slot.steps))
  by_outcome slot s (outcome.Trap cause at) state ready = more slot (slot.steps + 1) ready (all_of (slot.steps + 1))
  by_outcome slot s outcome.Call state ready = by_answer slot s (host s (call_of i slot)) ready

  by_status : (slot : Slot) (s : S) (status : Status) → slot.status ≡ status → taken (moved_if machine host i slot s status).slot ≤ taken slot + 1
  by_status slot s Ready e = let r = machine (state_of slot) in by_outcome slot s r.outcome r.state e
  by_status slot s (Exited n) e = fewer (taken slot) 1
  by_status slot s (Trapped cause at) e = fewer (taken slot) 1
  by_status slot s Stopped e = fewer (taken slot) 1

  step_takes : (slot : Slot) (s : S) → taken (moved machine host i slot s).slot ≤ taken slot + 1
  unfolding moved
  step_takes slot s = by_status slot s slot.status refl

  and_takes : (next : StepResult) (m : Moved S) (k : ℕ) (slot : Slot) (rest : Slot → S → Moved S) → taken m.slot ≤ taken slot + 1
      → ((x : Slot) (y : S) → taken (rest x y).slot ≤ taken x + k) → taken (and_more next m rest).slot ≤ taken slot + suc k
  and_takes Continue m k slot rest first last = both_fewer (taken (rest m.slot m.host).slot) (taken m.slot) (taken slot) k first (last m.slot m.host)
  and_takes TurnEnds m k slot rest first last = one_fewer (taken m.slot) (taken slot) k first
  and_takes RunEnds m k slot rest first last = one_fewer (taken m.slot) (taken slot) k first

  -- a turn of k steps takes at most k more
  turn_takes : (k : ℕ) (slot : Slot) (s : S) → taken (turned machine host i k slot s).slot ≤ taken slot + k
  unfolding turned
  turn_takes zero slot s = fewer (taken slot) 0
  turn_takes (suc k) slot s = let m = moved machine host i slot s in and_takes m.next m k slot (turned machine host i k) (step_takes slot s) (turn_takes k)

-- ---- among others

-- one of them is another now, and took no more than the budget allows
set_within : (budget : ℕ) (old : List Slot) (i : ℕ) (slot new : Slot) → slice_get old i ≡ Some slot → AreWithin budget old → taken new ≤ budget → AreWithin budget (slice_set old i new)
set_within budget old i slot new there within fits j x at =
    ⊎_elim
    (λ (same : j ≡ i).
    subst (λ (y : Slot). taken y ≤ budget) (same_Some new x (sym (get_set_same old i slot new there) ∙ ap (slice_get (slice_set old i new)) (sym same) ∙ at)) fits)
    (λ (other : j ≢ i). within j x (sym (get_set_other old i j new other) ∙ at))
    (cases_eq j i)

-- what may still be done is within the budget
room : (budget k : ℕ) (status : Status) (steps : ℕ) → taken_by status steps ≤ budget → k ≤ left_by budget status steps → taken_by status steps + k ≤ budget
room budget k Ready steps fits few = omega (arith, fits, few)
room budget k (Exited n) steps fits few = omega (arith, fits, few)
room budget k (Trapped cause at) steps fits few = omega (arith, fits, few)
room budget k Stopped steps fits few = omega (arith, fits, few)

pub at_most : (a b c : ℕ) → a ≤ b → b ≤ c → a ≤ c
at_most a b c first last = omega (arith, first, last)

module _ (machine : Machine) (t : Turn) (old : List Slot) where
  pub plan_slots : (next : StepResult) (m : Moved (Unit {0})) → (and_plan next t.sandbox m old (joined machine silent [])).slots ≡ slice_set old t.sandbox m.slot
  unfolding joined
  plan_slots Continue m = refl
  plan_slots TurnEnds m = refl
  plan_slots RunEnds m = refl

  pub same_slots : (turn_and machine silent t old tt None (joined machine silent [])).slots ≡ old
  unfolding joined
  same_slots = refl

  by_found : (budget : ℕ) (o : Option Slot) → slice_get old t.sandbox ≡ o → t.steps ≤ left_of budget o → AreWithin budget old
      → AreWithin budget (turn_and machine silent t old tt o (joined machine silent [])).slots
  by_found budget None e few within = subst (AreWithin budget) (sym same_slots) within
  by_found budget (Some slot) e few within =
      let m = turned machine silent t.sandbox t.steps slot tt in
      let fits : taken m.slot ≤ budget =
      at_most (taken m.slot) (taken slot + t.steps) budget (turn_takes machine silent t.sandbox t.steps slot tt)
      (room budget t.steps slot.status slot.steps (within t.sandbox slot e) few) in
      subst (AreWithin budget) (sym (plan_slots m.next m)) (set_within budget old t.sandbox slot m.slot e within fits)

  turn_within : (budget : ℕ) → t.steps ≤ left_of budget (slice_get old t.sandbox) → AreWithin budget old → AreWithin budget (to_call machine (t ∷ []) old).slots
  unfolding joined
  turn_within budget few within = by_found budget (slice_get old t.sandbox) refl few within

-- after a turn up to a call
pub run_within : (budget : ℕ) (t : Turn) (old new : List Slot) → ((machine : Machine) → IsMachine machine → new ≡ (to_call machine (t ∷ []) old).slots)
    → t.steps ≤ left_of budget (slice_get old t.sandbox) → AreWithin budget old → AreWithin budget new
run_within budget t old new ran few within =
    let m = some_machine in subst (AreWithin budget) (sym (ran m.0 m.1)) (turn_within m.0 t old budget few within)

-- ---- a reply

spare : (n steps budget : ℕ) → n ≤ steps + 1 → budget - steps ≢ 0 → n ≤ budget
spare n steps budget one left = omega (arith, one, left)

reply_fits : (budget : ℕ) (status : Status) (steps : ℕ) (w : Way) → left_by budget status steps ≢ 0 → taken_by (status_after w) (one_more steps) ≤ budget
reply_fits budget Ready steps w left =
    subst (λ (n : ℕ). n ≤ budget) (sym (way_takes w (one_more steps))) (spare (one_more steps) steps budget (counted steps) left)
reply_fits budget (Exited n) steps w left = absurd (left refl)
reply_fits budget (Trapped cause at) steps w left = absurd (left refl)
reply_fits budget Stopped steps w left = absurd (left refl)

-- after a call is answered
pub reply_within : (budget i : ℕ) (old new : List Slot) → IsReplyTo i old new → left_of budget (slice_get old i) ≢ 0 → AreWithin budget old → AreWithin budget new
reply_within budget i old new r left within =
    let some : left_by budget r.slot.status r.slot.steps ≢ 0 = subst (λ (o : Option Slot). left_of budget o ≢ 0) r.there left in
    subst (AreWithin budget) (sym r.slots)
    (set_within budget old i r.slot (replied r.slot r.reply) r.there within (reply_fits budget r.slot.status r.slot.steps r.reply.way some))

-- ---- before any turn

none_taken : (budget : ℕ) → 0 ≤ budget
none_taken budget = omega arith

pub first_within : (budget : ℕ) (b : Bytes) (ps : List Part) → AreWithin budget (map (slot_of b) (map first_seat ps))
first_within budget b [] i slot at = absurd (cc)
first_within budget b (p ∷ ps) zero slot at = subst (λ (x : Slot). taken x ≤ budget) (same_Some (slot_of b (first_seat p)) slot at) (none_taken budget)
first_within budget b (p ∷ ps) (suc i) slot at = first_within budget b ps i slot at
