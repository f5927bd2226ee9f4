-- A plan that goes on where another one left off.
use Rattle.sfi_host.proofs.Prelude.{◌≡◌, ◌≢◌, ◌⊎◌, inl, inr, ⊎_elim, ℕ, zero, suc, ◌+◌, ◌<◌, Bool, true, false, cond, List, [], ◌∷◌, ◌++◌, take, drop, get_or, length, Option, Some, None, slice_get, set, refl, sym, ap, ◌∙◌, subst, arith, length-append, take_more, take-append-drop, length-take-le, State, Outcome, Status, Ready, Turn, StepResult, Continue, TurnEnds, RunEnds, Slot, state_of, Call, Way, Replied, Answer, Limited, limited, if_left, Machine, Moved, still, moved, moved_if, slot_after_step, after_answer, call_of, next_after, replied, Joined, joined, joint, IsJoint, IsRefusedIn, IsCutJoint, allow, allows, with_left, end_of, limited_step, limited_turn, IsTurnOf, IsStepOf}
use Rattle.sfi_host.specs.Plans.{after_run, shortened, IsJointUpTo, JointFollows, CutFollows, CutIsShorter, RetryFollows}
use Rattle.rv_step.specs.declared.outcome.Outcome.TheVariants as outcome
use Rattle.sfi_host.proofs.Plans.{follows, allows_some, no_limit, joined_nil, bare, run_end, with_turn, is_joint, is_cut, none_then, turn_then}
use Rattle.sfi_host.proofs.SlotSteps.{left_for_one, allows_both, step_then, no_step}

-- ---- limits

less_or : (n k : ℕ) → (n < k) ⊎ ((r : ℕ) × (n ≡ k + r))
less_or n zero = inr (n, omega arith)
less_or zero (suc k) = inl (omega arith)
less_or (suc n) (suc k) = ⊎_elim (λ (l : n < k). inl (omega arith)) (λ (x : (r : ℕ) × (n ≡ k + r)). inr (x.0, omega (arith, x.1))) (less_or n k)

-- a limit that is enough for these calls
enough : (n k r : ℕ) → n ≡ k + r → Some n ≡ allows k (Some r)
enough n k r e = ap Some e ∙ sym (allows_some k r)

pub way_goes : (way : Way) → next_after way ≢ RunEnds
way_goes Replied e = let z : Continue ≡ RunEnds = e in cc
way_goes way e = let z : TurnEnds ≡ RunEnds = e in cc

module _ {S : Type 0} (machine : Machine) (answer : S → Call → Answer S) where
  -- ---- a step

  -- what a step comes to, whatever number of calls is left then; where too few are, nothing happens
  record SomeMove (old : Slot) (before : S) (move : Limited S → Moved (Limited S)) : Type 0 where
    new : Slot
    after : S
    next : StepResult
    goes : next ≢ RunEnds
    answers : ℕ
    is : (left : Option ℕ) → end_of (move (with_left before (allows answers left))) ≡ still new (with_left after left) next
    cut : (n : ℕ) → n < answers → end_of (move (with_left before (Some n))) ≡ still old (with_left before (Some n)) RunEnds

  not_answered : (slot : Slot) (host : S) (a : Answer S) (n : ℕ) → n < 1 → end_of (after_answer slot (with_left host (Some n)) (if_left (Some n) a)) ≡ still slot (with_left host (Some n)) RunEnds
  not_answered slot host a zero none = refl
  not_answered slot host a (suc n) none = absurd (omega arith)

  nothing_asked : (old : Slot) (before : S) (new : Slot) (next : StepResult) → next ≢ RunEnds → SomeMove old before (λ l. still new l next)
  nothing_asked old before new next goes =
      record { new = new; after = before; next = next; goes = goes; answers = 0; is = λ left. refl; cut = λ n none. absurd (omega arith) }

  outcome_moves : (number : ℕ) (slot : Slot) (before : S) (o : Outcome) (state : State) → SomeMove slot before (λ l. slot_after_step (limited answer) number slot l o state)
  outcome_moves number slot before outcome.Next state = nothing_asked slot before _ Continue (λ e. cc)
  outcome_moves number slot before (outcome.Trap cause at) state = nothing_asked slot before _ TurnEnds (λ e. cc)
  outcome_moves number slot before outcome.Call state =
      let a = answer before (call_of number slot) in
      record {
        new = replied slot a.reply;
        after = a.host;
        next = next_after a.reply.way;
        goes = way_goes a.reply.way;
        answers = 1;
        is = λ left. ap (λ (x : Option (Answer (Limited S))). end_of (after_answer slot (with_left before (allow left)) x)) (left_for_one left a);
        cut = λ n none. not_answered slot before a n none;
      }

  status_moves : (number : ℕ) (slot : Slot) (before : S) (status : Status) → SomeMove slot before (λ l. moved_if machine (limited answer) number slot l status)
  status_moves number slot before Ready = let r = machine (state_of slot) in outcome_moves number slot before r.outcome r.state
  status_moves number slot before status = nothing_asked slot before slot TurnEnds (λ e. cc)

  some_move : (number : ℕ) (slot : Slot) (before : S) → SomeMove slot before (λ l. moved machine (limited answer) number slot l)
  unfolding moved
  some_move number slot before = status_moves number slot before slot.status

  -- ---- a turn

  -- where too few calls are left, it ends at one, as with fewer steps where each is answered
  record TurnCut (number k : ℕ) (old : Slot) (before : S) (n : ℕ) : Type 0 where
    steps : ℕ
    fewer : steps < k
    new : Slot
    after : S
    left : Option ℕ
    ends : end_of (limited_turn machine answer number k old before (Some n)) ≡ still new (with_left after left) RunEnds
    is : end_of (limited_turn machine answer number steps old before None) ≡ still new (with_left after None) TurnEnds

  -- what a turn comes to
  record SomeTurn (number k : ℕ) (old : Slot) (before : S) : Type 0 where
    new : Slot
    after : S
    turn : IsTurnOf machine answer number k old before new after
    cut : (n : ℕ) → n < turn.answers → TurnCut number k old before n

  module _ (number k : ℕ) (old : Slot) (before : S) where
    abbrev end_with : ℕ → Option ℕ → Moved (Limited S)
    end_with steps left = end_of (limited_turn machine answer number steps old before left)

    cut_here : (n : ℕ) → end_of (limited_step machine answer number old before (Some n)) ≡ still old (with_left before (Some n)) RunEnds → TurnCut number (suc k) old before n
    cut_here n ends = record {
      steps = 0;
      fewer = omega arith;
      new = old;
      after = before;
      left = Some n;
      ends = step_then machine answer number k old before (Some n) (still old (with_left before (Some n)) RunEnds) ends;
      is = no_step machine answer number old before None;
    }

    module _ (new : Slot) (after : S) (step : IsStepOf machine answer number old before new after Continue) where
      -- what the steps after it come to, the whole does
      then_more : (steps : ℕ) (left : Option ℕ) → end_with (suc steps) (allows step.answers left) ≡ end_of (limited_turn machine answer number steps new after left)
      then_more steps left = step_then machine answer number steps old before (allows step.answers left) (still new (with_left after left) Continue) (step.is left)

      module _ (rest : SomeTurn number k new after) where
        cut_later : (n r : ℕ) → n ≡ step.answers + r → r < rest.turn.answers → TurnCut number (suc k) old before n
        cut_later n r e less =
            let c = rest.cut r less in
            record {
              steps = suc c.steps;
              fewer = let f = c.fewer in omega arith;
              new = c.new;
              after = c.after;
              left = c.left;
              ends = ap (end_with (suc k)) (enough n step.answers r e) ∙ then_more k (Some r) ∙ c.ends;
              is = ap (end_with (suc c.steps)) (sym (no_limit step.answers)) ∙ then_more c.steps None ∙ c.is;
            }

        more_turn : ((n : ℕ) → n < step.answers → TurnCut number (suc k) old before n) → SomeTurn number (suc k) old before
        more_turn here = record {
          new = rest.new;
          after = rest.after;
          turn = record {
            answers = step.answers + rest.turn.answers;
            is = λ left. ap (end_with (suc k)) (allows_both step.answers rest.turn.answers left) ∙ then_more k (allows rest.turn.answers left) ∙ rest.turn.is left;
          };
          cut = λ n less. ⊎_elim (here n) (λ (x : (r : ℕ) × (n ≡ step.answers + r)). cut_later n x.0 x.1 (omega (arith, x.1, less))) (less_or n step.answers);
        }

    by_next : (new : Slot) (after : S) (next : StepResult) → next ≢ RunEnds → (step : IsStepOf machine answer number old before new after next) → ((n : ℕ) → n < step.answers → TurnCut number (suc k) old before n)
        → SomeTurn number k new after → SomeTurn number (suc k) old before
    by_next new after Continue goes step here rest = more_turn new after step rest here
    by_next new after TurnEnds goes step here rest = record {
      new = new;
      after = after;
      turn = record { answers = step.answers; is = λ left. step_then machine answer number k old before (allows step.answers left) (still new (with_left after left) TurnEnds) (step.is left) };
      cut = here;
    }
    by_next new after RunEnds goes step here rest = absurd (goes refl)

  some_turn : (number k : ℕ) (old : Slot) (before : S) → SomeTurn number k old before
  some_turn number zero old before = record {
    new = old;
    after = before;
    turn = record { answers = 0; is = λ left. no_step machine answer number old before left };
    cut = λ n none. absurd (omega arith);
  }
  some_turn number (suc k) old before =
      let m = some_move number old before in
      by_next number k old before m.new m.after m.next m.goes (record { answers = m.answers; is = m.is }) (λ n less. cut_here number k old before n (m.cut n less)) (some_turn number k m.new m.after)

  -- ---- a plan

  abbrev bare_joint : List Turn → List Slot → S → Option ℕ → Joined (Limited S)
  bare_joint plan old before left = bare (joint machine answer plan old before left)

  -- where too few calls are left, it ends at one, as with a turn of fewer steps where each is answered
  record PlanCut (plan : List Turn) (old : List Slot) (before : S) (n : ℕ) : Type 0 where
    place : ℕ
    turn : Turn
    turn_is : slice_get plan place ≡ Some turn
    steps : ℕ
    fewer : steps < turn.steps
    new : List Slot
    after : S
    left : Option ℕ
    ends : bare_joint plan old before (Some n) ≡ run_end new after left (suc place) true
    is : let less = shortened plan place steps in bare_joint less old before None ≡ run_end new after None (length less) false

  -- what a turn at the front of a plan comes to
  record SomeFirst (t : Turn) (old : List Slot) (before : S) : Type 0 where
    new : List Slot
    after : S
    answers : ℕ
    is : (rest : List Turn) (left : Option ℕ) → bare_joint (t ∷ rest) old before (allows answers left) ≡ with_turn (joint machine answer rest new after left)
    cut : (n : ℕ) → n < answers → (rest : List Turn) → PlanCut (t ∷ rest) old before n

  first_cut : (t : Turn) (old : List Slot) (before : S) (slot : Slot) → slice_get old t.sandbox ≡ Some slot → (n : ℕ) → TurnCut t.sandbox t.steps slot before n → (rest : List Turn) → PlanCut (t ∷ rest) old before n
  first_cut t old before slot at n c rest =
      let new = set old t.sandbox c.new in
      record {
        place = 0;
        turn = t;
        turn_is = refl;
        steps = c.steps;
        fewer = c.fewer;
        new = new;
        after = c.after;
        left = c.left;
        ends = turn_then machine answer t old before slot at (Some n) (still c.new (with_left c.after c.left) RunEnds) c.ends rest;
        is = turn_then machine answer (record { sandbox = t.sandbox; steps = c.steps }) old before slot at None (still c.new (with_left c.after None) TurnEnds) c.is []
            ∙ ap with_turn (joined_nil machine (limited answer) new (with_left c.after None));
      }

  first_found : (t : Turn) (old : List Slot) (before : S) (found : Option Slot) → slice_get old t.sandbox ≡ found → SomeFirst t old before
  first_found t old before None e = record { new = old; after = before; answers = 0; is = λ rest left. none_then machine answer t old before left e rest; cut = λ n none. absurd (omega arith) }
  first_found t old before (Some slot) e =
      let some = some_turn t.sandbox t.steps slot before in
      record {
        new = set old t.sandbox some.new;
        after = some.after;
        answers = some.turn.answers;
        is = λ rest left. turn_then machine answer t old before slot e (allows some.turn.answers left) (still some.new (with_left some.after left) TurnEnds) (some.turn.is left) rest;
        cut = λ n less. first_cut t old before slot e n (some.cut n less);
      }

  -- what a plan comes to
  record SomePlan (plan : List Turn) (old : List Slot) (before : S) : Type 0 where
    new : List Slot
    after : S
    answers : ℕ
    is : (left : Option ℕ) → bare_joint plan old before (allows answers left) ≡ run_end new after left (length plan) false
    cut : (n : ℕ) → n < answers → PlanCut plan old before n

  plan_cut : (t : Turn) (plan : List Turn) (old : List Slot) (before : S) (first : SomeFirst t old before) (n r : ℕ) → n ≡ first.answers + r → PlanCut plan first.new first.after r → PlanCut (t ∷ plan) old before n
  plan_cut t plan old before first n r e c =
      let less = shortened plan c.place c.steps in
      record {
        place = suc c.place;
        turn = c.turn;
        turn_is = c.turn_is;
        steps = c.steps;
        fewer = c.fewer;
        new = c.new;
        after = c.after;
        left = c.left;
        ends = ap (bare_joint (t ∷ plan) old before) (enough n first.answers r e) ∙ first.is plan (Some r) ∙ ap with_turn c.ends;
        is = ap (bare_joint (t ∷ less) old before) (sym (no_limit first.answers)) ∙ first.is less None ∙ ap with_turn c.is;
      }

  some_plan : (plan : List Turn) (old : List Slot) (before : S) → SomePlan plan old before
  some_plan [] old before =
      record { new = old; after = before; answers = 0; is = λ left. ap bare (joined_nil machine (limited answer) old (with_left before left)); cut = λ n none. absurd (omega arith) }
  some_plan (t ∷ plan) old before =
      let first = first_found t old before (slice_get old t.sandbox) refl in
      let rest = some_plan plan first.new first.after in
      record {
        new = rest.new;
        after = rest.after;
        answers = first.answers + rest.answers;
        is = λ left. ap (bare_joint (t ∷ plan) old before) (allows_both first.answers rest.answers left) ∙ first.is plan (allows rest.answers left) ∙ ap with_turn (rest.is left);
        cut = λ n less. ⊎_elim (λ l. first.cut n l plan)
            (λ (x : (r : ℕ) × (n ≡ first.answers + r)). plan_cut t plan old before first n x.0 x.1 (rest.cut x.0 (omega (arith, x.1, less)))) (less_or n first.answers);
      }

  -- ---- the laws

  refused_too : (may_refuse : S → Call → Bool) (p q : List Turn) (i j : ℕ) (slots : List Slot) (host : S) (r : IsRefusedIn machine may_refuse p i slots host) → slice_get q j ≡ Some r.turn → IsRefusedIn machine may_refuse q j slots host
  refused_too may_refuse p q i j slots host r there = record { turn = r.turn; turn_is = there; slot = r.slot; slot_is = r.slot_is; refused = r.refused }

  -- one plan and then another, if each turn of the first was taken
  run_on : (p q : List Turn) (old mid : List Slot) (before between : S) (given left : Option ℕ) → bare_joint p old before given ≡ run_end mid between left (length p) false
      → joint machine answer (p ++ q) old before given ≡ after_run (joint machine answer p old before given) (joint machine answer q mid between left)
  run_on p q old mid before between given left is =
      let j = joint machine answer p old before given in
      follows machine (limited answer) p q old (with_left before given)
      ∙ ap (λ (x : Joined (Limited S)). cond x.is_ended j (after_run j (joined machine (limited answer) q x.slots x.host))) is

  each_taken : (p : List Turn) (old : List Slot) (before : S) → let some = some_plan p old before in bare_joint p old before None ≡ run_end some.new some.after None (length p) false
  each_taken p old before = let some = some_plan p old before in ap (bare_joint p old before) (sym (no_limit some.answers)) ∙ some.is None

  module _ (p q : List Turn) (old mid new : List Slot) (before between after : S) (first : IsJoint machine answer p old before mid between) where
    -- it comes there, whatever number of calls is left then
    front : (left : Option ℕ) → let some = some_plan p old before in bare_joint p old before (allows some.answers left) ≡ run_end mid between left (length p) false
    front left =
        let some = some_plan p old before in
        let e = each_taken p old before in
        some.is left
        ∙ (λ k. run_end (sym (first.slots ∙ ap (λ (j : Joined (Limited S)). j.slots) e) k) (sym (first.host ∙ ap (λ (j : Joined (Limited S)). j.host.host) e) k) left (length p) false)

    pub plans_follow : IsJoint machine answer q mid between new after → IsJoint machine answer (p ++ q) old before new after
    plans_follow second =
        let is : bare_joint p old before None ≡ run_end mid between None (length p) false = ap (bare_joint p old before) (sym (no_limit (some_plan p old before).answers)) ∙ front None in
        let e = run_on p q old mid before between None None is in
        record {
          slots = second.slots ∙ sym (ap (λ (j : Joined _). j.slots) e);
          host = second.host ∙ sym (ap (λ (j : Joined (Limited S)). j.host.host) e);
          turns = ap (λ (j : Joined _). j.turns) e ∙ (let a : (joint machine answer p old before None).turns ≡ length p = ap (λ (j : Joined _). j.turns) is in let b = second.turns in omega (arith, a, b, length-append p q));
        }

    both_cut : (may_refuse : S → Call → Bool) (place : ℕ) → IsCutJoint machine answer may_refuse q mid between place new after
        → IsCutJoint machine answer may_refuse (p ++ q) old before (length p + place) new after
    both_cut may_refuse place cut =
        let some = some_plan p old before in
        let limit = some.answers + cut.answered in
        let is : bare_joint p old before (Some limit) ≡ run_end mid between (Some cut.answered) (length p) false =
        ap (bare_joint p old before) (enough limit some.answers cut.answered refl) ∙ front (Some cut.answered) in
        let turns : (joint machine answer p old before (Some limit)).turns ≡ length p = ap (λ (j : Joined (Limited S)). j.turns) is in
        is_cut machine answer may_refuse (p ++ q) old new before after limit (length p + place) _ (ap bare (run_on p q old mid before between (Some limit) (Some cut.answered) is))
        cut.slots cut.host cut.ended (let b = cut.turns in omega (arith, turns, b)) (refused_too may_refuse q (p ++ q) place (length p + place) new after cut.refused (turn_after p q place ∙ cut.refused.turn_is))
      where
        turn_after : (p q : List Turn) (place : ℕ) → slice_get (p ++ q) (length p + place) ≡ slice_get q place
        turn_after [] q place = let e : 0 + place ≡ place = omega arith in ap (slice_get q) e
        turn_after (t ∷ p) q place = let e : suc (length p) + place ≡ suc (length p + place) = omega arith in ap (slice_get (t ∷ (p ++ q))) e ∙ turn_after p q place

  -- what comes after a call that ended the run doesn't matter
  cut_before : (may_refuse : S → Call → Bool) (p q : List Turn) (old new : List Slot) (before after : S) (place : ℕ) → IsCutJoint machine answer may_refuse p old before place new after → IsCutJoint machine answer may_refuse (p ++ q) old before place new after
  cut_before may_refuse p q old new before after place cut =
      let j = joint machine answer p old before (Some cut.answered) in
      let e : joint machine answer (p ++ q) old before (Some cut.answered) ≡ j =
      follows machine (limited answer) p q old (with_left before (Some cut.answered))
      ∙ ap (λ (b : Bool). cond b j (after_run j (joined machine (limited answer) q j.slots j.host))) cut.ended in
      is_cut machine answer may_refuse (p ++ q) old new before after cut.answered place (bare j) (ap bare e) cut.slots cut.host cut.ended cut.turns
      (refused_too may_refuse p (p ++ q) place place new after cut.refused (there p place cut.refused.turn_is))
    where
      there : (p : List Turn) (place : ℕ) {t : Turn} → slice_get p place ≡ Some t → slice_get (p ++ q) place ≡ Some t
      there [] place e = absurd (cc)
      there (x ∷ p) zero e = e
      there (x ∷ p) (suc place) e = there p place e

  -- ---- a plan's turns, one more at a time

  module _ (plan : List Turn) (place : ℕ) (t : Turn) (below : place < length plan) (old mid new : List Slot) (before between after : S) (first : IsJoint machine answer (take place plan) old before mid between) where
    more : take (place + 1) plan ≡ take place plan ++ get_or plan place t ∷ []
    more = take_more plan place t below

    pub next_taken : IsJoint machine answer (get_or plan place t ∷ []) mid between new after → IsJoint machine answer (take (place + 1) plan) old before new after
    next_taken one = subst (λ (l : List Turn). IsJoint machine answer l old before new after) (sym more)
        (plans_follow (take place plan) (get_or plan place t ∷ []) old mid new before between after first one)

    pub next_cut : (may_refuse : S → Call → Bool) → IsCutJoint machine answer may_refuse (get_or plan place t ∷ []) mid between 0 new after → IsCutJoint machine answer may_refuse plan old before place new after
    next_cut may_refuse cut =
        let both = both_cut (take place plan) (get_or plan place t ∷ []) old mid new before between after first may_refuse 0 cut in
        let at : length (take place plan) + 0 ≡ place = omega (arith, length-take-le place plan (omega arith)) in
        subst (λ (l : List Turn). IsCutJoint machine answer may_refuse l old before place new after) (ap (λ (l : List Turn). l ++ drop (place + 1) plan) (sym more) ∙ take-append-drop (place + 1) plan)
        (cut_before may_refuse (take place plan ++ get_or plan place t ∷ []) (drop (place + 1) plan) old new before after place
        (subst (λ (n : ℕ). IsCutJoint machine answer may_refuse (take place plan ++ get_or plan place t ∷ []) old before n new after) at both))

  -- where a call ended the run, too few were left
  up_to_there : (plan : List Turn) (old : List Slot) (before : S) (n : ℕ) → (joint machine answer plan old before (Some n)).is_ended ≡ true → PlanCut plan old before n
  up_to_there plan old before n ended =
      let some = some_plan plan old before in
      ⊎_elim (some.cut n) (λ (x : (r : ℕ) × (n ≡ some.answers + r)).
      let e = ap (bare_joint plan old before) (enough n some.answers x.0 x.1) ∙ some.is (Some x.0) in
      absurd (let z : true ≡ false = sym ended ∙ ap (λ (j : Joined (Limited S)). j.is_ended) e in cc)) (less_or n some.answers)

-- a turn in which no call is left: the whole turn where it ends, and else one of fewer steps
module _ {S : Type 0} (machine : Machine) (answer : S → Call → Answer S) (t : Turn) (old : List Slot) (before : S) where
  abbrev unasked : Joined (Limited S)
  unasked = joint machine answer (t ∷ []) old before (Some 0)

  pub no_call : unasked.is_ended ≡ false → IsJoint machine answer (t ∷ []) old before unasked.slots unasked.host.host
  no_call goes =
      let some = some_plan machine answer (t ∷ []) old before in
      ⊎_elim (λ (l : 0 < some.answers).
      let c = some.cut 0 l in
      absurd (let z : true ≡ false = sym (ap (λ (j : Joined (Limited S)). j.is_ended) c.ends) ∙ goes in cc))
      (λ (x : (r : ℕ) × (0 ≡ some.answers + r)).
      let e = ap (bare_joint machine answer (t ∷ []) old before) (enough 0 some.answers x.0 x.1) ∙ some.is (Some x.0) in
      is_joint machine answer (t ∷ []) old unasked.slots before unasked.host.host
      (ap (bare_joint machine answer (t ∷ []) old before) (sym (no_limit some.answers)) ∙ some.is None ∙ sym (ap (λ (j : Joined (Limited S)). run_end j.slots j.host.host None 1 false) e))) (less_or 0 some.answers)

  at_place : (place : ℕ) (turn : Turn) (steps : ℕ) → slice_get (t ∷ []) place ≡ Some turn → steps < turn.steps → IsJoint machine answer (shortened (t ∷ []) place steps) old before unasked.slots unasked.host.host
      → (k : ℕ) × (k < t.steps) × IsJoint machine answer (record { sandbox = t.sandbox; steps = k } ∷ []) old before unasked.slots unasked.host.host
  at_place zero turn steps e fewer h = (steps, (let same : t ≡ turn = cc in subst (λ (x : Turn). steps < x.steps) (sym same) fewer), h)
  at_place (suc place) turn steps e fewer h = absurd (cc)

  pub first_call : unasked.is_ended ≡ true → (k : ℕ) × (k < t.steps) × IsJoint machine answer (record { sandbox = t.sandbox; steps = k } ∷ []) old before unasked.slots unasked.host.host
  first_call ends =
      let c = up_to_there machine answer (t ∷ []) old before 0 ends in
      let less = shortened (t ∷ []) c.place c.steps in
      at_place c.place c.turn c.steps c.turn_is c.fewer
      (is_joint machine answer less old unasked.slots before unasked.host.host (c.is ∙ sym (ap (λ (j : Joined (Limited S)). run_end j.slots j.host.host None (length less) false) c.ends)))

pub joint_follows : {S : Type 0} → JointFollows S
joint_follows {S} machine answer p q slots s =
    let j = joint machine answer p slots s None in
    let is = each_taken machine answer p slots s in
    run_on machine answer p q slots j.slots s j.host.host None None (is ∙ sym (ap (λ (x : Joined (Limited S)). run_end x.slots x.host.host None (length p) false) is))

pub cut_follows : {S : Type 0} → CutFollows S
cut_follows machine answer may_refuse p q old mid new before between after place first cut =
    both_cut machine answer p q old mid new before between after first may_refuse place cut

pub cut_is_shorter : {S : Type 0} → CutIsShorter S
cut_is_shorter {S} machine answer may_refuse plan old new before after place cut =
    let c = up_to_there machine answer plan old before cut.answered cut.ended in
    let less = shortened plan c.place c.steps in
    let up_to : IsJointUpTo machine answer plan c.place old before c.new c.after =
    record { turn = c.turn; turn_is = c.turn_is; steps = c.steps; fewer = c.fewer; joint = is_joint machine answer less old c.new before c.after c.is } in
    let turns : (joint machine answer plan old before (Some cut.answered)).turns ≡ suc c.place = ap (λ (j : Joined (Limited S)). j.turns) c.ends in
    let same : c.place ≡ place = omega (arith, turns, cut.turns) in
    subst (λ (x : ℕ × List Slot × S). IsJointUpTo machine answer plan x.0 old before x.1 x.2)
    (λ k. (same k, sym (cut.slots ∙ ap (λ (j : Joined (Limited S)). j.slots) c.ends) k, sym (cut.host ∙ ap (λ (j : Joined (Limited S)). j.host.host) c.ends) k)) up_to

pub retry_follows : {S : Type 0} → RetryFollows S
retry_follows machine answer may_refuse p q old mid new before between after place cut second =
    let up_to = cut_is_shorter machine answer may_refuse p old mid before between place cut in
    (up_to, plans_follow machine answer (shortened p place up_to.steps) q old mid new before between after up_to.joint second)
