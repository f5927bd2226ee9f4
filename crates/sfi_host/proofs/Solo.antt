-- A sandbox alone, with the replies that it got among others.
use Rattle.sfi_host.proofs.Prelude.{◌≡◌, ℕ, zero, suc, ◌==◌, Bool, true, false, cond, List, [], ◌∷◌, ◌++◌, map, Option, Some, None, slice_get, set, take, refl, sym, ap, ◌∙◌, subst, append_assoc, append-nil, eqb-true, eqb-false, same_Some, filter, State, Outcome, Status, Ready, Turn, Slot, state_of, Call, Reply, Answer, Host, limited, replay, StepResult, Continue, RunEnds, Machine, Moved, moved, moved_if, slot_after_step, after_answer, after_replies, call_of, and_more, turned, Given, given, Joined, joined, turn_and, and_plan, joined_after_turn}
use Rattle.sfi_host.specs.Plans.{IsSolo, JoinedIsSolo, JointIsSolo, turns_of, replies_to}
use Rattle.rv_step.specs.declared.outcome.Outcome.TheVariants as outcome
use Rattle.sfi_decoded.proofs.Lists.{get_set_same, get_set_other}

-- a step or turn of the sandbox alone, with a host that has these replies left
abbrev alone : {S : Type 0} → Moved S → List Reply → Moved (List Reply)
alone m left = record { slot = m.slot; host = left; replies = m.replies; next = m.next }

-- nothing is left where the run ends
abbrev LeavesNone : StepResult → List Reply → Type 0
LeavesNone t more = t ≡ RunEnds → more ≡ []

-- with the replies that it got, and then others, it comes to the same, and those are left
abbrev Follows : {S : Type 0} → (List Reply → Moved (List Reply)) → Moved S → Type 0
Follows run m = (more : List Reply) → LeavesNone m.next more → run (m.replies ++ more) ≡ alone m more

-- ---- a step

answered : {S : Type 0} (slot : Slot) (s : S) (a : Option (Answer S)) (call : Call) → Follows (λ l. after_answer slot l (replay l call)) (after_answer slot s a)
answered slot s None call [] h = refl
answered slot s None call (r ∷ more) h = absurd (cc (h refl))
answered slot s (Some a) call more h = refl

by_outcome : {S : Type 0} (host : Host S) (i : ℕ) (slot : Slot) (s : S) (out : Outcome) (state : State) → Follows (λ l. slot_after_step replay 0 slot l out state) (slot_after_step host i slot s out state)
by_outcome host i slot s outcome.Call state more h = answered slot s (host s (call_of i slot)) (call_of 0 slot) more h
by_outcome host i slot s out state more h = refl

module _ (machine : Machine) where
  by_status : {S : Type 0} (host : Host S) (i : ℕ) (slot : Slot) (s : S) (status : Status) → Follows (λ l. moved_if machine replay 0 slot l status) (moved_if machine host i slot s status)
  by_status host i slot s Ready more h = let r = machine (state_of slot) in by_outcome host i slot s r.outcome r.state more h
  by_status host i slot s status more h = refl

  step_alone : {S : Type 0} (host : Host S) (i : ℕ) (slot : Slot) (s : S) → Follows (moved machine replay 0 slot) (moved machine host i slot s)
  unfolding moved
  step_alone host i slot s more h = by_status host i slot s slot.status more h

  -- ---- a turn

  then_alone : {S : Type 0} (m : Moved S) (t : StepResult) (rest : Slot → S → Moved S) (n : List Reply → Moved (List Reply)) (rest' : Slot → List Reply → Moved (List Reply))
      → m.next ≡ t → Follows n m → ((slot : Slot) (s : S) → Follows (rest' slot) (rest slot s)) → Follows (λ l. and_more (n l).next (n l) rest') (and_more t m rest)
  then_alone m Continue rest n rest' e first later more h =
      let r = rest m.slot m.host in
      let left = r.replies ++ more in
      ap (λ (l : List Reply). and_more (n l).next (n l) rest') (append_assoc m.replies r.replies more)
      ∙ ap (λ (x : Moved (List Reply)). and_more x.next x rest') (first left (λ w. absurd (cc)))
      ∙ ap (λ (x : StepResult). and_more x (alone m left) rest') e
      ∙ ap (after_replies m.replies) (later m.slot m.host more h)
  then_alone m t rest n rest' e first later more h =
      ap (λ (x : Moved (List Reply)). and_more x.next x rest') (first more h) ∙ ap (λ (x : StepResult). and_more x (alone m more) rest') e

  pub turn_alone : {S : Type 0} (host : Host S) (i k : ℕ) (slot : Slot) (s : S) → Follows (turned machine replay 0 k slot) (turned machine host i k slot s)
  unfolding turned
  turn_alone host i zero slot s more h = refl
  turn_alone host i (suc k) slot s more h =
      let m = moved machine host i slot s in
      then_alone m m.next (turned machine host i k) (moved machine replay 0 slot) (turned machine replay 0 k) refl (step_alone host i slot s) (λ slot s. turn_alone host i k slot s) more h

  -- ---- replies and turns by number

  replies_same : (i j : ℕ) (rs : List Reply) (more : List Given) → (j == i) ≡ true → replies_to i (given j rs ++ more) ≡ rs ++ replies_to i more
  replies_same i j [] more t = refl
  replies_same i j (r ∷ rs) more t = ap (λ b. map (λ (g : Given). g.reply) (cond b (record { to = j; reply = r } ∷ filter (λ g. g.to == i) (given j rs ++ more)) (filter (λ g. g.to == i) (given j rs ++ more)))) t ∙ ap (λ l. r ∷ l) (replies_same i j rs more t)

  replies_other : (i j : ℕ) (rs : List Reply) (more : List Given) → (j == i) ≡ false → replies_to i (given j rs ++ more) ≡ replies_to i more
  replies_other i j [] more t = refl
  replies_other i j (r ∷ rs) more t = ap (λ b. map (λ (g : Given). g.reply) (cond b (record { to = j; reply = r } ∷ filter (λ g. g.to == i) (given j rs ++ more)) (filter (λ g. g.to == i) (given j rs ++ more)))) t ∙ replies_other i j rs more t

  turns_are : (i : ℕ) (t : Turn) (plan : List Turn) (b : Bool) → (t.sandbox == i) ≡ b → turns_of i (t ∷ plan) ≡ cond b (record { sandbox = 0; steps = t.steps } ∷ turns_of i plan) (turns_of i plan)
  turns_are i t plan true e = ap (λ b. map (λ (t : Turn). record { sandbox = 0; steps = t.steps }) (cond b (t ∷ filter (λ t. t.sandbox == i) plan) (filter (λ t. t.sandbox == i) plan))) e
  turns_are i t plan false e = ap (λ b. map (λ (t : Turn). record { sandbox = 0; steps = t.steps }) (cond b (t ∷ filter (λ t. t.sandbox == i) plan) (filter (λ t. t.sandbox == i) plan))) e

  -- ---- a plan

  -- what the slot is alone, after these turns with these replies
  abbrev slot_alone : List Turn → Slot → List Reply → Option Slot
  slot_alone turns slot replies = slice_get (joined machine replay turns (slot ∷ []) replies).slots 0

  module _ {S : Type 0} (host : Host S) (t : Turn) (i : ℕ) (slot : Slot) where
    -- its own turn at the front
    own_first : (s : S) (next : StepResult) (plan : List Turn) (gs : List Given) → (t.sandbox == i) ≡ true → (turned machine host t.sandbox t.steps slot s).next ≡ next → LeavesNone next (replies_to i gs)
        → let m = turned machine host t.sandbox t.steps slot s in
        slot_alone (turns_of i (t ∷ plan)) slot (replies_to i (given t.sandbox m.replies ++ gs))
        ≡ slice_get (and_plan next 0 (alone m (replies_to i gs)) (slot ∷ []) (joined machine replay (turns_of i plan))).slots 0
    unfolding joined
    own_first s next plan gs b is none =
        let m = turned machine host t.sandbox t.steps slot s in
        let left = replies_to i gs in
        let rest = joined machine replay (turns_of i plan) in
        (λ k. slot_alone (turns_are i t plan true b k) slot (replies_same i t.sandbox m.replies gs b k))
        ∙ ap (λ (n : Moved (List Reply)). slice_get (and_plan n.next 0 n (slot ∷ []) rest).slots 0) (turn_alone host t.sandbox t.steps slot s left (λ w. none (sym is ∙ w)))
        ∙ ap (λ (x : StepResult). slice_get (and_plan x 0 (alone m left) (slot ∷ []) rest).slots 0) is

    module _ (plan : List Turn) (slots : List Slot) (rest : List Slot → S → Joined S)
        (later : (slots : List Slot) (s : S) (slot : Slot) → slice_get slots i ≡ Some slot → IsSolo machine plan i slot (rest slots s)) where
      -- its own turn
      own_turn : (s : S) (next : StepResult) → let m = turned machine host t.sandbox t.steps slot s in (t.sandbox == i) ≡ true → m.next ≡ next → slice_get (set slots t.sandbox m.slot) i ≡ Some m.slot
          → IsSolo machine (t ∷ plan) i slot (and_plan next t.sandbox m slots rest)
      own_turn s RunEnds b is there =
          let m = turned machine host t.sandbox t.steps slot s in
          there ∙ sym (ap (λ (g : List Given). slot_alone (turns_of i (t ∷ [])) slot (replies_to i g)) (sym (append-nil (given t.sandbox m.replies))) ∙ own_first s RunEnds [] [] b is (λ w. refl))
      own_turn s next b is there =
          let m = turned machine host t.sandbox t.steps slot s in
          let j = rest (set slots t.sandbox m.slot) m.host in
          later (set slots t.sandbox m.slot) m.host m.slot there ∙ sym (own_first s next (take j.turns plan) j.replies b is (λ w. absurd (cc)))

      -- another's turn, after which the plan goes on
      other_more : (rs : List Reply) (j : Joined S) → (t.sandbox == i) ≡ false → IsSolo machine plan i slot j → IsSolo machine (t ∷ plan) i slot (joined_after_turn (given t.sandbox rs) j)
      other_more rs j b before =
          before
          ∙ sym (λ k. slot_alone (turns_are i t (take j.turns plan) false b k) slot (replies_other i t.sandbox rs j.replies b k))

      -- another's turn
      other_turn : (m : Moved S) (next : StepResult) → (t.sandbox == i) ≡ false → slice_get (set slots t.sandbox m.slot) i ≡ Some slot → IsSolo machine (t ∷ plan) i slot (and_plan next t.sandbox m slots rest)
      unfolding joined
      other_turn m RunEnds b there = there ∙ sym (ap (λ (p : List Turn). slot_alone p slot (replies_to i (given t.sandbox m.replies))) (turns_are i t [] false b))
      other_turn m next b there = other_more m.replies (rest (set slots t.sandbox m.slot) m.host) b (later (set slots t.sandbox m.slot) m.host slot there)

      by_slot : (s : S) (found : Option Slot) → slice_get slots t.sandbox ≡ found → slice_get slots i ≡ Some slot → IsSolo machine (t ∷ plan) i slot (turn_and machine host t slots s found rest)
      by_slot s None e there = elim (t.sandbox == i) as (λ b. (t.sandbox == i) ≡ b → IsSolo machine (t ∷ plan) i slot (turn_and machine host t slots s None rest)) [
        | true ↦ λ b. let w : slice_get slots i ≡ None = ap (slice_get slots) (sym (eqb-true t.sandbox i b)) ∙ e in absurd (cc)
        | false ↦ λ b. other_more [] (rest slots s) b (later slots s slot there)
      ] refl
      by_slot s (Some x) e there = elim (t.sandbox == i) as (λ b. (t.sandbox == i) ≡ b → IsSolo machine (t ∷ plan) i slot (turn_and machine host t slots s (Some x) rest)) [
        | true ↦ λ b.
            let same : t.sandbox ≡ i = eqb-true t.sandbox i b in
            let m = turned machine host t.sandbox t.steps slot s in
            let is : slot ≡ x = same_Some slot x (sym there ∙ ap (slice_get slots) (sym same) ∙ e) in
            subst (λ (y : Slot). IsSolo machine (t ∷ plan) i slot (turn_and machine host t slots s (Some y) rest)) is
            (own_turn s m.next b refl (ap (slice_get (set slots t.sandbox m.slot)) (sym same) ∙ get_set_same slots t.sandbox x m.slot e))
        | false ↦ λ b.
            let m = turned machine host t.sandbox t.steps x s in
            other_turn m m.next b (get_set_other slots t.sandbox i m.slot (λ w. eqb-false t.sandbox i b (sym w)) ∙ there)
      ] refl

  plan_alone : {S : Type 0} (host : Host S) (plan : List Turn) (slots : List Slot) (s : S) (i : ℕ) (slot : Slot) → slice_get slots i ≡ Some slot → IsSolo machine plan i slot (joined machine host plan slots s)
  unfolding joined
  plan_alone host [] slots s i slot there = there
  plan_alone host (t ∷ plan) slots s i slot there =
      by_slot host t i slot plan slots (joined machine host plan) (λ slots s slot there. plan_alone host plan slots s i slot there) s (slice_get slots t.sandbox) refl there

pub joined_alone : {S : Type 0} → JoinedIsSolo S
joined_alone machine host plan slots s i slot there = plan_alone machine host plan slots s i slot there

pub joint_alone : {S : Type 0} → JointIsSolo S
joint_alone machine answer plan slots s limit i slot there = plan_alone machine (limited answer) plan slots (record { host = s; left = limit }) i slot there
