-- What a plan comes to, by the turn at its front; and one plan after another.
use Rattle.sfi_host.proofs.Prelude.{◌≡◌, ℕ, zero, suc, ◌+◌, Bool, true, false, List, [], ◌∷◌, Option, Some, None, length, slice_get, set, refl, sym, ap, ◌∙◌, arith, cond, ◌++◌, append_assoc, Turn, TurnEnds, RunEnds, Call, Answer, Host, Limited, limited, Slot, Machine, Moved, still, Joined, joined, joint, and_plan, turn_and, joined_after_turn, turned, Given, given, IsJoint, IsRefusedIn, IsCutJoint, allow, allows, with_left, end_of, limited_turn, IsTurnOf, IsCutTurnOf, StepResult}
use Rattle.sfi_host.specs.Plans.{after_run, JoinedFollows}

-- ---- limits

pub no_limit : (k : ℕ) → allows k None ≡ None
no_limit zero = refl
no_limit (suc k) = ap allow (no_limit k)

pub allows_some : (k n : ℕ) → allows k (Some n) ≡ Some (k + n)
allows_some zero n = let e : n ≡ 0 + n = omega arith in ap Some e
allows_some (suc k) n = ap allow (allows_some k n) ∙ (let e : suc (k + n) ≡ suc k + n = omega arith in ap Some e)

-- ---- what the definition says

pub joined_cons : {S : Type 0} (machine : Machine) (host : Host S) (t : Turn) (rest : List Turn) (slots : List Slot) (s : S) (found : Option Slot) → slice_get slots t.sandbox ≡ found
    → joined machine host (t ∷ rest) slots s ≡ turn_and machine host t slots s found (joined machine host rest)
unfolding joined
joined_cons machine host t rest slots s found e = ap (λ (o : Option Slot). turn_and machine host t slots s o (joined machine host rest)) e

pub joined_nil : {S : Type 0} (machine : Machine) (host : Host S) (slots : List Slot) (s : S) → joined machine host [] slots s ≡ record { slots = slots; host = s; replies = []; turns = 0; is_ended = false }
unfolding joined
joined_nil machine host slots s = refl

-- a plan without turns
pub none_joint : {S : Type 0} (machine : Machine) (answer : S → Call → Answer S) (old : List Slot) (before : S) → IsJoint machine answer [] old before old before
unfolding joined
none_joint machine answer old before = record { slots = refl; host = refl; turns = refl }

-- ---- one turn, and the rest of a plan

-- a run, but for its replies
abbrev pub bare : {S : Type 0} → Joined S → Joined S
bare j = record j { replies = [] }

-- a joint run without its replies, in which `turns` turns were begun, and which a call ended or not
abbrev pub run_end : {S : Type 0} → List Slot → S → Option ℕ → ℕ → Bool → Joined (Limited S)
run_end slots host left turns ended = record { slots = slots; host = with_left host left; replies = []; turns = turns; is_ended = ended }

-- a joint run without its replies, after one turn more
abbrev pub with_turn : {S : Type 0} → Joined S → Joined S
with_turn j = bare (joined_after_turn [] j)

-- each turn of a plan was taken
pub is_joint : {S : Type 0} (machine : Machine) (answer : S → Call → Answer S) (plan : List Turn) (old new : List Slot) (before after : S)
    → bare (joint machine answer plan old before None) ≡ run_end new after None (length plan) false → IsJoint machine answer plan old before new after
is_joint {S} machine answer plan old new before after e = record {
  slots = sym (ap (λ (j : Joined (Limited S)). j.slots) e);
  host = sym (ap (λ (j : Joined (Limited S)). j.host.host) e);
  turns = ap (λ (j : Joined (Limited S)). j.turns) e;
}

-- a call ended the run in the turn at that place
pub is_cut : {S : Type 0} (machine : Machine) (answer : S → Call → Answer S) (may_refuse : S → Call → Bool) (plan : List Turn) (old new : List Slot) (before after : S) (n place : ℕ) (j : Joined (Limited S))
    → bare (joint machine answer plan old before (Some n)) ≡ j → new ≡ j.slots → after ≡ j.host.host → j.is_ended ≡ true → j.turns ≡ place + 1 → IsRefusedIn machine may_refuse plan place new after
    → IsCutJoint machine answer may_refuse plan old before place new after
is_cut {S} machine answer may_refuse plan old new before after n place j e slots host ended turns refused = record {
  answered = n;
  slots = slots ∙ sym (ap (λ (x : Joined (Limited S)). x.slots) e);
  host = host ∙ sym (ap (λ (x : Joined (Limited S)). x.host.host) e);
  ended = ap (λ (x : Joined (Limited S)). x.is_ended) e ∙ ended;
  turns = ap (λ (x : Joined (Limited S)). x.turns) e ∙ turns;
  refused = refused;
}

module _ {S : Type 0} (machine : Machine) (answer : S → Call → Answer S) (t : Turn) (old : List Slot) (before : S) where
  -- a turn that names no sandbox
  pub none_then : (left : Option ℕ) → slice_get old t.sandbox ≡ None → (rest : List Turn) → bare (joint machine answer (t ∷ rest) old before left) ≡ with_turn (joint machine answer rest old before left)
  none_then left e rest = ap bare (joined_cons machine (limited answer) t rest old (with_left before left) None e)

  -- of a plan with one turn it is the whole
  pub one_joint : (new : List Slot) (after : S) → bare (joint machine answer (t ∷ []) old before None) ≡ with_turn (joint machine answer [] new after None) → IsJoint machine answer (t ∷ []) old before new after
  one_joint new after e = is_joint machine answer (t ∷ []) old new before after (e ∙ ap with_turn (joined_nil machine (limited answer) new (with_left after None)))

  module _ (slot : Slot) (at : slice_get old t.sandbox ≡ Some slot) where
    -- a turn of a sandbox, by what it comes to
    pub turn_then : (left : Option ℕ) (e : Moved (Limited S)) → end_of (limited_turn machine answer t.sandbox t.steps slot before left) ≡ e → (rest : List Turn)
        → bare (joint machine answer (t ∷ rest) old before left)
        ≡ bare (and_plan e.next t.sandbox (record e { replies = (limited_turn machine answer t.sandbox t.steps slot before left).replies }) old (joined machine (limited answer) rest))
    turn_then left e ends rest =
        let m = limited_turn machine answer t.sandbox t.steps slot before left in
        ap bare (joined_cons machine (limited answer) t rest old (with_left before left) (Some slot) at)
        ∙ ap (λ (x : Moved (Limited S)). bare (and_plan x.next t.sandbox (record x { replies = m.replies }) old (joined machine (limited answer) rest))) ends

    module _ (new : Slot) (after : S) where
      pub one_turn : IsTurnOf machine answer t.sandbox t.steps slot before new after → IsJoint machine answer (t ∷ []) old before (set old t.sandbox new) after
      one_turn turn = one_joint (set old t.sandbox new) after
          (turn_then None (still new (with_left after None) TurnEnds)
          (ap (λ (x : Option ℕ). end_of (limited_turn machine answer t.sandbox t.steps slot before x)) (sym (no_limit turn.answers)) ∙ turn.is None) [])

      pub cut_turn : (may_refuse : S → Call → Bool) → slice_get (set old t.sandbox new) t.sandbox ≡ Some new → IsCutTurnOf machine answer may_refuse t.sandbox t.steps slot before new after
          → IsCutJoint machine answer may_refuse (t ∷ []) old before 0 (set old t.sandbox new) after
      cut_turn may_refuse there turn =
          is_cut machine answer may_refuse (t ∷ []) old (set old t.sandbox new) before after (turn.answers + 0) 0 (run_end (set old t.sandbox new) after (Some 0) 1 true)
          (turn_then (Some (turn.answers + 0)) (still new (with_left after (Some 0)) RunEnds)
          (ap (λ (x : Option ℕ). end_of (limited_turn machine answer t.sandbox t.steps slot before x)) (sym (allows_some turn.answers 0)) ∙ turn.is) [])
          refl refl refl refl (record { turn = t; turn_is = refl; slot = new; slot_is = there; refused = turn.refused })

-- ---- one plan after another

-- a run, and what follows it if no call ended it
abbrev and_run : {S : Type 0} → Joined S → (List Slot → S → Joined S) → Joined S
and_run j rest = cond j.is_ended j (after_run j (rest j.slots j.host))

-- a turn before both is a turn before the first
turn_before : {S : Type 0} (gs : List Given) (j : Joined S) (ended : Bool) (rest : List Slot → S → Joined S)
    → joined_after_turn gs (cond ended j (after_run j (rest j.slots j.host)))
    ≡ cond ended (joined_after_turn gs j) (after_run (joined_after_turn gs j) (rest j.slots j.host))
turn_before gs j true rest = refl
turn_before gs j false rest =
    let k = rest j.slots j.host in
    let one_more : suc (j.turns + k.turns) ≡ suc j.turns + k.turns = omega arith in
    let replies = sym (append_assoc gs j.replies k.replies) in
    λ x. record { slots = k.slots; host = k.host; replies = replies x; turns = one_more x; is_ended = k.is_ended }

-- `both` is `one` and what follows it
abbrev IsBoth : {S : Type 0} → (one both rest : List Slot → S → Joined S) → Type 0
IsBoth {S} one both rest = (slots : List Slot) (s : S) → both slots s ≡ and_run (one slots s) rest

turn_first : {S : Type 0} (next : StepResult) (i : ℕ) (m : Moved S) (slots : List Slot) (one both rest : List Slot → S → Joined S) → IsBoth one both rest
    → and_plan next i m slots both ≡ and_run (and_plan next i m slots one) rest
turn_first RunEnds i m slots one both rest same = refl
turn_first next i m slots one both rest same =
    let j = one (set slots i m.slot) m.host in
    ap (λ (x : Joined _). joined_after_turn (given i m.replies) x) (same (set slots i m.slot) m.host) ∙ turn_before (given i m.replies) j j.is_ended rest

found_first : {S : Type 0} (machine : Machine) (host : Host S) (t : Turn) (slots : List Slot) (s : S) (found : Option Slot) (one both rest : List Slot → S → Joined S) → IsBoth one both rest
    → turn_and machine host t slots s found both ≡ and_run (turn_and machine host t slots s found one) rest
found_first machine host t slots s None one both rest same =
    ap (λ (x : Joined _). joined_after_turn [] x) (same slots s) ∙ turn_before [] (one slots s) (one slots s).is_ended rest
found_first machine host t slots s (Some slot) one both rest same =
    let m = turned machine host t.sandbox t.steps slot s in
    turn_first m.next t.sandbox m slots one both rest same

pub follows : {S : Type 0} → JoinedFollows S
unfolding joined
follows machine host [] q slots s =
    let j = joined machine host q slots s in
    let none : j.turns ≡ 0 + j.turns = omega arith in
    ap (λ (n : ℕ). let x : Joined _ = record { slots = j.slots; host = j.host; replies = j.replies; turns = n; is_ended = j.is_ended } in x) none
follows machine host (t ∷ p) q slots s =
    found_first machine host t slots s (slice_get slots t.sandbox) (joined machine host p) (joined machine host (p ++ q)) (joined machine host q)
    (λ slots s. follows machine host p q slots s)
