-- A plan is a session, one turn after another.
use Rattle.sfi_host.proofs.Prelude.{◌≡◌, inl, false, true, cond, List, [], ◌∷◌, ◌++◌, append-nil, map, set, Some, None, slice_get, refl, sym, ap, ◌∙◌, subst, ℕ, Reply, Host, replay, Machine, IsMachine, Given, given, Moved, turned, Joined, joined, and_plan, StepResult, RunEnds, Turn, bounds_in, Slot, Sandboxes, slots_of, StaysOutsideData}
use Rattle.sfi_host.specs.Plans.{after_run}
use Rattle.sfi_host.specs.Sessions.{HasSlots, AreActions, IsSoundWorld, plan_actions, PlansAreSessions}
use Rattle.sfi_host.proofs.Acted.{in_range}
use Rattle.sfi_host.proofs.Changing.{still_enterable}
use Rattle.sfi_host.proofs.Joined.{joined_are}
use Rattle.sfi_host.proofs.OwnSessions.{turn_number}
use Rattle.sfi_host.proofs.Plans.{follows, joined_cons, joined_nil}
use Rattle.sfi_host.proofs.Sessions.{slots_lie}
use Rattle.sfi_host.proofs.Solo.{turn_alone}
use Rattle.sfi_host.proofs.Turns.{turn_set, turn_none, turn_bounds}
use Rattle.sfi_host.proofs.WorldBytes.{out_too, same_world, still_owned}

module _ {S : Type 0} (machine : Machine) (host : Host S) (t : Turn) (slots : List Slot) (s : S) where
  abbrev got : List Reply
  got = map (λ (g : Given). g.reply) (joined machine host (t ∷ []) slots s).replies

  given_back : (i : ℕ) (replies : List Reply) → map (λ (g : Given). g.reply) (given i replies ++ []) ≡ replies
  given_back i [] = refl
  given_back i (r ∷ replies) = ap (λ (l : List Reply). r ∷ l) (given_back i replies)

  -- the replies of a turn
  plan_got : (next : StepResult) (m : Moved S) → map (λ (g : Given). g.reply) (and_plan next t.sandbox m slots (joined machine host [])).replies ≡ m.replies
  plan_got RunEnds m = ap (map (λ (g : Given). g.reply)) (sym (append-nil (given t.sandbox m.replies))) ∙ given_back t.sandbox m.replies
  plan_got next m =
      ap (λ (j : Joined S). map (λ (g : Given). g.reply) (given t.sandbox m.replies ++ j.replies)) (joined_nil machine host (set slots t.sandbox m.slot) m.host) ∙ given_back t.sandbox m.replies

  -- with these at hand a turn comes to the same
  same_turn : (joined machine host (t ∷ []) slots s).slots ≡ (joined machine replay (t ∷ []) slots got).slots
  same_turn = elim (slice_get slots t.sandbox) as (λ o. slice_get slots t.sandbox ≡ o → (joined machine host (t ∷ []) slots s).slots ≡ (joined machine replay (t ∷ []) slots got).slots) [
    | None ↦ λ e. turn_none machine host t slots s e ∙ sym (turn_none machine replay t slots got e)
    | Some slot ↦ λ e.
        let m = turned machine host t.sandbox t.steps slot s in
        let is_got : got ≡ m.replies ++ [] =
        ap (λ (j : Joined S). map (λ (g : Given). g.reply) j.replies) (joined_cons machine host t [] slots s (Some slot) e) ∙ plan_got m.next m ∙ sym (append-nil m.replies) in
        let alone = turn_alone machine host t.sandbox t.steps slot s [] (λ ended. refl) in
        turn_set machine host t slots s slot e
        ∙ ap (set slots t.sandbox) (sym (ap (λ (x : Moved (List Reply)). x.slot) (
        ap (turned machine replay t.sandbox t.steps slot) is_got ∙ turn_number machine t.sandbox t.steps slot (m.replies ++ []) ∙ alone)))
        ∙ sym (turn_set machine replay t slots got slot e)
  ] refl

module _ {S : Type 0} (machine : Machine) (is : IsMachine machine) (host : Host S) where
  plan_acts : (plan : List Turn) (w n : Sandboxes) (s : S) → IsSoundWorld w → HasSlots w n (joined machine host plan (slots_of w) s).slots → AreActions machine w (plan_actions machine host plan (slots_of w) s) n
  plan_acts [] w n s sound has = same_world w n w refl (has.slots_are ∙ ap (λ (j : Joined S). j.slots) (joined_nil machine host (slots_of w) s)) has.outside (λ a out. refl)
  plan_acts (t ∷ plan) w n s sound has =
      let ran = joined_are machine host (t ∷ []) w s is sound.safe in
      let o = ran.0 in
      let first = joined machine host (t ∷ []) (slots_of w) s in
      let slots : slots_of o ≡ first.slots = ran.1.whole.slots in
      let left : StaysOutsideData w o.bytes = ran.1.runs.outside in
      let lie : bounds_in o ≡ bounds_in w = slots_lie w o (ap (map (λ (x : Slot). x.bounds)) slots ∙ turn_bounds machine host t (slots_of w) s) in
      let follow : slots_of n ≡ (cond first.is_ended first (after_run first (joined machine host plan first.slots first.host))).slots = has.slots_are ∙ ap (λ (j : Joined S). j.slots) (follows machine host (t ∷ []) plan (slots_of w) s) in
      let outside : StaysOutsideData o n.bytes = λ a out. let none = out_too o w a (sym lie) out in has.outside a none ∙ sym (left a none) in
      let after : IsSoundWorld o = record {
        safe = ran.1.runs.safe_world;
        enterable = still_enterable w o sound.safe lie left sound.enterable;
        owned = still_owned w o lie left sound.owned;
      } in (
        o,
        record { range = in_range o ran.1.runs.safe_world; makes = inl (tt, record { slots_are = slots ∙ same_turn machine host t (slots_of w) s; outside = left }) },
        elim first.is_ended as (λ b. slots_of n ≡ (cond b first (after_run first (joined machine host plan first.slots first.host))).slots → AreActions machine o (cond b [] (plan_actions machine host plan first.slots first.host)) n) [
          | true ↦ λ e. same_world w n o lie (e ∙ sym slots) has.outside left
          | false ↦ λ e.
              subst (λ (l : List Slot). AreActions machine o (plan_actions machine host plan l first.host) n) slots
              (plan_acts plan o n first.host after (record { slots_are = e ∙ ap (λ (l : List Slot). (joined machine host plan l first.host).slots) (sym slots); outside = outside }))
        ] follow,
      )

pub plans_are_sessions : {S : Type 0} → PlansAreSessions S
plans_are_sessions machine is host plan w n s sound has = plan_acts machine is host plan w n s sound has
