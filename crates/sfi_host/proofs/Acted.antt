-- What a call of a world answers is an action of a session.
use Rattle.sfi_host.proofs.Prelude.{◌≡◌, ◌↔◌, inl, inr, ◌∙◌, ℕ, false, true, List, [], ◌∷◌, set, Option, Some, None, IsTrue, slice_get, slice_get_past, option_map, is_some, length, ◌≤◌, refl, sym, ap, subst, Bytes, Sandbox, world_of, status_at, Ready, Slot, Sandboxes, slots_of, StaysOutsideData, IsSafeWorld, Moved, Machine, IsMachine, Reply, replay, joined, Turn}
use Rattle.sfi_host.specs.Sessions.{SandboxAction, Run, GiveReply, Write, Stop, Enter, SetRegisters, CallBack, Reset, On, IsAllowed, IsDone, Makes, AreInRange, IsAction, AnswersAreActions}
use Rattle.sfi_host.specs.Changing.{data_bytes_of}
use Rattle.sfi_host.specs.Waiting.{silent, to_call, turn_of}
use Rattle.sfi_host.proofs.LaterReplies.{turn_same}
use Rattle.sfi_host.proofs.Turns.{turn_set, turn_none}
use Rattle.sfi_host.proofs.WorldBytes.{no_slot}

-- a safe world's sandboxes are in states of the machine
pub in_range : (w : Sandboxes) → IsSafeWorld w → AreInRange w
in_range w safe i s at = (safe.each i s at).state

module _ (w n : Sandboxes) (i : ℕ) (action : SandboxAction) (safe : IsSafeWorld n) where
  pub done_acts : IsAllowed w i action → ((machine : Machine) → IsMachine machine → IsDone machine w i action n) → (machine : Machine) → IsMachine machine → IsAction machine w (On i action) n
  done_acts may done machine is = record { range = in_range n safe; makes = inl (may, done machine is) }

pub answers_are_actions : AnswersAreActions
answers_are_actions machine w n i action true may done same safe = record { range = in_range n safe; makes = inl (may.0 refl, done) }
answers_are_actions machine w n i action false may done same safe = record { range = in_range n safe; makes = inr (λ a. let wrong : false ≡ true = may.1 a in absurd (cc), same) }

-- ---- a number that no sandbox has

none_some : {A : Type 0} (o : Option A) (x : A) → o ≡ Some x → o ≡ None → ⊥
none_some o x some none = let wrong : Some x ≡ None = sym some ∙ none in cc

absent_makes : (machine : Machine) (w : Sandboxes) (i : ℕ) (action : SandboxAction) → slice_get (slots_of w) i ≡ None → Makes machine w (On i action) w
absent_makes machine w i (Run steps replies) none = inl (tt, record { slots_are = sym (turn_none machine replay (turn_of i steps) (slots_of w) replies none); outside = λ a out. refl })
absent_makes machine w i (GiveReply reply) none = inr (λ a. none_some (slice_get (slots_of w) i) a.slot a.there none, refl)
absent_makes machine w i (Write at bytes) none = inr (λ a. let wrong : false ≡ true = sym (ap (λ (o : Option Slot). is_some (data_bytes_of o at (length bytes))) none) ∙ a in absurd (cc), refl)
absent_makes machine w i Stop none = inr (λ a. none_some (status_at (slots_of w) i) Ready a (ap (option_map (λ (s : Slot). s.status)) none), refl)
absent_makes machine w i (Enter pc arguments) none = inr (λ a. none_some (slice_get (slots_of w) i) a.slot a.there none, refl)
absent_makes machine w i (SetRegisters pc registers) none = inr (λ a. none_some (slice_get (slots_of w) i) a.slot a.there none, refl)
absent_makes machine w i (CallBack pc arguments) none = inr (λ a. none_some (slice_get (slots_of w) i) a.slot a.there none, refl)
absent_makes machine w i Reset none = inr (λ a. let wrong : false ≡ true = sym (ap is_some none) ∙ a in absurd (cc), refl)

module _ (w : Sandboxes) (m : Bytes) (items : List Sandbox) (view : world_of m items ≡ w) (i : ℕ) (action : SandboxAction) (safe : IsSafeWorld (world_of m items)) where
  still_safe : IsSafeWorld w
  still_safe = subst (λ (x : Sandboxes). IsSafeWorld x) view safe

  pub past_acts : length items ≤ i → (machine : Machine) → IsMachine machine → IsAction machine w (On i action) w
  past_acts past machine is = record {
    range = in_range w still_safe;
    makes = absent_makes machine w i action (ap (λ (x : Sandboxes). slice_get (slots_of x) i) (sym view) ∙ no_slot m items i (slice_get_past items i past));
  }

  pub never_acts : (IsTrue false ↔ IsAllowed w i action) → (machine : Machine) → IsMachine machine → IsAction machine w (On i action) w
  never_acts may machine is = answers_are_actions machine w w i action false may tt refl still_safe

-- ---- a turn up to a call

quiet_slots : (machine : Machine) (t : Turn) (slots : List Slot) → (to_call machine (t ∷ []) slots).slots ≡ (joined machine replay (t ∷ []) slots []).slots
quiet_slots machine t slots = elim (slice_get slots t.sandbox) as (λ o. slice_get slots t.sandbox ≡ o → (to_call machine (t ∷ []) slots).slots ≡ (joined machine replay (t ∷ []) slots []).slots) [
  | None ↦ λ e. turn_none machine silent t slots tt e ∙ sym (turn_none machine replay t slots [] e)
  | Some slot ↦ λ e.
      turn_set machine silent t slots tt slot e
      ∙ ap (set slots t.sandbox) (sym (ap (λ (m : Moved (List Reply)). m.slot) (turn_same machine replay [] (λ call. refl) t.sandbox t.steps slot)))
      ∙ sym (turn_set machine replay t slots [] slot e)
] refl

pub run_acts : (w n : Sandboxes) (i steps : ℕ) → IsSafeWorld n → ((machine : Machine) → IsMachine machine → slots_of n ≡ (to_call machine (turn_of i steps ∷ []) (slots_of w)).slots) → StaysOutsideData w n.bytes
    → (machine : Machine) → IsMachine machine → IsAction machine w (On i (Run steps [])) n
run_acts w n i steps safe ran outside = done_acts w n i (Run steps []) safe tt (λ machine is. record { slots_are = ran machine is ∙ quiet_slots machine (turn_of i steps) (slots_of w); outside = outside })
