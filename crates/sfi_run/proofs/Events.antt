-- Snapshots of a sandbox.
use Rattle.std.proofs.Common.{◌≡◌, ◌<◌, ◌≤◌, inl, inr, ℕ, List, Option, Some, None, slice_get, refl, sym, ap, ◌∙◌, subst}
use Rattle.std.proofs.lemmas.Option.{same_Some}
use Rattle.std.specs.Option.{option_map}
use Rattle.rv_step.specs.State.{Hart}
use Rattle.sfi_formats.specs.Limits.{gates_most, service_most}
use Rattle.sfi_host.specs.declared.guest.Request.{Request}
use Rattle.sfi_host.specs.declared.status.Status.{Status}
use Rattle.sfi_host.specs.Slots.{hart_at, Slot}
use Rattle.sfi_host.specs.Waiting.{AsksAtGate, IsAtCall}
use Rattle.sfi_host.specs.Worlds.{status_at}
use Rattle.sfi_run.specs.declared.snapshots.SfiRunEvent.{SfiRunEvent}
use Rattle.sfi_run.specs.Snapshots.{none_event, call_event, status_event, standing_event, IsEventOf}

none_from : {A : Type 0} (f : Slot → A) (o : Option Slot) → option_map f o ≡ None → o ≡ None
none_from f None e = refl
none_from f (Some x) e = absurd (cc)

module _ (slots : List Slot) (i : ℕ) where
  none_there : slice_get slots i ≡ None → IsEventOf slots i none_event
  none_there e = inr (λ at. absurd (let z : None ≡ Some at.slot = sym e ∙ at.there in cc), ap standing_event (sym e))

  pub no_hart : hart_at slots i ≡ None → IsEventOf slots i none_event
  no_hart e = none_there (none_from (λ (s : Slot). s.hart) (slice_get slots i) e)

  pub no_status : status_at slots i ≡ None → IsEventOf slots i none_event
  no_status e = none_there (none_from (λ (s : Slot). s.status) (slice_get slots i) e)

  -- at a call
  pub call_is : (r : Request) (h : Hart) (e : SfiRunEvent) → IsAtCall slots i → AsksAtGate slots i r → hart_at slots i ≡ Some h → e ≡ call_event r.gate r.service h → IsEventOf slots i e
  call_is r h e at asks hart is =
      let same : h ≡ asks.slot.hart = same_Some h asks.slot.hart (sym hart ∙ ap (option_map (λ (s : Slot). s.hart)) asks.there) in
      let gate : e.gate ≡ r.gate = ap (λ (x : SfiRunEvent). x.gate) is in
      inl (
        at,
        record {
          slot = asks.slot;
          there = asks.there;
          gate = asks.gate;
          among = ap (slice_get asks.slot.bounds.gates) gate ∙ asks.among;
          gate_number = subst (λ (n : ℕ). n < gates_most) (sym gate) asks.few;
          address = asks.address;
          service_number = subst (λ (n : ℕ). n ≤ service_most) asks.service asks.most;
          event_is = is ∙ (λ k. call_event (sym gate k) (asks.service k) (same k));
        },
      )

  stands : (s : Status) (h : Hart) (o : Option Slot) → option_map (λ (x : Slot). x.status) o ≡ Some s → option_map (λ (x : Slot). x.hart) o ≡ Some h → status_event s h.pc ≡ standing_event o
  stands s h None e f = absurd (cc)
  stands s h (Some x) e f =
      let a : x.status ≡ s = same_Some x.status s e in
      let b : x.hart ≡ h = same_Some x.hart h f in
      λ k. status_event (sym a k) (sym b k).pc

  -- elsewhere
  pub status_is : (s : Status) (h : Hart) (e : SfiRunEvent) → (IsAtCall slots i → ⊥) → status_at slots i ≡ Some s → hart_at slots i ≡ Some h → e ≡ status_event s h.pc → IsEventOf slots i e
  status_is s h e none status hart is = inr (none, is ∙ stands s h (slice_get slots i) status hart)
