-- Every event leaves a device sound: so what may be entered is what was accepted.
use Rattle.std.proofs.Common.{◌≡◌, ◌≢◌, ◌<◌, ℕ, inl, inr, List, [], ◌∷◌, Some, refl, sym, ap, subst, ◌∙◌, arith, slice_get, replicate}
use Rattle.std.proofs.lemmas.Option.{slice_get_within, get_or_from_slice_get}
use Rattle.std.proofs.lemmas.List.{get_or-replicate, length-replicate}
use Rattle.sfi_slots.specs.declared.slot.SfiVersion.{SfiVersion}
use Rattle.sfi_slots.specs.declared.slot.SfiSlot.{SfiSlot}
use Rattle.sfi_slots.specs.Slots.{IsKept, IsVersionOf, empty_slot, begun, refused, tried, placing, turned, confirmed, rolled_back, removed}
use Rattle.sfi_slots.specs.Laws.{Device, Event, Begin, Accept, Refuse, Try, Place, Write, Turn, Confirm, RollBack, Remove, Happens, Run, fresh, EnteredIsAccepted}
use Rattle.sfi_slots.proofs.Harmless.{of_begun, of_refused, of_tried, of_placing, of_turned, of_confirmed, of_rolled_back, of_removed}
use Rattle.sfi_slots.proofs.Sound.{IsSound, call_keeps}
use Rattle.sfi_slots.proofs.Accepting.{accept_keeps}
use Rattle.sfi_slots.proofs.Written.{write_keeps}

keeps : (x : Event) (d e : Device) → IsSound d → Happens x d e → IsSound e
keeps (Begin n) d e sound h = subst IsSound (sym h) (call_keeps d n begun of_begun sound)
keeps (Accept n b) d e sound h = subst IsSound (sym h.2) (accept_keeps d n b h.0 sound h.1.0)
keeps (Refuse n) d e sound h = subst IsSound (sym h) (call_keeps d n refused of_refused sound)
keeps (Try n turns) d e sound h = subst IsSound (sym h) (call_keeps d n (tried turns) (of_tried turns) sound)
keeps (Place n) d e sound h = subst IsSound (sym h) (call_keeps d n placing of_placing sound)
keeps (Write n count) d e sound h = subst IsSound (sym h) (write_keeps d n count sound)
keeps (Turn n) d e sound h = subst IsSound (sym h) (call_keeps d n turned of_turned sound)
keeps (Confirm n) d e sound h = subst IsSound (sym h) (call_keeps d n confirmed of_confirmed sound)
keeps (RollBack n) d e sound h = subst IsSound (sym h) (call_keeps d n rolled_back of_rolled_back sound)
keeps (Remove n) d e sound h = subst IsSound (sym h) (call_keeps d n removed of_removed sound)

run_keeps : (events : List Event) (d e : Device) → IsSound d → Run events d e → IsSound e
run_keeps [] d e sound r = subst IsSound (sym r) sound
run_keeps (x ∷ xs) d e sound r = run_keeps xs r.0 e (keeps x d r.0 sound r.1) r.2

-- ---- at first

empty_at : (count i : ℕ) (s : SfiSlot) → slice_get (replicate count empty_slot) i ≡ Some s → s ≡ empty_slot
empty_at count i s at =
    let inside : i < count = omega (arith, slice_get_within (replicate count empty_slot) i s at, length-replicate count empty_slot) in
    sym (get_or_from_slice_get (replicate count empty_slot) i s s at) ∙ get_or-replicate count i empty_slot s inside

not_kept : (count i : ℕ) (s : SfiSlot) (a : SfiVersion) → slice_get (replicate count empty_slot) i ≡ Some s → IsVersionOf a s → IsKept a → ⊥
not_kept count i s a at of_a kept = elim (subst (IsVersionOf a) (empty_at count i s at) of_a) [
  | inl e ↦ omega (arith, ap (λ (v : SfiVersion). v.state) e, kept)
  | inr e ↦ omega (arith, ap (λ (v : SfiVersion). v.state) e, kept)
]

nothing : (count i : ℕ) (s : SfiSlot) → slice_get (replicate count empty_slot) i ≡ Some s → s.written ≡ 0
nothing count i s at = ap (λ (u : SfiSlot). u.written) (empty_at count i s at)

fresh_is_sound : (count : ℕ) → IsSound (fresh count)
fresh_is_sound count = record {
  versions = record {
    apart = λ i j s t a b at_i at_j differ of_a of_b kept_a kept_b. absurd (not_kept count i s a at_i of_a kept_a);
    accepted = λ i s a at of_a kept. absurd (not_kept count i s a at of_a kept);
    memories = λ i s at. subst (λ (u : SfiSlot). u.current.memory ≢ u.other.memory) (sym (empty_at count i s at)) (λ e. absurd cc);
  };
  stands = λ i s at at_i holds. absurd (omega (arith, nothing count i s at_i, holds.0, holds.1));
  kept = λ i s at some. absurd (omega (arith, nothing count i s at, some));
  within = λ i s at. omega (arith, nothing count i s at);
}

-- ---- the law

pub entered_is_accepted : EnteredIsAccepted
entered_is_accepted count events d run n s pc at may =
    let sound = run_keeps events (fresh count) d (fresh_is_sound count) run in
    let kept : IsKept s.current = omega (arith, may.runs) in
    record {
      accepted = sound.versions.accepted n s s.current at (inl refl) kept;
      stands = λ a holds. sound.stands n s a at (holds.0, omega (arith, holds.1, may.whole));
      apart = λ i t at_i differ. (
        λ k. sound.versions.apart n i s t s.current t.current at at_i (λ same. differ (sym same)) (inl refl) (inl refl) kept k,
        λ k. sound.versions.apart n i s t s.current t.other at at_i (λ same. differ (sym same)) (inl refl) (inr refl) kept k,
      );
      memories = sound.versions.memories n s at;
    }
