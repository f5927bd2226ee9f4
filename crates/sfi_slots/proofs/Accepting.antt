-- An update that is accepted leaves the device sound.
use Rattle.std.proofs.Common.{◌≡◌, ◌≢◌, ◌⊎◌, ◌+◌, ◌<◌, ◌≤◌, ◌^◌, ◌-◌, ◌==◌, ◌&&◌, ℕ, inl, inr, suc, List, ◌∷◌, Bool, true, false, IsTrue, Some, None, Option, refl, sym, subst, ◌∙◌, arith, slice_get, slice_set, if◌then◌else◌}
use Rattle.std.specs.List.{Contains}
use Rattle.sfi_image.specs.Spelling.{Holds}
use Rattle.sfi_slots.specs.declared.bounds.SfiBounds.{SfiBounds}
use Rattle.sfi_slots.specs.declared.slot.SfiVersion.{SfiVersion}
use Rattle.sfi_slots.specs.declared.slot.SfiSlot.{SfiSlot}
use Rattle.sfi_slots.specs.Slots.{LieApart, IsKept, IsVersionOf, IsApartFromOthers, receiving, new_accepted, accepted, next_of}
use Rattle.sfi_slots.specs.Laws.{Device, Owner, owner, after_accepted}
use Rattle.sfi_slots.proofs.Harmless.{then_some, else_some}
use Rattle.sfi_slots.proofs.Sound.{IsSound, written_of, set_at}

pub contains_more : (xs : List Owner) (x y : Owner) → Contains xs x → Contains (y ∷ xs) x
contains_more xs x y c = (suc c.0, omega (arith, c.1), c.2)

contains_first : (xs : List Owner) (x : Owner) → Contains (x ∷ xs) x
contains_first xs x = (0, omega arith, refl)

apart_swapped : (b c : SfiBounds) → LieApart b c → LieApart c b
apart_swapped b c a = record {
  regions = record {
    code_code = λ at x y. a.regions.code_code at y x;
    code_guarded = λ at x y. a.regions.guarded_code at y x;
    guarded_code = λ at x y. a.regions.code_guarded at y x;
    guarded_guarded = λ at x y. a.regions.guarded_guarded at y x;
  };
  clear = a.other_clear;
  other_clear = a.clear;
}

-- the slot that took the update
abbrev taken : SfiBounds → SfiSlot → SfiSlot
taken b s = record s { other = new_accepted b s; updates = s.updates + 1 }

module _ (d : Device) (n : ℕ) (b : SfiBounds) (s : SfiSlot) (sound : IsSound d) (found : slice_get d.slots n ≡ Some s) (fits : IsApartFromOthers b d.slots n) where
  abbrev slots : List SfiSlot
  slots = slice_set d.slots n (taken b s)

  -- a kept version of that slot is apart from one of another
  apart_from : (j : ℕ) (t : SfiSlot) (a v : SfiVersion) → slice_get d.slots j ≡ Some t → j ≢ n → IsVersionOf a (taken b s) → IsVersionOf v t → IsKept a → IsKept v → LieApart a.bounds v.bounds
  apart_from j t a v at_j differ of_a of_v kept_a kept_v = elim of_a [
    | inl e ↦ sound.versions.apart n j s t a v found at_j (λ same. differ (sym same)) (inl e) of_v kept_a kept_v
    | inr e ↦
        let all = fits j t at_j differ in
        let apart : LieApart b v.bounds = elim of_v [
          | inl w ↦ subst (λ (x : SfiVersion). LieApart b x.bounds) (sym w) (all.0 (subst IsKept w kept_v))
          | inr w ↦ subst (λ (x : SfiVersion). LieApart b x.bounds) (sym w) (all.1 (subst IsKept w kept_v))
        ] in
        subst (λ (x : SfiVersion). LieApart x.bounds v.bounds) (sym e) apart
  ]

  -- a slot of the list is that one, or as it was
  abbrev IsEither : ℕ → SfiSlot → Type 0
  IsEither i t = ((i ≡ n) × (t ≡ taken b s)) ⊎ ((i ≢ n) × (slice_get d.slots i ≡ Some t))

  apart_either : (i j : ℕ) (t u : SfiSlot) (a v : SfiVersion) → IsEither i t → IsEither j u → i ≢ j → IsVersionOf a t → IsVersionOf v u → IsKept a → IsKept v → LieApart a.bounds v.bounds
  apart_either i j t u a v (inl x) (inl y) differ of_a of_v kept_a kept_v = absurd (differ (x.0 ∙ sym y.0))
  apart_either i j t u a v (inl x) (inr y) differ of_a of_v kept_a kept_v = apart_from j u a v y.1 y.0 (subst (IsVersionOf a) x.1 of_a) of_v kept_a kept_v
  apart_either i j t u a v (inr x) (inl y) differ of_a of_v kept_a kept_v = apart_swapped v.bounds a.bounds (apart_from i t v a x.1 x.0 (subst (IsVersionOf v) y.1 of_v) of_a kept_v kept_a)
  apart_either i j t u a v (inr x) (inr y) differ of_a of_v kept_a kept_v = sound.versions.apart i j t u a v x.1 y.1 differ of_a of_v kept_a kept_v

  accepted_either : (i : ℕ) (t : SfiSlot) (a : SfiVersion) → IsEither i t → IsVersionOf a t → IsKept a → Contains (owner n (new_accepted b s) ∷ d.accepted) (owner i a)
  accepted_either i t a (inr y) of_a kept = contains_more d.accepted (owner i a) (owner n (new_accepted b s)) (sound.versions.accepted i t a y.1 of_a kept)
  accepted_either i t a (inl x) of_a kept = elim (subst (IsVersionOf a) x.1 of_a) [
    | inl e ↦ subst (λ k. Contains (owner n (new_accepted b s) ∷ d.accepted) (owner k a)) (sym x.0)
        (contains_more d.accepted (owner n a) (owner n (new_accepted b s)) (sound.versions.accepted n s a found (inl e) kept))
    | inr e ↦ subst (λ (v : SfiVersion). Contains (owner n (new_accepted b s) ∷ d.accepted) (owner i v)) (sym e)
        (subst (λ k. Contains (owner n (new_accepted b s) ∷ d.accepted) (owner k (new_accepted b s))) (sym x.0) (contains_first d.accepted (owner n (new_accepted b s))))
  ]

  taken_keeps : IsSound (record { slots = slots; accepted = owner n (new_accepted b s) ∷ d.accepted; writer = d.writer })
  taken_keeps = record {
    versions = record {
      apart = λ i j t u a v at_i at_j. apart_either i j t u a v (set_at d.slots n i (taken b s) t at_i) (set_at d.slots n j (taken b s) u at_j);
      accepted = λ i t a at. accepted_either i t a (set_at d.slots n i (taken b s) t at);
      memories = λ i t at. elim (set_at d.slots n i (taken b s) t at) [
        | inl x ↦ subst (λ (u : SfiSlot). u.current.memory ≢ u.other.memory) (sym x.1) (sound.versions.memories n s found)
        | inr y ↦ sound.versions.memories i t y.1
      ];
    };
    stands = λ i t at at_i. elim (set_at d.slots n i (taken b s) t at_i) [
      | inl x ↦ λ holds. subst (λ k. d.writer at ≡ Some (owner k t.current)) (sym x.0) (subst (λ (u : SfiSlot). d.writer at ≡ Some (owner n u.current)) (sym x.1) (sound.stands n s at found (subst (λ (u : SfiSlot). Holds (written_of u) at) x.1 holds)))
      | inr y ↦ sound.stands i t at y.1
    ];
    kept = λ i t at_i. elim (set_at d.slots n i (taken b s) t at_i) [
      | inl x ↦ subst (λ (u : SfiSlot). 0 < u.written → IsKept u.current) (sym x.1) (sound.kept n s found)
      | inr y ↦ sound.kept i t y.1
    ];
    within = λ i t at_i. elim (set_at d.slots n i (taken b s) t at_i) [
      | inl x ↦ subst (λ (u : SfiSlot). u.written ≤ u.current.bounds.code_size) (sym x.1) (sound.within n s found)
      | inr y ↦ sound.within i t y.1
    ];
  }

and_left : (a b : Bool) → (a && b) ≡ true → a ≡ true
and_left true b e = refl
and_left false b e = e

-- what acceptance asks for, and makes
taken_if : (fits : Bool) (b : SfiBounds) (s u : SfiSlot) → accepted fits b s ≡ Some u → (fits ≡ true) × (taken b s ≡ u)
taken_if fits b s u e =
    let due = fits && (s.other.state == receiving) in
    let rest : Option SfiSlot = if due then Some (taken b s) else None in
    let one = then_some due (taken b s) u (else_some (s.updates == 2 ^ 32 - 1) rest u e).1 in
    (and_left fits (s.other.state == receiving) one.0, one.1)

module _ (d : Device) (n : ℕ) (b : SfiBounds) (fits : Bool) (sound : IsSound d) (are : IsTrue fits → IsApartFromOthers b d.slots n) where
  keeps_by : (s : SfiSlot) (next : Option SfiSlot) → slice_get d.slots n ≡ Some s → accepted fits b s ≡ next → IsSound (after_accepted n d next)
  keeps_by s None found e = sound
  keeps_by s (Some u) found e =
      let due = taken_if fits b s u e in
      subst (λ v. IsSound (after_accepted n d (Some v))) due.1 (taken_keeps d n b s sound found (are due.0))

  accept_by : (found : Option SfiSlot) → slice_get d.slots n ≡ found → IsSound (after_accepted n d (next_of (accepted fits b) found))
  accept_by None e = sound
  accept_by (Some s) e = keeps_by s (accepted fits b s) e refl

  pub accept_keeps : IsSound (after_accepted n d (next_of (accepted fits b) (slice_get d.slots n)))
  accept_keeps = accept_by (slice_get d.slots n) refl
