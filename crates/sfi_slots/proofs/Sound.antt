-- What every event keeps of a device.
use Rattle.std.proofs.Common.{◌≡◌, ◌≢◌, ◌⊎◌, ◌<◌, ◌≤◌, ℕ, inl, inr, List, Some, None, Option, refl, sym, ap, subst, ◌∙◌, arith, slice_get, slice_set, get_or, length}
use Rattle.std.proofs.Math.ListN.{length-set}
use Rattle.std.proofs.lemmas.Bool.{cases_eq}
use Rattle.std.proofs.lemmas.List.{get_or-set_same, get_or-set_other}
use Rattle.std.proofs.lemmas.Option.{slice_get_within, slice_get-get_or, get_or_from_slice_get}
use Rattle.std.specs.List.{Contains}
use Rattle.sfi_image.specs.declared.span.Span.{Span}
use Rattle.sfi_image.specs.Spelling.{Holds}
use Rattle.sfi_slots.specs.declared.bounds.SfiBounds.{SfiBounds}
use Rattle.sfi_slots.specs.declared.slot.SfiVersion.{SfiVersion}
use Rattle.sfi_slots.specs.declared.slot.SfiSlot.{SfiSlot}
use Rattle.sfi_slots.specs.Slots.{LieApart, IsKept, IsVersionOf, next_of, with_next, slots_after}
use Rattle.sfi_slots.specs.Laws.{Device, Owner, owner, called}
use Rattle.sfi_slots.proofs.Harmless.{ComesFrom, KeepsVersions, IsHarmless, versions_of, itself}

-- ---- a slot of the list, after one was changed

pub set_at : (xs : List SfiSlot) (n i : ℕ) (x t : SfiSlot) → slice_get (slice_set xs n x) i ≡ Some t → ((i ≡ n) × (t ≡ x)) ⊎ ((i ≢ n) × (slice_get xs i ≡ Some t))
set_at xs n i x t at =
    let inside : i < length xs = omega (arith, slice_get_within (slice_set xs n x) i t at, length-set xs n x) in
    let value : get_or (slice_set xs n x) i t ≡ t = get_or_from_slice_get (slice_set xs n x) i t t at in
    elim (cases_eq i n) [
      | inl same ↦ inl (same, sym value ∙ (ap (λ k. get_or (slice_set xs n x) k t) same ∙ get_or-set_same xs n x t (subst (λ k. k < length xs) same inside)))
      | inr other ↦ inr (other, slice_get-get_or xs i t inside ∙ ap Some (sym (get_or-set_other xs n i x t other) ∙ value))
    ]

-- ---- an invariant of the device

-- versions that are kept lie apart, and were accepted
pub record AreVersionsSound (slots : List SfiSlot) (owners : List Owner) : Type 0 where
  pub apart : (i j : ℕ) (s t : SfiSlot) (a b : SfiVersion) → slice_get slots i ≡ Some s → slice_get slots j ≡ Some t → i ≢ j → IsVersionOf a s → IsVersionOf b t → IsKept a → IsKept b → LieApart a.bounds b.bounds
  pub accepted : (i : ℕ) (s : SfiSlot) (a : SfiVersion) → slice_get slots i ≡ Some s → IsVersionOf a s → IsKept a → Contains owners (owner i a)
  pub memories : (i : ℕ) (s : SfiSlot) → slice_get slots i ≡ Some s → s.current.memory ≢ s.other.memory

-- what a slot says is written of its current version
abbrev pub written_of : SfiSlot → Span
written_of s = record { base = s.current.bounds.code_base; size = s.written }

-- and it stands there
pub record IsSound (d : Device) : Type 0 where
  pub versions : AreVersionsSound d.slots d.accepted
  pub stands : (i : ℕ) (s : SfiSlot) (at : ℕ) → slice_get d.slots i ≡ Some s → Holds (written_of s) at → d.writer at ≡ Some (owner i s.current)
  pub kept : (i : ℕ) (s : SfiSlot) → slice_get d.slots i ≡ Some s → 0 < s.written → IsKept s.current
  pub within : (i : ℕ) (s : SfiSlot) → slice_get d.slots i ≡ Some s → s.written ≤ s.current.bounds.code_size

-- ---- versions, where each slot comes from one that kept them

-- a slot of the list, from which the other comes
pub record Origin (R : SfiSlot → SfiSlot → Type 0) (slots : List SfiSlot) (i : ℕ) (t : SfiSlot) : Type 0 where
  pub slot : SfiSlot
  pub is_at : slice_get slots i ≡ Some slot
  pub is : R slot t

abbrev pub HaveOrigins : (SfiSlot → SfiSlot → Type 0) → List SfiSlot → List SfiSlot → Type 0
HaveOrigins R olds slots = (i : ℕ) (t : SfiSlot) → slice_get slots i ≡ Some t → Origin R olds i t

from_of : (s t : SfiSlot) (b : SfiVersion) → KeepsVersions s t → IsVersionOf b t → ComesFrom s b
from_of s t b h is = elim is [
  | inl e ↦ subst (ComesFrom s) (sym e) h.of_current
  | inr e ↦ subst (ComesFrom s) (sym e) h.of_other
]

owner_same : (i : ℕ) (a b : SfiVersion) → a.bounds ≡ b.bounds → a.number ≡ b.number → owner i a ≡ owner i b
owner_same i a b e n = λ k. record { slot = i; number = n k; bounds = e k }

module _ (olds slots : List SfiSlot) (owners : List Owner) (sound : AreVersionsSound olds owners) (origins : HaveOrigins KeepsVersions olds slots) where
  apart_after : (i j : ℕ) (s t : SfiSlot) (a b : SfiVersion) → slice_get slots i ≡ Some s → slice_get slots j ≡ Some t → i ≢ j → IsVersionOf a s → IsVersionOf b t → IsKept a → IsKept b → LieApart a.bounds b.bounds
  apart_after i j s t a b at_i at_j differ of_a of_b kept_a kept_b =
      let one = origins i s at_i in
      let other = origins j t at_j in
      let a_from = from_of one.slot s a one.is of_a kept_a in
      let b_from = from_of other.slot t b other.is of_b kept_b in
      subst (λ x. LieApart x b.bounds) a_from.bounds (subst (λ y. LieApart a_from.version.bounds y) b_from.bounds
      (sound.apart i j one.slot other.slot a_from.version b_from.version one.is_at other.is_at differ a_from.is_of b_from.is_of a_from.kept b_from.kept))

  accepted_after : (i : ℕ) (s : SfiSlot) (a : SfiVersion) → slice_get slots i ≡ Some s → IsVersionOf a s → IsKept a → Contains owners (owner i a)
  accepted_after i s a at_i of_a kept =
      let from = origins i s at_i in
      let a_from = from_of from.slot s a from.is of_a kept in
      subst (Contains owners) (owner_same i a_from.version a a_from.bounds a_from.number) (sound.accepted i from.slot a_from.version from.is_at a_from.is_of a_from.kept)

  pub versions_after : AreVersionsSound slots owners
  versions_after = record {
    apart = apart_after;
    accepted = accepted_after;
    memories = λ i s at_i. let from = origins i s at_i in from.is.memories (sound.memories i from.slot from.is_at);
  }

-- ---- all of it, where each slot comes from one by a harmless change

module _ (d : Device) (slots : List SfiSlot) (sound : IsSound d) (origins : HaveOrigins IsHarmless d.slots slots) where
  stands_after : (i : ℕ) (s : SfiSlot) (at : ℕ) → slice_get slots i ≡ Some s → Holds (written_of s) at → d.writer at ≡ Some (owner i s.current)
  stands_after i s at at_i holds =
      let from = origins i s at_i in
      elim from.is.current [
        | inl none ↦ absurd (omega (arith, none, holds.0, holds.1))
        | inr same ↦
            let in_old : Holds (written_of from.slot) at = subst (λ w. Holds (record { base = from.slot.current.bounds.code_base; size = w }) at) same.written (subst (λ (b : SfiBounds). Holds (record { base = b.code_base; size = s.written }) at) same.bounds holds) in
            sound.stands i from.slot at from.is_at in_old ∙ ap Some (owner_same i from.slot.current s.current (sym same.bounds) (sym same.number))
      ]

  kept_after : (i : ℕ) (s : SfiSlot) → slice_get slots i ≡ Some s → 0 < s.written → IsKept s.current
  kept_after i s at_i some =
      let from = origins i s at_i in
      elim from.is.current [
        | inl none ↦ absurd (omega (arith, none, some))
        | inr same ↦ same.kept (sound.kept i from.slot from.is_at (omega (arith, same.written, some)))
      ]

  within_after : (i : ℕ) (s : SfiSlot) → slice_get slots i ≡ Some s → s.written ≤ s.current.bounds.code_size
  within_after i s at_i =
      let from = origins i s at_i in
      elim from.is.current [
        | inl none ↦ omega (arith, none)
        | inr same ↦
            let size : s.current.bounds.code_size ≡ from.slot.current.bounds.code_size = ap (λ (b : SfiBounds). b.code_size) same.bounds in
            omega (arith, same.written, size, sound.within i from.slot from.is_at)
      ]

  pub sound_after : IsSound (record { slots = slots; accepted = d.accepted; writer = d.writer })
  sound_after = record {
    versions = versions_after d.slots slots d.accepted sound.versions (λ i t at. let from = origins i t at in record { slot = from.slot; is_at = from.is_at; is = versions_of from.slot t from.is });
    stands = stands_after;
    kept = kept_after;
    within = within_after;
  }

-- ---- a call that changes one slot

module _ (R : SfiSlot → SfiSlot → Type 0) (reflexive : (s : SfiSlot) → R s s) (slots : List SfiSlot) (n : ℕ) where
  pub itself_at : (i : ℕ) (t : SfiSlot) → slice_get slots i ≡ Some t → Origin R slots i t
  itself_at i t at = record { slot = t; is_at = at; is = reflexive t }

  pub origins_set : (s u : SfiSlot) → slice_get slots n ≡ Some s → R s u → HaveOrigins R slots (slice_set slots n u)
  origins_set s u found is i t at = elim (set_at slots n i u t at) [
    | inl here ↦ record { slot = s; is_at = subst (λ k. slice_get slots k ≡ Some s) (sym here.0) found; is = subst (R s) (sym here.1) is }
    | inr there ↦ itself_at i t there.1
  ]

module _ (d : Device) (n : ℕ) (change : SfiSlot → Option SfiSlot) (harmless : (s t : SfiSlot) → change s ≡ Some t → IsHarmless s t) where
  origins_by : (s : SfiSlot) (next : Option SfiSlot) → slice_get d.slots n ≡ Some s → change s ≡ next → HaveOrigins IsHarmless d.slots (with_next d.slots n next)
  origins_by s None found e = itself_at IsHarmless itself d.slots n
  origins_by s (Some u) found e = origins_set IsHarmless itself d.slots n s u found (harmless s u e)

  origins_of : (found : Option SfiSlot) → slice_get d.slots n ≡ found → HaveOrigins IsHarmless d.slots (with_next d.slots n (next_of change found))
  origins_of None e = itself_at IsHarmless itself d.slots n
  origins_of (Some s) e = origins_by s (change s) e refl

  pub call_keeps : IsSound d → IsSound (called change n d)
  call_keeps sound = sound_after d (slots_after change d.slots n) sound (origins_of (slice_get d.slots n) refl)
