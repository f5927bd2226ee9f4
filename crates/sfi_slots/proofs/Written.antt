-- The host's writes of a version's code leave the device sound.
use Rattle.std.proofs.Common.{◌≡◌, ◌≢◌, ◌+◌, ◌<◌, ◌≤◌, ◌-◌, ℕ, inl, inr, List, Bool, true, false, Some, None, Option, refl, sym, subst, arith, slice_get, slice_set, if◌then◌else◌, nat_lt}
use Rattle.std.proofs.lemmas.Option.{same_Some}
use Rattle.std.proofs.lemmas.Bool.{cases_lt}
use Rattle.sfi_image.specs.Spelling.{Holds}
use Rattle.sfi_slots.specs.declared.slot.SfiSlot.{SfiSlot}
use Rattle.sfi_slots.specs.Slots.{IsKept, on_trial, grown, next_of}
use Rattle.sfi_slots.specs.Laws.{Device, Owner, owner, lies_in, writer_after, after_written}
use Rattle.sfi_slots.proofs.Harmless.{KeepsVersions, from_current, from_other, else_some}
use Rattle.sfi_slots.proofs.Sound.{IsSound, written_of, set_at, versions_after, origins_set}

lies_in_true : (from count at : ℕ) → from ≤ at → at < from + count → lies_in from count at ≡ true
lies_in_true from count at low high = grind (arith, low, high)

lies_in_holds : (from count at : ℕ) → lies_in from count at ≡ true → (from ≤ at) × (at < from + count)
lies_in_holds from count at e = grind (arith, e)

either : (b : Bool) (x y z : Option Owner) → (b ≡ true → x ≡ z) → (b ≡ false → y ≡ z) → (if b then x else y) ≡ z
either true x y z f g = f refl
either false x y z f g = g refl

keeps_itself : (s : SfiSlot) → KeepsVersions s s
keeps_itself s = record { of_current = from_current s; of_other = from_other s; memories = λ m. m }

-- the slot with more written
abbrev longer : ℕ → SfiSlot → SfiSlot
longer count s = record s { written = s.written + count }

module _ (d : Device) (n count : ℕ) (s : SfiSlot) (sound : IsSound d) (found : slice_get d.slots n ≡ Some s) (live : on_trial ≤ s.current.state) (room : s.written + count ≤ s.current.bounds.code_size) where
  abbrev slots : List SfiSlot
  slots = slice_set d.slots n (longer count s)

  abbrev writer : ℕ → Option Owner
  writer = writer_after n count d.writer (Some (longer count s))

  abbrev is_new : ℕ → Bool
  is_new at = lies_in (s.current.bounds.code_base + (s.written + count - count)) count at

  own : (at : ℕ) → Holds (written_of (longer count s)) at → writer at ≡ Some (owner n s.current)
  own at holds = either (is_new at) (Some (owner n s.current)) (d.writer at) (Some (owner n s.current)) (λ e. refl) (λ no. elim (cases_lt at (s.current.bounds.code_base + s.written)) [
    | inl less ↦ sound.stands n s at found (holds.0, less)
    | inr more ↦
        let yes : is_new at ≡ true = lies_in_true (s.current.bounds.code_base + (s.written + count - count)) count at (omega (arith, more)) (omega (arith, holds.1)) in
        absurd cc
  ])

  other : (i : ℕ) (t : SfiSlot) (at : ℕ) → slice_get d.slots i ≡ Some t → i ≢ n → Holds (written_of t) at → writer at ≡ Some (owner i t.current)
  other i t at at_i differ holds = either (is_new at) (Some (owner n s.current)) (d.writer at) (Some (owner i t.current)) (λ yes.
      let inside = lies_in_holds (s.current.bounds.code_base + (s.written + count - count)) count at yes in
      let kept_t = sound.kept i t at_i (omega (arith, holds.0, holds.1)) in
      let apart = sound.versions.apart i n t s t.current s.current at_i found differ (inl refl) (inl refl) kept_t (omega (arith, live)) in
      absurd (apart.regions.code_code at (holds.0, omega (arith, holds.1, sound.within i t at_i)) (omega (arith, inside.0), omega (arith, inside.1, room)))) (λ no. sound.stands i t at at_i holds)

  longer_keeps : IsSound (record { slots = slots; accepted = d.accepted; writer = writer })
  longer_keeps = record {
    versions = versions_after d.slots slots d.accepted sound.versions (origins_set KeepsVersions keeps_itself d.slots n s (longer count s) found (record { of_current = from_current s; of_other = from_other s; memories = λ m. m }));
    stands = λ i t at at_i holds. elim (set_at d.slots n i (longer count s) t at_i) [
      | inl x ↦ subst (λ k. writer at ≡ Some (owner k t.current)) (sym x.0) (subst (λ (u : SfiSlot). writer at ≡ Some (owner n u.current)) (sym x.1) (own at (subst (λ (u : SfiSlot). Holds (written_of u) at) x.1 holds)))
      | inr y ↦ other i t at y.1 y.0 holds
    ];
    kept = λ i t at_i. elim (set_at d.slots n i (longer count s) t at_i) [
      | inl x ↦ subst (λ (u : SfiSlot). 0 < u.written → IsKept u.current) (sym x.1) (λ some. omega (arith, live))
      | inr y ↦ sound.kept i t y.1
    ];
    within = λ i t at_i. elim (set_at d.slots n i (longer count s) t at_i) [
      | inl x ↦ subst (λ (u : SfiSlot). u.written ≤ u.current.bounds.code_size) (sym x.1) room
      | inr y ↦ sound.within i t y.1
    ];
  }

-- what a write asks for, and makes
record IsLonger (count : ℕ) (s u : SfiSlot) : Type 0 where
  live : on_trial ≤ s.current.state
  room : s.written + count ≤ s.current.bounds.code_size
  is : longer count s ≡ u

not_less : (m n : ℕ) → nat_lt m n ≡ false → n ≤ m
not_less m n e = grind (arith, e)

longer_if : (count : ℕ) (s u : SfiSlot) → grown count s ≡ Some u → IsLonger count s u
longer_if count s u e =
    let one = else_some (nat_lt s.current.state on_trial) (if nat_lt s.current.bounds.code_size (s.written + count) then None else Some (longer count s)) u e in
    let two = else_some (nat_lt s.current.bounds.code_size (s.written + count)) (Some (longer count s)) u one.1 in
    record {
      live = not_less s.current.state on_trial one.0;
      room = not_less s.current.bounds.code_size (s.written + count) two.0;
      is = same_Some (longer count s) u two.1;
    }

module _ (d : Device) (n count : ℕ) (sound : IsSound d) where
  keeps_by : (s : SfiSlot) (next : Option SfiSlot) → slice_get d.slots n ≡ Some s → grown count s ≡ next → IsSound (after_written n count d next)
  keeps_by s None found e = sound
  keeps_by s (Some u) found e =
      let due = longer_if count s u e in
      subst (λ v. IsSound (after_written n count d (Some v))) due.is (longer_keeps d n count s sound found due.live due.room)

  write_by : (found : Option SfiSlot) → slice_get d.slots n ≡ found → IsSound (after_written n count d (next_of (grown count) found))
  write_by None e = sound
  write_by (Some s) e = keeps_by s (grown count s) e refl

  pub write_keeps : IsSound (after_written n count d (next_of (grown count) (slice_get d.slots n)))
  write_keeps = write_by (slice_get d.slots n) refl
