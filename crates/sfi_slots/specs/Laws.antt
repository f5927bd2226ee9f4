-- What holds after any calls: what may be entered is what was accepted, it stands in its place, and
-- is apart from all else.
use Rattle.std.specs.Prelude.{◌≡◌, ◌≢◌, ◌↔◌, ◌+◌, ◌-◌, ◌&&◌, ℕ, List, [], ◌∷◌, Option, Some, None, Bool, IsTrue, nat_lt, nat_le, slice_get, replicate, if◌then◌else◌}
use Rattle.std.specs.List.{Contains}
use Rattle.sfi_image.specs.Spelling.{Holds}
use Rattle.sfi_slots.specs.declared.bounds.SfiBounds.{SfiBounds}
use Rattle.sfi_slots.specs.declared.slot.SfiVersion.{SfiVersion}
use Rattle.sfi_slots.specs.declared.slot.SfiSlot.{SfiSlot}
use Rattle.sfi_slots.specs.Slots.{code_of, MayEnter, IsApartFromSlot, IsApartFromOthers, empty_slot, begun, accepted, refused, tried, placing, grown, turned, confirmed, rolled_back, removed, next_of, with_next, slots_after}

-- ==== A device.

-- a version of a slot, with the bounds that were accepted
pub record Owner : Type 0 where
  pub slot : ℕ
  pub number : ℕ
  pub bounds : SfiBounds

abbrev pub owner : ℕ → SfiVersion → Owner
owner slot v = record { slot = slot; number = v.number; bounds = v.bounds }

-- its slots; each version that was accepted; and at each address of the memory for code the version
-- whose code was written there last
pub record Device : Type 0 where
  pub slots : List SfiSlot
  pub accepted : List Owner
  pub writer : ℕ → Option Owner

-- a device with so many slots, after the first call
abbrev pub fresh : ℕ → Device
fresh count = record { slots = replicate count empty_slot; accepted = []; writer = λ at. None }

-- ==== What may happen: a call for a slot, and what the host then does.

pub data Event : Type 0 where
  Begin : ℕ → Event
  Accept : ℕ → SfiBounds → Event
  Refuse : ℕ → Event
  Try : ℕ → (turns : ℕ) → Event
  Place : ℕ → Event
  Write : ℕ → (count : ℕ) → Event
  Turn : ℕ → Event
  Confirm : ℕ → Event
  RollBack : ℕ → Event
  Remove : ℕ → Event

-- a call after which the host writes nothing
abbrev pub called : (SfiSlot → Option SfiSlot) → ℕ → Device → Device
called change n d = record { slots = slots_after change d.slots n; accepted = d.accepted; writer = d.writer }

-- the versions that were accepted, with one more where the slot took it
abbrev pub with_owner : ℕ → List Owner → Option SfiSlot → List Owner
with_owner n owners None = owners
with_owner n owners (Some s) = owner n s.other ∷ owners

abbrev pub after_accepted : ℕ → Device → Option SfiSlot → Device
after_accepted n d next = record {
  slots = with_next d.slots n next;
  accepted = with_owner n d.accepted next;
  writer = d.writer;
}

-- whether the address is one of the `count` from `from` on
abbrev pub lies_in : ℕ → ℕ → ℕ → Bool
lies_in from count at = nat_le from at && nat_lt at (from + count)

-- who wrote each address, once the host wrote the last `count` bytes of what the slot now says is
-- written
abbrev pub writer_after : ℕ → ℕ → (ℕ → Option Owner) → Option SfiSlot → ℕ → Option Owner
writer_after n count writer None at = writer at
writer_after n count writer (Some s) at =
    if lies_in (s.current.bounds.code_base + (s.written - count)) count at then Some (owner n s.current)
    else writer at

abbrev pub after_written : ℕ → ℕ → Device → Option SfiSlot → Device
after_written n count d next = record {
  slots = with_next d.slots n next;
  accepted = d.accepted;
  writer = writer_after n count d.writer next;
}

-- the event makes the second device of the first
abbrev pub Happens : Event → Device → Device → Type 0
Happens (Begin n) d e = e ≡ called begun n d
Happens (Accept n b) d e =
    (fits : Bool) × (IsTrue fits ↔ IsApartFromOthers b d.slots n)
    × (e ≡ after_accepted n d (next_of (accepted fits b) (slice_get d.slots n)))
Happens (Refuse n) d e = e ≡ called refused n d
Happens (Try n turns) d e = e ≡ called (tried turns) n d
Happens (Place n) d e = e ≡ called placing n d
Happens (Write n count) d e =
    e ≡ after_written n count d (next_of (grown count) (slice_get d.slots n))
Happens (Turn n) d e = e ≡ called turned n d
Happens (Confirm n) d e = e ≡ called confirmed n d
Happens (RollBack n) d e = e ≡ called rolled_back n d
Happens (Remove n) d e = e ≡ called removed n d

-- these events, in order
abbrev pub Run : List Event → Device → Device → Type 0
Run [] d e = e ≡ d
Run (x ∷ xs) d e = (m : Device) × Happens x d m × Run xs m e

-- ==== The law.

-- slot n's current version was accepted there, with its bounds and format; each byte of its code
-- region is one that was written of it; no region or guard zone of it meets one that another slot
-- keeps; and its image's memory isn't the one that the next update is written to
pub record IsRightlyEntered (d : Device) (n : ℕ) (s : SfiSlot) : Type 0 where
  pub accepted : Contains d.accepted (owner n s.current)
  pub stands : (at : ℕ) → Holds (code_of s.current.bounds) at → d.writer at ≡ Some (owner n s.current)
  pub apart : (i : ℕ) (t : SfiSlot) → slice_get d.slots i ≡ Some t → i ≢ n → IsApartFromSlot s.current.bounds t
  pub memories : s.current.memory ≢ s.other.memory

-- after any calls
abbrev pub EnteredIsAccepted : Type 0
EnteredIsAccepted =
    (count : ℕ) (events : List Event) (d : Device) → Run events (fresh count) d
    → (n : ℕ) (s : SfiSlot) (pc : ℕ) → slice_get d.slots n ≡ Some s → MayEnter s pc
    → IsRightlyEntered d n s
