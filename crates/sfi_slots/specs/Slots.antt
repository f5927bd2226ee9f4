-- Slots of a device, each with two versions of a plug-in: what a call makes of them, and what may
-- be entered.
use Rattle.std.specs.Prelude.{◌≡◌, ◌≢◌, ◌≤◌, ◌+◌, ◌-◌, ◌%◌, ◌^◌, ◌==◌, ◌&&◌, ◌||◌, nat_lt, nat_le, ◌⊎◌, ℕ, List, Option, Some, None, Bool, slice_get, slice_set, if◌then◌else◌}
use Rattle.sfi_formats.specs.Formats.{unit}
use Rattle.sfi_formats.specs.Numbers.{format_numbered}
use Rattle.sfi_formats.specs.Limits.{bundle_size}
use Rattle.sfi_image.specs.declared.span.Span.{Span}
use Rattle.sfi_image.specs.Spelling.{Holds}
use Rattle.sfi_image.specs.Bounds.{AreBoundsApart}
use Rattle.sfi_image.specs.declared.bounds.Bounds.{Bounds}
use Rattle.sfi_slots.specs.declared.bounds.SfiBounds.{SfiBounds}
use Rattle.sfi_slots.specs.declared.slot.SfiVersion.{SfiVersion}
use Rattle.sfi_slots.specs.declared.slot.SfiSlot.{SfiSlot}

-- ==== Where a version lies.

-- the code region
abbrev pub code_of : SfiBounds → Span
code_of b = record { base = b.code_base; size = b.code_size }

-- where it lies, and its image's format
abbrev pub bounds_of : SfiBounds → Bounds
bounds_of b = record {
  format = format_numbered b.format;
  code_base = b.code_base;
  code_size = b.code_size;
  data_base = b.data_base;
  data_size = b.data_size;
}

-- no region or guard zone of one meets one of the other, nor a zone at zero of the other
abbrev pub LieApart : SfiBounds → SfiBounds → Type 0
LieApart one other = AreBoundsApart (bounds_of one) (bounds_of other)

-- the bytes of a unit of code, a bundle or a word; of a number that no format has, a bundle's, since at
-- its multiples a unit begins in each format
abbrev pub unit_of : ℕ → ℕ
unit_of number =
    if (number == 3) || (number == 4) then unit (format_numbered number) else bundle_size

-- ==== States of a version.

abbrev pub empty : ℕ
empty = 0

abbrev pub receiving : ℕ
receiving = 1

abbrev pub accepted_state : ℕ
accepted_state = 2

abbrev pub on_trial : ℕ
on_trial = 3

abbrev pub good : ℕ
good = 4

-- its image was accepted, and the version isn't dropped: it may run, now or later
abbrev pub IsKept : SfiVersion → Type 0
IsKept v = accepted_state ≤ v.state

-- one of the slot's two versions
abbrev pub IsVersionOf : SfiVersion → SfiSlot → Type 0
IsVersionOf v s = (v ≡ s.current) ⊎ (v ≡ s.other)

-- ==== What may be entered.

-- The current version may be entered at the address: it is on trial or good, all of its code has
-- been written, and a unit of its format begins there.
pub record MayEnter (s : SfiSlot) (pc : ℕ) : Type 0 where
  pub runs : on_trial ≤ s.current.state
  pub whole : s.written ≡ s.current.bounds.code_size
  pub inside : Holds (code_of s.current.bounds) pc
  pub unit : (pc - s.current.bounds.code_base) % unit_of s.current.bounds.format ≡ 0

-- ==== Which bounds fit beside the other slots.

-- the version isn't kept, or lies apart
abbrev pub IsApartFrom : SfiBounds → SfiVersion → Type 0
IsApartFrom b v = IsKept v → LieApart b v.bounds

-- both versions of the slot
abbrev pub IsApartFromSlot : SfiBounds → SfiSlot → Type 0
IsApartFromSlot b s = IsApartFrom b s.current × IsApartFrom b s.other

-- each slot but that of the number
abbrev pub IsApartFromOthers : SfiBounds → List SfiSlot → ℕ → Type 0
IsApartFromOthers b slots number =
    (i : ℕ) (s : SfiSlot) → slice_get slots i ≡ Some s → i ≢ number → IsApartFromSlot b s

-- ==== What a call makes of its slot; none where it isn't due.

-- a version of which nothing was accepted
abbrev pub new_version : ℕ → ℕ → SfiVersion
new_version state memory = record {
  state = state;
  number = 0;
  turns = 0;
  memory = memory;
  bounds = record { format = 0; code_base = 0; code_size = 0; data_base = 0; data_size = 0 };
}

-- a slot with nothing
abbrev pub empty_slot : SfiSlot
empty_slot = record {
  current = new_version empty 0;
  other = new_version empty 1;
  updates = 0;
  written = 0;
}

-- an update begins, unless the current version is on trial: the other version is dropped
abbrev pub begun : SfiSlot → Option SfiSlot
begun s =
    if s.current.state == on_trial then None
    else Some (record s { other = new_version receiving s.other.memory })

-- the version that was accepted last, with these bounds
abbrev pub new_accepted : SfiBounds → SfiSlot → SfiVersion
new_accepted b s = record {
  state = accepted_state;
  number = s.updates + 1;
  turns = 0;
  memory = s.other.memory;
  bounds = b;
}

-- an update that was being received is accepted, where its bounds fit, and there is a number for it
abbrev pub accepted : Bool → SfiBounds → SfiSlot → Option SfiSlot
accepted fits b s =
    if s.updates == 2 ^ 32 - 1 then None
    else if fits && (s.other.state == receiving)
    then Some (record s { other = new_accepted b s; updates = s.updates + 1 })
    else None

-- an update that was being received is refused
abbrev pub refused : SfiSlot → Option SfiSlot
refused s =
    if s.other.state == receiving then Some (record s { other = new_version empty s.other.memory })
    else None

-- another version is current, of which nothing is written
abbrev pub with_versions : SfiSlot → SfiVersion → SfiVersion → SfiSlot
with_versions s current other = record {
  current = current;
  other = other;
  updates = s.updates;
  written = 0;
}

-- an accepted update becomes the current version, on trial for so many turns
abbrev pub tried : ℕ → SfiSlot → Option SfiSlot
tried turns s =
    if s.current.state == on_trial then None
    else if s.other.state == accepted_state
    then Some (with_versions s (record s.other { state = on_trial; turns = turns }) s.current)
    else None

-- the current version, which is on trial or good, is to be written anew
abbrev pub placing : SfiSlot → Option SfiSlot
placing s = if nat_lt s.current.state on_trial then None else Some (record s { written = 0 })

-- its next bytes are written, if it has so many
abbrev pub grown : ℕ → SfiSlot → Option SfiSlot
grown count s =
    if nat_lt s.current.state on_trial then None
    else if nat_lt s.current.bounds.code_size (s.written + count) then None
    else Some (record s { written = s.written + count })

-- a turn of a trial is used, where another one is left
abbrev pub turned : SfiSlot → Option SfiSlot
turned s =
    if nat_le s.current.turns 1 then None
    else if s.current.state == on_trial
    then Some (record s { current = record s.current { turns = s.current.turns - 1 } })
    else None

-- the version on trial has reported
abbrev pub confirmed : SfiSlot → Option SfiSlot
confirmed s =
    if s.current.state == on_trial then
    Some (record s { current = record s.current { state = good; turns = 0 } })
    else None

-- the version on trial is dropped, and the older one is current
abbrev pub rolled_back : SfiSlot → Option SfiSlot
rolled_back s =
    if s.current.state == on_trial
    then Some (with_versions s s.other (new_version empty s.current.memory))
    else None

-- both versions are dropped, where the current one is good
abbrev pub removed : SfiSlot → Option SfiSlot
removed s =
    if s.current.state == good
    then Some (with_versions s (new_version empty s.current.memory) (new_version empty s.other.memory))
    else None

-- ==== What it makes of all slots: the others stay.

-- what becomes of the slot of that number, if there is one
abbrev pub next_of : (SfiSlot → Option SfiSlot) → Option SfiSlot → Option SfiSlot
next_of change None = None
next_of change (Some s) = change s

-- the slots with that one changed, or as they were
abbrev pub with_next : List SfiSlot → ℕ → Option SfiSlot → List SfiSlot
with_next slots number None = slots
with_next slots number (Some s) = slice_set slots number s

-- the slots after a call
abbrev pub slots_after : (SfiSlot → Option SfiSlot) → List SfiSlot → ℕ → List SfiSlot
slots_after change slots number = with_next slots number (next_of change (slice_get slots number))
