use Rattle.std.proofs.Common.{◌≡◌, ◌≢◌, ◌<◌, ℕ, slice_get, Some}
use Rattle.sfi_slots.specs.declared.slot.SfiSlot.{SfiSlot}
use Rattle.sfi_slots.specs.Slots.{IsApartFromSlot}
use Rattle.sfi_slots.proofs.slot.is_apart_from_others.Given as goal

-- the bounds are apart from the slots so far
abbrev pub invariant-loop-i : goal.invariant-loop-i
invariant-loop-i l = (j : ℕ) (s : SfiSlot) → j < l.i → slice_get l.slots j ≡ Some s → j ≢ l.number → IsApartFromSlot l.bounds s
