-- The law of slots, for proofs in the crates above.
use Rattle.sfi_slots.specs.Laws.{EnteredIsAccepted}
use Rattle.sfi_slots.proofs.Events as events

pub entered_is_accepted : EnteredIsAccepted
entered_is_accepted = events.entered_is_accepted
