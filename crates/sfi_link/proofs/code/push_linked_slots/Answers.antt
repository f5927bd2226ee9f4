use Rattle.sfi_link.proofs.Prelude.{List, [], ◌∷◌, ◌+◌, drop, err_from_is_err_and, BundleSlot, PlacedName, Bases, ℕ, ◌<◌, length, ◌≡◌, get_or}
use Rattle.std.proofs.lemmas.List.{drop_all}
use Rattle.sfi_link.proofs.Pushed.{AreLeft, left_next, all_left, fewer, front_room, slot_refused, all_written, one_written}
use Rattle.sfi_link.proofs.code.push_linked_slots.Goals as goal

-- the next slot is the first that is left
next : (at : Bases) (names : List PlacedName) (slots : List BundleSlot) (k : ℕ) (s : BundleSlot) (old now : List ℕ) → k < length slots → s ≡ get_or slots k s → AreLeft at names slots (drop k slots) old now → AreLeft at names slots (s ∷ drop (k + 1) slots) old now
next at names slots k s old now lt is h = left_next (λ l. AreLeft at names slots l old now) slots k s lt is h

pub loop-slot-init : goal.loop-slot-init
loop-slot-init c = all_left _ _ _ _ c.requires.encodes c.requires.room

pub push_slot-requires-clause-room : goal.push_slot-requires-clause-room
push_slot-requires-clause-room c = front_room _ _ _ [] _ _ _ c.loop-slot.invariant

pub returns-in_err-push_slot : goal.returns-in_err-push_slot
returns-in_err-push_slot c =
    let p = err_from_is_err_and c.from_residual.result c.from_residual.ensures.1 in
    let left = next _ _ _ _ c.slot-item.result _ _ c.loop-slot-test.true c.slot-item.is c.loop-slot.invariant in
    rw (p.1, p.2) (slot_refused _ _ _ _ _ _ _ c.in_err-push_slot.field-0.0 left c.in_err-push_slot.ensures)

pub loop-slot-preserved : goal.loop-slot-preserved
loop-slot-preserved c =
    let left = next _ _ _ _ c.slot-item.result _ _ c.loop-slot-test.true c.slot-item.is c.loop-slot.invariant in
    fewer _ _ _ (c.slot-item.result ∷ []) _ _ _ _ left (one_written _ _ _ _ _ c.in_ok-push_slot.ensures)

pub returns : goal.returns
returns c = all_written _ _ _ _ _ _ (drop_all c.loop-slot.slot-index c.args.slots.now c.loop-slot-test.false) c.loop-slot.invariant
