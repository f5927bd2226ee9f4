use Rattle.sfi_link.proofs.Prelude.{List, ◌++◌, ◌+◌, ◌<◌, ◌≡◌, ℕ, length, get_or, drop, ap, err_from_is_err_and, Encodes, BundleSlot, PlacedName, Bases, slots_of}
use Rattle.std.proofs.lemmas.List.{drop_all}
use Rattle.sfi_link.proofs.Pushed.{AreLeft, left_next, all_left, fewer, front_room, refused, all_written, All-before}
use Rattle.sfi_link.proofs.code.push_bundles.Goals as goal

-- the next bundle's slots are the first that are left
next : (at : Bases) (names : List PlacedName) (bundles : List (List BundleSlot)) (k : ℕ) (b : List BundleSlot) (old now : List ℕ) → k < length bundles → b ≡ get_or bundles k b
    → AreLeft at names (slots_of bundles) (slots_of (drop k bundles)) old now → AreLeft at names (slots_of bundles) (b ++ slots_of (drop (k + 1) bundles)) old now
next at names bundles k b old now lt is h = left_next (λ l. AreLeft at names (slots_of bundles) (slots_of l) old now) bundles k b lt is h

pub loop-bundle-init : goal.loop-bundle-init
loop-bundle-init c = all_left _ _ _ _ c.requires.encodes c.requires.room

pub push_linked_slots-requires-clause-encodes : goal.push_linked_slots-requires-clause-encodes
push_linked_slots-requires-clause-encodes c =
    rw c.slots.ensures (All-before Encodes c.bundle-item.result (slots_of (drop (c.loop-bundle.bundle-index + 1) c.args.bundles.now)) (next _ _ c.args.bundles.now _ c.bundle-item.result _ _ c.loop-bundle-test.true c.bundle-item.is c.loop-bundle.invariant).encodes)

pub push_linked_slots-requires-clause-room : goal.push_linked_slots-requires-clause-room
push_linked_slots-requires-clause-room c =
    rw c.slots.ensures (front_room _ _ _ c.bundle-item.result (slots_of (drop (c.loop-bundle.bundle-index + 1) c.args.bundles.now)) _ _ (next _ _ c.args.bundles.now _ c.bundle-item.result _ _ c.loop-bundle-test.true c.bundle-item.is c.loop-bundle.invariant))

pub returns-in_err-push_linked_slots : goal.returns-in_err-push_linked_slots
returns-in_err-push_linked_slots c =
    let p = err_from_is_err_and c.from_residual.result c.from_residual.ensures.1 in
    let left = next _ _ c.args.bundles.now _ c.bundle-item.result _ _ c.loop-bundle-test.true c.bundle-item.is c.loop-bundle.invariant in
    rw (p.1, p.2) (refused _ _ _ c.bundle-item.result (slots_of (drop (c.loop-bundle.bundle-index + 1) c.args.bundles.now)) _ _ c.in_err-push_linked_slots.field-0.0 left (rw c.slots.ensures at c.in_err-push_linked_slots.ensures))

pub loop-bundle-preserved : goal.loop-bundle-preserved
loop-bundle-preserved c =
    let left = next _ _ c.args.bundles.now _ c.bundle-item.result _ _ c.loop-bundle-test.true c.bundle-item.is c.loop-bundle.invariant in
    fewer _ _ _ c.bundle-item.result (slots_of (drop (c.loop-bundle.bundle-index + 1) c.args.bundles.now)) _ _ _ left (rw c.slots.ensures at c.in_ok-push_linked_slots.ensures)

pub returns : goal.returns
returns c = all_written _ _ _ _ _ _ (ap slots_of (drop_all c.loop-bundle.bundle-index c.args.bundles.now c.loop-bundle-test.false)) c.loop-bundle.invariant
