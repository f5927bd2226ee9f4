use Rattle.std.proofs.Common.{refl, arith}
use Rattle.sfi_link.proofs.right_places.is_right_place.Goals as goal

pub returns-then-not-is_region : goal.returns-then-not-is_region
returns-then-not-is_region c = (λ f. absurd cc, λ r. (rw (c.code_most.ensures, c.format.ensures) at c.if-not-is_region.ensures.1) r.code)

pub returns-then-not-is_region-2 : goal.returns-then-not-is_region-2
returns-then-not-is_region-2 c = (λ f. absurd cc, λ r. (rw (c.data_size-data_size.ensures, c.data_most.ensures, c.format-2.ensures) at c.if-not-is_region-2.ensures.1) r.«data»)

pub returns-then-not-has_guard_room : goal.returns-then-not-has_guard_room
returns-then-not-has_guard_room c = (λ f. absurd cc, λ r. (rw c.data_size-data_size.ensures at c.if-not-has_guard_room.ensures).1 r.guard_room)

pub returns : goal.returns
returns c =
    let code = rw (c.code_most.ensures, c.format.ensures) at (c.if-not-is_region.ensures.0 refl) in
    let region = rw (c.data_size-data_size.ensures, c.data_most.ensures, c.format-2.ensures) at (c.if-not-is_region-2.ensures.0 refl) in
    let room = rw c.data_size-data_size.ensures at (c.if-not-has_guard_room.ensures.0 refl) in
    let suits = rw (c.format-3.ensures, c.data_size-data_size.ensures) at c.suits_masks.ensures in (
      λ t. record { word = omega arith; code = code; «data» = region; one_bit = (suits.0 t).0; guard_room = room; zone_room = (suits.0 t).1 },
      λ r. suits.1 (r.one_bit, r.zone_room),
    )
