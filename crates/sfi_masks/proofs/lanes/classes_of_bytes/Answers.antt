use Rattle.std.proofs.Common.{ap₂, slice_index, bit_and}
use Rattle.sfi_masks.proofs.Vectors.{zipped, same_lanes, by_low_nibble, by_high_nibble}
use Rattle.sfi_masks.proofs.lanes.classes_of_bytes.Goals as goal

pub look_up_lanes-requires : goal.look_up_lanes-requires
look_up_lanes-requires c i h = (by_low_nibble c.args.bytes c.fits-bytes.0).1 i h

pub look_up_lanes-requires-2 : goal.look_up_lanes-requires-2
look_up_lanes-requires-2 c i h = (by_high_nibble c.args.bytes c.fits-bytes).1 i h

pub returns : goal.returns
returns c =
    let low = by_low_nibble c.args.bytes c.fits-bytes.0 in
    let high = by_high_nibble c.args.bytes c.fits-bytes in
    same_lanes _ _ _ (zipped bit_and c.look_up_lanes.result c.look_up_lanes-2.result _ _ c.look_up_lanes.ensures c.look_up_lanes-2.ensures)
    (λ i h. ap₂ (λ a b. bit_and (slice_index c.args.table.low a) (slice_index c.args.table.high b)) (low.0.lanes i h) (high.0.lanes i h))
