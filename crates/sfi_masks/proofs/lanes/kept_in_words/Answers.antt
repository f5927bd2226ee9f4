use Rattle.std.proofs.Common.{ap, bit_and, slice_index}
use Rattle.sfi_masks.specs.declared.tables.TheConstants.{WORDS_EVEN, WORDS_ODD}
use Rattle.sfi_masks.specs.private.{kept_in_words}
use Rattle.sfi_masks.proofs.Vectors.{own, splat, zipped, chosen_of, same_lanes, by_low_nibble}
use Rattle.sfi_masks.proofs.lanes.kept_in_words.Goals as goal

pub look_up_lanes-requires : goal.look_up_lanes-requires
look_up_lanes-requires c i h = (by_low_nibble c.args.high c.fits-high.0).1 i h

pub look_up_lanes-requires-2 : goal.look_up_lanes-requires-2
look_up_lanes-requires-2 c i h = (by_low_nibble c.args.high c.fits-high.0).1 i h

pub returns : goal.returns
unfolding kept_in_words
returns c =
    let low = zipped bit_and c.args.low _ _ _ (own c.args.low c.fits-low.0) (splat 128) in
    let pair = zipped bit_and c.args.high _ _ _ (own c.args.high c.fits-high.0) (splat 15) in
    let odd = same_lanes _ _ (λ i. slice_index WORDS_ODD (bit_and (slice_index c.args.high i) 15)) c.look_up_lanes.ensures (λ i h. ap (λ n. slice_index WORDS_ODD n) (pair.lanes i h)) in
    let even = same_lanes _ _ (λ i. slice_index WORDS_EVEN (bit_and (slice_index c.args.high i) 15)) c.look_up_lanes-2.ensures (λ i h. ap (λ n. slice_index WORDS_EVEN n) (pair.lanes i h)) in
    chosen_of _ _ _ _ _ _ 128 low odd even
