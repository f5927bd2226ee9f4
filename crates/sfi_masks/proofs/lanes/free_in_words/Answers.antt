use Rattle.std.proofs.Common.{◌≡◌, ℕ, List, ap, ap₂, ◌∙◌, sym, bit_and, slice_index}
use Rattle.sfi_masks.specs.declared.tables.TheConstants.{ON_EVEN}
use Rattle.sfi_masks.specs.private.{free_in_words, on_odd}
use Rattle.sfi_masks.proofs.Vectors.{own, splat, zipped, chosen_of, rotated, same_lanes, by_low_nibble}
use Rattle.sfi_masks.proofs.lanes.free_in_words.Goals as goal
use Rattle.sfi_masks.proofs.lanes.free_in_words.Goals.{then-single, else-single}

on_odd_is : (c : goal.After-look_up_lanes-2) → c.if-single.on_odd ≡ on_odd c.args.single
on_odd_is c = elim c.if-single.branch [
  | then-single w ↦ w.on_odd-is ∙ ap on_odd (sym w.if-single.true)
  | else-single w ↦ w.on_odd-is ∙ ap on_odd (sym w.if-single.false)
]

pub look_up_lanes-requires : goal.look_up_lanes-requires
look_up_lanes-requires c i h = (by_low_nibble c.args.low c.fits-low.0).1 i h

pub look_up_lanes-requires-2 : goal.look_up_lanes-requires-2
look_up_lanes-requires-2 c i h = (by_low_nibble c.args.low c.fits-low.0).1 i h

pub returns : goal.returns
unfolding free_in_words
returns c =
    let pair = zipped bit_and c.args.low _ _ _ (own c.args.low c.fits-low.0) (splat 15) in
    let high = zipped bit_and c.args.high _ _ _ (own c.args.high c.fits-high.0) (splat 128) in
    let odd = same_lanes _ _ (λ i. slice_index (on_odd c.args.single) (bit_and (slice_index c.args.low i) 15)) c.look_up_lanes.ensures (λ i h. ap₂ (λ (table : List ℕ) (n : ℕ). slice_index table n) (on_odd_is c) (pair.lanes i h)) in
    let even = same_lanes _ _ (λ i. slice_index ON_EVEN (bit_and (slice_index c.args.low i) 15)) c.look_up_lanes-2.ensures (λ i h. ap (λ n. slice_index ON_EVEN n) (pair.lanes i h)) in
    chosen_of _ _ _ _ _ _ 128 high (rotated _ _ odd) (rotated _ _ even)
