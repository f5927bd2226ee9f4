use Rattle.std.proofs.Common.{◌==◌, ap, ◌∙◌, bit_and, eqb, replicate, slice_index}
use Rattle.std.proofs.lemmas.Nat.{and_mask}
use lib.Lanes.{zip2}
use Rattle.sfi_masks.proofs.Vectors.{own, splat, zipped, compared_small, compared_bits}
use Rattle.sfi_masks.proofs.lanes.long_bits.Goals as goal

pub returns-clause-small : goal.returns-clause-small
returns-clause-small c =
    compared_small eqb (zip2 bit_and c.args.low (replicate 16 3)) 3 (zipped bit_and c.args.low _ _ _ (own c.args.low c.fits-low.0) (splat 3)).count

pub returns-clause-bits : goal.returns-clause-bits
returns-clause-bits c i h =
    let low = zipped bit_and c.args.low _ _ _ (own c.args.low c.fits-low.0) (splat 3) in
    compared_bits eqb (zip2 bit_and c.args.low (replicate 16 3)) 3 low.count i h
    ∙ ap (λ n. n == 3) (low.lanes i h ∙ and_mask (slice_index c.args.low i) 2)
