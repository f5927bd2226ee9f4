use Rattle.sfi_io.proofs.Prelude.{◌∙◌, sym, arith, slice_index}
use Rattle.std.proofs.Common.{bit_and, bit_xor, Fits, w8}
use Rattle.std.proofs.lemmas.Simd.{Each1-get_or}
use Rattle.sfi_io.proofs.Digits.{large_is, own, splat, zipped, no_bits, before_other}
use Rattle.sfi_io.proofs.hexadecimal.pairs_before.Goals as goal

pub returns-then-values-eq0-clause-digits : goal.returns-then-values-eq0-clause-digits
returns-then-values-eq0-clause-digits c k lt =
    let v = c.args.values in
    let bits = (zipped 64 bit_and _ _ _ _ (zipped 64 bit_xor _ _ _ _ (own 64 v c.requires) (splat 64 240)) (splat 64 240)).lanes k lt in
    let fits = (Each1-get_or (Fits w8) v k 0 (omega (arith, lt, c.requires)) c.fits-values.1).fits in
    large_is (slice_index v k) fits (sym bits ∙ no_bits _ 0 k c.if-values-eq0.true)

pub returns-clause-digits : goal.returns-clause-digits
returns-clause-digits c k lt = before_other c.args.values c.requires k (omega (arith, lt))
