use Rattle.sfi_io.proofs.Prelude.{◌∙◌, ◌+◌, ◌*◌, ◌%◌, arith}
use Rattle.std.proofs.Common.{◌/◌, ◌^◌, Fits, w8}
use Rattle.std.proofs.lemmas.Simd.{below_from_Fits, Each1-get_or}
use Rattle.sfi_io.proofs.Digits.{splat, zipped, paired, joins}
use Rattle.sfi_io.proofs.hexadecimal.joined_digits.Goals as goal

pub returns-clause-each : goal.returns-clause-each
returns-clause-each c k lt high low =
    let v = c.args.values in
    let fits = c.fits-values.1 in
    let pairs = paired v c.requires (below_from_Fits w8 v fits) in
    let products = zipped 32 (λ a b. (a * b) % 65536) _ _ _ _ pairs (splat 32 4097) in
    let uppers = zipped 32 (λ a b. a / 2 ^ b) _ _ _ _ products (splat 32 8) in
    (zipped 32 (λ a b. (a + b) % 256) _ _ _ _ uppers (splat 32 16)).lanes k lt
    ∙ joins _ _ (Each1-get_or (Fits w8) v (2 * k) 0 (omega (arith, lt, c.requires)) fits).fits (Each1-get_or (Fits w8) v (2 * k + 1) 0 (omega (arith, lt, c.requires)) fits).fits high low
