use Rattle.sfi_io.proofs.Prelude.{◌∙◌, ◌+◌, ◌-◌, ◌%◌, ap, sym, arith, slice_index, nat_lt, ℕ, Some}
use Rattle.std.proofs.Common.{bit_or, Fits, w8}
use Rattle.std.proofs.lemmas.Simd.{Each1-get_or}
use Rattle.sfi_io.proofs.Digits.{value_is, own, splat, zipped, chosen}
use Rattle.sfi_io.proofs.hexadecimal.values_of.Goals as goal

abbrev added : ℕ → ℕ → ℕ
added a b = (a + b) % 256

abbrev wrapped : ℕ → ℕ → ℕ
wrapped a b = (a + (256 - b)) % 256

pub returns : goal.returns
returns c =
    let bytes = own 64 c.args.bytes c.fits-bytes.0 in
    let sums = zipped 64 added _ _ _ _ bytes (splat 64 198) in
    let larger = chosen 64 nat_lt _ _ _ _ _ _ _ _ sums (splat 64 6) (splat 64 6) sums in
    let figures = zipped 64 wrapped _ _ _ _ larger (splat 64 6) in
    let letters = zipped 64 added _ _ _ _ (zipped 64 bit_or _ _ _ _ (zipped 64 wrapped _ _ _ _ bytes (splat 64 1)) (splat 64 32)) (splat 64 154) in
    let all = chosen 64 nat_lt _ _ _ _ _ _ _ _ figures letters letters figures in
    record {
      size = all.count;
      each = λ k lt large.
          let is = all.lanes k lt in
          let fits = (Each1-get_or (Fits w8) c.args.bytes k 0 (omega (arith, lt, c.fits-bytes.0)) c.fits-bytes.1).fits in
          value_is (slice_index c.args.bytes k) fits (omega (arith, is, large)) ∙ ap (λ (n : ℕ). Some (n - 240)) (sym is);
    }
