use Rattle.sfi_io.proofs.Prelude.{◌≡◌, ◌<◌, ◌+◌, ◌-◌, ◌*◌, ◌∙◌, ℕ, List, Some, ap, arith, sym, subst, take_all, slice_index, hex_digit_value, IsByteOf}
use Rattle.sfi_io.proofs.Digits.{byte_of_values}
use Rattle.sfi_io.proofs.hexadecimal.decode_block.Goals as goal

pub returns-clause-each : goal.returns-clause-each
returns-clause-each c k lt =
    let block = c.args.block.now in
    let values = c.values_of-values in
    let near : k < 32 = omega (arith, lt, c.pairs_before.ensures.most) in
    let high = c.pairs_before.ensures.digits (2 * k) (omega (arith, lt)) in
    let low = c.pairs_before.ensures.digits (2 * k + 1) (omega (arith, lt)) in
    let whole = take_all 64 block (omega (arith, c.requires.block)) in
    let first = subst (λ (l : List ℕ). hex_digit_value (slice_index l (2 * k)) ≡ Some (slice_index values.result (2 * k) - 240)) whole (values.ensures.each (2 * k) (omega (arith, near)) high) in
    let second = subst (λ (l : List ℕ). hex_digit_value (slice_index l (2 * k + 1)) ≡ Some (slice_index values.result (2 * k + 1) - 240)) whole (values.ensures.each (2 * k + 1) (omega (arith, near)) low) in
    let byte = byte_of_values _ _ _ _ (c.type_inv.block (2 * k)).fits (c.type_inv.block (2 * k + 1)).fits first second in
    let written = ap (λ (l : List ℕ). slice_index l k) c.copy_from_slice.ensures.after ∙ c.joined_digits.ensures.each k near high low in
    subst (λ (n : ℕ). IsByteOf (slice_index block (2 * k)) (slice_index block (2 * k + 1)) n) (sym written) byte
