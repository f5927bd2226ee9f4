use Rattle.sfi_io.proofs.Prelude.{◌≡◌, ◌≤◌, ◌+◌, length, drop, filter, is_kept}
use Rattle.sfi_io.proofs.hexadecimal.digits_in.Given as goal

abbrev pub invariant-loop-at : goal.invariant-loop-at
invariant-loop-at l = (l.count ≤ l.at) × (l.count + length (filter is_kept (drop l.at l.text)) ≡ length (filter is_kept l.text))
