use Rattle.sfi_rewrite.proofs.Prelude.{◌≡◌, ℕ, ◌<◌, length, get_or, IsLabelAt, AreFaultless, false}
use Rattle.sfi_rewrite.proofs.laid_items.lay_items.Given as goal

abbrev pub invariant-loop-item : goal.invariant-loop-item
invariant-loop-item l = record {
  faultless : AreFaultless false l.format l.item-index l.items l.code;
  count : length l.labels.items ≡ l.item-index;
  labels : (k : ℕ) → k < l.item-index → IsLabelAt false l.format l.items k (get_or l.labels.items k 0);
}
