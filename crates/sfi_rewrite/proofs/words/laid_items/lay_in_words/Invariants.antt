use Rattle.sfi_rewrite.proofs.Prelude.{◌≡◌, ℕ, ◌%◌, ◌<◌, ◌≤◌, length, take, get_or, All, size_of, IsPermitted, built_code_most, bytes_of, AreOfFirst, true, IsLabelAt}
use Rattle.sfi_rewrite.proofs.words.laid_items.lay_in_words.Given as goal

abbrev pub invariant-loop-number : goal.invariant-loop-number
invariant-loop-number l = record {
  within : l.number ≤ length l.items;
  permitted : All (IsPermitted l.format) (take l.number l.items);
  first : AreOfFirst l.format l.number l.items l.code;
  aligned : size_of l.code.words % 4 ≡ 0;
  fits : bytes_of l.code ≤ built_code_most l.format;
  count : length l.labels.items ≡ l.number;
  labels : (k : ℕ) → k < l.number → IsLabelAt true l.format l.items k (get_or l.labels.items k 0);
}
