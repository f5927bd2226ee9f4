use Rattle.sfi_rewrite.proofs.Prelude.{◌≡◌, ◌%◌, ◌≤◌, take, size_of, built_code_most, bytes_of, with_slots}
use Rattle.sfi_rewrite.proofs.words.laid_items.fill_slots.Given as goal

abbrev pub invariant-loop-slot : goal.invariant-loop-slot
invariant-loop-slot l = record {
  so_far : l.code ≡ with_slots l.fn.code (take l.slot-index l.slots);
  aligned : size_of l.code.words % 4 ≡ 0;
  fits : bytes_of l.code ≤ built_code_most l.fn.format;
}
