use Rattle.sfi_image.proofs.Prelude.{◌≡◌, ◌+◌, ◌-◌, length, drop, count_below}
use Rattle.sfi_image.proofs.layout_reader.passed_before.Given as goal

-- the addresses passed so far, and those below `end` among the rest, are as many as at first
abbrev pub invariant-loop-count : goal.invariant-loop-count
invariant-loop-count l = record {
  same : l.count + count_below l.end (drop l.count l.addresses) ≡ l.passed + count_below l.end (drop l.passed l.addresses);
}

abbrev pub decreases-loop-count : goal.decreases-loop-count
decreases-loop-count l = length l.addresses - l.count
