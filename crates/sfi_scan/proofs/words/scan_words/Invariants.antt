use Rattle.sfi_scan.proofs.Prelude.{◌-◌, ◌*◌, ◌≤◌, length}
use Rattle.sfi_rules.specs.words.Findings.{AreFoundInWords}
use Rattle.sfi_scan.proofs.words.scan_words.Given as goal

-- the findings of the first n words, two of each at most
abbrev pub invariant-loop-n : goal.invariant-loop-n
invariant-loop-n l = record {
  within : l.n ≤ 4;
  few : length l.found ≤ 2 * l.n;
  found : AreFoundInWords l.place l.fn.owed l.bytes l.n l.found l.next;
}

abbrev pub decreases-loop-n : goal.decreases-loop-n
decreases-loop-n l = 4 - l.n
