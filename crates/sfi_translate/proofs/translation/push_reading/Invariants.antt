use Rattle.sfi_translate.proofs.Prelude.{◌-◌, length, string_bytes, IsReadingText}
use Rattle.sfi_report.proofs.Walks.{Leads}
use Rattle.sfi_translate.proofs.translation.push_reading.Given as goal

-- the lines so far lead to those of the longest reading
abbrev pub invariant-loop-at : goal.invariant-loop-at
invariant-loop-at l = Leads IsReadingText l.address l.bytes l.at (string_bytes l.fn.out) (string_bytes l.out)

abbrev pub decreases-loop-at : goal.decreases-loop-at
decreases-loop-at l = length l.bytes - l.at
