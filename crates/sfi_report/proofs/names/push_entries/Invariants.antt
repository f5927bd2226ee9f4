use Rattle.sfi_report.proofs.Prelude.{length, string_bytes}
use Rattle.sfi_report.proofs.Lines.{AreWrittenTo}
use Rattle.sfi_report.proofs.names.push_entries.Given as goal

abbrev pub invariant-loop-entry : goal.invariant-loop-entry
invariant-loop-entry l = AreWrittenTo l.kind l.bytes l.rest (string_bytes l.initial.out) (string_bytes l.out)

abbrev pub decreases-loop-entry : goal.decreases-loop-entry
decreases-loop-entry l = length l.rest
