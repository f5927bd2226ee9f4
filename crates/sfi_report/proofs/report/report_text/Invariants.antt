use Rattle.sfi_report.proofs.Prelude.{take, string_bytes, IsReport}
use Rattle.sfi_report.proofs.report.report_text.Given as goal

-- the findings so far are reported
abbrev pub invariant-loop-finding : goal.invariant-loop-finding
invariant-loop-finding l = IsReport l.image (take l.finding-index l.findings) (string_bytes l.out)
