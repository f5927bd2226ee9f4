use Rattle.sfi_report.proofs.Prelude.{string_bytes, format_of, format_line}
use Rattle.sfi_report.proofs.Texts.{AreListedTo}
use Rattle.sfi_report.proofs.listing.listing_text.Given as goal

-- the sandboxes so far are listed
abbrev pub invariant-loop-sandbox : goal.invariant-loop-sandbox
invariant-loop-sandbox l = AreListedTo l.image l.sandbox (format_line (format_of l.image)) (string_bytes l.out)
