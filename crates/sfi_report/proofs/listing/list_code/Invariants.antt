use Rattle.sfi_report.proofs.Prelude.{◌-◌, length, string_bytes, view}
use Rattle.sfi_report.proofs.Texts.{IsListedTo}
use Rattle.sfi_report.proofs.listing.list_code.Given as goal

-- the units so far are listed
abbrev pub invariant-loop-at : goal.invariant-loop-at
invariant-loop-at l = IsListedTo (view l.fn.format l.part) l.at (string_bytes l.fn.out) (string_bytes l.out)

abbrev pub decreases-loop-at : goal.decreases-loop-at
decreases-loop-at l = length l.part.code.now - l.at
