use Rattle.sfi_report.proofs.Prelude.{◌-◌, length, string_bytes, IsUnitListing}
use Rattle.sfi_report.proofs.Walks.{Leads}
use Rattle.sfi_report.proofs.listing.list_unit.Given as goal

-- the lines so far lead to the unit's listing
abbrev pub invariant-loop-at : goal.invariant-loop-at
invariant-loop-at l = Leads IsUnitListing l.address l.bytes l.at (string_bytes l.fn.out) (string_bytes l.out)

abbrev pub decreases-loop-at : goal.decreases-loop-at
decreases-loop-at l = length l.bytes - l.at
