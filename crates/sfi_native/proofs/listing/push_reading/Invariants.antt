use Rattle.std.proofs.Common.{◌-◌, length}
use Rattle.sfi_native.proofs.Listed.{Leads}
use Rattle.sfi_native.proofs.listing.push_reading.Given as goal

-- the lines so far lead to those of the longest reading
abbrev pub invariant-loop-place : goal.invariant-loop-place
invariant-loop-place l = Leads l.address l.bytes l.place l.fn.out.items l.out.items

abbrev pub decreases-loop-place : goal.decreases-loop-place
decreases-loop-place l = length l.bytes - l.place
