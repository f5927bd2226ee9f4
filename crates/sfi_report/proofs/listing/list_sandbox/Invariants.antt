use Rattle.sfi_report.proofs.Prelude.{◌≡◌, ◌++◌, take, string_bytes, flat_map, gate_line}
use Rattle.sfi_report.proofs.listing.list_sandbox.Given as goal

-- the gates so far are listed
abbrev pub invariant-loop-gate : goal.invariant-loop-gate
invariant-loop-gate l = string_bytes l.out ≡ string_bytes l.initial.out ++ flat_map gate_line (take l.gate-index l.gate-items)
