use Rattle.std.proofs.Common.{◌<◌, IfSome}
use Rattle.sfi_native.proofs.uses.Uses.busiest.Given as goal

-- what was found is a register
abbrev pub invariant-loop-r : goal.invariant-loop-r
invariant-loop-r l = IfSome l.found (λ r. r < 32)
