use Rattle.std.proofs.Common.{ℕ, ◌<◌}
use Rattle.sfi_native.specs.private.{IsRightAt}
use Rattle.sfi_native.proofs.plan.Plan.is_right.Given as goal

abbrev pub invariant-loop-n : goal.invariant-loop-n
invariant-loop-n l = record { each : (r : ℕ) → r < l.n → IsRightAt l.self r }
