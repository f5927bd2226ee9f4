use Rattle.std.proofs.Common.{◌≡◌, ℕ, ◌<◌, Some}
use Rattle.sfi_native.specs.Registers.{assigned}
use Rattle.sfi_native.proofs.plan.Plan.has_before.Given as goal

abbrev pub invariant-loop-r : goal.invariant-loop-r
invariant-loop-r l = record { none : (s : ℕ) → s < l.r → assigned l.self s ≡ Some l.q → ⊥ }
