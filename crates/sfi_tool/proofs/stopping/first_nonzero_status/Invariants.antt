use Rattle.sfi_tool.proofs.Prelude.{◌≡◌, slots_of}
use Rattle.sfi_tool.specs.Executing.{status_among}
use Rattle.sfi_tool.proofs.stopping.first_nonzero_status.Given as goal

abbrev pub invariant-loop-sandbox : goal.invariant-loop-sandbox
invariant-loop-sandbox g l = l.first ≡ status_among l.sandbox (slots_of l.world)
