use Rattle.sfi_tool.proofs.Prelude.{◌≡◌, round_of}
use Rattle.sfi_tool.proofs.running.round_of.Given as goal

abbrev pub invariant-loop-sandbox : goal.invariant-loop-sandbox
invariant-loop-sandbox l = l.turns.items ≡ round_of l.quantum l.sandbox
