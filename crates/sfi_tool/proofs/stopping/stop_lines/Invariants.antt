use Rattle.sfi_tool.proofs.Prelude.{◌≡◌, string_bytes, slots_of}
use Rattle.sfi_tool.specs.Executing.{stop_lines}
use Rattle.sfi_tool.proofs.stopping.stop_lines.Given as goal

abbrev pub invariant-loop-sandbox : goal.invariant-loop-sandbox
invariant-loop-sandbox g l = string_bytes l.text ≡ stop_lines l.sandbox (slots_of l.world)
