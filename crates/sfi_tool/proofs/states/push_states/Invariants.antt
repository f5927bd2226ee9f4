use Rattle.sfi_tool.proofs.Prelude.{string_bytes, slots_of, views, AreStates, Adds}
use Rattle.sfi_formats.specs.declared.format.Format.{Format}
use Rattle.sfi_tool.proofs.states.push_states.Given as goal

-- the first sandboxes are told of
abbrev pub invariant-loop-sandbox : goal.invariant-loop-sandbox
invariant-loop-sandbox g l =
    (format : Format) → Adds (string_bytes l.fn.out) (string_bytes l.out) (AreStates l.sandbox (views format l.parts) (slots_of l.world))
