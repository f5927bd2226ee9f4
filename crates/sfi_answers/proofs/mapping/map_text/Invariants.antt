use Rattle.std.specs.Prelude.{string_bytes}
use Rattle.sfi_answers.proofs.Sources.{AreMapped}
use Rattle.sfi_answers.proofs.mapping.map_text.Given as goal

-- the sandboxes so far are mapped
abbrev pub invariant-loop-sandbox : goal.invariant-loop-sandbox
invariant-loop-sandbox l = AreMapped l.entries l.image l.sandbox (string_bytes l.text)
