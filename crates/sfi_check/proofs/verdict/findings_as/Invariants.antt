use Rattle.sfi_check.proofs.Prelude.{take, views, AreImageFindings}
use Rattle.sfi_check.proofs.verdict.findings_as.Given as goal

-- the findings of the sandboxes so far
abbrev pub invariant-loop-sandbox : goal.invariant-loop-sandbox
invariant-loop-sandbox l = AreImageFindings (take l.sandbox (views l.format l.parts)) l.found.items
