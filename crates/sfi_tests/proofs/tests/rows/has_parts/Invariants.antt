use denote.Shadow.{shadow}
use denote.Text.{Utf8}
use Rattle.sfi_tests.proofs.tests.rows.has_parts.Given as goal

abbrev pub invariant-loop-part : goal.invariant-loop-part
invariant-loop-part l = shadow (Utf8 l.rest)
