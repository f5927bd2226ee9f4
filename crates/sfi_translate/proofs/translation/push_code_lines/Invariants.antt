use Rattle.sfi_translate.proofs.Prelude.{◌-◌, length, string_bytes, view}
use Rattle.sfi_translate.proofs.Text.{IsWrittenTo}
use Rattle.sfi_translate.proofs.translation.push_code_lines.Given as goal

-- the units so far are written
abbrev pub invariant-loop-at : goal.invariant-loop-at
invariant-loop-at l = IsWrittenTo l.sandbox (view l.fn.format l.part) l.at (string_bytes l.fn.out) (string_bytes l.out)

abbrev pub decreases-loop-at : goal.decreases-loop-at
decreases-loop-at l = length l.part.code.now - l.at
