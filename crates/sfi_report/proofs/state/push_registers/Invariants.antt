use Rattle.sfi_report.proofs.Prelude.{◌≡◌, ◌++◌, string_bytes, registers_text}
use Rattle.sfi_report.proofs.state.push_registers.Given as goal

-- the registers so far are written
abbrev pub invariant-loop-place : goal.invariant-loop-place
invariant-loop-place l = string_bytes l.out ≡ string_bytes l.fn.out ++ registers_text l.cpu l.place
