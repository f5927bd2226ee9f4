use Rattle.sfi_report.proofs.Prelude.{◌≡◌, ◌++◌, take, string_bytes}
use Rattle.sfi_report.proofs.names.push_name_bytes.Given as goal

-- the bytes so far are written
abbrev pub invariant-loop-byte : goal.invariant-loop-byte
invariant-loop-byte l = string_bytes l.out ≡ string_bytes l.initial.out ++ take l.byte-index l.name
