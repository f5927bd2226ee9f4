use Rattle.sfi_translate.proofs.Prelude.{◌≡◌, ◌++◌, take, string_bytes, flat_map}
use Rattle.sfi_translate.specs.Translation.{number_field}
use Rattle.sfi_translate.proofs.translation.push_data_line.Given as goal

-- the bytes so far are written
abbrev pub invariant-loop-byte : goal.invariant-loop-byte
invariant-loop-byte l =
    string_bytes l.out ≡ string_bytes l.initial.out ++ flat_map number_field (take l.byte-index l.bytes)
