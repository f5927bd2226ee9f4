use Rattle.sfi_report.proofs.Prelude.{◌≡◌, ◌++◌, take, string_bytes, flat_map}
use Rattle.sfi_report.specs.Listing.{hex_digits}
use Rattle.sfi_report.proofs.listing.push_unread_bytes.Given as goal

abbrev pub invariant-loop-byte : goal.invariant-loop-byte
invariant-loop-byte l =
    string_bytes l.out ≡ string_bytes l.initial.out ++ flat_map (hex_digits 2) (take l.byte-index l.bytes)
