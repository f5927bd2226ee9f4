use Rattle.sfi_image.proofs.Prelude.{◌≡◌, ◌++◌, take, flat_map, gate}
use Rattle.sfi_image.proofs.writing.push_gates.Given as goal

abbrev pub invariant-loop-one : goal.invariant-loop-one
invariant-loop-one l = l.bytes.items ≡ l.initial.bytes.items ++ flat_map gate (take l.one-index l.gates)
