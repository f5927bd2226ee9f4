use Rattle.sfi_image.proofs.Prelude.{◌≡◌, ◌-◌, length, map, take, slice_get, All, AreGateWords, code_span, AreGates}
use Rattle.sfi_image.proofs.layout.are_gates.Given as goal

abbrev pub invariant-loop-gate : goal.invariant-loop-gate
invariant-loop-gate l = record {
  last : l.last ≡ slice_get (map (λ g. g.address) (take l.gate-index l.gates)) (length (take l.gate-index l.gates) - 1);
  right : AreGates (code_span l.fields) (take l.gate-index l.gates);
  words : All AreGateWords (take l.gate-index l.gates);
}
