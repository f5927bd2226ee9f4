use Rattle.sfi_image.proofs.Prelude.{◌≡◌, ◌-◌, List, length, map, get_or, slice_get, take, refl, sym, subst, Some, take_more, All-push, All, AreGateWords, Gate, code_span, AreGates}
use Rattle.sfi_image.proofs.Tests.{last_push}
use Rattle.sfi_image.proofs.Refused.{wrong_gate, other_gate}
use Rattle.sfi_image.proofs.layout.are_gates.Goals as goal

pub returns-then-not-is_next_gate-clause-wrong : goal.returns-then-not-is_next_gate-clause-wrong
returns-then-not-is_next_gate-clause-wrong c =
    let front = take c.loop-gate.gate-index c.args.gates.now in
    wrong_gate _ _ c.loop-gate.gate-index other_gate c.loop-gate-test.true c.loop-gate.invariant.right
    (λ are. let e = (c.if-not-is_next_gate.ensures.next front c.loop-gate.invariant.last c.loop-gate.invariant.right).1 are in absurd cc)

pub loop-gate-preserved : goal.loop-gate-preserved
loop-gate-preserved c =
    let front = take c.loop-gate.gate-index c.args.gates.now in
    let gate = get_or c.args.gates.now c.loop-gate.gate-index other_gate in
    let more = take_more c.args.gates.now c.loop-gate.gate-index other_gate c.loop-gate-test.true in
    record {
      last = subst (λ (gs : List Gate). Some gate.address ≡ slice_get (map (λ g. g.address) gs) (length gs - 1)) (sym more) (last_push front gate);
      right = subst (AreGates (code_span c.args.fields.now)) (sym more) ((c.if-not-is_next_gate.ensures.next front c.loop-gate.invariant.last c.loop-gate.invariant.right).0 refl);
      words = subst (All AreGateWords) (sym more) (All-push AreGateWords front gate c.loop-gate.invariant.words c.if-not-is_next_gate.ensures.words);
    }
