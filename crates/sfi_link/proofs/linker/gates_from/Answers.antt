use Rattle.sfi_link.proofs.Prelude.{◌++◌, [], ◌∷◌, ◌+◌, ◌*◌, drop, get_or, ap, sym, append_assoc, ◌∙◌, gates_from}
use Rattle.sfi_source.specs.declared.item.SourceGate.{SourceGate}
use Rattle.sfi_link.proofs.Linking.{gates_next}
use Rattle.sfi_link.proofs.linker.gates_from.Goals as goal

pub loop-k-preserved : goal.loop-k-preserved
loop-k-preserved c =
    let k = c.loop-k.k in
    let other : SourceGate = record { name = 0; service = 0 } in
    let rest = gates_from (c.args.address + 16 * (k + 1)) (drop (k + 1) c.args.gates.now) in
    ap (λ l. l ++ rest) c.in_ok-push.ensures.items ∙ append_assoc c.loop-k.listed.items (record { address = c.args.address + 16 * k; service = (get_or c.args.gates.now k other).service } ∷ []) rest
    ∙ ap (λ l. c.loop-k.listed.items ++ l) (sym (gates_next c.args.address c.args.gates.now k other c.loop-k-test.true)) ∙ c.loop-k.invariant
