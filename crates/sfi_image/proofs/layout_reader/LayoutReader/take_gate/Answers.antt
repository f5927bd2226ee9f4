use Rattle.sfi_image.proofs.Prelude.{◌∙◌, ◌-◌, ap, length, slice_get, refl, arith, List, ℕ, gate, stage_after_gates}
use Rattle.sfi_image.proofs.Places.{gate_next}
use Rattle.sfi_image.proofs.Steps.{gate_leads, gate_fault, no_rest}
use Rattle.sfi_image.proofs.layout_reader.LayoutReader.take_gate.Goals as goal

pub returns-then-not-is_next_gate-clause-takes : goal.returns-then-not-is_next_gate-clause-takes
returns-then-not-is_next_gate-clause-takes c =
    let e = no_rest c.args.bytes.now (gate c.gate_at.result.0) _ c.gate_at.ensures.front (omega (arith, c.gate_at.ensures.len, c.requires.len)) in
    let last = c.copied-last.ensures ∙ c.last.ensures.value ∙ ap (λ (l : List ℕ). slice_get l (length l - 1)) c.as_slice.ensures in
    (refl, λ x h. gate_fault c.args.self.now x c.args.bytes.now c.gate_at.result.0 _ h c.requires.next e c.gate_at.ensures.words last c.if-not-is_next_gate.ensures.next)

pub push-requires : goal.push-requires
push-requires c =
    let at = gate_next c.args.self.now c.requires.reader c.requires.next in
    omega (arith, at.more, at.few)

pub returns-clause-takes : goal.returns-clause-takes
returns-clause-takes c =
    let old = c.args.self.now in
    let e = no_rest c.args.bytes.now (gate c.gate_at.result.0) _ c.gate_at.ensures.front (omega (arith, c.gate_at.ensures.len, c.requires.len)) in
    let last = c.copied-last.ensures ∙ c.last.ensures.value ∙ ap (λ (l : List ℕ). slice_get l (length l - 1)) c.as_slice.ensures in
    let to = c.stage_after_gates-self.ensures ∙ ap (λ (j : ℕ). stage_after_gates j old.fields.gate_count) c.len.ensures.value in
    λ x h. gate_leads old _ x c.args.bytes.now c.gate_at.result.0 _ h c.requires.next e c.gate_at.ensures.words last c.if-not-is_next_gate.ensures.next refl refl refl refl c.push.ensures refl refl refl to
