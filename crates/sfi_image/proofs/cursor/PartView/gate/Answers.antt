use Rattle.sfi_image.proofs.Prelude.{◌∙◌, length, Some, sym, ap, arith, Gate}
use Rattle.sfi_image.proofs.Fronts.{same_gate, length-gate}
use Rattle.sfi_image.proofs.CursorSteps.{gate_there}
use Rattle.sfi_image.proofs.cursor.PartView.gate.Goals as goal

pub slice_bounds-gate_at-count : goal.slice_bounds-gate_at-count
slice_bounds-gate_at-count c = (gate_there c.args.self.now c.requires.0 c.args.index c.requires.1 c.if-index-self.false).within

pub slice_bounds-gate_at-start : goal.slice_bounds-gate_at-start
slice_bounds-gate_at-start c = let inside = slice_bounds-gate_at-count c in omega arith

pub gate_at-requires : goal.gate_at-requires
gate_at-requires c =
    let t = gate_there c.args.self.now c.requires.0 c.args.index c.requires.1 c.if-index-self.false in
    omega (arith, ap length t.bytes_are, length-gate t.one t.after)

pub returns : goal.returns
returns c = λ p h.
    let t = gate_there c.args.self.now p c.args.index h c.if-index-self.false in
    ap (λ (g : Gate). Some g) (same_gate c.gate_at.result.0 t.one _ _ c.gate_at.ensures.words t.words (sym c.gate_at.ensures.front ∙ t.bytes_are)).0 ∙ sym t.one_is
