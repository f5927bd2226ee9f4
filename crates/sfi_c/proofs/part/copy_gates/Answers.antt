use Rattle.sfi_c.proofs.Prelude.{◌≡◌, length, arith, ap, sym, ◌∙◌, min, get_or_from_slice_get, slice_get_within}
use Rattle.sfi_image.specs.declared.fields.Fields.{Fields}
use Rattle.sfi_c.specs.Parts.{told_gate}
use Rattle.sfi_c.proofs.Writing.{written_one_more, all_written, with_is}
use Rattle.sfi_c.proofs.part.copy_gates.Goals as goal

pub loop-i-preserved : goal.loop-i-preserved
loop-i-preserved c = λ p h.
    let g = c.in-Some.gate in
    let there = sym (c.in-Some.ensures p h) in
    written_one_more told_gate p.gates c.args.array.now c.loop-i.array c.loop-i.i c.gate_for_c.result g (slice_get_within p.gates c.loop-i.i g there) (omega arith) (c.loop-i.invariant p h)
    (c.gate_for_c.ensures ∙ ap told_gate (sym (get_or_from_slice_get p.gates c.loop-i.i g g there)))

pub returns : goal.returns
returns c = λ p h.
    let gates : c.args.view.now.fields.gate_count ≡ length p.gates = ap (λ (f : Fields). f.gate_count) h.fields_are in
    let all : c.loop-i.i ≡ min (length p.gates) (length c.args.array.now) = omega (arith, gates, c.min-count.ensures) in
    c.loop-i.invariant p h ∙ all_written told_gate p.gates c.args.array.now c.loop-i.i all ∙ sym (with_is told_gate p.gates c.args.array.now)
