use Rattle.sfi_c.proofs.Prelude.{◌≡◌, length, arith, ◌∙◌, ap, sym, min, get_or_from_slice_get, finding_for_c}
use Rattle.sfi_c.proofs.Writing.{written_one_more, all_written, with_is}
use Rattle.sfi_c.proofs.finding.write_findings.Goals as goal

pub loop-i-preserved : goal.loop-i-preserved
loop-i-preserved c =
    written_one_more finding_for_c c.args.found.now c.args.array.now c.loop-i.array c.loop-i.i c.from_finding.result c.in-Some.finding (omega arith) (omega arith) c.loop-i.invariant
    (c.from_finding.ensures ∙ ap finding_for_c (sym (get_or_from_slice_get c.args.found.now c.loop-i.i c.in-Some.finding c.in-Some.finding (sym c.in-Some.ensures))))

pub returns : goal.returns
returns c =
    let all : c.loop-i.i ≡ min (length c.args.found.now) (length c.args.array.now) = omega (arith, c.min-count.ensures, c.count.ensures.value) in
    c.loop-i.invariant ∙ all_written finding_for_c c.args.found.now c.args.array.now c.loop-i.i all ∙ sym (with_is finding_for_c c.args.found.now c.args.array.now)
