use Rattle.sfi_rewrite.proofs.Prelude.{refl, All-push, IsPlacedPart, err_from_is_err_and}
use Rattle.sfi_rewrite.proofs.Sources.{source_fault, parts_push}
use Rattle.sfi_rewrite.proofs.parts.place_parts.Goals as goal

pub returns-in_err-place_part-clause-refused : goal.returns-in_err-place_part-clause-refused
returns-in_err-place_part-clause-refused c =
    let p = err_from_is_err_and c.from_residual.result c.from_residual.ensures.1 in
    rw (p.1, p.2)
    (source_fault c.args.parts.now c.loop-number.number c.loop-number.number c.index-parts-number.result c.loop-number.placed.items c.in_err-place_part.field-0.0
    c.loop-number-test.true c.index-parts-number.is c.loop-number.invariant.rewritten refl c.in_err-place_part.ensures.refused)

pub loop-number-preserved : goal.loop-number-preserved
loop-number-preserved c = record {
  rewritten =
      parts_push c.args.parts.now c.loop-number.number c.index-parts-number.result c.loop-number.placed.items c.push.new.self.items c.in_ok-place_part.field-0
      c.loop-number-test.true c.index-parts-number.is c.loop-number.invariant.rewritten c.in_ok-place_part.ensures.rewritten c.in_ok-push.ensures.items;
  right = rw (c.in_ok-push.ensures.items) (All-push IsPlacedPart c.loop-number.placed.items c.in_ok-place_part.field-0 c.loop-number.invariant.right c.in_ok-place_part.ensures.right);
}
