use Rattle.sfi_image.proofs.Prelude.{◌≡◌, ◌<◌, take, List, false, ℕ, eqb, sym, subst, arith, ◌∙◌, take_all, take-map, length-map, eq-eqb, Part, view, views, AreRight}
use Rattle.sfi_image.proofs.Formats.{views_of, views_have}
use Rattle.sfi_image.specs.Faults.{HasFault}
use Rattle.sfi_image.proofs.Tests.{two_pushed}
use Rattle.sfi_image.proofs.Refused.{StartRight, StartRight-push, start_right, wrong_part, map_at, map_more_at}
use Rattle.sfi_image.proofs.layout.check_layout.Goals as goal

not_eq_zero : (n : ℕ) → eqb n 0 ≡ false → 0 < n
not_eq_zero n e = grind (arith, eq-eqb n 0, e)

pub part_spans-requires-clause-apart : goal.part_spans-requires-clause-apart
part_spans-requires-clause-apart c = rw c.deref.ensures.value c.loop-part.invariant.apart

pub returns-in-Err-clause-wrong : goal.returns-in-Err-clause-wrong
returns-in-Err-clause-wrong c =
    let ps = c.args.parts.now in
    let i = c.loop-part.part-index in
    let same = length-map ps (view c.args.format) in
    let start = subst (λ (qs : List Part). StartRight qs c.loop-part.before.items) (sym (take-map (view c.args.format) i ps)) c.loop-part.invariant in
    wrong_part (views c.args.format ps) i (view c.args.format c.part-item.result) c.loop-part.before.items c.in-Err.fault (omega arith) (omega arith) (omega arith)
    (map_at (view c.args.format) ps i c.part-item.result c.part-item.is) start
    (subst (λ (qs : List Part). HasFault qs (view c.args.format c.part-item.result) c.in-Err.fault) (sym (take-map (view c.args.format) i ps))
    (c.in-Err.ensures.fault (views c.args.format (take i ps)) (views_have c.args.format (take i ps)) (c.deref.ensures.value ∙ c.loop-part.invariant.spans_are)))

pub loop-part-preserved : goal.loop-part-preserved
loop-part-preserved c =
    let before = take c.loop-part.part-index c.args.parts.now in
    let fits = c.in-Ok.ensures.fits (views c.args.format before) (views_have c.args.format before) (c.deref.ensures.value ∙ c.loop-part.invariant.spans_are) in
    let spans_are = two_pushed c.loop-part.before.items _ _ _ _ _ c.in_ok-push.ensures.items c.in_ok-push-2.ensures.items fits.own_are in
    rw (map_more_at (view c.args.format) c.args.parts.now c.loop-part.part-index c.part-item.result c.loop-part-test.true c.part-item.is, spans_are)
    (StartRight-push _ _ _ c.loop-part.invariant fits.right fits.lies)

pub returns-clause-right : goal.returns-clause-right
returns-clause-right c =
    let ps = c.args.parts.now in
    let whole : take c.loop-part.part-index ps ≡ ps = take_all c.loop-part.part-index ps (omega arith) in
    let same = length-map ps (view c.args.format) in
    record {
      at_least_one = (let some = not_eq_zero _ (sym c.is_empty.ensures ∙ c.if-is_empty.false) in omega arith);
      at_most = omega arith;
      one_format = views_of c.args.format c.args.parts.now;
      right = subst (λ qs. AreRight (views c.args.format qs)) whole (start_right _ _ c.loop-part.invariant);
    }
