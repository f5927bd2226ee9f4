use Rattle.sfi_image.proofs.Prelude.{◌∙◌, ap, length, refl, sym, subst, arith, Some, All, AllPairs, fields, AreApart, IsBounded, length_push}
use Rattle.sfi_image.proofs.Tests.{two_pushed, two_spans}
use Rattle.sfi_image.proofs.Places.{fields_next}
use Rattle.sfi_image.proofs.Steps.{AfterSpans, fields_leads, fields_fault, no_rest}
use Rattle.sfi_image.proofs.layout_reader.LayoutReader.take_fields.Goals as goal

pub spans_after-requires-clause-bounded : goal.spans_after-requires-clause-bounded
spans_after-requires-clause-bounded c = subst (All IsBounded) (sym c.as_slice.ensures) (fields_next c.args.self.now c.requires.reader c.requires.next).bounded

pub spans_after-requires-clause-apart : goal.spans_after-requires-clause-apart
spans_after-requires-clause-apart c = subst (AllPairs AreApart) (sym c.as_slice.ensures) (fields_next c.args.self.now c.requires.reader c.requires.next).apart

pub returns-in-Err-clause-takes : goal.returns-in-Err-clause-takes
returns-in-Err-clause-takes c =
    let wrong : AfterSpans c.args.self.now c.fields_at.result.0 (Some c.in-Err.fault) = λ ps of is. c.in-Err.ensures.fault ps of (c.as_slice.ensures ∙ is) in (
      refl,
      λ x h. fields_fault c.args.self.now x c.args.bytes.now c.fields_at.result.0 c.in-Err.fault h c.requires.next
          (no_rest c.args.bytes.now (fields c.fields_at.result.0) _ c.fields_at.ensures.front (omega (arith, c.fields_at.ensures.len, c.requires.len))) c.fields_at.ensures.words c.fields_at.ensures.format wrong,
    )

pub push-requires : goal.push-requires
push-requires c = let room = (fields_next c.args.self.now c.requires.reader c.requires.next).room in omega arith

pub push-requires-2 : goal.push-requires-2
push-requires-2 c =
    let room = (fields_next c.args.self.now c.requires.reader c.requires.next).room in
    omega (arith, ap length c.push.ensures, length_push c.args.self.now.spans c.in-Ok.own.code)

pub overflow_add-self : goal.overflow_add-self
overflow_add-self c =
    let at = fields_next c.args.self.now c.requires.reader c.requires.next in
    omega (arith, at.more, at.few)

pub returns-clause-takes : goal.returns-clause-takes
returns-clause-takes c =
    let old = c.args.self.now in
    λ x h. fields_leads old _ x c.args.bytes.now c.fields_at.result.0 h c.requires.next
    (no_rest c.args.bytes.now (fields c.fields_at.result.0) _ c.fields_at.ensures.front (omega (arith, c.fields_at.ensures.len, c.requires.len))) c.fields_at.ensures.words c.fields_at.ensures.format
    (λ ps of is. c.in-Ok.ensures.passed ps of (c.as_slice.ensures ∙ is)) refl refl
    (two_pushed old.spans c.push.new.self c.push-2.new.self _ _ _ c.push.ensures c.push-2.ensures (two_spans _ _ c.fields_at.result.0 c.in-Ok.ensures.code c.in-Ok.ensures.guarded)) refl c.clear.ensures refl refl refl c.stage_after_gates-self.ensures
