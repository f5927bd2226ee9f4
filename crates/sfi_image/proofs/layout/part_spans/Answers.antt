use Rattle.sfi_image.proofs.Prelude.{◌∙◌, ◌≡◌, ap, sym, subst, List, err_from_is_err_and, view, Format, Fields, Part, AreOf}
use Rattle.sfi_image.specs.private.{capped_fields}
use Rattle.sfi_image.proofs.Tests.{two_spans}
use Rattle.sfi_image.proofs.Refused.{tests_failed, gates_failed, all_passed, same_spans}
use Rattle.sfi_image.proofs.layout.part_spans.Goals as goal

-- sandboxes of the part's format are of that of its fields
of_fields : (f : Fields) (p : Part) (ps : List Part) → f ≡ capped_fields p → AreOf p.format ps → AreOf f.format ps
of_fields f p ps is of = subst (λ (g : Format). AreOf g ps) (sym (ap (λ (x : Fields). x.format) is)) of

pub returns-in_err-own-clause-fault : goal.returns-in_err-own-clause-fault
returns-in_err-own-clause-fault c =
    let p = err_from_is_err_and c.from_residual.result c.from_residual.ensures.1 in
    λ ps of is. rw (p.1, p.2) (tests_failed ps _ _ _ c.fields_of_part-fields.ensures.value (c.in_err-own.ensures.fault ps (of_fields _ (view c.args.format c.args.part.now) ps c.fields_of_part-fields.ensures.value of) is))

pub returns-then-not-are_gates-clause-fault : goal.returns-then-not-are_gates-clause-fault
returns-then-not-are_gates-clause-fault c =
    λ ps of is. gates_failed ps _ _ _ c.fields_of_part-fields.ensures.value (c.in_ok-own.ensures.passed ps (of_fields _ (view c.args.format c.args.part.now) ps c.fields_of_part-fields.ensures.value of) is) c.deref.ensures.value c.if-not-are_gates.ensures.wrong

pub returns : goal.returns
returns c =
    let is = c.fields_of_part-fields.ensures.value in
    record {
      fits = λ ps of same.
          let passed = c.in_ok-own.ensures.passed ps (of_fields _ (view c.args.format c.args.part.now) ps is of) same in
          let both = all_passed ps _ _ _ is passed c.deref.ensures.value c.fields_of_part-fields.ensures.words c.if-not-are_gates.ensures.right c.if-not-are_gates.ensures.words in
          record {
            own_are = two_spans c.in_ok-own.own.code c.in_ok-own.own.guarded c.fields_of_part-fields.result c.in_ok-own.ensures.code c.in_ok-own.ensures.guarded
                ∙ same_spans (view c.args.format c.args.part.now) c.fields_of_part-fields.result is both.0;
            right = both.0;
            lies = both.1;
          };
      fault = λ ps of same. tt;
    }
