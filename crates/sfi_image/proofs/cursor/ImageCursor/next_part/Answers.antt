use Rattle.sfi_image.proofs.Prelude.{◌≡◌, ◌∙◌, ℕ, ◌<◌, length, eqb, false, sym, arith, err_from_is_err_and, eqb-true, eq-eqb, after_parts}
use Rattle.std.proofs.lemmas.List.{nil_from_length}
use Rattle.sfi_image.proofs.CursorSteps.{before_part, image, trailing, one_passed, fewer_left}
use Rattle.sfi_image.proofs.cursor.ImageCursor.next_part.Goals as goal

not_eq_zero : (n : ℕ) → eqb n 0 ≡ false → 0 < n
not_eq_zero n e = grind (arith, eq-eqb n 0, e)

pub returns-then-is_empty-clause-end : goal.returns-then-is_empty-clause-end
returns-then-is_empty-clause-end c = λ bytes format n ps h.
    image bytes format n ps c.args.self.now h (sym (c.wants.ensures.want (after_parts format n ps) h.read.stands) ∙ c.in-End.is)
    (nil_from_length c.args.self.now.rest.now (eqb-true (length c.args.self.now.rest.now) 0 (sym c.is_empty.ensures ∙ c.if-is_empty.true)))

pub returns-in-End-clause-fault : goal.returns-in-End-clause-fault
returns-in-End-clause-fault c = λ bytes format n ps h.
    trailing bytes format n ps c.args.self.now h (sym (c.wants.ensures.want (after_parts format n ps) h.read.stands) ∙ c.in-End.is)
    (not_eq_zero (length c.args.self.now.rest.now) (sym c.is_empty.ensures ∙ c.if-is_empty.false))

pub take_part-requires : goal.take_part-requires
take_part-requires c =
    let r = c.requires in
    (r.0, r.1, r.2, r.3, before_part r.0 r.1 r.2 r.3 c.args.self.now r.4 (λ end. c.in_default.not-End (c.wants.ensures.want (after_parts r.1 r.2 r.3) r.4.read.stands ∙ end)))

pub returns-in_err-view-clause-fault : goal.returns-in_err-view-clause-fault
returns-in_err-view-clause-fault c =
    let p = err_from_is_err_and c.from_residual.result c.from_residual.ensures.1 in
    rw (p.1, p.2) (λ bytes format n ps h. c.in_err-view.ensures bytes format n ps (before_part bytes format n ps c.args.self.now h (λ end. c.in_default.not-End (c.wants.ensures.want (after_parts format n ps) h.read.stands ∙ end))))

pub returns-clause-part : goal.returns-clause-part
returns-clause-part c = λ bytes format n ps h.
    let t = c.in_ok-view.ensures bytes format n ps (before_part bytes format n ps c.args.self.now h (λ end. c.in_default.not-End (c.wants.ensures.want (after_parts format n ps) h.read.stands ∙ end))) in
    (t.0, t.2, one_passed bytes format n ps t.0 c.args.self.now c.take_part.new.self h t.1 t.3)

pub returns-clause-falls : goal.returns-clause-falls
returns-clause-falls c =
    let r = c.requires in
    let at = before_part r.0 r.1 r.2 r.3 c.args.self.now r.4 (λ end. c.in_default.not-End (c.wants.ensures.want (after_parts r.1 r.2 r.3) r.4.read.stands ∙ end)) in
    let t = c.in_ok-view.ensures r.0 r.1 r.2 r.3 at in
    fewer_left r.0 r.1 r.2 r.3 t.0 c.args.self.now c.take_part.new.self r.4 (one_passed r.0 r.1 r.2 r.3 t.0 c.args.self.now c.take_part.new.self r.4 t.1 t.3)
