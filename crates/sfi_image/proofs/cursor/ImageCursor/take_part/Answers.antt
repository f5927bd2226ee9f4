use Rattle.sfi_image.proofs.Prelude.{[], ◌∷◌, ◌++◌, refl, subst, err_from_is_err_and, Format, part_of, after_parts}
use Rattle.sfi_image.specs.Keeping.{HasRead}
use Rattle.sfi_image.proofs.CursorSteps.{viewed}
use Rattle.sfi_image.proofs.cursor.ImageCursor.take_part.Goals as goal

pub returns-in_err-fields : goal.returns-in_err-fields
returns-in_err-fields c =
    let p = err_from_is_err_and c.from_residual.result c.from_residual.ensures.1 in
    λ bytes format n ps h. rw (p.1, p.2) (c.in_err-fields.ensures bytes format n ps h)

pub returns-in_err-gates : goal.returns-in_err-gates
returns-in_err-gates c =
    let p = err_from_is_err_and c.from_residual-in_err-gates.result c.from_residual-in_err-gates.ensures.1 in
    λ bytes format n ps h. rw (p.1, p.2) (c.in_err-gates.ensures bytes n ps (c.in_ok-fields.ensures bytes format n ps h).1)

pub take_code-requires : goal.take_code-requires
take_code-requires c =
    let r = c.requires in
    let gates = c.in_ok-gates.ensures r.0 r.2 r.3 (c.in_ok-fields.ensures r.0 r.1 r.2 r.3 r.4).1 in
    (r.0, r.2, r.3, gates.0, gates.2)

pub returns-in_err-code : goal.returns-in_err-code
returns-in_err-code c =
    let p = err_from_is_err_and c.from_residual-in_err-code.result c.from_residual-in_err-code.ensures.1 in
    λ bytes format n ps h.
    let gates = c.in_ok-gates.ensures bytes n ps (c.in_ok-fields.ensures bytes format n ps h).1 in
    rw (p.1, p.2) (c.in_err-code.ensures bytes n ps gates.0 gates.2)

pub take_init-requires : goal.take_init-requires
take_init-requires c =
    let r = c.requires in
    let gates = c.in_ok-gates.ensures r.0 r.2 r.3 (c.in_ok-fields.ensures r.0 r.1 r.2 r.3 r.4).1 in
    let code = c.in_ok-code.ensures r.0 r.2 r.3 gates.0 gates.2 in
    (r.0, r.2, r.3, gates.0, c.in_ok-code.code.now, code.1)

pub returns-in_err-init : goal.returns-in_err-init
returns-in_err-init c =
    let p = err_from_is_err_and c.from_residual-in_err-init.result c.from_residual-in_err-init.ensures.1 in
    λ bytes format n ps h.
    let gates = c.in_ok-gates.ensures bytes n ps (c.in_ok-fields.ensures bytes format n ps h).1 in
    let code = c.in_ok-code.ensures bytes n ps gates.0 gates.2 in
    rw (p.1, p.2) (c.in_err-init.ensures bytes n ps gates.0 c.in_ok-code.code.now code.1)

pub returns : goal.returns
returns c = λ bytes format n ps h.
    let f = c.in_ok-fields.fields in
    let fields = c.in_ok-fields.ensures bytes format n ps h in
    let gates = c.in_ok-gates.ensures bytes n ps fields.1 in
    let code = c.in_ok-code.ensures bytes n ps gates.0 gates.2 in
    let init = c.in_ok-init.ensures bytes n ps gates.0 c.in_ok-code.code.now code.1 in
    let p = part_of f gates.0 c.in_ok-code.code.now c.in_ok-init.init.now in (
      p,
      fields.0,
      viewed f gates.0 (record { fields = f; gates = c.in_ok-gates.gates; code = c.in_ok-code.code; init = c.in_ok-init.init }) refl gates.1 gates.2.stands.right.1 code.0 init.0 gates.2.stands.right.0.gate_words,
      subst (λ (g : Format). HasRead bytes (after_parts g n (ps ++ p ∷ [])) c.take_init.new.self) fields.0 init.1,
    )
