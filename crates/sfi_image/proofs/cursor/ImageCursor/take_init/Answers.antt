use Rattle.sfi_image.proofs.Prelude.{[], arith, InInit}
use Rattle.sfi_image.proofs.CursorSteps.{at_front, some_init, init_read}
use Rattle.sfi_image.proofs.cursor.ImageCursor.take_init.Goals as goal

pub returns : goal.returns
returns c = λ bytes n ps gs code h.
    let f = c.args.fields.now in
    let some = some_init n ps f gs code (λ z. let no = c.if-fields-eq0.false in absurd (omega arith)) in
    init_read bytes n ps f gs code c.args.self.now c.take.new.self c.take.result (c.take.ensures bytes (InInit n ps f gs code []) (at_front some h))
