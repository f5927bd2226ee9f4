use Rattle.sfi_image.proofs.Prelude.{[], InCode}
use Rattle.sfi_image.proofs.CursorSteps.{code_read, code_taken}
use Rattle.sfi_image.proofs.cursor.ImageCursor.take_code.Goals as goal

pub take-requires : goal.take-requires
take-requires c = let r = c.requires in code_taken c.args.self.now.reader r.1 r.2 c.args.fields.now r.3 r.4.stands

pub returns : goal.returns
returns c = λ bytes n ps gs h. let f = c.args.fields.now in code_read bytes n ps f gs c.args.self.now c.take.new.self c.take.result (c.take.ensures bytes (InCode n ps f gs []) h)
