use Rattle.sfi_image.proofs.Prelude.{◌∙◌, refl, arith}
use Rattle.sfi_image.proofs.Places.{code_next}
use Rattle.sfi_image.proofs.Steps.{code_leads}
use Rattle.sfi_image.proofs.layout_reader.LayoutReader.take_code.Goals as goal

pub overflow_cast-read : goal.overflow_cast-read
overflow_cast-read c =
    let at = code_next c.args.self.now c.requires.reader c.requires.next in
    let len = c.requires.len in
    omega (arith, at.size, len.inside)

pub overflow_add-read : goal.overflow_add-read
overflow_add-read c =
    let at = code_next c.args.self.now c.requires.reader c.requires.next in
    let len = c.requires.len in
    omega (arith, at.size, at.inside, len.inside)

pub returns-clause-takes : goal.returns-clause-takes
returns-clause-takes c =
    λ x h. code_leads c.args.self.now _ x c.args.code.now h c.requires.next c.requires.len refl refl refl refl refl (c.passed_before-self.ensures ∙ rw (c.address_after-end.ensures, c.as_slice.ensures) refl) refl refl c.stage_after_code-self.ensures
