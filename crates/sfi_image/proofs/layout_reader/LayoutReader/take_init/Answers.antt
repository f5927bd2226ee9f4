use Rattle.sfi_image.proofs.Prelude.{refl, arith}
use Rattle.sfi_image.proofs.Places.{init_next}
use Rattle.sfi_image.proofs.Steps.{init_leads}
use Rattle.sfi_image.proofs.layout_reader.LayoutReader.take_init.Goals as goal

pub overflow_cast-self : goal.overflow_cast-self
overflow_cast-self c =
    let at = init_next c.args.self.now c.requires.reader c.requires.next in
    let room = c.requires.room in
    omega (arith, at.few)

pub returns-clause-takes : goal.returns-clause-takes
returns-clause-takes c =
    λ x h. init_leads c.args.self.now _ x c.args.bytes.now h c.requires.next c.requires.len c.requires.room refl refl refl refl refl refl c.stage_after_init-self.ensures
