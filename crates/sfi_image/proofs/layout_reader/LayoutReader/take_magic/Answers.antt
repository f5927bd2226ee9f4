use Rattle.sfi_image.proofs.Prelude.{refl}
use Rattle.sfi_image.proofs.Standing.{magic_leads}
use Rattle.sfi_image.proofs.Steps.{magic_fault}
use Rattle.sfi_image.proofs.layout_reader.LayoutReader.take_magic.Goals as goal

pub returns-in_default-clause-takes : goal.returns-in_default-clause-takes
returns-in_default-clause-takes c = (refl, λ x h. magic_fault c.args.self.now x c.args.bytes.now h c.requires.next c.requires.len c.in_default.ensures.none)

pub returns-clause-takes : goal.returns-clause-takes
returns-clause-takes c =
    λ x h. magic_leads c.args.self.now _ x c.args.bytes.now c.in-Some.format h c.requires.next c.in-Some.ensures.found refl refl refl
