use Rattle.sfi_link.proofs.Prelude.{◌≡◌, ◌∙◌, sym, views}
use Rattle.sfi_image.specs.declared.fault.ImageFault.TheVariants.{Memory}
use Rattle.sfi_link.proofs.Linking.{linked_with_inits}
use Rattle.sfi_link.proofs.LinkedClean.{all_are_clean}
use Rattle.sfi_link.proofs.Parts.{linked_is_right}
use Rattle.sfi_link.proofs.linker.image_of.Goals as goal

pub returns-in-Ok : goal.returns-in-Ok
returns-in-Ok c =
    let parts = views c.format-format.result c.in_ok-parts.parts.items in
    let linked = (linked_with_inits c.args.places.now c.args.placed.now _ _ _ parts c.parts.ensures.parts c.requires.codes c.in_ok-parts.ensures).0 in
    record {
      parts = parts;
      linked = linked;
      image = rw c.deref.ensures.value at c.in-Ok.ensures.image;
      none_found = all_are_clean c.args.places.now 0 _ parts c.requires.inits.each linked.each;
    }

pub unreachable-requires : goal.unreachable-requires
unreachable-requires c =
    let parts = views c.format-format.result c.in_ok-parts.parts.items in
    let linked = linked_with_inits c.args.places.now c.args.placed.now _ _ _ parts c.parts.ensures.parts c.requires.codes c.in_ok-parts.ensures in
    let layout = linked_is_right c.args.places.now _ parts c.requires.inits linked.1 linked.0 in
    let memory : c.in-Err-Layout.field-0 ≡ Memory = (rw c.deref.ensures.value at c.in-Err-Layout.ensures.only_image) layout in
    let e = sym c.in-Err-Layout.field-0-is ∙ memory in
    cc
