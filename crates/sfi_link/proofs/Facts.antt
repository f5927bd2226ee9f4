-- What holds of what is linked: the laws, for proofs here and in the crates above.
use Rattle.sfi_link.specs.Laws.{LinkedIsClean, LinkedIsRight, OneLinking, MovableCodeIsPlaceless, MovableAddressesAddUp, MaskedAddressesAddUp, OneImage, OneFault, NeverBoth, ImageHasNoFault, SomeLinking, UsualPlacesAreFree}
use Rattle.sfi_link.proofs.LinkedClean as clean
use Rattle.sfi_link.proofs.Linking as linking
use Rattle.sfi_link.proofs.Moving as moving
use Rattle.sfi_link.proofs.OneLinking as one
use Rattle.sfi_link.proofs.Parts as parts
use Rattle.sfi_link.proofs.RunsAs as runs
use Rattle.sfi_link.proofs.SomeLinking as some
use Rattle.sfi_link.proofs.Usual as usual
use Rattle.sfi_link.specs.Standing.{LinkedRunsAs, LinkedImagesRunAs}

pub linked_is_clean : LinkedIsClean
linked_is_clean = clean.linked_is_clean

pub linked_is_right : LinkedIsRight
linked_is_right = parts.linked_is_right

pub one_linking : OneLinking
one_linking = λ given placed parts others a b. one.one_linking given 0 placed parts others a.each b.each

pub movable_code_is_placeless : MovableCodeIsPlaceless
movable_code_is_placeless = moving.placeless

pub movable_addresses_add_up : MovableAddressesAddUp
movable_addresses_add_up = moving.adds_up

pub masked_addresses_add_up : MaskedAddressesAddUp
masked_addresses_add_up = moving.masked_adds_up

pub one_image : OneImage
one_image = linking.one_bytes

pub one_fault : OneFault
one_fault = one.one_fault

pub never_both : NeverBoth
never_both = one.never_both

pub image_has_no_fault : ImageHasNoFault
image_has_no_fault = linking.never

pub some_linking : SomeLinking
some_linking = some.some_linking

pub usual_places_are_free : UsualPlacesAreFree
usual_places_are_free = usual.usual_places_are_free

pub linked_runs_as : LinkedRunsAs
linked_runs_as = runs.runs_as

pub linked_images_run_as : LinkedImagesRunAs
linked_images_run_as = runs.images_run_as
