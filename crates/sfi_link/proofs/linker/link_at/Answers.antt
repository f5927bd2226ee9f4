use Rattle.sfi_link.proofs.Linking.{only_image, only_fault, is_build}
use Rattle.sfi_link.proofs.Usual.{never_place}
use Rattle.sfi_link.proofs.linker.link_at.Goals as goal

pub returns-clause-only_image : goal.returns-clause-only_image
returns-clause-only_image c = only_image _ _ _ c.linked_image.ensures.links

pub returns-clause-only_fault : goal.returns-clause-only_fault
returns-clause-only_fault c = only_fault _ _ _ c.linked_image.ensures.links

pub returns-clause-build : goal.returns-clause-build
returns-clause-build c = is_build _ _ _ c.linked_image.ensures.links

pub returns-clause-no_place : goal.returns-clause-no_place
returns-clause-no_place c = never_place _ _ _ c.linked_image.ensures.placed c.linked_image.ensures.links
