use Rattle.sfi_build.specs.Texts.{IsTextMap}
use Rattle.sfi_build.proofs.Building.{one_map, never_built, only_one, only_fault, never_place_built}
use Rattle.sfi_build.proofs.builder.names_at.Goals as goal

pub returns-clause-only_mapped : goal.returns-clause-only_mapped
returns-clause-only_mapped c =
    only_one (IsTextMap c.args.places.now c.args.text.now) _ _ (one_map _ _) (λ entries f is. never_built _ _ is.bytes f is.build) _ (c.map_from_text.ensures.mapped, c.map_from_text.ensures.fault)

pub returns-clause-only_fault : goal.returns-clause-only_fault
returns-clause-only_fault c =
    only_fault (IsTextMap c.args.places.now c.args.text.now) _ _ (λ entries f is. never_built _ _ is.bytes f is.build) _ (c.map_from_text.ensures.mapped, c.map_from_text.ensures.fault)

pub returns-clause-no_place : goal.returns-clause-no_place
returns-clause-no_place c = never_place_built _ _ _ c.map_from_text.ensures.fault
